use Rattle.test_uses.proofs.ReplacedParts.{part_alone}
use Rattle.test_uses.proofs.lossy_chunks.texts_between_on_unix.Goals as goal

pub texts_between-requires : goal.texts_between-requires
texts_between-requires c b formed some uncovered =
    let one = part_alone c.characters.ensures.fits c.forms.ensures c.ill_formed_parts.ensures b _ (c.lossy_text.ensures.is_std b) some uncovered in
    (one.0, (c.lossy_texts.ensures.lossy_step b one.0 formed some uncovered one.1.0, one.1.1))
