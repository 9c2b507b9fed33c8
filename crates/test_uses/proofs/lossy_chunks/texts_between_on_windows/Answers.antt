use Rattle.std.proofs.Common.{refl}
use Rattle.test_uses.proofs.ReplacedParts.{surrogate_alone}
use Rattle.test_uses.proofs.lossy_chunks.texts_between_on_windows.Goals as goal

pub texts_between-requires : goal.texts_between-requires
texts_between-requires c b formed some uncovered =
    (3, (c.lossy_texts.ensures.lossy_step b 3 formed some uncovered refl, surrogate_alone c.characters.ensures.fits c.cuts.ensures.cut_prefix b formed uncovered))
