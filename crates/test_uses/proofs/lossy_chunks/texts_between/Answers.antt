use Rattle.std.proofs.Common.{sym, subst}
use Rattle.test_uses.specs.TextsBetween.{AreTextsBetween}
use Rattle.test_uses.proofs.LossyOfChunks as lemma
use Rattle.test_uses.proofs.lossy_chunks.texts_between.Goals as goal

pub returns : goal.returns
returns g c =
    let are = c.utf8_chunks.ensures.chunks in
    let formed = c.args.string.ok in
    let between = lemma.texts_between c.forms.ensures c.characters.ensures.fits c.boundaries.ensures.edges c.cuts.ensures.texts _ _ c.lossy_texts.ensures.lossy_text c.lossy_texts.ensures.lossy_prefix c.cuts-2.ensures.cut_suffix c.requires _ _ are (c.each_chunk.ensures _ formed _ are) formed in
    subst (AreTextsBetween _) (sym c.in_ok-to_string_lossy.ensures.text) between
