use Rattle.std.proofs.Common.{[], subst, append-nil}
use Rattle.wtf8_core.specs.Character.{WholeCharacter}
use Rattle.test_uses.proofs.LossyOfChunks.{begins}
use Rattle.test_uses.proofs.lossy_chunks.texts_between_on_wasm.Goals as goal

pub texts_between-requires : goal.texts_between-requires
texts_between-requires c b formed some uncovered =
    let w = begins c.forms.ensures b [] formed some in
    absurd (uncovered w.0 (subst (λ x. WholeCharacter x 0 w.0) (append-nil b) w.1))
