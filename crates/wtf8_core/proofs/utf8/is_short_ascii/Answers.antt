use Rattle.wtf8_core.proofs.Common.{length, arith, refl, subst, IsUtf8, take-length, cases_lt, ⊎_elim}
use Rattle.wtf8_core.proofs.lemmas.vectors.Windows.{ascii_at, ascii_is_utf8}
use Rattle.wtf8_core.proofs.utf8.is_short_ascii.Goals as goal

pub returns-then-bytes-le-BLOCK : goal.returns-then-bytes-le-BLOCK
returns-then-bytes-le-BLOCK c _ =
    let bytes = c.args.bytes.now in
    subst IsUtf8 (take-length bytes) (ascii_is_utf8 bytes (length bytes) (λ i l. c.if-not-is_ascii_to_end.ensures refl i (omega (arith, c.if-bytes-le-BLOCK.true)) l) (omega arith))

pub returns-else-bytes-le-BLOCK : goal.returns-else-bytes-le-BLOCK
returns-else-bytes-le-BLOCK c t =
    let bytes = c.args.bytes.now in
    subst IsUtf8 (take-length bytes) (ascii_is_utf8 bytes (length bytes) (λ i l. ⊎_elim (λ lt. ascii_at bytes 0 64 i (c.is_ascii_at.ensures t) (omega arith) (omega (arith, lt))) (λ ge. c.if-not-is_ascii_to_end.ensures refl i (omega (arith, ge, c.if-bytes-gt-SHORT.false)) l) (cases_lt i 64)) (omega arith))
