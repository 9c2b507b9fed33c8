use Rattle.wtf8_core.proofs.{Common.◌-◌, Common.length, Common.arith, Common.refl, Common.cases_lt, Common.⊎_elim, lemmas.vectors.Windows.ascii_at}
use Rattle.wtf8_core.proofs.vectors.ascii.is_ascii_to_end.Goals as goal

pub returns-then-len-ge-BLOCK : goal.returns-then-len-ge-BLOCK
returns-then-len-ge-BLOCK c t i h l =
    let bytes = c.args.bytes.now in
    ascii_at bytes (length bytes - 64) 64 i (c.is_ascii_at.ensures t) h (omega (arith, l, c.if-len-ge-BLOCK.true))

pub returns-then-len : goal.returns-then-len
returns-then-len c t i h l =
    let bytes = c.args.bytes.now in
    let short = c.if-len.true in
    let ends = c.if-not-are_ends_ascii.ensures in
    ⊎_elim (λ u. ends.first refl i u)
    (λ u. ascii_at bytes (length bytes - 16) 16 i (ends.last refl) (omega (arith, short, u)) (omega (arith, l, ends.long refl)))
    (cases_lt i 16)

pub returns-then-is_ascii_at : goal.returns-then-is_ascii_at
returns-then-is_ascii_at c t i h l =
    let bytes = c.args.bytes.now in
    let short = c.if-len-ge-BLOCK.false in
    let long = c.if-len.false in
    let ends = c.if-not-are_ends_ascii.ensures in
    ⊎_elim (λ u. ends.first refl i u)
    (λ v. ⊎_elim (λ u. ascii_at bytes 16 16 i (c.if-is_ascii_at.ensures refl) v (omega (arith, u)))
    (λ w. ⊎_elim (λ u. ascii_at bytes (length bytes - 32) 16 i (c.is_ascii_at-then-is_ascii_at.ensures t) (omega (arith, short, w)) (omega (arith, u, long)))
    (λ x. ascii_at bytes (length bytes - 16) 16 i (ends.last refl) x (omega (arith, l, long)))
    (cases_lt i (length bytes - 16)))
    (cases_lt i 32))
    (cases_lt i 16)
