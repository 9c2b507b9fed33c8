use Rattle.std.proofs.Common.{[], ◌++◌, length, take, map, refl, sym, subst, append-nil, arith}
use Rattle.std.proofs.lemmas.List.{take_all}
use Rattle.os_str_ext.specs.Pieces.{IsRSplit}
use Rattle.osbytes_c.specs.Fills.{IsLeft, viewed}
use Rattle.osbytes_c.proofs.uses.fills.rsplit_into_two.Goals as goal

pub returns-then-after : goal.returns-then-after
returns-then-after c =
    let p = c.args.pattern.now in
    let s = c.args.bytes.now in
    let before = c.osb_core_rsplit_fill.new.filled in
    let after = c.osb_core_rsplit_fill-2.new.filled in
    let one = c.osb_core_rsplit_fill.ensures.pieces c.if-osb_core_rsplit_fill-ne-DONE.false in
    let two = c.osb_core_rsplit_fill-2.ensures.pieces c.if-osb_core_rsplit_fill-ne-DONE-2.false in
    let rest = take before.next s in
    let none : IsLeft after.ended [] (IsRSplit p (take after.next s) []) = subst (λ e. IsLeft e [] (IsRSplit p (take after.next s) [])) (sym c.if-after.true) refl in
    let later = subst (IsRSplit p rest) (append-nil (map (viewed 0 s) two.items)) (c.filled_splits.ensures.rsplit p s 0 before.next two.items after.ended after.next [] two.are none) in
    let left = subst (λ e. IsLeft e (map (viewed 0 s) two.items) (IsRSplit p rest (map (viewed 0 s) two.items))) (sym c.if-before.false) later in
    let all = c.filled_splits.ensures.rsplit p s 0 (length s) one.items before.ended before.next (map (viewed 0 s) two.items) one.are left in
    subst (λ a. IsRSplit p s (map (viewed 0 s) a ++ map (viewed 0 s) (take after.count c.osb_core_rsplit_fill-2.new.out))) (sym one.written.prefix)
    (subst (λ b. IsRSplit p s (map (viewed 0 s) one.items ++ map (viewed 0 s) b)) (sym two.written.prefix) (subst (λ x. IsRSplit p x (map (viewed 0 s) one.items ++ map (viewed 0 s) two.items)) (take_all (length s) s (omega arith)) all))
