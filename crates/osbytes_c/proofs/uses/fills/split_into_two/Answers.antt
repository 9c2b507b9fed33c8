use Rattle.std.proofs.Common.{[], ◌++◌, take, drop, map, refl, sym, subst, append-nil}
use Rattle.os_str_ext.specs.Pieces.{IsSplit}
use Rattle.osbytes_c.specs.Fills.{IsLeft, viewed}
use Rattle.osbytes_c.proofs.uses.fills.split_into_two.Goals as goal

pub returns-then-after : goal.returns-then-after
returns-then-after c =
    let p = c.args.pattern.now in
    let s = c.args.bytes.now in
    let before = c.osb_core_split_fill.new.filled in
    let after = c.osb_core_split_fill-2.new.filled in
    let one = c.osb_core_split_fill.ensures.pieces c.if-osb_core_split_fill-ne-DONE.false in
    let two = c.osb_core_split_fill-2.ensures.pieces c.if-osb_core_split_fill-ne-DONE-2.false in
    let rest = drop before.next s in
    let none : IsLeft after.ended [] (IsSplit p (drop after.next s) []) = subst (λ e. IsLeft e [] (IsSplit p (drop after.next s) [])) (sym c.if-after.true) refl in
    let later = subst (IsSplit p rest) (append-nil (map (viewed 0 s) two.items)) (c.filled_splits.ensures.split p s 0 before.next two.items after.ended after.next [] two.are none) in
    let left = subst (λ e. IsLeft e (map (viewed 0 s) two.items) (IsSplit p rest (map (viewed 0 s) two.items))) (sym c.if-before.false) later in
    let all = c.filled_splits.ensures.split p s 0 0 one.items before.ended before.next (map (viewed 0 s) two.items) one.are left in
    subst (λ a. IsSplit p s (map (viewed 0 s) a ++ map (viewed 0 s) (take after.count c.osb_core_split_fill-2.new.out))) (sym one.written.prefix)
    (subst (λ b. IsSplit p s (map (viewed 0 s) one.items ++ map (viewed 0 s) b)) (sym two.written.prefix) all)
