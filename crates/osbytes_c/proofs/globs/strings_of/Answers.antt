use Rattle.std.proofs.Common.{[], ◌∷◌, ◌++◌, map, sym, ap, ◌∙◌, subst, arith}
use Rattle.std.proofs.lemmas.List.{map-append, take_all}
use Rattle.std.specs.List.{AllByRecursion}
use Rattle.platform_str.specs.Strings.{bytes}
use Rattle.osbytes_c.specs.ItemLists.{items_of}
use Rattle.osbytes_c.proofs.lemmas.ItemLists.{each_more, one_more_item, other_at}
use Rattle.osbytes_c.proofs.globs.strings_of.Goals as goal

pub loop-item-init : goal.loop-item-init
loop-item-init g c = let none = ap (map bytes) c.new-strings.ensures.items in (none, subst (AllByRecursion g.E.Platform.well_formed) (sym none) tt)

pub loop-item-preserved : goal.loop-item-preserved
loop-item-preserved g c =
    let list = c.args.list.now in
    let i = c.loop-item.item-index in
    let inv = c.loop-item.invariant in
    let strings = c.loop-item.strings.items in
    let string = c.in-Ok.string in
    let formed = g.E.Platform.well_formed in
    let now = ap (map bytes) c.in-Ok-push.ensures.items ∙ map-append bytes strings (string ∷ []) in
    let more = one_more_item list i (record { ref_ptr = (0, 0); now = [] }) (map bytes strings) inv.0 c.loop-item-test.true in
    let each = each_more formed (map bytes strings) (bytes string) inv.1 (subst formed (sym c.in-Ok.ensures.bytes) c.in-Ok.ensures.cases) in
    (now ∙ (ap (λ b. map bytes strings ++ b ∷ []) c.in-Ok.ensures.bytes ∙ more), subst (AllByRecursion formed) (sym now) each)

pub returns-in_default : goal.returns-in_default
returns-in_default g c =
    other_at g.E.Platform.well_formed c.args.list.now c.loop-item.item-index (record { ref_ptr = (0, 0); now = [] }) c.loop-item-test.true
    (g.met.E.Platform.laws.faulty _ _ c.in_default.ensures.cases)

pub returns-in_default-push : goal.returns-in_default-push
returns-in_default-push g c = tt

pub returns : goal.returns
returns g c = (c.loop-item.invariant.0 ∙ ap items_of (take_all c.loop-item.item-index c.args.list.now (omega (arith, c.loop-item-test.false))), c.loop-item.invariant.1)
