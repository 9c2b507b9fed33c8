use Rattle.std.proofs.Common.{[], ◌∷◌, ◌++◌, get_or, refl, sym, ap, ◌∙◌, subst, arith}
use Rattle.std.proofs.lemmas.List.{take_all}
use Rattle.osbytes_c.specs.Globs.{AreEachReported, IsMatched, IsReported}
use Rattle.osbytes_c.specs.ItemLists.{items_of}
use Rattle.osbytes_c.proofs.lemmas.Globs.{one_more_reported}
use Rattle.osbytes_c.proofs.lemmas.ItemLists.{each_more, one_more_item, other_at}
use Rattle.osbytes_c.proofs.globs.reported_of.Goals as goal

pub loop-item-init : goal.loop-item-init
loop-item-init g c =
    let set = c.args.set.now.set in
    ([], (refl, (tt, subst (AreEachReported (IsMatched g.E.Platform.units set.options set.patterns.items) []) (sym c.new-answers.ensures.items) tt)))

pub loop-item-preserved : goal.loop-item-preserved
loop-item-preserved g c =
    let inv = c.loop-item.invariant in
    let paths = c.args.paths.now in
    let i = c.loop-item.item-index in
    let item = (get_or paths i (record { ref_ptr = (0, 0); now = [] })).now in
    let set = c.args.set.now.set in
    let is = IsMatched g.E.Platform.units set.options set.patterns.items in
    let answer = c.answer_of.result in
    let reported = subst (λ b. IsReported (is b) answer) c.in-Ok.ensures.bytes c.answer_of.ensures in (
      inv.0 ++ item ∷ [],
      (
        one_more_item paths i (record { ref_ptr = (0, 0); now = [] }) inv.0 inv.1.0 c.loop-item-test.true,
        (
          each_more g.E.Platform.well_formed inv.0 item inv.1.1.0 c.in-Ok.ensures.cases,
          subst (AreEachReported is (inv.0 ++ item ∷ [])) (sym c.in-Ok-push.ensures.items) (one_more_reported is inv.0 c.loop-item.answers.items item answer inv.1.1.1 reported),
        ),
      ),
    )

pub returns-in_default : goal.returns-in_default
returns-in_default g c =
    other_at g.E.Platform.well_formed c.args.paths.now c.loop-item.item-index (record { ref_ptr = (0, 0); now = [] }) c.loop-item-test.true
    (g.met.E.Platform.laws.faulty _ _ c.in_default.ensures.cases)

pub returns-in_default-push : goal.returns-in_default-push
returns-in_default-push g c = tt

pub returns : goal.returns
returns g c =
    let inv = c.loop-item.invariant in
    record {
      names = inv.0;
      are_names = inv.1.0 ∙ ap items_of (take_all c.loop-item.item-index c.args.paths.now (omega (arith, c.loop-item-test.false)));
      strings = inv.1.1.0;
      reported = inv.1.1.1;
    }
