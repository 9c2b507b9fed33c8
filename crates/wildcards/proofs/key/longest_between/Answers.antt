use Rattle.std.proofs.Common.{◌∙◌, ap, subst, sym}
use Rattle.wildcards.specs.declared.separators.Separators.TheVariants.{Slash}
use Rattle.wildcards.specs.Cuts.{IsPlain}
use Rattle.wildcards.specs.Literals.{spells_some}
use Rattle.wildcards.proofs.lemmas.Keys.{begins_after, is_between}
use Rattle.wildcards.proofs.key.longest_between.Goals as goal

pub loop-own-preserved-then-is_plain : goal.loop-own-preserved-then-is_plain
loop-own-preserved-then-is_plain g c =
    let own = c.in-Some.own.now in
    let begins = c.loop-own.invariant.0 in
    let spelled = ap (spells_some own) (sym c.in-Some-2.is) ∙ c.in_ok-text.ensures in
    let plain = subst (IsPlain Slash) c.deref.ensures.value (c.is_plain.ensures c.if-is_plain.true Slash) in (
      begins_after c.args.pieces.now c.loop-own.left.now own c.in-Some.after.now c.in-Some.ensures begins,
      is_between c.args.pieces.now c.loop-own.left.now own c.in-Some.after.now c.in-Some-2.text.items c.in-Some.ensures begins spelled plain,
    )

pub loop-own-preserved-else-len-size : goal.loop-own-preserved-else-len-size
loop-own-preserved-else-len-size g c = (begins_after c.args.pieces.now c.loop-own.left.now c.in-Some.own.now c.in-Some.after.now c.in-Some.ensures c.loop-own.invariant.0, c.loop-own.invariant.1)

pub loop-own-preserved : goal.loop-own-preserved
loop-own-preserved g c = (begins_after c.args.pieces.now c.loop-own.left.now c.in-Some.own.now c.in-Some.after.now c.in-Some.ensures c.loop-own.invariant.0, c.loop-own.invariant.1)
