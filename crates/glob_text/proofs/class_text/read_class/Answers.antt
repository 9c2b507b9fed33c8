use Rattle.std.proofs.Common.{sym, arith}
use Rattle.glob_text.specs.ClassSteps.{member_ranges}
use Rattle.glob_text.specs.ClassText.{IsMember}
use Rattle.glob_text.proofs.lemmas.Names.{member_left}
use Rattle.wildcards.proofs.lemmas.Items.{one_more}
use Rattle.glob_text.proofs.class_text.read_class.Goals as goal

pub loop-fault-preserved : goal.loop-fault-preserved
loop-fault-preserved g c = (
  one_more (IsMember c.args.quotes c.args.index) _ _ _ (member_ranges c.in-Member.member) _ _ c.loop-fault.invariant.0 (sym c.in-Member.ensures.reading) c.in_ok-push_to-in-Member.ensures,
  (
    let h = c.loop-fault.invariant.1.0 in let k = c.in-Member.ensures.shorter in omega arith,
    (c.loop-fault.left.now, (c.of-end.ensures, member_left c.args.quotes c.args.index c.loop-fault.before c.loop-fault.left.now _ _ _ c.in-Member.ensures.reading)),
  ),
)
