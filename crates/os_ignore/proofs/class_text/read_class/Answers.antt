use Rattle.std.proofs.Common.{sym, ap, arith}
use Rattle.os_ignore.proofs.lemmas.Classes.{none_yet, one_more, whole_class}
use Rattle.os_ignore.proofs.lemmas.Nameless as nameless
use Rattle.os_ignore.proofs.lemmas.Nameless.{within_member}
use Rattle.os_ignore.proofs.class_text.read_class.Goals as goal

pub loop-ranges-init : goal.loop-ranges-init
loop-ranges-init g c = record {
  read = none_yet c.args.folds c.args.text.now _ _ _ c.new-ranges.ensures.items c.negation-negated.ensures.value;
  less = c.negation-negated.ensures.shorter;
  nameless = nameless.none_yet _ _ (omega arith);
}

pub returns-in-Broken : goal.returns-in-Broken
returns-in-Broken g c = record {
  class = record {
    members = c.loop-ranges.invariant.read.members;
    left = (c.loop-ranges.before, c.loop-ranges.left.now);
    read = c.loop-ranges.invariant.read.read;
    stops = sym c.in-Broken.ensures.reading;
  };
  shorter = tt;
}

pub returns-in-Closed : goal.returns-in-Closed
returns-in-Closed g c =
    let same = ap (λ p. p.0) c.negation-negated.ensures.value in
    record {
      class = whole_class c.args.folds c.args.text.now _ _ _ _ _ c.loop-ranges.invariant.read same
          c.in_ok-class-in-Closed.ensures (sym c.in-Closed.ensures.reading);
      shorter = let h = c.loop-ranges.invariant.less in let k = c.in-Closed.ensures.shorter in omega arith;
    }

pub loop-ranges-preserved : goal.loop-ranges-preserved
loop-ranges-preserved g c =
    let reading = sym c.in-Member.ensures.reading in
    record {
      read = one_more c.args.folds c.args.text.now _ _ c.in-Member.member (c.in-Member.after, c.in-Member.rest.now) _ c.loop-ranges.invariant.read reading c.in_ok-push_to-in-Member.ensures;
      less = let h = c.loop-ranges.invariant.less in let k = c.in-Member.ensures.shorter in omega arith;
      nameless = within_member _ c.loop-ranges.before _ c.in-Member.member c.in-Member.after c.in-Member.rest.now reading c.in-Member.ensures.nameless;
    }
