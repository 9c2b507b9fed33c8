use Rattle.os_str_ext.proofs.Common.{arith}
use Rattle.os_str_ext.proofs.lemmas.UncoveredStart.{one_more, part_more, text_found, uncovered_after_text, text_to_end, all_uncovered}
use Rattle.os_str_ext.proofs.chunks.first_text.Goals as goal

pub loop-at-preserved-then-begins_no_character : goal.loop-at-preserved-then-begins_no_character
loop-at-preserved-then-begins_no_character g c = one_more c.args.bytes.now c.loop-at.at c.loop-at.invariant c.loop-at-test.true (c.begins_no_character.ensures.0 c.if-begins_no_character.true)

pub returns-in_default-clause-ends : goal.returns-in_default-clause-ends
returns-in_default-clause-ends g c = text_to_end c.args.bytes.now c.loop-at.at c.loop-at.invariant _ c.split_at.ensures.back c.loop-at-test.true c.in_default.ensures

pub returns-then-valid_up_to-gt0-clause-ends : goal.returns-then-valid_up_to-gt0-clause-ends
returns-then-valid_up_to-gt0-clause-ends g c =
    let e = c.part_len-len.ensures in
    text_found c.args.bytes.now c.loop-at.at c.loop-at.invariant _ c.split_at.ensures.back _ _ _ c.in-Some.ensures e.end e.within c.if-valid_up_to-gt0.true

pub returns-then-valid_up_to-gt0-clause-uncovered : goal.returns-then-valid_up_to-gt0-clause-uncovered
returns-then-valid_up_to-gt0-clause-uncovered g c =
    let e = c.part_len-len.ensures in
    uncovered_after_text c.args.bytes.now c.loop-at.at c.loop-at.invariant _ c.split_at.ensures.back _ _ _ c.in-Some.ensures e.end e.within

pub loop-at-preserved : goal.loop-at-preserved
loop-at-preserved g c =
    let e = c.part_len-len.ensures in
    part_more c.args.bytes.now c.loop-at.at c.loop-at.invariant _ c.split_at.ensures.back _ _ _ c.in-Some.ensures e.end e.within (omega (arith, c.if-valid_up_to-gt0.false))

pub returns-clause-ends : goal.returns-clause-ends
returns-clause-ends g c = all_uncovered c.args.bytes.now c.loop-at.at c.loop-at.invariant c.loop-at-test.false
