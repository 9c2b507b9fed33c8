use Rattle.path_rules.proofs.lemmas.Fields.{empty_from, some_from}
use Rattle.path_rules.proofs.lemmas.Strips.{not_stripped, stripped_whole, stripped_inside, stripped_root, prefix_inside}
use Rattle.path_rules.proofs.stripped.strip_prefix.Goals as goal

pub returns-in_default : goal.returns-in_default
returns-in_default c = not_stripped c.args.style c.args.path.now c.args.base.now c.end_trimmed-whole.result.now c.end_trimmed-whole.ensures c.head_of-head.result c.head_of-head.ensures.parts c.head_of-head.ensures.items c.new.result.items c.new.ensures.items c.in_default.ensures

pub split_at-requires : goal.split_at-requires
split_at-requires c = prefix_inside c.args.style c.end_trimmed-whole.result.now c.head_of-head.result c.head_of-head.ensures.parts

pub returns-in-Nothing : goal.returns-in-Nothing
returns-in-Nothing c =
    let left = c.in-Some.left in
    stripped_inside c.args.style c.args.path.now c.args.base.now c.end_trimmed-whole.result.now c.end_trimmed-whole.ensures c.head_of-head.result c.head_of-head.ensures.parts c.head_of-head.ensures.items c.new.result.items c.new.ensures.items left c.in-Some.ensures (empty_from left.prefix.now c.is_empty.result c.if-is_empty.true c.is_empty.ensures) c.in-Nothing.is c.start_trimmed.result.now c.start_trimmed.ensures.items c.start_trimmed.ensures.after c.start_trimmed.ensures.named

pub returns-in_default-start : goal.returns-in_default-start
returns-in_default-start c =
    let left = c.in-Some.left in
    stripped_root c.args.style c.args.path.now c.args.base.now c.end_trimmed-whole.result.now c.end_trimmed-whole.ensures c.head_of-head.result c.head_of-head.ensures.parts c.head_of-head.ensures.items c.new.result.items c.new.ensures.items left c.in-Some.ensures (empty_from left.prefix.now c.is_empty.result c.if-is_empty.true c.is_empty.ensures) c.in_default-start.not-Nothing c.split_at.result.1.now c.split_at.ensures.back

pub returns : goal.returns
returns c =
    let left = c.in-Some.left in
    stripped_whole c.args.style c.args.path.now c.args.base.now c.end_trimmed-whole.result.now c.end_trimmed-whole.ensures c.head_of-head.result c.head_of-head.ensures.parts c.head_of-head.ensures.items c.new.result.items c.new.ensures.items left c.in-Some.ensures (some_from left.prefix.now c.is_empty.result c.if-is_empty.false c.is_empty.ensures)
