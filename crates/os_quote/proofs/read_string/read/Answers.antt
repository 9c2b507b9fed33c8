use Rattle.os_quote.proofs.Common.{common_steps, nat_tests, ◌++◌, arith, shown_by, item_bytes, token_item}
use Rattle.os_quote.proofs.lemmas.Unescaping.{room_for_prefix, room_for_token, more_bytes_read, all_bytes_read, bad_bytes_read}
use Rattle.os_quote.proofs.read_string.read.Goals as goal

pub returns-in_default-first_token : goal.returns-in_default-first_token
returns-in_default-first_token c = grind (arith, bad_bytes_read, shown_by)

pub push_truncated-count-requires : goal.push_truncated-count-requires
push_truncated-count-requires c = grind (arith, room_for_prefix, shown_by)

pub push_decoded-count-requires : goal.push_decoded-count-requires
push_decoded-count-requires c =
    let so_far = c.loop-prefix.invariant in
    let token = c.in-Some-first_token.ensures in
    let item = token_item c.in-Some-first_token.token in
    let room = room_for_token (shown_by c.args.form) _ so_far.0 _ _ _ item _ c.loop-prefix.count so_far.1 c.in-Some.ensures token.0 token.1 so_far.2.count_is in
    omega (arith, room, c.push_truncated-count.ensures.len)

pub loop-prefix-preserved : goal.loop-prefix-preserved
loop-prefix-preserved c =
    let shows = shown_by c.args.form in
    let so_far = c.loop-prefix.invariant in
    let decoded = so_far.0 in
    let prefix = c.in-Some.prefix.now in
    let token = c.in-Some-first_token.ensures in
    let item = token_item c.in-Some-first_token.token in
    let old = c.args.buffer.now in
    let written = c.push_truncated-count.ensures.written decoded old so_far.2 in (
      (decoded ++ prefix) ++ item_bytes item,
      more_bytes_read shows _ decoded _ prefix _ item _ so_far.1 c.in-Some.ensures token.0 token.1,
      c.push_decoded-count.ensures.0 (decoded ++ prefix) old written,
    )

pub push_truncated-requires : goal.push_truncated-requires
push_truncated-requires c = grind (arith, nat_tests, common_steps)

pub returns : goal.returns
returns c = grind (arith, all_bytes_read, shown_by)
