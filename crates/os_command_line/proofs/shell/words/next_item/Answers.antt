use Rattle.std.proofs.Common.{arith, sym, length}
use Rattle.std.proofs.lemmas.Bool.{eqb-true}
use Rattle.std.proofs.lemmas.List.{nil_from_length}
use Rattle.os_command_line.proofs.lemmas.ShellItems.{no_item, first_word, first_fault}
use Rattle.os_command_line.proofs.lemmas.WindowsCuts.{not_empty}
use Rattle.os_command_line.proofs.shell.words.next_item.Goals as goal

pub returns-then-is_empty : goal.returns-then-is_empty
returns-then-is_empty c =
    let text = c.skip_gap-text.result.now in
    no_item c.args.language c.args.len c.args.line.now text c.skip_gap-text.ensures (nil_from_length text (eqb-true (length text) 0 (sym c.if-is_empty.ensures)))

pub overflow_sub-index : goal.overflow_sub-index
overflow_sub-index c =
    let text = c.skip_gap-text.result.now in
    let f = first_fault c.args.language c.args.len c.args.line.now text c.in-Err.kind c.in-Err.left.now c.requires c.skip_gap-text.ensures (not_empty text c.if-is_empty.ensures) c.in-Err.ensures in
    omega (arith, c.requires, f.1)

pub returns-in-Ok : goal.returns-in-Ok
returns-in-Ok c =
    let text = c.skip_gap-text.result.now in
    let f = first_word c.args.language c.args.len c.args.line.now text _ c.in-Ok.rest.now c.requires c.skip_gap-text.ensures (not_empty text c.if-is_empty.ensures) c.in-Ok.ensures in
    record { items = f.0; within = f.1 }

pub returns-in-Err : goal.returns-in-Err
returns-in-Err c =
    let text = c.skip_gap-text.result.now in
    let f = first_fault c.args.language c.args.len c.args.line.now text c.in-Err.kind c.in-Err.left.now c.requires c.skip_gap-text.ensures (not_empty text c.if-is_empty.ensures) c.in-Err.ensures in
    record { items = f.0; within = omega arith }
