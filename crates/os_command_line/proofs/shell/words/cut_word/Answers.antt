use Rattle.std.proofs.Common.{◌∙◌, ap, sym, arith, length, length-append}
use Rattle.os_command_line.specs.Shell.Outcome.{Word}
use Rattle.os_command_line.proofs.lemmas.ShellBare.{bare_outcome}
use Rattle.os_command_line.proofs.lemmas.ShellMeaning.{cut_word}
use Rattle.os_command_line.proofs.lemmas.ShellScan.{word_within}
use Rattle.os_command_line.proofs.shell.words.cut_word.Goals as goal

pub cut-requires : goal.cut-requires
cut-requires c = let b = c.in-Some.ensures in omega (arith, ap length b.joined, length-append b.raw c.in-Some.rest.now)

pub cut-requires-in-Ok : goal.cut-requires-in-Ok
cut-requires-in-Ok c = word_within c.args.language c.args.text.now c.in-Ok.rest.now c.in-Ok.ensures

pub returns-in-Some : goal.returns-in-Some
returns-in-Some c =
    let b = c.in-Some.ensures in
    let x = c.cut.ensures b.raw b.joined in
    bare_outcome c.args.language c.args.text.now c.in-Some.rest.now b ∙ ap (Word b.raw) (sym x.0) ∙ ap (λ z. Word z c.cut.result.1.now) (sym x.1)

pub returns-in-Ok : goal.returns-in-Ok
returns-in-Ok c =
    let w = c.in-Ok.ensures in
    let k = cut_word c.args.language c.args.text.now w.0 c.in-Ok.rest.now w.1 in
    let x = c.cut-in-Ok.ensures k.own k.joined in
    w.1 ∙ ap (Word w.0) (sym x.0) ∙ ap (λ z. Word z c.cut-in-Ok.result.1.now) (sym k.means ∙ sym x.1)
