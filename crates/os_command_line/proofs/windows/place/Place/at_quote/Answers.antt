use Rattle.std.proofs.Common.{◌≡◌, ◌∙◌, true, false, [], length, sym, subst, refl}
use Rattle.std.proofs.lemmas.Bool.{eqb-true, true≢false}
use Rattle.std.proofs.lemmas.List.{nil_from_length}
use Rattle.os_command_line.specs.WindowsSteps.{IsAtQuote}
use Rattle.os_command_line.proofs.lemmas.WindowsCuts.{not_empty}
use Rattle.os_command_line.proofs.lemmas.WindowsAtQuote.{at_closing, at_name, at_odd, at_even}
use Rattle.os_command_line.proofs.windows.place.Place.at_quote.Goals as goal
use Rattle.os_command_line.proofs.windows.place.Place.at_quote.Goals.{else-self-via-then-self+else-is_empty, else-self-via-else-self}

pub returns-then-is_empty : goal.returns-then-is_empty
returns-then-is_empty c =
    let before = c.args.before.now in
    subst (IsAtQuote c.args.self before 0 true) (sym c.after.ensures) (at_closing c.args.self before c.if-self.true (nil_from_length before (eqb-true (length before) 0 (sym c.if-is_empty.ensures))))

pub returns-then-self-2 : goal.returns-then-self-2
returns-then-self-2 c =
    let before = c.args.before.now in
    let other : c.args.self.closing ≡ true → before ≡ [] → ⊥ = λ closing none.
    elim c.else-self.branch [
      | else-self-via-then-self+else-is_empty w ↦ not_empty before w.if-is_empty.ensures none
      | else-self-via-else-self w ↦ true≢false (sym closing ∙ w.if-self.false)
    ] in
    subst (IsAtQuote c.args.self before (length before) false) (sym c.after-then-self-2.ensures) (at_name c.args.self before other c.if-self-2.true)

pub returns-then-run-eq1 : goal.returns-then-run-eq1
returns-then-run-eq1 c =
    let before = c.args.before.now in
    let other : c.args.self.closing ≡ true → before ≡ [] → ⊥ = λ closing none.
    elim c.else-self.branch [
      | else-self-via-then-self+else-is_empty w ↦ not_empty before w.if-is_empty.ensures none
      | else-self-via-else-self w ↦ true≢false (sym closing ∙ w.if-self.false)
    ] in
    subst (IsAtQuote c.args.self before _ true) (sym c.after-then-run-eq1.ensures) (at_odd c.args.self before other c.last_backslashes-run.result _ c.if-self-2.false c.last_backslashes-run.ensures refl c.if-run-eq1.true)

pub returns : goal.returns
returns c =
    let before = c.args.before.now in
    let other : c.args.self.closing ≡ true → before ≡ [] → ⊥ = λ closing none.
    elim c.else-self.branch [
      | else-self-via-then-self+else-is_empty w ↦ not_empty before w.if-is_empty.ensures none
      | else-self-via-else-self w ↦ true≢false (sym closing ∙ w.if-self.false)
    ] in
    subst (IsAtQuote c.args.self before _ false) (sym c.after-2.ensures) (at_even c.args.self before other c.last_backslashes-run.result _ c.if-self-2.false c.last_backslashes-run.ensures refl c.if-run-eq1.false)
