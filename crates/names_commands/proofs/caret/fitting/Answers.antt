use Rattle.std.proofs.Common.{◌≡◌, ◌≤◌, ℕ, List, ◌++◌, le-leb, length, refl, ap, ◌∙◌, arith}
use Rattle.std.specs.Fmt.Cut.{cut_to}
use Rattle.names_commands.specs.Caret.{fitting}
use Rattle.names_commands.proofs.caret.fitting.Goals as goal

-- a text that fits is kept
kept : (room : ℕ) (text : List ℕ) → length text ≤ room → cut_to room text ≡ fitting room text
unfolding cut_to
kept room text fits = rw (le-leb (length text) room fits) refl

pub returns-then-text-le-ROOM : goal.returns-then-text-le-ROOM
returns-then-text-le-ROOM c =
    let text = c.args.text.now in
    let none = ap length c.new-empty.ensures.text in
    c.and_str.ensures.to_end (omega (arith, none)) ∙ ap (λ before. cut_to 400 (before ++ text)) c.new-empty.ensures.text ∙ kept 400 text (omega (arith, c.if-text-le-ROOM.true))
