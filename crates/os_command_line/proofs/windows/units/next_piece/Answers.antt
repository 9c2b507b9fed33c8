use Rattle.std.proofs.Common.{◌≡◌, ◌∙◌, [], refl}
use Rattle.wtf8_core.specs.UnitsOf.{units_of}
use Rattle.platform_str.specs.Strings.{bytes}
use Rattle.os_command_line.proofs.lemmas.WindowsPieces.{ended, marked}
use Rattle.os_command_line.proofs.lemmas.WindowsStrings.{no_units}
use Rattle.os_command_line.proofs.windows.units.next_piece.Goals as goal

pub returns-then-not-tail : goal.returns-then-not-tail
returns-then-not-tail c =
    let tail = c.loop-piece.tail in
    let none : c.encode_wide-none.result ≡ [] = c.encode_wide-none.ensures.units ∙ no_units (bytes c.new.result) c.new.result.ok c.new.ensures in (
      c.loop-piece.invariant ∙ ended tail.mark tail.place (bytes tail.rest) [] tail.rest.ok refl c.if-not-tail.true c.in_default.ensures,
      ended tail.mark tail.place (bytes tail.rest) c.encode_wide-none.result tail.rest.ok none c.if-not-tail.true c.in_default.ensures,
    )

pub returns : goal.returns
returns c =
    let tail = c.loop-piece.tail in
    let none : c.encode_wide-none.result ≡ [] = c.encode_wide-none.ensures.units ∙ no_units (bytes c.new.result) c.new.result.ok c.new.ensures in
    c.loop-piece.invariant ∙ marked tail.mark tail.place (units_of (bytes tail.rest)) c.encode_wide-none.result none c.if-not-tail.false
