use Rattle.os_quote.proofs.Common.{◌≡◌, ◌++◌, ◌≤◌, length, take, IsUtf8, item_text, escape_of, shown_by}
use Rattle.os_quote.specs.Start.{byte_item}
use Rattle.os_quote.proofs.write_walk.write_bytes.Given as goal

abbrev pub invariant-loop-len : goal.invariant-loop-len
invariant-loop-len g l =
    let shows = shown_by l.form in
    let escape = escape_of shows g.E.Platform.units in
    (l.len ≤ 104) × IsUtf8 (take l.len l.texts) × g.E.Platform.well_formed l.rest × (length l.rest ≤ length l.following)
    × (item_text (byte_item shows l.first) ++ escape l.following ≡ take l.len l.texts ++ escape l.rest)

abbrev pub decreases-loop-len : goal.decreases-loop-len
decreases-loop-len g l = length l.rest
