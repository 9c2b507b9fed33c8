use Rattle.wtf8_core.proofs.Common.{ℕ, List, Result, Ok, Err, subst, sym, BeginsWith, IsCharacterAt}
use Rattle.std.specs.Result.{result_ok}
use Rattle.wtf8_core.proofs.lemmas.{characters.AtIndices.none_at, texts.StdFaults.no_char}
use Rattle.wtf8_core.proofs.first_character.first_char_len.Goals as goal

at_start : (bytes : List ℕ) (answer : Result ℕ ℕ) → BeginsWith bytes answer → IsCharacterAt bytes 0 (result_ok answer)
at_start bytes (Ok len) h = h
at_start bytes (Err len) h = none_at bytes 0 (no_char bytes 0 h.valid)

pub returns-in-Some : goal.returns-in-Some
returns-in-Some c = subst (IsCharacterAt c.args.bytes.now 0) (sym c.ok.ensures.value) (at_start _ c.in-Some.answer c.in-Some.ensures)
