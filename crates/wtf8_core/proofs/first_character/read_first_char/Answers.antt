use Rattle.wtf8_core.proofs.Common.{◌≡◌, ◌<◌, ◌∷◌, ℕ, List, false, Ok, Option, Some, None, MatchOption, arith, sym, subst, length, encode_utf8, IsScalar, StartsWithNoCharacter, IsFirstChar}
use Rattle.std.specs.Option.{SomeIff}
use Rattle.wtf8_core.specs.Reader.{first_item}
use Rattle.wtf8_core.proofs.lemmas.characters.AtIndices.{char_read, none_at_other, none_at_fault}
use Rattle.wtf8_core.proofs.first_character.read_first_char.Goals as goal

pub returns-in-Err : goal.returns-in-Err
returns-in-Err c = none_at_fault c.args.first c.in-Err.field-0 c.args.after.now (sym c.in-Err.ensures)

by_scalar : (first code : ℕ) (after : List ℕ) (r : Option ℕ) → first < 256 → first_item false first after ≡ Ok code → SomeIff r (IsScalar code) code
    → MatchOption r (StartsWithNoCharacter (first ∷ after)) (λ c. IsFirstChar (first ∷ after) c (length (encode_utf8 c)))
by_scalar first code after None small e none = none_at_other first code after e none
by_scalar first code after (Some c) small e read = subst (λ x. IsFirstChar (first ∷ after) x (length (encode_utf8 x))) (sym read.1) (char_read first code after small e read.0)

pub returns-in-Ok : goal.returns-in-Ok
returns-in-Ok c = by_scalar c.args.first c.in-Ok.code_point c.args.after.now _ (omega (arith, c.ranges.first)) (sym c.in-Ok.ensures) c.from_u32.ensures.value
