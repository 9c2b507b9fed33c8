-- How a word is read.
use Rattle.std.proofs.Common.{◌≡◌, ◌≢◌, inl, inr, ℕ, Bool, IsTrue, List, [], ◌++◌, refl, ap, ◌∙◌}
use Rattle.wtf8_core.specs.Occurrence.{IsPrefix}
use Rattle.os_args.specs.Word.{Kind, Value, dash, dashes, StartsAsNegative, IsNamed, IsFlag, IsReadAs}

pub is_long : (numbers : Bool) (s text : List ℕ) (kind : Kind) (rest : List ℕ) → s ≢ dashes → s ≡ dashes ++ text → IsNamed text kind rest → IsReadAs numbers s kind rest
is_long numbers s text kind rest n e h = inl (record { text = text; joined = e; some = λ z. n (e ∙ ap (λ x. dashes ++ x) z); named = h })

pub is_short : (numbers : Bool) (s flags : List ℕ) (kind : Kind) (rest : List ℕ) → ¬ (IsPrefix dashes s) → s ≡ dash ++ flags → flags ≢ [] → (IsTrue numbers → ¬ (StartsAsNegative s)) → IsFlag flags kind rest → IsReadAs numbers s kind rest
is_short numbers s flags kind rest n e some numeral h = inr (inl (record {
  flags = flags;
  joined = e;
  some = some;
  one_dash = λ f. n (record { rest = f.rest; joined = e ∙ ap (λ x. dash ++ x) f.joined });
  no_number = numeral;
  flag = h;
}))

pub is_value : (numbers : Bool) (s rest : List ℕ) → ¬ (IsPrefix dash s) → rest ≡ [] → IsReadAs numbers s (Value s) rest
is_value numbers s rest n e = inr (inr (record { value = refl; whole = e; operand = inr (inl n) }))

pub is_dash : (numbers : Bool) (s flags rest : List ℕ) → s ≡ dash ++ flags → flags ≡ [] → rest ≡ [] → IsReadAs numbers s (Value s) rest
is_dash numbers s flags rest e none w = inr (inr (record { value = refl; whole = w; operand = inl (e ∙ ap (λ x. dash ++ x) none) }))

pub is_number : (numbers : Bool) (s rest : List ℕ) → IsTrue numbers → StartsAsNegative s → rest ≡ [] → IsReadAs numbers s (Value s) rest
is_number numbers s rest t h w = inr (inr (record { value = refl; whole = w; operand = inr (inr (t, h)) }))

pub ruleset kinds = (is_long, is_short, is_value, is_dash, is_number)
