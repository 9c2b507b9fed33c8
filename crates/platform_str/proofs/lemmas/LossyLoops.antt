-- One step of a loop over a string's faults.
use Rattle.std.proofs.Common.{◌≡◌, ℕ, ◌<◌, List, ◌++◌, length, take, drop, sym, ap, ◌∙◌, subst, arith, append_assoc, length-drop}
use Rattle.platform_str.proofs.Common.{length-take-le, IsValidUpTo, replacement, EncodingError, none_at, StartsWithNoCharacter, PlatformLaws, IsReplaced, IsLeft, IsFirstText, nat_tests, common_steps}
use Rattle.wtf8_core.proofs.lemmas.texts.StdFaults.{no_char}

-- no whole character starts at a fault
pub uncovered_at : {b after : List ℕ} {n : ℕ} → after ≡ drop n b → IsValidUpTo b n → StartsWithNoCharacter after
uncovered_at {b} {after} {n} e v = subst StartsWithNoCharacter (sym e) (none_at (drop n b) 0 (no_char b n v))

-- there is some byte
pub some_at : {b after : List ℕ} {n : ℕ} → after ≡ drop n b → IsValidUpTo b n → 0 < length after
some_at {b} {after} {n} e v = let s = v.short in omega (arith, length-drop n b, ap length e)

module _ {first_fault : List ℕ → EncodingError → Type 0} {well_formed : List ℕ → Type 0} {units : List ℕ → List ℕ} {is_unit_list io_safe : List ℕ → Type 0} {lossy : List ℕ → List ℕ} {replaces : List ℕ → ℕ → Type 0} (laws : PlatformLaws first_fault well_formed units is_unit_list io_safe lossy replaces) where
  -- what follows the text at the start is well formed
  pub formed_at : {bytes after : List ℕ} {n : ℕ} → after ≡ drop n bytes → IsValidUpTo bytes n → well_formed bytes → well_formed after
  formed_at {bytes} {after} {n} e v w = subst well_formed (sym e) (laws.after_text bytes n w v.front)

  -- after the text at the start, one U+FFFD replaces the first m bytes
  pub first_part : {bytes after : List ℕ} {n m : ℕ} → after ≡ drop n bytes → IsValidUpTo bytes n → well_formed bytes → replaces after m → IsReplaced well_formed lossy after m
  first_part {bytes} {after} {n} {m} e v w r =
      laws.lossy_step after m (formed_at e v w) (some_at e v) (uncovered_at e v) r

  pub first_text : {bytes prefix after rest : List ℕ} {n m : ℕ} → prefix ≡ take n bytes → after ≡ drop n bytes → rest ≡ drop m after → IsValidUpTo bytes n → well_formed bytes → replaces after m → IsFirstText well_formed lossy bytes prefix rest
  first_text {bytes} {prefix} {after} {rest} {n} {m} t e d v w r = grind (arith, nat_tests, common_steps, first_part, length-take-le, length-drop, v.short)

-- one more text and one more U+FFFD are made
pub one_more : {well_formed : List ℕ → Type 0} {lossy : List ℕ → List ℕ} {prefix rest after : List ℕ} (made : List ℕ) → IsFirstText well_formed lossy rest prefix after
    → made ++ lossy rest ≡ ((made ++ prefix) ++ replacement) ++ lossy after
one_more {lossy = lossy} {prefix = prefix} {after = after} made f =
    ap (λ x. made ++ x) f.lossy_is ∙ sym (append_assoc made prefix (replacement ++ lossy after)) ∙ sym (append_assoc (made ++ prefix) replacement (lossy after))

pub made_more : {well_formed : List ℕ → Type 0} {lossy : List ℕ → List ℕ} {all made prefix rest after : List ℕ} → IsLeft well_formed lossy all made rest → IsFirstText well_formed lossy rest prefix after
    → IsLeft well_formed lossy all ((made ++ prefix) ++ replacement) after
made_more {made = made} i f = record { rest_is = f.rest_is; lossy_is = i.lossy_is ∙ one_more made f }
