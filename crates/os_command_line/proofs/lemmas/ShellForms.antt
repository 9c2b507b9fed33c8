-- Bytes that are looked for, and names that need no quotes.
use Rattle.std.proofs.Common.{◌≡◌, ◌≢◌, ℕ, zero, suc, ◌+◌, ◌<◌, Bool, true, false, ◌&&◌, eqb, List, [], ◌∷◌, ◌++◌, length, take, drop, get_or, take-append-drop, refl, sym, ap, ◌∙◌, subst, arith, Option, None, Some, MatchOption, inl, inr}
use Rattle.std.specs.List.{AllByRecursion}
use Rattle.std.proofs.lemmas.Bool.{cases_Bool, eq-eqb, eqb-true, ne_eqb}
use Rattle.std.proofs.lemmas.List.{take_all, drop_more, length-take-le}
use Rattle.memchr.specs.Find.{NoneBefore, Nowhere, Passes, is_byte}
use Rattle.os_command_line.specs.Fish.{is_escaped}
use Rattle.os_command_line.specs.Shell.{single_quote, HasNoQuote}
use Rattle.os_command_line.specs.ShellSteps.{AreShown, AreUnmarked, IsCutAtEscaped, IsCutAtMarked, IsCutAtQuote}
use Rattle.os_command_line.specs.ShellWriting.{is_marked, is_plain, are_plain, HasNoNul, IsFirstNul}

-- where no byte before an index passes a test
module _ (test : ℕ → Bool) (P : ℕ → Type 0) (other : (x : ℕ) → ¬ (test x ≡ true) → P x) where
  none_from : (t : List ℕ) (n : ℕ) → ((k : ℕ) → k < n → ¬ (test (get_or t k 0) ≡ true)) → AllByRecursion P (take n t)
  none_from [] zero h = tt
  none_from (x ∷ t) (suc n) h = (other x (h 0 (omega arith)), none_from t n (λ k lt. h (suc k) (omega arith)))
  none_from t n h = tt

  pub nowhere : (t : List ℕ) → Nowhere (Passes test t) 0 (length t) → AllByRecursion P t
  nowhere t h = subst (AllByRecursion P) (take_all (length t) t (omega arith)) (none_from t (length t) (λ k lt. h k (omega arith) lt))

  pub before_first : (t : List ℕ) (i : ℕ) → NoneBefore (Passes test t) 0 (length t) i → AllByRecursion P (take i t)
  before_first t i h = none_from t i (λ k lt. h.before k (omega arith) lt)

cut_here : (t : List ℕ) (i : ℕ) → i < length t → t ≡ take i t ++ get_or t i 0 ∷ drop (i + 1) t
cut_here t i lt = sym (take-append-drop i t) ∙ ap (λ x. take i t ++ x) (drop_more t i 0 lt)

pub cut_at : (wanted : ℕ) (t : List ℕ) (i : ℕ) → i < length t → is_byte wanted (get_or t i 0) ≡ true → t ≡ take i t ++ wanted ∷ drop (i + 1) t
cut_at wanted t i lt h = cut_here t i lt ∙ ap (λ x. take i t ++ x ∷ drop (i + 1) t) (eqb-true _ _ h)

not_zero : (x : ℕ) → ¬ (is_byte 0 x ≡ true) → x ≢ 0
not_zero x n e = n (eq-eqb x 0 e)

not_quote : (x : ℕ) → ¬ (is_byte single_quote x ≡ true) → eqb x single_quote ≡ false
not_quote x n = ne_eqb x single_quote (λ e. n (eq-eqb x single_quote e))

pub nul_found : (name : List ℕ) (found : Option ℕ) → MatchOption found (Nowhere (Passes (is_byte 0) name) 0 (length name)) (λ k. NoneBefore (Passes (is_byte 0) name) 0 (length name) k × Passes (is_byte 0) name k)
    → MatchOption found (HasNoNul name) (λ index. IsFirstNul name index)
nul_found name None h = nowhere (is_byte 0) (λ x. x ≢ 0) not_zero name h
nul_found name (Some i) h = record { before = take i name; after = drop (i + 1) name; joined = cut_at 0 name i h.0.high h.1; none_before = before_first (is_byte 0) (λ x. x ≢ 0) not_zero name i h.0; index_is = sym (length-take-le i name (omega (arith, h.0.high))) }

pub no_quote_found : (bytes : List ℕ) → Nowhere (Passes (is_byte single_quote) bytes) 0 (length bytes) → HasNoQuote bytes
no_quote_found bytes h = nowhere (is_byte single_quote) (λ x. eqb x single_quote ≡ false) not_quote bytes h

pub quote_found : (bytes : List ℕ) (i : ℕ) → NoneBefore (Passes (is_byte single_quote) bytes) 0 (length bytes) i × Passes (is_byte single_quote) bytes i → IsCutAtQuote bytes (take i bytes) (drop (i + 1) bytes)
quote_found bytes i h = record { none_before = before_first (is_byte single_quote) (λ x. eqb x single_quote ≡ false) not_quote bytes i h.0; joined = cut_at single_quote bytes i h.0.high h.1 }

not_marked : (x : ℕ) → ¬ (is_marked x ≡ true) → is_marked x ≡ false
not_marked x n = elim (cases_Bool (is_marked x)) [ inl e ↦ absurd (n e) | inr e ↦ e ]

pub none_marked : (bytes : List ℕ) → Nowhere (Passes is_marked bytes) 0 (length bytes) → AreUnmarked bytes
none_marked bytes h = nowhere is_marked (λ x. is_marked x ≡ false) not_marked bytes h

pub marked_found : (bytes : List ℕ) (i : ℕ) → NoneBefore (Passes is_marked bytes) 0 (length bytes) i × Passes is_marked bytes i → IsCutAtMarked bytes (take i bytes) (get_or bytes i 0) (drop (i + 1) bytes)
marked_found bytes i h = record { unmarked_before = before_first is_marked (λ x. is_marked x ≡ false) not_marked bytes i h.0; marked = h.1; joined = cut_here bytes i h.0.high }

not_escaped : (x : ℕ) → ¬ (is_escaped x ≡ true) → is_escaped x ≡ false
not_escaped x n = elim (cases_Bool (is_escaped x)) [ inl e ↦ absurd (n e) | inr e ↦ e ]

pub none_escaped : (bytes : List ℕ) → Nowhere (Passes is_escaped bytes) 0 (length bytes) → AreShown bytes
none_escaped bytes h = nowhere is_escaped (λ x. is_escaped x ≡ false) not_escaped bytes h

pub escaped_found : (bytes : List ℕ) (i : ℕ) → NoneBefore (Passes is_escaped bytes) 0 (length bytes) i × Passes is_escaped bytes i → IsCutAtEscaped bytes (take i bytes) (get_or bytes i 0) (drop (i + 1) bytes)
escaped_found bytes i h = record { shown_before = before_first is_escaped (λ x. is_escaped x ≡ false) not_escaped bytes i h.0; escaped = h.1; joined = cut_here bytes i h.0.high }

-- one more byte that needs no quotes
pub plain_more : (xs : List ℕ) (b : ℕ) → are_plain (xs ++ b ∷ []) ≡ are_plain xs && is_plain b
plain_more [] b = and_true (is_plain b)
  where
    and_true : (x : Bool) → x && true ≡ x
    and_true true = refl
    and_true false = refl
plain_more (x ∷ xs) b = ap (λ z. is_plain x && z) (plain_more xs b) ∙ and_assoc (is_plain x) (are_plain xs) (is_plain b)
  where
    and_assoc : (x y z : Bool) → x && (y && z) ≡ (x && y) && z
    and_assoc true y z = refl
    and_assoc false y z = refl
