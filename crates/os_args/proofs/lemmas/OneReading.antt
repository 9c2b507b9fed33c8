-- A word is read in one way.
use Rattle.std.proofs.Common.{◌≡◌, ◌⊎◌, inl, inr, ℕ, ◌+◌, Bool, IsTrue, List, [], ◌∷◌, ◌++◌, length, refl, sym, ap, ◌∙◌, subst, arith}
use Rattle.std.proofs.lemmas.Str.{encode_same}
use Rattle.std.specs.Char.{encode_utf8, IsScalar}
use Rattle.std.specs.Str.{IsUtf8}
use Rattle.wtf8_core.specs.CodePoint.{encode}
use Rattle.wtf8_core.specs.Covered.{StartsWithNoCharacter}
use Rattle.wtf8_core.specs.Occurrence.{IsPrefix, OccursNowhere}
use Rattle.wtf8_core.proofs.lemmas.forms.ByStd.{form_encode}
use Rattle.os_args.specs.Word.{Kind, Long, LongBytes, Short, ShortBytes, Value, dash, equals, StartsWithDigit, StartsWithFraction, StartsAsNegative, IsName, IsNamed, IsFlag, IsLongOption, IsShortOption, IsReadAs}

pub tails : {A : Type 0} {a b : A} {x y : List A} → a ∷ x ≡ b ∷ y → x ≡ y
tails e = cc

pub heads : {A : Type 0} {a b : A} {x y : List A} → a ∷ x ≡ b ∷ y → a ≡ b
heads e = cc

-- where one name ends, the other has no `=` there
clash : (m rest left : List ℕ) (y : ℕ) → OccursNowhere equals (y ∷ m) → ((rest ≡ []) ⊎ IsPrefix equals rest) → rest ≡ y ∷ (m ++ left) → ⊥
clash m rest left y none (inl e) j = let never = sym e ∙ j in cc
clash m rest left y none (inr f) j =
    none 0 (record { before = []; after = m; joined = ap (λ x. x ∷ m) (heads (sym j ∙ f.joined)); index = refl })

later : (x : ℕ) (n : List ℕ) → OccursNowhere equals (x ∷ n) → OccursNowhere equals n
later x n h i s = h (1 + i) (record { before = x ∷ s.before; after = s.after; joined = ap (λ l. x ∷ l) s.joined; index = let p = s.index in omega arith })

-- the first `=` is where the name ends
one_end : (n m rest left : List ℕ) → OccursNowhere equals n → OccursNowhere equals m → ((rest ≡ []) ⊎ IsPrefix equals rest) → ((left ≡ []) ⊎ IsPrefix equals left) → n ++ rest ≡ m ++ left → (n ≡ m) × (rest ≡ left)
one_end [] [] rest left a b h k e = (refl, e)
one_end [] (y ∷ m) rest left a b h k e = absurd (clash m rest left y b h e)
one_end (x ∷ n) [] rest left a b h k e = absurd (clash n left rest x a k (sym e))
one_end (x ∷ n) (y ∷ m) rest left a b h k e =
    let r = one_end n m rest left (later x n a) (later y m b) h k (tails e) in
    (ap (λ z. z ∷ n) (heads e) ∙ ap (λ z. y ∷ z) r.0, r.1)

one_name : (s n m rest left : List ℕ) → IsName s n rest → IsName s m left → (n ≡ m) × (rest ≡ left)
one_name s n m rest left a b = one_end n m rest left a.no_equals b.no_equals a.end b.end (sym a.joined ∙ b.joined)

one_named : (s : List ℕ) (kind other : Kind) (rest left : List ℕ) → IsNamed s kind rest → IsNamed s other left → (kind ≡ other) × (rest ≡ left)
one_named s (Long n) (Long m) rest left a b = let r = one_name s n m rest left a.1 b.1 in (ap Long r.0, r.1)
one_named s (Long n) (LongBytes m) rest left a b = absurd (b.0 (subst IsUtf8 (one_name s n m rest left a.1 b.1).0 a.0))
one_named s (Long n) (Short c) rest left a b = absurd b
one_named s (Long n) (ShortBytes all) rest left a b = absurd b
one_named s (Long n) (Value v) rest left a b = absurd b
one_named s (LongBytes n) (Long m) rest left a b = absurd (a.0 (subst IsUtf8 (sym (one_name s n m rest left a.1 b.1).0) b.0))
one_named s (LongBytes n) (LongBytes m) rest left a b = let r = one_name s n m rest left a.1 b.1 in (ap LongBytes r.0, r.1)
one_named s (LongBytes n) (Short c) rest left a b = absurd b
one_named s (LongBytes n) (ShortBytes all) rest left a b = absurd b
one_named s (LongBytes n) (Value v) rest left a b = absurd b
one_named s (Short c) other rest left a b = absurd a
one_named s (ShortBytes all) other rest left a b = absurd a
one_named s (Value v) other rest left a b = absurd a

-- a character is first, or none is
not_uncovered : (s rest : List ℕ) (c : ℕ) → IsScalar c → s ≡ encode_utf8 c ++ rest → ¬ (StartsWithNoCharacter s)
not_uncovered s rest c scalar e uncovered = uncovered (length (encode c)) (record {
  char = c;
  scalar = scalar;
  occurs = record { before = []; after = rest; joined = e ∙ ap (λ x. x ++ rest) (sym (form_encode c)); index = refl };
  end = omega arith;
})

pub one_flag : (s : List ℕ) (kind other : Kind) (rest left : List ℕ) → IsFlag s kind rest → IsFlag s other left → (kind ≡ other) × (rest ≡ left)
one_flag s (Long n) other rest left a b = absurd a
one_flag s (LongBytes n) other rest left a b = absurd a
one_flag s (Short c) (Long n) rest left a b = absurd b
one_flag s (Short c) (LongBytes n) rest left a b = absurd b
one_flag s (Short c) (Short d) rest left a b = let r = encode_same c d rest left (sym a.1 ∙ b.1) in (ap Short r.0, r.1)
one_flag s (Short c) (ShortBytes all) rest left a b = absurd (not_uncovered s rest c a.0 a.1 b.1.1.0)
one_flag s (Short c) (Value v) rest left a b = absurd b
one_flag s (ShortBytes all) (Long n) rest left a b = absurd b
one_flag s (ShortBytes all) (LongBytes n) rest left a b = absurd b
one_flag s (ShortBytes all) (Short c) rest left a b = absurd (not_uncovered s left c b.0 b.1 a.1.1.0)
one_flag s (ShortBytes all) (ShortBytes every) rest left a b = (ap ShortBytes (a.0 ∙ sym b.0), a.1.1.1 ∙ sym b.1.1.1)
one_flag s (ShortBytes all) (Value v) rest left a b = absurd b
one_flag s (Value v) other rest left a b = absurd a

-- what follows two dashes starts no number
no_digit : (n t : List ℕ) → n ≡ dash ++ t → ¬ (StartsWithDigit n)
no_digit n t e h = let same = heads (sym e ∙ h.joined) in let low = h.from in omega arith

no_fraction : (n t : List ℕ) → n ≡ dash ++ t → ¬ (StartsWithFraction n)
no_fraction n t e h = let same = heads (sym e ∙ h.joined) in omega arith

no_number : (n t : List ℕ) → n ≡ dash ++ t → StartsWithDigit n ⊎ StartsWithFraction n → ⊥
no_number n t e (inl h) = no_digit n t e h
no_number n t e (inr h) = no_fraction n t e h

long_short : (numbers : Bool) (s : List ℕ) (kind other : Kind) (rest left : List ℕ) → IsLongOption s kind rest → IsShortOption numbers s other left → ⊥
long_short numbers s kind other rest left a b = b.one_dash (record { rest = a.text; joined = tails (sym b.joined ∙ a.joined) })

long_operand : (numbers : Bool) (s : List ℕ) (kind : Kind) (rest : List ℕ) → IsLongOption s kind rest → (s ≡ dash) ⊎ (¬ (IsPrefix dash s) ⊎ (IsTrue numbers × StartsAsNegative s)) → ⊥
long_operand numbers s kind rest a (inl e) = let never = tails (sym a.joined ∙ e) in cc
long_operand numbers s kind rest a (inr (inl n)) = n (record { rest = dash ++ a.text; joined = a.joined })
long_operand numbers s kind rest a (inr (inr h)) = no_number h.1.number a.text (tails (sym h.1.joined ∙ a.joined)) h.1.starts

short_operand : (numbers : Bool) (s : List ℕ) (kind : Kind) (rest : List ℕ) → IsShortOption numbers s kind rest → (s ≡ dash) ⊎ (¬ (IsPrefix dash s) ⊎ (IsTrue numbers × StartsAsNegative s)) → ⊥
short_operand numbers s kind rest a (inl e) = a.some (tails (sym a.joined ∙ e))
short_operand numbers s kind rest a (inr (inl n)) = n (record { rest = a.flags; joined = a.joined })
short_operand numbers s kind rest a (inr (inr h)) = a.no_number h.0 h.1

pub one_reading : (numbers : Bool) (s : List ℕ) (kind other : Kind) (rest left : List ℕ) → IsReadAs numbers s kind rest → IsReadAs numbers s other left → (kind ≡ other) × (rest ≡ left)
one_reading numbers s kind other rest left (inl a) (inl b) =
    one_named a.text kind other rest left a.named (subst (λ t. IsNamed t other left) (tails (tails (sym b.joined ∙ a.joined))) b.named)
one_reading numbers s kind other rest left (inl a) (inr (inl b)) = absurd (long_short numbers s kind other rest left a b)
one_reading numbers s kind other rest left (inl a) (inr (inr b)) = absurd (long_operand numbers s kind rest a b.operand)
one_reading numbers s kind other rest left (inr (inl a)) (inl b) = absurd (long_short numbers s other kind left rest b a)
one_reading numbers s kind other rest left (inr (inl a)) (inr (inl b)) =
    one_flag a.flags kind other rest left a.flag (subst (λ t. IsFlag t other left) (tails (sym b.joined ∙ a.joined)) b.flag)
one_reading numbers s kind other rest left (inr (inl a)) (inr (inr b)) = absurd (short_operand numbers s kind rest a b.operand)
one_reading numbers s kind other rest left (inr (inr a)) (inl b) = absurd (long_operand numbers s other left b a.operand)
one_reading numbers s kind other rest left (inr (inr a)) (inr (inl b)) = absurd (short_operand numbers s other left b a.operand)
one_reading numbers s kind other rest left (inr (inr a)) (inr (inr b)) = (a.value ∙ sym b.value, a.whole ∙ sym b.whole)
