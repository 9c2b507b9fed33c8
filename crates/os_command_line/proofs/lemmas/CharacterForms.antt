-- What characters are written as, in bytes and in units: each of ASCII as itself, each other one as numbers past ASCII.
use Rattle.std.proofs.Common.{◌≡◌, ℕ, ◌<◌, ◌≤◌, List, [], ◌∷◌, sym, subst, arith, inl, inr}
use Rattle.std.specs.Char.{encode_utf8}
use Rattle.std.specs.List.{AllByRecursion}
use Rattle.std.proofs.lemmas.Bool.{cases_lt}
use Rattle.std.proofs.lemmas.Str.{encode_ascii}
use Rattle.wtf8_core.specs.CodePoint.{encode, encode_utf16}
use Rattle.wtf8_core.proofs.lemmas.forms.ByStd.{form_encode}
use Rattle.wtf8_core.proofs.lemmas.forms.Shapes.{form_ascii, form_two, form_three, form_past}
use Rattle.wtf8_core.proofs.lemmas.units.OneToOne.{wide_single, wide_pair}

-- some numbers past ASCII
abbrev pub AreWide : List ℕ → Type 0
AreWide [] = ⊥
AreWide (x ∷ xs) = (0x80 ≤ x) × AllByRecursion (λ y. 0x80 ≤ y) xs

pub record IsForm (f : ℕ → List ℕ) : Type 0 where
  pub ascii : (c : ℕ) → c < 0x80 → f c ≡ c ∷ []
  pub wide : (c : ℕ) → 0x80 ≤ c → AreWide (f c)

wide_bytes : (c : ℕ) → 0x80 ≤ c → AreWide (encode c)
wide_bytes c h = elim (cases_lt c 0x800) [
  | inl lt ↦ subst AreWide (sym (form_two c h lt)) (omega arith, (omega arith, tt))
  | inr ge ↦ elim (cases_lt c 0x1_0000) [
    | inl lt ↦ subst AreWide (sym (form_three c ge lt)) (omega arith, (omega arith, (omega arith, tt)))
    | inr past ↦ subst AreWide (sym (form_past c past)) (omega arith, (omega arith, (omega arith, (omega arith, tt))))
  ]
]

pub bytes_form : IsForm encode
bytes_form = record { ascii = form_ascii; wide = wide_bytes }

pub text_form : IsForm encode_utf8
text_form = record { ascii = encode_ascii; wide = λ c h. subst AreWide (form_encode c) (wide_bytes c h) }

wide_units : (c : ℕ) → 0x80 ≤ c → AreWide (encode_utf16 c)
wide_units c h = elim (cases_lt c 0x1_0000) [
  | inl lt ↦ subst AreWide (sym (wide_single c lt)) (h, tt)
  | inr past ↦ subst AreWide (sym (wide_pair c past)) (omega arith, (omega arith, tt))
]

pub units_form : IsForm encode_utf16
units_form = record { ascii = λ c h. wide_single c (omega (arith, h)); wide = wide_units }

-- what holds of each number past ASCII holds of each number of such a character
module _ (P : ℕ → Type 0) (past : (x : ℕ) → 0x80 ≤ x → P x) where
  all_past : (xs : List ℕ) → AllByRecursion (λ y. 0x80 ≤ y) xs → AllByRecursion P xs
  all_past [] h = tt
  all_past (x ∷ xs) h = (past x h.0, all_past xs h.1)

  pub all_wide : (xs : List ℕ) → AreWide xs → AllByRecursion P xs
  all_wide [] h = absurd h
  all_wide (x ∷ xs) h = all_past (x ∷ xs) h

  pub each_of : (f : ℕ → List ℕ) → IsForm f → (c : ℕ) → P c → AllByRecursion P (f c)
  each_of f form c h = elim (cases_lt c 0x80) [
    | inl lt ↦ subst (AllByRecursion P) (sym (form.ascii c lt)) (h, tt)
    | inr ge ↦ all_wide (f c) (form.wide c ge)
  ]
