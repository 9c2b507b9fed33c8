-- A byte of ASCII between two strings of a platform makes a string.
use Rattle.std.proofs.Common.{◌≡◌, ◌<◌, ℕ, suc, zero, get_or, List, [], ◌∷◌, ◌++◌, sym, ap, ◌∙◌, subst, arith, append_assoc, lit<}
use Rattle.std.proofs.lemmas.List.{append_cancel_left}
use Rattle.std.proofs.lemmas.Str.{IsUtf8-from_ascii}
use Rattle.std.specs.Str.{IsUtf8}
use Rattle.wtf8_core.specs.OccurrenceLaws.{OccurrenceLaws}

one_text : (c : ℕ) → c < 0x80 → IsUtf8 (c ∷ [])
one_text c low = IsUtf8-from_ascii (c ∷ []) each
  where
    each : (i : ℕ) → get_or (c ∷ []) i 0 < 128
    each zero = low
    each (suc i) = lit< tt

module _ (formed : List ℕ → Type 0) (units : List ℕ → List ℕ) (laws : OccurrenceLaws formed units) where
  -- the string with the units of both and of the byte is their bytes
  joined_is : (a b w : List ℕ) (c : ℕ) → IsUtf8 (c ∷ []) → formed a → formed b → formed w → units w ≡ (units a ++ units (c ∷ [])) ++ units b → w ≡ a ++ c ∷ b
  joined_is a b w c text fa fb fw e =
      let p : List ℕ = c ∷ [] in
      let cut = laws.units_occur p w (units a) (units b) text (omega arith) fw (e ∙ append_assoc (units a) (units p) (units b)) in
      let first : cut.prefix ≡ a = laws.once cut.prefix a cut.formed fa cut.units_are in
      let after = laws.prefixes cut.prefix (p ++ cut.suffix) cut.formed (subst formed cut.joined fw) in
      let rest = laws.prefixes p cut.suffix (laws.texts p text) after.0 in
      let same : units a ++ (units p ++ units b) ≡ units a ++ (units p ++ units cut.suffix) =
      sym (append_assoc (units a) (units p) (units b)) ∙ sym e ∙ ap units cut.joined ∙ after.1 ∙ ap (λ x. x ++ units (p ++ cut.suffix)) cut.units_are ∙ ap (λ x. units a ++ x) rest.1 in
      let last : cut.suffix ≡ b = laws.once cut.suffix b rest.0 fb (sym (append_cancel_left (units p) (units b) (units cut.suffix) (append_cancel_left (units a) (units p ++ units b) (units p ++ units cut.suffix) same))) in
      cut.joined ∙ ap (λ x. x ++ (p ++ cut.suffix)) first ∙ ap (λ x. a ++ c ∷ x) last

  pub around : (a b : List ℕ) (c : ℕ) → c < 0x80 → formed a → formed b → formed (a ++ c ∷ b)
  around a b c low fa fb =
      let text = one_text c low in
      let one = laws.some_join a (c ∷ []) fa (laws.texts (c ∷ []) text) in
      let two = laws.some_join one.0 b one.1.0 fb in
      subst formed (joined_is a b two.0 c text fa fb two.1.0 (two.1.1 ∙ ap (λ x. x ++ units b) one.1.1)) two.1.0
