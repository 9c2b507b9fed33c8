-- Readings of code points give those of their bytes and of their units.
use Rattle.std.proofs.Common.{◌≡◌, ◌≢◌, ℕ, zero, suc, ◌+◌, ◌*◌, ◌<◌, ◌≤◌, Bool, true, false, not, List, [], ◌∷◌, ◌++◌, refl, sym, ap, ◌∙◌, subst, arith, append-nil, inl, inr}
use Rattle.std.specs.List.{AllByRecursion, flat_map}
use Rattle.std.proofs.lemmas.Bool.{cases_lt}
use Rattle.os_command_line.specs.Windows.{backslash, quote, IsBlank, backslashes, IsLiteral, Ends, StartsWithNoQuote, Begins, Reads, ReadsName}
use Rattle.os_command_line.specs.Windows.Reads.{ends, literal, escaped, opens, closes, doubled}
use Rattle.os_command_line.specs.Windows.ReadsName.{name_ends, name_quote, name_unit}
use Rattle.os_command_line.proofs.lemmas.CharacterForms.{AreWide, IsForm, all_wide}
use Rattle.os_command_line.proofs.lemmas.WindowsOneReading.{past_blank}
use Rattle.os_command_line.proofs.lemmas.WindowsOwnText.{same}

literal_past : (inside : Bool) (x : ℕ) → 0x80 ≤ x → IsLiteral inside x
literal_past inside x h = record { no_backslash = λ e. omega (arith, e, h); no_quote = λ e. omega (arith, e, h); no_blank = λ _. past_blank x (omega (arith, h)) }

module _ (f : ℕ → List ℕ) (form : IsForm f) where
  pub run_form : (n : ℕ) (xs : List ℕ) → flat_map f (backslashes n ++ xs) ≡ backslashes n ++ flat_map f xs
  run_form zero xs = refl
  run_form (suc n) xs = ap (λ z. z ++ flat_map f (backslashes n ++ xs)) (form.ascii backslash (omega arith)) ∙ ap (λ z. backslash ∷ z) (run_form n xs)

  pub quote_form : (xs : List ℕ) → flat_map f (quote ∷ xs) ≡ quote ∷ flat_map f xs
  quote_form xs = ap (λ z. z ++ flat_map f xs) (form.ascii quote (omega arith))

  pub slashes_form : (n : ℕ) → flat_map f (backslashes n) ≡ backslashes n
  slashes_form n = ap (flat_map f) (sym (append-nil (backslashes n))) ∙ run_form n [] ∙ append-nil (backslashes n)

  blank_form : (u : ℕ) (us : List ℕ) → IsBlank u → flat_map f (u ∷ us) ≡ u ∷ flat_map f us
  blank_form u us (inl e) = ap (λ z. z ++ flat_map f us) (form.ascii u (omega (arith, e)))
  blank_form u us (inr e) = ap (λ z. z ++ flat_map f us) (form.ascii u (omega (arith, e)))

  pub blanks_form : (us xs : List ℕ) → AllByRecursion IsBlank us → flat_map f (us ++ xs) ≡ us ++ flat_map f xs
  blanks_form [] xs h = refl
  blanks_form (u ∷ us) xs h = blank_form u (us ++ xs) h.0 ∙ ap (λ z. u ∷ z) (blanks_form us xs h.1)

  pub ends_form : (inside : Bool) (after : List ℕ) → Ends inside after → Ends inside (flat_map f after)
  ends_form inside [] h = tt
  ends_form true (u ∷ us) h = absurd h
  ends_form false (u ∷ us) h = subst (Ends false) (sym (blank_form u us h)) h

  first_form : (P : List ℕ → Type 0) (c : ℕ) (cs : List ℕ) → (c < 0x80 → P (c ∷ flat_map f cs)) → ((x : ℕ) (xs : List ℕ) → 0x80 ≤ x → P (x ∷ xs)) → P (flat_map f (c ∷ cs))
  first_form P c cs a w = elim (cases_lt c 0x80) [
    | inl lt ↦ subst P (sym (ap (λ z. z ++ flat_map f cs) (form.ascii c lt))) (a lt)
    | inr ge ↦ past (f c) (form.wide c ge)
  ]
    where
      past : (xs : List ℕ) → AreWide xs → P (xs ++ flat_map f cs)
      past [] h = absurd h
      past (x ∷ xs) h = w x (xs ++ flat_map f cs) h.0

  starts_form : (text : List ℕ) → StartsWithNoQuote text → StartsWithNoQuote (flat_map f text)
  starts_form [] h = tt
  starts_form (c ∷ cs) h = first_form StartsWithNoQuote c cs (λ _. h) (λ x xs ge e. omega (arith, ge, e))

  pub begins_form : (text : List ℕ) → Begins text → Begins (flat_map f text)
  begins_form [] h = absurd h
  begins_form (c ∷ cs) h = first_form Begins c cs (λ _. h) (λ x xs ge. past_blank x (omega (arith, ge)))

  -- and back
  pub form_begins : (text : List ℕ) → Begins (flat_map f text) → Begins text
  form_begins [] h = absurd h
  form_begins (c ∷ cs) h = λ b. subst Begins (blank_form c cs b) h b

  literals : (after : List ℕ) (inside : Bool) (xs text argument : List ℕ) → AllByRecursion (λ y. 0x80 ≤ y) xs → Reads after inside text argument → Reads after inside (xs ++ text) (xs ++ argument)
  literals after inside [] text argument h r = r
  literals after inside (x ∷ xs) text argument h r = literal inside 0 x (xs ++ text) (xs ++ argument) (literal_past inside x h.0) (literals after inside xs text argument h.1 r)

  some_literals : (after : List ℕ) (inside : Bool) (n : ℕ) (xs text argument : List ℕ) → AreWide xs → Reads after inside text argument → Reads after inside (backslashes n ++ (xs ++ text)) (backslashes n ++ (xs ++ argument))
  some_literals after inside n [] text argument h r = absurd h
  some_literals after inside n (x ∷ xs) text argument h r = literal inside n x (xs ++ text) (xs ++ argument) (literal_past inside x h.0) (literals after inside xs text argument h.1 r)

  literal_form : (after : List ℕ) (inside : Bool) (n c : ℕ) (text argument : List ℕ) → IsLiteral inside c → Reads after inside text argument → Reads after inside (backslashes n ++ (f c ++ text)) (backslashes n ++ (f c ++ argument))
  literal_form after inside n c text argument l r = elim (cases_lt c 0x80) [
    | inl lt ↦ subst (λ z. Reads after inside (backslashes n ++ (z ++ text)) (backslashes n ++ (z ++ argument))) (sym (form.ascii c lt)) (literal inside n c text argument l r)
    | inr ge ↦ some_literals after inside n (f c) text argument (form.wide c ge) r
  ]

  -- a reading of code points is one of what they are written as
  pub lift : (after : List ℕ) (inside : Bool) (text argument : List ℕ) → Reads after inside text argument → Reads (flat_map f after) inside (flat_map f text) (flat_map f argument)
  lift after _ _ _ (ends inside n e) = same (sym (run_form n after)) (sym (slashes_form n)) (ends inside n (ends_form inside after e))
  lift after _ _ _ (literal inside n u text argument h r) = same (sym (run_form n (u ∷ text))) (sym (run_form n (u ∷ argument))) (literal_form (flat_map f after) inside n u (flat_map f text) (flat_map f argument) h (lift after inside text argument r))
  lift after _ _ _ (escaped inside n text argument r) =
      same (sym (run_form (2 * n + 1) (quote ∷ text) ∙ ap (λ z. backslashes (2 * n + 1) ++ z) (quote_form text))) (sym (run_form n (quote ∷ argument) ∙ ap (λ z. backslashes n ++ z) (quote_form argument)))
      (escaped inside n (flat_map f text) (flat_map f argument) (lift after inside text argument r))
  lift after _ _ _ (opens n text argument r) =
      same (sym (run_form (2 * n) (quote ∷ text) ∙ ap (λ z. backslashes (2 * n) ++ z) (quote_form text))) (sym (run_form n argument)) (opens n (flat_map f text) (flat_map f argument) (lift after true text argument r))
  lift after _ _ _ (closes n text argument h r) =
      same (sym (run_form (2 * n) (quote ∷ text) ∙ ap (λ z. backslashes (2 * n) ++ z) (quote_form text))) (sym (run_form n argument)) (closes n (flat_map f text) (flat_map f argument) (starts_form text h) (lift after false text argument r))
  lift after _ _ _ (doubled n text argument r) =
      same (sym (run_form (2 * n) (quote ∷ quote ∷ text) ∙ ap (λ z. backslashes (2 * n) ++ z) (quote_form (quote ∷ text) ∙ ap (λ z. quote ∷ z) (quote_form text)))) (sym (run_form n (quote ∷ argument) ∙ ap (λ z. backslashes n ++ z) (quote_form argument)))
      (doubled n (flat_map f text) (flat_map f argument) (lift after true text argument r))

  name_same : {after a b x y : List ℕ} {inside : Bool} → a ≡ b → x ≡ y → ReadsName after inside a x → ReadsName after inside b y
  name_same {after} {a} {b} {x} {y} {inside} e g r = subst (λ z. ReadsName after inside z y) e (subst (λ z. ReadsName after inside a z) g r)

  units_of_name : (after : List ℕ) (inside : Bool) (xs text name : List ℕ) → AllByRecursion (λ y. 0x80 ≤ y) xs → ReadsName after inside text name → ReadsName after inside (xs ++ text) (xs ++ name)
  units_of_name after inside [] text name h r = r
  units_of_name after inside (x ∷ xs) text name h r =
      let l = literal_past inside x h.0 in
      name_unit inside x (xs ++ text) (xs ++ name) l.no_quote l.no_blank (units_of_name after inside xs text name h.1 r)

  name_unit_form : (after : List ℕ) (inside : Bool) (c : ℕ) (text name : List ℕ) → c ≢ quote → (inside ≡ false → ¬ (IsBlank c)) → ReadsName after inside text name → ReadsName after inside (f c ++ text) (f c ++ name)
  name_unit_form after inside c text name q b r = elim (cases_lt c 0x80) [
    | inl lt ↦ subst (λ z. ReadsName after inside (z ++ text) (z ++ name)) (sym (form.ascii c lt)) (name_unit inside c text name q b r)
    | inr ge ↦ units_of_name after inside (f c) text name (all_wide (λ y. 0x80 ≤ y) (λ x h. h) (f c) (form.wide c ge)) r
  ]

  pub lift_name : (after : List ℕ) (inside : Bool) (text name : List ℕ) → ReadsName after inside text name → ReadsName (flat_map f after) inside (flat_map f text) (flat_map f name)
  lift_name after _ _ _ (name_ends inside e) = name_ends inside (ends_form inside after e)
  lift_name after _ _ _ (name_quote inside text name r) = name_same (sym (quote_form text)) refl (name_quote inside (flat_map f text) (flat_map f name) (lift_name after (not inside) text name r))
  lift_name after _ _ _ (name_unit inside u text name q b r) = name_unit_form (flat_map f after) inside u (flat_map f text) (flat_map f name) q b (lift_name after inside text name r)
