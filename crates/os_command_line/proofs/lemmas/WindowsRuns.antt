-- The backslashes with which a text ends, by bytes and by units.
use Rattle.std.proofs.Common.{◌≡◌, ◌≢◌, inl, inr, ℕ, ◌+◌, ◌≤◌, eqb, cond, List, [], ◌∷◌, ◌++◌, refl, sym, ap, ◌∙◌, arith}
use Rattle.std.specs.List.{AllByRecursion, flat_map}
use Rattle.std.proofs.lemmas.Bool.{cases_lt, ne_eqb, eq-eqb}
use Rattle.os_command_line.specs.Windows.{backslash}
use Rattle.os_command_line.specs.WindowsSteps.{last_run}
use Rattle.os_command_line.proofs.lemmas.CharacterForms.{IsForm, AreWide}

abbrev pub one_more : ℕ → ℕ → ℕ
one_more n u = cond (eqb u backslash) (n + 1) 0

pub more_is : (n u : ℕ) → u ≢ backslash → one_more n u ≡ 0
more_is n u h = rw (ne_eqb u backslash h) refl

pub slash_more : (n u : ℕ) → u ≡ backslash → one_more n u ≡ n + 1
slash_more n u is = rw (eq-eqb u backslash is) refl

pub run_after : (n : ℕ) (us : List ℕ) (u : ℕ) → u ≢ backslash → last_run n (us ++ u ∷ []) ≡ 0
run_after n [] u h = more_is n u h
run_after n (x ∷ us) u h = run_after (one_more n x) us u h

-- whatever comes before a unit past ASCII
run_past : (xs ys : List ℕ) → AllByRecursion (λ y. 0x80 ≤ y) xs → last_run 0 (xs ++ ys) ≡ last_run 0 ys
run_past [] ys h = refl
run_past (x ∷ xs) ys h = ap (λ n. last_run n (xs ++ ys)) (more_is 0 x (λ e. omega (arith, e, h.0))) ∙ run_past xs ys h.1

run_wide : (n : ℕ) (xs ys : List ℕ) → AreWide xs → last_run n (xs ++ ys) ≡ last_run 0 ys
run_wide n [] ys h = absurd h
run_wide n (x ∷ xs) ys h = ap (λ m. last_run m (xs ++ ys)) (more_is n x (λ e. omega (arith, e, h.0))) ∙ run_past xs ys h.1

-- it is that of the code points, however they are written
module _ (f : ℕ → List ℕ) (form : IsForm f) where
  pub run_is : (n : ℕ) (cs : List ℕ) → last_run n (flat_map f cs) ≡ last_run n cs
  run_is n [] = refl
  run_is n (c ∷ cs) = elim (cases_lt c 0x80) [
    | inl lt ↦ ap (λ z. last_run n (z ++ flat_map f cs)) (form.ascii c lt) ∙ run_is (one_more n c) cs
    | inr ge ↦ run_wide n (f c) (flat_map f cs) (form.wide c ge) ∙ run_is 0 cs ∙ ap (λ m. last_run m cs) (sym (more_is n c (λ e. omega (arith, e, ge))))
  ]
