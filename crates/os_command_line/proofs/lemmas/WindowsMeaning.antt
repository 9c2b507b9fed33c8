-- What a text means up to its first quotation mark. Lists are of units.
use Rattle.std.proofs.Common.{◌≡◌, ◌≢◌, inl, inr, ℕ, zero, suc, ◌+◌, ◌/◌, ◌%◌, Bool, true, false, not, List, [], ◌∷◌, ◌++◌, refl, sym, ap, ◌∙◌, arith, append_assoc, append-nil}
use Rattle.std.specs.List.{AllByRecursion}
use Rattle.std.proofs.lemmas.Bool.{cases_eq, ne_eqb, eq-eqb}
use Rattle.os_command_line.specs.declared.windows.place.Place.{Place}
use Rattle.os_command_line.specs.Windows.{backslash, quote, backslashes}
use Rattle.os_command_line.specs.WindowsReader.{index, index_at, output, step, meant}
use Rattle.os_command_line.specs.WindowsSteps.{last_run}
use Rattle.os_command_line.proofs.lemmas.WindowsEachLine.{more_backslashes}
use Rattle.os_command_line.proofs.lemmas.WindowsOneReading.{at, meant_step, meant_end}
use Rattle.os_command_line.proofs.lemmas.WindowsRuns.{more_is, slash_more}

module _ (inside : Bool) where
  slash_step : (n : ℕ) (us : List ℕ) → meant (at inside n) (backslash ∷ us) ≡ meant (at inside (n + 1)) us
  slash_step n us = meant_step (at inside n) backslash us

  other_step : (n u : ℕ) (us : List ℕ) → u ≢ backslash → u ≢ quote → meant (at inside n) (u ∷ us) ≡ backslashes n ++ (u ∷ meant (at inside 0) us)
  other_step n u us s q =
      meant_step (at inside n) u us
      ∙ ap (λ z. z ++ meant (step (at inside n) u) us) output_is
      ∙ ap (λ z. (backslashes n ++ u ∷ []) ++ meant z us) step_is
      ∙ append_assoc (backslashes n) (u ∷ []) (meant (at inside 0) us)
    where
      output_is : output (at inside n) u ≡ backslashes n ++ u ∷ []
      output_is = rw (ne_eqb u backslash s, ne_eqb u quote q) refl

      step_is : step (at inside n) u ≡ at inside 0
      step_is = rw (ne_eqb u backslash s, ne_eqb u quote q) refl

  pub plain_meant : (n : ℕ) (us tail : List ℕ) → AllByRecursion (λ u. u ≢ quote) us → last_run n us ≡ 0 → meant (at inside n) (us ++ tail) ≡ backslashes n ++ (us ++ meant (at inside 0) tail)
  plain_meant n [] tail h e = rw e refl
  plain_meant n (u ∷ us) tail h e = elim (cases_eq u backslash) [
    | inl is ↦
        ap (λ x. meant (at inside n) (x ∷ (us ++ tail))) is
        ∙ slash_step n (us ++ tail)
        ∙ plain_meant (n + 1) us tail h.1 (ap (λ m. last_run m us) (sym (slash_more n u is)) ∙ e)
        ∙ more_backslashes n (us ++ meant (at inside 0) tail)
        ∙ ap (λ x. backslashes n ++ x ∷ (us ++ meant (at inside 0) tail)) (sym is)
    | inr other ↦
        other_step n u (us ++ tail) other h.0
        ∙ ap (λ z. backslashes n ++ u ∷ z) (plain_meant 0 us tail h.1 (ap (λ m. last_run m us) (sym (more_is n u other)) ∙ e))
  ]

  pub slashes_meant : (k n : ℕ) (tail : List ℕ) → meant (at inside n) (backslashes k ++ tail) ≡ meant (at inside (n + k)) tail
  slashes_meant zero n tail = ap (λ m. meant (at inside m) tail) (omega arith)
  slashes_meant (suc k) n tail = slash_step n (backslashes k ++ tail) ∙ slashes_meant k (n + 1) tail ∙ ap (λ m. meant (at inside m) tail) (omega arith)

  pub odd_quote : (k : ℕ) (rest : List ℕ) → k % 2 ≡ 1 → meant (at inside k) (quote ∷ rest) ≡ backslashes (k / 2) ++ (quote ∷ meant (at inside 0) rest)
  odd_quote k rest e =
      meant_step (at inside k) quote rest
      ∙ ap (λ z. z ++ meant (step (at inside k) quote) rest) output_is
      ∙ ap (λ z. (backslashes (k / 2) ++ quote ∷ []) ++ meant z rest) step_is
      ∙ append_assoc (backslashes (k / 2)) (quote ∷ []) (meant (at inside 0) rest)
    where
      output_is : output (at inside k) quote ≡ backslashes (k / 2) ++ quote ∷ []
      output_is = rw (eq-eqb (k % 2) 1 e) refl

      step_is : step (at inside k) quote ≡ at inside 0
      step_is = rw (eq-eqb (k % 2) 1 e) refl

  pub even_quote : (k : ℕ) (rest : List ℕ) → k % 2 ≢ 1 → meant (at inside k) (quote ∷ rest) ≡ backslashes (k / 2) ++ meant (index false inside (not inside) 0) rest
  even_quote k rest n =
      meant_step (at inside k) quote rest
      ∙ ap (λ z. z ++ meant (step (at inside k) quote) rest) output_is
      ∙ ap (λ z. backslashes (k / 2) ++ meant z rest) step_is
    where
      output_is : output (at inside k) quote ≡ backslashes (k / 2)
      output_is = rw (ne_eqb (k % 2) 1 n) refl

      step_is : step (at inside k) quote ≡ index false inside (not inside) 0
      step_is = rw (ne_eqb (k % 2) 1 n) refl

-- after a mark that closes a part it matters only whether a mark is next
pub not_closing : (name closing inside : Bool) (u : ℕ) (us : List ℕ) → u ≢ quote → meant (index name closing inside 0) (u ∷ us) ≡ meant (index name false inside 0) (u ∷ us)
not_closing name closing inside u us h = meant_step (index name closing inside 0) u us ∙ same closing ∙ sym (meant_step (index name false inside 0) u us)
  where
    same : (closing : Bool) → output (index name closing inside 0) u ++ meant (step (index name closing inside 0) u) us ≡ output (index name false inside 0) u ++ meant (step (index name false inside 0) u) us
    same false = refl
    same true = rw (ne_eqb u quote h) refl

pub closing_quote : (name inside : Bool) (us : List ℕ) → meant (index name true inside 0) (quote ∷ us) ≡ quote ∷ meant (at true 0) us
closing_quote name inside us = meant_step (index name true inside 0) quote us

-- of a program's name
module _ (inside : Bool) where
  name_step : (u : ℕ) (us : List ℕ) → u ≢ quote → meant (index true false inside 0) (u ∷ us) ≡ u ∷ meant (index true false inside 0) us
  name_step u us h =
      meant_step (index true false inside 0) u us
      ∙ ap (λ z. z ++ meant (step (index true false inside 0) u) us) output_is
      ∙ ap (λ z. u ∷ meant z us) step_is
    where
      output_is : output (index true false inside 0) u ≡ u ∷ []
      output_is = rw (ne_eqb u quote h) refl

      step_is : step (index true false inside 0) u ≡ index true false inside 0
      step_is = rw (ne_eqb u quote h) refl

  pub name_meant : (us tail : List ℕ) → AllByRecursion (λ u. u ≢ quote) us → meant (index true false inside 0) (us ++ tail) ≡ us ++ meant (index true false inside 0) tail
  name_meant [] tail h = refl
  name_meant (u ∷ us) tail h = name_step u (us ++ tail) h.0 ∙ ap (λ z. u ∷ z) (name_meant us tail h.1)

  pub name_quote : (rest : List ℕ) → meant (index true false inside 0) (quote ∷ rest) ≡ meant (index true false (not inside) 0) rest
  name_quote rest = meant_step (index true false inside 0) quote rest

-- ---- a text without a quotation mark

pub none_meant : (p : Place) (us : List ℕ) → AllByRecursion (λ u. u ≢ quote) us → meant (index_at p) us ≡ us
none_meant p [] h = meant_end (index_at p)
none_meant p (u ∷ us) h = not_closing p.in_name p.closing p.inside u us h.0 ∙ by_kind p.in_name
  where
    bare : (inside : Bool) (n : ℕ) (xs : List ℕ) → AllByRecursion (λ u. u ≢ quote) xs → meant (at inside n) xs ≡ backslashes n ++ xs
    bare inside n [] h = meant_end (at inside n) ∙ sym (append-nil (backslashes n))
    bare inside n (x ∷ xs) h = elim (cases_eq x backslash) [
      | inl is ↦
          ap (λ z. meant (at inside n) (z ∷ xs)) is
          ∙ slash_step inside n xs
          ∙ bare inside (n + 1) xs h.1
          ∙ more_backslashes n xs
          ∙ ap (λ z. backslashes n ++ z ∷ xs) (sym is)
      | inr other ↦ other_step inside n x xs other h.0 ∙ ap (λ z. backslashes n ++ x ∷ z) (bare inside 0 xs h.1)
    ]

    by_kind : (name : Bool) → meant (index name false p.inside 0) (u ∷ us) ≡ u ∷ us
    by_kind true =
        ap (meant (index true false p.inside 0)) (sym (append-nil (u ∷ us)))
        ∙ name_meant p.inside (u ∷ us) [] h
        ∙ ap (λ z. (u ∷ us) ++ z) (meant_end (index true false p.inside 0))
        ∙ append-nil (u ∷ us)
    by_kind false = bare p.inside 0 (u ∷ us) h
