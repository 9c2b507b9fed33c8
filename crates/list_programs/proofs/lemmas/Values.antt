-- The values of an option, read one after the other.
use Rattle.std.proofs.Common.{◌≡◌, ⊎_elim, ℕ, ◌-◌, ◌<◌, ◌≤◌, List, [], ◌∷◌, ◌++◌, length, take, drop, get_or, inl, inr, refl, sym, ap, ◌∙◌, subst, append_assoc, append-nil, arith}
use Rattle.std.proofs.lemmas.List.{nil_from_length, take_rest}
use Rattle.list_programs.specs.declared.arguments.Given.{Given}
use Rattle.list_programs.specs.Arguments.{AddsValue, AreValues}

-- what a pattern `[first, rest @ ..]` shows
pub first_and_rest : {X : Type 0} (xs : List X) (x : X) → 1 ≤ length xs → x ≡ get_or xs 0 x → xs ≡ x ∷ take (length xs - 1) (drop 1 xs)
first_and_rest [] x least is = absurd (omega (arith, least))
first_and_rest (y ∷ ys) x least is = ap (λ z. z ∷ ys) (sym is) ∙ ap (λ l. x ∷ l) (sym (take_rest (y ∷ ys) 1))

module _ {O : Type 0} (option : O) (given left : List (Given O)) where
  pub one_value : (first : Given O) (old new : List (List ℕ)) → 1 ≤ length left → first ≡ get_or left 0 first
      → ((more : List (List ℕ)) → AreValues option left more → AreValues option given (old ++ more)) → AddsValue option first old new
      → (more : List (List ℕ)) → AreValues option (take (length left - 1) (drop 1 left)) more → AreValues option given (new ++ more)
  one_value first old new least is before adds more are =
      let all = sym (first_and_rest left first least is) in
      ⊎_elim
      (λ added. subst (AreValues option given) (sym (ap (λ l. l ++ more) added.1.1 ∙ append_assoc old (added.0 ∷ []) more))
      (before (added.0 ∷ more) (subst (λ l. AreValues option l (added.0 ∷ more)) all (inl (added.0, more, (added.1.0, (are, refl)))))))
      (λ lacks. subst (AreValues option given) (ap (λ l. l ++ more) (sym lacks.1)) (before more (subst (λ l. AreValues option l more) all (inr (lacks.0, are)))))
      adds

  pub no_value : (old : List (List ℕ)) → length left < 1 → ((more : List (List ℕ)) → AreValues option left more → AreValues option given (old ++ more)) → AreValues option given old
  no_value old none before =
      subst (AreValues option given) (append-nil old) (before [] (subst (λ l. AreValues option l []) (sym (nil_from_length left (omega (arith, none)))) refl))
