-- What a word is read as, where it is known.
use Rattle.std.proofs.Common.{◌≡◌, ◌≢◌, ◌⊎◌, inl, inr, ℕ, Bool, true, false, List, [], ◌∷◌, ◌++◌, Option, Some, None, Result, Ok, Err, refl, sym, ap, ◌∙◌, subst}
use Rattle.os_args.specs.Word.{Kind, dashes, equals, IsReadAs}
use Rattle.os_args.specs.Reading.{Reading, Fault, StartsWithDashes, words_left, after_dashes, IsReadIn, TakesWord}

heads : {A : Type 0} {a b : A} {x y : List A} → a ∷ x ≡ b ∷ y → a ≡ b
heads e = cc

module _ (one : (numbers : Bool) (s : List ℕ) (kind other : Kind) (rest left : List ℕ) → IsReadAs numbers s kind rest → IsReadAs numbers s other left → (kind ≡ other) × (rest ≡ left)) (before : Reading) (word : List ℕ) (more : List (List ℕ)) (kind : Kind) (rest : List ℕ)
    (pending : before.pending ≡ []) (ended : before.ended ≡ false) (first : words_left before ≡ word ∷ more) (other : word ≢ dashes) (read : IsReadAs before.numbers word kind rest) where
  no_dashes : StartsWithDashes before → ⊥
  no_dashes d = other (heads (sym first ∙ d.first))

  pub word_read : (outcome : Result (Option Kind) Fault) (after : Reading) → TakesWord before outcome after → outcome ≡ Ok (Some kind)
  word_read (Ok (Some k)) after (inl f) = absurd (f.some pending)
  word_read (Ok (Some k)) after (inr t) = ap (λ x. Ok (Some x)) (cases t.skips)
    where
      cases : (StartsWithDashes before × (t.between ≡ after_dashes before)) ⊎ (¬ (StartsWithDashes before) × (t.between ≡ before)) → k ≡ kind
      cases (inl d) = absurd (no_dashes d.0)
      cases (inr n) =
          let same : t.word ≡ word = heads (sym t.next ∙ ap words_left n.1 ∙ first) in
          let is : IsReadIn before.ended before.numbers t.word k after.pending = subst (λ r. IsReadIn r.ended r.numbers t.word k after.pending) n.1 t.read in
          let plain : IsReadAs before.numbers word k after.pending = subst (λ w. IsReadAs before.numbers w k after.pending) same (subst (λ b. IsReadIn b before.numbers t.word k after.pending) ended is) in
          (one before.numbers word k kind after.pending rest plain read).0
  word_read (Ok None) after t = absurd (cases t.skips)
    where
      cases : (StartsWithDashes before × (after ≡ after_dashes before)) ⊎ (¬ (StartsWithDashes before) × (after ≡ before)) → ⊥
      cases (inl d) = no_dashes d.0
      cases (inr n) = let never : word ∷ more ≡ [] = sym first ∙ ap words_left (sym n.1) ∙ t.none_left in cc
  word_read (Err fault) after d = let never : equals ++ d.value ≡ [] = sym d.pending ∙ pending in cc
