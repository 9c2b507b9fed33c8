-- What follows of common bases.
use Rattle.std.proofs.Common.{◌≡◌, ◌⊎◌, inl, inr, ◌+◌, ℕ, List, [], ◌∷◌, ◌++◌, length, sym, ap, ◌∙◌, subst, arith}
use Rattle.std.specs.List.{AllByRecursion}
use Rattle.path_rules.specs.declared.rules.Style.{Style}
use Rattle.path_building.specs.CommonBase.{HaveOnePrefix, HaveOneRoot, BeginAlike, IsApart, IsFirstApart}
use Rattle.path_building.specs.declared.common_bases.CommonBaseError.{CommonBaseError}
use Rattle.path_building.specs.declared.common_bases.CommonBaseError.TheVariants as error

-- of two paths only the second can be apart from the first
pub apart_of_two : (w : Style) (path other : List ℕ) (fault : CommonBaseError) → IsFirstApart w path (other ∷ []) fault
    → ((fault ≡ error.Prefix 1) × ¬ (HaveOnePrefix w path other)) ⊎ ((fault ≡ error.Root 1) × (HaveOnePrefix w path other × ¬ (HaveOneRoot w path other)))
apart_of_two w path other fault h = reason fault (second h.before h.path h.after h.are h.apart)
  where
    second : (before : List (List ℕ)) (found : List ℕ) (after : List (List ℕ)) → other ∷ [] ≡ before ++ found ∷ after → IsApart w path found (length before + 1) fault → IsApart w path other 1 fault
    second [] found after e a = let same : other ≡ found = cc in subst (λ z. IsApart w path z 1 fault) (sym same) a
    second (x ∷ []) found after e a = cc
    second (x ∷ y ∷ before) found after e a = cc

    reason : (f : CommonBaseError) → IsApart w path other 1 f → ((f ≡ error.Prefix 1) × ¬ (HaveOnePrefix w path other)) ⊎ ((f ≡ error.Root 1) × (HaveOnePrefix w path other × ¬ (HaveOneRoot w path other)))
    reason error.NoPath a = absurd a
    reason (error.Prefix at) a = inl (ap error.Prefix a.0, a.1)
    reason (error.Root at) a = inr (ap error.Root a.0, a.1)

-- of three the third is only if the second isn't
pub apart_of_three : (w : Style) (path second third : List ℕ) (fault : CommonBaseError) → IsFirstApart w path (second ∷ third ∷ []) fault
    → fault ≡ error.Prefix 2 → HaveOnePrefix w path second × ¬ (HaveOnePrefix w path third)
apart_of_three w path second third fault h same = cases h.before h.path h.after h.are h.alike (subst (IsApart w path h.path (length h.before + 1)) same h.apart)
  where
    cases : (before : List (List ℕ)) (found : List ℕ) (after : List (List ℕ)) → second ∷ third ∷ [] ≡ before ++ found ∷ after → AllByRecursion (BeginAlike w path) before
        → IsApart w path found (length before + 1) (error.Prefix 2) → HaveOnePrefix w path second × ¬ (HaveOnePrefix w path third)
    cases [] found after e b a = absurd (omega (arith, a.0))
    cases (x ∷ []) found after e b a =
        let first : second ≡ x = cc in
        let last : third ≡ found = cc in
        (subst (HaveOnePrefix w path) (sym first) b.0.0, subst (λ z. ¬ (HaveOnePrefix w path z)) (sym last) a.1)
    cases (x ∷ y ∷ []) found after e b a = cc
    cases (x ∷ y ∷ z ∷ before) found after e b a = cc
