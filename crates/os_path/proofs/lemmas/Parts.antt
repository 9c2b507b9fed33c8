-- The parts of a well-formed string between separators, which are ASCII, are well formed.
use Rattle.std.proofs.Common.{◌≡◌, ◌<◌, ℕ, Bool, true, false, ◌&&◌, nat_eq, if◌then◌else◌, List, [], ◌∷◌, ◌++◌, Option, Some, None, refl, sym, ap, ◌∙◌, subst, arith, append_assoc, append-nil}
use Rattle.std.specs.List.{slice_split, filter_map, cons_option, AllByRecursion}
use Rattle.std.proofs.lemmas.List.Elements.{All-append, All-cons}
use Rattle.std.proofs.lemmas.List.Splits.{slice_split_none, slice_split_at}
use Rattle.path_rules.specs.declared.rules.Rules.{Rules}
use Rattle.path_rules.specs.declared.rules.Rules.TheVariants as rules
use Rattle.path_rules.specs.Separators.{separates, IsPlain}
use Rattle.path_rules.specs.Component.{Item, ParentDir, Normal, dot, named, components_in}
use Rattle.os_path.specs.Formed.{IsFormed, AreFormed}

-- a string may be cut before an ASCII byte and after it
pub record CutAround (formed : List ℕ → Type 0) (left right : List ℕ) (b : ℕ) : Type 0 where
  pub before : formed left
  pub after : formed right
  pub up_to : formed (left ++ b ∷ [])
  pub from : formed (b ∷ right)

abbrev pub IsCutAtAscii : (List ℕ → Type 0) → Type 0
IsCutAtAscii formed = (left right : List ℕ) (b : ℕ) → b < 0x80 → formed (left ++ b ∷ right) → CutAround formed left right b

module _ (formed : List ℕ → Type 0) (cut : IsCutAtAscii formed) (r : Rules) (ascii : (b : ℕ) → separates r b ≡ true → b < 0x80) where
  -- what was read of the first part comes before
  parts_formed : (s before : List ℕ) → IsPlain r before → formed (before ++ s) → AllByRecursion formed (slice_split (separates r) (before ++ s))
  parts_formed [] before p f =
      let all : before ++ [] ≡ before = append-nil before in
      subst (AllByRecursion formed) (sym (ap (slice_split (separates r)) all ∙ slice_split_none (separates r) before p)) (subst formed all f, tt)
  parts_formed (b ∷ s) before p f = cases (separates r b) refl (λ q. parts_formed s (before ++ b ∷ []) q) (λ q. parts_formed s [] q)
    where
      cases : (v : Bool) → separates r b ≡ v
          → (IsPlain r (before ++ b ∷ []) → formed ((before ++ b ∷ []) ++ s) → AllByRecursion formed (slice_split (separates r) ((before ++ b ∷ []) ++ s)))
          → (IsPlain r [] → formed s → AllByRecursion formed (slice_split (separates r) s))
          → AllByRecursion formed (slice_split (separates r) (before ++ b ∷ s))
      cases true e more next =
          let both = cut before s b (ascii b e) f in
          subst (AllByRecursion formed) (sym (slice_split_at (separates r) before b s p e)) (both.before, next (λ k d l. absurd (omega arith)) both.after)
      cases false e more next =
          let same : (before ++ b ∷ []) ++ s ≡ before ++ b ∷ s = append_assoc before (b ∷ []) s in
          let plain : IsPlain r (before ++ b ∷ []) = All-append (λ c. separates r c ≡ false) before (b ∷ []) p (All-cons (λ c. separates r c ≡ false) b [] e (λ k d l. absurd (omega arith))) in
          subst (λ x. AllByRecursion formed (slice_split (separates r) x)) same (more plain (subst formed (sym same) f))

  -- a part names a component of its own string
  FormedName : Option Item → Type 0
  FormedName None = Unit {0}
  FormedName (Some x) = IsFormed formed x

  either : (b : Bool) (x y : Option Item) → FormedName x → FormedName y → FormedName (if b then x else y)
  either true x y p q = p
  either false x y p q = q

  dot_formed : (q : Rules) → FormedName (dot q)
  unfolding FormedName
  dot_formed rules.Slash = tt
  dot_formed rules.Either = tt
  dot_formed rules.Verbatim = tt

  name_formed : (p : List ℕ) → formed p → FormedName (named r p)
  unfolding FormedName
  name_formed [] f = tt
  name_formed (a ∷ []) f = either (nat_eq a 0x2E) (dot r) (Some (Normal (a ∷ []))) (dot_formed r) f
  name_formed (a ∷ b ∷ []) f = either (nat_eq a 0x2E && nat_eq b 0x2E) (Some ParentDir) (Some (Normal (a ∷ b ∷ []))) tt f
  name_formed (a ∷ b ∷ c ∷ s) f = f

  cons_formed : (x : Option Item) (xs : List Item) → FormedName x → AreFormed formed xs → AreFormed formed (cons_option x xs)
  unfolding FormedName
  cons_formed None xs f g = g
  cons_formed (Some x) xs f g = (f, g)

  names_formed : (ps : List (List ℕ)) → AllByRecursion formed ps → AreFormed formed (filter_map (named r) ps)
  names_formed [] f = tt
  names_formed (p ∷ ps) f = cons_formed (named r p) (filter_map (named r) ps) (name_formed p f.0) (names_formed ps f.1)

  pub body_formed : (s : List ℕ) → formed s → AreFormed formed (components_in r s)
  body_formed s f = names_formed (slice_split (separates r) s) (parts_formed s [] (λ k d l. absurd (omega arith)) f)
