-- The first pattern that matches a name, and what is written of it.
use Rattle.std.proofs.Common.{◌≡◌, ◌<◌, inl, inr, ℕ, List, [], ◌∷◌, Option, Some, None, Result, refl, sym, subst, arith}
use Rattle.std.specs.Prelude.{⊤}
use Rattle.std.specs.List.{AllByRecursion, slice_get}
use Rattle.os_str_bytes.specs.Platform.{Ghosts}
use Rattle.glob_patterns.specs.Letters.{letters_of}
use Rattle.glob_patterns.specs.declared.glob_set.GlobSet.{GlobSet}
use Rattle.wildcards.specs.Sets.{AreHits, Has, IsHit}
use Rattle.os_ignore.specs.declared.file.File.{File}
use Rattle.list_programs.specs.ListRun.{Runs}
use Rattle.list_programs.specs.declared.fault.ListFault.{ListFault}
use Rattle.list_programs.specs.declared.options.ListOptions.{ListOptions}
use Rattle.names_commands.specs.FirstGlob.{IsFirstHit}
use Rattle.names_commands.specs.Matching.{IsMatchedBy}
use Rattle.names_commands.specs.Why.{IsTextOfDecided, IsTextOfNumbers, Sources, deciding}
use Rattle.names_commands.specs.declared.fault.Rejection.{Rejection}
use Rattle.names_commands.proofs.lemmas.Picked.{same_runs}

-- what all are above isn't below one of them
above : (least i : ℕ) (xs : List ℕ) → AllByRecursion (λ x. least < x) xs → Has xs i → least < i
above least i [] a has = absurd has
above least i (x ∷ xs) a (inl e) = subst (λ n. least < n) (sym e) a.0
above least i (x ∷ xs) a (inr has) = above least i xs a.1 has

module _ {E A : Type 0} (p : Ghosts E) (set : GlobSet E A) (name : List ℕ) where
  abbrev pub AreItsHits : List ℕ → Type 0
  AreItsHits = AreHits set.set.options set.set.patterns.items (letters_of p.units name)

  -- of the patterns that match, the first comes first
  its_first : (index : ℕ) (more : List ℕ) → AreItsHits (index ∷ more) → IsFirstHit p set name index
  its_first index more h = record {
    hit = h.sound index (inl refl);
    first = λ i below hit. later i below (h.complete i hit);
  }
    where
      later : (i : ℕ) → i < index → Has (index ∷ more) i → ⊥
      later i below (inl e) = omega (arith, below, e)
      later i below (inr has) = let over = above index i more h.ascends.0 has in omega (arith, below, over)

  pub first_found : (index : ℕ) (found : List ℕ) → Some index ≡ slice_get found 0 → AreItsHits found → IsFirstHit p set name index
  first_found index [] e h = absurd (cc)
  first_found index (x ∷ more) e h = let same : x ≡ index = cc in its_first index more (subst (λ i. AreItsHits (i ∷ more)) same h)

  pub none_found : (found : List ℕ) → None ≡ slice_get found 0 → AreItsHits found → ¬ (IsMatchedBy p set name)
  none_found [] e h m = h.complete m.0 m.1
  none_found (x ∷ more) e h m = cc

-- what is written for a name by one statement of the first pattern is written by another that it gives
module _ {E A : Type 0} (p : Ghosts E) (First Other : List ℕ → Option ℕ → Type 0) (more : (name : List ℕ) (first : Option ℕ) → First name first → Other name first) (list : ListOptions) (from : Sources) (files : List (File A)) where
  of_numbers : (name text : List ℕ) (numbers : Option (ℕ × ℕ)) → IsTextOfNumbers p First from files name numbers text → IsTextOfNumbers p Other from files name numbers text
  of_numbers name text None t = (t.0, (more name t.0 t.1.0, t.1.1))
  of_numbers name text (Some at) t = t

  of_text : (name text : List ℕ) → IsTextOfDecided p First from files name text → IsTextOfDecided p Other from files name text
  of_text name text t = (t.0, (t.1.0, (t.1.1.0, record { numbers = t.1.1.1.numbers; decided = t.1.1.1.decided; text_is = of_numbers name text t.1.1.1.numbers t.1.1.1.text_is })))

  pub same_deciding : {X : Type 0} (fault : ListFault Rejection → X) (input left old new : Option (List ℕ)) (answer : Result ⊤ X) → Runs (deciding p First list from files) fault input left old new answer → Runs (deciding p Other list from files) fault input left old new answer
  same_deciding = same_runs (deciding p First list from files) (IsTextOfDecided p First from files) (IsTextOfDecided p Other from files) of_text
