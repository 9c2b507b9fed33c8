-- What is reported of each item.
use Rattle.std.proofs.Common.{ℕ, List, [], ◌∷◌, ◌++◌, inr}
use Rattle.std.specs.declared.alloc.Global.{Global}
use Rattle.wildcards.specs.declared.options.Options.{Options}
use Rattle.wildcards.specs.declared.set.Pattern.{Pattern}
use Rattle.glob_patterns.specs.declared.options.GlobOptions.{GlobOptions}
use Rattle.osbytes_c.specs.declared.globs.Rejection.{Rejection}
use Rattle.osbytes_c.specs.declared.globs.Rejection.TheVariants.{Memory, Faulty, Fault}
use Rattle.osbytes_c.specs.ItemLists.{Views}
use Rattle.osbytes_c.specs.Globs.{AreCompiled, AreMatchesReported, AreNamesReported, IsListRejection, IsRejection, IsReported, AreEachReported}

pub one_more_reported : (Is : List ℕ → Type 0) (items : List (List ℕ)) (answers : List ℕ) (item : List ℕ) (answer : ℕ) → AreEachReported Is items answers → IsReported (Is item) answer
    → AreEachReported Is (items ++ item ∷ []) (answers ++ answer ∷ [])
one_more_reported Is [] [] item answer are is = (is, tt)
one_more_reported Is [] (other ∷ answers) item answer are is = absurd are
one_more_reported Is (first ∷ items) [] item answer are is = absurd are
one_more_reported Is (first ∷ items) (other ∷ answers) item answer are is = (are.0, one_more_reported Is items answers item answer are.1 is)

module _ (formed : List ℕ → Type 0) (units : List ℕ → List ℕ) (o : GlobOptions) (patterns paths : Views) where
  -- why a set that there is reports nothing
  pub without_paths : (matching : Options) (compiled : List (Pattern Global)) → AreCompiled formed units o patterns matching compiled → (r : Rejection) → IsListRejection formed paths r
      → IsRejection formed units o patterns paths r
  without_paths matching compiled are Memory is = tt
  without_paths matching compiled are Faulty is = inr ((matching, (compiled, are)), is)
  without_paths matching compiled are (Fault fault) is = absurd is

  pub with_paths : (matching : Options) (compiled : List (Pattern Global)) → AreCompiled formed units o patterns matching compiled → (answers : List ℕ)
      → AreNamesReported formed units matching compiled paths answers → AreMatchesReported formed units o patterns paths answers
  with_paths matching compiled are answers reported = record { matching = matching; compiled = compiled; are_compiled = are; are_reported = reported }
