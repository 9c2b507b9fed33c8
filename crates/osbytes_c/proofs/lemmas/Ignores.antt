-- What is reported of each path, one after the other.
use Rattle.std.proofs.Common.{◌≡◌, ℕ, suc, ◌+◌, List, [], ◌∷◌, ◌++◌, length, take, refl, sym, subst, ap, ◌∙◌, ◌≤◌, ◌<◌, arith}
use Rattle.std.proofs.lemmas.List.{take_all}
use Rattle.os_ignore.specs.declared.file.File.{File}
use Rattle.std.specs.declared.alloc.Global.{Global}
use Rattle.osbytes_c.specs.declared.ignores.Report.{Report}
use Rattle.osbytes_c.specs.Ignores.{IsPathReported, ArePathsReported, IsIgnoreReported, AreReportedOf}
use Rattle.osbytes_c.specs.ItemLists.{Views, AreItems}

pub one_more_path : (files : List (File Global)) (flags : List ℕ) (number at : ℕ) (paths : List (List ℕ)) (rest : List Report) (path : List ℕ) (reported : Report)
    → ArePathsReported files flags number paths rest → at ≡ number + length paths → IsPathReported files flags at path reported → ArePathsReported files flags number (paths ++ path ∷ []) (rest ++ reported ∷ [])
one_more_path files flags number at [] [] path reported are e is = (subst (λ n. IsPathReported files flags n path reported) (omega (arith, e)) is, tt)
one_more_path files flags number at [] (other ∷ rest) path reported are e is = absurd are
one_more_path files flags number at (first ∷ paths) [] path reported are e is = absurd are
one_more_path files flags number at (first ∷ paths) (other ∷ rest) path reported are e is =
    (are.0, one_more_path files flags (suc number) at paths rest path reported are.1 (omega (arith, e)) is)

-- where there was room, all is there
pub reported_there : (file flags : List ℕ) (paths : Views) (old new : List Report) (count : ℕ) → IsIgnoreReported file flags paths old new count → count ≤ length old → AreReportedOf file flags paths (take count new)
reported_there file flags paths old new count t within =
    let w = t.reported.written in
    let all = take_all (length old) t.reported.reported (omega (arith, w.count_is, within)) in
    record {
      files = t.files;
      only = t.only;
      names = t.reported.names;
      are_names = t.reported.are_names;
      are = subst (ArePathsReported t.files flags 0 t.reported.names) (sym all ∙ w.prefix) t.reported.are;
    }

-- as much is reported as there are paths
as_many_reported : (files : List (File Global)) (flags : List ℕ) (number : ℕ) (names : List (List ℕ)) (reported : List Report) → ArePathsReported files flags number names reported → length reported ≡ length names
as_many_reported files flags number [] [] are = refl
as_many_reported files flags number [] (one ∷ reported) are = absurd are
as_many_reported files flags number (name ∷ names) [] are = absurd are
as_many_reported files flags number (name ∷ names) (one ∷ reported) are = ap suc (as_many_reported files flags (suc number) names reported are.1)

-- where there was too little room, the paths are more
pub more_paths : (file flags : List ℕ) (paths : Views) (old new : List Report) (count : ℕ) → IsIgnoreReported file flags paths old new count → length old < count
    → (names : List (List ℕ)) × (AreItems paths names × (length old < length names))
more_paths file flags paths old new count t short =
    let as_many = as_many_reported t.files flags 0 t.reported.names t.reported.reported t.reported.are in
    (t.reported.names, (t.reported.are_names, omega (arith, short, t.reported.written.count_is, as_many)))
