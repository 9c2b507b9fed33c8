-- A line that decides a name is a line of one of the files that were read.
use Rattle.std.proofs.Common.{◌≡◌, ◌+◌, ◌<◌, ◌≤◌, ℕ, Bool, true, false, Option, Some, None, List, [], ◌∷◌, ◌++◌, length, sym, ap, ◌∙◌, subst, arith}
use Rattle.std.proofs.lemmas.List.{length-append, length-map}
use Rattle.std.specs.List.{AllByRecursion}
use Rattle.os_ignore.specs.Ignores.{HasLineOf, HasNoText, IsAddedTo}
use Rattle.os_ignore.specs.Verdicts as rule
use Rattle.os_ignore.specs.Verdicts.{Decides, IsOwn, IsVerdict}
use Rattle.os_ignore.specs.declared.file.File.{File}
use Rattle.os_ignore.specs.declared.verdict.Verdict.{Verdict}
use Rattle.os_ignore.specs.declared.verdict.Verdict.TheVariants.{Neither, Ignored, TakenIn}
use Rattle.program_frame.specs.Files.{KnownFiles}
use Rattle.names_commands.specs.Ignoring.{AreAdded, AreRead, FileRead, value_of}
use Rattle.names_commands.specs.Why.{LinesAreKnown, numbers_of}

-- what is so of all elements is so of one, and of all with one more between
module _ {X : Type 0} (P : X → Type 0) where
  pub within : (front : List X) (x : X) (back : List X) → AllByRecursion P (front ++ x ∷ back) → P x
  within [] x back a = a.0
  within (y ∷ front) x back a = within front x back a.1

  between : (before : List X) (x : X) (after : List X) → AllByRecursion P (before ++ after) → P x → AllByRecursion P (before ++ x ∷ after)
  between [] x after a h = (h, a)
  between (y ∷ before) x after a h = (a.0, between before x after a.1 h)

some_is_none : {X : Type 0} (x : X) → Some x ≡ None → ⊥
some_is_none x e = cc

-- the numbers of a verdict
abbrev inside : Option (ℕ × ℕ) → ℕ × ℕ
inside None = (0, 0)
inside (Some numbers) = numbers

-- the number of the file that decides is below the count
abbrev IsVerdictBelow : ℕ → Verdict → Type 0
IsVerdictBelow count Neither = Unit {0}
IsVerdictBelow count (Ignored file line) = file < count
IsVerdictBelow count (TakenIn file line) = file < count

module _ {A : Type 0} where
  module _ (count : ℕ) where
    -- the file's number is below the count
    abbrev IsBelow : File A → Type 0
    IsBelow file = file.number < count

    one_more : (folds : Bool) (directory content : List ℕ) (old new : List (File A)) → IsAddedTo folds directory content old new → length old < count → AllByRecursion IsBelow old → AllByRecursion IsBelow new
    one_more folds directory content old new i few a =
        let number = i.file_is.number_is in
        subst (AllByRecursion IsBelow) (sym i.joined) (between IsBelow i.before i.file i.place.after (subst (AllByRecursion IsBelow) i.place.joined a) (omega (arith, number, few)))

    its_length : (folds : Bool) (directory content : List ℕ) (old new : List (File A)) → IsAddedTo folds directory content old new → length new ≡ length old + 1
    its_length folds directory content old new i =
        let all = ap length i.joined ∙ length-append i.before (i.file ∷ i.place.after) in
        let others = ap length i.place.joined ∙ length-append i.before i.place.after in
        omega (arith, all, others)

    all_more : (folds : Bool) (reads : List FileRead) (old new : List (File A)) → AreAdded folds reads old new → length old + length reads ≤ count → AllByRecursion IsBelow old → AllByRecursion IsBelow new
    all_more folds [] old new e few a = subst (AllByRecursion IsBelow) (sym e) a
    all_more folds (read ∷ reads) old new m few a =
        let longer = its_length folds read.directory read.content old m.0 m.1 in
        all_more folds reads m.0 new m.2 (omega (arith, longer, few)) (one_more folds read.directory read.content old m.0 m.1 (omega (arith, few)) a)

    -- a file that decides is one of the files
    module _ (files : List (File A)) (a : AllByRecursion IsBelow files) where
      of_decided : (path : List ℕ) (is_dir takes_in : Bool) (file line : ℕ) → Decides files path is_dir takes_in file line → file < count
      of_decided path is_dir takes_in file line d =
          let below = within IsBelow d.front d.file d.back (subst (AllByRecursion IsBelow) d.joined a) in
          let number = d.numbers.0 in
          omega (arith, number, below)

      of_own : (path : List ℕ) (is_dir : Bool) (verdict : Verdict) → IsOwn files path is_dir verdict → IsVerdictBelow count verdict
      of_own path is_dir Neither d = tt
      of_own path is_dir (Ignored file line) d = of_decided path is_dir false file line d
      of_own path is_dir (TakenIn file line) d = of_decided path is_dir true file line d

      of_verdict : (path : List ℕ) (is_dir : Bool) (verdict : Verdict) → IsVerdict files path is_dir verdict → IsVerdictBelow count verdict
      of_verdict path is_dir verdict (rule.hidden h) = of_own h.front true verdict h.own
      of_verdict path is_dir verdict (rule.own shown d) = of_own path is_dir verdict d

    -- of the numbers of a verdict, the file is below the count, and its line is there
    same : (files : List (File A)) (f l file line : ℕ) → ◌≡◌ {A = Option (ℕ × ℕ)} (Some (file, line)) (Some (f, l)) → f < count → (HasNoText files f l → ⊥) → (file < count) × (HasNoText files file line → ⊥)
    same files f l file line e below has =
        let f_is = sym (ap (λ o. (inside o).0) e) in
        let l_is = sym (ap (λ o. (inside o).1) e) in
        (subst (λ z. z < count) f_is below, λ none. has (subst (λ z. HasNoText files z l) (sym f_is) (subst (λ z. HasNoText files file z) (sym l_is) none)))

    of_numbers : (files : List (File A)) (verdict : Verdict) (file line : ℕ) → Some (file, line) ≡ numbers_of verdict → IsVerdictBelow count verdict → HasLineOf files verdict → (file < count) × (HasNoText files file line → ⊥)
    of_numbers files Neither file line e below has = absurd (some_is_none (file, line) e)
    of_numbers files (Ignored f l) file line e below has = same files f l file line e below has
    of_numbers files (TakenIn f l) file line e below has = same files f l file line e below has

  pub known_lines : ((files : List (File A)) (path : List ℕ) (is_dir : Bool) (v : Verdict) → IsVerdict files path is_dir v → HasLineOf files v) → (known : KnownFiles) (folds : Bool) (values : List (List ℕ)) (files : List (File A)) → AreRead known folds values files → LinesAreKnown (length values) files
  known_lines has_line known folds values files r name file line d =
      let few = ap length r.values_are ∙ length-map r.reads value_of in
      let all = all_more (length values) folds r.reads [] files r.added (omega (arith, few)) tt in
      of_numbers (length values) files d.verdict file line d.numbers_are (of_verdict (length values) files all d.path d.is_dir d.verdict d.verdict_is) (has_line files d.path d.is_dir d.verdict d.verdict_is)
