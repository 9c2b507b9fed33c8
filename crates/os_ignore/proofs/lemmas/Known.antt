-- A line that decides a path is a line of one of the files.
use Rattle.std.proofs.Common.{◌≡◌, ◌+◌, ℕ, Bool, true, false, Some, None, List, [], ◌∷◌, ◌++◌, length, refl, sym, ap, ◌∙◌, subst, append_assoc, arith}
use Rattle.std.proofs.lemmas.List.{length-append}
use Rattle.std.specs.Prelude.{Result, Ok, Err}
use Rattle.std.specs.List.{AllByRecursion, slice_get}
use Rattle.os_ignore.specs.Components.{pieces}
use Rattle.os_ignore.specs.Files.{AreLines, AreThere, IsLineRead, IsNextLine, IsThere, SaysLine, list_of, without_mark}
use Rattle.os_ignore.specs.Ignores.{FileHasNoText, HasLineOf, HasNoText}
use Rattle.os_ignore.specs.Verdicts as rule
use Rattle.os_ignore.specs.Verdicts.{Decides, IsOwn, IsVerdict}
use Rattle.os_ignore.specs.declared.file.File.{File}
use Rattle.os_ignore.specs.declared.line.Line.{Line}
use Rattle.os_ignore.specs.declared.reason.NoPattern.{NoPattern}
use Rattle.os_ignore.specs.declared.verdict.Verdict.{Verdict}
use Rattle.os_ignore.specs.declared.verdict.Verdict.TheVariants.{Neither, Ignored, TakenIn}
use Rattle.wildcards.specs.Items.{Reads, concat_of}

-- what is so of all elements is so of one, and of both of two lists
module _ {X : Type 0} (P : X → Type 0) where
  within : (front : List X) (x : X) (back : List X) → AllByRecursion P (front ++ x ∷ back) → P x
  within [] x back a = a.0
  within (y ∷ front) x back a = within front x back a.1

  both : (xs ys : List X) → AllByRecursion P xs → AllByRecursion P ys → AllByRecursion P (xs ++ ys)
  both [] ys a b = b
  both (x ∷ xs) ys a b = (a.0, both xs ys a.1 b)

element_at : {X : Type 0} (front : List X) (x : X) (back : List X) → slice_get (front ++ x ∷ back) (length front) ≡ Some x
element_at [] x back = refl
element_at (y ∷ front) x back = element_at front x back

some_is_none : {X : Type 0} (x : X) → Some x ≡ None → ⊥
some_is_none x e = cc

abbrev lines_of : List ℕ → List (List ℕ)
lines_of content = pieces 0xA (without_mark content)

module _ {A : Type 0} (folds : Bool) (content : List ℕ) where
  abbrev Each : List (Line A) → Type 0
  Each lines = AllByRecursion (IsThere content) lines

  its_line : (number : ℕ) (front : List (List ℕ)) (line : List ℕ) (left : List (List ℕ)) → lines_of content ≡ front ++ line ∷ left → number ≡ length front + 1
      → (text : List ℕ) (says : Result (Line A) NoPattern) → SaysLine folds number text says → Each (list_of says)
  its_line number front line left joined n text (Err reason) s = tt
  its_line number front line left joined n text (Ok read) s =
      (λ none. some_is_none line (sym (ap (λ z. slice_get z (length front)) joined ∙ element_at front line left) ∙ none (length front) (s.0 ∙ n)), tt)

  each_line : (number : ℕ) (front left : List (List ℕ)) (groups : List (List (Line A))) (end : ℕ × List (List ℕ)) → lines_of content ≡ front ++ left → number ≡ length front + 1
      → Reads (IsLineRead folds) (number, left) groups end → Each (concat_of groups)
  each_line number front left [] end joined n r = tt
  each_line number front [] (g ∷ gs) end joined n r = absurd r.1
  each_line number front (line ∷ left) (g ∷ gs) end joined n r =
      let h : IsNextLine folds number line left g r.0 = r.1 in
      let here = subst Each (sym h.said_is) (its_line number front line left joined n h.text h.says h.text_says) in
      let longer = length-append front (line ∷ []) in
      both (IsThere content) g (concat_of gs) here
      (each_line (number + 1) (front ++ line ∷ []) left gs end (joined ∙ sym (append_assoc front (line ∷ []) left)) (omega (arith, n, longer)) (subst (λ z. Reads (IsLineRead folds) z gs end) h.left_is r.2))

  -- the lines of a file have numbers of its lines
  pub all_lines : (lines : List (Line A)) → AreLines folds content lines → AreThere content lines
  all_lines lines a never = never (subst Each (sym a.read.joined) (each_line 1 [] (lines_of content) a.read.lists (a.count, []) refl refl a.read.read))

module _ {A : Type 0} (files : List (File A)) where
  of_decided : (path : List ℕ) (is_dir takes_in : Bool) (file line : ℕ) → Decides files path is_dir takes_in file line → HasNoText files file line → ⊥
  of_decided path is_dir takes_in file line d none =
      let last = d.decides.last in
      let said = within (FileHasNoText file line) d.front d.file d.back (subst (AllByRecursion (FileHasNoText file line)) d.joined none) in
      d.file.there (λ all.
      within (IsThere d.file.content.items) last.front d.line last.back (subst (AllByRecursion (IsThere d.file.content.items)) last.joined all)
      (λ before e. said d.numbers.0 before (sym d.numbers.1 ∙ e)))

  of_own : (path : List ℕ) (is_dir : Bool) (v : Verdict) → IsOwn files path is_dir v → HasLineOf files v
  of_own path is_dir Neither d = tt
  of_own path is_dir (Ignored file line) d = of_decided path is_dir false file line d
  of_own path is_dir (TakenIn file line) d = of_decided path is_dir true file line d

  -- the line of a verdict is there
  of_verdict : (path : List ℕ) (is_dir : Bool) (v : Verdict) → IsVerdict files path is_dir v → HasLineOf files v
  of_verdict path is_dir v (rule.hidden h) = of_own h.front true v h.own
  of_verdict path is_dir v (rule.own shown d) = of_own path is_dir v d

pub known_line : {A : Type 0} (files : List (File A)) (path : List ℕ) (is_dir : Bool) (v : Verdict) → IsVerdict files path is_dir v → HasLineOf files v
known_line files path is_dir v h = of_verdict files path is_dir v h
