-- What the one file of a tree decides.
use Rattle.std.proofs.Common.{◌≡◌, ℕ, Bool, List, [], ◌∷◌, ◌++◌, length, true, false, refl, sym, ap, ◌∙◌, subst}
use Rattle.std.specs.List.{AllByRecursion}
use Rattle.os_ignore.specs.declared.file.File.{File}
use Rattle.os_ignore.specs.Files.{IsTextAt}
use Rattle.os_ignore.specs.declared.verdict.Verdict.TheVariants.{Ignored, TakenIn}
use Rattle.os_ignore.specs.Ignores.{HasText, IsAddedTo, IsFileAt, IsOnly}
use Rattle.os_ignore.specs.Verdicts.{Decides, IsVerdict, hidden, own}

-- what holds of each element holds of the one between others
between : {X : Type 0} (P : X → Type 0) (front : List X) (x : X) (back : List X) → AllByRecursion P (front ++ x ∷ back) → P x
between P [] x back h = h.0
between P (y ∷ front) x back h = between P front x back h.1

-- the file that is told is that one
its_number : {A : Type 0} (file : File A) (path : List ℕ) (is_dir takes_in : Bool) (number line : ℕ) → Decides (file ∷ []) path is_dir takes_in number line → number ≡ file.number
its_number file path is_dir takes_in number line d =
    sym d.numbers.0 ∙ between (λ z. z.number ≡ file.number) d.front d.file d.back (subst (AllByRecursion (λ z. z.number ≡ file.number)) d.joined (refl, tt))

-- so its number is 0 if the tree has no other
number_of : {A : Type 0} (content : List ℕ) (files : List (File A)) → IsOnly content files → (path : List ℕ) (is_dir takes_in : Bool) (number line : ℕ) → Decides files path is_dir takes_in number line → number ≡ 0
number_of content files only path is_dir takes_in number line d =
    its_number only.file path is_dir takes_in number line (subst (λ z. Decides z path is_dir takes_in number line) only.files_are d) ∙ only.file_is.number_is

pub ignored_number : {A : Type 0} (content : List ℕ) (files : List (File A)) → IsOnly content files → (path : List ℕ) (is_dir : Bool) (number line : ℕ) → IsVerdict files path is_dir (Ignored number line) → number ≡ 0
ignored_number content files only path is_dir number line (hidden h) = number_of content files only h.front true false number line h.own
ignored_number content files only path is_dir number line (own shown d) = number_of content files only path is_dir false number line d

pub taken_number : {A : Type 0} (content : List ℕ) (files : List (File A)) → IsOnly content files → (path : List ℕ) (is_dir : Bool) (number line : ℕ) → IsVerdict files path is_dir (TakenIn number line) → number ≡ 0
taken_number content files only path is_dir number line (hidden h) = number_of content files only h.front true true number line h.own
taken_number content files only path is_dir number line (own shown d) = number_of content files only path is_dir true number line d

-- a line of the file is one of its text
pub its_text : {A : Type 0} (file : File A) (content : List ℕ) (number line : ℕ) (text : List ℕ) → file.content.items ≡ content → HasText (file ∷ []) number line text → IsTextAt content line text
its_text file content number line text e h =
    let own = between (λ z. z.content.items ≡ content) h.front h.file h.back (subst (AllByRecursion (λ z. z.content.items ≡ content)) h.joined (e, tt)) in
    subst (λ z. IsTextAt z line text) own h.has.1

-- the first file that is added is the only one
alone : {X : Type 0} (xs ys : List X) (x : X) → [] ≡ xs ++ ys → xs ++ x ∷ ys ≡ x ∷ []
alone [] [] x e = refl
alone [] (y ∷ ys) x e = let never : [] ≡ y ∷ ys = e in absurd cc
alone (z ∷ xs) ys x e = let never : [] ≡ z ∷ (xs ++ ys) = e in absurd cc

pub first_added : {A : Type 0} (folds : Bool) (content : List ℕ) (old new : List (File A)) → old ≡ [] → IsAddedTo folds [] content old new → (file : File A) × ((new ≡ file ∷ []) × IsFileAt folds 0 [] content file)
first_added folds content old new e a = (
  a.file,
  (a.joined ∙ alone a.before a.place.after a.file (sym e ∙ a.place.joined), subst (λ z. IsFileAt folds z [] content a.file) (ap length e) a.file_is),
)
