-- Lines of a file by their numbers.
use Rattle.std.proofs.Common.{◌≡◌, ◌-◌, ◌<◌, ℕ, Some, None, zero, suc, List, ◌∷◌, refl, sym, ap, ◌∙◌, subst, arith}
use Rattle.std.specs.List.{slice_get}
use Rattle.os_ignore.specs.Components.{pieces}
use Rattle.os_ignore.specs.Files.{IsLineText, IsTextAt, NoTextAt, without_mark}

pub later : {X : Type 0} (x : X) (xs : List X) (n : ℕ) → (n ≡ 0 → ⊥) → slice_get (x ∷ xs) n ≡ slice_get xs (n - 1)
later x xs zero e = absurd (e refl)
later x xs (suc n) e = let same : suc n - 1 ≡ n = omega arith in ap (λ z. slice_get xs z) (sym same)

some : (n : ℕ) → (n ≡ 0 → ⊥) → 0 < n
some zero e = absurd (e refl)
some (suc n) e = omega arith

pub no_text : (file : List ℕ) (number : ℕ) → number ≡ 0 → NoTextAt file number
no_text file number e = λ before k. absurd (omega arith)

pub none_there : (file marked : List ℕ) (number : ℕ) → (number ≡ 0 → ⊥) → marked ≡ without_mark file → slice_get (pieces 0xA marked) (number - 1) ≡ None → NoTextAt file number
none_there file marked number e m h = λ before k.
    let same : number - 1 ≡ before = omega arith in
    subst (λ z. slice_get (pieces 0xA (without_mark file)) z ≡ None) same (ap (λ z. slice_get (pieces 0xA z) (number - 1)) (sym m) ∙ h)

pub there : (file marked : List ℕ) (number : ℕ) (line text : List ℕ) → (number ≡ 0 → ⊥) → marked ≡ without_mark file → slice_get (pieces 0xA marked) (number - 1) ≡ Some line → IsLineText line text → IsTextAt file number text
there file marked number line text e m h r =
    let n = some number e in
    record {
      before = number - 1;
      number_is = omega arith;
      line = line;
      line_is = ap (λ z. slice_get (pieces 0xA z) (number - 1)) (sym m) ∙ h;
      read = r;
    }
