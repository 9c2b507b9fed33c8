-- The directories above a path that are above another too, and the one that a path is in.
use Rattle.std.proofs.Common.{◌≡◌, ◌⊎◌, inl, inr, ◌<◌, ◌≤◌, ◌+◌, ◌-◌, nat_eq, cond, ℕ, zero, suc, Bool, true, false, List, [], ◌∷◌, ◌++◌, Option, Some, None, take, drop, get_or, slice_get, length, sym, ap, ◌∙◌, subst, arith, append_assoc, take-append-drop}
use Rattle.std.specs.List.{All}
use Rattle.std.proofs.lemmas.Bool.Decides.{nat_tests}
use Rattle.std.proofs.lemmas.List.{get_or-take, length-take-le, take-append-le, take-take, take_more}
use Rattle.std.proofs.lemmas.Option.{get_or_from_slice_get, slice_get_cases}
use Rattle.std.proofs.lemmas.List.Elements.{All-nil, All-push, All-take, All-get_or}
use Rattle.os_ignore.specs.declared.file.File.{File}
use Rattle.os_ignore.specs.declared.verdict.Verdict.{Verdict}
use Rattle.os_ignore.specs.declared.walk.Above.{Above}
use Rattle.os_ignore.specs.Above.{IsDecided, IsIn}
use Rattle.os_ignore.specs.Links.{IsUpTo}
use Rattle.os_ignore.specs.Verdicts.{IsVerdict}

slash_within : (path : List ℕ) (i : ℕ) → get_or path i 0 ≡ 0x2F → i < length path
slash_within [] i e = let never : 0 ≡ 0x2F = e in absurd cc
slash_within (x ∷ path) zero e = omega arith
slash_within (x ∷ path) (suc i) e = let l = slash_within path i e in omega arith

-- what holds of each element holds of one that is found
pub at_slice : {X : Type 0} (P : X → Type 0) (xs : List X) (i : ℕ) (x : X) → slice_get xs i ≡ Some x → All P xs → P x
at_slice {X} P xs i x e h = go (slice_get_cases xs i).1
  where
    go : ((y : X) × (i < length xs) × (slice_get xs i ≡ Some y) × (get_or xs i y ≡ y)) ⊎ ((length xs ≤ i) × (slice_get xs i ≡ None)) → P x
    go (inl found) = subst P (get_or_from_slice_get xs i x x e) (All-get_or P xs i x found.1 h)
    go (inr past) = let never : None ≡ Some x = sym past.1 ∙ e in absurd cc

-- what two lists share is the front of both
pub rejoined : (path other : List ℕ) (count : ℕ) → take count path ≡ take count other → take count path ++ drop count other ≡ other
rejoined path other count same = ap (λ z. z ++ drop count other) same ∙ take-append-drop count other

-- what is cut to its front and added to keeps its front
pub front_kept : (old cut new extra : List ℕ) (count : ℕ) (added : Bool) → count ≤ length old → cut ≡ take count old → new ≡ cond added (cut ++ extra) cut → take count old ≡ take count new
front_kept old cut new extra count true l e f =
    let size : length (take count old) ≡ count = length-take-le count old l in
    let whole : take count (take count old ++ extra) ≡ take count (take count old) = take-append-le count (take count old) extra (omega arith) in
    sym (ap (take count) f ∙ ap (λ z. take count (z ++ extra)) e ∙ whole ∙ take-take count count old (omega arith))
front_kept old cut new extra count false l e f = sym (ap (take count) f ∙ ap (take count) e ∙ take-take count count old (omega arith))

module _ {A : Type 0} (files : List (File A)) where
  moved : (path other : List ℕ) (count : ℕ) (directory : Above) → take count path ≡ take count other → directory.start ≤ count → IsDecided files path directory → IsDecided files other directory
  moved path other count directory same l h =
      let p = h.0 in
      let low : directory.start - 1 < count = omega arith in
      let front : take (directory.start - 1) path ≡ take (directory.start - 1) other = sym (take-take (directory.start - 1) count path (omega arith)) ∙ ap (take (directory.start - 1)) same ∙ take-take (directory.start - 1) count other (omega arith) in
      let byte : get_or other (directory.start - 1) 0 ≡ get_or path (directory.start - 1) 0 = sym (get_or-take count other (directory.start - 1) 0 low) ∙ ap (λ z. get_or z (directory.start - 1) 0) (sym same) ∙ get_or-take count path (directory.start - 1) 0 low in
      let whole : take directory.start path ≡ take directory.start other = sym (take-take directory.start count path l) ∙ ap (take directory.start) same ∙ take-take directory.start count other l in
      (p, (byte ∙ h.1.0, (subst (λ z. ∥ IsVerdict files z true directory.verdict ∥₁) front h.1.1.0, subst (λ z. ∥ IsUpTo z files directory.files ∥₁) whole h.1.1.1)))

  -- the directories that lie within what two paths share are above both
  pub all_moved : (path other : List ℕ) (count kept : ℕ) (above : List Above) → take count path ≡ take count other → All (λ directory. directory.start ≤ count) (take kept above) → All (IsDecided files path) above → All (IsDecided files other) (take kept above)
  all_moved path other count kept above same short h k d l =
      moved path other count (get_or (take kept above) k d) same (short k d l) (All-take (IsDecided files path) kept above h k d l)

  -- a slash ends a directory
  pub decided_at : (path : List ℕ) (end : ℕ) (verdict : Verdict) (count : ℕ) → get_or path end 0 ≡ 0x2F → ∥ IsVerdict files (take end path) true verdict ∥₁ → IsUpTo (take (end + 1) path) files count → IsDecided files path (record { start = end + 1; verdict = verdict; files = count })
  decided_at path end verdict count e h u =
      let same : end + 1 - 1 ≡ end = omega arith in
      (omega arith, (subst (λ z. get_or path z 0 ≡ 0x2F) (sym same) e, (subst (λ z. ∥ IsVerdict files (take z path) true verdict ∥₁) (sym same) h, ∣ u ∣₁)))

  -- a path without a slash is in no directory
  pub in_none : IsIn files [] None
  in_none = All-nil (λ b. nat_eq b 0x2F ≡ false)

  -- a path up to the end of a directory is in it
  pub in_some : (path : List ℕ) (directory : Above) → IsDecided files path directory → IsIn files (take directory.start path) (Some directory.verdict)
  in_some path directory h =
      let p = h.0 in
      let within = slash_within path (directory.start - 1) h.1.0 in
      let same : directory.start - 1 + 1 ≡ directory.start = omega arith in
      let joined : take directory.start path ≡ take (directory.start - 1) path ++ 0x2F ∷ [] = ap (λ z. take z path) (sym same) ∙ take_more path (directory.start - 1) 0 within ∙ ap (λ z. take (directory.start - 1) path ++ z ∷ []) h.1.0 in
      (take (directory.start - 1) path, [], (joined, (in_none, h.1.1.0)))

  -- and so is the path with one more byte, unless that is a slash
  pub in_more : (path : List ℕ) (at : ℕ) (last : Option Verdict) → at < length path → (get_or path at 0 ≡ 0x2F → ⊥) → IsIn files (take at path) last → IsIn files (take (at + 1) path) last
  in_more path at last l n h = subst (λ z. IsIn files z last) (sym (take_more path at 0 l)) (longer last h)
    where
      plain : nat_eq (get_or path at 0) 0x2F ≡ false
      plain = grind (arith, nat_tests)

      longer : (last : Option Verdict) → IsIn files (take at path) last → IsIn files (take at path ++ get_or path at 0 ∷ []) last
      longer None h = All-push (λ b. nat_eq b 0x2F ≡ false) (take at path) (get_or path at 0) h plain
      longer (Some verdict) h = (
        h.0,
        h.1 ++ get_or path at 0 ∷ [],
        (
          ap (λ z. z ++ get_or path at 0 ∷ []) h.2.0 ∙ append_assoc h.0 (0x2F ∷ h.1) (get_or path at 0 ∷ []),
          (All-push (λ b. nat_eq b 0x2F ≡ false) h.1 (get_or path at 0) h.2.1.0 plain, h.2.1.1),
        ),
      )
