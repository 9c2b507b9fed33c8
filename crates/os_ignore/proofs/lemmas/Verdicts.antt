-- Directories above a path, one by one.
use Rattle.std.proofs.Common.{◌≡◌, ◌⊎◌, inl, inr, ◌<◌, ◌≤◌, ◌+◌, nat_lt, ℕ, Bool, true, false, List, [], ◌∷◌, ◌++◌, take, drop, get_or, length, refl, sym, ap, ◌∙◌, subst, arith, length-take}
use Rattle.std.proofs.lemmas.Bool.Decides.{nat_tests}
use Rattle.os_ignore.specs.declared.file.File.{File}
use Rattle.os_ignore.specs.declared.verdict.Verdict.{Verdict}
use Rattle.os_ignore.specs.Components.{IsCut}
use Rattle.os_ignore.specs.Verdicts.{IsOwn, is_ignored, AreShown, IsShown, IsVerdict}
use Rattle.os_ignore.specs.Verdicts as rule
use Rattle.os_ignore.proofs.lemmas.Cuts.{cut_at}
use Rattle.os_ignore.proofs.lemmas.Rests.{take_front}

pub at_front : (front back : List ℕ) (s : ℕ) → get_or (front ++ s ∷ back) (length front) 0 ≡ s
at_front [] back s = refl
at_front (x ∷ front) back s = at_front front back s

less_or_same : (a b : ℕ) → a < b + 1 → (a < b) ⊎ (a ≡ b)
less_or_same a b l = cases (nat_lt a b) refl
  where
    cases : (v : Bool) → nat_lt a b ≡ v → (a < b) ⊎ (a ≡ b)
    cases true e = inl (grind (arith, nat_tests))
    cases false e = let k : b ≤ a = grind (arith, nat_tests) in inr (omega arith)

module _ {A : Type 0} (files : List (File A)) (path : List ℕ) (n : ℕ) (shown : AreShown files path n) where
  -- no directory ends here
  pub no_slash : (get_or path n 0 ≡ 0x2F → ⊥) → AreShown files path (n + 1)
  no_slash e = λ front back cut l. go front back cut (less_or_same (length front) n l)
    where
      go : (front back : List ℕ) → IsCut 0x2F path front back → (length front < n) ⊎ (length front ≡ n) → IsShown files front
      go front back cut (inl l) = shown front back cut l
      go front back cut (inr same) = absurd (e (ap (λ z. get_or z n 0) cut ∙ ap (λ z. get_or (front ++ 0x2F ∷ back) z 0) (sym same) ∙ at_front front back 0x2F))

  -- one ends here, and isn't ignored
  pub passed : (v : Verdict) → IsOwn files (take n path) true v → is_ignored v ≡ false → AreShown files path (n + 1)
  passed v h e = λ front back cut l. go front back cut (less_or_same (length front) n l)
    where
      go : (front back : List ℕ) → IsCut 0x2F path front back → (length front < n) ⊎ (length front ≡ n) → IsShown files front
      go front back cut (inl l) = shown front back cut l
      go front back cut (inr same) =
          let here : take n path ≡ front = ap (take n) cut ∙ ap (λ z. take z (front ++ 0x2F ∷ back)) (sym same) ∙ take_front front (0x2F ∷ back) in
          record { verdict = v; own = subst (λ z. IsOwn files z true v) here h; shown = e }

  -- one ends here, and is ignored
  pub hides : (is_dir : Bool) (v : Verdict) → n < length path → get_or path n 0 ≡ 0x2F → IsOwn files (take n path) true v → is_ignored v ≡ true → IsVerdict files path is_dir v
  hides is_dir v l e h i =
      let long : length (take n path) ≡ n = simp length-take (omega arith) in
      rule.hidden (record {
        front = take n path;
        back = drop (n + 1) path;
        above = cut_at 0x2F path n l e;
        own = h;
        ignored = i;
        first = subst (λ z. AreShown files path z) (sym long) shown;
      })
