-- What is in a directory that is ignored is hidden by what hides the directory.
use Rattle.std.proofs.Common.{◌≡◌, ◌<◌, ◌+◌, ℕ, suc, zero, Bool, true, List, [], ◌∷◌, ◌++◌, take, drop, get_or, length, refl, sym, ap, ◌∙◌, arith, append_assoc, take-append-drop, length-append, length-take}
use Rattle.std.proofs.lemmas.List.{drop_more}
use Rattle.os_ignore.specs.declared.file.File.{File}
use Rattle.os_ignore.specs.declared.verdict.Verdict.{Verdict}
use Rattle.os_ignore.specs.Verdicts.{AreShown, IsVerdict, is_ignored}
use Rattle.os_ignore.specs.Verdicts as rule

cut_front : (front back : List ℕ) (n : ℕ) → length front < n → (rest : List ℕ) × (take n (front ++ 0x2F ∷ back) ≡ front ++ 0x2F ∷ rest)
cut_front [] back zero l = absurd (omega arith)
cut_front [] back (suc n) l = (take n back, refl)
cut_front (x ∷ front) back zero l = absurd (omega arith)
cut_front (x ∷ front) back (suc n) l = let r = cut_front front back n (omega arith) in (r.0, ap (λ z. x ∷ z) r.1)

shorter : (s front back : List ℕ) → s ≡ front ++ 0x2F ∷ back → length front < length s
shorter s front back c =
    let e = ap length c in
    let k : length (front ++ 0x2F ∷ back) ≡ length front + (length back + 1) = simp length-append (omega arith) in
    omega arith

module _ {A : Type 0} (files : List (File A)) (path : List ℕ) (n : ℕ) where
  shown_further : (m : ℕ) → ((k : ℕ) → k < m → k < n) → AreShown files (take n path) m → AreShown files path m
  shown_further m below shown = λ front back cut l.
      let r = cut_front front back n (below (length front) l) in
      shown front r.0 (ap (take n) cut ∙ r.1) l

  pub hidden_too : (is_dir : Bool) (v : Verdict) → n < length path → get_or path n 0 ≡ 0x2F → IsVerdict files (take n path) true v → is_ignored v ≡ true → IsVerdict files path is_dir v
  hidden_too is_dir v l e (rule.hidden k) i =
      let whole : path ≡ k.front ++ 0x2F ∷ (k.back ++ drop n path) = sym (take-append-drop n path) ∙ ap (λ z. z ++ drop n path) k.above ∙ append_assoc k.front (0x2F ∷ k.back) (drop n path) in
      rule.hidden (record {
        front = k.front;
        back = k.back ++ drop n path;
        above = whole;
        own = k.own;
        ignored = k.ignored;
        first = shown_further (length k.front) (λ m h. let e = shorter (take n path) k.front k.back k.above in let t : length (take n path) ≡ n = simp length-take (omega arith) in omega arith) k.first;
      })
  hidden_too is_dir v l e (rule.own s h) i =
      rule.hidden (record {
        front = take n path;
        back = drop (n + 1) path;
        above = sym (take-append-drop n path) ∙ ap (λ z. take n path ++ z) (drop_more path n 0 l ∙ ap (λ z. z ∷ drop (n + 1) path) e);
        own = h;
        ignored = i;
        first = shown_further (length (take n path)) (λ m h. let t : length (take n path) ≡ n = simp length-take (omega arith) in omega arith) s;
      })
