-- Files say one thing of a path.
use Rattle.std.proofs.Common.{◌≡◌, ◌⊎◌, inl, inr, ◌<◌, ◌≤◌, ◌+◌, nat_lt, ℕ, Bool, true, false, List, [], ◌∷◌, ◌++◌, take, length, refl, sym, ap, ◌∙◌, subst, arith, length-append}
use Rattle.std.specs.List.{AllByRecursion}
use Rattle.std.proofs.lemmas.Bool.Decides.{nat_tests}
use Rattle.os_ignore.specs.declared.line.Line.{Line}
use Rattle.os_ignore.specs.declared.file.File.{File}
use Rattle.os_ignore.specs.declared.verdict.Verdict.{Verdict}
use Rattle.os_ignore.specs.declared.verdict.Verdict.TheVariants.{Neither, Ignored, TakenIn}
use Rattle.os_ignore.specs.Components.{IsCut}
use Rattle.os_ignore.specs.Matching.{LineMatches}
use Rattle.os_ignore.specs.Verdicts.{NoneMatches, IsLastMatch, FileDecides, FileIsSilent, Decides, IsOwn, is_ignored, AreShown, IsHidden, IsVerdict}
use Rattle.os_ignore.specs.Verdicts as rule
use Rattle.os_ignore.proofs.lemmas.Rests.{one_rest, take_front}

-- the last of a list that holds
module _ {X : Type 0} (None_ : X → Type 0) where
  pub not_between : (front : List X) (x : X) (back : List X) → AllByRecursion None_ (front ++ x ∷ back) → None_ x
  not_between [] x back h = h.0
  not_between (y ∷ front) x back h = not_between front x back h.1

  pub one_last : (front : List X) (x : X) (back : List X) (front2 : List X) (x2 : X) (back2 : List X) → front ++ x ∷ back ≡ front2 ++ x2 ∷ back2 → AllByRecursion None_ back → AllByRecursion None_ back2 → (None_ x → ⊥) → (None_ x2 → ⊥) → x ≡ x2
  one_last [] x back [] x2 back2 e n n2 h h2 = cc
  one_last [] x back (y ∷ front2) x2 back2 e n n2 h h2 = let f : back ≡ front2 ++ x2 ∷ back2 = cc in absurd (h2 (not_between front2 x2 back2 (subst (AllByRecursion None_) f n)))
  one_last (y ∷ front) x back [] x2 back2 e n n2 h h2 = let f : back2 ≡ front ++ x ∷ back = cc in absurd (h (not_between front x back (subst (AllByRecursion None_) f n2)))
  one_last (y ∷ front) x back (z ∷ front2) x2 back2 e n n2 h h2 = let f : front ++ x ∷ back ≡ front2 ++ x2 ∷ back2 = cc in one_last front x back front2 x2 back2 f n n2 h h2

module _ {A : Type 0} where
  one_line : (path : List ℕ) (is_dir : Bool) (lines : List (Line A)) (a b : Line A) → IsLastMatch path is_dir lines a → IsLastMatch path is_dir lines b → a ≡ b
  one_line path is_dir lines a b h k =
      one_last (λ line. LineMatches line path is_dir → ⊥) h.front a h.back k.front b k.back (sym h.joined ∙ k.joined) h.none_after k.none_after (λ n. n h.matches) (λ n. n k.matches)

  decides_one : (path : List ℕ) (is_dir : Bool) (file : File A) (a b : Line A) → FileDecides path is_dir file a → FileDecides path is_dir file b → a ≡ b
  decides_one path is_dir file a b h k =
      one_line k.rest is_dir file.lines.items a b (subst (λ z. IsLastMatch z is_dir file.lines.items a) (one_rest file.directory.items path h.rest k.rest h.below k.below) h.last) k.last

  not_silent : (path : List ℕ) (is_dir : Bool) (file : File A) (line : Line A) → FileDecides path is_dir file line → FileIsSilent path is_dir file → ⊥
  not_silent path is_dir file line h s =
      not_between (λ l. LineMatches l h.rest is_dir → ⊥) h.last.front line h.last.back (subst (NoneMatches h.rest is_dir) h.last.joined (s h.rest h.below)) h.last.matches

  module _ (files : List (File A)) (path : List ℕ) (is_dir : Bool) where
    one_file : {t u : Bool} {f m g n : ℕ} → (h : Decides files path is_dir t f m) → (k : Decides files path is_dir u g n) → h.file ≡ k.file
    one_file h k = one_last (FileIsSilent path is_dir) h.front h.file h.back k.front k.file k.back (sym h.joined ∙ k.joined) h.none_after k.none_after (not_silent path is_dir h.file h.line h.decides) (not_silent path is_dir k.file k.line k.decides)

    same_line : {t u : Bool} {f m g n : ℕ} → (h : Decides files path is_dir t f m) → (k : Decides files path is_dir u g n) → h.line ≡ k.line
    same_line h k = decides_one path is_dir k.file h.line k.line (subst (λ z. FileDecides path is_dir z h.line) (one_file h k) h.decides) k.decides

    same_numbers : {t u : Bool} {f m g n : ℕ} → Decides files path is_dir t f m → Decides files path is_dir u g n → (f ≡ g) × (m ≡ n) × (t ≡ u)
    same_numbers h k = (
      sym h.numbers.0 ∙ ap (λ z. z.number) (one_file h k) ∙ k.numbers.0,
      sym h.numbers.1 ∙ ap (λ z. z.number) (same_line h k) ∙ k.numbers.1,
      sym h.taken ∙ ap (λ z. z.takes_in) (same_line h k) ∙ k.taken,
    )

    someone_speaks : {t : Bool} {f m : ℕ} → Decides files path is_dir t f m → AllByRecursion (FileIsSilent path is_dir) files → ⊥
    someone_speaks h s = not_silent path is_dir h.file h.line h.decides (not_between (FileIsSilent path is_dir) h.front h.file h.back (subst (AllByRecursion (FileIsSilent path is_dir)) h.joined s))

    pub one_own : (v w : Verdict) → IsOwn files path is_dir v → IsOwn files path is_dir w → v ≡ w
    one_own Neither Neither h k = refl
    one_own Neither (Ignored g n) h k = absurd (someone_speaks k h)
    one_own Neither (TakenIn g n) h k = absurd (someone_speaks k h)
    one_own (Ignored f m) Neither h k = absurd (someone_speaks h k)
    one_own (TakenIn f m) Neither h k = absurd (someone_speaks h k)
    one_own (Ignored f m) (Ignored g n) h k = let s = same_numbers h k in ap (λ z. Ignored z m) s.0 ∙ ap (λ z. Ignored g z) s.1
    one_own (TakenIn f m) (TakenIn g n) h k = let s = same_numbers h k in ap (λ z. TakenIn z m) s.0 ∙ ap (λ z. TakenIn g z) s.1
    one_own (Ignored f m) (TakenIn g n) h k = let s = same_numbers h k in let never : false ≡ true = s.2 in absurd cc
    one_own (TakenIn f m) (Ignored g n) h k = let s = same_numbers h k in let never : true ≡ false = s.2 in absurd cc

less_same_more : (a b : ℕ) → (a < b) ⊎ ((a ≡ b) ⊎ (b < a))
less_same_more a b = cases (nat_lt a b) refl
  where
    more : (a ≡ b) ⊎ (b < a) → (a < b) ⊎ ((a ≡ b) ⊎ (b < a))
    more h = inr h

    cases : (v : Bool) → nat_lt a b ≡ v → (a < b) ⊎ ((a ≡ b) ⊎ (b < a))
    cases true e = inl (grind (arith, nat_tests))
    cases false e = again (nat_lt b a) refl
      where
        again : (v : Bool) → nat_lt b a ≡ v → (a < b) ⊎ ((a ≡ b) ⊎ (b < a))
        again true f = inr (inr (grind (arith, nat_tests)))
        again false f =
            let k : b ≤ a = grind (arith, nat_tests) in
            let l : a ≤ b = grind (arith, nat_tests) in
            inr (inl (omega arith))

module _ {A : Type 0} (files : List (File A)) (path : List ℕ) where
  -- a directory that is ignored isn't shown
  hidden_and_shown : (n : ℕ) (v : Verdict) (h : IsHidden files path v) → length h.front < n → AreShown files path n → ⊥
  hidden_and_shown n v h l shown =
      let s = shown h.front h.back h.above l in
      let e : v ≡ s.verdict = one_own files h.front true v s.verdict h.own s.own in
      let never : true ≡ false = sym h.ignored ∙ ap is_ignored e ∙ s.shown in cc

  shorter : (front back : List ℕ) → IsCut 0x2F path front back → length front < length path
  shorter front back c = let e = ap length c in let k : length (front ++ 0x2F ∷ back) ≡ length front + (length back + 1) = simp length-append (omega arith) in omega arith

  same_front : (a b c d : List ℕ) → IsCut 0x2F path a b → IsCut 0x2F path c d → length a ≡ length c → a ≡ c
  same_front a b c d k l e = sym (take_front a (0x2F ∷ b)) ∙ ap (take (length a)) (sym k ∙ l) ∙ ap (λ z. take z (c ++ 0x2F ∷ d)) e ∙ take_front c (0x2F ∷ d)

  one_hidden : (v w : Verdict) → IsHidden files path v → IsHidden files path w → v ≡ w
  one_hidden v w h k = go (less_same_more (length h.front) (length k.front))
    where
      go : (length h.front < length k.front) ⊎ ((length h.front ≡ length k.front) ⊎ (length k.front < length h.front)) → v ≡ w
      go (inl l) = absurd (hidden_and_shown (length k.front) v h l k.first)
      go (inr (inl e)) = one_own files k.front true v w (subst (λ z. IsOwn files z true v) (same_front h.front h.back k.front k.back h.above k.above e) h.own) k.own
      go (inr (inr l)) = absurd (hidden_and_shown (length h.front) w k l h.first)

  pub one : (is_dir : Bool) (v w : Verdict) → IsVerdict files path is_dir v → IsVerdict files path is_dir w → v ≡ w
  one is_dir v w (rule.hidden h) (rule.hidden k) = one_hidden v w h k
  one is_dir v w (rule.hidden h) (rule.own s k) = absurd (hidden_and_shown (length path) v h (shorter h.front h.back h.above) s)
  one is_dir v w (rule.own s h) (rule.hidden k) = absurd (hidden_and_shown (length path) w k (shorter k.front k.back k.above) s)
  one is_dir v w (rule.own s h) (rule.own t k) = one_own files path is_dir v w h k

pub one_verdict : {A : Type 0} → (files : List (File A)) → (path : List ℕ) → (is_dir : Bool) → (v : Verdict) → (w : Verdict) → IsVerdict files path is_dir v → IsVerdict files path is_dir w → v ≡ w
one_verdict files path is_dir v w h k = one files path is_dir v w h k
