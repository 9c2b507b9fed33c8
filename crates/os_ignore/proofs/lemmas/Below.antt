-- What files say of a directory decides each path in it.
use Rattle.std.proofs.Common.{◌≡◌, ◌<◌, ◌+◌, ℕ, Bool, true, false, List, [], ◌∷◌, ◌++◌, length, refl, sym, ap, ◌∙◌, subst, arith, append_assoc, length-append}
use Rattle.std.proofs.Math.Logic.{∥∥₁_map, ∥∥₁_elim}
use Rattle.os_ignore.specs.declared.file.File.{File}
use Rattle.os_ignore.specs.declared.verdict.Verdict.{Verdict}
use Rattle.os_ignore.specs.Components.{IsPlain}
use Rattle.os_ignore.specs.Verdicts.{IsOwn, IsShown, AreShown, IsVerdict, is_ignored}
use Rattle.os_ignore.specs.Verdicts as rule
use Rattle.os_ignore.proofs.lemmas.OneVerdict.{one_verdict}
use Rattle.os_ignore.proofs.lemmas.Cuts.{not_plain}
use Rattle.std.proofs.Props.{props}

cut_length : (front back : List ℕ) → length front < length (front ++ 0x2F ∷ back)
cut_length front back = let k : length (front ++ 0x2F ∷ back) ≡ length front + (length back + 1) = simp length-append (omega arith) in omega arith

-- of two cuts of one list the first ends before the second, at it, or after it
data Cuts (front back directory name : List ℕ) : Type 0 where
  before : (more : List ℕ) → directory ≡ front ++ 0x2F ∷ more → Cuts front back directory name
  same : front ≡ directory → Cuts front back directory name
  after : (more : List ℕ) → name ≡ more ++ 0x2F ∷ back → Cuts front back directory name

cuts : (front back directory name : List ℕ) → front ++ 0x2F ∷ back ≡ directory ++ 0x2F ∷ name → Cuts front back directory name
cuts [] back [] name e = same refl
cuts [] back (x ∷ directory) name e = let h : 0x2F ≡ x = cc in before directory (ap (λ z. z ∷ directory) (sym h))
cuts (x ∷ front) back [] name e = let h : front ++ 0x2F ∷ back ≡ name = cc in after front (sym h)
cuts (x ∷ front) back (y ∷ directory) name e =
    let h : x ≡ y = cc in
    let t : front ++ 0x2F ∷ back ≡ directory ++ 0x2F ∷ name = cc in
    further h (cuts front back directory name t)
  where
    further : x ≡ y → Cuts front back directory name → Cuts (x ∷ front) back (y ∷ directory) name
    further h (before more d) = before more (ap (λ z. z ∷ directory) (sym h) ∙ ap (λ z. x ∷ z) d)
    further h (same d) = same (ap (λ z. z ∷ front) h ∙ ap (λ z. y ∷ z) d)
    further h (after more d) = after more d

module _ {A : Type 0} (files : List (File A)) where
  -- of a path with no slash its own lines decide
  pub own_at_top : (path : List ℕ) (is_dir : Bool) (v : Verdict) → IsPlain 0x2F path → IsOwn files path is_dir v → ∥ IsVerdict files path is_dir v ∥₁
  own_at_top path is_dir v plain h = ∣ rule.own (λ front back cut l. absurd (not_plain 0x2F front back (subst (IsPlain 0x2F) cut plain))) h ∣₁

  module _ (directory name path : List ℕ) (joined : path ≡ directory ++ 0x2F ∷ name) where
    -- what is above a directory is above what is in it
    above : (n : ℕ) → ((m : ℕ) → m < n → m < length directory) → AreShown files directory n → AreShown files path n
    above n short shown front back cut l = go (cuts front back directory name (sym cut ∙ joined))
      where
        go : Cuts front back directory name → IsShown files front
        go (before more d) = shown front more d l
        go (same d) = let k = short (length front) l in let m = ap length d in absurd (omega arith)
        go (after more d) =
            let k = short (length front) l in
            let long : length (directory ++ 0x2F ∷ name) ≡ length directory + (length name + 1) = simp length-append (omega arith) in
            let other : length (front ++ 0x2F ∷ back) ≡ length front + (length back + 1) = simp length-append (omega arith) in
            let all = ap length (sym cut ∙ joined) in
            let inner : length (more ++ 0x2F ∷ back) ≡ length more + (length back + 1) = simp length-append (omega arith) in
            let of_name = ap length d in
            absurd (omega arith)

    hidden_below : (is_dir : Bool) (v : Verdict) → is_ignored v ≡ true → IsVerdict files directory true v → IsVerdict files path is_dir v
    hidden_below is_dir v i (rule.hidden k) =
        rule.hidden (record {
          front = k.front;
          back = k.back ++ 0x2F ∷ name;
          above = joined ∙ ap (λ z. z ++ 0x2F ∷ name) k.above ∙ append_assoc k.front (0x2F ∷ k.back) (0x2F ∷ name);
          own = k.own;
          ignored = k.ignored;
          first = above (length k.front) (λ m l. let e = ap length k.above in let s = cut_length k.front k.back in omega arith) k.first;
        })
    hidden_below is_dir v i (rule.own s h) = rule.hidden (record { front = directory; back = name; above = joined; own = h; ignored = i; first = above (length directory) (λ m l. l) s })

    shown_below : (is_dir : Bool) (u v : Verdict) → is_ignored u ≡ false → IsPlain 0x2F name → IsVerdict files directory true u → IsOwn files path is_dir v → IsVerdict files path is_dir v
    shown_below is_dir u v i plain (rule.hidden k) h = let never : false ≡ true = sym i ∙ k.ignored in absurd cc
    shown_below is_dir u v i plain (rule.own s o) h = rule.own all h
      where
        all : AreShown files path (length path)
        all front back cut l = go (cuts front back directory name (sym cut ∙ joined))
          where
            go : Cuts front back directory name → IsShown files front
            go (before more d) = s front more d (let e = ap length d in let m = cut_length front more in omega arith)
            go (same d) = subst (IsShown files) (sym d) (record { verdict = u; own = o; shown = i })
            go (after more d) = absurd (not_plain 0x2F more back (subst (IsPlain 0x2F) d plain))

    pub hidden_in : (is_dir : Bool) (v : Verdict) → is_ignored v ≡ true → ∥ IsVerdict files directory true v ∥₁ → ∥ IsVerdict files path is_dir v ∥₁
    hidden_in is_dir v i m = ∥∥₁_map m (hidden_below is_dir v i)

    pub own_in : (is_dir : Bool) (u v : Verdict) → is_ignored u ≡ false → IsPlain 0x2F name → ∥ IsVerdict files directory true u ∥₁ → IsOwn files path is_dir v → ∥ IsVerdict files path is_dir v ∥₁
    own_in is_dir u v i plain m h = ∥∥₁_map m (λ k. shown_below is_dir u v i plain k h)

  pub merely : (path : List ℕ) (is_dir : Bool) (v : Verdict) → IsVerdict files path is_dir v → ∥ IsVerdict files path is_dir v ∥₁
  merely path is_dir v h = ∣ h ∣₁

pub walked_verdict : {A : Type 0} → (files : List (File A)) → (path : List ℕ) → (is_dir : Bool) → (v : Verdict) → (w : Verdict) → ∥ IsVerdict files path is_dir v ∥₁ → IsVerdict files path is_dir w → v ≡ w
walked_verdict files path is_dir v w m k = ∥∥₁_elim m (Prim.hlevel props) (λ h. one_verdict files path is_dir v w h k)
