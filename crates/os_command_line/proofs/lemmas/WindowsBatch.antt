-- Whether a path is a batch file's, unit by unit.
use Rattle.std.proofs.Common.{◌≡◌, ◌≢◌, ℕ, ◌≤◌, Bool, true, false, ◌||◌, ◌&&◌, List, [], ◌∷◌, length, refl, sym, ◌∙◌, subst, arith, inl, inr}
use Rattle.std.specs.Prelude.{◌⊎◌, ◌↔◌, IsTrue}
use Rattle.std.specs.List.{AllByRecursion}
use Rattle.std.proofs.lemmas.Bool.{true≢false}
use Rattle.os_command_line.specs.WindowsBatch.{IsLetter, IsBatchExtension, IsVerbatim, EndsAsBatch, EndsInDots, is_separator}
use Rattle.os_command_line.specs.WindowsBatch.EndsAsBatch.{here as batch_here, later as batch_later}
use Rattle.os_command_line.specs.WindowsBatch.EndsInDots.{here, later}
use Rattle.os_command_line.specs.WindowsSteps.{TakesUnit, BeginsVerbatim}

-- the last three units are these, those before them end as a batch file's or not, and the others come after them
abbrev pub Rest : (ℕ → Type 0) → Bool → ℕ → ℕ → ℕ → List ℕ → Type 0
Rest D is_batch dot first second left = (IsTrue is_batch × AllByRecursion D left) ⊎ EndsAsBatch D (dot ∷ first ∷ second ∷ left)

-- which is what the whole path is asked
abbrev pub IsRest : (ℕ → Type 0) → List ℕ → Bool → ℕ → ℕ → ℕ → List ℕ → Type 0
IsRest D all is_batch dot first second left = Rest D is_batch dot first second left ↔ EndsAsBatch D all

not_true : (b : Bool) → b ≡ false → IsTrue b → ⊥
not_true b e t = true≢false (sym t ∙ e)

no_dot_by : (u : ℕ) → u ≡ 0 → u ≢ 0x2E
no_dot_by u e f = omega (arith, e, f)

module _ {D : ℕ → Type 0} where
  no_dot : (u : ℕ) (us : List ℕ) → u ≢ 0x2E → EndsAsBatch D (u ∷ us) → EndsAsBatch D us
  no_dot _ _ n (batch_here x y z after h d) = absurd (n refl)
  no_dot _ _ n (batch_later u us e) = e

  inverted : (dot x y z : ℕ) (after : List ℕ) → EndsAsBatch D (dot ∷ x ∷ y ∷ z ∷ after) → ((dot ≡ 0x2E) × (IsBatchExtension x y z × AllByRecursion D after)) ⊎ EndsAsBatch D (x ∷ y ∷ z ∷ after)
  inverted _ _ _ _ _ (batch_here x y z after h d) = inl (refl, (h, d))
  inverted _ _ _ _ _ (batch_later u us e) = inr e

  begun : (dot x y z : ℕ) (after : List ℕ) → dot ≡ 0x2E → IsBatchExtension x y z → AllByRecursion D after → EndsAsBatch D (dot ∷ x ∷ y ∷ z ∷ after)
  begun dot x y z after e h d = subst (λ u. EndsAsBatch D (u ∷ x ∷ y ∷ z ∷ after)) (sym e) (batch_here x y z after h d)

  long : (us : List ℕ) → EndsAsBatch D us → 4 ≤ length us
  long _ (batch_here x y z after h d) = omega arith
  long _ (batch_later u us e) = omega (arith, long us e)

  too_short : (dot first second : ℕ) → EndsAsBatch D (dot ∷ first ∷ second ∷ []) → ⊥
  too_short dot first second e = omega (arith, long (dot ∷ first ∷ second ∷ []) e)

  pub none_read : (all left : List ℕ) → left ≡ all → IsRest D all false 0 0 0 left
  none_read all left e = subst (λ us. IsRest D us false 0 0 0 left) e (whole, λ h. inr (batch_later 0 _ (batch_later 0 _ (batch_later 0 _ h))))
    where
      whole : Rest D false 0 0 0 left → EndsAsBatch D left
      whole (inl h) = absurd (not_true false refl h.0)
      whole (inr h) = no_dot _ _ (no_dot_by 0 refl) (no_dot _ _ (no_dot_by 0 refl) (no_dot _ _ (no_dot_by 0 refl) h))

  pub all_read : (all left : List ℕ) (is_batch : Bool) (dot first second : ℕ) → IsRest D all is_batch dot first second left → left ≡ [] → IsTrue is_batch ↔ EndsAsBatch D all
  all_read all left is_batch dot first second r e = (λ t. rest.0 (inl (t, tt)), λ h. only (rest.1 h))
    where
      rest : IsRest D all is_batch dot first second []
      rest = subst (IsRest D all is_batch dot first second) e r

      only : Rest D is_batch dot first second [] → IsTrue is_batch
      only (inl h) = h.0
      only (inr h) = absurd (too_short dot first second h)

  -- a unit that isn't dropped
  pub kept_read : (all left more : List ℕ) (is_batch next : Bool) (dot first second u : ℕ) → IsRest D all is_batch dot first second left → left ≡ u ∷ more → ¬ (D u) → (IsTrue next ↔ ((dot ≡ 0x2E) × IsBatchExtension first second u)) → IsRest D all next first second u more
  kept_read all left more is_batch next dot first second u r e n is = (λ h. rest.0 (back h), λ h. forth (rest.1 h))
    where
      rest : IsRest D all is_batch dot first second (u ∷ more)
      rest = subst (IsRest D all is_batch dot first second) e r

      back : Rest D next first second u more → Rest D is_batch dot first second (u ∷ more)
      back (inl h) = let known = is.0 h.0 in inr (begun dot first second u more known.0 known.1 h.1)
      back (inr h) = inr (batch_later dot _ h)

      forth : Rest D is_batch dot first second (u ∷ more) → Rest D next first second u more
      forth (inl h) = absurd (n h.1.0)
      forth (inr h) = elim (inverted dot first second u more h) [
        | inl k ↦ inl (is.1 (k.0, k.1.0), k.1.1)
        | inr k ↦ inr k
      ]

  -- one that is
  pub dropped_read : (all left more : List ℕ) (is_batch : Bool) (dot first second u : ℕ) → IsRest D all is_batch dot first second left → left ≡ u ∷ more → D u → ((u ≡ 0x2E) ⊎ (u ≡ 0x20)) → IsRest D all is_batch first second u more
  dropped_read all left more is_batch dot first second u r e d is = (λ h. rest.0 (back h), λ h. forth (rest.1 h))
    where
      rest : IsRest D all is_batch dot first second (u ∷ more)
      rest = subst (IsRest D all is_batch dot first second) e r

      no_letter : (lower : ℕ) → 0x61 ≤ lower → IsLetter lower u → ⊥
      no_letter lower m (inl h) = elim is [ inl i ↦ omega (arith, h, i, m) | inr i ↦ omega (arith, h, i, m) ]
      no_letter lower m (inr h) = elim is [ inl i ↦ omega (arith, h, i, m) | inr i ↦ omega (arith, h, i, m) ]

      no_extension : IsBatchExtension first second u → ⊥
      no_extension (inl h) = no_letter 0x74 (omega arith) h.2
      no_extension (inr h) = no_letter 0x64 (omega arith) h.2

      back : Rest D is_batch first second u more → Rest D is_batch dot first second (u ∷ more)
      back (inl h) = inl (h.0, (d, h.1))
      back (inr h) = inr (batch_later dot _ h)

      forth : Rest D is_batch dot first second (u ∷ more) → Rest D is_batch first second u more
      forth (inl h) = inl (h.0, h.1.1)
      forth (inr h) = elim (inverted dot first second u more h) [
        | inl k ↦ absurd (no_extension k.1.0)
        | inr k ↦ inr k
      ]

-- ---- a last component of dots

-- what is known of the component so far: it has only units that are dropped, and so are those that are left; or the last component is to come
abbrev pub Left : (ℕ → Type 0) → Bool → Bool → List ℕ → Type 0
Left D first dots left = (IsTrue dots × AllByRecursion D left) ⊎ EndsInDots D first left

begun_so : (first dots : Bool) → IsTrue dots → IsTrue (first || dots)
begun_so true dots t = refl
begun_so false dots t = t

-- which is what the whole path is asked
abbrev pub IsLeft : (ℕ → Type 0) → List ℕ → Bool → Bool → List ℕ → Type 0
IsLeft D all first dots left = Left D first dots left ↔ EndsInDots D true all

module _ {D : ℕ → Type 0} where
  has_one : (first : Bool) (us : List ℕ) → EndsInDots D first us → 1 ≤ length us
  has_one _ _ (here u us d a) = omega arith
  has_one _ _ (later first u us e) = omega arith

  no_end : (first : Bool) → EndsInDots D first [] → ⊥
  no_end first e = omega (arith, has_one first [] e)

  pub none_left : (all left : List ℕ) → left ≡ all → IsLeft D all true false left
  none_left all left e = subst (λ us. IsLeft D us true false left) e (whole, λ h. inr h)
    where
      whole : Left D true false left → EndsInDots D true left
      whole (inl h) = absurd (not_true false refl h.0)
      whole (inr h) = h

  pub all_left : (all left : List ℕ) (first dots : Bool) → IsLeft D all first dots left → left ≡ [] → IsTrue dots ↔ EndsInDots D true all
  all_left all left first dots r e = (λ t. rest.0 (inl (t, tt)), λ h. only (rest.1 h))
    where
      rest : IsLeft D all first dots []
      rest = subst (IsLeft D all first dots) e r

      only : Left D first dots [] → IsTrue dots
      only (inl h) = h.0
      only (inr h) = absurd (no_end first h)

  at_end : (first dots : Bool) (u : ℕ) (us : List ℕ) → EndsInDots D first (u ∷ us) → ((IsTrue (first || dots) × (D u × AllByRecursion D us)) ⊎ EndsInDots D (is_separator u) us)
  at_end _ dots _ _ (here u us d a) = inl (refl, (d, a))
  at_end _ dots _ _ (later first u us e) = inr e

  so_far : (first dots : Bool) (u : ℕ) (us : List ℕ) → IsTrue (first || dots) → D u → AllByRecursion D us → Left D first dots (u ∷ us)
  so_far true dots u us t d a = inr (here u us d a)
  so_far false dots u us t d a = inl (t, (d, a))

  -- one more unit
  pub unit_left : (all left more : List ℕ) (first dots next : Bool) (u : ℕ) → IsLeft D all first dots left → left ≡ u ∷ more → (IsTrue next ↔ (IsTrue (first || dots) × D u)) → IsLeft D all (is_separator u) next more
  unit_left all left more first dots next u r e is = (λ h. rest.0 (back h), λ h. forth (rest.1 h))
    where
      rest : IsLeft D all first dots (u ∷ more)
      rest = subst (IsLeft D all first dots) e r

      back : Left D (is_separator u) next more → Left D first dots (u ∷ more)
      back (inl h) = let known = is.0 h.0 in so_far first dots u more known.0 known.1 h.1
      back (inr h) = inr (later first u more h)

      forth : Left D first dots (u ∷ more) → Left D (is_separator u) next more
      forth (inl h) = inl (is.1 (begun_so first dots h.0, h.1.0), h.1.1)
      forth (inr h) = elim (at_end first dots u more h) [
        | inl k ↦ inl (is.1 (k.0, k.1.0), k.1.1)
        | inr k ↦ inr k
      ]

pub goes_on : {D : Type 0} (so_far dropped : Bool) → (IsTrue dropped ↔ D) → IsTrue (so_far && dropped) ↔ (IsTrue so_far × D)
goes_on true dropped is = (λ t. (refl, is.0 t), λ h. is.1 h.1)
goes_on false dropped is = (λ t. absurd (not_true false refl t), λ h. h.0)

pub either : {A B : Type 0} (x y : Bool) → (IsTrue x ↔ A) → (IsTrue y ↔ B) → IsTrue (x || y) ↔ (A ⊎ B)
either true y f g = (λ t. inl (f.0 refl), λ h. refl)
either false y f g = (λ t. inr (g.0 t), λ h. elim h [ inl a ↦ absurd (not_true false refl (f.1 a)) | inr b ↦ g.1 b ])

-- ---- verbatim paths

taken : (us rest after : List ℕ) (u x : ℕ) → TakesUnit us u rest → us ≡ x ∷ after → (u ≡ x) × (rest ≡ after)
taken us rest after u x (inl h) e = (cc, cc)
taken us rest after u x (inr h) e = absurd (none (sym h.0 ∙ e))
  where
    none : [] ≡ x ∷ after → ⊥
    none f = cc

some_taken : (us rest : List ℕ) (u : ℕ) → TakesUnit us u rest → u ≢ 0 → us ≡ u ∷ rest
some_taken us rest u (inl h) n = h
some_taken us rest u (inr h) n = absurd (n h.1)

pub verbatim_by : (path a b c d : List ℕ) (first second third fourth : ℕ) → TakesUnit path first a → TakesUnit a second b → TakesUnit b third c → TakesUnit c fourth d → BeginsVerbatim first second third fourth ↔ IsVerbatim path
verbatim_by path a b c d first second third fourth s t u v = (to, from)
  where
    not_zero : (second ≡ 0x5C) ⊎ (second ≡ 0x3F) → second ≢ 0
    not_zero (inl e) = λ z. omega (arith, e, z)
    not_zero (inr e) = λ z. omega (arith, e, z)

    to : BeginsVerbatim first second third fourth → IsVerbatim path
    to h =
        let one = some_taken path a first s (λ z. omega (arith, h.0, z)) in
        let two = some_taken a b second t (not_zero h.1.0) in
        let three = some_taken b c third u (λ z. omega (arith, h.1.1.0, z)) in
        let four = some_taken c d fourth v (λ z. omega (arith, h.1.1.1, z)) in
        let e = h.0 in let f = h.1.1.0 in let g = h.1.1.1 in
        (second, d, h.1.0, cc)

    from : IsVerbatim path → BeginsVerbatim first second third fourth
    from h =
        let one = taken path a _ first _ s h.3 in
        let two = taken a b _ second _ t one.1 in
        let three = taken b c _ third _ u two.1 in
        let four = taken c d _ fourth _ v three.1 in
        (one.0, (subst (λ x. (x ≡ 0x5C) ⊎ (x ≡ 0x3F)) (sym two.0) h.2, (three.0, four.0)))

-- ---- tests that answer a bool

pub not_so : (b : Bool) → ¬ (IsTrue b) → b ≡ false
not_so true n = absurd (n refl)
not_so false n = refl

pub both_ways : {A B C : Type 0} → A ↔ B → B ↔ C → A ↔ C
both_ways f g = (λ a. g.0 (f.0 a), λ c. f.1 (g.1 c))
