-- A call has one error for its arguments.
use Rattle.std.proofs.Common.{◌≡◌, ◌≢◌, ◌⊎◌, inl, inr, ℕ, List, [], ◌∷◌, ◌++◌, length, reverse, refl, sym, ap, ◌∙◌, subst, append_assoc}
use Rattle.std.specs.List.{AllByRecursion}
use Rattle.std.proofs.lemmas.List.{reverse-append}
use Rattle.path_rules.specs.declared.rules.Style as whose
use Rattle.path_rules.specs.declared.rules.Style.TheVariants as style
use Rattle.path_rules.specs.Component.{Item, Prefix, RootDir, CurDir, ParentDir, Normal}
use Rattle.path_building.specs.declared.base.BaseError.{BaseError}
use Rattle.path_building.specs.declared.base.BaseError.TheVariants as base_error
use Rattle.path_building.specs.declared.full_paths.AbsoluteError.{AbsoluteError}
use Rattle.path_building.specs.declared.full_paths.AbsoluteError.TheVariants as full
use Rattle.path_building.specs.FullPath.{IsAbsoluteFault}
use Rattle.path_building.specs.declared.walk.NameError.{NameError}
use Rattle.path_building.specs.declared.walk.NameError.TheVariants as error
use Rattle.path_building.specs.Base.{HasNoNul, IsFirstNul}
use Rattle.path_building.specs.Faults.{IsBaseFault, IsFit, HasNoStream, IsFreeOn, Leaves, IsStream, IsReservedName, IsFirstFault, HasFault, IsNameFault}
use Rattle.path_building.specs.Join.{without_dot}
use Rattle.path_building.specs.Normal.{LeadsTo, AreNormalOf}
use Rattle.path_rules.proofs.lemmas.OneList.{one_components}
use Rattle.path_building.proofs.lemmas.Normals.{one_form}
use Rattle.path_building.proofs.lemmas.Resolving.{onto, onto_is, some_form, taken}

-- two items of one list are the same, or one is in front of the other
abbrev Splits : {X : Type 0} → List X → X → List X → X → Type 0
Splits {X} xs x ys y = ((xs ≡ ys) × (x ≡ y)) ⊎ (((m : List X) × (ys ≡ xs ++ x ∷ m)) ⊎ ((m : List X) × (xs ≡ ys ++ y ∷ m)))

behind : {X : Type 0} (z : X) (xs ys : List X) (x y : X) → Splits xs x ys y → Splits (z ∷ xs) x (z ∷ ys) y
behind z xs ys x y (inl e) = inl (ap (λ v. z ∷ v) e.0, e.1)
behind z xs ys x y (inr (inl e)) = inr (inl (e.0, ap (λ v. z ∷ v) e.1))
behind z xs ys x y (inr (inr e)) = inr (inr (e.0, ap (λ v. z ∷ v) e.1))

splits : {X : Type 0} (xs ys us vs : List X) (x y : X) → xs ++ x ∷ us ≡ ys ++ y ∷ vs → Splits xs x ys y
splits [] [] us vs x y e = inl (refl, cc)
splits [] (z ∷ ys) us vs x y e = let first : z ≡ x = cc in inr (inl (ys, ap (λ v. v ∷ ys) first))
splits (z ∷ xs) [] us vs x y e = let first : z ≡ y = cc in inr (inr (xs, ap (λ v. v ∷ xs) first))
splits (z ∷ xs) (q ∷ ys) us vs x y e =
    let first : z ≡ q = cc in
    let later : xs ++ x ∷ us ≡ ys ++ y ∷ vs = cc in
    subst (λ v. Splits (z ∷ xs) x (v ∷ ys) y) first (behind z xs ys x y (splits xs ys us vs x y later))

all_at : {X : Type 0} (P : X → Type 0) (xs m : List X) (x : X) → AllByRecursion P (xs ++ x ∷ m) → P x
all_at P [] m x h = h.0
all_at P (z ∷ xs) m x h = all_at P xs m x h.1

-- the first NUL
nul_there : (s : List ℕ) (i : ℕ) → IsFirstNul s i → HasNoNul s → ⊥
nul_there s i h n = all_at (λ b. b ≢ 0) h.before h.after 0 (subst HasNoNul h.joined n) refl

one_nul : (s : List ℕ) (i j : ℕ) → IsFirstNul s i → IsFirstNul s j → i ≡ j
one_nul s i j h k = by (splits h.before k.before h.after k.after 0 0 (sym h.joined ∙ k.joined))
  where
    by : Splits h.before 0 k.before 0 → i ≡ j
    by (inl e) = h.index_is ∙ ap length e.0 ∙ sym k.index_is
    by (inr (inl e)) = absurd (all_at (λ b. b ≢ 0) h.before e.0 0 (subst HasNoNul e.1 k.none_before) refl)
    by (inr (inr e)) = absurd (all_at (λ b. b ≢ 0) k.before e.0 0 (subst HasNoNul e.1 h.none_before) refl)

pub one_base_fault : (w : whose.Style) (base : List ℕ) (e f : BaseError) → IsBaseFault w base e → IsBaseFault w base f → e ≡ f
one_base_fault w base (base_error.Nul i) (base_error.Nul j) h k = ap base_error.Nul (one_nul base i j h k)
one_base_fault w base (base_error.Nul i) base_error.Incomplete h k = absurd (nul_there base i h k.0)
one_base_fault w base (base_error.Nul i) base_error.Reserved h k = absurd (nul_there base i h k.0)
one_base_fault w base base_error.Incomplete (base_error.Nul j) h k = absurd (nul_there base j k h.0)
one_base_fault w base base_error.Incomplete base_error.Incomplete h k = refl
one_base_fault w base base_error.Incomplete base_error.Reserved h k = absurd (k.1.0 h.1)
one_base_fault w base base_error.Reserved (base_error.Nul j) h k = absurd (nul_there base j k h.0)
one_base_fault w base base_error.Reserved base_error.Incomplete h k = absurd (h.1.0 k.1)
one_base_fault w base base_error.Reserved base_error.Reserved h k = refl

-- no component at fault is in front of another
abbrev Stops : whose.Style → (List Item → Item → Type 0) → Type 0
Stops w P = (front m normal one : List Item) (x : Item) → AreNormalOf front normal → P (without_dot normal) x → AllByRecursion (IsFit w) (front ++ x ∷ m) → AreNormalOf (front ++ x ∷ m) one → ⊥

stops_stream : (w : whose.Style) → Stops w (IsStream w)
stops_stream w front m normal one x form fault fit other = fault (all_at (IsFit w) front m x fit).0

stops_reserved : (w : whose.Style) → Stops w (IsReservedName w)
stops_reserved w front m normal one x form fault fit other = fault.1 (all_at (IsFit w) front m x fit).1

no_name : (s : List ℕ) (normal ys : List Item) → without_dot normal ≡ [] → reverse normal ≡ Normal s ∷ ys → ⊥
no_name s [] ys e f = let never : [] ≡ Normal s ∷ ys = f in cc
no_name s (CurDir ∷ []) ys e f = let never : CurDir ∷ [] ≡ Normal s ∷ ys = f in cc
no_name s (CurDir ∷ x ∷ xs) ys e f = let never : x ∷ xs ≡ [] = e in cc
no_name s (Prefix t ∷ xs) ys e f = let never : Prefix t ∷ xs ≡ [] = e in cc
no_name s (RootDir ∷ xs) ys e f = let never : RootDir ∷ xs ≡ [] = e in cc
no_name s (ParentDir ∷ xs) ys e f = let never : ParentDir ∷ xs ≡ [] = e in cc
no_name s (Normal t ∷ xs) ys e f = let never : Normal t ∷ xs ≡ [] = e in cc

turned : (front m : List Item) → reverse (front ++ ParentDir ∷ m) ≡ onto m (ParentDir ∷ reverse front)
turned front m =
    reverse-append front (ParentDir ∷ m) ∙ ap (λ z. z ++ reverse front) (reverse-append (ParentDir ∷ []) m)
    ∙ append_assoc (reverse m) (ParentDir ∷ []) (reverse front) ∙ sym (onto_is m (ParentDir ∷ reverse front))

stops_leaves : (w : whose.Style) → Stops w Leaves
stops_leaves w front m normal one x form fault fit other =
    let up = subst (λ z. AreNormalOf (front ++ z ∷ m) one) fault.1 other in
    let f = some_form m (ParentDir ∷ reverse front) (reverse one) (subst (λ z. LeadsTo z (reverse one)) (turned front m) up) in
    let t = taken f.1 in no_name t.0 normal f.0 fault.0 (one_form form t.1)

-- the first fault of components
module _ (w : whose.Style) (path : List ℕ) {P Q : List Item → Item → Type 0} (i j : ℕ) (h : HasFault w path i P) (k : HasFault w path j Q) (p : Stops w P) (q : Stops w Q) where
  a : IsFirstFault w h.items i P
  a = h.first

  b : IsFirstFault w h.items j Q
  b = subst (λ z. IsFirstFault w z j Q) (one_components w path k.items h.items k.are h.are) k.first

  met : (a.front ≡ b.front) × (a.item ≡ b.item)
  met = by (splits a.front b.front a.behind b.behind a.item b.item (sym a.joined ∙ b.joined))
    where
      by : Splits a.front a.item b.front b.item → (a.front ≡ b.front) × (a.item ≡ b.item)
      by (inl e) = e
      by (inr (inl e)) = absurd (p a.front e.0 a.normal b.normal a.item a.form a.fault (subst (AllByRecursion (IsFit w)) e.1 b.fit) (subst (λ z. AreNormalOf z b.normal) e.1 b.form))
      by (inr (inr e)) = absurd (q b.front e.0 b.normal a.normal b.item b.form b.fault (subst (AllByRecursion (IsFit w)) e.1 a.fit) (subst (λ z. AreNormalOf z a.normal) e.1 a.form))

  same_index : i ≡ j
  same_index = a.at ∙ ap length met.0 ∙ sym b.at

  apart : ((x : Item) (one other : List Item) → P one x → Q other x → ⊥) → ⊥
  apart n = n b.item (without_dot a.normal) (without_dot b.normal) (subst (P (without_dot a.normal)) met.1 a.fault) b.fault

up_no_stream : (w : whose.Style) (x : Item) → x ≡ ParentDir → HasNoStream w x
up_no_stream style.Unix x e = tt
up_no_stream style.Windows x e = subst (HasNoStream style.Windows) (sym e) tt

up_free : (w : whose.Style) (x : Item) → x ≡ ParentDir → IsFreeOn w x
up_free style.Unix x e = tt
up_free style.Windows x e = subst (IsFreeOn style.Windows) (sym e) tt

leaves_no_stream : (w : whose.Style) (x : Item) (one other : List Item) → Leaves one x → IsStream w other x → ⊥
leaves_no_stream w x one other l s = s (up_no_stream w x l.1)

leaves_no_reserved : (w : whose.Style) (x : Item) (one other : List Item) → Leaves one x → IsReservedName w other x → ⊥
leaves_no_reserved w x one other l s = s.1 (up_free w x l.1)

stream_no_leaves : (w : whose.Style) (x : Item) (one other : List Item) → IsStream w one x → Leaves other x → ⊥
stream_no_leaves w x one other s l = s (up_no_stream w x l.1)

stream_no_reserved : (w : whose.Style) (x : Item) (one other : List Item) → IsStream w one x → IsReservedName w other x → ⊥
stream_no_reserved w x one other s r = s r.0

reserved_no_leaves : (w : whose.Style) (x : Item) (one other : List Item) → IsReservedName w one x → Leaves other x → ⊥
reserved_no_leaves w x one other r l = r.1 (up_free w x l.1)

reserved_no_stream : (w : whose.Style) (x : Item) (one other : List Item) → IsReservedName w one x → IsStream w other x → ⊥
reserved_no_stream w x one other r s = s r.0

pub one_name_fault : (w : whose.Style) (path : List ℕ) (e f : NameError) → IsNameFault w path e → IsNameFault w path f → e ≢ error.Memory → f ≢ error.Memory → e ≡ f
one_name_fault w path (error.Nul i) (error.Nul j) h k n m = ap error.Nul (one_nul path i j h k)
one_name_fault w path (error.Nul i) error.Prefix h k n m = absurd (nul_there path i h k.0)
one_name_fault w path (error.Nul i) error.Root h k n m = absurd (nul_there path i h k.0)
one_name_fault w path (error.Nul i) (error.Leaves j) h k n m = absurd (nul_there path i h k.no_nul)
one_name_fault w path (error.Nul i) (error.Stream j) h k n m = absurd (nul_there path i h k.no_nul)
one_name_fault w path (error.Nul i) (error.Reserved j) h k n m = absurd (nul_there path i h k.no_nul)
one_name_fault w path error.Prefix (error.Nul j) h k n m = absurd (nul_there path j k h.0)
one_name_fault w path error.Prefix error.Prefix h k n m = refl
one_name_fault w path error.Prefix error.Root h k n m = absurd (k.1.0 h.1)
one_name_fault w path error.Prefix (error.Leaves j) h k n m = absurd (k.relative.0 h.1)
one_name_fault w path error.Prefix (error.Stream j) h k n m = absurd (k.relative.0 h.1)
one_name_fault w path error.Prefix (error.Reserved j) h k n m = absurd (k.relative.0 h.1)
one_name_fault w path error.Root (error.Nul j) h k n m = absurd (nul_there path j k h.0)
one_name_fault w path error.Root error.Prefix h k n m = absurd (h.1.0 k.1)
one_name_fault w path error.Root error.Root h k n m = refl
one_name_fault w path error.Root (error.Leaves j) h k n m = absurd (k.relative.1 h.1.1)
one_name_fault w path error.Root (error.Stream j) h k n m = absurd (k.relative.1 h.1.1)
one_name_fault w path error.Root (error.Reserved j) h k n m = absurd (k.relative.1 h.1.1)
one_name_fault w path (error.Leaves i) (error.Nul j) h k n m = absurd (nul_there path j k h.no_nul)
one_name_fault w path (error.Leaves i) error.Prefix h k n m = absurd (h.relative.0 k.1)
one_name_fault w path (error.Leaves i) error.Root h k n m = absurd (h.relative.1 k.1.1)
one_name_fault w path (error.Leaves i) (error.Leaves j) h k n m = ap error.Leaves (same_index w path i j h k (stops_leaves w) (stops_leaves w))
one_name_fault w path (error.Leaves i) (error.Stream j) h k n m = absurd (apart w path i j h k (stops_leaves w) (stops_stream w) (leaves_no_stream w))
one_name_fault w path (error.Leaves i) (error.Reserved j) h k n m = absurd (apart w path i j h k (stops_leaves w) (stops_reserved w) (leaves_no_reserved w))
one_name_fault w path (error.Stream i) (error.Nul j) h k n m = absurd (nul_there path j k h.no_nul)
one_name_fault w path (error.Stream i) error.Prefix h k n m = absurd (h.relative.0 k.1)
one_name_fault w path (error.Stream i) error.Root h k n m = absurd (h.relative.1 k.1.1)
one_name_fault w path (error.Stream i) (error.Leaves j) h k n m = absurd (apart w path i j h k (stops_stream w) (stops_leaves w) (stream_no_leaves w))
one_name_fault w path (error.Stream i) (error.Stream j) h k n m = ap error.Stream (same_index w path i j h k (stops_stream w) (stops_stream w))
one_name_fault w path (error.Stream i) (error.Reserved j) h k n m = absurd (apart w path i j h k (stops_stream w) (stops_reserved w) (stream_no_reserved w))
one_name_fault w path (error.Reserved i) (error.Nul j) h k n m = absurd (nul_there path j k h.no_nul)
one_name_fault w path (error.Reserved i) error.Prefix h k n m = absurd (h.relative.0 k.1)
one_name_fault w path (error.Reserved i) error.Root h k n m = absurd (h.relative.1 k.1.1)
one_name_fault w path (error.Reserved i) (error.Leaves j) h k n m = absurd (apart w path i j h k (stops_reserved w) (stops_leaves w) (reserved_no_leaves w))
one_name_fault w path (error.Reserved i) (error.Stream j) h k n m = absurd (apart w path i j h k (stops_reserved w) (stops_stream w) (reserved_no_stream w))
one_name_fault w path (error.Reserved i) (error.Reserved j) h k n m = ap error.Reserved (same_index w path i j h k (stops_reserved w) (stops_reserved w))
one_name_fault w path error.Memory f h k n m = absurd (n refl)
one_name_fault w path (error.Nul i) error.Memory h k n m = absurd (m refl)
one_name_fault w path error.Prefix error.Memory h k n m = absurd (m refl)
one_name_fault w path error.Root error.Memory h k n m = absurd (m refl)
one_name_fault w path (error.Leaves i) error.Memory h k n m = absurd (m refl)
one_name_fault w path (error.Stream i) error.Memory h k n m = absurd (m refl)
one_name_fault w path (error.Reserved i) error.Memory h k n m = absurd (m refl)

pub one_full_fault : (w : whose.Style) (path directory : List ℕ) (e f : AbsoluteError) → IsAbsoluteFault w path directory e → IsAbsoluteFault w path directory f → e ≢ full.Memory → f ≢ full.Memory → e ≡ f
one_full_fault w path directory full.Empty full.Empty h k n m = refl
one_full_fault w path directory full.Empty full.Prefix h k n m = absurd (k.0 h)
one_full_fault w path directory full.Empty full.Reserved h k n m = absurd (k.0 h)
one_full_fault w path directory full.Empty full.Directory h k n m = absurd (k.0.some h)
one_full_fault w path directory full.Empty full.Drive h k n m = absurd (k.0.some h)
one_full_fault w path directory full.Prefix full.Empty h k n m = absurd (h.0 k)
one_full_fault w path directory full.Prefix full.Prefix h k n m = refl
one_full_fault w path directory full.Prefix full.Reserved h k n m = absurd (k.1.1.0 h.1.1)
one_full_fault w path directory full.Prefix full.Directory h k n m = absurd (k.0.whole h.1.1)
one_full_fault w path directory full.Prefix full.Drive h k n m = absurd (k.0.whole h.1.1)
one_full_fault w path directory full.Reserved full.Empty h k n m = absurd (h.0 k)
one_full_fault w path directory full.Reserved full.Prefix h k n m = absurd (h.1.1.0 k.1.1)
one_full_fault w path directory full.Reserved full.Reserved h k n m = refl
one_full_fault w path directory full.Reserved full.Directory h k n m = absurd (h.1.1.1 k.0.free)
one_full_fault w path directory full.Reserved full.Drive h k n m = absurd (h.1.1.1 k.0.free)
one_full_fault w path directory full.Directory full.Empty h k n m = absurd (h.0.some k)
one_full_fault w path directory full.Directory full.Prefix h k n m = absurd (h.0.whole k.1.1)
one_full_fault w path directory full.Directory full.Reserved h k n m = absurd (k.1.1.1 h.0.free)
one_full_fault w path directory full.Directory full.Directory h k n m = refl
one_full_fault w path directory full.Directory full.Drive h k n m = absurd (h.1.1 k.1.1.0)
one_full_fault w path directory full.Drive full.Empty h k n m = absurd (h.0.some k)
one_full_fault w path directory full.Drive full.Prefix h k n m = absurd (h.0.whole k.1.1)
one_full_fault w path directory full.Drive full.Reserved h k n m = absurd (k.1.1.1 h.0.free)
one_full_fault w path directory full.Drive full.Directory h k n m = absurd (k.1.1 h.1.1.0)
one_full_fault w path directory full.Drive full.Drive h k n m = refl
one_full_fault w path directory full.Memory f h k n m = absurd (n refl)
one_full_fault w path directory full.Empty full.Memory h k n m = absurd (m refl)
one_full_fault w path directory full.Prefix full.Memory h k n m = absurd (m refl)
one_full_fault w path directory full.Reserved full.Memory h k n m = absurd (m refl)
one_full_fault w path directory full.Directory full.Memory h k n m = absurd (m refl)
one_full_fault w path directory full.Drive full.Memory h k n m = absurd (m refl)
