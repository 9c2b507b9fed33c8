-- Which paths are never joined.
use Rattle.std.proofs.Common.{inl, inr, ◌≡◌, ◌++◌, ◌∷◌, [], ℕ, List, Result, Ok, Err, refl, sym, ap, ◌∙◌, subst}
use Rattle.std.specs.Prelude.{IfOk, IsErr}
use Rattle.path_rules.specs.declared.rules.Style as whose
use Rattle.path_rules.specs.StyleRules.{rules_of_style}
use Rattle.path_rules.specs.Component.{Item}
use Rattle.path_rules.specs.Components.{AreComponents}
use Rattle.path_rules.specs.Prefix.{IsPrefixed}
use Rattle.path_rules.specs.Root.{BeginsWithSeparator}
use Rattle.path_building.specs.declared.checked.JoinError.{JoinError}
use Rattle.path_building.specs.declared.checked.JoinError.TheVariants as error
use Rattle.path_rules.specs.Trailing.{EndsWithSeparator}
use Rattle.path_building.specs.CheckedEnd.{IsCheckedJoinEnded}
use Rattle.path_building.specs.Trailing.{IsWithTrailingSep}
use Rattle.path_building.specs.Join.{without_dot}
use Rattle.path_building.specs.Normal.{AreNormalOf, LeadsTo}
use Rattle.path_building.specs.Written.{IsPathOf}
use Rattle.path_building.specs.Base.{AreFree, HasNoNul, HasReservedName, IsBase, IsFirstNul, IsFree, LacksPart, own_root}
use Rattle.path_building.specs.Checked.{AreCheckedNames, IsCheckedJoin, NameNoStream, NamesNoStream}
use Rattle.path_building.specs.Faults.{HasFault, HasNoStream, IsFreeOn, IsJoinFault, IsReservedName, IsStream, Leaves}
use Rattle.path_building.specs.declared.base.BaseError.TheVariants as base_error
use Rattle.path_building.specs.declared.walk.NameError.TheVariants as name_error
use Rattle.path_building.proofs.lemmas.Normals.{one_form}
use Rattle.path_building.proofs.lemmas.Resolving.{onto, onto_is, some_form, taken}
use Rattle.path_rules.specs.Component.{Prefix, RootDir, CurDir, ParentDir, Normal}
use Rattle.path_rules.specs.declared.rules.Style.TheVariants as style
use Rattle.std.proofs.Common.{append_assoc, reverse}
use Rattle.std.proofs.lemmas.List.{reverse-append}
use Rattle.std.specs.List.{AllByRecursion}
use Rattle.test_path_uses.proofs.Joins.{OneList}

-- a path that ends with a separator keeps it
pub kept_end : (w : whose.Style) (base path ended : List ℕ) → IsCheckedJoinEnded w base path ended → EndsWithSeparator (rules_of_style w) path → (file : List ℕ) × (IsCheckedJoin w base path file × IsWithTrailingSep w file ended)
kept_end w base path ended h ends = elim h.end [
  | inl k ↦ (h.joined, (h.checked, k.1))
  | inr k ↦ absurd (k.0 ends)
]

-- bytes without NUL have no first one
free_not : (before after : List ℕ) → ¬ (HasNoNul (before ++ 0 ∷ after))
free_not [] after h = h.0 refl
free_not (b ∷ before) after h = free_not before after h.1

never_free : (s : List ℕ) (index : ℕ) → IsFirstNul s index → ¬ (HasNoNul s)
never_free s index n h = free_not n.before n.after (subst HasNoNul n.joined h)

all_at : (P : Item → Type 0) (front behind : List Item) (x : Item) → AllByRecursion P (front ++ x ∷ behind) → P x
all_at P [] behind x h = h.0
all_at P (z ∷ front) behind x h = all_at P front behind x h.1

no_stream_at : (w : whose.Style) (front behind : List Item) (x : Item) → NameNoStream w (front ++ x ∷ behind) → HasNoStream w x
no_stream_at style.Unix front behind x h = tt
no_stream_at style.Windows front behind x h = all_at NamesNoStream front behind x h

free_at : (w : whose.Style) (front behind : List Item) (x : Item) → AreFree w (front ++ x ∷ behind) → IsFreeOn w x
free_at style.Unix front behind x h = tt
free_at style.Windows front behind x h = all_at IsFree front behind x h

no_name : (s : List ℕ) (normal ys : List Item) → without_dot normal ≡ [] → reverse normal ≡ Normal s ∷ ys → ⊥
no_name s [] ys e f = let never : [] ≡ Normal s ∷ ys = f in cc
no_name s (CurDir ∷ []) ys e f = let never : CurDir ∷ [] ≡ Normal s ∷ ys = f in cc
no_name s (CurDir ∷ x ∷ xs) ys e f = let never : x ∷ xs ≡ [] = e in cc
no_name s (Prefix t ∷ xs) ys e f = let never : Prefix t ∷ xs ≡ [] = e in cc
no_name s (RootDir ∷ xs) ys e f = let never : RootDir ∷ xs ≡ [] = e in cc
no_name s (ParentDir ∷ xs) ys e f = let never : ParentDir ∷ xs ≡ [] = e in cc
no_name s (Normal t ∷ xs) ys e f = let never : Normal t ∷ xs ≡ [] = e in cc

turned : (front behind : List Item) → reverse (front ++ ParentDir ∷ behind) ≡ onto behind (ParentDir ∷ reverse front)
turned front behind =
    reverse-append front (ParentDir ∷ behind) ∙ ap (λ z. z ++ reverse front) (reverse-append (ParentDir ∷ []) behind)
    ∙ append_assoc (reverse behind) (ParentDir ∷ []) (reverse front) ∙ sym (onto_is behind (ParentDir ∷ reverse front))

-- a path whose names are checked has no component at fault
module _ (list : OneList) (w : whose.Style) (path : List ℕ) (names : List Item) (k : AreCheckedNames w path names) (index : ℕ) where
  never_stream : HasFault w path index (IsStream w) → ⊥
  never_stream f =
      let a = f.first in
      a.fault (no_stream_at w a.front a.behind a.item (subst (NameNoStream w) (list w path k.items f.items k.inside.are f.are ∙ a.joined) k.streams))

  never_reserved : HasFault w path index (IsReservedName w) → ⊥
  never_reserved f =
      let a = f.first in
      a.fault.1 (free_at w a.front a.behind a.item (subst (AreFree w) (list w path k.items f.items k.inside.are f.are ∙ a.joined) k.free))

  never_leaves : HasFault w path index Leaves → ⊥
  never_leaves f =
      let a = f.first in
      let normal = k.inside.normal in
      let up = subst (λ x. AreNormalOf (a.front ++ x ∷ a.behind) normal) a.fault.1 (subst (λ xs. AreNormalOf xs normal) (list w path k.items f.items k.inside.are f.are ∙ a.joined) k.inside.form) in
      let some = some_form a.behind (ParentDir ∷ reverse a.front) (reverse normal) (subst (λ z. LeadsTo z (reverse normal)) (turned a.front a.behind) up) in
      let name = taken some.1 in
      no_name name.0 a.normal some.0 a.fault.0 (one_form a.form name.1)

module _ {X Y : Type 0} (view : X → List ℕ) (w : whose.Style) (base path : List ℕ) where
  pub no_way_out : OneList → (r : Result X Y) → IfOk r (λ x. IsCheckedJoin w base path (view x)) → (index : ℕ) → HasFault w path index Leaves → IsErr r
  no_way_out list (Ok x) h index f = absurd (never_leaves list w path h.names h.checked index f)
  no_way_out list (Err e) h index f = Prim.search Rattle.std.proofs.Common.rules

  pub none_reserved : OneList → (r : Result X Y) → IfOk r (λ x. IsCheckedJoin w base path (view x)) → (index : ℕ) → HasFault w path index (IsReservedName w) → IsErr r
  none_reserved list (Ok x) h index f = absurd (never_reserved list w path h.names h.checked index f)
  none_reserved list (Err e) h index f = Prim.search Rattle.std.proofs.Common.rules

  pub no_nul : (r : Result X Y) → IfOk r (λ x. IsCheckedJoin w base path (view x)) → (index : ℕ) → IsFirstNul path index → IsErr r
  no_nul (Ok x) h i n = absurd (never_free path i n h.checked.no_nul)
  no_nul (Err e) h i n = Prim.search Rattle.std.proofs.Common.rules

  pub no_base_nul : (r : Result X Y) → IfOk r (λ x. IsCheckedJoin w base path (view x)) → (index : ℕ) → IsFirstNul base index → IsErr r
  no_base_nul (Ok x) h i n = absurd (never_free base i n h.place.0)
  no_base_nul (Err e) h i n = Prim.search Rattle.std.proofs.Common.rules

  pub no_open_base : (r : Result X Y) → IfOk r (λ x. IsCheckedJoin w base path (view x)) → LacksPart w base → IsErr r
  no_open_base (Ok x) h n = absurd (h.place.1.0 n)
  no_open_base (Err e) h n = Prim.search Rattle.std.proofs.Common.rules

  pub no_reserved_base : (r : Result X Y) → IfOk r (λ x. IsCheckedJoin w base path (view x)) → HasReservedName w base → IsErr r
  no_reserved_base (Ok x) h n = absurd (h.place.1.1 n)
  no_reserved_base (Err e) h n = Prim.search Rattle.std.proofs.Common.rules

  pub no_prefix : (r : Result X Y) → IfOk r (λ x. IsCheckedJoin w base path (view x)) → IsPrefixed w path → IsErr r
  no_prefix (Ok x) h p = absurd (h.checked.inside.relative.0 p)
  no_prefix (Err e) h p = Prim.search Rattle.std.proofs.Common.rules

  pub no_root : (r : Result X Y) → IfOk r (λ x. IsCheckedJoin w base path (view x)) → BeginsWithSeparator (rules_of_style w) path → IsErr r
  no_root (Ok x) h p = absurd (h.checked.inside.relative.1 p)
  no_root (Err e) h p = Prim.search Rattle.std.proofs.Common.rules

  pub no_stream : OneList → (r : Result X Y) → IfOk r (λ x. IsCheckedJoin w base path (view x)) → (index : ℕ) → HasFault w path index (IsStream w) → IsErr r
  no_stream list (Ok x) h index f = absurd (never_stream list w path h.names h.checked index f)
  no_stream list (Err e) h index f = Prim.search Rattle.std.proofs.Common.rules

module _ (list : OneList) (normal : (items one other : List Item) → AreNormalOf items one → AreNormalOf items other → one ≡ other) (w : whose.Style) (base path : List ℕ) where
  names_same : (one other : List Item) → AreCheckedNames w path one → AreCheckedNames w path other → one ≡ other
  names_same one other h k =
      let items = list w path h.items k.items h.inside.are k.inside.are in
      let forms = normal k.items h.inside.normal k.inside.normal (subst (λ x. AreNormalOf x h.inside.normal) items h.inside.form) k.inside.form in
      h.inside.is ∙ ap without_dot forms ∙ sym k.inside.is

  pub names_follow : (joined : List ℕ) → IsCheckedJoin w base path joined → (items names : List Item) → AreComponents w base items → AreCheckedNames w path names → IsPathOf w (items ++ (own_root items ++ names)) joined
  names_follow joined h items names are checked =
      subst (λ xs. IsPathOf w (items ++ (own_root items ++ xs)) joined) (names_same h.names names h.checked checked)
      (subst (λ xs. IsPathOf w (xs ++ (own_root xs ++ h.names)) joined) (list w base h.base_items items h.base_are are) h.answers)

  pub only_memory : (e : JoinError) → IsJoinFault w base path e → (names : List Item) → AreCheckedNames w path names → IsBase w base → e ≡ error.Name name_error.Memory
  only_memory (error.Base (base_error.Nul i)) f names k place = absurd (never_free base i f place.0)
  only_memory (error.Base base_error.Incomplete) f names k place = absurd (place.1.0 f.1)
  only_memory (error.Base base_error.Reserved) f names k place = absurd (place.1.1 f.1.1)
  only_memory (error.Name (name_error.Nul i)) f names k place = absurd (never_free path i f.1 k.no_nul)
  only_memory (error.Name name_error.Prefix) f names k place = absurd (k.inside.relative.0 f.1.1)
  only_memory (error.Name name_error.Root) f names k place = absurd (k.inside.relative.1 f.1.1.1)
  only_memory (error.Name (name_error.Leaves i)) f names k place = absurd (never_leaves list w path names k i f.1)
  only_memory (error.Name (name_error.Stream i)) f names k place = absurd (never_stream list w path names k i f.1)
  only_memory (error.Name (name_error.Reserved i)) f names k place = absurd (never_reserved list w path names k i f.1)
  only_memory (error.Name name_error.Memory) f names k place = refl
