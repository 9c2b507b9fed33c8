-- A call returns one path for its arguments.
use Rattle.std.proofs.Common.{◌≡◌, ◌⊎◌, inl, inr, ℕ, List, [], ◌∷◌, ◌++◌, map, reverse, sym, ap, ◌∙◌, subst}
use Rattle.std.proofs.lemmas.List.{reverse-reverse}
use Rattle.path_rules.specs.declared.rules.Style as whose
use Rattle.path_rules.specs.declared.rules.Style.TheVariants as style
use Rattle.path_rules.specs.Component.{Item}
use Rattle.path_building.specs.Normal.{AreNormalOf}
use Rattle.path_building.specs.Normalized.{IsNormalForm, IsNormalWritten, IsNormalized, IsShielded}
use Rattle.path_building.specs.Cleaned.{IsCleanForm, IsCleanWritten, IsCleaned, or_dot, spelled}
use Rattle.path_building.specs.Written.{IsPathOf, IsWritten}
use Rattle.path_building.specs.Checked.{LeadsInside, IsCheckedJoin}
use Rattle.path_building.specs.CheckedEnd.{IsCheckedJoinEnded}
use Rattle.path_building.specs.Base.{own_root}
use Rattle.path_building.specs.Join.{without_dot}
use Rattle.path_building.specs.Trailing.{IsEndedAs}
use Rattle.path_building.specs.Collected.{ArePushed, string_of}
use Rattle.path_building.specs.FullPath.{BeginsWithTwo, IsCleanedBelow, IsOwnPlace, IsPlaceBelow, IsPlaced, IsFullPath, without_root}
use Rattle.path_rules.proofs.lemmas.OneList.{one_prefix, one_components}
use Rattle.path_building.proofs.lemmas.Again.{one_clean}
use Rattle.path_building.proofs.lemmas.Normals.{one_form}
use Rattle.path_building.proofs.lemmas.OneClean.{shown_same, written_same}
use Rattle.path_building.proofs.lemmas.OneJoin.{between_same, one_join}

one_normal : (items one other : List Item) → AreNormalOf items one → AreNormalOf items other → one ≡ other
one_normal items one other h k = sym (reverse-reverse one) ∙ ap reverse (one_form h k) ∙ reverse-reverse other

-- written from the same components
one_path : (w : whose.Style) (items others : List Item) (one other : List ℕ) → items ≡ others → IsPathOf w items one → IsPathOf w others other → one ≡ other
one_path w items others one other e h k = written_same w others one other (subst (λ z. IsWritten w z one) e h.1) k.1

-- normal and clean forms
normal_same : (items one other : List Item) → IsNormalForm items one → IsNormalForm items other → one ≡ other
normal_same items one other (inl h) (inl k) = h.1 ∙ sym k.1
normal_same items one other (inl h) (inr k) = absurd (k.0 h.0)
normal_same items one other (inr h) (inl k) = absurd (h.0 k.0)
normal_same items one other (inr h) (inr k) = one_normal items one other h.1 k.1

normal_written : (w : whose.Style) (path one other : List ℕ) → IsNormalWritten w path one → IsNormalWritten w path other → one ≡ other
normal_written w path one other h k =
    let forms = normal_same h.items h.normal k.normal h.form (subst (λ x. IsNormalForm x k.normal) (one_components w path k.items h.items k.are h.are) k.form) in
    let shown = shown_same w k.normal h.shown k.shown (subst (λ x. IsShielded w x h.shown) forms h.shielded) k.shielded in
    one_path w h.shown k.shown one other shown h.answers k.answers

pub one_normalized : (w : whose.Style) (path one other : List ℕ) → IsNormalized w path one → IsNormalized w path other → one ≡ other
one_normalized w path one other (inl h) (inl k) = h.1 ∙ sym k.1
one_normalized w path one other (inl h) (inr k) = absurd (k.0 h.0)
one_normalized w path one other (inr h) (inl k) = absurd (h.0 k.0)
one_normalized w path one other (inr h) (inr k) = normal_written w path one other h.1 k.1

clean_same : (items one other : List Item) → IsCleanForm items one → IsCleanForm items other → one ≡ other
clean_same items one other (inl h) (inl k) = h.1 ∙ sym k.1
clean_same items one other (inl h) (inr k) = absurd (k.0 h.0)
clean_same items one other (inr h) (inl k) = absurd (h.0 k.0)
clean_same items one other (inr h) (inr k) =
    let left : h.1.0 ≡ k.1.0 = sym (reverse-reverse h.1.0) ∙ ap reverse (one_clean h.1.1.0 k.1.1.0) ∙ reverse-reverse k.1.0 in
    h.1.1.1 ∙ ap (λ z. or_dot (map spelled z)) left ∙ sym k.1.1.1

clean_written : (w : whose.Style) (path one other : List ℕ) → IsCleanWritten w path one → IsCleanWritten w path other → one ≡ other
clean_written w path one other h k =
    let forms = clean_same h.items h.clean k.clean h.form (subst (λ x. IsCleanForm x k.clean) (one_components w path k.items h.items k.are h.are) k.form) in
    let shown = shown_same w k.clean h.shown k.shown (subst (λ x. IsShielded w x h.shown) forms h.shielded) k.shielded in
    one_path w h.shown k.shown one other shown h.answers k.answers

pub one_cleaned : (w : whose.Style) (path one other : List ℕ) → IsCleaned w path one → IsCleaned w path other → one ≡ other
one_cleaned w path one other (inl h) (inl k) = h.1 ∙ sym k.1
one_cleaned w path one other (inl h) (inr k) = absurd (k.0 h.0)
one_cleaned w path one other (inr h) (inl k) = absurd (h.0 k.0)
one_cleaned w path one other (inr h) (inr k) = clean_written w path one other h.1 k.1

-- below a base
names_same : (w : whose.Style) (path : List ℕ) (xs ys one other : List Item) → LeadsInside w path xs one → LeadsInside w path ys other → one ≡ other
names_same w path xs ys one other h k =
    let normal = one_normal xs h.normal k.normal h.form (subst (λ z. AreNormalOf z k.normal) (one_components w path ys xs k.are h.are) k.form) in h.is ∙ ap without_dot normal ∙ sym k.is

pub one_checked : (w : whose.Style) (base path one other : List ℕ) → IsCheckedJoin w base path one → IsCheckedJoin w base path other → one ≡ other
one_checked w base path one other h k =
    let bases = one_components w base h.base_items k.base_items h.base_are k.base_are in
    let names = names_same w path h.checked.items k.checked.items h.names k.names h.checked.inside k.checked.inside in
    one_path w (h.base_items ++ (own_root h.base_items ++ h.names)) (k.base_items ++ (own_root k.base_items ++ k.names)) one other (ap (λ z. z ++ (own_root z ++ h.names)) bases ∙ ap (λ z. k.base_items ++ (own_root k.base_items ++ z)) names) h.answers k.answers

ended_same : (w : whose.Style) (like path one other : List ℕ) → IsEndedAs w like path one → IsEndedAs w like path other → one ≡ other
ended_same w like path one other (inl h) (inl k) = h.1.is ∙ ap (λ z. path ++ z) (between_same w path h.1.between k.1.between h.1.written k.1.written) ∙ sym k.1.is
ended_same w like path one other (inl h) (inr k) = absurd (k.0 h.0)
ended_same w like path one other (inr h) (inl k) = absurd (h.0 k.0)
ended_same w like path one other (inr h) (inr k) = h.1 ∙ sym k.1

pub one_checked_ended : (w : whose.Style) (base path one other : List ℕ) → IsCheckedJoinEnded w base path one → IsCheckedJoinEnded w base path other → one ≡ other
one_checked_ended w base path one other h k =
    let joined = one_checked w base path h.joined k.joined h.checked k.checked in ended_same w path k.joined one other (subst (λ z. IsEndedAs w path z one) joined h.end) k.end

-- components, each joined in turn
pub one_pushed : (w : whose.Style) (path : List ℕ) (items : List Item) (one other : List ℕ) → ArePushed w path items one → ArePushed w path items other → one ≡ other
one_pushed w path [] one other h k = h ∙ sym k
one_pushed w path (x ∷ xs) one other h k =
    let next = one_join w path (string_of w x) h.0 k.0 h.1.0 k.1.0 in one_pushed w k.0 xs one other (subst (λ z. ArePushed w z xs one) next h.1.1) k.1.1

-- absolute paths
abbrev Pushed : List ℕ → List Item → List ℕ → Type 0
Pushed path items mid = (BeginsWithTwo path × ArePushed style.Unix (0x2F ∷ 0x2F ∷ []) (without_root items) mid) ⊎ (¬ (BeginsWithTwo path) × ArePushed style.Unix [] items mid)

pushed_same : (path : List ℕ) (items : List Item) (one other : List ℕ) → Pushed path items one → Pushed path items other → one ≡ other
pushed_same path items one other (inl a) (inl b) = one_pushed style.Unix (0x2F ∷ 0x2F ∷ []) (without_root items) one other a.1 b.1
pushed_same path items one other (inl a) (inr b) = absurd (b.0 a.0)
pushed_same path items one other (inr a) (inl b) = absurd (a.0 b.0)
pushed_same path items one other (inr a) (inr b) = one_pushed style.Unix [] items one other a.1 b.1

cleaned_below_same : (rest directory one other : List ℕ) → IsCleanedBelow rest directory one → IsCleanedBelow rest directory other → one ≡ other
cleaned_below_same rest directory one other h k =
    let joined = one_join style.Windows directory rest h.joined k.joined h.join k.join in
    one_cleaned style.Windows k.joined one other (subst (λ z. IsCleaned style.Windows z one) joined h.clean) k.clean

own_same : (w : whose.Style) (path one other : List ℕ) → IsOwnPlace w path one → IsOwnPlace w path other → one ≡ other
own_same style.Unix path one other h k =
    pushed_same path k.items one other (subst (λ z. Pushed path z one) (one_components style.Unix path h.items k.items h.are k.are) h.pushed) k.pushed
own_same style.Windows path one other h k = one_cleaned style.Windows path one other h k

below_same : (w : whose.Style) (path directory one other : List ℕ) → IsPlaceBelow w path directory one → IsPlaceBelow w path directory other → one ≡ other
below_same style.Unix path directory one other h k =
    one_pushed style.Unix directory (without_dot k.items) one other (subst (λ z. ArePushed style.Unix directory (without_dot z) one) (one_components style.Unix path h.items k.items h.are k.are) h.pushed) k.pushed
below_same style.Windows path directory one other (inl h) (inl k) =
    let rest = (one_prefix path h.kind k.kind h.rest k.rest h.prefix k.prefix).1 in
    cleaned_below_same k.rest directory one other (subst (λ z. IsCleanedBelow z directory one) rest h.below) k.below
below_same style.Windows path directory one other (inl h) (inr k) = absurd (k.0 (h.kind, (h.rest, h.prefix)))
below_same style.Windows path directory one other (inr h) (inl k) = absurd (h.0 (k.kind, (k.rest, k.prefix)))
below_same style.Windows path directory one other (inr h) (inr k) = cleaned_below_same path directory one other h.1 k.1

placed_same : (w : whose.Style) (path directory one other : List ℕ) → IsPlaced w path directory one → IsPlaced w path directory other → one ≡ other
placed_same w path directory one other (inl h) (inl k) = own_same w path one other h.1 k.1
placed_same w path directory one other (inl h) (inr k) = absurd (k.0 h.0)
placed_same w path directory one other (inr h) (inl k) = absurd (h.0 k.0)
placed_same w path directory one other (inr h) (inr k) = below_same w path directory one other h.1.1 k.1.1

pub one_full : (w : whose.Style) (path directory one other : List ℕ) → IsFullPath w path directory one → IsFullPath w path directory other → one ≡ other
one_full w path directory one other (inl h) (inl k) = h.1 ∙ sym k.1
one_full w path directory one other (inl h) (inr k) = absurd (k.plain h.0)
one_full w path directory one other (inr h) (inl k) = absurd (h.plain k.0)
one_full w path directory one other (inr h) (inr k) =
    let mid = placed_same w path directory h.mid k.mid h.placed k.placed in ended_same w path k.mid one other (subst (λ z. IsEndedAs w path z one) mid h.end) k.end
