-- A form of a path is one path, and its own.
use Rattle.std.proofs.Common.{◌≡◌, codes, inl, inr, ℕ, List, map, sym, ap, ◌∙◌, subst, reverse}
use Rattle.std.proofs.lemmas.List.{reverse-reverse}
use Rattle.path_rules.specs.declared.rules.Style as whose
use Rattle.path_rules.specs.declared.rules.Style.TheVariants as style
use Rattle.path_rules.specs.Component.{Item}
use Rattle.path_rules.specs.Components.{AreComponents}
use Rattle.path_building.specs.Beginning.{BeginsOddly}
use Rattle.path_building.specs.Normal.{AreNormalOf}
use Rattle.path_building.specs.Normalized.{IsNormalForm, IsNormalized, IsShielded}
use Rattle.path_building.specs.Cleaned.{CleansTo, IsCleanForm, IsCleaned, or_dot, spelled}
use Rattle.path_building.specs.Written.{IsWritten}
use Rattle.test_path_uses.specs.declared.form.Form.{Form}
use Rattle.test_path_uses.specs.declared.form.Form.TheVariants as which
use Rattle.test_path_uses.specs.Forms.{IsForm}
use Rattle.test_path_uses.proofs.Joins.{OneList}
use Rattle.test_path_uses.proofs.Writings.{one_writing, normal_form, clean_form, normal_object, clean_object}

shown_same : (w : whose.Style) (form one other : List Item) → IsShielded w form one → IsShielded w form other → one ≡ other
shown_same w form one other (inl h) (inl k) = h.1 ∙ sym k.1
shown_same w form one other (inl h) (inr k) = absurd (k.0 h.0)
shown_same w form one other (inr h) (inl k) = absurd (h.0 k.0)
shown_same w form one other (inr h) (inr k) = h.1 ∙ sym k.1

module _ (list : OneList) (normal : (items one other : List Item) → AreNormalOf items one → AreNormalOf items other → one ≡ other) where
  normal_same : (items one other : List Item) → IsNormalForm items one → IsNormalForm items other → one ≡ other
  normal_same items one other (inl h) (inl k) = h.1 ∙ sym k.1
  normal_same items one other (inl h) (inr k) = absurd (k.0 h.0)
  normal_same items one other (inr h) (inl k) = absurd (h.0 k.0)
  normal_same items one other (inr h) (inr k) = normal items one other h.1 k.1

  pub normalized : (w : whose.Style) (path one other : List ℕ) → IsNormalized w path one → IsNormalized w path other → one ≡ other
  normalized w path one other (inl h) (inl k) = h.1 ∙ sym k.1
  normalized w path one other (inl h) (inr k) = absurd (k.0 h.0)
  normalized w path one other (inr h) (inl k) = absurd (h.0 k.0)
  normalized w path one other (inr (even, h)) (inr (other_even, k)) =
      let forms = normal_same h.items h.normal k.normal h.form (subst (λ x. IsNormalForm x k.normal) (list w path k.items h.items k.are h.are) k.form) in
      let shown = shown_same w k.normal h.shown k.shown (subst (λ x. IsShielded w x h.shown) forms h.shielded) k.shielded in
      one_writing w k.shown one other (subst (λ x. IsWritten w x one) shown h.answers.1) k.answers.1

module _ (list : OneList) (clean : (items one other : List Item) → CleansTo items one → CleansTo items other → one ≡ other) where
  clean_same : (items one other : List Item) → IsCleanForm items one → IsCleanForm items other → one ≡ other
  clean_same items one other (inl h) (inl k) = h.1 ∙ sym k.1
  clean_same items one other (inl h) (inr k) = absurd (k.0 h.0)
  clean_same items one other (inr h) (inl k) = absurd (h.0 k.0)
  clean_same items one other (inr h) (inr k) =
      let left : h.1.0 ≡ k.1.0 = sym (reverse-reverse h.1.0) ∙ ap reverse (clean (reverse items) (reverse h.1.0) (reverse k.1.0) h.1.1.0 k.1.1.0) ∙ reverse-reverse k.1.0 in
      h.1.1.1 ∙ ap (λ z. or_dot (map spelled z)) left ∙ sym k.1.1.1

  pub cleaned : (w : whose.Style) (path one other : List ℕ) → IsCleaned w path one → IsCleaned w path other → one ≡ other
  cleaned w path one other (inl h) (inl k) = h.1 ∙ sym k.1
  cleaned w path one other (inl h) (inr k) = absurd (k.0 h.0)
  cleaned w path one other (inr h) (inl k) = absurd (h.0 k.0)
  cleaned w path one other (inr (even, h)) (inr (other_even, k)) =
      let forms = clean_same h.items h.clean k.clean h.form (subst (λ x. IsCleanForm x k.clean) (list w path k.items h.items k.are h.are) k.form) in
      let shown = shown_same w k.clean h.shown k.shown (subst (λ x. IsShielded w x h.shown) forms h.shielded) k.shielded in
      one_writing w k.shown one other (subst (λ x. IsWritten w x one) shown h.answers.1) k.answers.1

module _ (list : OneList) (normal : (items one other : List Item) → AreNormalOf items one → AreNormalOf items other → one ≡ other) (clean : (items one other : List Item) → CleansTo items one → CleansTo items other → one ≡ other) where
  pub one_form : (form : Form) (w : whose.Style) (path one other : List ℕ) → IsForm form w path one → IsForm form w path other → one ≡ other
  one_form which.Normal w path one other h k = normalized list normal w path one other h k
  one_form which.Clean w path one other h k = cleaned list clean w path one other h k

pub own_form : ((w : whose.Style) (path answer : List ℕ) → IsNormalized w path answer → IsNormalized w answer answer) → ((w : whose.Style) (path answer : List ℕ) → IsCleaned w path answer → IsCleaned w answer answer)
    → (form : Form) (w : whose.Style) (path answer : List ℕ) → IsForm form w path answer → IsForm form w answer answer
own_form normal clean which.Normal w path answer h = normal w path answer h
own_form normal clean which.Clean w path answer h = clean w path answer h

-- a path that doesn't begin oddly has a normal form where it is normalized
pub has_form : (w : whose.Style) (path answer : List ℕ) → IsNormalized w path answer → ¬ (BeginsOddly w path) → (items : List Item) × ((normal : List Item) × (AreComponents w path items × IsNormalForm items normal))
has_form w path answer (inl h) even = absurd (even h.0)
has_form w path answer (inr (even, h)) other = (h.items, (h.normal, (h.are, h.form)))

-- the form of `C:/a/../b`
pub form_of_slashes : (form : Form) → IsForm form style.Windows (codes "C:/a/../b") (codes "C:\\b")
form_of_slashes which.Normal = normal_form
form_of_slashes which.Clean = clean_form

-- and that of `\a\..\??\c:\x`
pub form_of_object : (form : Form) → IsForm form style.Windows (codes "\\a\\..\\??\\c:\\x") (codes "\\.\\??\\c:\\x")
form_of_object which.Normal = normal_object
form_of_object which.Clean = clean_object
