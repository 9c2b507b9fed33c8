-- The main separator alone separates in paths that are built.
use Rattle.std.proofs.Common.{◌≡◌, ◌≢◌, inl, inr, ℕ, List, [], ◌∷◌, ◌++◌, Option, Some, None, sym, ap, ◌∙◌, subst, arith}
use Rattle.std.specs.Prelude.{IfSome}
use Rattle.std.specs.Option.{option_map}
use Rattle.path_rules.specs.declared.rules.Rules.TheVariants as rules
use Rattle.path_rules.specs.declared.rules.Style as whose
use Rattle.path_rules.specs.declared.rules.Style.TheVariants as style
use Rattle.path_rules.specs.Separators.{separates}
use Rattle.path_rules.specs.Component.{Item}
use Rattle.path_rules.specs.Root.{IsAbsolute}
use Rattle.path_building.specs.Base.{own_root}
use Rattle.path_building.specs.Checked.{IsCheckedJoin}
use Rattle.path_building.specs.Join.{IsVerbatimPath}
use Rattle.path_building.specs.Relative.{IsRelativeFrom}
use Rattle.path_building.specs.Restyled.{IsRestyled}
use Rattle.path_building.specs.Beginning.{BeginsOddly}
use Rattle.path_building.specs.Cleaned.{IsCleaned}
use Rattle.path_building.specs.Normalized.{IsNormalized}
use Rattle.path_building.specs.Written.{BeginsAsObject, IsPathOf}
use Rattle.path_building.specs.MainSeparators.{SeparatesBy, HasMainSeparators}
use Rattle.test_path_uses.specs.declared.form.Form.{Form}
use Rattle.test_path_uses.specs.declared.form.Form.TheVariants as which
use Rattle.test_path_uses.specs.Forms.{IsForm}
use Rattle.test_path_uses.specs.Slashes.{LacksSlash, HasNoSlash}

-- of what is written
module _ (written : (w : whose.Style) (items : List Item) (path : List ℕ) → IsPathOf w items path → HasMainSeparators w path) where
  pub of_form : (f : Form) (w : whose.Style) (path answer : List ℕ) → IsForm f w path answer → ¬ (BeginsOddly w path) → HasMainSeparators w answer
  of_form which.Normal w path answer (inl h) even = absurd (even h.0)
  of_form which.Normal w path answer (inr h) even = written w h.1.shown answer h.1.answers
  of_form which.Clean w path answer (inl h) even = absurd (even h.0)
  of_form which.Clean w path answer (inr h) even = written w h.1.shown answer h.1.answers

  pub of_joined : (w : whose.Style) (base path joined : List ℕ) → IsCheckedJoin w base path joined → HasMainSeparators w joined
  of_joined w base path joined h = written w (h.base_items ++ (own_root h.base_items ++ h.names)) joined h.answers

  pub of_restyled : (from to : whose.Style) (path made : List ℕ) → IsRestyled from to path made → from ≢ to → HasMainSeparators to made
  of_restyled from to path made (inl h) n = absurd (n h.0)
  of_restyled from to path made (inr h) n = written to h.1.1.0 made h.1.1.1.1

-- no path begins as one of the object manager
module _ (law : (items : List Item) (path : List ℕ) → IsPathOf style.Windows items path → ¬ (BeginsAsObject path)) where
  pub restyled_no_object : (path made : List ℕ) → IsRestyled style.Unix style.Windows path made → ¬ (BeginsAsObject made)
  restyled_no_object path made (inl h) = let never : style.Unix ≡ style.Windows = h.0 in cc
  restyled_no_object path made (inr h) = law h.1.1.0 made h.1.1.1.1

module _ (normal : (path answer : List ℕ) → IsNormalized style.Windows path answer → ¬ (BeginsAsObject answer)) (clean : (path answer : List ℕ) → IsCleaned style.Windows path answer → ¬ (BeginsAsObject answer)) where
  pub form_no_object : (f : Form) (path answer : List ℕ) → IsForm f style.Windows path answer → ¬ (BeginsAsObject answer)
  form_no_object which.Normal path answer h = normal path answer h
  form_no_object which.Clean path answer h = clean path answer h

-- of a way
module _ (law : (w : whose.Style) (path base way : List ℕ) → IsRelativeFrom w path base (Some way) → ¬ (IsVerbatimPath w path) → (IsAbsolute w path → IsAbsolute w base) → HasMainSeparators w way) where
  pub of_way : {X : Type 0} (view : X → List ℕ) (w : whose.Style) (path base : List ℕ) (way : Option X) → IsRelativeFrom w path base (option_map view way) → ¬ (IsVerbatimPath w path) → (IsAbsolute w path → IsAbsolute w base) → IfSome way (λ x. HasMainSeparators w (view x))
  of_way view w path base None h n both = tt
  of_way view w path base (Some x) h n both = law w path base (view x) h n both

no_slash : (s : List ℕ) → SeparatesBy rules.Either 0x5C s → LacksSlash s
no_slash [] h = tt
no_slash (b ∷ s) h = (
  λ e.
      let is : b ≡ 0x5C = h.0 (ap (separates rules.Either) e) in
      let never : 0x2F ≡ 0x5C = sym e ∙ is in
      absurd (omega (arith, never)),
  no_slash s h.1,
)

pub without_slash : (path : List ℕ) → HasMainSeparators style.Windows path → HasNoSlash path
without_slash path h = (
  λ kind rest p e. no_slash rest (subst (λ r. SeparatesBy r 0x5C rest) e (h.0 kind rest p)),
  λ n. no_slash path (h.1 n),
)
