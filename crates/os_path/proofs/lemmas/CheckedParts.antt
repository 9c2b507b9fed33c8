-- A path below a base is well formed.
use Rattle.std.proofs.Common.{ℕ, Bool, true, false, if◌then◌else◌, List, [], ◌∷◌, ◌++◌, take, drop, sym, subst}
use Rattle.wtf8_core.specs.Boundary.{IsBoundary}
use Rattle.wtf8_core.specs.OccurrenceLaws.{OccurrenceLaws}
use Rattle.path_rules.specs.declared.rules.Style.{Style}
use Rattle.path_rules.specs.Component.{Item, Prefix, RootDir, CurDir, ParentDir, Normal}
use Rattle.path_building.specs.Join.{without_dot}
use Rattle.path_rules.specs.Prefix.{begins_verbatim}
use Rattle.path_building.specs.Base.{own_root}
use Rattle.path_building.specs.Checked.{IsCheckedJoin}
use Rattle.os_path.specs.Formed.{AreFormed}
use Rattle.os_path.proofs.lemmas.Cuts.{cuts}
use Rattle.os_path.proofs.lemmas.Whole.{joined_formed}
use Rattle.os_path.proofs.lemmas.NormalParts.{left_formed, reversed, from_reversed, of_items, of_path}

module _ (formed : List ℕ → Type 0) where
  pub no_dot_formed : (xs : List Item) → AreFormed formed xs → AreFormed formed (without_dot xs)
  no_dot_formed [] f = f
  no_dot_formed (Prefix s ∷ xs) f = f
  no_dot_formed (RootDir ∷ xs) f = f
  no_dot_formed (CurDir ∷ xs) f = f.1
  no_dot_formed (ParentDir ∷ xs) f = f
  no_dot_formed (Normal s ∷ xs) f = f

  root_formed : (v : Bool) (ns : List Item) → AreFormed formed ns → AreFormed formed ((if v then RootDir ∷ [] else []) ++ ns)
  root_formed true ns f = (tt, f)
  root_formed false ns f = f

  below_formed : (xs ns : List Item) → AreFormed formed ns → AreFormed formed (own_root xs ++ ns)
  below_formed [] ns f = f
  below_formed (Prefix s ∷ []) ns f = root_formed (begins_verbatim s) ns f
  below_formed (Prefix s ∷ y ∷ xs) ns f = f
  below_formed (RootDir ∷ xs) ns f = f
  below_formed (CurDir ∷ xs) ns f = f
  below_formed (ParentDir ∷ xs) ns f = f
  below_formed (Normal s ∷ xs) ns f = f

module _ (formed : List ℕ → Type 0) (units : List ℕ → List ℕ) (laws : OccurrenceLaws formed units) (cut_prefix : (b : List ℕ) (i : ℕ) → formed b → IsBoundary b i → formed (take i b)) (cut_suffix : (b : List ℕ) (i : ℕ) → formed b → IsBoundary b i → formed (drop i b)) where
  pub checked_formed : (w : Style) (base path joined : List ℕ) → IsCheckedJoin w base path joined → formed base → formed path → formed joined
  checked_formed w base path joined h fb fp =
      let inside = h.checked.inside in
      let items = h.checked.items in
      let normal = from_reversed formed inside.normal (left_formed formed inside.form (reversed formed items (of_items formed units laws cut_prefix cut_suffix w path items inside.are fp))) in
      let names = below_formed formed h.base_items h.names (subst (AreFormed formed) (sym inside.is) (no_dot_formed formed inside.normal normal)) in
      let below = own_root h.base_items ++ h.names in
      of_path formed units laws cut_prefix cut_suffix w joined (h.base_items ++ below) h.answers.0 (joined_formed formed (cuts formed cut_prefix cut_suffix) h.base_items below (of_items formed units laws cut_prefix cut_suffix w base h.base_items h.base_are fb) names)
