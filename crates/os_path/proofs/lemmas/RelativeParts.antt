-- A path as it is reached from a base is well formed.
use Rattle.std.proofs.Common.{◌≡◌, inl, inr, ◌<◌, ℕ, List, [], ◌∷◌, ◌++◌, take, drop, sym, ◌∙◌, subst, lit<}
use Rattle.wtf8_core.specs.Boundary.{IsBoundary}
use Rattle.wtf8_core.specs.OccurrenceLaws.{OccurrenceLaws}
use Rattle.path_rules.specs.declared.rules.Style.{Style}
use Rattle.path_rules.specs.declared.rules.Style.TheVariants as style
use Rattle.path_rules.specs.StyleRules.{main_separator}
use Rattle.path_rules.specs.Component.{Item, CurDir}
use Rattle.path_building.specs.Written.{joined_names, IsWrittenOut, IsWritten}
use Rattle.path_building.specs.Relative.{AreApart, up_from, BeginsAtTop, AreWritten, IsWhole, IsCandidate}
use Rattle.path_building.proofs.lemmas.Places.{below_top, bare_names, object_none}
use Rattle.os_path.specs.Formed.{AreFormed}
use Rattle.os_path.proofs.lemmas.Cuts.{cuts}
use Rattle.os_path.proofs.lemmas.Whole.{joined_formed}
use Rattle.os_path.proofs.lemmas.Joined.{names_formed}
use Rattle.os_path.proofs.lemmas.NormalParts.{clean_left, reversed, from_reversed, of_items, of_path}

ascii : (w : Style) → main_separator w < 0x80
ascii style.Unix = lit< tt
ascii style.Windows = lit< tt

module _ (formed : List ℕ → Type 0) where
  apart_formed : (xs ys us vs : List Item) → AreApart xs ys us vs → AreFormed formed xs → AreFormed formed us
  apart_formed [] ys us vs a f = subst (AreFormed formed) (sym a.0) f
  apart_formed (x ∷ xs) [] us vs a f = subst (AreFormed formed) (sym a.0) f
  apart_formed (x ∷ xs) (y ∷ ys) us vs (inl a) f = apart_formed xs ys us vs a.1 f.1
  apart_formed (x ∷ xs) (y ∷ ys) us vs (inr a) f = subst (AreFormed formed) (sym a.1.0) f

  ups_formed : (xs : List Item) → AreFormed formed (up_from xs)
  ups_formed [] = tt
  ups_formed (x ∷ xs) = (tt, ups_formed xs)

module _ (formed : List ℕ → Type 0) (units : List ℕ → List ℕ) (laws : OccurrenceLaws formed units) where
  written_formed : (w : Style) (names : List Item) (r : List ℕ) → ¬ (BeginsAtTop names) → IsWritten w names r → AreFormed formed names → formed r
  written_formed w names r n h f =
      let c = main_separator w in
      let is = bare_names c names n in
      let out : IsWrittenOut w names r = elim h [ inl a ↦ absurd (object_none w names n a.0) | inr a ↦ a.1 ] in
      let bytes : r ≡ joined_names c names = elim out as (λ z. r ≡ joined_names c names) [ inl a ↦ a.1 ∙ is.1 | inr a ↦ a.1 ∙ is.0 ] in
      subst formed (sym bytes) (names_formed formed units laws c (ascii w) names f)

  shown_formed : (w : Style) (names : List Item) (r : List ℕ) → ¬ (BeginsAtTop names) → AreWritten w names r → AreFormed formed names → formed r
  shown_formed w names r n h f = elim h.1.0 as (λ z. formed r) [
    | inl a ↦ written_formed w (CurDir ∷ names) r (λ t. t) (subst (λ z. IsWritten w z r) a.1 h.1.1) (tt, f)
    | inr a ↦ written_formed w names r n (subst (λ z. IsWritten w z r) a.1 h.1.1) f
  ]

  module _ (cut_prefix : (b : List ℕ) (i : ℕ) → formed b → IsBoundary b i → formed (take i b)) (cut_suffix : (b : List ℕ) (i : ℕ) → formed b → IsBoundary b i → formed (drop i b)) where
    whole_formed : (w : Style) (path r : List ℕ) → IsWhole w path r → formed path → formed r
    whole_formed w path r h fp =
        let items = of_items formed units laws cut_prefix cut_suffix w path h.items h.are fp in
        of_path formed units laws cut_prefix cut_suffix w r h.shown h.answers.0 (elim h.form as (λ z. AreFormed formed h.shown) [
          | inl v ↦ from_reversed formed h.shown (clean_left formed v.1 (reversed formed h.items items))
          | inr n ↦ subst (AreFormed formed) (sym n.1) items
        ])

    pub relative_formed : (w : Style) (path base r : List ℕ) → IsCandidate w path base r → formed path → formed r
    relative_formed w path base r (inl h) fp = subst formed (sym h.1.1) fp
    relative_formed w path base r (inr h) fp = elim h.way as (λ z. formed r) [
      | inl v ↦ whole_formed w path r v.1 fp
      | inr n ↦
          let items = of_items formed units laws cut_prefix cut_suffix w path h.left.items h.left.are fp in
          let left = apart_formed formed h.left.items h.left.base_items h.us h.left.left h.left.apart items in
          shown_formed w (up_from h.vs ++ h.us) r (below_top h.vs h.us n.0) n.1 (joined_formed formed (cuts formed cut_prefix cut_suffix) (up_from h.vs) h.us (ups_formed formed h.vs) left)
    ]
