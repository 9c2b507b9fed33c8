-- A string has one list of pieces, and a cut takes the first of them off.
use Rattle.os_str_ext.proofs.Common.{◌≡◌, ℕ, ◌<◌, List, [], ◌∷◌, length, Option, None, Some, refl, sym, ap, subst, ◌∙◌, arith, option_map, OccursNowhere, ArePieces, AreOfRest, pieces_left}
use Rattle.std.specs.Iterator.{MakesProgress, item_count}
use Rattle.os_str_ext.specs.{Pieces.SplitsInto.whole, Pieces.SplitsInto.cut, Cuts.PiecesOf, Cuts.CutLaws}

module _ (Cuts : List ℕ → List ℕ → List ℕ → List ℕ → Type 0) (laws : CutLaws Cuts) (p : List ℕ) where
  one_list : (s : List ℕ) (qs rs : List (List ℕ)) → ArePieces Cuts p s qs → ArePieces Cuts p s rs → qs ≡ rs
  one_list s qs rs (whole w) (whole v) = refl
  one_list s qs rs (whole w) (cut c h) = absurd (laws.occurs p _ _ _ c w)
  one_list s qs rs (cut c h) (whole w) = absurd (laws.occurs p _ _ _ c w)
  one_list s qs rs (cut {piece = a} {rest = b} {pieces = left} c h) (cut {piece = d} {rest = e} {pieces = others} k l) =
      let same = laws.one p s a b d e c k in
      let tails : left ≡ others = one_list b left others h (subst (λ x. ArePieces Cuts p x others) (sym same.1) l) in
      ap (λ x. x ∷ left) same.0 ∙ ap (λ xs. d ∷ xs) tails

  module _ (pieces_of : PiecesOf Cuts) (some : 0 < length p) where
    pub pieces_cut : (s piece rest : List ℕ) → Cuts p s piece rest → (pieces_of p s).0 ≡ piece ∷ (pieces_of p rest).0
    pieces_cut s piece rest c = one_list s _ _ ((pieces_of p s).1 some) (cut c ((pieces_of p rest).1 some))

    pub pieces_whole : (s : List ℕ) → OccursNowhere p s → (pieces_of p s).0 ≡ s ∷ []
    pieces_whole s n = one_list s _ _ ((pieces_of p s).1 some) (whole n)

-- the pieces left are those of the rest
pub pieces_of_rest : {T : Type 0} (Cuts : List ℕ → List ℕ → List ℕ → List ℕ → Type 0) (pieces_of : PiecesOf Cuts) (p : List ℕ) → 0 < length p → (of : T → List ℕ) (rest : Option T)
    → AreOfRest Cuts of rest (pieces_left pieces_of p (option_map of rest))
pieces_of_rest Cuts pieces_of p some of None = refl
pieces_of_rest Cuts pieces_of p some of (Some s) = (p, some, (pieces_of p (of s)).1 some)

-- a call of `next` that gave the first piece left makes progress
pub first_piece_goes : {A : Type 0} (can : List (List ℕ) → Type 0) → ((l : List (List ℕ)) → can l) → (s t : List (List ℕ)) (x : A) (v : List ℕ) → s ≡ v ∷ t
    → MakesProgress can (item_count (λ left. left)) s (Some x) t
first_piece_goes can always s t x v e = record {
  on = λ _. (always t, tt, subst (λ l. length t < length l) (sym e) (omega arith));
  keeps = always t;
  rests = λ _. tt;
}
