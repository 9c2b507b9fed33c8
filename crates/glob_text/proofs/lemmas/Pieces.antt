-- What marks are in the compiled pattern, and clones of that.
use Rattle.std.proofs.Common.{◌≡◌, ℕ, zero, suc, ◌<◌, ◌≤◌, List, [], ◌∷◌, ◌++◌, length, get_or, arith, refl, sym, ap, ◌∙◌, subst, append_assoc, append-nil}
use Rattle.wildcards.specs.declared.piece.Item.{Item}
use Rattle.wildcards.specs.declared.piece.Item.TheVariants.{Any, Literal}
use Rattle.wildcards.specs.declared.piece.Piece.{Piece}
use Rattle.wildcards.specs.declared.piece.Piece.TheVariants.{One}
use Rattle.glob_text.specs.Marks.{Mark, literal, any, star, one_of, opens, comma, closes}
use Rattle.glob_text.specs.Chosen.{mark_at}
use Rattle.glob_text.specs.Parts.{IsPieceOf}
use Rattle.glob_text.specs.PartSteps.{ArePieces, IsPieceAt, IsPieceClone}

module _ {A : Type 0} where
  -- a clone is what its mark is
  same_literal : (letter : ℕ) (p q : Piece (Item A)) → p ≡ One (Literal letter) → IsPieceClone p q → q ≡ One (Literal letter)
  same_literal letter p q e k = let h = subst (λ z. IsPieceClone z q) e k in h.1 ∙ ap One h.2

  pub clone_is : (m : Mark) (p q : Piece (Item A)) → IsPieceOf m p → IsPieceClone p q → IsPieceOf m q
  clone_is (literal letter) p q e k = same_literal letter p q e k
  clone_is any p q e k = let h = subst (λ z. IsPieceClone z q) e k in h.1 ∙ ap One h.2
  clone_is (star again) p q e k = subst (λ z. IsPieceClone z q) e k
  clone_is (one_of negated ranges) p q e k =
      let h = subst (λ z. IsPieceClone z q) e.1 k in
      (h.2.0, h.1 ∙ ap One h.2.1, λ letter. h.2.2 letter ∙ e.2 letter)
  clone_is (opens index) p q e k = same_literal 0x7B p q e k
  clone_is comma p q e k = same_literal 0x2C p q e k
  clone_is (closes index) p q e k = same_literal 0x7D p q e k

  -- the piece of an index is what the mark of the index is
  piece_is : (marks : List Mark) (ps : List (Piece (Item A))) (i : ℕ) (p : Piece (Item A)) → i < length ps → p ≡ get_or ps i p → ArePieces marks ps → IsPieceOf (mark_at marks i) p
  piece_is marks [] i p l e h = absurd (omega (arith, l))
  piece_is [] (q ∷ ps) i p l e h = absurd h
  piece_is (m ∷ ms) (q ∷ ps) zero p l e h = subst (IsPieceOf m) (sym e) h.0
  piece_is (m ∷ ms) (q ∷ ps) (suc i) p l e h = piece_is ms ps i p (omega (arith, l)) e h.1

  no_mark : (marks : List Mark) (ps : List (Piece (Item A))) (i : ℕ) → length ps ≤ i → ArePieces marks ps → mark_at marks i ≡ any
  no_mark [] [] i l h = refl
  no_mark [] (q ∷ ps) i l h = absurd h
  no_mark (m ∷ ms) [] i l h = absurd h
  no_mark (m ∷ ms) (q ∷ ps) zero l h = absurd (omega (arith, l))
  no_mark (m ∷ ms) (q ∷ ps) (suc i) l h = no_mark ms ps i (omega (arith, l)) h.1

  pub clone_at : (ps : List (Piece (Item A))) (i : ℕ) (p q : Piece (Item A)) → i < length ps → p ≡ get_or ps i p → IsPieceClone p q → IsPieceAt ps i q
  clone_at ps i p q l e k = λ marks h. clone_is (mark_at marks i) p q (piece_is marks ps i p l e h) k

  pub none_at : (ps : List (Piece (Item A))) (i : ℕ) → length ps ≤ i → IsPieceAt ps i (One Any)
  none_at ps i l = λ marks h.
      let none : IsPieceOf {A = A} any (One Any) = refl in
      subst (λ z. IsPieceOf {A = A} z (One Any)) (sym (no_mark marks ps i l h)) none

  -- how many marks have pieces
  pub record PiecesSoFar (marks : List Mark) (ps : List (Piece (Item A))) (left : List Mark) : Type 0 where
    pub done : List Mark
    pub joined : marks ≡ done ++ left
    pub are : ArePieces done ps

  more_pieces : (ms : List Mark) (ps : List (Piece (Item A))) (m : Mark) (p : Piece (Item A)) → ArePieces ms ps → IsPieceOf m p → ArePieces (ms ++ m ∷ []) (ps ++ p ∷ [])
  more_pieces [] [] m p h k = (k, tt)
  more_pieces [] (q ∷ ps) m p h k = absurd h
  more_pieces (n ∷ ms) [] m p h k = absurd h
  more_pieces (n ∷ ms) (q ∷ ps) m p h k = (h.0, more_pieces ms ps m p h.1 k)

  pub no_pieces : (marks : List Mark) → PiecesSoFar marks [] marks
  no_pieces marks = record { done = []; joined = refl; are = tt }

  pub one_more_piece : (marks : List Mark) (ps : List (Piece (Item A))) (m : Mark) (rest : List Mark) (p : Piece (Item A)) (more : List (Piece (Item A))) → PiecesSoFar marks ps (m ∷ rest) → IsPieceOf m p → more ≡ ps ++ p ∷ [] → PiecesSoFar marks more rest
  one_more_piece marks ps m rest p more h i e = record {
    done = h.done ++ m ∷ [];
    joined = h.joined ∙ sym (append_assoc h.done (m ∷ []) rest);
    are = subst (ArePieces (h.done ++ m ∷ [])) (sym e) (more_pieces h.done ps m p h.are i);
  }

  pub all_pieces : (marks : List Mark) (ps : List (Piece (Item A))) (left : List Mark) → PiecesSoFar marks ps left → left ≡ [] → ArePieces marks ps
  all_pieces marks ps left h e = subst (λ z. ArePieces z ps) (sym (h.joined ∙ ap (λ z. h.done ++ z) e ∙ append-nil h.done)) h.are
