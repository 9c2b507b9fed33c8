-- Items in an array, one after the other.
use Rattle.std.proofs.Common.{◌≡◌, ℕ, ◌+◌, ◌-◌, ◌<◌, Bool, true, false, List, [], ◌∷◌, ◌++◌, length, take, drop, set, map, refl, sym, ap, ◌∙◌, subst, arith}
use Rattle.std.proofs.lemmas.List.{take_more_set, drop-set-lt, drop-drop, length-set, length-append}
use Rattle.osbytes_c.specs.declared.walks.view.View.{View}
use Rattle.osbytes_c.specs.declared.walks.split.Piece.{Piece}
use Rattle.osbytes_c.specs.Fills.{IsFilled, IsLeft, IsView, viewed, GiveInOrder, PieceViews, LastPieceViews}
use Rattle.osbytes_c.specs.Steps.{IsFirstPiece, IsLastPiece}
use Rattle.osbytes_c.proofs.lemmas.Walks.{split_step, rsplit_step}
use Rattle.os_str_ext.specs.Pieces.{IsSplit, IsRSplit}

pub none_filled : {A : Type 0} (old : List A) → IsFilled [] old old 0
none_filled old = record { same_length = refl; count_is = refl; prefix = refl; after = refl }

-- one more item is written
pub one_more_filled : {A : Type 0} (items old new : List A) (count : ℕ) (x : A) → IsFilled items old new count → count < length new
    → IsFilled (items ++ x ∷ []) old (set new count x) (count + 1)
one_more_filled items old new count x h room =
    record {
      same_length = length-set new count x ∙ h.same_length;
      count_is = omega (arith, h.count_is, length-append items (x ∷ []));
      prefix = take_more_set new count x room ∙ ap (λ d. d ++ x ∷ []) h.prefix;
      after =
          drop-set-lt (count + 1) new count x (omega arith)
          ∙ sym (drop-drop 1 count new) ∙ ap (drop 1) h.after ∙ drop-drop 1 count old;
    }

module _ {Step Item : Type 0} (Is : ℕ → Step → Type 0) (Shows : ℕ → Step → Item → Type 0) (next : Step → ℕ) (is_last : Step → Bool) where
  alone : (b : Bool) (items : List Item) (n : ℕ) → items ≡ [] → elim b as (λ b. Type 0) [ true ↦ (items ≡ []) × ((b ≡ true) × (n ≡ n)) | false ↦ (b ≡ false) × (n ≡ n) ]
  alone true items n e = (e, (refl, refl))
  alone false items n e = (refl, refl)

  -- a step that isn't the last
  further : (b : Bool) (None More Then Other : Type 0) → elim b as (λ b. Type 0) [ true ↦ None × ((false ≡ true) × Other) | false ↦ More ]
      → (More → Then) → (Last : Type 0) → elim b as (λ b. Type 0) [ true ↦ Last | false ↦ Then ]
  further true None More Then Other more f Last = let no : false ≡ true = more.1.0 in cc
  further false None More Then Other more f Last = f more

  -- one more step
  pub one_more_given : (at : ℕ) (items : List Item) (mid : ℕ) (step : Step) (item : Item) → GiveInOrder Is Shows next is_last at items false mid
      → Is mid step → Shows mid step item → GiveInOrder Is Shows next is_last at (items ++ item ∷ []) (is_last step) (next step)
  one_more_given at [] mid step item g is shows =
      (step, (subst (λ i. Is i step) g.1 is, (subst (λ i. Shows i step item) g.1 shows, alone (is_last step) [] (next step) refl)))
  one_more_given at (first ∷ items) mid step item g is shows =
      let s = g.0 in
      (s, (g.1.0, (g.1.1.0, further (is_last s) (items ≡ []) _ _ _ g.1.1.1 (λ more. one_more_given (next s) items mid step item more is shows) _)))

-- the bytes of a view
pub viewed_is : (address i j : ℕ) (s : List ℕ) (view : View) → IsView address i j view → viewed address s view ≡ drop i (take j s)
viewed_is address i j s view h =
    let start : view.at - address ≡ i = omega (arith, h.at) in
    let end : view.at - address + view.len ≡ j = omega (arith, h.at, h.len, h.ordered) in
    ap (λ n. drop n (take (view.at - address + view.len) s)) start ∙ ap (λ n. drop i (take n s)) end

module _ (p s : List ℕ) (address at : ℕ) where
  pub one_more_piece : (items : List View) (next : ℕ) (piece : Piece) (view : View) → PieceViews p s address at items false next → IsFirstPiece p s next piece
      → IsView address next piece.edge view → PieceViews p s address at (items ++ view ∷ []) piece.last piece.rest
  one_more_piece = one_more_given (IsFirstPiece p s) (λ at step view. IsView address at step.edge view) (λ step. step.rest) (λ step. step.last) at

  -- the same from the end
  pub one_more_last_piece : (items : List View) (next : ℕ) (piece : Piece) (view : View) → LastPieceViews p s address at items false next → IsLastPiece p s next piece
      → IsView address piece.edge next view → LastPieceViews p s address at (items ++ view ∷ []) piece.last piece.rest
  one_more_last_piece = one_more_given (IsLastPiece p s) (λ at step view. IsView address step.edge at view) (λ step. step.rest) (λ step. step.last) at

-- nothing follows the last piece
none_follow : (ended : Bool) (items : List View) (pieces : List (List ℕ)) (f : View → List ℕ) (After : Type 0) → items ≡ [] → ended ≡ true
    → IsLeft ended pieces After → map f items ++ pieces ≡ []
none_follow true items pieces f After e t after = ap (λ i. map f i ++ pieces) e ∙ after
none_follow false items pieces f After e t after = let no : false ≡ true = t in cc

-- what follows a piece, by whether it is the last one
follow : (last ended : Bool) (items : List View) (pieces : List (List ℕ)) (f : View → List ℕ) (Given After All Rest : Type 0)
    → elim last as (λ b. Type 0) [ true ↦ (items ≡ []) × ((ended ≡ true) × Rest) | false ↦ Given ]
    → IsLeft ended pieces After → (Given → All)
    → elim last as (λ b. Type 0) [ true ↦ map f items ++ pieces ≡ [] | false ↦ All ]
follow true ended items pieces f Given After All Rest g after more = none_follow ended items pieces f After g.0 g.1.0 after
follow false ended items pieces f Given After All Rest g after more = more g

module _ (p s : List ℕ) (address : ℕ) where
  -- the pieces in views, and those that are left
  pub split_filled : (at : ℕ) (items : List View) (ended : Bool) (rest : ℕ) (pieces : List (List ℕ)) → PieceViews p s address at items ended rest
      → IsLeft ended pieces (IsSplit p (drop rest s) pieces) → IsSplit p (drop at s) (map (viewed address s) items ++ pieces)
  split_filled at [] ended rest pieces g after =
      subst (λ i. IsSplit p (drop i s) pieces) g.1 (subst (λ e. IsLeft e pieces (IsSplit p (drop rest s) pieces)) g.0 after)
  split_filled at (item ∷ items) ended rest pieces g after =
      let step = g.0 in
      split_step p s at step.edge step.rest step.last (viewed address s item) (map (viewed address s) items ++ pieces) g.1.0 (viewed_is address at step.edge s item g.1.1.0)
      (follow step.last ended items pieces (viewed address s) _ _ _ _ g.1.1.1 after (λ more. split_filled step.rest items ended rest pieces more after))

  -- the same from the end
  pub rsplit_filled : (at : ℕ) (items : List View) (ended : Bool) (rest : ℕ) (pieces : List (List ℕ)) → LastPieceViews p s address at items ended rest
      → IsLeft ended pieces (IsRSplit p (take rest s) pieces) → IsRSplit p (take at s) (map (viewed address s) items ++ pieces)
  rsplit_filled at [] ended rest pieces g after =
      subst (λ i. IsRSplit p (take i s) pieces) g.1 (subst (λ e. IsLeft e pieces (IsRSplit p (take rest s) pieces)) g.0 after)
  rsplit_filled at (item ∷ items) ended rest pieces g after =
      let step = g.0 in
      rsplit_step p s at step.edge step.rest step.last (viewed address s item) (map (viewed address s) items ++ pieces) g.1.0 (viewed_is address step.edge at s item g.1.1.0)
      (follow step.last ended items pieces (viewed address s) _ _ _ _ g.1.1.1 after (λ more. rsplit_filled step.rest items ended rest pieces more after))
