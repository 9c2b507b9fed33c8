-- What pieces are cut at occurs in none of them.
use Rattle.std.proofs.Common.{◌≡◌, ℕ, ◌+◌, ◌<◌, List, [], ◌++◌, length, refl, sym, ap, ◌∙◌, arith, append_assoc, length-append}
use Rattle.std.proofs.lemmas.List.Elements.{All-nil, All-cons}
use Rattle.std.specs.List.{All}
use Rattle.os_str_ext.specs.Pieces.{SplitsAt, IsSplit, IsRSplit, whole, cut}
use Rattle.wtf8_core.specs.Occurrence.{OccursAt, OccursNowhere, IsFirstIndex, IsLastIndex}

module _ (p : List ℕ) (some : 0 < length p) where
  -- before the first index
  before_first : (s piece rest : List ℕ) → SplitsAt IsFirstIndex p s piece rest → OccursNowhere p piece
  before_first s piece rest c i at =
      let size : length piece ≡ length at.before + (length p + length at.after) = ap length at.joined ∙ length-append at.before (p ++ at.after) ∙ ap (λ n. length at.before + n) (length-append p at.after) in
      let earlier : OccursAt p s i = record {
        before = at.before;
        after = at.after ++ (p ++ rest);
        joined = c.joined ∙ ap (λ x. x ++ (p ++ rest)) at.joined ∙ append_assoc at.before (p ++ at.after) (p ++ rest) ∙ ap (λ x. at.before ++ x) (append_assoc p at.after (p ++ rest));
        index = at.index;
      } in
      let index = at.index in
      c.found.least i (omega (arith, some, size, index)) earlier

  -- after the last index
  after_last : (s piece rest : List ℕ) → SplitsAt IsLastIndex p s rest piece → OccursNowhere p piece
  after_last s piece rest c i at =
      let later : OccursAt p s (length (rest ++ (p ++ at.before))) = record {
        before = rest ++ (p ++ at.before);
        after = at.after;
        joined = c.joined ∙ ap (λ x. rest ++ (p ++ x)) at.joined ∙ ap (λ x. rest ++ x) (sym (append_assoc p at.before (p ++ at.after))) ∙ sym (append_assoc rest (p ++ at.before) (p ++ at.after));
        index = refl;
      } in
      let size : length (rest ++ (p ++ at.before)) ≡ length rest + (length p + length at.before) = length-append rest (p ++ at.before) ∙ ap (λ n. length rest + n) (length-append p at.before) in
      c.found.greatest (length (rest ++ (p ++ at.before))) (omega (arith, some, size)) later

  pub in_no_piece : (s : List ℕ) (pieces : List (List ℕ)) → IsSplit p s pieces → All (OccursNowhere p) pieces
  in_no_piece s pieces (whole w) = All-cons (OccursNowhere p) s [] w (All-nil (OccursNowhere p))
  in_no_piece s pieces (cut {piece = piece} {rest = rest} {pieces = others} c falls) =
      All-cons (OccursNowhere p) piece others (before_first s piece rest c) (in_no_piece rest others falls)

  pub in_no_piece_from_the_end : (s : List ℕ) (pieces : List (List ℕ)) → IsRSplit p s pieces → All (OccursNowhere p) pieces
  in_no_piece_from_the_end s pieces (whole w) = All-cons (OccursNowhere p) s [] w (All-nil (OccursNowhere p))
  in_no_piece_from_the_end s pieces (cut {piece = piece} {rest = rest} {pieces = others} c falls) =
      All-cons (OccursNowhere p) piece others (after_last s piece rest c) (in_no_piece_from_the_end rest others falls)
