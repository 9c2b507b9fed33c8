use Rattle.std.proofs.Common.{inl, inr, ℕ, ◌+◌, ◌<◌, ◌≤◌, List, [], length, refl, subst, sym, ap, arith}
use Rattle.std.specs.Char.{encode_utf8}
use Rattle.std.proofs.lemmas.List.{append-nil}
use Rattle.wtf8_core.specs.Character.{WholeCharacter}
use Rattle.wtf8_core.specs.Occurrence.{OccursAt}
use Rattle.test_uses.proofs.PiecesFromBothEnds.{reversed}
use Rattle.test_uses.proofs.pieces.pieces_from_both_ends.Goals as goal

pub returns : goal.returns
returns g c =
    let character = c.args.character in
    let p : List ℕ = encode_utf8 character in
    let whole_at : (s : List ℕ) (i : ℕ) → OccursAt p s i → WholeCharacter s i (i + length p) = λ s i st. record {
      char = character;
      scalar = c.ranges.character.0;
      occurs = subst (λ f. OccursAt f s i) (sym (c.forms.ensures character)) st;
      end = ap (λ f. i + length f) (sym (c.forms.ensures character));
    } in
    let some : 0 < length p = let long = (c.characters.ensures.fits p 0 (0 + length p) (whole_at p 0 (record { before = []; after = []; joined = sym (append-nil p); index = refl }))).0 in omega arith in
    let apart : (s : List ℕ) (i j : ℕ) → OccursAt p s i → OccursAt p s j → i < j → i + length p ≤ j = λ s i j a b l.
    elim (c.characters.ensures.apart s i (i + length p) j (j + length p) (whole_at s i a) (whole_at s j b)) [
      | inl e ↦ (let same = e.0 in omega (arith, l))
      | inr (inl n) ↦ n
      | inr (inr n) ↦ omega (arith, l, n)
    ] in
    reversed p some apart _ _ _ c.split.ensures.bytes c.rsplit.ensures.bytes
