-- The line of an escaped name matches that name alone.
use Rattle.std.proofs.Common.{◌≡◌, ◌&&◌, ◌||◌, ◌<◌, cond, nat_eq, nat_le, ℕ, Bool, true, false, length, List, [], ◌∷◌, ◌++◌, refl, sym, ap, ◌∙◌, subst, arith, append-nil}
use Rattle.std.proofs.lemmas.List.Elements.{All-head, All-tail}
use Rattle.wildcards.specs.declared.part.Part.{Part}
use Rattle.wildcards.specs.declared.piece.Item.{Item}
use Rattle.wildcards.specs.declared.piece.Item.TheVariants as item
use Rattle.wildcards.specs.declared.piece.Piece.{Piece}
use Rattle.wildcards.specs.declared.piece.Piece.TheVariants.{One}
use Rattle.wildcards.specs.Match.{TakesLetter, Fits, Matches}
use Rattle.wildcards.specs.Wild.{Wild}
use Rattle.os_ignore.specs.declared.letter.Letter.{Letter}
use Rattle.os_ignore.specs.declared.letter.Kind.TheVariants.{Slash, Literal}
use Rattle.os_ignore.specs.declared.line.Line.{Line}
use Rattle.os_ignore.specs.declared.pattern.After.{After}
use Rattle.os_ignore.specs.declared.pattern.After.TheVariants as after
use Rattle.os_ignore.specs.Components.{IsPlain, IsLastComponent}
use Rattle.os_ignore.specs.Letters.{AreLetters, is_plain, kind_of, escaped}
use Rattle.os_ignore.specs.Lines.{IsTrimmed, IsBody, IsLineOf, IsLine, strip_first, has_slash, literal_prefix, after_literal}
use Rattle.os_ignore.specs.Matching.{IsTarget, IsAfter, LineMatches, by_slashes}
use Rattle.os_ignore.specs.PatternText.{PieceAt, IsPiece, IsPart, EndsPart, IsPattern, is_deep, all_stars}
use Rattle.wildcards.specs.Items.{Reads}
use Rattle.os_ignore.proofs.lemmas.OneReading.{same_letters}
use Rattle.os_ignore.proofs.lemmas.OneMeaning.{same_body}
use Rattle.os_ignore.proofs.lemmas.Parts.{one_piece}
use Rattle.os_ignore.proofs.lemmas.Tags.{one_group, no_slash, none_end, one_part, and_false}

abbrev behind : ℕ → Letter
behind b = record { byte = b; quoted = true }

abbrev quoted : List ℕ → List Letter
quoted [] = []
quoted (b ∷ bs) = behind b ∷ quoted bs

read : (bs : List ℕ) → AreLetters (escaped bs) (quoted bs)
read [] = refl
read (b ∷ bs) = (escaped bs, refl, read bs)

last_of : (bs : List ℕ) (front : List Letter) (l : Letter) → IsPlain 0x2F bs → quoted bs ≡ front ++ l ∷ [] → (is_plain l 0x20 ≡ false) × (nat_eq l.byte 0x2F ≡ false)
last_of [] [] l p e = let never : [] ≡ l ∷ [] = e in absurd cc
last_of [] (x ∷ front) l p e = let never : [] ≡ x ∷ front ++ l ∷ [] = e in absurd cc
last_of (b ∷ bs) [] l p e =
    let same : behind b ≡ l = cc in
    (ap (λ z. is_plain z 0x20) (sym same), ap (λ z. nat_eq z.byte 0x2F) (sym same) ∙ All-head (λ c. nat_eq c 0x2F ≡ false) b bs p)
last_of (b ∷ bs) (x ∷ front) l p e =
    let rest : quoted bs ≡ front ++ l ∷ [] = cc in
    last_of bs front l (All-tail (λ c. nat_eq c 0x2F ≡ false) b bs p) rest

trimmed : (bs : List ℕ) → IsPlain 0x2F bs → IsTrimmed (quoted bs) (quoted bs)
trimmed bs p = record { blanks = []; joined = sym (append-nil (quoted bs)); blank = tt; no_more = λ front l e. (last_of bs front l p e).0 }

body : (b : ℕ) (bs : List ℕ) → IsPlain 0x2F (b ∷ bs) → IsBody (quoted (b ∷ bs)) false false (quoted (b ∷ bs))
body b bs p = record {
  trimmed = quoted (b ∷ bs);
  without_blanks = trimmed (b ∷ bs) p;
  taken = refl;
  stripped = (refl, λ front l e. (last_of (b ∷ bs) front l p e).1);
}

slashless : (bs : List ℕ) → IsPlain 0x2F bs → has_slash (quoted bs) ≡ false
slashless [] p = refl
slashless (b ∷ bs) p =
    ap (λ v. v || has_slash (quoted bs)) (All-head (λ c. nat_eq c 0x2F ≡ false) b bs p) ∙ slashless bs (All-tail (λ c. nat_eq c 0x2F ≡ false) b bs p)

kind : (b : ℕ) → nat_eq b 0x2F ≡ false → kind_of (behind b) ≡ Literal
kind b e = ap (λ v. cond v Slash Literal) e

module _ {A : Type 0} where
  record AreThese (bs : List ℕ) (pieces : List (Piece (Item A))) (a : After) : Type 0 where
    ends : a ≡ after.End
    stars : all_stars pieces ≡ true → pieces ≡ []
    are : (text : List ℕ) → Wild TakesLetter Fits pieces text → text ≡ bs
    fit : Wild TakesLetter Fits pieces bs

  these : (bs : List ℕ) (pieces : List (Piece (Item A))) (left : List Letter) (a : After) → IsPlain 0x2F bs → Reads (IsPiece false) (quoted bs) pieces left → EndsPart left a → AreThese bs pieces a
  these [] [] left a p r s = record { ends = none_end a (subst (λ z. EndsPart z a) (sym r) s); stars = λ e. refl; are = λ text m. m; fit = refl }
  these [] (x ∷ xs) left a p r s = absurd r.1
  these (b ∷ bs) [] left a p r s = absurd (no_slash (behind b) (quoted bs) a (All-head (λ c. nat_eq c 0x2F ≡ false) b bs p) (subst (λ z. EndsPart z a) (sym r) s))
  these (b ∷ bs) (x ∷ xs) left a p r s =
      let head = All-head (λ c. nat_eq c 0x2F ≡ false) b bs p in
      let piece : (x ≡ One (item.Literal b)) × (r.0 ≡ quoted bs) = subst (λ k. PieceAt false k (behind b) (quoted bs) x r.0) (kind b head) r.1.1 in
      let rest = these bs xs left a (All-tail (λ c. nat_eq c 0x2F ≡ false) b bs p) (subst (λ z. Reads (IsPiece false) z xs left) piece.1 r.2) s in
      record {
        ends = rest.ends;
        stars = λ e. let never : false ≡ true = sym (ap (λ z. all_stars (z ∷ xs)) piece.0) ∙ e in absurd cc;
        are = λ text m.
            let one = subst (λ z. Wild TakesLetter Fits (z ∷ xs) text) piece.0 m in
            one.joined ∙ ap (λ z. z ∷ one.rest) (sym one.fits) ∙ ap (λ z. b ∷ z) (rest.are one.rest one.after);
        fit = subst (λ z. Wild TakesLetter Fits (z ∷ xs) (b ∷ bs)) (sym piece.0) (record { letter = b; rest = bs; joined = refl; fits = refl; after = rest.fit });
      }

  part_of : (bs : List ℕ) → IsPlain 0x2F bs → (pieces : List (Piece (Item A))) (a : After) → IsPart false (quoted bs) pieces a → AreThese bs pieces a
  part_of bs p pieces a h = these bs pieces h.left a p h.read h.ends

  not_deep : (bs : List ℕ) (pieces : List (Piece (Item A))) (a : After) → AreThese bs pieces a → is_deep pieces ≡ false
  not_deep bs pieces a h = go (all_stars pieces) refl
    where
      go : (v : Bool) → all_stars pieces ≡ v → is_deep pieces ≡ false
      go true e = ap is_deep (h.stars e)
      go false e = ap (λ v. nat_le 2 (length pieces) && v) e ∙ and_false (nat_le 2 (length pieces))

  -- the pattern of an escaped name matches that name
  pattern_of : (bs : List ℕ) → IsPlain 0x2F bs → (pattern : List (Piece (Part A))) → IsPattern false (quoted bs) pattern → ((text : List ℕ) → Matches by_slashes pattern text → text ≡ bs) × Matches by_slashes pattern bs
  pattern_of bs p pattern k =
      let one = one_group false (quoted bs) pattern k (λ pieces a h. let t = part_of bs p pieces a h in (t.ends, not_deep bs pieces a t)) in
      let own = part_of bs p one.0.pieces.items after.End one.1.0 in (
        λ text m.
            let fit = subst (λ z. Matches by_slashes z text) one.1.1 m in
            one_part text fit.letter (fit.joined ∙ ap (λ z. fit.letter ∷ z) fit.after) ∙ own.are fit.letter fit.fits.0,
        subst (λ z. Matches by_slashes z bs) (sym one.1.1) (record { letter = bs; rest = []; joined = one_piece 0x2F bs p; fits = (own.fit, λ e. let never : false ≡ true = e in absurd cc); after = refl }),
      )

  -- its line
  line_of : (b : ℕ) (bs : List ℕ) → IsPlain 0x2F (b ∷ bs) → (line : Line A) → IsLineOf false (quoted (b ∷ bs)) line → (line.takes_in ≡ false) × ((path : List ℕ) (is_dir : Bool) → (LineMatches line path is_dir → IsLastComponent path (b ∷ bs)) × (IsLastComponent path (b ∷ bs) → LineMatches line path is_dir))
  line_of b bs p line h =
      let same = same_body (quoted (b ∷ bs)) line.takes_in line.directories false false h.body (quoted (b ∷ bs)) h.read (body b bs p) in
      let anchored : line.anchored ≡ false = h.anchored ∙ ap has_slash same.1.1 ∙ slashless (b ∷ bs) p in
      let literal : line.literal.items ≡ [] = h.literal ∙ ap (λ z. literal_prefix false (strip_first 0x2F z).1) same.1.1 in
      let exact : line.folds ≡ false = h.folds_is in
      let pattern = pattern_of (b ∷ bs) p line.pattern.items (subst (λ z. IsPattern false (after_literal (strip_first 0x2F z).1) line.pattern.items) same.1.1 h.pattern) in (
        same.0,
        λ path is_dir. (
          λ m.
              let name : m.target ≡ b ∷ bs = subst (λ z. IsAfter z line.literal.items m.target m.matches.rest) exact m.matches.joined ∙ ap (λ z. z ++ m.matches.rest) literal ∙ pattern.0 m.matches.rest m.matches.matches in
              subst (IsLastComponent path) name (subst (λ z. IsTarget z path m.target) anchored m.target_is),
          λ m. record {
            below = λ e. let never : false ≡ true = sym (ap (λ z. z || line.directories) anchored ∙ same.1.0) ∙ e in absurd cc;
            directories = λ e. let never : false ≡ true = sym same.1.0 ∙ e in absurd cc;
            target = b ∷ bs;
            target_is = subst (λ z. IsTarget z path (b ∷ bs)) (sym anchored) m;
            matches = record { rest = b ∷ bs; joined = subst (λ z. IsAfter z line.literal.items (b ∷ bs) (b ∷ bs)) (sym exact) (ap (λ z. z ++ b ∷ bs) (sym literal)); matches = pattern.1 };
          },
        ),
      )

  pub escaped_alone : (name : List ℕ) → (line : Line A) → 0 < length name → IsPlain 0x2F name → IsLine false (escaped name) line → (line.takes_in ≡ false) × ((path : List ℕ) (is_dir : Bool) → (LineMatches line path is_dir → IsLastComponent path name) × (IsLastComponent path name → LineMatches line path is_dir))
  escaped_alone [] line l p h = absurd (omega arith)
  escaped_alone (b ∷ bs) line l p h =
      line_of b bs p line (subst (λ z. IsLineOf false z line) (same_letters (escaped (b ∷ bs)) h.letters (quoted (b ∷ bs)) h.read (read (b ∷ bs))) h.line_of)
