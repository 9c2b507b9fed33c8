-- Tags that lines have.
use Rattle.std.proofs.Common.{◌≡◌, ◌&&◌, nat_eq, nat_le, not, cond, ℕ, Bool, true, false, Some, None, Result, Ok, Err, zero, suc, map, List, [], ◌∷◌, ◌++◌, length, refl, sym, ap, ◌∙◌, subst, arith, append_assoc, append-nil}
use Rattle.std.specs.Prelude.{IfOk}
use Rattle.std.specs.Char.{to_ascii_lowercase}
use Rattle.std.specs.List.{AllByRecursion, join_with_byte}
use Rattle.std.proofs.lemmas.Bool.Decides.{nat_tests}
use Rattle.std.proofs.lemmas.List.Elements.{All-head, All-tail}
use Rattle.std.proofs.lemmas.List.Splits.{join_with_byte-slice_split}
use Rattle.std.proofs.lemmas.Str.Ascii.{lowercase-lowercase}
use Rattle.wildcards.specs.declared.part.Part.{Part}
use Rattle.wildcards.specs.declared.piece.Item.{Item}
use Rattle.wildcards.specs.declared.piece.Item.TheVariants as item
use Rattle.wildcards.specs.declared.piece.Piece.{Piece}
use Rattle.wildcards.specs.declared.piece.Piece.TheVariants.{Many, One}
use Rattle.wildcards.specs.declared.separators.Separators.TheVariants as separators
use Rattle.wildcards.specs.Components.{components}
use Rattle.wildcards.specs.Match.{TakesLetter, Fits, Matches}
use Rattle.wildcards.specs.Wild.{Wild}
use Rattle.os_ignore.specs.declared.letter.Letter.{Letter}
use Rattle.os_ignore.specs.declared.letter.Kind.{Kind}
use Rattle.os_ignore.specs.declared.letter.Kind.TheVariants.{Slash, Star, Question, Bracket, Literal}
use Rattle.os_ignore.specs.declared.line.Line.{Line}
use Rattle.os_ignore.specs.declared.reason.NoPattern.{NoPattern}
use Rattle.os_ignore.specs.declared.pattern.After.{After}
use Rattle.os_ignore.specs.declared.pattern.After.TheVariants as after
use Rattle.os_ignore.specs.Components.{IsPlain, IsCut, IsLastComponent}
use Rattle.os_ignore.specs.Files.{list_of}
use Rattle.os_ignore.specs.Letters.{own_byte, is_plain, is_simple, kind_of, matches_itself}
use Rattle.os_ignore.specs.Lines.{literal_prefix, after_literal}
use Rattle.os_ignore.specs.Matching.{IsAfter, IsTarget, MatchesText, by_slashes}
use Rattle.os_ignore.specs.PatternText.{IsLiteral, PieceAt, IsPiece, IsPart, EndsPart, NextGroup, IsPattern, is_deep, all_stars, is_joined, left_after, text_of}
use Rattle.wildcards.specs.Groups.{group}
use Rattle.wildcards.specs.Items.{Reads, concat_of}
use Rattle.os_ignore.specs.Tags as tags
use Rattle.os_ignore.proofs.lemmas.Lasts.{plain_after}
use Rattle.os_ignore.proofs.lemmas.Parts.{last_of_cut, one_piece}
use Rattle.os_ignore.proofs.lemmas.SmallLetters.{AreAlike, alike, alike_cut, alike_plain, own_no_slash, same_tag}
use Rattle.os_ignore.specs.Tags.{IsTag, IsTagOf, AreTags, IsExtension, tag_of}

-- a list ends with the last list of which it is joined
joined_last : (c : ℕ) (front : List (List ℕ)) (last : List ℕ) → (before : List ℕ) × (join_with_byte c (front ++ last ∷ []) ≡ before ++ last)
joined_last c [] last = ([], refl)
joined_last c (x ∷ []) last = (x ++ c ∷ [], sym (append_assoc x (c ∷ []) last))
joined_last c (x ∷ y ∷ front) last =
    let h = joined_last c (y ∷ front) last in
    (x ++ c ∷ h.0, ap (λ z. x ++ c ∷ z) h.1 ∙ sym (append_assoc x (c ∷ h.0) last))

-- a path ends with its last component
ends_with_last : (path last : List ℕ) → IsLastComponent path last → (before : List ℕ) × (path ≡ before ++ last)
ends_with_last path last k =
    let h = joined_last 0x2F k.0 last in
    (h.0, sym (join_with_byte-slice_split 0x2F path) ∙ ap (join_with_byte 0x2F) k.1 ∙ h.1)

-- a path of one component is that
pub one_part : (path part : List ℕ) → components separators.Slash path ≡ part ∷ [] → path ≡ part
one_part path part e = sym (join_with_byte-slice_split 0x2F path) ∙ ap (join_with_byte 0x2F) e

-- what the target ends with the path ends with
path_end : (anchored : Bool) (path target : List ℕ) → IsTarget anchored path target → (front : List ℕ) × (path ≡ front ++ target)
path_end true path target t = ([], sym t)
path_end false path target t = ends_with_last path target t

pub no_slash : (l : Letter) (ls : List Letter) (a : After) → (nat_eq l.byte 0x2F ≡ false) → EndsPart (l ∷ ls) a → ⊥
no_slash l ls after.End n e = absurd cc
no_slash l ls (after.Slash quoted rest) n e =
    let same : l ≡ record { byte = 0x2F; quoted = quoted } = cc in
    let never : false ≡ true = sym n ∙ ap (λ z. nat_eq z.byte 0x2F) same in
    absurd cc

pub none_end : (a : After) → EndsPart [] a → a ≡ after.End
none_end after.End e = refl
none_end (after.Slash quoted rest) e = absurd cc

-- letters of which nothing is left after the literal start with one that matches itself
begins_simple : (l : Letter) (ls : List Letter) → after_literal (l ∷ ls) ≡ [] → (is_simple l ≡ true) × (after_literal ls ≡ [])
begins_simple l ls e = go (is_simple l) refl e
  where
    go : (v : Bool) → is_simple l ≡ v → cond v (after_literal ls) (l ∷ ls) ≡ [] → (is_simple l ≡ true) × (after_literal ls ≡ [])
    go true f g = (f, g)
    go false f g = absurd cc

both : (a b : Bool) → a && b ≡ true → b ≡ true
both true b e = e
both false b e = let never : false ≡ true = e in absurd cc

pub and_false : (v : Bool) → v && false ≡ false
and_false true = refl
and_false false = refl

star_byte : (star : Letter) → is_plain star 0x2A ≡ true → star.byte ≡ 0x2A
star_byte star e = go star.quoted e
  where
    go : (q : Bool) → not q && nat_eq star.byte 0x2A ≡ true → star.byte ≡ 0x2A
    go true h = let never : false ≡ true = h in absurd cc
    go false h = grind (arith, nat_tests, h)

star_kind : (star : Letter) → is_plain star 0x2A ≡ true → kind_of star ≡ Star
star_kind star e = go star.quoted star.byte (star_byte star e) e
  where
    go : (q : Bool) (b : ℕ) → b ≡ 0x2A → not q && nat_eq b 0x2A ≡ true → kind_of (record { byte = b; quoted = q }) ≡ Star
    go true b e h = let never : false ≡ true = h in absurd cc
    go false b e h = subst (λ z. kind_of (record { byte = z; quoted = false }) ≡ Star) (sym e) refl

pub nil_of_length : {X : Type 0} (xs : List X) → length xs ≡ 0 → xs ≡ []
nil_of_length [] e = refl
nil_of_length (x ∷ xs) e = absurd (omega arith)

-- the target ends with what is left after the literal, and begins with what is alike the literal
record IsAlikeStart (literal target rest : List ℕ) : Type 0 where
  front : List ℕ
  joined : target ≡ front ++ rest
  front_is : AreAlike front literal

alike_start : (folds : Bool) (literal target rest : List ℕ) → IsAfter folds literal target rest → IsAlikeStart literal target rest
alike_start false literal target rest j = record { front = literal; joined = j; front_is = refl }
alike_start true literal target rest j = record { front = j.0; joined = j.1; front_is = alike j.0 literal j.2 }

module _ {A : Type 0} (folds : Bool) where
  -- a part that is the whole pattern
  pub one_group : (text : List Letter) (pattern : List (Piece (Part A))) → IsPattern folds text pattern → ((pieces : List (Piece (Item A))) (a : After) → IsPart folds text pieces a → (a ≡ after.End) × (is_deep pieces ≡ false)) → (part : Part A) × (IsPart folds text part.pieces.items after.End × (pattern ≡ One part ∷ []))
  one_group text pattern p alone = go p.lists p.read p.joined
    where
      rest : (groups : List (List (Piece (Part A)))) → Reads (NextGroup folds) None groups None → groups ≡ []
      rest [] r = refl
      rest (g ∷ gs) r = absurd r.1

      go : (groups : List (List (Piece (Part A)))) → Reads (NextGroup folds) (Some text) groups None → pattern ≡ concat_of groups → (part : Part A) × (IsPart folds text part.pieces.items after.End × (pattern ≡ One part ∷ []))
      go [] r e = let never : Some text ≡ None = r in absurd cc
      go (g ∷ gs) r e =
          let own = r.1 in
          let is = alone own.part.pieces.items own.after own.read in
          let left : r.0 ≡ None = own.left_is ∙ ap (λ z. text_of (left_after z)) is.0 in
          let none : gs ≡ [] = rest gs (subst (λ z. Reads (NextGroup folds) z gs None) left r.2) in (
            own.part,
            (
              subst (IsPart folds text own.part.pieces.items) is.0 own.read,
              e ∙ ap (λ z. g ++ concat_of z) none ∙ append-nil g ∙ own.pieces_are ∙ ap (λ z. group z (is_joined own.after) own.part) is.1,
            ),
          )

  -- letters that match themselves, none a slash, are all of a part
  record AreLiterals (letters : List Letter) (pieces : List (Piece (Item A))) (a : After) : Type 0 where
    ends : a ≡ after.End
    stars : all_stars pieces ≡ true → pieces ≡ []
    are : (text : List ℕ) → Wild TakesLetter Fits pieces text → AreAlike text (literal_prefix folds letters)

  literal_piece : (k : Kind) (l : Letter) (ls : List Letter) (p : Piece (Item A)) (rest : List Letter) → matches_itself k ≡ true → PieceAt folds k l ls p rest → IsLiteral folds l p × (rest ≡ ls)
  literal_piece Slash l ls p rest e h = h
  literal_piece Literal l ls p rest e h = h
  literal_piece Star l ls p rest e h = let never : false ≡ true = e in absurd cc
  literal_piece Question l ls p rest e h = let never : false ≡ true = e in absurd cc
  literal_piece Bracket l ls p rest e h = let never : false ≡ true = e in absurd cc

  deep : (x : Piece (Item A)) (more : List (Piece (Item A))) → all_stars (x ∷ more) ≡ false → is_deep (x ∷ more) ≡ false
  deep x more e = ap (λ v. nat_le 2 (length (x ∷ more)) && v) e ∙ and_false (nat_le 2 (length (x ∷ more)))

-- the piece matches what is alike the letter
record IsAlikePiece {A : Type 0} (folds : Bool) (l : Letter) (p : Piece (Item A)) : Type 0 where
  item : Item A
  piece_is : p ≡ One item
  fits : (b : ℕ) → Fits item b → to_ascii_lowercase b ≡ to_ascii_lowercase (own_byte folds l)

alike_piece : {A : Type 0} (folds : Bool) (l : Letter) (p : Piece (Item A)) → IsLiteral folds l p → IsAlikePiece folds l p
alike_piece false l p h = record { item = item.Literal l.byte; piece_is = h; fits = λ b f. ap to_ascii_lowercase (sym f) }
alike_piece true l p h = record { item = h.0; piece_is = h.1; fits = λ b f. sym (lowercase-lowercase b) ∙ ap to_ascii_lowercase ((h.2 b).0 f) }

module _ {A : Type 0} (folds : Bool) where
  literals : (letters : List Letter) (pieces : List (Piece (Item A))) (left : List Letter) (a : After) → after_literal letters ≡ [] → IsPlain 0x2F (literal_prefix folds letters) → Reads (IsPiece folds) letters pieces left → EndsPart left a → AreLiterals folds letters pieces a
  literals [] [] left a e p r s = record { ends = none_end a (subst (λ z. EndsPart z a) (sym r) s); stars = λ e. refl; are = λ text m. ap (map to_ascii_lowercase) m }
  literals [] (x ∷ xs) left a e p r s = absurd r.1
  literals (l ∷ ls) pieces left a e p r s =
      let simple = begins_simple l ls e in
      let prefix : literal_prefix folds (l ∷ ls) ≡ own_byte folds l ∷ literal_prefix folds ls = ap (λ v. cond v (own_byte folds l ∷ literal_prefix folds ls) []) simple.0 in
      let plain : IsPlain 0x2F (own_byte folds l ∷ literal_prefix folds ls) = subst (IsPlain 0x2F) prefix p in
      let head : nat_eq l.byte 0x2F ≡ false = own_no_slash folds l simple.0 (All-head (λ b. nat_eq b 0x2F ≡ false) (own_byte folds l) (literal_prefix folds ls) plain) in
      let tail = All-tail (λ b. nat_eq b 0x2F ≡ false) (own_byte folds l) (literal_prefix folds ls) plain in
      go pieces r simple.0 head prefix (λ xs h. literals ls xs left a simple.1 tail h s)
    where
      go : (pieces : List (Piece (Item A))) → Reads (IsPiece folds) (l ∷ ls) pieces left → is_simple l ≡ true → nat_eq l.byte 0x2F ≡ false → literal_prefix folds (l ∷ ls) ≡ own_byte folds l ∷ literal_prefix folds ls → ((xs : List (Piece (Item A))) → Reads (IsPiece folds) ls xs left → AreLiterals folds ls xs a) → AreLiterals folds (l ∷ ls) pieces a
      go [] r simple head prefix more = absurd (no_slash l ls a head (subst (λ z. EndsPart z a) (sym r) s))
      go (x ∷ xs) r simple head prefix more =
          let piece = literal_piece folds (kind_of l) l ls x r.0 (both (not l.quoted) (matches_itself (kind_of l)) simple) r.1.1 in
          let own = alike_piece folds l x piece.0 in
          let rest = more xs (subst (λ z. Reads (IsPiece folds) z xs left) piece.1 r.2) in
          record {
            ends = rest.ends;
            stars = λ e. let never : false ≡ true = sym (ap (λ z. all_stars (z ∷ xs)) own.piece_is) ∙ e in absurd cc;
            are = λ text m.
                let one = subst (λ z. Wild TakesLetter Fits (z ∷ xs) text) own.piece_is m in
                ap (map to_ascii_lowercase) one.joined ∙ ap (λ z. z ∷ map to_ascii_lowercase one.rest) (own.fits one.letter one.fits) ∙ ap (λ z. to_ascii_lowercase (own_byte folds l) ∷ z) (rest.are one.rest one.after) ∙ ap (map to_ascii_lowercase) (sym prefix);
          }

  empty_part : (pieces : List (Piece (Item A))) (a : After) → IsPart folds [] pieces a → (a ≡ after.End) × (is_deep pieces ≡ false)
  empty_part pieces a h = go pieces h.read
    where
      go : (pieces : List (Piece (Item A))) → Reads (IsPiece folds) [] pieces h.left → (a ≡ after.End) × (is_deep pieces ≡ false)
      go [] r = (none_end a (subst (λ z. EndsPart z a) (sym r) h.ends), refl)
      go (x ∷ xs) r = absurd r.1

  empty_fits : (pieces : List (Piece (Item A))) → IsPart folds [] pieces after.End → (text : List ℕ) → Wild TakesLetter Fits pieces text → text ≡ []
  empty_fits pieces h text m = go pieces h.read m
    where
      go : (pieces : List (Piece (Item A))) → Reads (IsPiece folds) [] pieces h.left → Wild TakesLetter Fits pieces text → text ≡ []
      go [] r m = m
      go (x ∷ xs) r m = absurd r.1

  -- a pattern that is no letter matches no more
  nothing_more : (pattern : List (Piece (Part A))) → IsPattern folds [] pattern → (rest : List ℕ) → Matches by_slashes pattern rest → rest ≡ []
  nothing_more pattern p rest m =
      let one = one_group folds [] pattern p empty_part in
      let fit = subst (λ z. Matches by_slashes z rest) one.1.1 m in
      let part : fit.letter ≡ [] = empty_fits one.0.pieces.items one.1.0 fit.letter fit.fits.0 in
      one_part rest [] (fit.joined ∙ ap (λ z. fit.letter ∷ z) fit.after ∙ ap (λ z. z ∷ []) part)

  module _ (star : Letter) (letters : List Letter) (is_star : is_plain star 0x2A ≡ true) (simple : after_literal letters ≡ []) (plain : IsPlain 0x2F (literal_prefix folds letters)) where
    record IsSuffix (pieces : List (Piece (Item A))) (a : After) : Type 0 where
      more : List (Piece (Item A))
      pieces_are : pieces ≡ Many ∷ more
      rest : AreLiterals folds letters more a

    suffix_part : (pieces : List (Piece (Item A))) (a : After) → IsPart folds (star ∷ letters) pieces a → IsSuffix pieces a
    suffix_part pieces a h = go pieces h.read
      where
        go : (pieces : List (Piece (Item A))) → Reads (IsPiece folds) (star ∷ letters) pieces h.left → IsSuffix pieces a
        go [] r = absurd (no_slash star letters a (ap (λ z. nat_eq z 0x2F) (star_byte star is_star)) (subst (λ z. EndsPart z a) (sym r) h.ends))
        go (x ∷ xs) r =
            let piece : (x ≡ Many) × (r.0 ≡ letters) = subst (λ k. PieceAt folds k star letters x r.0) (star_kind star is_star) r.1.1 in
            record {
              more = xs;
              pieces_are = ap (λ z. z ∷ xs) piece.0;
              rest = literals letters xs h.left a simple plain (subst (λ z. Reads (IsPiece folds) z xs h.left) piece.1 r.2) h.ends;
            }

    -- a star and letters that match themselves aren't `**`
    not_deep : (pieces : List (Piece (Item A))) (a : After) → IsSuffix pieces a → is_deep pieces ≡ false
    not_deep pieces a h = ap is_deep h.pieces_are ∙ go (all_stars h.more) refl
      where
        go : (v : Bool) → all_stars h.more ≡ v → is_deep (Many ∷ h.more) ≡ false
        go true e = ap (λ z. is_deep (Many ∷ z)) (h.rest.stars e)
        go false e = deep folds Many h.more e

    suffix : (pattern : List (Piece (Part A))) → IsPattern folds (star ∷ letters) pattern → (rest : List ℕ) → Matches by_slashes pattern rest → (front : List ℕ) × (tail : List ℕ) × (rest ≡ front ++ tail) × AreAlike tail (literal_prefix folds letters)
    suffix pattern p rest m =
        let one = one_group folds (star ∷ letters) pattern p (λ pieces a h. let k = suffix_part pieces a h in (k.rest.ends, not_deep pieces a k)) in
        let fit = subst (λ z. Matches by_slashes z rest) one.1.1 m in
        let part = suffix_part one.0.pieces.items after.End one.1.0 in
        let wild = subst (λ z. Wild TakesLetter Fits z fit.letter) part.pieces_are fit.fits.0 in
        let whole = one_part rest fit.letter (fit.joined ∙ ap (λ z. fit.letter ∷ z) fit.after) in
        (wild.skipped, wild.rest, whole ∙ wild.joined, part.rest.are wild.rest wild.after)

    tagged : (anchored : Bool) (literal front back : List ℕ) → IsCut 0x2E (literal_prefix folds letters) front back → IsPlain 0x2E back → (tag : ℕ) → tag ≡ tag_of back → (pattern : List (Piece (Part A))) → IsPattern folds (star ∷ letters) pattern → IsTagOf folds anchored literal pattern tag
    tagged anchored literal front back c q tag e pattern p path target t m none =
        let own = suffix pattern p m.rest m.matches in
        let cut = alike_cut 0x2E (omega arith) own.1 (literal_prefix folds letters) front back own.3 c in
        let start = alike_start folds literal target m.rest m.joined in
        let all = path_end anchored path target t in
        let rest : m.rest ≡ (own.0 ++ cut.before) ++ 0x2E ∷ cut.after = own.2 ∙ ap (λ z. own.0 ++ z) cut.cut ∙ sym (append_assoc own.0 cut.before (0x2E ∷ cut.after)) in
        let joined : path ≡ (all.0 ++ (start.front ++ (own.0 ++ cut.before))) ++ 0x2E ∷ cut.after =
        all.1 ∙ ap (λ z. all.0 ++ z) (start.joined ∙ ap (λ z. start.front ++ z) rest ∙ sym (append_assoc start.front (own.0 ++ cut.before) (0x2E ∷ cut.after)))
        ∙ sym (append_assoc all.0 (start.front ++ (own.0 ++ cut.before)) (0x2E ∷ cut.after)) in
        let no_slash : IsPlain 0x2F own.1 = alike_plain 0x2F (omega arith) own.1 (literal_prefix folds letters) own.3 plain in
        none (tags.dot _ cut.after joined (alike_plain 0x2E (omega arith) cut.after back cut.after_is q) (plain_after 0x2F 0x2E own.1 cut.before cut.after cut.cut no_slash) (e ∙ sym (same_tag cut.after back cut.after_is)))

  pub suffix_tag : (star : Letter) (letters : List Letter) → is_plain star 0x2A ≡ true → after_literal letters ≡ [] → (text extension : List ℕ) → text ≡ literal_prefix folds letters → IsExtension text extension → (anchored : Bool) (literal : List ℕ) (tag : ℕ) → tag ≡ tag_of extension → (pattern : List (Piece (Part A))) → IsPattern folds (star ∷ letters) pattern → IsTagOf folds anchored literal pattern tag
  suffix_tag star letters is_star simple text extension same x anchored literal tag e =
      tagged star letters is_star simple (subst (IsPlain 0x2F) same x.no_slash) anchored literal x.front extension (sym same ∙ x.cut) x.no_dot tag e

  whole : (literal : List ℕ) (pattern : List (Piece (Part A))) (target : List ℕ) → IsPattern folds [] pattern → MatchesText folds literal pattern target → AreAlike target literal
  whole literal pattern target p m =
      let start = alike_start folds literal target m.rest m.joined in
      ap (map to_ascii_lowercase) (start.joined ∙ ap (λ z. start.front ++ z) (nothing_more pattern p m.rest m.matches) ∙ append-nil start.front) ∙ start.front_is

  pub path_tag : (literal front name : List ℕ) → IsCut 0x2F literal front name → IsPlain 0x2F name → (tag : ℕ) → tag ≡ tag_of name → (pattern : List (Piece (Part A))) → IsPattern folds [] pattern → IsTagOf folds true literal pattern tag
  path_tag literal front name c q tag e pattern p path target t m none =
      let cut = alike_cut 0x2F (omega arith) target literal front name (whole literal pattern target p m) c in
      let last = last_of_cut 0x2F path cut.before cut.after (sym t ∙ cut.cut) (alike_plain 0x2F (omega arith) cut.after name cut.after_is q) in
      none (tags.last cut.after (_, last) (e ∙ sym (same_tag cut.after name cut.after_is)))

  pub one_name_tag : (literal : List ℕ) → IsPlain 0x2F literal → (tag : ℕ) → tag ≡ tag_of literal → (pattern : List (Piece (Part A))) → IsPattern folds [] pattern → IsTagOf folds true literal pattern tag
  one_name_tag literal q tag e pattern p path target t m none =
      let same = subst (λ z. AreAlike z literal) t (whole literal pattern target p m) in
      none (tags.last path ([], one_piece 0x2F path (alike_plain 0x2F (omega arith) path literal same q)) (e ∙ sym (same_tag path literal same)))

  pub name_tag : (literal : List ℕ) (tag : ℕ) → tag ≡ tag_of literal → (pattern : List (Piece (Part A))) → IsPattern folds [] pattern → IsTagOf folds false literal pattern tag
  name_tag literal tag e pattern p path target t m none =
      none (tags.last target t (e ∙ sym (same_tag target literal (whole literal pattern target p m))))

  pub start_tag : (literal front back : List ℕ) → IsCut 0x2F literal front back → IsPlain 0x2F front → (tag : ℕ) → tag ≡ tag_of front → (pattern : List (Piece (Part A))) → IsTagOf folds true literal pattern tag
  start_tag literal front back c q tag e pattern path target t m none =
      let start = alike_start folds literal target m.rest m.joined in
      let cut = alike_cut 0x2F (omega arith) start.front literal front back start.front_is c in
      let joined = sym t ∙ start.joined ∙ ap (λ z. z ++ m.rest) cut.cut ∙ append_assoc cut.before (0x2F ∷ cut.after) m.rest in
      none (tags.first cut.before (cut.after ++ m.rest) joined (alike_plain 0x2F (omega arith) cut.before front cut.before_is q) (e ∙ sym (same_tag cut.before front cut.before_is)))

module _ {A : Type 0} where
  pub no_tag : (folds anchored : Bool) (literal : List ℕ) (pattern : List (Piece (Part A))) → IsTagOf folds anchored literal pattern 0
  no_tag folds anchored literal pattern path target t m none = none (tags.any refl)

  pub more_tags : (lines : List (Line A)) (read : Result (Line A) NoPattern) (all : List (Line A)) → AllByRecursion (λ line. IsTag line line.tag) lines → IfOk read (λ line. IsTag line line.tag) → all ≡ lines ++ list_of read → AllByRecursion (λ line. IsTag line line.tag) all
  more_tags lines read all h k e = subst (AllByRecursion (λ line. IsTag line line.tag)) (sym e) (go lines read h k)
    where
      last : (read : Result (Line A) NoPattern) → IfOk read (λ line. IsTag line line.tag) → AllByRecursion (λ line. IsTag line line.tag) (list_of read)
      last (Err reason) k = tt
      last (Ok line) k = (k, tt)

      go : (lines : List (Line A)) (read : Result (Line A) NoPattern) → AllByRecursion (λ line. IsTag line line.tag) lines → IfOk read (λ line. IsTag line line.tag) → AllByRecursion (λ line. IsTag line line.tag) (lines ++ list_of read)
      go [] read h k = last read k
      go (x ∷ xs) read h k = (h.0, go xs read h.1 k)

  pub own_tags : (lines : List (Line A)) → AllByRecursion (λ line. IsTag line line.tag) lines → AreTags lines (map (λ line. line.tag) lines)
  own_tags [] h k l d = absurd (omega arith)
  own_tags (x ∷ xs) h zero l d = h.0
  own_tags (x ∷ xs) h (suc k) l d = own_tags xs h.1 k (omega arith) d

  pub own_count : (lines : List (Line A)) → length (map (λ line. line.tag) lines) ≡ length lines
  own_count [] = refl
  own_count (x ∷ xs) = ap suc (own_count xs)
