-- A part that is a text of ASCII matches this text alone.
use Rattle.std.proofs.Common.{◌≡◌, ◌↔◌, ◌<◌, Bool, true, false, ◌&&◌, nat_eq, nat_lt, ℕ, List, [], ◌∷◌, ◌++◌, map, refl, sym, ap, ◌∙◌, subst}
use Rattle.std.specs.List.{AllByRecursion}
use Rattle.std.specs.Cmp.Lexicographic.{pointwise, same_text, other_text}
use Rattle.wildcards.specs.declared.piece.Item.{Item}
use Rattle.wildcards.specs.declared.piece.Item.TheVariants.{Any, Literal, EitherCase, OneOf}
use Rattle.wildcards.specs.declared.piece.Piece.{Piece}
use Rattle.wildcards.specs.declared.piece.Piece.TheVariants.{Many, One}
use Rattle.wildcards.specs.Components.{is_hidden}
use Rattle.std.proofs.lemmas.Bool.{eqb-true, eq-eqb, ltb-true, lt-ltb}
use Rattle.wildcards.specs.Literals.{spells}
use Rattle.wildcards.specs.Match.{Fits, TakesLetter, begins_with_dot, FitsPieces}
use Rattle.wildcards.specs.Reading.{LetterLaws}
use Rattle.wildcards.specs.Wild.{Wild}

abbrev pub literal_piece : {A : Type 0} → ℕ → Piece (Item A)
literal_piece letter = One (Literal letter)

-- the pieces are literals, of these bytes of ASCII
pub record AreLiteral {A : Type 0} (pieces : List (Piece (Item A))) (bytes : List ℕ) : Type 0 where
  pub are : pieces ≡ map literal_piece bytes
  pub ascii : AllByRecursion (λ b. b < 0x80) bytes

-- the letters are a text, and then what the pieces match
pub record AfterText {A : Type 0} (text : List ℕ) (pieces : List (Piece (Item A))) (letters : List ℕ) : Type 0 where
  pub rest : List ℕ
  pub joined : letters ≡ text ++ rest
  pub after : Wild TakesLetter Fits pieces rest

both_true : (a b : Bool) → (a && b) ≡ true → (a ≡ true) × (b ≡ true)
both_true true b e = (refl, e)
both_true false b e = let never : false ≡ true = e in absurd (cc)

module _ (A : Type 0) where
  abbrev text_pieces : List ℕ → List (Piece (Item A))
  text_pieces bytes = map literal_piece bytes

  text_only : (bytes letters : List ℕ) → Wild TakesLetter Fits (text_pieces bytes) letters → letters ≡ bytes
  text_only [] letters m = m
  text_only (b ∷ bytes) letters m = m.joined ∙ ap (λ z. z ∷ m.rest) (sym m.fits) ∙ ap (λ z. b ∷ z) (text_only bytes m.rest m.after)

  text_then : (bytes : List ℕ) (pieces : List (Piece (Item A))) (letters : List ℕ) → Wild TakesLetter Fits (text_pieces bytes ++ pieces) letters → AfterText bytes pieces letters
  text_then [] pieces letters m = record { rest = letters; joined = refl; after = m }
  text_then (b ∷ bytes) pieces letters m =
      let h = text_then bytes pieces m.rest m.after in
      record { rest = h.rest; joined = m.joined ∙ ap (λ z. z ∷ m.rest) (sym m.fits) ∙ ap (λ z. b ∷ z) h.joined; after = h.after }

  text_itself : (bytes : List ℕ) → Wild TakesLetter Fits (text_pieces bytes) bytes
  text_itself [] = refl
  text_itself (b ∷ bytes) = record { letter = b; rest = bytes; joined = refl; fits = refl; after = text_itself bytes }

  hidden_text : (dot : Bool) (bytes : List ℕ) → is_hidden dot bytes ≡ true → begins_with_dot (text_pieces bytes) ≡ true
  hidden_text false bytes e = let never : false ≡ true = e in absurd (cc)
  hidden_text true [] e = let never : false ≡ true = e in absurd (cc)
  hidden_text true (b ∷ bytes) e = e

  spelled : (pieces : List (Piece (Item A))) (bytes : List ℕ) → spells pieces bytes ≡ true → AreLiteral pieces bytes
  spelled [] [] e = record { are = refl; ascii = tt }
  spelled [] (b ∷ bytes) e = let never : false ≡ true = e in absurd (cc)
  spelled (Many ∷ pieces) bytes e = let never : false ≡ true = e in absurd (cc)
  spelled (One Any ∷ pieces) bytes e = let never : false ≡ true = e in absurd (cc)
  spelled (One (EitherCase small) ∷ pieces) bytes e = let never : false ≡ true = e in absurd (cc)
  spelled (One (OneOf class) ∷ pieces) bytes e = let never : false ≡ true = e in absurd (cc)
  spelled (One (Literal letter) ∷ pieces) [] e = let never : false ≡ true = e in absurd (cc)
  spelled (One (Literal letter) ∷ pieces) (b ∷ bytes) e =
      let first = both_true (nat_eq letter b) (nat_lt b 0x80 && spells pieces bytes) e in
      let second = both_true (nat_lt b 0x80) (spells pieces bytes) first.1 in
      let h = spelled pieces bytes second.1 in
      record { are = ap (λ z. One (Literal z) ∷ pieces) (eqb-true letter b first.0) ∙ ap (λ z. literal_piece b ∷ z) h.are; ascii = (ltb-true b 0x80 second.0, h.ascii) }

  -- what pieces match that are a text
  pub only_text : (pieces : List (Piece (Item A))) (bytes letters : List ℕ) → spells pieces bytes ≡ true → Wild TakesLetter Fits pieces letters → letters ≡ bytes
  only_text pieces bytes letters e m = text_only bytes letters (subst (λ z. Wild TakesLetter Fits z letters) (spelled pieces bytes e).are m)

  -- what pieces match that begin with a text
  pub text_first : (own pieces : List (Piece (Item A))) (bytes letters : List ℕ) → spells own bytes ≡ true → Wild TakesLetter Fits (own ++ pieces) letters → AfterText bytes pieces letters
  text_first own pieces bytes letters e m = text_then bytes pieces letters (subst (λ z. Wild TakesLetter Fits (z ++ pieces) letters) (spelled own bytes e).are m)

  pub spelled_ascii : (pieces : List (Piece (Item A))) (bytes : List ℕ) → spells pieces bytes ≡ true → AllByRecursion (λ b. b < 0x80) bytes
  spelled_ascii pieces bytes e = (spelled pieces bytes e).ascii

  pub spells_text : (bytes : List ℕ) → AllByRecursion (λ b. b < 0x80) bytes → spells (text_pieces bytes) bytes ≡ true
  spells_text [] h = refl
  spells_text (b ∷ bytes) h = ap (λ v. v && (nat_lt b 0x80 && spells (text_pieces bytes) bytes)) (eq-eqb b b refl) ∙ ap (λ v. v && spells (text_pieces bytes) bytes) (lt-ltb b 0x80 h.0) ∙ spells_text bytes h.1

  pub literal_fits : (formed : List ℕ → Type 0) (letters : List ℕ → List ℕ) → LetterLaws formed letters → (dot : Bool) (pieces : List (Piece (Item A))) (bytes s : List ℕ) → spells pieces bytes ≡ true → formed s → (s ≡ bytes) ↔ FitsPieces dot pieces (letters s)
  literal_fits formed letters laws dot pieces bytes s is f =
      let h = spelled pieces bytes is in
      let own = laws.ascii bytes h.ascii in (
        λ e.
            let same : letters s ≡ bytes = ap letters e ∙ own.1 in
            subst (λ ps. FitsPieces dot ps (letters s)) (sym h.are) (subst (FitsPieces dot (text_pieces bytes)) (sym same) (text_itself bytes, hidden_text dot bytes)),
        λ m. laws.once s bytes f own.0 (text_only bytes (letters s) (subst (λ ps. Wild TakesLetter Fits ps (letters s)) h.are m.0) ∙ sym own.1),
      )

pub more_text : {A : Type 0} (pieces rest left : List (Piece (Item A))) (bytes more : List ℕ) (b letter : ℕ) → pieces ≡ map literal_piece bytes ++ left → left ≡ One (Literal letter) ∷ rest → b ≡ letter → more ≡ bytes ++ b ∷ [] → pieces ≡ map literal_piece more ++ rest
more_text pieces rest left bytes more b letter e f g h = e ∙ ap (λ z. map literal_piece bytes ++ z) f ∙ moved bytes ∙ ap (λ z. map literal_piece (bytes ++ z ∷ []) ++ rest) (sym g) ∙ ap (λ z. map literal_piece z ++ rest) (sym h)
  where
    moved : (xs : List ℕ) → map literal_piece xs ++ One (Literal letter) ∷ rest ≡ map literal_piece (xs ++ letter ∷ []) ++ rest
    moved [] = refl
    moved (x ∷ xs) = ap (λ z. literal_piece x ∷ z) (moved xs)

pub all_more : (P : ℕ → Type 0) (xs : List ℕ) (x : ℕ) → AllByRecursion P xs → P x → AllByRecursion P (xs ++ x ∷ [])
all_more P [] x h p = (p, tt)
all_more P (y ∷ xs) x h p = (h.0, all_more P xs x h.1 p)

pub bytes_alike : (xs ys : List ℕ) → (pointwise nat_eq xs ys ≡ true) ↔ (xs ≡ ys)
bytes_alike xs ys = (λ e. same_text xs ys (sym e), λ e. tested e (pointwise nat_eq xs ys) refl)
  where
    tested : xs ≡ ys → (v : Bool) → pointwise nat_eq xs ys ≡ v → pointwise nat_eq xs ys ≡ true
    tested e true h = h
    tested e false h = absurd (other_text xs ys (sym h) e)
