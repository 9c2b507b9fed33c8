-- A line has one meaning, and a line that says nothing has none.
use Rattle.std.proofs.Common.{◌≡◌, ◌||◌, ℕ, cond, Bool, true, false, List, [], ◌∷◌, ◌++◌, refl, sym, ap, ◌∙◌, subst}
use Rattle.std.specs.List.{AllByRecursion}
use Rattle.std.proofs.lemmas.List.{same_from_push}
use Rattle.os_ignore.specs.declared.letter.Letter.{Letter}
use Rattle.os_ignore.specs.declared.line.Line.{Line}
use Rattle.os_ignore.specs.declared.reason.NoPattern.{NoPattern}
use Rattle.os_ignore.specs.Letters.{AreLetters, is_plain}
use Rattle.os_ignore.specs.Lines as lines
use Rattle.os_ignore.specs.Lines.{IsTrimmed, strip_first, EndsQuoted, IsStripped, has_slash, literal_prefix, after_literal, IsBody, IsLineOf, IsLine, LettersSayNothing, SaysNothing}
use Rattle.os_ignore.specs.Matching.{IsTarget, IsAfter, LineMatches}
use Rattle.os_ignore.specs.PatternText.{IsPattern}
use Rattle.os_ignore.proofs.lemmas.OneReading.{same_letters, not_dangling, matches_too, not_broken_pattern}

-- letters without blanks at their end
abbrev AreBlank : List Letter → Type 0
AreBlank letters = AllByRecursion (λ l. is_plain l 0x20 ≡ true) letters

abbrev NoMore : List Letter → Type 0
NoMore trimmed = (front : List Letter) (l : Letter) → trimmed ≡ front ++ l ∷ [] → is_plain l 0x20 ≡ false

not_blank : (x : Letter) (u cs : List Letter) → AreBlank (x ∷ u ++ cs) → NoMore (x ∷ u) → ⊥
not_blank x [] cs h n = let never : true ≡ false = sym h.0 ∙ n [] x refl in absurd cc
not_blank x (y ∷ u) cs h n = not_blank y u cs h.1 (λ front l e. n (x ∷ front) l (ap (λ z. x ∷ z) e))

one_trim : (t bs u cs : List Letter) → t ++ bs ≡ u ++ cs → AreBlank bs → AreBlank cs → NoMore t → NoMore u → t ≡ u
one_trim [] bs [] cs e b c n m = refl
one_trim [] bs (x ∷ u) cs e b c n m = absurd (not_blank x u cs (subst AreBlank e b) m)
one_trim (x ∷ t) bs [] cs e b c n m = absurd (not_blank x t bs (subst AreBlank (sym e) c) n)
one_trim (x ∷ t) bs (y ∷ u) cs e b c n m =
    let f : x ≡ y = cc in
    let g : t ++ bs ≡ u ++ cs = cc in
    ap (λ z. z ∷ t) f ∙ ap (λ z. y ∷ z) (one_trim t bs u cs g b c (λ front l k. n (x ∷ front) l (ap (λ z. x ∷ z) k)) (λ front l k. m (y ∷ front) l (ap (λ z. y ∷ z) k)))

pub same_trimmed : (letters t u : List Letter) → IsTrimmed letters t → IsTrimmed letters u → t ≡ u
same_trimmed letters t u h k = one_trim t h.blanks u k.blanks (sym h.joined ∙ k.joined) h.blank k.blank h.no_more k.no_more

abbrev slash : Bool → Letter
slash quoted = record { byte = 0x2F; quoted = quoted }

one_strip : (letters : List Letter) (d e : Bool) (r q : List Letter) → IsStripped letters d r → IsStripped letters e q → (d ≡ e) × (r ≡ q)
one_strip letters true true r q h k = (refl, (same_from_push r q (slash false) (slash false) (sym h ∙ k)).0)
one_strip letters false false r q h k = (refl, h.0 ∙ sym k.0)
one_strip letters true false r q h k = let never : true ≡ false = k.1 r (slash false) h in absurd cc
one_strip letters false true r q h k = let never : true ≡ false = h.1 q (slash false) k in absurd cc

pub not_quoted : (letters : List Letter) (d : Bool) (r : List Letter) → IsStripped letters d r → EndsQuoted letters → ⊥
not_quoted letters true r h k =
    let same = (same_from_push r k.0 (slash false) (slash true) (sym h ∙ k.1)).1 in
    let never : false ≡ true = ap (λ z. z.quoted) same in absurd cc
not_quoted letters false r h k = let never : true ≡ false = h.1 k.0 (slash true) k.1 in absurd cc

pub same_body : (letters : List Letter) (t d u e : Bool) (b c : List Letter) → IsBody letters t d b → IsBody letters u e c → (t ≡ u) × ((d ≡ e) × (b ≡ c))
same_body letters t d u e b c h k =
    let trimmed = same_trimmed letters h.trimmed k.trimmed h.without_blanks k.without_blanks in
    let strip = one_strip (strip_first 0x21 k.trimmed).1 d e b c (subst (λ z. IsStripped (strip_first 0x21 z).1 d b) trimmed h.stripped) k.stripped in
    (h.taken ∙ ap (λ z. (strip_first 0x21 z).0) trimmed ∙ sym k.taken, strip)

-- `!` before a text
abbrev bang : Letter
bang = record { byte = 0x21; quoted = false }

bang_trimmed : (letters t : List Letter) → IsTrimmed letters t → IsTrimmed (bang ∷ letters) (bang ∷ t)
bang_trimmed letters t h = record { blanks = h.blanks; joined = ap (λ z. bang ∷ z) h.joined; blank = h.blank; no_more = none }
  where
    none : NoMore (bang ∷ t)
    none [] l e = let same : bang ≡ l = cc in ap (λ z. is_plain z 0x20) (sym same)
    none (x ∷ front) l e = let rest : t ≡ front ++ l ∷ [] = cc in h.no_more front l rest

not_taken : (t : List Letter) → (strip_first 0x21 t).0 ≡ false → (strip_first 0x21 t).1 ≡ t
not_taken [] e = refl
not_taken (l ∷ ls) e = go (is_plain l 0x21) e
  where
    go : (v : Bool) → (cond {A = Bool × List Letter} v (true, ls) (false, l ∷ ls)).0 ≡ false → (cond {A = Bool × List Letter} v (true, ls) (false, l ∷ ls)).1 ≡ l ∷ ls
    go true e = let never : true ≡ false = e in absurd cc
    go false e = refl

module _ {A : Type 0} (folds : Bool) where
  -- lines of one body match the same paths
  body_matches : (a b : Line A) (body : List Letter) → a.directories ≡ b.directories → a.folds ≡ b.folds → a.anchored ≡ has_slash body → b.anchored ≡ has_slash body → a.literal.items ≡ literal_prefix folds (strip_first 0x2F body).1 → b.literal.items ≡ literal_prefix folds (strip_first 0x2F body).1 → IsPattern folds (after_literal (strip_first 0x2F body).1) a.pattern.items → IsPattern folds (after_literal (strip_first 0x2F body).1) b.pattern.items → (path : List ℕ) (is_dir : Bool) → LineMatches a path is_dir → LineMatches b path is_dir
  body_matches a b body d f s t l m p q path is_dir h = record {
    below = λ e. h.below (ap (λ z. z || a.directories) (s ∙ sym t) ∙ ap (λ z. b.anchored || z) d ∙ e);
    directories = λ e. h.directories (d ∙ e);
    target = h.target;
    target_is = subst (λ z. IsTarget z path h.target) (s ∙ sym t) h.target_is;
    matches = record {
      rest = h.matches.rest;
      joined = subst (λ z. IsAfter z b.literal.items h.target h.matches.rest) f (subst (λ z. IsAfter a.folds z h.target h.matches.rest) (l ∙ sym m) h.matches.joined);
      matches = matches_too folds (after_literal (strip_first 0x2F body).1) a.pattern.items b.pattern.items p q h.matches.rest h.matches.matches;
    };
  }

  letters_match : (letters : List Letter) (a b : Line A) → IsLineOf folds letters a → IsLineOf folds letters b → (a.takes_in ≡ b.takes_in) × ((path : List ℕ) (is_dir : Bool) → LineMatches a path is_dir → LineMatches b path is_dir)
  letters_match letters a b h k =
      let same = same_body letters a.takes_in a.directories b.takes_in b.directories h.body k.body h.read k.read in
      let body = same.1.1 in (
        same.0,
        body_matches a b k.body same.1.0 (h.folds_is ∙ sym k.folds_is) (h.anchored ∙ ap has_slash body) k.anchored
            (h.literal ∙ ap (λ z. literal_prefix folds (strip_first 0x2F z).1) body) k.literal
            (subst (λ z. IsPattern folds (after_literal (strip_first 0x2F z).1) a.pattern.items) body h.pattern) k.pattern,
      )

  -- a text has one meaning
  pub one_meaning : (text : List ℕ) (a b : Line A) → IsLine folds text a → IsLine folds text b → (a.takes_in ≡ b.takes_in) × ((path : List ℕ) (is_dir : Bool) → LineMatches a path is_dir → LineMatches b path is_dir)
  one_meaning text a b h k = letters_match k.letters a b (subst (λ z. IsLineOf folds z a) (same_letters text h.letters k.letters h.read k.read) h.line_of) k.line_of

  letters_say : (letters : List Letter) (line : Line A) (reason : NoPattern) → IsLineOf folds letters line → LettersSayNothing folds A letters reason → ⊥
  letters_say letters line reason h (lines.quoted_slash {trimmed} t q r) =
      not_quoted (strip_first 0x21 h.read.trimmed).1 line.directories h.body h.read.stripped (subst (λ z. EndsQuoted (strip_first 0x21 z).1) (same_trimmed letters trimmed h.read.trimmed t h.read.without_blanks) q)
  letters_say letters line reason h (lines.empty {takes_in} {directories} {body} b e r) =
      let same = same_body letters line.takes_in line.directories takes_in directories h.body body h.read b in
      h.some (ap (λ z. (strip_first 0x2F z).1) same.1.1 ∙ e)
  letters_say letters line reason h (lines.broken {takes_in} {directories} {body} b e r) =
      let same = same_body letters line.takes_in line.directories takes_in directories h.body body h.read b in
      not_broken_pattern folds (after_literal (strip_first 0x2F body).1) line.pattern.items (subst (λ z. IsPattern folds (after_literal (strip_first 0x2F z).1) line.pattern.items) same.1.1 h.pattern) e

  -- a text that says nothing is no line
  pub not_both : (text : List ℕ) (line : Line A) (reason : NoPattern) → IsLine folds text line → SaysNothing folds A text reason → ⊥
  not_both text line reason h (lines.comment c r) = let never : true ≡ false = sym c ∙ h.no_comment in absurd cc
  not_both text line reason h (lines.dangling n d r) = not_dangling text h.letters h.read d
  not_both text line reason h (lines.letters {letters} n r s) = letters_say letters line reason (subst (λ z. IsLineOf folds z line) (same_letters text h.letters letters h.read r) h.line_of) s

  -- `!` before a line that doesn't begin with it takes in again what the line matches
  pub taken_again : (text : List ℕ) (a b : Line A) → IsLine folds text a → IsLine folds (0x21 ∷ text) b → a.takes_in ≡ false → (b.takes_in ≡ true) × ((path : List ℕ) (is_dir : Bool) → (LineMatches a path is_dir → LineMatches b path is_dir) × (LineMatches b path is_dir → LineMatches a path is_dir))
  taken_again text a b h k n =
      let both : AreLetters (0x21 ∷ text) (bang ∷ h.letters) = (text, (refl, refl), h.read) in
      let of_b : IsLineOf folds (bang ∷ h.letters) b = subst (λ z. IsLineOf folds z b) (same_letters (0x21 ∷ text) k.letters (bang ∷ h.letters) k.read both) k.line_of in
      let own = h.line_of in
      let trimmed = same_trimmed (bang ∷ h.letters) of_b.read.trimmed (bang ∷ own.read.trimmed) of_b.read.without_blanks (bang_trimmed h.letters own.read.trimmed own.read.without_blanks) in
      let stripped : IsStripped own.read.trimmed b.directories of_b.body = subst (λ z. IsStripped (strip_first 0x21 z).1 b.directories of_b.body) trimmed of_b.read.stripped in
      let own_stripped : IsStripped own.read.trimmed a.directories own.body = subst (λ z. IsStripped z a.directories own.body) (not_taken own.read.trimmed (sym own.read.taken ∙ n)) own.read.stripped in
      let same = one_strip own.read.trimmed a.directories b.directories own.body of_b.body own_stripped stripped in
      let literal = own.literal ∙ ap (λ z. literal_prefix folds (strip_first 0x2F z).1) same.1 in
      let pattern = subst (λ z. IsPattern folds (after_literal (strip_first 0x2F z).1) a.pattern.items) same.1 own.pattern in
      let anchored = own.anchored ∙ ap has_slash same.1 in (
        of_b.read.taken ∙ ap (λ z. (strip_first 0x21 z).0) trimmed,
        λ path is_dir. (
          body_matches a b of_b.body same.0 (own.folds_is ∙ sym of_b.folds_is) anchored of_b.anchored literal of_b.literal pattern of_b.pattern path is_dir,
          body_matches b a of_b.body (sym same.0) (of_b.folds_is ∙ sym own.folds_is) of_b.anchored anchored of_b.literal literal of_b.pattern pattern path is_dir,
        ),
      )
