-- An escaped text stands for one pattern, which matches the components of the text alone.
use Rattle.std.proofs.Common.{◌≡◌, ◌⊎◌, ◌↔◌, ◌<◌, inl, inr, ⊎_elim, ℕ, Bool, true, false, cond, ◌&&◌, List, [], ◌∷◌, ◌++◌, map, length, refl, sym, ap, ◌∙◌, subst, arith}
use Rattle.std.specs.List.{AllByRecursion, slice_split, onto_first, join_with_byte}
use Rattle.std.proofs.lemmas.List.Elements.{All-from_recursion}
use Rattle.std.proofs.lemmas.List.Splits.{join_with_byte-slice_split, slice_split_none}
use Rattle.wildcards.specs.declared.piece.Piece.TheVariants.{One}
use Rattle.wildcards.specs.declared.separators.Separators.{Separators}
use Rattle.wildcards.specs.declared.separators.Separators.TheVariants as separators
use Rattle.wildcards.specs.Components.{components, separates, is_hidden}
use Rattle.wildcards.specs.Match.{TakesComponent, TakesLetter}
use Rattle.wildcards.specs.Reading.{LetterLaws}
use Rattle.wildcards.specs.Wild.{Wild}
use Rattle.glob_text.specs.declared.fault.PatternFault.{PatternFault}
use Rattle.glob_text.specs.declared.symbol.Symbol.{Symbol}
use Rattle.glob_text.specs.declared.syntax.Syntax.{Syntax}
use Rattle.glob_text.specs.Alternatives.{AreChoices, each, Level, sequence, alternatives, is_itself, StandFor, nothing, one, group, first, next}
use Rattle.glob_text.specs.Escape.{escaped, HasOneSpelling, IsPatternOf}
use Rattle.glob_text.specs.Folded.{AreCased, IsFolded, IsFoldedLetter}
use Rattle.glob_text.specs.Marks.{Mark, literal, any, star, one_of, opens, comma, closes, is_quoting}
use Rattle.glob_text.specs.Meaning.{FitsMark, FitsMarks, MatchesWrittenOut, are_some, begins_dotted, mark_piece, part_pieces}
use Rattle.glob_text.specs.Parts.{is_separator, is_deep, ends_deep}
use Rattle.wildcards.specs.Groups.{group as grouped}
use Rattle.wildcards.specs.Items.{Reads}
use Rattle.glob_text.specs.Symbols.{IsSymbol}
use Rattle.glob_text.specs.Texts.{IsSymbolsFault, IsChoiceFault, AreWrittenOut}
use Rattle.glob_text.proofs.lemmas.EscapedLetters.{escaped_letters}
use Rattle.glob_text.proofs.lemmas.EscapedMarks.{IsOnly, AreOnly, marks_only, no_mark_fault}

-- the mark writes no alternatives
abbrev IsOwn : Mark → Type 0
IsOwn m = is_itself true m ≡ true

split_own : (ms ns : List Mark) → AllByRecursion IsOwn (ms ++ ns) → AllByRecursion IsOwn ms × AllByRecursion IsOwn ns
split_own [] ns h = (tt, h)
split_own (m ∷ ms) ns h = let k = split_own ms ns h.1 in ((h.0, k.0), k.1)

-- so they do without case
letter_own : (l : ℕ) (c : Mark) → IsFoldedLetter l c → IsOwn c
letter_own l c (inl h) = ap (is_itself true) h.1
letter_own l c (inr h) = ap (is_itself true) h.1.1.0

folded_own : (m c : Mark) → IsOwn m → IsFolded m c → IsOwn c
folded_own (literal l) c h f = letter_own l c f
folded_own any c h f = ap (is_itself true) f
folded_own (star again) c h f = ap (is_itself true) f
folded_own (one_of negated ranges) c h f = ap (is_itself true) f.1.0
folded_own (opens index) c h f = let never : false ≡ true = h in absurd cc
folded_own comma c h f = let never : false ≡ true = h in absurd cc
folded_own (closes index) c h f = let never : false ≡ true = h in absurd cc

cased_own : (b : Bool) (ms cs : List Mark) → AllByRecursion IsOwn ms → AreCased b ms cs → AllByRecursion IsOwn cs
cased_own false ms cs h e = subst (AllByRecursion IsOwn) (sym e) h
cased_own true [] [] h e = tt
cased_own true [] (c ∷ cs) h e = absurd e
cased_own true (m ∷ ms) [] h e = absurd e
cased_own true (m ∷ ms) (c ∷ cs) h e = (folded_own m c h.0 e.0, cased_own true ms cs h.1 e.1)

same_case : (b : Bool) (ms cs : List Mark) → b ≡ false → AreCased b ms cs → cs ≡ ms
same_case false ms cs e h = h
same_case true ms cs e h = absurd cc

-- marks without alternatives stand for themselves
abbrev IsSingle : Level → List Mark → List (List Mark) → Type 0
IsSingle (sequence inside) ms cs = AllByRecursion IsOwn ms → cs ≡ ms ∷ []
IsSingle alternatives ms cs = Unit {0}

single : {level : Level} {ms : List Mark} {cs : List (List Mark)} → StandFor level ms cs → IsSingle level ms cs
single nothing = λ h. refl
single (one {ms = ms} mark e r) = λ h. let k = split_own ms (mark ∷ []) h in ap (λ z. each z mark) (single r k.0)
single (group {ms = ms} {ns = ns} i j r a) = λ h. let k = split_own ms (opens i ∷ (ns ++ closes j ∷ [])) h in let never : false ≡ true = k.1.0 in absurd cc
single (first r) = tt
single (next r a) = tt

-- no brace is at fault, and there aren't too many choices
no_choice_fault : (ms : List Mark) (fault : PatternFault) → AllByRecursion IsOwn ms → IsChoiceFault ms fault → ⊥
no_choice_fault ms fault h (inl (inl f)) =
    let k = split_own f.before (opens f.index ∷ f.rest) (subst (AllByRecursion IsOwn) f.joined h) in
    let never : false ≡ true = k.1.0 in cc
no_choice_fault ms fault h (inl (inr f)) =
    let k = split_own f.before (closes f.index ∷ f.rest) (subst (AllByRecursion IsOwn) f.joined h) in
    let never : false ≡ true = k.1.0 in cc
no_choice_fault ms fault h (inr f) =
    let size : length f.are.choices ≡ 1 = ap length (single f.are.are h) in
    ⊎_elim (λ many. omega (arith, many, size)) (λ large. let several = large.0 in omega (arith, several, size)) f.are.many

module _ (o : Separators) where
  all_own : (ms : List Mark) (ls : List ℕ) → AreOnly o ms ls → AllByRecursion IsOwn ms
  all_own [] [] h = tt
  all_own [] (l ∷ ls) h = absurd h
  all_own (m ∷ ms) [] h = absurd h
  all_own (m ∷ ms) (l ∷ ls) h = (h.0.itself, all_own ms ls h.1)

  -- the parts are those of the letters
  abbrev PartsOnly : List (List Mark) → List (List ℕ) → Type 0
  PartsOnly [] [] = Unit {0}
  PartsOnly [] (k ∷ ks) = ⊥
  PartsOnly (p ∷ ps) [] = ⊥
  PartsOnly (p ∷ ps) (k ∷ ks) = AreOnly o p k × PartsOnly ps ks

  onto_only : (m : Mark) (l : ℕ) (ps : List (List Mark)) (ks : List (List ℕ)) → IsOnly o m l → PartsOnly ps ks → PartsOnly (onto_first m ps) (onto_first l ks)
  onto_only m l [] [] h k = ((h, tt), tt)
  onto_only m l [] (b ∷ ks) h k = absurd k
  onto_only m l (p ∷ ps) [] h k = absurd k
  onto_only m l (p ∷ ps) (b ∷ ks) h k = ((h, k.0), k.1)

  cut_only : (m : Mark) (l : ℕ) (b c : Bool) (ps : List (List Mark)) (ks : List (List ℕ)) → b ≡ c → IsOnly o m l → PartsOnly ps ks → PartsOnly (cond b ([] ∷ ps) (onto_first m ps)) (cond c ([] ∷ ks) (onto_first l ks))
  cut_only m l true true ps ks e h k = (tt, k)
  cut_only m l true false ps ks e h k = absurd cc
  cut_only m l false true ps ks e h k = absurd cc
  cut_only m l false false ps ks e h k = onto_only m l ps ks h k

  split_only : (ms : List Mark) (ls : List ℕ) → AreOnly o ms ls → PartsOnly (slice_split (is_separator o) ms) (slice_split (separates o) ls)
  split_only [] [] h = (tt, tt)
  split_only [] (l ∷ ls) h = absurd h
  split_only (m ∷ ms) [] h = absurd h
  split_only (m ∷ ms) (l ∷ ls) h = cut_only m l (is_separator o m) (separates o l) _ _ h.0.separator h.0 (split_only ms ls h.1)

  not_deep : (ms : List Mark) (ls : List ℕ) → AreOnly o ms ls → is_deep o ms ≡ false
  not_deep [] ls h = refl
  not_deep (m ∷ ms) [] h = absurd h
  not_deep (m ∷ ms) (l ∷ ls) h = ap (λ b. b && ends_deep o ms) h.0.single

  -- the marks of a part match its letters alone
  wild_only : (ms : List Mark) (ls : List ℕ) (xs : List ℕ) → AreOnly o ms ls → Wild TakesLetter FitsMark (map mark_piece ms) xs ↔ (xs ≡ ls)
  wild_only [] [] xs h = (λ e. e, λ e. e)
  wild_only [] (l ∷ ls) xs h = absurd h
  wild_only (m ∷ ms) [] xs h = absurd h
  wild_only (m ∷ ms) (l ∷ ls) xs h = (
    λ w. let v = subst (λ p. Wild TakesLetter FitsMark (p ∷ map mark_piece ms) xs) h.0.piece w in
        v.joined ∙ ap (λ z. z ∷ v.rest) ((h.0.fits v.letter).0 v.fits) ∙ ap (λ z. l ∷ z) ((wild_only ms ls v.rest h.1).0 v.after),
    λ e. subst (λ p. Wild TakesLetter FitsMark (p ∷ map mark_piece ms) xs) (sym h.0.piece) (record { letter = l; rest = ls; joined = e; fits = (h.0.fits l).1 refl; after = (wild_only ms ls ls h.1).1 refl }),
  )

  hidden_only : (dot : Bool) (ms : List Mark) (ls : List ℕ) → AreOnly o ms ls → is_hidden dot ls ≡ true → begins_dotted ms ≡ true
  hidden_only false ms ls h e = let never : false ≡ true = e in absurd cc
  hidden_only true ms [] h e = let never : false ≡ true = e in absurd cc
  hidden_only true [] (l ∷ ls) h e = absurd h
  hidden_only true (m ∷ ms) (l ∷ ls) h e = h.0.dotted ms ∙ e

  fits_only : (dot : Bool) (ms : List Mark) (ls : List ℕ) (xs : List ℕ) → AreOnly o ms ls → FitsMarks dot ms xs ↔ (xs ≡ ls)
  fits_only dot ms ls xs h = (
    λ m. (wild_only ms ls xs h).0 m.0,
    λ e. ((wild_only ms ls xs h).1 e, λ k. hidden_only dot ms ls h (sym (ap (is_hidden dot) e) ∙ k)),
  )

  -- the parts match these components alone
  parts_only : (dot : Bool) (ps : List (List Mark)) (ks : List (List ℕ)) (xs : List (List ℕ)) → PartsOnly ps ks → Wild (TakesComponent dot) (FitsMarks dot) (part_pieces o ps) xs ↔ (xs ≡ ks)
  parts_only dot [] [] xs h = (λ e. e, λ e. e)
  parts_only dot [] (k ∷ ks) xs h = absurd h
  parts_only dot (p ∷ ps) [] xs h = absurd h
  parts_only dot (p ∷ ps) (k ∷ ks) xs h =
      let plain : part_pieces o (p ∷ ps) ≡ One p ∷ part_pieces o ps = ap (λ b. grouped b (are_some ps) p ++ part_pieces o ps) (not_deep p k h.0) in (
        λ w. let v = subst (λ z. Wild (TakesComponent dot) (FitsMarks dot) z xs) plain w in
            v.joined ∙ ap (λ z. z ∷ v.rest) ((fits_only dot p k v.letter h.0).0 v.fits) ∙ ap (λ z. k ∷ z) ((parts_only dot ps ks v.rest h.1).0 v.after),
        λ e. subst (λ z. Wild (TakesComponent dot) (FitsMarks dot) z xs) (sym plain) (record { letter = k; rest = ks; joined = e; fits = (fits_only dot p k k h.0).1 refl; after = (parts_only dot ps ks ks h.1).1 refl }),
      )

  -- one pattern of such marks
  written_only : (dot : Bool) (ms : List Mark) (ls : List ℕ) (path : List ℕ) → AreOnly o ms ls → MatchesWrittenOut (record { separators = o; literal_leading_dot = dot }) (ms ∷ []) path ↔ (components o path ≡ components o ls)
  written_only dot ms ls path h =
      let same = parts_only dot (slice_split (is_separator o) ms) (slice_split (separates o) ls) (components o path) (split_only ms ls h) in (
        by_choice same.0,
        λ e. inl (same.1 e),
      )
    where
      by_choice : {P Q : Type 0} → (P → Q) → P ⊎ ⊥ → Q
      by_choice f (inl p) = f p
      by_choice f (inr n) = absurd n

-- a path has one spelling
some_parts : (p : ℕ → Bool) (xs : List ℕ) → slice_split p xs ≡ [] → ⊥
some_parts p [] e = let never : [] ∷ [] ≡ [] = e in cc
some_parts p (x ∷ xs) e = by_first (p x) (slice_split p xs) e
  where
    by_first : (b : Bool) (ps : List (List ℕ)) → cond b ([] ∷ ps) (onto_first x ps) ≡ [] → ⊥
    by_first true ps e = let never : [] ∷ ps ≡ [] = e in cc
    by_first false [] e = let never : (x ∷ []) ∷ [] ≡ [] = e in cc
    by_first false (q ∷ ps) e = let never : (x ∷ q) ∷ ps ≡ [] = e in cc

one_part : (p : ℕ → Bool) (xs ys : List ℕ) → slice_split p xs ≡ ys ∷ [] → xs ≡ ys
one_part p [] ys e = let same : [] ≡ ys = cc in same
one_part p (x ∷ xs) ys e = by_first (p x) (slice_split p xs) (some_parts p xs) (λ zs h. one_part p xs zs h) e
  where
    by_first : (b : Bool) (ps : List (List ℕ)) → (ps ≡ [] → ⊥) → ((zs : List ℕ) → ps ≡ zs ∷ [] → xs ≡ zs) → cond b ([] ∷ ps) (onto_first x ps) ≡ ys ∷ [] → x ∷ xs ≡ ys
    by_first true ps some more e = let none : ps ≡ [] = cc in absurd (some none)
    by_first false [] some more e = absurd (some refl)
    by_first false (q ∷ ps) some more e =
        let first : x ∷ q ≡ ys = cc in
        let none : ps ≡ [] = cc in
        ap (λ z. x ∷ z) (more q (ap (λ z. q ∷ z) none)) ∙ first

no_separators : (xs : List ℕ) → AllByRecursion (λ l. separates separators.None l ≡ false) xs
no_separators [] = tt
no_separators (x ∷ xs) = (refl, no_separators xs)

alone_in : (o : Separators) (xs : List ℕ) → AllByRecursion (λ l. separates o l ≡ false) xs → components o xs ≡ xs ∷ []
alone_in o xs h = slice_split_none (separates o) xs (All-from_recursion (λ l. separates o l ≡ false) xs h)

same_path : (o : Separators) (own path : List ℕ) → HasOneSpelling o own → components o path ≡ components o own → path ≡ own
same_path separators.None own path h e = one_part (separates separators.None) path own (e ∙ alone_in separators.None own (no_separators own))
same_path separators.Slash own path h e = sym (join_with_byte-slice_split 0x2F path) ∙ ap (join_with_byte 0x2F) e ∙ join_with_byte-slice_split 0x2F own
same_path separators.SlashAndBackslash own path h e = one_part (separates separators.SlashAndBackslash) path own (e ∙ alone_in separators.SlashAndBackslash own h)

module _ (formed : List ℕ → Type 0) (letters : List ℕ → List ℕ) (laws : LetterLaws formed letters)
    (around : (s t : List ℕ) (b : ℕ) → b < 0x80 → formed s → formed t → formed (s ++ b ∷ t)) where
  symbol_letters : (text left : List ℕ) (symbols : List Symbol) → Reads (IsSymbol formed letters text) left symbols [] → map (λ s. s.letter) symbols ≡ letters left
  symbol_letters text left [] r = sym (ap letters r ∙ (laws.ascii [] tt).1)
  symbol_letters text left (s ∷ symbols) r = ap (λ z. s.letter ∷ z) (symbol_letters text r.0 symbols r.2) ∙ sym r.1.letter.letters_are

  pub pattern_of : (o : Syntax) (own : List ℕ) → formed own → formed (escaped (is_quoting o) own) × IsPatternOf formed letters o (escaped (is_quoting o) own) (letters own)
  pattern_of o own f =
      let text = escaped (is_quoting o) own in
      let all = escaped_letters formed letters laws around (is_quoting o) own f in (
        all.0,
        record {
          no_fault = λ fault k. at_fault fault k.symbols (symbol_letters text text k.symbols k.read ∙ all.1) k.is;
          same = λ tells dot written path w. by_components all.1 tells dot written path w;
          alone = λ tells one dot written path w. let h = by_components all.1 tells dot written path w in (
            λ m. same_path o.separators (letters own) path one (h.0 m),
            λ e. h.1 (ap (components o.separators) e),
          );
        },
      )
    where
      by_components : letters (escaped (is_quoting o) own) ≡ escaped (is_quoting o) (letters own) → o.case_insensitive ≡ false → (dot : Bool) (written : List (List Mark)) (path : List ℕ) → AreWrittenOut formed letters o (escaped (is_quoting o) own) written
          → MatchesWrittenOut (record { separators = o.separators; literal_leading_dot = dot }) written path ↔ (components o.separators path ≡ components o.separators (letters own))
      by_components e tells dot written path w =
          let text = escaped (is_quoting o) own in
          let ms = marks_only o (letters own) w.symbols w.marks (symbol_letters text text w.symbols w.read ∙ e) w.marks_are in
          subst (λ z. MatchesWrittenOut (record { separators = o.separators; literal_leading_dot = dot }) z path ↔ (components o.separators path ≡ components o.separators (letters own)))
          (sym (single (subst (λ z. AreChoices z written) (same_case o.case_insensitive w.marks w.cased tells w.are_cased) w.are) (all_own o.separators w.marks (letters own) ms))) (written_only o.separators dot w.marks (letters own) path ms)

      at_fault : (fault : PatternFault) (symbols : List Symbol) → map (λ s. s.letter) symbols ≡ escaped (is_quoting o) (letters own) → IsSymbolsFault o symbols fault → ⊥
      at_fault fault symbols e (inl k) = no_mark_fault o (letters own) symbols fault e k
      at_fault fault symbols e (inr k) =
          no_choice_fault k.cased fault (cased_own o.case_insensitive k.marks k.cased (all_own o.separators k.marks (letters own) (marks_only o (letters own) symbols k.marks e k.read)) k.are_cased) k.fault_is
