-- Alternatives of letters match what the class does that they are merged into.
use Rattle.std.proofs.Common.{◌≡◌, ◌⊎◌, ◌↔◌, inl, inr, ⊎_elim, ℕ, Bool, true, false, not, nat_eq, ◌&&◌, ◌||◌, List, [], ◌∷◌, ◌++◌, map, refl, sym, ap, ◌∙◌, subst, append_assoc, append-nil, IsTrue}
use Rattle.std.specs.List.{AllByRecursion, slice_split, onto_first}
use Rattle.std.proofs.Math.Bool.{or_assoc}
use Rattle.std.proofs.lemmas.Bool.{and_parts, or_cases, or_left, or_right}
use Rattle.std.proofs.lemmas.List.{map-append}
use Rattle.std.proofs.lemmas.List.Splits.{slice_split-cons_no, slice_split-cons_yes}
use Rattle.std.proofs.lemmas.Simd.{map-map}
use Rattle.wildcards.specs.declared.options.Options.{Options}
use Rattle.wildcards.specs.declared.piece.Piece.{Piece}
use Rattle.wildcards.specs.declared.piece.Piece.TheVariants.{Many, One}
use Rattle.wildcards.specs.declared.range.Range.{Range}
use Rattle.wildcards.specs.declared.separators.Separators.{Separators}
use Rattle.wildcards.specs.ClassName.{range}
use Rattle.wildcards.specs.Components.{components, separates}
use Rattle.wildcards.specs.Groups.{group}
use Rattle.wildcards.specs.Match.{TakesComponent, TakesLetter}
use Rattle.wildcards.specs.Ranges.{is_in, lies_in}
use Rattle.wildcards.specs.Wild.{Wild}
use Rattle.glob_text.specs.Backwards.{Pending, Behind, each_after, choices_before, choices_behind, at_end}
use Rattle.glob_text.specs.Marks.{Mark, literal, any, star, one_of, opens, comma, closes}
use Rattle.glob_text.specs.Meaning.{FitsMark, FitsMarks, MatchesMarks, MatchesWrittenOut, are_some, begins_dotted, mark_piece, part_pieces}
use Rattle.glob_text.specs.Merged.{is_letter, letters_of, AreLetters, last, more, AreMerged}
use Rattle.glob_text.specs.Parts.{ends_deep, ends_part, is_deep, is_doubled, is_separator, is_star}
use Rattle.glob_text.proofs.lemmas.Backwards.{map_alike, map_itself}
use Rattle.glob_text.proofs.lemmas.Folding.{lies_alone, lies_itself}
use Rattle.glob_text.proofs.lemmas.Meanings.{some_split}

-- a piece that fits what one of several pieces does
module _ {X A I : Type 0} (T : A → Type 0) (F : X → A → Type 0) (Alt : I → Type 0) (x : X) (y : I → X) where
  one_some : ((a : A) → F x a → (i : I) × Alt i × F (y i) a) → (ps qs : List (Piece X)) (ls : List A) → Wild T F (ps ++ One x ∷ qs) ls → (i : I) × Alt i × Wild T F (ps ++ One (y i) ∷ qs) ls
  one_some some [] qs ls m =
      let h = some m.letter m.fits in
      (h.0, h.1, record { letter = m.letter; rest = m.rest; joined = m.joined; fits = h.2; after = m.after })
  one_some some (Many ∷ ps) qs ls m =
      let h = one_some some ps qs m.rest m.after in
      (h.0, h.1, record { skipped = m.skipped; rest = m.rest; joined = m.joined; taken = m.taken; after = h.2 })
  one_some some (One p ∷ ps) qs ls m =
      let h = one_some some ps qs m.rest m.after in
      (h.0, h.1, record { letter = m.letter; rest = m.rest; joined = m.joined; fits = m.fits; after = h.2 })

  each_one : (i : I) → ((a : A) → F (y i) a → F x a) → (ps qs : List (Piece X)) (ls : List A) → Wild T F (ps ++ One (y i) ∷ qs) ls → Wild T F (ps ++ One x ∷ qs) ls
  each_one i each [] qs ls m = record { letter = m.letter; rest = m.rest; joined = m.joined; fits = each m.letter m.fits; after = m.after }
  each_one i each (Many ∷ ps) qs ls m = record { skipped = m.skipped; rest = m.rest; joined = m.joined; taken = m.taken; after = each_one i each ps qs m.rest m.after }
  each_one i each (One p ∷ ps) qs ls m = record { letter = m.letter; rest = m.rest; joined = m.joined; fits = m.fits; after = each_one i each ps qs m.rest m.after }

abbrev Choices : Type 0
Choices = List (List Mark)

abbrev state : List (Pending Choices) → Choices → Behind Choices
state gs current = record { groups = gs; current = current }

and_none : (b : Bool) → (b && false) ≡ false
and_none true = refl
and_none false = refl

is_false : (b : Bool) → not b ≡ true → b ≡ false
is_false true e = let never : false ≡ true = e in absurd cc
is_false false e = refl

-- the first mark has to be the dot
first_dotted : (m : Mark) (ms ns : List Mark) → begins_dotted (m ∷ ms) ≡ begins_dotted (m ∷ ns)
first_dotted (literal letter) ms ns = refl
first_dotted any ms ns = refl
first_dotted (star again) ms ns = refl
first_dotted (one_of negated ranges) ms ns = refl
first_dotted (opens index) ms ns = refl
first_dotted comma ms ns = refl
first_dotted (closes index) ms ns = refl

module _ (o : Separators) where
  -- a mark that matches one letter wherever it is
  record IsSingle (m : Mark) : Type 0 where
    piece : mark_piece m ≡ One m
    plain : is_separator o m ≡ false
    no_star : is_star m ≡ false
    not_doubled : is_doubled m ≡ false
    no_dot : (ms : List Mark) → begins_dotted (m ∷ ms) ≡ false
    itself : (gs : List (Pending Choices)) (current : Choices) → choices_before m (state gs current) ≡ state gs (each_after m current)

  class_single : (negated : Bool) (ranges : List Range) → IsSingle (one_of negated ranges)
  class_single negated ranges = record { piece = refl; plain = refl; no_star = refl; not_doubled = refl; no_dot = λ ms. refl; itself = λ gs current. refl }

  letter_single : (m : Mark) → is_letter o m ≡ true → IsSingle m
  letter_single (literal letter) e =
      let both = and_parts (not (separates o letter)) (not (nat_eq letter 0x2E)) e in
      record {
        piece = refl;
        plain = is_false (separates o letter) both.0;
        no_star = refl;
        not_doubled = refl;
        no_dot = λ ms. is_false (nat_eq letter 0x2E) both.1;
        itself = λ gs current. refl;
      }
  letter_single any e = let never : false ≡ true = e in absurd cc
  letter_single (star again) e = let never : false ≡ true = e in absurd cc
  letter_single (one_of negated ranges) e = class_single negated ranges
  letter_single (opens index) e = let never : false ≡ true = e in absurd cc
  letter_single comma e = let never : false ≡ true = e in absurd cc
  letter_single (closes index) e = let never : false ≡ true = e in absurd cc

  -- its letters
  fits_letters : (m : Mark) → is_letter o m ≡ true → (a : ℕ) → FitsMark m a ↔ (is_in (letters_of m) a ≡ true)
  fits_letters (literal letter) e a = (
    λ k. subst (λ z. is_in (range letter letter ∷ []) z ≡ true) k (or_left (lies_in (range letter letter) letter) false (lies_itself letter)),
    λ k. ⊎_elim (λ h. lies_alone letter a h) (λ h. let never : false ≡ true = h in absurd cc) (or_cases (lies_in (range letter letter) a) false k),
  )
  fits_letters any e a = let never : false ≡ true = e in absurd cc
  fits_letters (star again) e a = let never : false ≡ true = e in absurd cc
  fits_letters (one_of true ranges) e a = let never : false ≡ true = e in absurd cc
  fits_letters (one_of false ranges) e a = (λ k. k, λ k. k)
  fits_letters (opens index) e a = let never : false ≡ true = e in absurd cc
  fits_letters comma e a = let never : false ≡ true = e in absurd cc
  fits_letters (closes index) e a = let never : false ≡ true = e in absurd cc

  -- such a mark between others: the parts before it, that which it is in, and those after it
  record Place (ms ns : List Mark) : Type 0 where
    before : List (List Mark)
    own : List Mark
    rest : List Mark
    after : List (List Mark)
    plain : AllByRecursion (λ m. is_separator o m ≡ false) own
    at : (m : Mark) → is_separator o m ≡ false → slice_split (is_separator o) (ms ++ m ∷ ns) ≡ before ++ (own ++ m ∷ rest) ∷ after

  place : (ms ns : List Mark) → Place ms ns
  place [] ns = by_parts (slice_split (is_separator o) ns) refl (some_split o (is_separator o) ns)
    where
      by_parts : (ps : List (List Mark)) → slice_split (is_separator o) ns ≡ ps → are_some ps ≡ true → Place [] ns
      by_parts [] e some = let never : false ≡ true = some in absurd cc
      by_parts (q ∷ qs) e some = record { before = []; own = []; rest = q; after = qs; plain = tt; at = λ m n. slice_split-cons_no (is_separator o) m ns n ∙ ap (onto_first m) e }
  place (k ∷ ms) ns = by_first (is_separator o k) refl (place ms ns)
    where
      by_before : (i : Place ms ns) (bs : List (List Mark)) → is_separator o k ≡ false → i.before ≡ bs → Place (k ∷ ms) ns
      by_before i [] s e = record {
        before = [];
        own = k ∷ i.own;
        rest = i.rest;
        after = i.after;
        plain = (s, i.plain);
        at = λ m n. slice_split-cons_no (is_separator o) k (ms ++ m ∷ ns) s ∙ ap (onto_first k) (i.at m n ∙ ap (λ z. z ++ (i.own ++ m ∷ i.rest) ∷ i.after) e);
      }
      by_before i (b ∷ bs) s e = record {
        before = (k ∷ b) ∷ bs;
        own = i.own;
        rest = i.rest;
        after = i.after;
        plain = i.plain;
        at = λ m n. slice_split-cons_no (is_separator o) k (ms ++ m ∷ ns) s ∙ ap (onto_first k) (i.at m n ∙ ap (λ z. z ++ (i.own ++ m ∷ i.rest) ∷ i.after) e);
      }

      by_first : (b : Bool) → is_separator o k ≡ b → Place ms ns → Place (k ∷ ms) ns
      by_first true s i = record {
        before = [] ∷ i.before;
        own = i.own;
        rest = i.rest;
        after = i.after;
        plain = i.plain;
        at = λ m n. slice_split-cons_yes (is_separator o) k (ms ++ m ∷ ns) s ∙ ap (λ z. [] ∷ z) (i.at m n);
      }
      by_first false s i = by_before i i.before s refl

  module _ (m : Mark) (s : IsSingle m) where
    -- a part that it is in is no `**`
    no_deep : (own rest : List Mark) → AllByRecursion (λ k. is_separator o k ≡ false) own → is_deep o (own ++ m ∷ rest) ≡ false
    no_deep [] rest h = ap (λ z. z && ends_deep o rest) s.not_doubled
    no_deep (a ∷ []) rest h = ap (λ z. is_doubled a && (z && ends_part o rest)) s.no_star ∙ and_none (is_doubled a)
    no_deep (a ∷ b ∷ []) rest h = ap (λ z. is_doubled a && (is_star b && z)) s.plain ∙ ap (λ z. is_doubled a && z) (and_none (is_star b)) ∙ and_none (is_doubled a)
    no_deep (a ∷ b ∷ c ∷ own) rest h = ap (λ z. is_doubled a && (is_star b && z)) h.1.1.0 ∙ ap (λ z. is_doubled a && z) (and_none (is_star b)) ∙ and_none (is_doubled a)

    own_pieces : (own rest : List Mark) → map mark_piece (own ++ m ∷ rest) ≡ map mark_piece own ++ One m ∷ map mark_piece rest
    own_pieces own rest = map-append mark_piece own (m ∷ rest) ∙ ap (λ z. map mark_piece own ++ z ∷ map mark_piece rest) s.piece

  -- parts before another
  abbrev before_pieces : List (List Mark) → List (Piece (List Mark))
  before_pieces [] = []
  before_pieces (b ∷ bs) = group (is_deep o b) true b ++ before_pieces bs

  some_before : (bs : List (List Mark)) (p : List Mark) (ps : List (List Mark)) → are_some (bs ++ p ∷ ps) ≡ true
  some_before [] p ps = refl
  some_before (b ∷ bs) p ps = refl

  pieces_at : (bs : List (List Mark)) (p : List Mark) (ps : List (List Mark)) → is_deep o p ≡ false → part_pieces o (bs ++ p ∷ ps) ≡ before_pieces bs ++ One p ∷ part_pieces o ps
  pieces_at [] p ps e = ap (λ z. group z (are_some ps) p ++ part_pieces o ps) e
  pieces_at (b ∷ bs) p ps e =
      ap (λ z. group (is_deep o b) z b ++ part_pieces o (bs ++ p ∷ ps)) (some_before bs p ps)
      ∙ ap (λ z. group (is_deep o b) true b ++ z) (pieces_at bs p ps e)
      ∙ sym (append_assoc (group (is_deep o b) true b) (before_pieces bs) (One p ∷ part_pieces o ps))

  dots_same : (m n : Mark) → IsSingle m → IsSingle n → (own rest : List Mark) → begins_dotted (own ++ m ∷ rest) ≡ begins_dotted (own ++ n ∷ rest)
  dots_same m n s t [] rest = s.no_dot rest ∙ sym (t.no_dot rest)
  dots_same m n s t (k ∷ own) rest = first_dotted k (own ++ m ∷ rest) (own ++ n ∷ rest)

  place_pieces : (ms ns : List Mark) (i : Place ms ns) (m : Mark) → IsSingle m → part_pieces o (slice_split (is_separator o) (ms ++ m ∷ ns)) ≡ before_pieces i.before ++ One (i.own ++ m ∷ i.rest) ∷ part_pieces o i.after
  place_pieces ms ns i m s = ap (part_pieces o) (i.at m s.plain) ∙ pieces_at i.before (i.own ++ m ∷ i.rest) i.after (no_deep m s i.own i.rest i.plain)

module _ (p : Options) where
  abbrev sep : Separators
  sep = p.separators

  abbrev dot : Bool
  dot = p.literal_leading_dot

  -- one mark matches what one of several does
  module _ (Alt : Mark → Type 0) (x : Mark) (single : IsSingle sep x) (singles : (m : Mark) → Alt m → IsSingle sep m) where
    module _ (some : (a : ℕ) → FitsMark x a → (m : Mark) × Alt m × FitsMark m a) where
      fits_some : (own rest : List Mark) (component : List ℕ) → FitsMarks dot (own ++ x ∷ rest) component → (m : Mark) × Alt m × FitsMarks dot (own ++ m ∷ rest) component
      fits_some own rest component f =
          let h = one_some TakesLetter FitsMark Alt x (λ m. m) some (map mark_piece own) (map mark_piece rest) component (subst (λ z. Wild TakesLetter FitsMark z component) (own_pieces sep x single own rest) f.0) in
          let s = singles h.0 h.1 in
          (h.0, h.1, (subst (λ z. Wild TakesLetter FitsMark z component) (sym (own_pieces sep h.0 s own rest)) h.2, λ k. dots_same sep h.0 x s single own rest ∙ f.1 k))

      marks_some : (ms ns : List Mark) (path : List ℕ) → MatchesMarks p (ms ++ x ∷ ns) path → (m : Mark) × Alt m × MatchesMarks p (ms ++ m ∷ ns) path
      marks_some ms ns path f =
          let i = place sep ms ns in
          let h = one_some (TakesComponent dot) (FitsMarks dot) Alt (i.own ++ x ∷ i.rest) (λ m. i.own ++ m ∷ i.rest) (fits_some i.own i.rest) (before_pieces sep i.before) (part_pieces sep i.after) (components sep path)
          (subst (λ z. Wild (TakesComponent dot) (FitsMarks dot) z (components sep path)) (place_pieces sep ms ns i x single) f) in
          (h.0, h.1, subst (λ z. Wild (TakesComponent dot) (FitsMarks dot) z (components sep path)) (sym (place_pieces sep ms ns i h.0 (singles h.0 h.1))) h.2)

      choices_some : (ms : List Mark) (cs : Choices) (path : List ℕ) → MatchesWrittenOut p (map (λ c. ms ++ c) (each_after x cs)) path → (m : Mark) × Alt m × MatchesWrittenOut p (map (λ c. ms ++ c) (each_after m cs)) path
      choices_some ms [] path f = absurd f
      choices_some ms (c ∷ cs) path (inl f) = let h = marks_some ms c path f in (h.0, h.1, inl h.2)
      choices_some ms (c ∷ cs) path (inr f) = let h = choices_some ms cs path f in (h.0, h.1, inr h.2)

    module _ (m : Mark) (alt : Alt m) (each : (a : ℕ) → FitsMark m a → FitsMark x a) where
      each_fits : (own rest : List Mark) (component : List ℕ) → FitsMarks dot (own ++ m ∷ rest) component → FitsMarks dot (own ++ x ∷ rest) component
      each_fits own rest component f =
          let s = singles m alt in
          let h = each_one TakesLetter FitsMark Alt x (λ n. n) m each (map mark_piece own) (map mark_piece rest) component (subst (λ z. Wild TakesLetter FitsMark z component) (own_pieces sep m s own rest) f.0) in
          (subst (λ z. Wild TakesLetter FitsMark z component) (sym (own_pieces sep x single own rest)) h, λ k. dots_same sep x m single s own rest ∙ f.1 k)

      each_marks : (ms ns : List Mark) (path : List ℕ) → MatchesMarks p (ms ++ m ∷ ns) path → MatchesMarks p (ms ++ x ∷ ns) path
      each_marks ms ns path f =
          let i = place sep ms ns in
          let h = each_one (TakesComponent dot) (FitsMarks dot) Alt (i.own ++ x ∷ i.rest) (λ n. i.own ++ n ∷ i.rest) m (each_fits i.own i.rest) (before_pieces sep i.before) (part_pieces sep i.after) (components sep path)
          (subst (λ z. Wild (TakesComponent dot) (FitsMarks dot) z (components sep path)) (place_pieces sep ms ns i m (singles m alt)) f) in
          subst (λ z. Wild (TakesComponent dot) (FitsMarks dot) z (components sep path)) (sym (place_pieces sep ms ns i x single)) h

      each_choices : (ms : List Mark) (cs : Choices) (path : List ℕ) → MatchesWrittenOut p (map (λ c. ms ++ c) (each_after m cs)) path → MatchesWrittenOut p (map (λ c. ms ++ c) (each_after x cs)) path
      each_choices ms [] path f = absurd f
      each_choices ms (c ∷ cs) path (inl f) = inl (each_marks ms c path f)
      each_choices ms (c ∷ cs) path (inr f) = inr (each_choices ms cs path f)

  both_written : (cs ds : Choices) (path : List ℕ) → MatchesWrittenOut p (cs ++ ds) path ↔ (MatchesWrittenOut p cs path ⊎ MatchesWrittenOut p ds path)
  both_written [] ds path = (inr, λ k. ⊎_elim (λ h. absurd h) (λ h. h) k)
  both_written (c ∷ cs) ds path =
      let others = both_written cs ds path in (
        λ k. ⊎_elim (λ h. inl (inl h)) (λ h. ⊎_elim (λ l. inl (inr l)) inr (others.0 h)) k,
        λ k. ⊎_elim (λ h. ⊎_elim inl (λ l. inr (others.1 (inl l))) h) (λ h. inr (others.1 (inr h))) k,
      )

  -- they match the same paths, whatever marks come before them
  abbrev AreSame : Choices → Choices → Type 0
  AreSame cs ds = (ms : List Mark) (path : List ℕ) → MatchesWrittenOut p (map (λ c. ms ++ c) cs) path ↔ MatchesWrittenOut p (map (λ c. ms ++ c) ds) path

  themselves : (cs : Choices) → AreSame cs cs
  themselves cs = λ ms path. (λ k. k, λ k. k)

  same_over : (cs ds es : Choices) → AreSame cs ds → AreSame ds es → AreSame cs es
  same_over cs ds es f g = λ ms path. (λ k. (g ms path).0 ((f ms path).0 k), λ k. (f ms path).1 ((g ms path).1 k))

  two_after : (ms : List Mark) (cs ds : Choices) (path : List ℕ) → MatchesWrittenOut p (map (λ c. ms ++ c) (cs ++ ds)) path ↔ (MatchesWrittenOut p (map (λ c. ms ++ c) cs) path ⊎ MatchesWrittenOut p (map (λ c. ms ++ c) ds) path)
  two_after ms cs ds path =
      subst (λ z. MatchesWrittenOut p z path ↔ (MatchesWrittenOut p (map (λ c. ms ++ c) cs) path ⊎ MatchesWrittenOut p (map (λ c. ms ++ c) ds) path)) (sym (map-append (λ c. ms ++ c) cs ds))
      (both_written (map (λ c. ms ++ c) cs) (map (λ c. ms ++ c) ds) path)

  same_both : (cs ds es fs : Choices) → AreSame cs es → AreSame ds fs → AreSame (cs ++ ds) (es ++ fs)
  same_both cs ds es fs f g = λ ms path. (
    λ k. (two_after ms es fs path).1 (⊎_elim (λ h. inl ((f ms path).0 h)) (λ h. inr ((g ms path).0 h)) ((two_after ms cs ds path).0 k)),
    λ k. (two_after ms cs ds path).1 (⊎_elim (λ h. inl ((f ms path).1 h)) (λ h. inr ((g ms path).1 h)) ((two_after ms es fs path).0 k)),
  )

  one_longer : (ms : List Mark) (m : Mark) (cs : Choices) → map (λ c. ms ++ c) (each_after m cs) ≡ map (λ c. (ms ++ m ∷ []) ++ c) cs
  one_longer ms m cs = map-map (λ c. ms ++ c) (λ c. m ∷ c) cs ∙ map_alike (λ c. ms ++ m ∷ c) (λ c. (ms ++ m ∷ []) ++ c) (λ c. sym (append_assoc ms (m ∷ []) c)) cs

  same_each : (m : Mark) (cs ds : Choices) → AreSame cs ds → AreSame (each_after m cs) (each_after m ds)
  same_each m cs ds f = λ ms path.
      let h = f (ms ++ m ∷ []) path in (
        λ k. subst (λ z. MatchesWrittenOut p z path) (sym (one_longer ms m ds)) (h.0 (subst (λ z. MatchesWrittenOut p z path) (one_longer ms m cs) k)),
        λ k. subst (λ z. MatchesWrittenOut p z path) (sym (one_longer ms m cs)) (h.1 (subst (λ z. MatchesWrittenOut p z path) (one_longer ms m ds) k)),
      )

  both_in : (rs ss : List Range) (a : ℕ) → is_in (rs ++ ss) a ≡ (is_in rs a || is_in ss a)
  both_in [] ss a = refl
  both_in (r ∷ rs) ss a = ap (λ z. lies_in r a || z) (both_in rs ss a) ∙ sym (or_assoc (lies_in r a) (is_in rs a) (is_in ss a))

  module _ (m : Mark) (letter : is_letter sep m ≡ true) where
    fits : (a : ℕ) → FitsMark m a ↔ (is_in (letters_of m) a ≡ true)
    fits = fits_letters sep m letter

    -- a letter is a class
    as_class : (cs : Choices) → AreSame (each_after m cs) (each_after (one_of false (letters_of m)) cs)
    as_class cs = λ ms path. (
      each_choices (λ n. n ≡ m) class single singles m refl (λ a. (fits a).0) ms cs path,
      λ k.
          let h = choices_some (λ n. n ≡ m) class single singles (λ a f. (m, refl, (fits a).1 f)) ms cs path k in
          subst (λ z. MatchesWrittenOut p (map (λ c. ms ++ c) (each_after z cs)) path) h.1 h.2,
    )
      where
        class : Mark
        class = one_of false (letters_of m)

        single : IsSingle sep class
        single = class_single sep false (letters_of m)

        singles : (n : Mark) → n ≡ m → IsSingle sep n
        singles n e = subst (IsSingle sep) (sym e) (letter_single sep m letter)

    -- a letter and a class are one class
    with_class : (ranges : List Range) (cs : Choices) → AreSame (each_after m cs ++ each_after (one_of false ranges) cs) (each_after (one_of false (letters_of m ++ ranges)) cs)
    with_class ranges cs = λ ms path. (
      λ k. ⊎_elim
          (each_choices IsOne class single singles m (inl refl) (λ a f. both_in (letters_of m) ranges a ∙ or_left (is_in (letters_of m) a) (is_in ranges a) ((fits a).0 f)) ms cs path)
          (each_choices IsOne class single singles other (inr refl) (λ a f. both_in (letters_of m) ranges a ∙ or_right (is_in (letters_of m) a) (is_in ranges a) f) ms cs path)
          ((two_after ms (each_after m cs) (each_after other cs) path).0 k),
      λ k.
          let h = choices_some IsOne class single singles either ms cs path k in
          (two_after ms (each_after m cs) (each_after other cs) path).1 (⊎_elim
          (λ e. inl (subst (λ z. MatchesWrittenOut p (map (λ c. ms ++ c) (each_after z cs)) path) e h.2))
          (λ e. inr (subst (λ z. MatchesWrittenOut p (map (λ c. ms ++ c) (each_after z cs)) path) e h.2)) h.1),
    )
      where
        other : Mark
        other = one_of false ranges

        class : Mark
        class = one_of false (letters_of m ++ ranges)

        IsOne : Mark → Type 0
        IsOne n = (n ≡ m) ⊎ (n ≡ other)

        single : IsSingle sep class
        single = class_single sep false (letters_of m ++ ranges)

        singles : (n : Mark) → IsOne n → IsSingle sep n
        singles n (inl e) = subst (IsSingle sep) (sym e) (letter_single sep m letter)
        singles n (inr e) = subst (IsSingle sep) (sym e) (class_single sep false ranges)

        either : (a : ℕ) → FitsMark class a → (n : Mark) × IsOne n × FitsMark n a
        either a f = ⊎_elim (λ h. (m, inl refl, (fits a).1 h)) (λ h. (other, inr refl, h)) (or_cases (is_in (letters_of m) a) (is_in ranges a) (sym (both_in (letters_of m) ranges a) ∙ f))

  abbrev AreSameGroups : List (Pending Choices) → List (Pending Choices) → Type 0
  AreSameGroups [] [] = Unit {0}
  AreSameGroups [] (h ∷ hs) = ⊥
  AreSameGroups (g ∷ gs) [] = ⊥
  AreSameGroups (g ∷ gs) (h ∷ hs) = AreSame g.after h.after × AreSame g.found h.found × AreSameGroups gs hs

  record IsSame (s t : Behind Choices) : Type 0 where
    groups : AreSameGroups s.groups t.groups
    current : AreSame s.current t.current

  before_same : (m : Mark) (gs hs : List (Pending Choices)) (cs ds : Choices) → AreSameGroups gs hs → AreSame cs ds → IsSame (choices_before m (state gs cs)) (choices_before m (state hs ds))
  before_same (literal letter) gs hs cs ds g c = record { groups = g; current = same_each (literal letter) cs ds c }
  before_same any gs hs cs ds g c = record { groups = g; current = same_each any cs ds c }
  before_same (star again) gs hs cs ds g c = record { groups = g; current = same_each (star again) cs ds c }
  before_same (one_of negated ranges) gs hs cs ds g c = record { groups = g; current = same_each (one_of negated ranges) cs ds c }
  before_same (opens index) [] [] cs ds g c = record { groups = tt; current = c }
  before_same (opens index) [] (h ∷ hs) cs ds g c = absurd g
  before_same (opens index) (f ∷ gs) [] cs ds g c = absurd g
  before_same (opens index) (f ∷ gs) (h ∷ hs) cs ds g c = record { groups = g.2; current = same_both cs f.found ds h.found c g.1 }
  before_same comma [] [] cs ds g c = record { groups = tt; current = same_each comma cs ds c }
  before_same comma [] (h ∷ hs) cs ds g c = absurd g
  before_same comma (f ∷ gs) [] cs ds g c = absurd g
  before_same comma (f ∷ gs) (h ∷ hs) cs ds g c = record { groups = (g.0, same_both cs f.found ds h.found c g.1, g.2); current = g.0 }
  before_same (closes index) gs hs cs ds g c = record { groups = (c, themselves [], g); current = c }

  -- alternatives of letters, from their `}` on
  letters_behind : {ms : List Mark} {ranges : List Range} {rest : List Mark} → AreLetters sep ms ranges rest → (s : Behind Choices) → (now : Choices) × (whole : Choices)
      × (choices_behind ms s ≡ state (record { after = (choices_behind rest s).current; found = whole } ∷ (choices_behind rest s).groups) now)
      × AreSame (now ++ whole) (each_after (one_of false ranges) (choices_behind rest s).current)
  letters_behind (last m j rest e) s =
      let t = choices_behind rest s in (
        each_after m t.current,
        [],
        (letter_single sep m e).itself (record { after = t.current; found = [] } ∷ t.groups) t.current,
        subst (λ z. AreSame z (each_after (one_of false (letters_of m)) t.current)) (sym (append-nil (each_after m t.current))) (as_class m e t.current),
      )
  letters_behind (more {ms = ms} {ranges = ranges} {rest = rest} m e r) s =
      let t = choices_behind rest s in
      let h = letters_behind r s in (
        each_after m t.current,
        h.0 ++ h.1,
        ap (λ z. choices_before m (choices_before comma z)) h.2 ∙ (letter_single sep m e).itself (record { after = t.current; found = h.0 ++ h.1 } ∷ t.groups) t.current,
        same_over (each_after m t.current ++ (h.0 ++ h.1)) (each_after m t.current ++ each_after (one_of false ranges) t.current) (each_after (one_of false (letters_of m ++ ranges)) t.current)
            (same_both (each_after m t.current) (h.0 ++ h.1) (each_after m t.current) (each_after (one_of false ranges) t.current) (themselves (each_after m t.current)) h.3)
            (with_class m e ranges t.current),
      )

  merged_behind : (marks merged : List Mark) → AreMerged sep marks merged → IsSame (choices_behind marks at_end) (choices_behind merged at_end)
  merged_behind marks [] r = subst (λ z. IsSame (choices_behind z at_end) at_end) (sym r) (record { groups = tt; current = themselves ([] ∷ []) })
  merged_behind [] (n ∷ ns) r = absurd r.1
  merged_behind (m ∷ ms) (n ∷ ns) r = by_first (merged_behind r.0 ns r.2) r.1
    where
      by_first : IsSame (choices_behind r.0 at_end) (choices_behind ns at_end) → ((n ≡ m) × (r.0 ≡ ms)) ⊎ ((index : ℕ) × (ranges : List Range) × (m ≡ opens index) × (n ≡ one_of false ranges) × AreLetters sep ms ranges r.0) → IsSame (choices_behind (m ∷ ms) at_end) (choices_behind (n ∷ ns) at_end)
      by_first later (inl h) =
          let same = subst (λ z. IsSame (choices_behind z at_end) (choices_behind ns at_end)) h.1 later in
          let s = choices_behind ms at_end in
          let t = choices_behind ns at_end in
          subst (λ z. IsSame (choices_before m s) (choices_before z t)) (sym h.0) (before_same m s.groups t.groups s.current t.current same.groups same.current)
      by_first later (inr h) =
          let class = one_of false h.1 in
          let s = choices_behind r.0 at_end in
          let t = choices_behind ns at_end in
          let l = letters_behind h.4 at_end in
          let same : IsSame (state s.groups (l.0 ++ l.1)) (choices_before class t) = record {
            groups = later.groups;
            current = same_over (l.0 ++ l.1) (each_after class s.current) (each_after class t.current) l.3 (same_each class s.current t.current later.current);
          } in
          subst (λ z. IsSame (choices_before z (choices_behind ms at_end)) (choices_before n t)) (sym h.2)
          (subst (λ z. IsSame (choices_before (opens h.0) z) (choices_before n t)) (sym l.2)
          (subst (λ z. IsSame (state s.groups (l.0 ++ l.1)) (choices_before z t)) (sym h.3) same))

-- what marks are written out as matches what it does once they are merged
pub merged_alike : (p : Options) (o : Separators) (marks merged : List Mark) → p.separators ≡ o → AreMerged o marks merged → (path : List ℕ) → MatchesWrittenOut p (choices_behind marks at_end).current path ↔ MatchesWrittenOut p (choices_behind merged at_end).current path
merged_alike p o marks merged e h path =
    let both = (merged_behind p marks merged (subst (λ z. AreMerged z marks merged) (sym e) h)).current [] path in (
      λ k. subst (λ z. MatchesWrittenOut p z path) (map_itself (choices_behind merged at_end).current) (both.0 (subst (λ z. MatchesWrittenOut p z path) (sym (map_itself (choices_behind marks at_end).current)) k)),
      λ k. subst (λ z. MatchesWrittenOut p z path) (map_itself (choices_behind marks at_end).current) (both.1 (subst (λ z. MatchesWrittenOut p z path) (sym (map_itself (choices_behind merged at_end).current)) k)),
    )
