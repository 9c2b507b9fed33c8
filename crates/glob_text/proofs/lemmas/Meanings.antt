-- A compiled pattern matches what the marks that it is compiled of match.
use Rattle.std.proofs.Common.{◌≡◌, ◌↔◌, inl, inr, ⊎_elim, ℕ, Bool, true, false, cond, ◌&&◌, List, [], ◌∷◌, ◌++◌, map, Option, Some, None, refl, sym, ap, ◌∙◌, subst, append-nil, IsTrue}
use Rattle.std.specs.List.{AllByRecursion, slice_split, onto_first}
use Rattle.std.specs.Option.{is_some}
use Rattle.std.proofs.lemmas.List.Elements.{All-from_recursion}
use Rattle.std.proofs.lemmas.List.Splits.{slice_split_none, slice_split_at}
use Rattle.wildcards.specs.declared.options.Options.{Options}
use Rattle.wildcards.specs.declared.part.Part.{Part}
use Rattle.wildcards.specs.declared.pattern.Choice.{Choice}
use Rattle.wildcards.specs.declared.piece.Item.{Item}
use Rattle.wildcards.specs.declared.piece.Piece.{Piece}
use Rattle.wildcards.specs.declared.piece.Piece.TheVariants.{Many, One}
use Rattle.wildcards.specs.declared.separators.Separators.{Separators}
use Rattle.wildcards.specs.Components.{components}
use Rattle.wildcards.specs.Match.{Fits, FitsComponent, Matches, TakesComponent, TakesLetter, begins_with_dot}
use Rattle.wildcards.specs.Sets.{MatchesChoice}
use Rattle.wildcards.specs.Wild.{Wild}
use Rattle.glob_text.specs.Marks.{Mark, literal, any, star, one_of, opens, comma, closes}
use Rattle.glob_text.specs.Meaning.{FitsMark, FitsMarks, MatchesMarks, MatchesWrittenOut, are_some, begins_dotted, mark_piece, part_pieces}
use Rattle.glob_text.specs.Parts.{AreCompiled, EndsPart, IsCompiled, IsPiece, IsPieceOf, NextGroup, ends_deep, ends_part, is_deep, is_doubled, is_separator, is_star}
use Rattle.wildcards.specs.Groups.{group}
use Rattle.wildcards.specs.Items.{Reads, concat_of}

-- pieces that are alike, one after the other
module _ {X Y : Type 0} (R : X → Y → Type 0) where
  abbrev pub AreAlike : List (Piece X) → List (Piece Y) → Type 0
  AreAlike [] [] = Unit {0}
  AreAlike [] (q ∷ qs) = ⊥
  AreAlike (Many ∷ ps) [] = ⊥
  AreAlike (Many ∷ ps) (Many ∷ qs) = AreAlike ps qs
  AreAlike (Many ∷ ps) (One y ∷ qs) = ⊥
  AreAlike (One x ∷ ps) [] = ⊥
  AreAlike (One x ∷ ps) (Many ∷ qs) = ⊥
  AreAlike (One x ∷ ps) (One y ∷ qs) = R x y × AreAlike ps qs

  pub both_alike : (ps ms : List (Piece X)) (qs ns : List (Piece Y)) → AreAlike ps qs → AreAlike ms ns → AreAlike (ps ++ ms) (qs ++ ns)
  both_alike [] ms [] ns h k = k
  both_alike [] ms (q ∷ qs) ns h k = absurd h
  both_alike (Many ∷ ps) ms [] ns h k = absurd h
  both_alike (Many ∷ ps) ms (Many ∷ qs) ns h k = both_alike ps ms qs ns h k
  both_alike (Many ∷ ps) ms (One y ∷ qs) ns h k = absurd h
  both_alike (One x ∷ ps) ms [] ns h k = absurd h
  both_alike (One x ∷ ps) ms (Many ∷ qs) ns h k = absurd h
  both_alike (One x ∷ ps) ms (One y ∷ qs) ns h k = (h.0, both_alike ps ms qs ns h.1 k)

  module _ {A : Type 0} (T : A → Type 0) (F : X → A → Type 0) (G : Y → A → Type 0) (same : (x : X) (y : Y) → R x y → (a : A) → F x a ↔ G y a) where
    pub alike : (ps : List (Piece X)) (qs : List (Piece Y)) → AreAlike ps qs → (ls : List A) → Wild T F ps ls ↔ Wild T G qs ls
    alike [] [] h ls = (λ e. e, λ e. e)
    alike [] (q ∷ qs) h ls = absurd h
    alike (Many ∷ ps) [] h ls = absurd h
    alike (Many ∷ ps) (Many ∷ qs) h ls = (
      λ m. record { skipped = m.skipped; rest = m.rest; joined = m.joined; taken = m.taken; after = (alike ps qs h m.rest).0 m.after },
      λ m. record { skipped = m.skipped; rest = m.rest; joined = m.joined; taken = m.taken; after = (alike ps qs h m.rest).1 m.after },
    )
    alike (Many ∷ ps) (One y ∷ qs) h ls = absurd h
    alike (One x ∷ ps) [] h ls = absurd h
    alike (One x ∷ ps) (Many ∷ qs) h ls = absurd h
    alike (One x ∷ ps) (One y ∷ qs) h ls = (
      λ m. record { letter = m.letter; rest = m.rest; joined = m.joined; fits = (same x y h.0 m.letter).0 m.fits; after = (alike ps qs h.1 m.rest).0 m.after },
      λ m. record { letter = m.letter; rest = m.rest; joined = m.joined; fits = (same x y h.0 m.letter).1 m.fits; after = (alike ps qs h.1 m.rest).1 m.after },
    )

module _ (o : Separators) where
  separator_alone : (s : Mark) → is_separator o s ≡ true → (is_doubled s ≡ false) × (is_star s ≡ false)
  separator_alone (literal own) e = (refl, refl)
  separator_alone any e = (refl, refl)
  separator_alone (star again) e = let never : false ≡ true = e in absurd cc
  separator_alone (one_of negated ranges) e = (refl, refl)
  separator_alone (opens index) e = (refl, refl)
  separator_alone comma e = (refl, refl)
  separator_alone (closes index) e = (refl, refl)

  not_deep : (left : List Mark) → ends_part o left ≡ true → is_deep o left ≡ false
  not_deep [] e = refl
  not_deep (s ∷ rest) e = ap (λ z. z && ends_deep o rest) (separator_alone s e).0

  not_ends_deep : (left : List Mark) → ends_part o left ≡ true → ends_deep o left ≡ false
  not_ends_deep [] e = refl
  not_ends_deep (s ∷ rest) e = ap (λ z. z && ends_part o rest) (separator_alone s e).1

  own_deep : (own left : List Mark) → ends_part o left ≡ true → is_deep o (own ++ left) ≡ is_deep o own
  own_deep [] left e = not_deep left e
  own_deep (m ∷ []) left e = ap (λ z. is_doubled m && z) (not_ends_deep left e)
  own_deep (m ∷ n ∷ []) left e = ap (λ z. is_doubled m && (is_star n && z)) e
  own_deep (m ∷ n ∷ k ∷ own) left e = refl

  pub some_split : (p : Mark → Bool) (xs : List Mark) → are_some (slice_split p xs) ≡ true
  some_split p [] = refl
  some_split p (x ∷ xs) = by_first (p x) (slice_split p xs) (some_split p xs)
    where
      by_first : (b : Bool) (ps : List (List Mark)) → are_some ps ≡ true → are_some (cond b ([] ∷ ps) (onto_first x ps)) ≡ true
      by_first true ps e = refl
      by_first false [] e = let never : false ≡ true = e in absurd cc
      by_first false (q ∷ ps) e = refl

  -- the parts of what is left
  abbrev left_pieces : Option (List Mark) → List (Piece (List Mark))
  left_pieces None = []
  left_pieces (Some marks) = part_pieces o (slice_split (is_separator o) marks)

  one_part : (marks own left : List Mark) (after : Option (List Mark)) → marks ≡ own ++ left → AllByRecursion (λ m. is_separator o m ≡ false) own → EndsPart o left after → left_pieces (Some marks) ≡ group (is_deep o marks) (is_some after) own ++ left_pieces after
  one_part marks own left None e p h =
      let whole : marks ≡ own = e ∙ ap (λ z. own ++ z) h ∙ append-nil own in
      rw (whole) (ap (part_pieces o) (slice_split_none (is_separator o) own (All-from_recursion (λ m. is_separator o m ≡ false) own p)))
  one_part marks own left (Some rest) e p h =
      let joined : marks ≡ own ++ h.0 ∷ rest = e ∙ ap (λ z. own ++ z) h.1 in
      ap (part_pieces o) (ap (slice_split (is_separator o)) joined ∙ slice_split_at (is_separator o) own h.0 rest (All-from_recursion (λ m. is_separator o m ≡ false) own p) h.2)
      ∙ ap (λ z. group (is_deep o own) z own ++ left_pieces (Some rest)) (some_split (is_separator o) rest)
      ∙ ap (λ z. group z true own ++ left_pieces (Some rest)) (sym (ap (is_deep o) joined ∙ own_deep own (h.0 ∷ rest) h.2))

module _ {A : Type 0} where
  -- the item matches the letters that the mark does
  abbrev FitsAlike : Item A → Mark → Type 0
  FitsAlike item mark = (letter : ℕ) → Fits item letter ↔ FitsMark mark letter

  abbrev OneAlike : Mark → Piece (Item A) → Type 0
  OneAlike m piece = AreAlike FitsAlike (piece ∷ []) (mark_piece m ∷ [])

  one_alike : (m : Mark) (piece : Piece (Item A)) → IsPieceOf m piece → OneAlike m piece
  one_alike (literal own) piece e = subst (OneAlike (literal own)) (sym e) (λ letter. (λ k. k, λ k. k), tt)
  one_alike any piece e = subst (OneAlike any) (sym e) (λ letter. (λ k. k, λ k. k), tt)
  one_alike (star again) piece e = subst (OneAlike (star again)) (sym e) tt
  one_alike (one_of negated ranges) piece h = subst (OneAlike (one_of negated ranges)) (sym h.1) (λ letter. (λ k. subst IsTrue (h.2 letter) k, λ k. subst IsTrue (sym (h.2 letter)) k), tt)
  one_alike (opens index) piece e = subst (OneAlike (opens index)) (sym e) (λ letter. (λ k. k, λ k. k), tt)
  one_alike comma piece e = subst (OneAlike comma) (sym e) (λ letter. (λ k. k, λ k. k), tt)
  one_alike (closes index) piece e = subst (OneAlike (closes index)) (sym e) (λ letter. (λ k. k, λ k. k), tt)

  abbrev DotAlike : Mark → List Mark → List (Piece (Item A)) → Piece (Item A) → Type 0
  DotAlike m ms ps piece = begins_with_dot (piece ∷ ps) ≡ begins_dotted (m ∷ ms)

  dot_alike : (m : Mark) (ms : List Mark) (piece : Piece (Item A)) (ps : List (Piece (Item A))) → IsPieceOf m piece → DotAlike m ms ps piece
  dot_alike (literal own) ms piece ps e = subst (DotAlike (literal own) ms ps) (sym e) refl
  dot_alike any ms piece ps e = subst (DotAlike any ms ps) (sym e) refl
  dot_alike (star again) ms piece ps e = subst (DotAlike (star again) ms ps) (sym e) refl
  dot_alike (one_of negated ranges) ms piece ps h = subst (DotAlike (one_of negated ranges) ms ps) (sym h.1) refl
  dot_alike (opens index) ms piece ps e = subst (DotAlike (opens index) ms ps) (sym e) refl
  dot_alike comma ms piece ps e = subst (DotAlike comma ms ps) (sym e) refl
  dot_alike (closes index) ms piece ps e = subst (DotAlike (closes index) ms ps) (sym e) refl

  module _ (o : Separators) where
    -- the marks of a part, without separators, and what is left
    record IsOwn (marks : List Mark) (pieces : List (Piece (Item A))) (left : List Mark) : Type 0 where
      own : List Mark
      joined : marks ≡ own ++ left
      plain : AllByRecursion (λ m. is_separator o m ≡ false) own
      pieces_alike : AreAlike FitsAlike pieces (map mark_piece own)
      dots_alike : begins_with_dot pieces ≡ begins_dotted own

    own_of : (marks : List Mark) (pieces : List (Piece (Item A))) (left : List Mark) → Reads (IsPiece o) marks pieces left → IsOwn marks pieces left
    own_of marks [] left r = record { own = []; joined = r; plain = tt; pieces_alike = tt; dots_alike = refl }
    own_of [] (p ∷ ps) left r = absurd r.1
    own_of (m ∷ ms) (p ∷ ps) left r =
        let i = own_of ms ps left (subst (λ z. Reads (IsPiece o) z ps left) r.1.1.1 r.2) in
        record {
          own = m ∷ i.own;
          joined = ap (λ z. m ∷ z) i.joined;
          plain = (r.1.0, i.plain);
          pieces_alike = both_alike FitsAlike (p ∷ []) ps (mark_piece m ∷ []) (map mark_piece i.own) (one_alike m p r.1.1.0) i.pieces_alike;
          dots_alike = dot_alike m i.own p ps r.1.1.0;
        }

    -- the part matches the components that the marks do
    abbrev PartAlike : Bool → Part A → List Mark → Type 0
    PartAlike dot part own = (component : List ℕ) → FitsComponent dot part component ↔ FitsMarks dot own component

    part_alike : (dot : Bool) (part : Part A) (own : List Mark) → AreAlike FitsAlike part.pieces.items (map mark_piece own) → begins_with_dot part.pieces.items ≡ begins_dotted own → PartAlike dot part own
    part_alike dot part own h d component =
        let w = alike FitsAlike TakesLetter Fits FitsMark (λ x y r. r) part.pieces.items (map mark_piece own) h component in (
          λ m. (w.0 m.0, λ k. sym d ∙ m.1 k),
          λ m. (w.1 m.0, λ k. d ∙ m.1 k),
        )

    group_alike : (dot deep joined : Bool) (part : Part A) (own : List Mark) → PartAlike dot part own → AreAlike (PartAlike dot) (group deep joined part) (group deep joined own)
    group_alike dot false joined part own h = (h, tt)
    group_alike dot true true part own h = tt
    group_alike dot true false part own h = (h, tt)

    groups_alike : (dot : Bool) (start : Option (List Mark)) (lists : List (List (Piece (Part A)))) → Reads (NextGroup o) start lists None → AreAlike (PartAlike dot) (concat_of lists) (left_pieces o start)
    groups_alike dot start [] r = subst (λ z. AreAlike (PartAlike dot) [] (left_pieces o z)) (sym r) tt
    groups_alike dot None (l ∷ ls) r = absurd r.1
    groups_alike dot (Some marks) (l ∷ ls) r =
        let g = r.1 in
        let i = own_of marks g.part.pieces.items g.read.left g.read.read in
        subst (AreAlike (PartAlike dot) (l ++ concat_of ls)) (sym (one_part o marks i.own g.read.left r.0 i.joined i.plain g.read.ends))
        (both_alike (PartAlike dot) l (concat_of ls) (group (is_deep o marks) (is_some r.0) i.own) (left_pieces o r.0)
        (subst (λ z. AreAlike (PartAlike dot) z (group (is_deep o marks) (is_some r.0) i.own)) (sym g.pieces_are) (group_alike dot (is_deep o marks) (is_some r.0) g.part i.own (part_alike dot g.part i.own i.pieces_alike i.dots_alike)))
        (groups_alike dot r.0 ls r.2))

  -- a compiled pattern
  compiled_alike : (o : Options) (marks : List Mark) (pattern : List (Piece (Part A))) (path : List ℕ) → IsCompiled o.separators marks pattern → Matches o pattern path ↔ MatchesMarks o marks path
  compiled_alike o marks pattern path h =
      let dot = o.literal_leading_dot in
      alike (PartAlike o.separators dot) (TakesComponent dot) (FitsComponent dot) (FitsMarks dot) (λ x y r. r) pattern (left_pieces o.separators (Some marks))
      (subst (λ z. AreAlike (PartAlike o.separators dot) z (left_pieces o.separators (Some marks))) (sym h.joined) (groups_alike o.separators dot (Some marks) h.lists h.read)) (components o.separators path)

  -- the choices of a pattern
  pub choices_alike : (o : Options) (cs : List (List Mark)) (ps : List (Choice A)) (path : List ℕ) → AreCompiled o.separators cs ps → MatchesChoice o ps path ↔ MatchesWrittenOut o cs path
  choices_alike o [] [] path h = (λ k. k, λ k. k)
  choices_alike o [] (p ∷ ps) path h = absurd h
  choices_alike o (c ∷ cs) [] path h = absurd h
  choices_alike o (c ∷ cs) (p ∷ ps) path h =
      let one = compiled_alike o c p.pieces.items path h.0 in
      let others = choices_alike o cs ps path h.1 in (
        λ k. ⊎_elim (λ m. inl (one.0 m)) (λ m. inr (others.0 m)) k,
        λ k. ⊎_elim (λ m. inl (one.1 m)) (λ m. inr (others.1 m)) k,
      )
