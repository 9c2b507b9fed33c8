-- A text has one meaning: the lists of choices that it is written out as match the same paths, and where case matters they are one list.
use Rattle.std.proofs.Common.{◌≡◌, ◌⊎◌, ◌↔◌, inl, inr, ⊎_elim, ℕ, Bool, true, false, cond, ◌&&◌, List, [], ◌∷◌, ◌++◌, map, refl, sym, ap, ◌∙◌, subst, IsTrue}
use Rattle.std.specs.Prelude.{not}
use Rattle.std.specs.List.{slice_split, onto_first}
use Rattle.wildcards.specs.declared.options.Options.{Options}
use Rattle.wildcards.specs.declared.range.Range.{Range}
use Rattle.wildcards.specs.declared.separators.Separators.{Separators}
use Rattle.wildcards.specs.ClassName.{range}
use Rattle.wildcards.specs.Components.{components}
use Rattle.wildcards.specs.Match.{TakesComponent, TakesLetter}
use Rattle.wildcards.specs.Ranges.{is_in, permits}
use Rattle.wildcards.specs.Reading.{LetterLaws}
use Rattle.glob_text.specs.declared.syntax.Syntax.{Syntax}
use Rattle.glob_text.specs.Alternatives.{each, product, Level, sequence, alternatives, is_itself, StandFor, nothing, one, group, first, next}
use Rattle.glob_text.specs.Folded.{AreCased, AreFolded, IsFolded, IsFoldedLetter}
use Rattle.glob_text.specs.Marks.{Mark, literal, any, star, one_of, opens, comma, closes, AreMarks}
use Rattle.glob_text.specs.Meaning.{FitsMark, FitsMarks, MatchesMarks, MatchesWrittenOut, are_some, begins_dotted, mark_piece, part_pieces}
use Rattle.glob_text.specs.Parts.{ends_deep, ends_part, is_deep, is_doubled, is_separator, is_star}
use Rattle.wildcards.specs.Groups.{group as grouped}
use Rattle.glob_text.specs.Texts.{AreWrittenOut}
use Rattle.glob_text.proofs.lemmas.Backwards.{one_list}
use Rattle.glob_text.proofs.lemmas.Meanings.{AreAlike, alike, both_alike}
use Rattle.glob_text.proofs.lemmas.OneReading.{marks_once, symbols_once}

-- elements are the same in some way, one by one
module _ {X : Type 0} (R : X → X → Type 0) where
  abbrev pub Pairwise : List X → List X → Type 0
  Pairwise [] [] = Unit {0}
  Pairwise [] (y ∷ ys) = ⊥
  Pairwise (x ∷ xs) [] = ⊥
  Pairwise (x ∷ xs) (y ∷ ys) = R x y × Pairwise xs ys

  both_pairs : (xs ys us vs : List X) → Pairwise xs ys → Pairwise us vs → Pairwise (xs ++ us) (ys ++ vs)
  both_pairs [] [] us vs h k = k
  both_pairs [] (y ∷ ys) us vs h k = absurd h
  both_pairs (x ∷ xs) [] us vs h k = absurd h
  both_pairs (x ∷ xs) (y ∷ ys) us vs h k = (h.0, both_pairs xs ys us vs h.1 k)

  -- two joined lists and another: it is joined of two as well
  record IsCut (us vs ns : List X) : Type 0 where
    front : List X
    back : List X
    joined : ns ≡ front ++ back
    front_same : Pairwise us front
    back_same : Pairwise vs back

  cut : (us vs ns : List X) → Pairwise (us ++ vs) ns → IsCut us vs ns
  cut [] vs ns h = record { front = []; back = ns; joined = refl; front_same = tt; back_same = h }
  cut (u ∷ us) vs [] h = absurd h
  cut (u ∷ us) vs (n ∷ ns) h =
      let k = cut us vs ns h.1 in
      record { front = n ∷ k.front; back = k.back; joined = ap (λ z. n ∷ z) k.joined; front_same = (h.0, k.front_same); back_same = k.back_same }

-- two classes of the same letters
pub record IsSameClass (m n : Mark) : Type 0 where
  pub negated : Bool
  pub own : List Range
  pub other : List Range
  pub is_own : m ≡ one_of negated own
  pub is_other : n ≡ one_of negated other
  pub letters_same : (letter : ℕ) → is_in own letter ≡ is_in other letter

-- the marks are one, or classes of the same letters
abbrev pub IsSame : Mark → Mark → Type 0
IsSame m n = (m ≡ n) ⊎ IsSameClass m n

abbrev pub AreSame : List Mark → List Mark → Type 0
AreSame ms ns = Pairwise IsSame ms ns

abbrev pub ChoicesSame : List (List Mark) → List (List Mark) → Type 0
ChoicesSame cs ds = Pairwise AreSame cs ds

themselves : (ms : List Mark) → AreSame ms ms
themselves [] = tt
themselves (m ∷ ms) = (inl refl, themselves ms)

-- what doesn't look at the ranges of a class
same_by : {T : Type 0} (f : Mark → T) → ((negated : Bool) (own other : List Range) → f (one_of negated own) ≡ f (one_of negated other)) → (m n : Mark) → IsSame m n → f m ≡ f n
same_by f e m n (inl h) = ap f h
same_by f e m n (inr h) = ap f h.is_own ∙ e h.negated h.own h.other ∙ sym (ap f h.is_other)

same_opens : (i : ℕ) (n : Mark) → IsSame (opens i) n → n ≡ opens i
same_opens i n (inl h) = sym h
same_opens i n (inr h) = let never : opens i ≡ one_of h.negated h.own = h.is_own in absurd cc

same_closes : (i : ℕ) (n : Mark) → IsSame (closes i) n → n ≡ closes i
same_closes i n (inl h) = sym h
same_closes i n (inr h) = let never : closes i ≡ one_of h.negated h.own = h.is_own in absurd cc

same_comma : (n : Mark) → IsSame comma n → n ≡ comma
same_comma n (inl h) = sym h
same_comma n (inr h) = let never : comma ≡ one_of h.negated h.own = h.is_own in absurd cc

-- marks that are the same are written out as choices that are
each_same : (cs ds : List (List Mark)) (m n : Mark) → ChoicesSame cs ds → IsSame m n → ChoicesSame (each cs m) (each ds n)
each_same [] [] m n h k = tt
each_same [] (d ∷ ds) m n h k = absurd h
each_same (c ∷ cs) [] m n h k = absurd h
each_same (c ∷ cs) (d ∷ ds) m n h k = (both_pairs IsSame c d (m ∷ []) (n ∷ []) h.0 (k, tt), each_same cs ds m n h.1 k)

after_same : (c d : List Mark) (es fs : List (List Mark)) → AreSame c d → ChoicesSame es fs → ChoicesSame (map (λ e. c ++ e) es) (map (λ f. d ++ f) fs)
after_same c d [] [] h k = tt
after_same c d [] (f ∷ fs) h k = absurd k
after_same c d (e ∷ es) [] h k = absurd k
after_same c d (e ∷ es) (f ∷ fs) h k = (both_pairs IsSame c d e f h k.0, after_same c d es fs h k.1)

product_same : (cs ds es fs : List (List Mark)) → ChoicesSame cs ds → ChoicesSame es fs → ChoicesSame (product cs es) (product ds fs)
product_same [] [] es fs h k = tt
product_same [] (d ∷ ds) es fs h k = absurd h
product_same (c ∷ cs) [] es fs h k = absurd h
product_same (c ∷ cs) (d ∷ ds) es fs h k =
    both_pairs AreSame (map (λ e. c ++ e) es) (map (λ f. d ++ f) fs) (product cs es) (product ds fs) (after_same c d es fs h.0 k) (product_same cs ds es fs h.1 k)

alone : (m : Mark) (ns : List Mark) → AreSame (m ∷ []) ns → (n : Mark) × (ns ≡ n ∷ []) × IsSame m n
alone m [] h = absurd h
alone m (n ∷ []) h = (n, refl, h.0)
alone m (n ∷ k ∷ ns) h = absurd h.1

after_opens : (i : ℕ) (ms ns : List Mark) → AreSame (opens i ∷ ms) ns → (rest : List Mark) × (ns ≡ opens i ∷ rest) × AreSame ms rest
after_opens i ms [] h = absurd h
after_opens i ms (n ∷ ns) h = (ns, ap (λ z. z ∷ ns) (same_opens i n h.0), h.1)

after_comma : (ms ns : List Mark) → AreSame (comma ∷ ms) ns → (rest : List Mark) × (ns ≡ comma ∷ rest) × AreSame ms rest
after_comma ms [] h = absurd h
after_comma ms (n ∷ ns) h = (ns, ap (λ z. z ∷ ns) (same_comma n h.0), h.1)

pub record IsWrittenAlike (level : Level) (ns : List Mark) (cs : List (List Mark)) : Type 0 where
  pub choices : List (List Mark)
  pub are : StandFor level ns choices
  pub same : ChoicesSame cs choices

abbrev pub GoesOver : Level → List Mark → List (List Mark) → Type 0
GoesOver level ms cs = (ns : List Mark) → AreSame ms ns → IsWrittenAlike level ns cs

nothing_over : (inside : Bool) (ns : List Mark) → AreSame [] ns → IsWrittenAlike (sequence inside) ns ([] ∷ [])
nothing_over inside [] h = record { choices = [] ∷ []; are = nothing; same = (tt, tt) }
nothing_over inside (n ∷ ns) h = absurd h

pub over : {level : Level} {ms : List Mark} {cs : List (List Mark)} → StandFor level ms cs → GoesOver level ms cs
over (nothing {inside = inside}) = λ ns h. nothing_over inside ns h
over (one {inside = inside} {ms = ms} {cs = cs} m e r) = λ all h.
    let k = cut IsSame ms (m ∷ []) all h in
    let l = alone m k.back k.back_same in
    let w = over r k.front k.front_same in
    record {
      choices = each w.choices l.0;
      are = subst (λ z. StandFor (sequence inside) z (each w.choices l.0)) (sym (k.joined ∙ ap (λ z. k.front ++ z) l.1)) (one l.0 (sym (same_by (is_itself inside) (λ a b c. refl) m l.0 l.2) ∙ e) w.are);
      same = each_same cs w.choices m l.0 w.same l.2;
    }
over (group {inside = inside} {ms = ms} {ns = ns} {cs = cs} {ds = ds} i j r a) = λ all h.
    let k = cut IsSame ms (opens i ∷ (ns ++ closes j ∷ [])) all h in
    let b = after_opens i (ns ++ closes j ∷ []) k.back k.back_same in
    let c = cut IsSame ns (closes j ∷ []) b.0 b.2 in
    let l = alone (closes j) c.back c.back_same in
    let w = over r k.front k.front_same in
    let v = over a c.front c.front_same in
    let inner : b.0 ≡ c.front ++ closes j ∷ [] = c.joined ∙ ap (λ z. c.front ++ z) (l.1 ∙ ap (λ z. z ∷ []) (same_closes j l.0 l.2)) in
    record {
      choices = product w.choices v.choices;
      are = subst (λ z. StandFor (sequence inside) z (product w.choices v.choices)) (sym (k.joined ∙ ap (λ z. k.front ++ z) (b.1 ∙ ap (λ z. opens i ∷ z) inner))) (group i j w.are v.are);
      same = product_same cs w.choices ds v.choices w.same v.same;
    }
over (first r) = λ all h.
    let w = over r all h in
    record { choices = w.choices; are = first w.are; same = w.same }
over (next {ms = ms} {ns = ns} {cs = cs} {ds = ds} r a) = λ all h.
    let k = cut IsSame ms (comma ∷ ns) all h in
    let b = after_comma ns k.back k.back_same in
    let w = over r k.front k.front_same in
    let v = over a b.0 b.2 in
    record {
      choices = w.choices ++ v.choices;
      are = subst (λ z. StandFor alternatives z (w.choices ++ v.choices)) (sym (k.joined ∙ ap (λ z. k.front ++ z) b.1)) (next w.are v.are);
      same = both_pairs AreSame cs w.choices ds v.choices w.same v.same;
    }

-- and they match the same letters
permits_same : (negated : Bool) (own other : List Range) → ((letter : ℕ) → is_in own letter ≡ is_in other letter) → (letter : ℕ) → permits negated own letter ≡ permits negated other letter
permits_same false own other h letter = h letter
permits_same true own other h letter = ap not (h letter)

abbrev FitsSame : Mark → Mark → Type 0
FitsSame m n = (letter : ℕ) → FitsMark m letter ↔ FitsMark n letter

abbrev PieceSame : Mark → Mark → Type 0
PieceSame m n = AreAlike FitsSame (mark_piece m ∷ []) (mark_piece n ∷ [])

own_piece : (m : Mark) → PieceSame m m
own_piece (literal own) = (λ letter. (λ k. k, λ k. k), tt)
own_piece any = (λ letter. (λ k. k, λ k. k), tt)
own_piece (star again) = tt
own_piece (one_of negated ranges) = (λ letter. (λ k. k, λ k. k), tt)
own_piece (opens index) = (λ letter. (λ k. k, λ k. k), tt)
own_piece comma = (λ letter. (λ k. k, λ k. k), tt)
own_piece (closes index) = (λ letter. (λ k. k, λ k. k), tt)

class_piece : (negated : Bool) (own other : List Range) → ((letter : ℕ) → is_in own letter ≡ is_in other letter) → PieceSame (one_of negated own) (one_of negated other)
class_piece negated own other h = (λ letter. (λ k. subst IsTrue (permits_same negated own other h letter) k, λ k. subst IsTrue (sym (permits_same negated own other h letter)) k), tt)

piece_same : (m n : Mark) → IsSame m n → PieceSame m n
piece_same m n (inl h) = subst (PieceSame m) h (own_piece m)
piece_same m n (inr h) =
    subst (λ z. PieceSame z n) (sym h.is_own) (subst (PieceSame (one_of h.negated h.own)) (sym h.is_other) (class_piece h.negated h.own h.other h.letters_same))

pieces_same : (ms ns : List Mark) → AreSame ms ns → AreAlike FitsSame (map mark_piece ms) (map mark_piece ns)
pieces_same [] [] h = tt
pieces_same [] (n ∷ ns) h = absurd h
pieces_same (m ∷ ms) [] h = absurd h
pieces_same (m ∷ ms) (n ∷ ns) h = both_alike FitsSame (mark_piece m ∷ []) (map mark_piece ms) (mark_piece n ∷ []) (map mark_piece ns) (piece_same m n h.0) (pieces_same ms ns h.1)

dotted_first : (n : Mark) (ms ns : List Mark) → begins_dotted (n ∷ ms) ≡ begins_dotted (n ∷ ns)
dotted_first (literal own) ms ns = refl
dotted_first any ms ns = refl
dotted_first (star again) ms ns = refl
dotted_first (one_of negated ranges) ms ns = refl
dotted_first (opens index) ms ns = refl
dotted_first comma ms ns = refl
dotted_first (closes index) ms ns = refl

dotted_same : (ms ns : List Mark) → AreSame ms ns → begins_dotted ms ≡ begins_dotted ns
dotted_same [] [] h = refl
dotted_same [] (n ∷ ns) h = absurd h
dotted_same (m ∷ ms) [] h = absurd h
dotted_same (m ∷ ms) (n ∷ ns) h = same_by (λ z. begins_dotted (z ∷ ms)) (λ a b c. refl) m n h.0 ∙ dotted_first n ms ns

abbrev PartSame : Bool → List Mark → List Mark → Type 0
PartSame dot p q = (component : List ℕ) → FitsMarks dot p component ↔ FitsMarks dot q component

part_same : (dot : Bool) (p q : List Mark) → AreSame p q → PartSame dot p q
part_same dot p q h component =
    let d = dotted_same p q h in
    let w = alike FitsSame TakesLetter FitsMark FitsMark (λ x y r. r) (map mark_piece p) (map mark_piece q) (pieces_same p q h) component in (
      λ m. (w.0 m.0, λ k. sym d ∙ m.1 k),
      λ m. (w.1 m.0, λ k. d ∙ m.1 k),
    )

module _ (o : Separators) where
  onto_same : (m n : Mark) (ps qs : List (List Mark)) → IsSame m n → ChoicesSame ps qs → ChoicesSame (onto_first m ps) (onto_first n qs)
  onto_same m n [] [] h k = ((h, tt), tt)
  onto_same m n [] (q ∷ qs) h k = absurd k
  onto_same m n (p ∷ ps) [] h k = absurd k
  onto_same m n (p ∷ ps) (q ∷ qs) h k = ((h, k.0), k.1)

  cut_same : (m n : Mark) (b c : Bool) (ps qs : List (List Mark)) → b ≡ c → IsSame m n → ChoicesSame ps qs → ChoicesSame (cond b ([] ∷ ps) (onto_first m ps)) (cond c ([] ∷ qs) (onto_first n qs))
  cut_same m n true true ps qs e h k = (tt, k)
  cut_same m n true false ps qs e h k = absurd cc
  cut_same m n false true ps qs e h k = absurd cc
  cut_same m n false false ps qs e h k = onto_same m n ps qs h k

  split_same : (ms ns : List Mark) → AreSame ms ns → ChoicesSame (slice_split (is_separator o) ms) (slice_split (is_separator o) ns)
  split_same [] [] h = (tt, tt)
  split_same [] (n ∷ ns) h = absurd h
  split_same (m ∷ ms) [] h = absurd h
  split_same (m ∷ ms) (n ∷ ns) h = cut_same m n (is_separator o m) (is_separator o n) _ _ (same_by (is_separator o) (λ a b c. refl) m n h.0) h.0 (split_same ms ns h.1)

  ends_same : (ms ns : List Mark) → AreSame ms ns → ends_part o ms ≡ ends_part o ns
  ends_same [] [] h = refl
  ends_same [] (n ∷ ns) h = absurd h
  ends_same (m ∷ ms) [] h = absurd h
  ends_same (m ∷ ms) (n ∷ ns) h = same_by (is_separator o) (λ a b c. refl) m n h.0

  second_same : (ms ns : List Mark) → AreSame ms ns → ends_deep o ms ≡ ends_deep o ns
  second_same [] [] h = refl
  second_same [] (n ∷ ns) h = absurd h
  second_same (m ∷ ms) [] h = absurd h
  second_same (m ∷ ms) (n ∷ ns) h = ap (λ z. z && ends_part o ms) (same_by is_star (λ a b c. refl) m n h.0) ∙ ap (λ z. is_star n && z) (ends_same ms ns h.1)

  deep_same : (ms ns : List Mark) → AreSame ms ns → is_deep o ms ≡ is_deep o ns
  deep_same [] [] h = refl
  deep_same [] (n ∷ ns) h = absurd h
  deep_same (m ∷ ms) [] h = absurd h
  deep_same (m ∷ ms) (n ∷ ns) h = ap (λ z. z && ends_deep o ms) (same_by is_doubled (λ a b c. refl) m n h.0) ∙ ap (λ z. is_doubled n && z) (second_same ms ns h.1)

  some_same : (ps qs : List (List Mark)) → ChoicesSame ps qs → are_some ps ≡ are_some qs
  some_same [] [] h = refl
  some_same [] (q ∷ qs) h = absurd h
  some_same (p ∷ ps) [] h = absurd h
  some_same (p ∷ ps) (q ∷ qs) h = refl

  group_same : (dot deep joined : Bool) (p q : List Mark) → PartSame dot p q → AreAlike (PartSame dot) (grouped deep joined p) (grouped deep joined q)
  group_same dot false joined p q h = (h, tt)
  group_same dot true true p q h = tt
  group_same dot true false p q h = (h, tt)

  parts_same : (dot : Bool) (ps qs : List (List Mark)) → ChoicesSame ps qs → AreAlike (PartSame dot) (part_pieces o ps) (part_pieces o qs)
  parts_same dot [] [] h = tt
  parts_same dot [] (q ∷ qs) h = absurd h
  parts_same dot (p ∷ ps) [] h = absurd h
  parts_same dot (p ∷ ps) (q ∷ qs) h =
      let same = group_same dot (is_deep o p) (are_some ps) p q (part_same dot p q h.0) in
      let own = grouped (is_deep o p) (are_some ps) p in
      both_alike (PartSame dot) own (part_pieces o ps) (grouped (is_deep o q) (are_some qs) q) (part_pieces o qs)
      (subst (λ z. AreAlike (PartSame dot) own (grouped (is_deep o q) z q)) (some_same ps qs h.1) (subst (λ z. AreAlike (PartSame dot) own (grouped z (are_some ps) q)) (deep_same p q h.0) same))
      (parts_same dot ps qs h.1)

-- so choices that are the same match the same paths
marks_same : (o : Options) (ms ns : List Mark) (path : List ℕ) → AreSame ms ns → MatchesMarks o ms path ↔ MatchesMarks o ns path
marks_same o ms ns path h =
    let dot = o.literal_leading_dot in
    let s = o.separators in
    alike (PartSame dot) (TakesComponent dot) (FitsMarks dot) (FitsMarks dot) (λ x y r. r) (part_pieces s (slice_split (is_separator s) ms)) (part_pieces s (slice_split (is_separator s) ns))
    (parts_same s dot (slice_split (is_separator s) ms) (slice_split (is_separator s) ns) (split_same s ms ns h)) (components s path)

written_same : (o : Options) (cs ds : List (List Mark)) (path : List ℕ) → ChoicesSame cs ds → MatchesWrittenOut o cs path ↔ MatchesWrittenOut o ds path
written_same o [] [] path h = (λ k. k, λ k. k)
written_same o [] (d ∷ ds) path h = absurd h
written_same o (c ∷ cs) [] path h = absurd h
written_same o (c ∷ cs) (d ∷ ds) path h =
    let own = marks_same o c d path h.0 in
    let others = written_same o cs ds path h.1 in (
      λ k. ⊎_elim (λ m. inl (own.0 m)) (λ m. inr (others.0 m)) k,
      λ k. ⊎_elim (λ m. inl (own.1 m)) (λ m. inr (others.1 m)) k,
    )

-- marks without case are the same
both_or_none : (b c : Bool) → (b ≡ true → c ≡ true) → (c ≡ true → b ≡ true) → b ≡ c
both_or_none true true f g = refl
both_or_none true false f g = sym (f refl)
both_or_none false true f g = g refl
both_or_none false false f g = refl

fold_same : (ranges own other : List Range) → AreFolded ranges own → AreFolded ranges other → (letter : ℕ) → is_in own letter ≡ is_in other letter
fold_same ranges own other f g letter = both_or_none (is_in own letter) (is_in other letter) (λ e. g.complete letter (f.sound letter e)) (λ e. f.complete letter (g.sound letter e))

letter_same : (l : ℕ) (c d : Mark) → IsFoldedLetter l c → IsFoldedLetter l d → IsSame c d
letter_same l c d (inl f) (inl g) = inl (f.1 ∙ sym g.1)
letter_same l c d (inl f) (inr g) = absurd (g.0 f.0)
letter_same l c d (inr f) (inl g) = absurd (f.0 g.0)
letter_same l c d (inr f) (inr g) =
    inr (record { negated = false; own = f.1.0; other = g.1.0; is_own = f.1.1.0; is_other = g.1.1.0; letters_same = fold_same (range l l ∷ []) f.1.0 g.1.0 f.1.1.1 g.1.1.1 })

folded_same : (m c d : Mark) → IsFolded m c → IsFolded m d → IsSame c d
folded_same (literal l) c d f g = letter_same l c d f g
folded_same any c d f g = inl (f ∙ sym g)
folded_same (star again) c d f g = inl (f ∙ sym g)
folded_same (one_of negated ranges) c d f g =
    inr (record { negated = negated; own = f.0; other = g.0; is_own = f.1.0; is_other = g.1.0; letters_same = fold_same ranges f.0 g.0 f.1.1 g.1.1 })
folded_same (opens index) c d f g = inl (f ∙ sym g)
folded_same comma c d f g = inl (f ∙ sym g)
folded_same (closes index) c d f g = inl (f ∙ sym g)

pub cased_same : (b : Bool) (ms cs ds : List Mark) → AreCased b ms cs → AreCased b ms ds → AreSame cs ds
cased_same false ms cs ds f g = subst (AreSame cs) (f ∙ sym g) (themselves cs)
cased_same true [] [] [] f g = tt
cased_same true [] [] (d ∷ ds) f g = absurd g
cased_same true [] (c ∷ cs) ds f g = absurd f
cased_same true (m ∷ ms) [] ds f g = absurd f
cased_same true (m ∷ ms) (c ∷ cs) [] f g = absurd g
cased_same true (m ∷ ms) (c ∷ cs) (d ∷ ds) f g = (folded_same m c d f.0 g.0, cased_same true ms cs ds f.1 g.1)

one_case : (b : Bool) (ms cs ds : List Mark) → b ≡ false → AreCased b ms cs → AreCased b ms ds → cs ≡ ds
one_case false ms cs ds e f g = f ∙ sym g
one_case true ms cs ds e f g = absurd cc

module _ (formed : List ℕ → Type 0) (letters : List ℕ → List ℕ) (laws : LetterLaws formed letters) where
  module _ (o : Syntax) (text : List ℕ) (cs ds : List (List Mark)) (f : AreWrittenOut formed letters o text cs) (g : AreWrittenOut formed letters o text ds) where
    one_reading : f.marks ≡ g.marks
    one_reading = marks_once o g.symbols f.marks g.marks (subst (λ z. AreMarks o z f.marks) (symbols_once formed letters laws text f.symbols g.symbols f.read g.read) f.marks_are) g.marks_are

    pub one_meaning : (p : Options) (path : List ℕ) → MatchesWrittenOut p cs path ↔ MatchesWrittenOut p ds path
    one_meaning p path =
        let same = cased_same o.case_insensitive g.marks f.cased g.cased (subst (λ z. AreCased o.case_insensitive z f.cased) one_reading f.are_cased) g.are_cased in
        let w = over f.are g.cased same in
        written_same p cs ds path (subst (ChoicesSame cs) (one_list g.cased w.choices ds w.are g.are) w.same)

    pub one_list_with_case : o.case_insensitive ≡ false → cs ≡ ds
    one_list_with_case e =
        let same = one_case o.case_insensitive g.marks f.cased g.cased e (subst (λ z. AreCased o.case_insensitive z f.cased) one_reading f.are_cased) g.are_cased in
        one_list g.cased cs ds (subst (λ z. StandFor (sequence false) z cs) same f.are) g.are
