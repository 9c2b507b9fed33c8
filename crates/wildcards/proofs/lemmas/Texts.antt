-- A part that is a text matches no component of a path that has the text nowhere.
use Rattle.std.proofs.Common.{◌≡◌, ◌⊎◌, inl, inr, ◌<◌, ◌+◌, ℕ, zero, suc, false, true, List, [], ◌∷◌, ◌++◌, length, take, refl, sym, ap, ◌∙◌, subst, arith, append_assoc, append-nil, length-append}
use Rattle.std.specs.List.{AllByRecursion}
use Rattle.std.proofs.lemmas.List.{take_at, drop_at}
use Rattle.std.proofs.lemmas.List.Elements.{All-from_recursion}
use Rattle.memchr.specs.Find.{Nowhere, OccursAt}
use Rattle.memchr.proofs.lemmas.MatchLemmas.{OccursAt-from_part}
use Rattle.wildcards.specs.declared.options.Options.{Options}
use Rattle.wildcards.specs.declared.part.Part.{Part}
use Rattle.wildcards.specs.declared.piece.Piece.{Piece}
use Rattle.wildcards.specs.declared.piece.Piece.TheVariants.{Many, One}
use Rattle.wildcards.specs.declared.separators.Separators.{Separators}
use Rattle.wildcards.specs.Components.{separates, components}
use Rattle.wildcards.specs.Literals.{spells}
use Rattle.wildcards.specs.Match.{MatchesParts}
use Rattle.wildcards.specs.Reading.{LetterLaws}
use Rattle.wildcards.proofs.lemmas.Literals.{only_text, spelled_ascii}
use Rattle.wildcards.proofs.lemmas.Parts.{one_component, first_component}
use Rattle.wildcards.proofs.lemmas.Queries.{FirstCut, first_cut, begins_itself}

-- the list has the text at some place
pub record Within (s text : List ℕ) : Type 0 where
  pub front : List ℕ
  pub back : List ℕ
  pub joined : s ≡ front ++ (text ++ back)

-- a component is within its path
part_within : (o : Separators) (part : List ℕ) (n : ℕ) (s : List ℕ) (before after : List (List ℕ)) → length s < n → components o s ≡ before ++ part ∷ after → Within s part
part_within o part zero s before after l e = absurd (omega (arith, l))
part_within o part (suc n) s before after l e = by_cut (part_within o part n) (first_cut o s)
  where
    whole : (bs : List (List ℕ)) → s ∷ [] ≡ bs ++ part ∷ after → Within s part
    whole [] f = let same : s ≡ part = cc in record { front = []; back = []; joined = same ∙ sym (append-nil part) }
    whole (b ∷ bs) f = let never : [] ≡ bs ++ part ∷ after = cc in absurd (none bs never)
      where
        none : (cs : List (List ℕ)) → [] ≡ cs ++ part ∷ after → ⊥
        none [] g = let k : [] ≡ part ∷ after = g in cc
        none (c ∷ cs) g = let k : [] ≡ c ∷ (cs ++ part ∷ after) = g in cc

    onto : (h : FirstCut o s) → ((t : List ℕ) (bs cs : List (List ℕ)) → length t < n → components o t ≡ bs ++ part ∷ cs → Within t part) → (bs : List (List ℕ)) → h.part ∷ components o h.rest ≡ bs ++ part ∷ after → Within s part
    onto h again [] f =
        let same : h.part ≡ part = cc in
        record { front = []; back = h.cut.separator ∷ h.rest; joined = h.cut.joined ∙ ap (λ z. z ++ h.cut.separator ∷ h.rest) same }
    onto h again (b ∷ bs) f =
        let left : components o h.rest ≡ bs ++ part ∷ after = cc in
        let k = again h.rest bs after (omega (arith, l, ap length h.cut.joined, length-append h.part (h.cut.separator ∷ h.rest))) left in
        record {
          front = h.part ++ h.cut.separator ∷ k.front;
          back = k.back;
          joined = h.cut.joined ∙ ap (λ z. h.part ++ h.cut.separator ∷ z) k.joined ∙ sym (append_assoc h.part (h.cut.separator ∷ k.front) (part ++ k.back));
        }

    by_cut : ((t : List ℕ) (bs cs : List (List ℕ)) → length t < n → components o t ≡ bs ++ part ∷ cs → Within t part) → AllByRecursion (λ b. separates o b ≡ false) s ⊎ FirstCut o s → Within s part
    by_cut again (inl h) = whole before (sym (one_component o s (All-from_recursion (λ b. separates o b ≡ false) s h)) ∙ e)
    by_cut again (inr h) = onto h again before (sym (first_component o s h.part h.rest (h.cut, All-from_recursion (λ b. separates o b ≡ false) h.part h.plain)) ∙ e)

occurs : (s text : List ℕ) → Within s text → (at : ℕ) × OccursAt s text at
occurs s text w = (
  length w.front,
  subst (λ z. OccursAt z text (length w.front)) (sym w.joined)
      (OccursAt-from_part (w.front ++ (text ++ w.back)) text (length w.front) (omega (arith, length-append w.front (text ++ w.back), length-append text w.back))
      (ap (λ z. take (length text) z) (drop_at w.front (text ++ w.back) (length w.front) refl) ∙ take_at text w.back (length text) refl)),
)

module _ (formed : List ℕ → Type 0) (letters : List ℕ → List ℕ) (laws : LetterLaws formed letters) where
  -- a text of ASCII within letters is within their bytes
  bytes_within : (o : Separators) (path text : List ℕ) → formed path → AllByRecursion (λ b. b < 0x80) text → Within (letters path) text → Within path text
  bytes_within o path [] f ascii w = record { front = []; back = path; joined = refl }
  bytes_within o path (b ∷ text) f ascii w =
      let at = laws.found path w.front (text ++ w.back) b ascii.0 f w.joined in
      let both = laws.cut at.prefix at.suffix b ascii.0 (subst formed at.joined f) in
      let rest = begins_itself formed letters laws o at.suffix text w.back both.1.0 ascii.1 at.letters_after in
      record { front = at.prefix; back = rest.0; joined = at.joined ∙ ap (λ z. at.prefix ++ b ∷ z) rest.1 }

  module _ {A : Type 0} (ps rest : List (Piece (Part A))) (part : Part A) (text path : List ℕ) where
    pub never_after : ps ≡ One part ∷ rest → spells part.pieces.items text ≡ true → formed path → Nowhere (OccursAt path text) 0 (length path + 1) → (o : Options) → MatchesParts o.literal_leading_dot (Many ∷ ps) (components o.separators (letters path)) → ⊥
    never_after e is f none o m =
        let one : MatchesParts o.literal_leading_dot (One part ∷ rest) m.rest = subst (λ z. MatchesParts o.literal_leading_dot z m.rest) e m.after in
        let same : one.letter ≡ text = only_text _ part.pieces.items text one.letter is one.fits.0 in
        let parts : components o.separators (letters path) ≡ m.skipped ++ text ∷ one.rest = m.joined ∙ ap (λ z. m.skipped ++ z) (one.joined ∙ ap (λ z. z ∷ one.rest) same) in
        let within = part_within o.separators text (length (letters path) + 1) (letters path) m.skipped one.rest (omega arith) parts in
        let here = occurs path text (bytes_within o.separators path text f (spelled_ascii _ part.pieces.items text is) within) in
        let fits = here.1.fits in
        none here.0 (omega arith) (omega (arith, fits)) here.1
