-- What a pattern matches has its keys.
use Rattle.std.proofs.Common.{◌≡◌, inl, inr, ◌<◌, Bool, true, false, ℕ, zero, suc, List, [], ◌∷◌, ◌++◌, refl, sym, ap, ◌∙◌, subst, arith, append_assoc, append-nil}
use Rattle.std.specs.List.{AllByRecursion, join_with_byte}
use Rattle.std.specs.Prelude.{Option, None, Some, IfSome}
use Rattle.std.specs.declared.vec.Vec.{Vec}
use Rattle.std.proofs.lemmas.List.Splits.{join_with_byte-slice_split}
use Rattle.std.proofs.lemmas.List.Elements.{All-from_get_or}
use Rattle.wildcards.specs.declared.options.Options.{Options}
use Rattle.wildcards.specs.declared.separators.Separators.{Separators}
use Rattle.wildcards.specs.declared.separators.Separators.TheVariants as separators
use Rattle.wildcards.specs.declared.key.Kind.{Kind}
use Rattle.wildcards.specs.declared.key.Kind.TheVariants as kind
use Rattle.wildcards.specs.declared.part.Part.{Part}
use Rattle.wildcards.specs.declared.piece.Item.{Item}
use Rattle.wildcards.specs.declared.piece.Item.TheVariants.{Literal}
use Rattle.wildcards.specs.declared.piece.Piece.{Piece}
use Rattle.wildcards.specs.declared.piece.Piece.TheVariants.{Many, One}
use Rattle.wildcards.specs.Components.{components, separates}
use Rattle.wildcards.specs.Cuts.{IsPlain}
use Rattle.wildcards.specs.Keys.{BeginsAt, HasPart, HaveSize, IsBetween, IsNeeded, EndsWith, BeginWith, AreOfPart, IsOfEnd, AreTexts, AreJoinedTexts, joins_by_slash, key_separators, slash_before}
use Rattle.wildcards.specs.Literals.{spells, spells_some}
use Rattle.wildcards.specs.Match.{Fits, TakesLetter, TakesComponent, FitsComponent, MatchesParts, Matches}
use Rattle.wildcards.specs.Wild.{Wild}
use Rattle.wildcards.proofs.lemmas.Literals.{only_text, spelled_ascii, text_first}
use Rattle.wildcards.proofs.lemmas.Parts.{first_component, one_component, split_append}
use Rattle.wildcards.proofs.lemmas.Wilds.{rest_matches}

-- the texts that are left, each after a separator unless it is the first
abbrev pub joined_left : Bool → List (List ℕ) → List ℕ
joined_left first [] = []
joined_left true (t ∷ ts) = t ++ joined_left false ts
joined_left false (t ∷ ts) = 0x2F ∷ (t ++ joined_left false ts)

joined_is : (t : List ℕ) (ts : List (List ℕ)) → t ++ joined_left false ts ≡ join_with_byte 0x2F (t ∷ ts)
joined_is t [] = append-nil t
joined_is t (u ∷ ts) = ap (λ z. t ++ (0x2F ∷ z)) (joined_is u ts)

pub all_joined : (ts : List (List ℕ)) → joined_left true ts ≡ join_with_byte 0x2F ts
all_joined [] = refl
all_joined (t ∷ ts) = joined_is t ts

whole_component : (path : List ℕ) → components separators.None path ≡ path ∷ []
whole_component path = one_component separators.None path (All-from_get_or (λ b. separates separators.None b ≡ false) path 0 (λ k l. refl))

joined_components : (s : Separators) → joins_by_slash s ≡ true → (path : List ℕ) → join_with_byte 0x2F (components s path) ≡ path
joined_components separators.None e path = ap (join_with_byte 0x2F) (whole_component path)
joined_components separators.Slash e path = join_with_byte-slice_split 0x2F path
joined_components separators.SlashAndBackslash e path = let never : false ≡ true = e in cc

-- where a path has several components, these are looked up
same_separators : (s : Separators) → (s ≡ separators.None → ⊥) → key_separators s ≡ s
same_separators separators.None n = absurd (n refl)
same_separators separators.Slash n = refl
same_separators separators.SlashAndBackslash n = refl

-- a text before a `/` is the first component
first_part : (text after : List ℕ) → IsPlain separators.Slash text → components separators.Slash (text ++ 0x2F ∷ after) ≡ text ∷ components separators.Slash after
first_part text after plain = first_component separators.Slash (text ++ 0x2F ∷ after) text after (record { separator = 0x2F; joined = refl; parts = refl }, plain)

module _ {A : Type 0} where
  -- what begins after a `/` of what begins there
  pub begins_after : (pieces left own after : List (Piece (Item A))) → left ≡ own ++ One (Literal 0x2F) ∷ after → BeginsAt pieces left → BeginsAt pieces after
  begins_after pieces left own after e (inl h) = inr (own, h ∙ e)
  begins_after pieces left own after e (inr h) =
      inr (h.0 ++ One (Literal 0x2F) ∷ own, h.1 ∙ ap (λ z. h.0 ++ One (Literal 0x2F) ∷ z) e ∙ sym (append_assoc h.0 (One (Literal 0x2F) ∷ own) (One (Literal 0x2F) ∷ after)))

  pub is_between : (pieces left own after : List (Piece (Item A))) (text : List ℕ) → left ≡ own ++ One (Literal 0x2F) ∷ after → BeginsAt pieces left → spells own text ≡ true → IsPlain separators.Slash text → IsBetween pieces text
  is_between pieces left own after text e begins is plain = record { own = own; after = after; begins = subst (BeginsAt pieces) e begins; spelled = is; plain = plain }

  -- such a text is a component of each path that the pieces match
  between_part : (pieces : List (Piece (Item A))) (text path : List ℕ) → IsBetween pieces text → Wild TakesLetter Fits pieces path → HasPart (components separators.Slash path) text
  between_part pieces text path h m = by_start h.begins
    where
      slash : Piece (Item A)
      slash = One (Literal 0x2F)

      at_text : (letters : List ℕ) → Wild TakesLetter Fits (h.own ++ slash ∷ h.after) letters → (rest : List ℕ) × (components separators.Slash letters ≡ text ∷ components separators.Slash rest)
      at_text letters n =
          let own = text_first A h.own (slash ∷ h.after) text letters h.spelled n in
          let next = own.after in
          let here : letters ≡ text ++ 0x2F ∷ next.rest = own.joined ∙ ap (λ z. text ++ z) (next.joined ∙ ap (λ z. z ∷ next.rest) (sym next.fits)) in
          (next.rest, ap (components separators.Slash) here ∙ first_part text next.rest h.plain)

      by_start : BeginsAt pieces (h.own ++ slash ∷ h.after) → HasPart (components separators.Slash path) text
      by_start (inl e) =
          let at = at_text path (subst (λ z. Wild TakesLetter Fits z path) e m) in
          ([], (components separators.Slash at.0, at.1))
      by_start (inr e) =
          let found = rest_matches TakesLetter Fits e.0 (slash ∷ (h.own ++ slash ∷ h.after)) path (subst (λ z. Wild TakesLetter Fits z path) e.1 m) in
          let one = found.matched in
          let at = at_text one.rest one.after in
          let here : path ≡ found.before ++ 0x2F ∷ one.rest = found.joined ∙ ap (λ z. found.before ++ z) (one.joined ∙ ap (λ z. z ∷ one.rest) (sym one.fits)) in (
            components separators.Slash found.before,
            (
              components separators.Slash at.0,
              ap (components separators.Slash) here ∙ split_append (separates separators.Slash) found.before 0x2F one.rest refl
                  ∙ ap (λ z. components separators.Slash found.before ++ z) at.1,
            ),
          )

  -- with texts for what is left there are texts for all
  pub record AreAll (pieces : List (Piece (Part A))) (text : List ℕ) (first : Bool) (ts : List (List ℕ)) : Type 0 where
    pub all : List (List ℕ)
    pub are : AreTexts pieces all
    pub joined : joined_left true all ≡ text ++ joined_left first ts

  abbrev pub TextsSoFar : List (Piece (Part A)) → List ℕ → Bool → List (Piece (Part A)) → Type 0
  TextsSoFar pieces text first left = (ts : List (List ℕ)) → AreTexts left ts → AreAll pieces text first ts

  pub no_texts : (pieces : List (Piece (Part A))) (text : List ℕ) → text ≡ [] → TextsSoFar pieces text true pieces
  no_texts pieces text e ts h = record { all = ts; are = h; joined = ap (λ z. z ++ joined_left true ts) (sym e) }

  module _ (pieces left rest : List (Piece (Part A))) (part : Part A) (e : left ≡ One part ∷ rest) (own text : List ℕ) (is : spells part.pieces.items own ≡ true) where
    pub next_text : (first : Bool) (with_slash more : List ℕ) → with_slash ≡ text ++ slash_before first → more ≡ with_slash ++ own → TextsSoFar pieces text first left → TextsSoFar pieces more false rest
    next_text first with_slash more f g so_far ts h =
        let k = so_far (own ∷ ts) (subst (λ z. AreTexts z (own ∷ ts)) (sym e) (is, h)) in
        record { all = k.all; are = k.are; joined = k.joined ∙ by_first first ∙ ap (λ z. (z ++ own) ++ joined_left false ts) (sym f) ∙ ap (λ z. z ++ joined_left false ts) (sym g) }
      where
        by_first : (v : Bool) → text ++ joined_left v (own ∷ ts) ≡ ((text ++ slash_before v) ++ own) ++ joined_left false ts
        by_first true = ap (λ z. z ++ (own ++ joined_left false ts)) (sym (append-nil text)) ∙ sym (append_assoc (text ++ []) own (joined_left false ts))
        by_first false = sym (append_assoc (text ++ 0x2F ∷ []) own (joined_left false ts) ∙ append_assoc text (0x2F ∷ []) (own ++ joined_left false ts))

  pub all_texts : (pieces left : List (Piece (Part A))) (text : List ℕ) (first : Bool) → left ≡ [] → TextsSoFar pieces text first left → AreJoinedTexts pieces text
  all_texts pieces left text first e so_far =
      let h = so_far [] (subst (λ z. AreTexts z []) (sym e) tt) in
      (h.all, (h.are, sym (append-nil text) ∙ sym (h.joined ∙ nothing first) ∙ all_joined h.all))
    where
      nothing : (v : Bool) → text ++ joined_left v [] ≡ text ++ []
      nothing v = refl

  module _ (o : Options) where
    -- a part that is a text fits it alone
    fits_text : (part : Part A) (text component : List ℕ) → spells part.pieces.items text ≡ true → FitsComponent o.literal_leading_dot part component → component ≡ text
    fits_text part text component is f = only_text _ part.pieces.items text component is f.0

    -- what a part fits begins with the letters that the part does
    fits_start : (part : Part A) (n : ℕ) (text component : List ℕ) → AreOfPart part n text → FitsComponent o.literal_leading_dot part component → (rest : List ℕ) × ((component ≡ text ++ rest) × HaveSize n text rest)
    fits_start part zero text component are f = ([], (fits_text part text component are f ∙ sym (append-nil text), refl))
    fits_start part (suc n) text component are f =
        let begins = are.1 in
        let h = text_first A begins.own begins.after text component begins.spelled (subst (λ z. Wild TakesLetter Fits z component) begins.joined f.0) in
        (h.rest, (h.joined, are.0))

    part_ascii : (part : Part A) (n : ℕ) (text : List ℕ) → AreOfPart part n text → AllByRecursion (λ b. b < 0x80) text
    part_ascii part zero text are = spelled_ascii _ part.pieces.items text are
    part_ascii part (suc n) text are = spelled_ascii _ are.1.own text are.1.spelled

    each_text : (ps : List (Piece (Part A))) (ts parts : List (List ℕ)) → AreTexts ps ts → MatchesParts o.literal_leading_dot ps parts → parts ≡ ts
    each_text [] [] parts h m = m
    each_text [] (t ∷ ts) parts h m = absurd h
    each_text (Many ∷ ps) ts parts h m = absurd h
    each_text (One part ∷ ps) [] parts h m = absurd h
    each_text (One part ∷ ps) (t ∷ ts) parts h m =
        m.joined ∙ ap (λ z. z ∷ m.rest) (fits_text part t m.letter h.0 m.fits) ∙ ap (λ z. t ∷ z) (each_text ps ts m.rest h.1 m.after)

    each_ascii : (ps : List (Piece (Part A))) (ts : List (List ℕ)) → AreTexts ps ts → AllByRecursion (λ b. b < 0x80) (joined_left true ts) × AllByRecursion (λ b. b < 0x80) (joined_left false ts)
    each_ascii [] [] h = (tt, tt)
    each_ascii [] (t ∷ ts) h = absurd h
    each_ascii (Many ∷ ps) ts h = absurd h
    each_ascii (One part ∷ ps) [] h = absurd h
    each_ascii (One part ∷ ps) (t ∷ ts) h =
        let own = spelled_ascii _ part.pieces.items t h.0 in
        let rest = (each_ascii ps ts h.1).1 in
        let both = all_append t (joined_left false ts) own rest in
        (both, (let low : 0x2F < 0x80 = omega arith in low, both))
      where
        all_append : (xs ys : List ℕ) → AllByRecursion (λ b. b < 0x80) xs → AllByRecursion (λ b. b < 0x80) ys → AllByRecursion (λ b. b < 0x80) (xs ++ ys)
        all_append [] ys h k = k
        all_append (x ∷ xs) ys h k = (h.0, all_append xs ys h.1 k)

    pub path_needed : (pieces : List (Piece (Part A))) (text : List ℕ) → joins_by_slash o.separators ≡ true → AreJoinedTexts pieces text → IsNeeded o pieces kind.Path 0 text
    path_needed pieces text e h = record {
      ascii = subst (AllByRecursion (λ b. b < 0x80)) (sym (h.1.1 ∙ sym (all_joined h.0))) (each_ascii pieces h.0 h.1.0).0;
      needed = λ path m. sym (joined_components o.separators e path) ∙ ap (join_with_byte 0x2F) (each_text pieces h.0 (components o.separators path) h.1.0 m) ∙ sym h.1.1;
    }

    -- a part that is a whole path needs a text between its `/`
    pub between_needed : (pieces rest : List (Piece (Part A))) (part : Part A) (text : List ℕ) → o.separators ≡ separators.None → pieces ≡ One part ∷ rest → rest ≡ [] → IsBetween part.pieces.items text → IsNeeded o pieces kind.Component 0 text
    between_needed pieces rest part text one e none h = record {
      ascii = spelled_ascii _ h.own text h.spelled;
      needed = λ path m.
          let n : MatchesParts o.literal_leading_dot (One part ∷ []) (components separators.None path) = subst (λ s. MatchesParts o.literal_leading_dot (One part ∷ []) (components s path)) one (subst (λ z. MatchesParts o.literal_leading_dot z (components o.separators path)) (e ∙ ap (λ z. One part ∷ z) none) m) in
          let here : path ∷ [] ≡ n.letter ∷ n.rest = sym (whole_component path) ∙ n.joined in
          let same : n.letter ≡ path = cc in
          let here = between_part part.pieces.items text path h (subst (Wild TakesLetter Fits part.pieces.items) same n.fits.0) in
          ([], (subst (λ s. HasPart (components (key_separators s) path) (text ++ [])) (sym one) (subst (HasPart (components separators.Slash path)) (sym (append-nil text)) here), refl));
    }

    module _ (pieces before after : List (Piece (Part A))) (part : Part A) (e : pieces ≡ before ++ One part ∷ after) where
      -- the component that the part matches
      pub record AtPart (path : List ℕ) : Type 0 where
        pub parts_before : List (List ℕ)
        pub component : List ℕ
        pub parts_after : List (List ℕ)
        pub joined : components o.separators path ≡ parts_before ++ component ∷ parts_after
        pub fits : FitsComponent o.literal_leading_dot part component
        pub rest : MatchesParts o.literal_leading_dot after parts_after

      at_part : (path : List ℕ) → Matches o pieces path → AtPart path
      at_part path m =
          let parts = components o.separators path in
          let h = rest_matches (TakesComponent o.literal_leading_dot) (FitsComponent o.literal_leading_dot) before (One part ∷ after) parts (subst (λ z. MatchesParts o.literal_leading_dot z parts) e m) in
          let one = h.matched in
          record { parts_before = h.before; component = one.letter; parts_after = one.rest; joined = h.joined ∙ ap (λ z. h.before ++ z) one.joined; fits = one.fits; rest = one.after }

      pub component_needed : (n : ℕ) (text : List ℕ) → AreOfPart part n text → (o.separators ≡ separators.None → ⊥) → IsNeeded o pieces kind.Component n text
      component_needed n text are several = record {
        ascii = part_ascii part n text are;
        needed = λ path m.
            let h = at_part path m in
            let starts = fits_start part n text h.component are h.fits in (
              starts.0,
              (
                subst (λ s. HasPart (components s path) (text ++ starts.0)) (sym (same_separators o.separators several))
                    (h.parts_before, (h.parts_after, h.joined ∙ ap (λ z. h.parts_before ++ z ∷ h.parts_after) starts.1.0)),
                starts.1.1,
              ),
            );
      }

      pub name_needed : (n : ℕ) (text : List ℕ) → AreOfPart part n text → after ≡ [] → IsNeeded o pieces kind.Name n text
      name_needed n text are none = record {
        ascii = part_ascii part n text are;
        needed = λ path m.
            let h = at_part path m in
            let starts = fits_start part n text h.component are h.fits in
            let nothing : h.parts_after ≡ [] = subst (λ z. MatchesParts o.literal_leading_dot z h.parts_after) none h.rest in
            (starts.0, ((h.parts_before, h.joined ∙ ap (λ z. h.parts_before ++ z ∷ h.parts_after) starts.1.0 ∙ ap (λ z. h.parts_before ++ (text ++ starts.0) ∷ z) nothing), starts.1.1));
      }

      pub ends_with : (start own : List (Piece (Item A))) (text : List ℕ) → part.pieces.items ≡ start ++ own → spells own text ≡ true → after ≡ [] → EndsWith o pieces text
      ends_with start own text split is none = record {
        ascii = spelled_ascii _ own text is;
        needed = λ path m. let h = at_part path m in
            let nothing : h.parts_after ≡ [] = subst (λ z. MatchesParts o.literal_leading_dot z h.parts_after) none h.rest in
            let ends = rest_matches TakesLetter Fits start own h.component (subst (λ z. Wild TakesLetter Fits z h.component) split h.fits.0) in
            let same : ends.after ≡ text = only_text _ own text ends.after is ends.matched in
            (ends.before, (h.parts_before, h.joined ∙ ap (λ z. h.parts_before ++ z ∷ h.parts_after) (ends.joined ∙ ap (λ z. ends.before ++ z) same) ∙ ap (λ z. h.parts_before ++ (ends.before ++ text) ∷ z) nothing));
      }

  -- a part that ends with a text needs the key of that end
  pub end_needed : (o : Options) (pieces : List (Piece (Part A))) (text key : List ℕ) (k : Kind) (n : ℕ) → EndsWith o pieces text → IsOfEnd text k n key → IsNeeded o pieces k n key
  end_needed o pieces text key kind.Path n h e = absurd e
  end_needed o pieces text key kind.Component n h e = absurd e
  end_needed o pieces text key kind.Name n h e = absurd e
  end_needed o pieces text key kind.Extension n h e =
      let same = subst (EndsWith o pieces) e.1 h in
      record { ascii = same.ascii.1; needed = λ path m. (e.0, same.needed path m) }
  end_needed o pieces text key kind.End n h e =
      let same = subst (EndsWith o pieces) e.1.1 h in
      record {
        ascii = after e.1.0 same.ascii;
        needed = λ path m.
            let s = same.needed path m in
            (e.0, (s.0 ++ e.1.0, (s.1.0, s.1.1 ∙ ap (λ z. s.1.0 ++ z ∷ []) (sym (append_assoc s.0 e.1.0 key)))));
      }
    where
      after : (before : List ℕ) → AllByRecursion (λ b. b < 0x80) (before ++ key) → AllByRecursion (λ b. b < 0x80) key
      after [] h = h
      after (b ∷ before) h = after before h.1

pub some_weaker : {X : Type 0} (P Q : X → Type 0) (value : Option X) → ((x : X) → P x → Q x) → IfSome value P → IfSome value Q
some_weaker P Q None f h = h
some_weaker P Q (Some x) f h = f x h

-- what holds of each text that pieces spell holds of theirs, if there is one
pub of_some_text : {A : Type 0} (P : List ℕ → Type 0) (pieces : List (Piece (Item A))) (text : Option (Vec ℕ A)) → spells_some pieces text ≡ true → ((own : List ℕ) → spells pieces own ≡ true → P own) → IfSome text (λ own. P own.items)
of_some_text P pieces None e f = tt
of_some_text P pieces (Some own) e f = f own.items e
