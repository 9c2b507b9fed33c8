-- A path is matched with each choice whose key it has.
use Rattle.std.proofs.Common.{bit_and, ◌≡◌, ◌⊎◌, inl, inr, ◌<◌, ◌+◌, ◌-◌, ℕ, zero, suc, nat_eq, true, false, Bool, List, [], ◌∷◌, ◌++◌, map, length, take, drop, refl, sym, ap, ◌∙◌, subst, arith, length-append, append-nil}
use Rattle.std.specs.List.{AllByRecursion, HoldsAt}
use Rattle.std.specs.Prelude.{slice_index_or, if◌then◌else◌, Option, None, Some, MatchOption}
use denote.Ref.{Bor}
use Rattle.std.proofs.lemmas.List.{same_from_push, take_at, drop_at, take-map, map-append, length-map}
use Rattle.std.proofs.lemmas.Str.Ascii.{lowercase-lowercase}
use Rattle.std.specs.Char.{to_ascii_lowercase}
use Rattle.std.proofs.lemmas.List.Elements.{All-from_recursion, at_read}
use Rattle.wildcards.specs.declared.candidates.Query.{Query}
use Rattle.wildcards.specs.declared.filter.Filter.{Filter}
use Rattle.wildcards.specs.declared.filter.Place.{Place}
use Rattle.wildcards.specs.declared.key.Kind.{Kind}
use Rattle.wildcards.specs.declared.key.Kind.TheVariants as kind
use Rattle.wildcards.specs.declared.options.Options.{Options}
use Rattle.wildcards.specs.declared.part.Part.{Part}
use Rattle.wildcards.specs.declared.pattern.Choice.{Choice}
use Rattle.wildcards.specs.declared.piece.Piece.{Piece}
use Rattle.wildcards.specs.declared.separators.Separators.{Separators}
use Rattle.wildcards.specs.declared.set.Pattern.{Pattern}
use Rattle.wildcards.specs.Candidates.{OneHas, IsQuery, with_key, after_extension, extension_keys, end_keys, name_keys, component_keys, path_keys, all_lists}
use Rattle.wildcards.specs.Components.{components, separates}
use Rattle.wildcards.specs.Cuts.{IsPlain, IsCut}
use Rattle.wildcards.specs.Extensions.{LacksDot, IsExtension, LacksExtension}
use Rattle.wildcards.specs.Filters.{Asks, IsCovered, AreCovered, CoversAll, IsHitAt}
use Rattle.wildcards.specs.Keys.{HasPart, HaveSize, HasKey, first_letters, key_separators}
use Rattle.wildcards.specs.Match.{Matches}
use Rattle.wildcards.specs.Reading.{LetterLaws}
use Rattle.wildcards.specs.Sets.{Has, MatchesChoice, IsHit}
use Rattle.wildcards.specs.Small.{AreAscii, IsLookedUp, folded}
use Rattle.wildcards.specs.Tables.{digest_after, digest_of, places_at, bucket}
use Rattle.wildcards.proofs.lemmas.Extensions.{has_dot, one_extension}
use Rattle.wildcards.proofs.lemmas.Parts.{one_component, first_component}
use Rattle.wildcards.proofs.lemmas.Readings.{whole, first_of, first_ascii, first_found, cut_letters}
use Rattle.wildcards.proofs.lemmas.Small.{dot_only, small_components}
use Rattle.wildcards.proofs.lemmas.Visited.{key_listed}

-- a list is cut at its first separator, or has none
pub record FirstCut (o : Separators) (s : List ℕ) : Type 0 where
  pub part : List ℕ
  pub rest : List ℕ
  pub cut : IsCut o s part rest
  pub plain : AllByRecursion (λ b. separates o b ≡ false) part

pub first_cut : (o : Separators) (s : List ℕ) → AllByRecursion (λ b. separates o b ≡ false) s ⊎ FirstCut o s
first_cut o [] = inl tt
first_cut o (b ∷ s) = by_first (separates o b) refl (first_cut o s)
  where
    by_first : (v : Bool) → separates o b ≡ v → AllByRecursion (λ b. separates o b ≡ false) s ⊎ FirstCut o s → AllByRecursion (λ b. separates o b ≡ false) (b ∷ s) ⊎ FirstCut o (b ∷ s)
    by_first true e h = inr (record { part = []; rest = s; cut = record { separator = b; joined = refl; parts = e }; plain = tt })
    by_first false e (inl h) = inl (e, h)
    by_first false e (inr h) = inr (record { part = b ∷ h.part; rest = h.rest; cut = record { separator = h.cut.separator; joined = ap (λ z. b ∷ z) h.cut.joined; parts = h.cut.parts }; plain = (e, h.plain) })

module _ (formed : List ℕ → Type 0) (letters : List ℕ → List ℕ) (laws : LetterLaws formed letters) (o : Separators) where
  -- the components of the letters are the letters of the components, each of which is read
  pub record AreRead (s : List ℕ) : Type 0 where
    pub are : components o (letters s) ≡ map letters (components o s)
    pub formed_each : AllByRecursion formed (components o s)

  pub read_parts : (n : ℕ) (s : List ℕ) → length s < n → formed s → AreRead s
  read_parts zero s l f = absurd (omega (arith, l))
  read_parts (suc n) s l f = by_cut (read_parts n) (first_cut o s)
    where
      by_cut : ((t : List ℕ) → length t < n → formed t → AreRead t) → AllByRecursion (λ b. separates o b ≡ false) s ⊎ FirstCut o s → AreRead s
      by_cut again (inl h) =
          let plain : IsPlain o s = All-from_recursion (λ b. separates o b ≡ false) s h in
          let one = one_component o s plain in
          record { are = whole formed letters laws o s f plain ∙ ap (map letters) (sym one); formed_each = subst (AllByRecursion formed) (sym one) (f, tt) }
      by_cut again (inr h) =
          let plain : IsPlain o h.part = All-from_recursion (λ b. separates o b ≡ false) h.part h.plain in
          let read = cut_letters formed letters laws o s h.part h.rest f h.cut in
          let shorter : length h.rest < n = omega (arith, l, ap length h.cut.joined, length-append h.part (h.cut.separator ∷ h.rest)) in
          let rest = again h.rest shorter read.1.0 in
          let parts = first_component o s h.part h.rest (h.cut, plain) in
          record {
            are = first_of formed letters laws o s h.part h.rest f (h.cut, plain) ∙ ap (λ z. letters h.part ∷ z) rest.are ∙ ap (map letters) (sym parts);
            formed_each = subst (AllByRecursion formed) (sym parts) (read.0, rest.formed_each);
          }

  -- a text of ASCII is read of itself alone
  itself : (s key : List ℕ) → formed s → AllByRecursion (λ b. b < 0x80) key → letters s ≡ key → s ≡ key
  itself s key f ascii e = let k = laws.ascii key ascii in laws.once s key f k.0 (e ∙ sym k.1)

  -- so is a suffix of ASCII
  ends_itself : (s start key : List ℕ) → formed s → AllByRecursion (λ b. b < 0x80) key → letters s ≡ start ++ key → (before : List ℕ) × (s ≡ before ++ key)
  ends_itself s start [] f ascii e = (s, sym (append-nil s))
  ends_itself s start (b ∷ key) f ascii e =
      let at = laws.found s start key b ascii.0 f e in
      let both = laws.cut at.prefix at.suffix b ascii.0 (subst formed at.joined f) in
      (at.prefix, at.joined ∙ ap (λ z. at.prefix ++ b ∷ z) (itself at.suffix key both.1.0 ascii.1 at.letters_after))

  -- so is a prefix of ASCII
  pub begins_itself : (s key rest : List ℕ) → formed s → AllByRecursion (λ b. b < 0x80) key → letters s ≡ key ++ rest → (after : List ℕ) × (s ≡ key ++ after)
  begins_itself s [] rest f ascii e = (s, refl)
  begins_itself s (b ∷ key) rest f ascii e =
      let first = first_found formed letters laws s (key ++ rest) b ascii.0 f e in
      let read = first_ascii formed letters laws s first.0 b ascii.0 first.1 f in
      let same : b ∷ (key ++ rest) ≡ b ∷ letters first.0 = sym e ∙ read.1 in
      let left : letters first.0 ≡ key ++ rest = cc in
      let more = begins_itself first.0 key rest read.0 ascii.1 left in
      (more.0, first.1 ∙ ap (λ z. b ∷ z) more.1)

  -- letters of a size that are ASCII are read of themselves
  sized_itself : (n : ℕ) (s key rest : List ℕ) → formed s → AllByRecursion (λ b. b < 0x80) key → letters s ≡ key ++ rest → HaveSize n key rest → first_letters n s ≡ key
  sized_itself zero s key rest f ascii e size = itself s key f ascii (e ∙ ap (λ z. key ++ z) size ∙ append-nil key)
  sized_itself (suc n) s key rest f ascii e size =
      let begins = begins_itself s key rest f ascii e in
      ap (take (suc n)) begins.1 ∙ take_at key begins.0 (suc n) size

  -- a part among the letters of parts
  part_read : (parts before after : List (List ℕ)) (part : List ℕ) → AllByRecursion formed parts → map letters parts ≡ before ++ part ∷ after → (own : List ℕ) × (HasPart parts own × (formed own × (letters own ≡ part)))
  part_read [] [] after part f e = let never : [] ≡ part ∷ after = e in absurd (cc)
  part_read [] (b ∷ before) after part f e = let never : [] ≡ b ∷ (before ++ part ∷ after) = e in absurd (cc)
  part_read (p ∷ parts) [] after part f e =
      let first : letters p ≡ part = cc in
      (p, (([], (parts, refl)), (f.0, first)))
  part_read (p ∷ parts) (b ∷ before) after part f e =
      let rest : map letters parts ≡ before ++ part ∷ after = cc in
      let h = part_read parts before after part f.1 rest in
      let at = h.1.0 in
      (h.0, ((p ∷ at.0, (at.1.0, ap (λ z. p ∷ z) at.1.1)), h.1.1))

  -- the last part is that whose letters come last
  last_read : (front before : List (List ℕ)) (name last : List ℕ) → AllByRecursion formed (front ++ name ∷ []) → map letters (front ++ name ∷ []) ≡ before ++ last ∷ [] → formed name × (letters name ≡ last)
  last_read [] before name last f e = (f.0, (same_from_push [] before (letters name) last e).1)
  last_read (p ∷ front) [] name last f e = let never : map letters (front ++ name ∷ []) ≡ [] = cc in absurd (some front never)
    where
      some : (ps : List (List ℕ)) → map letters (ps ++ name ∷ []) ≡ [] → ⊥
      some [] n = let k : letters name ∷ [] ≡ [] = n in cc
      some (q ∷ ps) n = let k : letters q ∷ map letters (ps ++ name ∷ []) ≡ [] = n in cc
  last_read (p ∷ front) (b ∷ before) name last f e =
      let rest : map letters (front ++ name ∷ []) ≡ before ++ last ∷ [] = cc in
      last_read front before name last f.1 rest

has_before : {X : Type 0} (xs more : List X) (x : X) → Has more x → Has (xs ++ more) x
has_before [] more x h = h
has_before (y ∷ xs) more x h = inr (has_before xs more x h)

-- the value at an index doesn't depend on the default
same_read : {X : Type 0} (xs : List X) (i : ℕ) (d e : X) → i < length xs → slice_index_or xs i d ≡ slice_index_or xs i e
same_read [] i d e l = absurd (omega (arith, l))
same_read (x ∷ xs) zero d e l = refl
same_read (x ∷ xs) (suc i) d e l = same_read xs i d e (omega (arith, l))

module _ {A : Type 0} (q : Query A) where
  of_end : (sizes : List ℕ) (n : ℕ) (before key : List ℕ) → q.name.now ≡ before ++ key → n ≡ length key → Has sizes n → Has (end_keys q sizes) key
  of_end [] n before key e size has = absurd has
  of_end (m ∷ sizes) n before key e size (inl same) =
      let at : length q.name.now - m ≡ length before = omega (arith, same, size, ap length e, length-append before key) in
      inl (sym (ap (λ z. drop z q.name.now) at ∙ ap (drop (length before)) e ∙ drop_at before key (length before) refl))
  of_end (m ∷ sizes) n before key e size (inr has) = inr (of_end sizes n before key e size has)

  of_extension : (key : List ℕ) (extension : Option (Bor (List ℕ))) (keys : List (List ℕ)) → MatchOption extension ⊥ (λ text. key ≡ text.now) → Has (after_extension q extension keys) key
  of_extension key None keys h = absurd h
  of_extension key (Some text) keys h = inl h

  or_extension : (key : List ℕ) (extension : Option (Bor (List ℕ))) (keys : List (List ℕ)) → Has keys key → Has (after_extension q extension keys) key
  or_extension key None keys h = h
  or_extension key (Some text) keys h = inr h

  of_name : (sizes : List ℕ) (n : ℕ) → Has sizes n → Has (name_keys q sizes) (first_letters n q.name.now)
  of_name [] n has = absurd has
  of_name (m ∷ sizes) n (inl same) = inl (ap (λ z. first_letters z q.name.now) same)
  of_name (m ∷ sizes) n (inr has) = inr (of_name sizes n has)

  or_name : (sizes : List ℕ) (key : List ℕ) → Has (extension_keys q) key → Has (name_keys q sizes) key
  or_name [] key h = h
  or_name (m ∷ sizes) key h = inr (or_name sizes key h)

  of_component : (sizes : List ℕ) (n : ℕ) (part : List ℕ) → Has sizes n → HasPart (components q.separators q.path.now) part → Has (component_keys q sizes q.path.now) (first_letters n part)
  of_component [] n part has at = absurd has
  of_component (m ∷ sizes) n part (inl same) at =
      subst (λ z. Has (map (first_letters m) z ++ component_keys q sizes q.path.now) (first_letters n part)) (sym at.1.1) (go at.0)
    where
      go : (before : List (List ℕ)) → Has (map (first_letters m) (before ++ part ∷ at.1.0) ++ component_keys q sizes q.path.now) (first_letters n part)
      go [] = inl (ap (λ z. first_letters z part) same)
      go (p ∷ before) = inr (go before)
  of_component (m ∷ sizes) n part (inr has) at =
      has_before (map (first_letters m) (components q.separators q.path.now)) (component_keys q sizes q.path.now) (first_letters n part) (of_component sizes n part has at)

  or_component : (sizes rest key : List ℕ) → Has (name_keys q q.filter.now.names.items) key → Has (component_keys q sizes rest) key
  or_component [] rest key h = h
  or_component (m ∷ sizes) rest key h = has_before (map (first_letters m) (components q.separators rest)) (component_keys q sizes q.path.now) key (or_component sizes q.path.now key h)

key_asked : (asked : Bool) (key : List ℕ) (keys : List (List ℕ)) → asked ≡ true → Has (with_key asked key keys) key
key_asked true key keys e = inl refl
key_asked false key keys e = let never : false ≡ true = e in absurd (cc)

after_key : (asked : Bool) (first key : List ℕ) (keys : List (List ℕ)) → Has keys key → Has (with_key asked first keys) key
after_key true first key keys h = inr h
after_key false first key keys h = h

-- a part whose small letters are the key
record MappedPart (parts : List (List ℕ)) (key : List ℕ) : Type 0 where
  before : List (List ℕ)
  part : List ℕ
  after : List (List ℕ)
  joined : parts ≡ before ++ part ∷ after
  small : map to_ascii_lowercase part ≡ key

mapped_part : (parts before after : List (List ℕ)) (key : List ℕ) → map (map to_ascii_lowercase) parts ≡ before ++ key ∷ after → MappedPart parts key
mapped_part [] [] after key e = let never : [] ≡ key ∷ after = e in absurd cc
mapped_part [] (b ∷ before) after key e = let never : [] ≡ b ∷ (before ++ key ∷ after) = e in absurd cc
mapped_part (p ∷ parts) [] after key e = let first : map to_ascii_lowercase p ≡ key = cc in record { before = []; part = p; after = parts; joined = refl; small = first }
mapped_part (p ∷ parts) (b ∷ before) after key e =
    let rest : map (map to_ascii_lowercase) parts ≡ before ++ key ∷ after = cc in
    let h = mapped_part parts before after key rest in
    record { before = p ∷ h.before; part = h.part; after = h.after; joined = ap (λ z. p ∷ z) h.joined; small = h.small }

-- the first of the small letters are those of the first
first_mapped : (n : ℕ) (part key rest : List ℕ) → map to_ascii_lowercase part ≡ key ++ rest → HaveSize n key rest → map to_ascii_lowercase (first_letters n part) ≡ key
first_mapped zero part key rest e size = e ∙ ap (λ z. key ++ z) size ∙ append-nil key
first_mapped (suc n) part key rest e size = sym (take-map to_ascii_lowercase (suc n) part) ∙ ap (take (suc n)) e ∙ take_at key rest (suc n) size

-- an end whose small letters are the key
record MappedEnd (name key : List ℕ) : Type 0 where
  start : List ℕ
  end : List ℕ
  joined : name ≡ start ++ end
  small : map to_ascii_lowercase end ≡ key

mapped_end : (name start key : List ℕ) → map to_ascii_lowercase name ≡ start ++ key → MappedEnd name key
mapped_end name [] key e = record { start = []; end = name; joined = refl; small = e }
mapped_end [] (s ∷ start) key e = let never : [] ≡ s ∷ (start ++ key) = e in absurd cc
mapped_end (b ∷ name) (s ∷ start) key e =
    let rest : map to_ascii_lowercase name ≡ start ++ key = cc in
    let h = mapped_end name start key rest in
    record { start = b ∷ h.start; end = h.end; joined = ap (λ z. b ∷ z) h.joined; small = h.small }

-- the last component by small letters
small_last : (s : Separators) (path : List ℕ) (front : List (List ℕ)) (name : List ℕ) (before : List (List ℕ)) (last : List ℕ) → components s path ≡ front ++ name ∷ [] → components s (map to_ascii_lowercase path) ≡ before ++ last ∷ [] → map to_ascii_lowercase name ≡ last
small_last s path front name before last e f =
    (same_from_push (map (map to_ascii_lowercase) front) before (map to_ascii_lowercase name) last
    (sym (map-append (map to_ascii_lowercase) front (name ∷ [])) ∙ ap (map (map to_ascii_lowercase)) (sym e) ∙ sym (small_components s path) ∙ f)).1

lacks_small : (text : List ℕ) → LacksDot text → LacksDot (map to_ascii_lowercase text)
lacks_small [] h = tt
lacks_small (b ∷ text) h = ((λ e. h.0 (dot_only b e)), lacks_small text h.1)

small_extension : {F : Type 0} (s : Separators) (path start key : List ℕ) (before : List (List ℕ)) → components s (map to_ascii_lowercase path) ≡ before ++ (start ++ 0x2E ∷ key) ∷ [] → LacksDot key → F → (extension : Option (Bor (List ℕ))) → MatchOption extension (F → LacksExtension (components s path)) (λ text. IsExtension (components s path) text.now) → (raw : List ℕ) × (MatchOption extension ⊥ (λ text. raw ≡ text.now) × (map to_ascii_lowercase raw ≡ key))
small_extension s path start key before e lacks a None m =
    let none = m a in
    absurd (has_dot start key (subst LacksDot (small_last s path none.before none.name before (start ++ 0x2E ∷ key) none.joined e) (lacks_small none.name none.lacks)))
small_extension s path start key before e lacks a (Some text) m =
    let ends = small_last s path m.before (m.start ++ 0x2E ∷ text.now) before (start ++ 0x2E ∷ key) m.joined e in
    (text.now, (refl, one_extension (map to_ascii_lowercase m.start) start (map to_ascii_lowercase text.now) key (sym (map-append to_ascii_lowercase m.start (0x2E ∷ text.now)) ∙ ends) (lacks_small text.now m.lacks) lacks))

small_again : (text : List ℕ) → map to_ascii_lowercase (map to_ascii_lowercase text) ≡ map to_ascii_lowercase text
small_again [] = refl
small_again (b ∷ bs) = ap (λ z. z ∷ map to_ascii_lowercase (map to_ascii_lowercase bs)) (lowercase-lowercase b) ∙ ap (λ z. to_ascii_lowercase b ∷ z) (small_again bs)

-- a text and its small letters have one number
same_digest : (raw key : List ℕ) → map to_ascii_lowercase raw ≡ key → digest_of true raw ≡ digest_of true key
same_digest raw key e = ap (digest_after 0) (sym (small_again raw) ∙ ap (map to_ascii_lowercase) e)

module _ {A : Type 0} (formed : List ℕ → Type 0) (letters : List ℕ → List ℕ) (laws : LetterLaws formed letters) (o : Options) (q : Query A) (filter : Filter A) (path : List ℕ) (is : IsQuery q filter o.separators path) (f : formed path) where
  reading : AreRead formed letters laws o.separators path
  reading = read_parts formed letters laws o.separators (length path + 1) path (omega arith) f

  name_read : (front : List (List ℕ)) (name : List ℕ) → components o.separators path ≡ front ++ name ∷ [] → (before : List (List ℕ)) (last : List ℕ) → components o.separators (letters path) ≡ before ++ last ∷ [] → formed name × (letters name ≡ last)
  name_read front name parts before last e =
      let each = subst (AllByRecursion formed) parts reading.formed_each in
      last_read formed letters laws o.separators front before name last each (ap (map letters) (sym parts) ∙ sym reading.are ∙ e)

  -- the key of a name, and of its end, among all keys
  of_names : (key : List ℕ) → Has (name_keys q q.filter.now.names.items) key → Has (path_keys q) key
  of_names key h = after_key q.filter.now.paths q.path.now key (component_keys q q.filter.now.components.items q.path.now) (or_component q q.filter.now.components.items q.path.now key h)

  of_ends : (key : List ℕ) → Has (extension_keys q) key → Has (path_keys q) key
  of_ends key h = of_names key (or_name q q.filter.now.names.items key h)

  -- the first letters of a component, among all keys
  of_part : (n : ℕ) (part : List ℕ) → Has q.filter.now.components.items n → HasPart (components (key_separators o.separators) path) part → Has (path_keys q) (first_letters n part)
  of_part n part has at =
      let here = ap (λ z. components z q.path.now) is.separators_are ∙ ap (components (key_separators o.separators)) is.path_is in
      after_key q.filter.now.paths q.path.now (first_letters n part) (component_keys q q.filter.now.components.items q.path.now)
      (of_component q q.filter.now.components.items n part has (at.0, (at.1.0, here ∙ at.1.1)))

  -- a name that ends so has this suffix
  suffix : (front : List (List ℕ)) (name : List ℕ) → components o.separators path ≡ front ++ name ∷ [] → (start end : List ℕ) → AllByRecursion (λ b. b < 0x80) end → (before : List (List ℕ)) → components o.separators (letters path) ≡ before ++ (start ++ end) ∷ [] → (first : List ℕ) × (name ≡ first ++ end)
  suffix front name parts start end low before e =
      let n = name_read front name parts before (start ++ end) e in
      ends_itself formed letters laws o.separators name start end n.0 low n.1

  its_extension : (key : List ℕ) → AllByRecursion (λ b. b < 0x80) key → (start : List ℕ) (before : List (List ℕ)) → components o.separators (letters path) ≡ before ++ (start ++ 0x2E ∷ key) ∷ [] → LacksDot key → filter.extensions ≡ true → (extension : Option (Bor (List ℕ))) → MatchOption extension (filter.extensions ≡ true → LacksExtension (components o.separators path)) (λ text. IsExtension (components o.separators path) text.now) → MatchOption extension ⊥ (λ text. key ≡ text.now)
  its_extension key ascii start before e lacks a None m =
      let low : 0x2E < 0x80 = omega arith in
      let none = m a in
      let ends = suffix none.before none.name none.joined start (0x2E ∷ key) (low, ascii) before e in
      has_dot ends.0 key (subst LacksDot ends.1 none.lacks)
  its_extension key ascii start before e lacks a (Some text) m =
      let low : 0x2E < 0x80 = omega arith in
      let ends = suffix m.before (m.start ++ 0x2E ∷ text.now) m.joined start (0x2E ∷ key) (low, ascii) before e in
      sym (one_extension m.start ends.0 text.now key ends.1 m.lacks lacks)

  -- the key is among them
  of_key : (k : Kind) (n : ℕ) (key : List ℕ) → AllByRecursion (λ b. b < 0x80) key → Asks filter k n → Asks q.filter.now k n → HasKey o k n (letters path) key → Has (path_keys q) key
  of_key kind.Path n key ascii asks a e =
      let same : q.path.now ≡ key = is.path_is ∙ itself formed letters laws o.separators path key f ascii e in
      subst (Has (path_keys q)) same (key_asked q.filter.now.paths q.path.now (component_keys q q.filter.now.components.items q.path.now) a)
  of_key kind.Component n key ascii asks a e =
      let s = key_separators o.separators in
      let read = read_parts formed letters laws s (length path + 1) path (omega arith) f in
      let at = e.1.0 in
      let h = part_read formed letters laws s (components s path) at.0 at.1.0 (key ++ e.0) read.formed_each (sym read.are ∙ at.1.1) in
      let same = sized_itself formed letters laws s n h.0 key e.0 h.1.1.0 ascii h.1.1.1 e.1.1 in
      subst (Has (path_keys q)) same (of_part n h.0 a h.1.0)
  of_key kind.Name n key ascii asks a e =
      let last = is.name_is (inl (n, asks)) in
      let read = name_read last.0 q.name.now last.1 e.1.0.0 (key ++ e.0) e.1.0.1 in
      let same = sized_itself formed letters laws o.separators n q.name.now key e.0 read.0 ascii read.1 e.1.1 in
      subst (Has (path_keys q)) same (of_names (first_letters n q.name.now) (of_name q q.filter.now.names.items n a))
  of_key kind.Extension n key ascii asks a e =
      of_ends key (of_extension q key q.extension (end_keys q q.filter.now.ends.items) (its_extension key ascii e.1.0 e.1.1.0 e.1.1.1 e.0 asks q.extension is.extension_is))
  of_key kind.End n key ascii asks a e =
      let last = is.name_is (inr (n, asks)) in
      let ends = suffix last.0 q.name.now last.1 e.1.0 key ascii e.1.1.0 e.1.1.1 in
      of_ends key (or_extension q key q.extension (end_keys q q.filter.now.ends.items) (of_end q q.filter.now.ends.items n ends.0 key ends.1 (sym e.0) a))

  -- a key of the path, or one that differs from it in case alone if the set folds: it has the same bucket
  abbrev Found : List ℕ → Type 0
  Found key = (raw : List ℕ) × (Has (path_keys q) raw × (digest_of filter.folds raw ≡ digest_of filter.folds key))

  -- the key of small letters is that of a key of the path, which is ASCII
  small_key : AreAscii path → (k : Kind) (n : ℕ) (key : List ℕ) → Asks filter k n → Asks q.filter.now k n → HasKey o k n (map to_ascii_lowercase path) key → (raw : List ℕ) × (Has (path_keys q) raw × (map to_ascii_lowercase raw ≡ key))
  small_key ascii kind.Path n key asks a e = (q.path.now, (key_asked q.filter.now.paths q.path.now (component_keys q q.filter.now.components.items q.path.now) a, ap (map to_ascii_lowercase) is.path_is ∙ e))
  small_key ascii kind.Component n key asks a e =
      let s = key_separators o.separators in
      let at = e.1.0 in
      let h = mapped_part (components s path) at.0 at.1.0 (key ++ e.0) (sym (small_components s path) ∙ at.1.1) in
      (first_letters n h.part, (of_part n h.part a (h.before, (h.after, h.joined)), first_mapped n h.part key e.0 h.small e.1.1))
  small_key ascii kind.Name n key asks a e =
      let last = is.name_is (inl (n, asks)) in
      let small = small_last o.separators path last.0 q.name.now e.1.0.0 (key ++ e.0) last.1 e.1.0.1 in
      (first_letters n q.name.now, (of_names (first_letters n q.name.now) (of_name q q.filter.now.names.items n a), first_mapped n q.name.now key e.0 small e.1.1))
  small_key ascii kind.Extension n key asks a e =
      let h = small_extension o.separators path e.1.0 key e.1.1.0 e.1.1.1 e.0 asks q.extension is.extension_is in
      (h.0, (of_ends h.0 (of_extension q h.0 q.extension (end_keys q q.filter.now.ends.items) h.1.0), h.1.1))
  small_key ascii kind.End n key asks a e =
      let last = is.name_is (inr (n, asks)) in
      let start = e.1.0 in
      let ends = mapped_end q.name.now start key (small_last o.separators path last.0 q.name.now e.1.1.0 (start ++ key) last.1 e.1.1.1) in
      let size : n ≡ length ends.end = sym e.0 ∙ ap length (sym ends.small) ∙ length-map ends.end to_ascii_lowercase in
      (ends.end, (of_ends ends.end (or_extension q ends.end q.extension (end_keys q q.filter.now.ends.items) (of_end q q.filter.now.ends.items n ends.start ends.end ends.joined size a)), ends.small))

  found_key : (v : Bool) → filter.folds ≡ v → IsLookedUp v path → (k : Kind) (n : ℕ) (key : List ℕ) → AreAscii key → Asks filter k n → Asks q.filter.now k n → HasKey o k n (folded v (letters path)) key → Found key
  found_key false v looked k n key ascii asks a e = (key, (of_key k n key ascii asks a e, refl))
  found_key true v looked k n key ascii asks a e =
      let h = small_key looked k n key asks a (subst (λ z. HasKey o k n (map to_ascii_lowercase z) key) (laws.ascii path looked).1 e) in
      (h.0, (h.1.0, ap (λ z. digest_of z h.0) v ∙ same_digest h.0 key h.1.1 ∙ ap (λ z. digest_of z key) (sym v)))

  module _ (looked : IsLookedUp filter.folds path) where
    looked_letters : (v : Bool) → IsLookedUp v path → IsLookedUp v (letters path)
    looked_letters false h = tt
    looked_letters true h = subst AreAscii (sym (laws.ascii path h).1) h

    of_choice : (place : Place) (pieces : List (Piece (Part A))) → IsCovered o filter place pieces → Matches o pieces (letters path) → OneHas (all_lists q) place
    of_choice place pieces (inl h) m = inl (subst (λ z. Has z.others.items place) (sym is.filter_is) h)
    of_choice place pieces (inr h) m =
        let found = found_key filter.folds refl looked h.kind h.size h.key h.needed.ascii h.asked (subst (λ z. Asks z h.kind h.size) (sym is.filter_is) h.asked) (h.needed.needed (letters path) (looked_letters filter.folds looked) m) in
        let buckets = filter.buckets.items in
        let listed : Has (bucket filter.folds buckets found.0) place = subst (λ z. Has (places_at buckets (if nat_eq (length buckets) 0 then 0 else bit_and z (length buckets - 1))) place) (sym found.1.1) h.listed in
        inr (key_listed q place (path_keys q) found.0 found.1.0 (subst (λ z. Has (bucket z.folds z.buckets.items found.0) place) (sym is.filter_is) listed))

    -- a choice that matches is in one of the lists
    of_choices : (i j : ℕ) (cs : List (Choice A)) → AreCovered o filter i j cs → MatchesChoice o cs (letters path) → (k : ℕ) × ((k < length cs) × (HoldsAt (λ c. Matches o c.pieces.items (letters path)) cs k × OneHas (all_lists q) (record { pattern = i; choice = j + k })))
    of_choices i j [] h m = absurd m
    of_choices i j (c ∷ cs) h (inl m) =
        let at : j ≡ j + 0 = omega arith in
        (0, (omega arith, ((λ d. m), subst (λ z. OneHas (all_lists q) (record { pattern = i; choice = z })) at (of_choice (record { pattern = i; choice = j }) c.pieces.items h.0 m))))
    of_choices i j (c ∷ cs) h (inr m) =
        let found = of_choices i (j + 1) cs h.1 m in
        let l = found.1.0 in
        let at : (j + 1) + found.0 ≡ j + suc found.0 = omega arith in
        (suc found.0, (omega (arith, l), (found.1.1.0, subst (λ z. OneHas (all_lists q) (record { pattern = i; choice = z })) at found.1.1.1)))

    -- each pattern that matches has a place in the lists, whose choice does
    pub of_hit : (patterns : List (Pattern A)) → CoversAll o filter patterns → (i : ℕ) → IsHit o patterns (letters path) i → ((place : Place) → place.pattern ≡ i → IsHitAt o patterns (letters path) place → OneHas (all_lists q) place → ⊥) → ⊥
    of_hit [] covers i hit none = let l = hit.0 in omega (arith, l)
    of_hit (p ∷ ps) covers i hit none = covers i hit.0 p (λ covered. there (of_choices i 0 own.choices.items covered (hit.1 p)))
      where
        own : Pattern A
        own = slice_index_or (p ∷ ps) i p

        there : (k : ℕ) × ((k < length own.choices.items) × (HoldsAt (λ c. Matches o c.pieces.items (letters path)) own.choices.items k × OneHas (all_lists q) (record { pattern = i; choice = 0 + k }))) → ⊥
        there found =
            let at : 0 + found.0 ≡ found.0 = omega arith in
            none (record { pattern = i; choice = found.0 }) refl
            (hit.0, at_read (p ∷ ps) (λ q. (found.0 < length q.choices.items) × HoldsAt (λ c. Matches o c.pieces.items (letters path)) q.choices.items found.0) i own hit.0 (same_read (p ∷ ps) i p own hit.0) (found.1.0, found.1.1.0))
            (subst (λ z. OneHas (all_lists q) (record { pattern = i; choice = z })) at found.1.1.1)
