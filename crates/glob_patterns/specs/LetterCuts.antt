-- The symbols of a string on both sides of a byte of ASCII.
use Rattle.std.proofs.Common.{◌≡◌, ⊎_elim, inr, ℕ, zero, suc, ◌+◌, ◌-◌, ◌<◌, ◌≤◌, List, [], ◌∷◌, ◌++◌, map, length, take, drop, refl, sym, ap, ◌∙◌, subst, arith, append_assoc, append-nil, length-append, length-drop}
use Rattle.std.proofs.lemmas.Bool.{cases_lt}
use Rattle.std.proofs.lemmas.List.{drop_at, take_at}
use Rattle.std.specs.Str.{IsUtf8, chars}
use Rattle.wtf8_core.specs.Character.{WholeCharacter}
use Rattle.wtf8_core.specs.Covered.{IsCovered}
use Rattle.wtf8_core.specs.Chunks.{Chunk}
use Rattle.wtf8_core.proofs.lemmas.chunks.OneList.{some_chunks}
use Rattle.os_str_ext.specs.Chunks.{chunks_of, IsFirstChunk}
use Rattle.os_str_ext.specs.Symbols.{chunks_symbols, symbols_of, unit_symbol}
use Rattle.os_str_ext.specs.declared.symbols.Symbol.TheVariants.{Character}
use Rattle.std.proofs.lemmas.List.{get_or_at, map-append, take-append-le, drop-append-le, drop_all, take_all}
use Rattle.std.proofs.lemmas.Str.{IsUtf8-take, IsUtf8-drop, IsUtf8-past_char, IsCharBoundary-before_ascii, chars-nil, chars-append, chars_past_char, encode_ascii}
use Rattle.std.specs.Str.{IsCharBoundary}
use Rattle.os_str_ext.specs.declared.symbols.Symbol.{Symbol}
use Rattle.wtf8_core.specs.Chunks.{AreChunks}
use Rattle.wtf8_core.proofs.lemmas.characters.Seams.{covered_within}
use Rattle.wtf8_core.specs.Covered.{CrossesNoCharacter}
use Rattle.wtf8_core.proofs.lemmas.characters.Overlaps.{no_boundary_inside}
use Rattle.os_str_ext.proofs.lemmas.Indices.{ascii_at}
use Rattle.os_str_ext.proofs.lemmas.EachChunk.{first_of}
use Rattle.os_str_ext.proofs.lemmas.FirstChunk.{first_and_rest}
use Rattle.os_str_ext.proofs.lemmas.SymbolSteps.{no_symbols}

-- bytes that aren't empty have a first chunk
pub record SomeFirst (s : List ℕ) : Type 0 where
  pub part : ℕ
  pub end : ℕ
  pub first : IsFirstChunk s part end

pub some_first : (s : List ℕ) → 0 < length s → SomeFirst s
some_first s some = by_chunks (chunks_of s) (some_chunks s).1
  where
    by_chunks : (cs : List Chunk) → AreChunks s cs → SomeFirst s
    by_chunks [] h = absurd (omega (arith, some, ap length h.joins))
    by_chunks (c ∷ cs) h = let f = first_of s c cs h in record { part = length c.0; end = f.end; first = f.ends }

module _ (units : List ℕ → List ℕ) (none : units [] ≡ []) where
  abbrev after_part : List ℕ → ℕ → ℕ → List Symbol
  after_part s m e = map Character (chars (drop m (take e s))) ++ symbols_of units (drop e s)

  by_first : (s : List ℕ) (m e : ℕ) → 0 < length s → IsFirstChunk s m e → symbols_of units s ≡ map unit_symbol (units (take m s)) ++ after_part s m e
  by_first s m e some h = ap (chunks_symbols units) (first_and_rest s m e h some) ∙ append_assoc (map unit_symbol (units (take m s))) (map Character (chars (drop m (take e s)))) (symbols_of units (drop e s))

  -- the same where the first chunk may be empty
  laid_out : (s : List ℕ) (m e : ℕ) → m ≤ e → (0 < e → IsFirstChunk s m e) → symbols_of units s ≡ map unit_symbol (units (take m s)) ++ after_part s m e
  laid_out s m e le h =
      ⊎_elim (λ some. let f = h some in by_first s m e (omega (arith, some, f.within)) f)
      (λ ge. let zm : m ≡ 0 = omega (arith, ge, le) in let ze : e ≡ 0 = omega (arith, ge) in rw (zm, ze) (sym (ap (λ us. map unit_symbol us ++ (map Character (chars []) ++ symbols_of units s)) none ∙ ap (λ cs. map Character cs ++ symbols_of units s) chars-nil))) (cases_lt 0 e)

  -- around a byte of ASCII
  module _ (a c : List ℕ) (b : ℕ) (low : b < 0x80) where
    abbrev s : List ℕ
    s = a ++ b ∷ c

    abbrev i : ℕ
    i = length a

    inside : i < length s
    inside = omega (arith, length-append a (b ∷ c))

    whole : WholeCharacter s i (i + 1)
    whole = ascii_at s i inside (subst (λ x. x < 0x80) (sym (get_or_at a b c 0 i refl)) low)

    is_covered : IsCovered s i
    is_covered = record { start = i; end = i + 1; whole = whole; from = omega arith; below = omega arith }

    covered_in_prefix : (k : ℕ) → IsCovered a k → IsCovered s k
    covered_in_prefix k h = subst (IsCovered s) (let q : 0 + k ≡ k = omega arith in q) (covered_within s [] a (b ∷ c) k refl h)

    next_crosses : CrossesNoCharacter s (i + 1)
    next_crosses x y w l m = no_boundary_inside s x y (i + 1) w (record { is = inr (inr (inr (i, whole))) }) l m

    split_after : s ≡ (a ++ b ∷ []) ++ c
    split_after = sym (append_assoc a (b ∷ []) c)

    size_after : length (a ++ b ∷ []) ≡ i + 1
    size_after = length-append a (b ∷ [])

    covered_in_suffix : (k : ℕ) → IsCovered c k → IsCovered s (i + 1 + k)
    covered_in_suffix k h = subst (λ n. IsCovered s (n + k)) size_after (covered_within s (a ++ b ∷ []) c [] k (split_after ∙ ap (λ z. (a ++ b ∷ []) ++ z) (sym (append-nil c))) h)

    module _ (m e : ℕ) (h : IsFirstChunk s m e) where
      part_before : m ≤ i
      part_before = ⊎_elim (λ l. absurd (h.uncovered i l is_covered)) (λ ge. ge) (cases_lt i m)

      some_end : 0 < e
      some_end = let k = h.some (let p = part_before in omega (arith, inside)) in omega arith

      -- the chunk ends before the byte
      module _ (before : e ≤ i) where
        same_prefix : take e s ≡ take e a
        same_prefix = take-append-le e a (b ∷ c) before

        same_part : take m s ≡ take m a
        same_part = take-append-le m a (b ∷ c) part_before

        rest_is : drop e s ≡ drop e a ++ b ∷ c
        rest_is = drop-append-le e a (b ∷ c) before

        first_of_prefix : IsFirstChunk a m e
        first_of_prefix = record {
          ordered = h.ordered;
          within = before;
          uncovered = λ k l u. h.uncovered k l (covered_in_prefix k u);
          text = subst (λ z. IsUtf8 (drop m z)) same_prefix h.text;
          some = λ l. h.some (omega (arith, inside, l));
          ended = λ l u. h.ended (omega (arith, inside, l)) (covered_in_prefix e u);
        }

        pub one_chunk : symbols_of units (drop e s) ≡ symbols_of units (drop e a) ++ Character b ∷ symbols_of units c → symbols_of units s ≡ symbols_of units a ++ Character b ∷ symbols_of units c
        one_chunk more =
            let us = map unit_symbol (units (take m a)) in
            let cs = map Character (chars (drop m (take e a))) in
            let tail = Character b ∷ symbols_of units c in
            by_first s m e (omega (arith, inside)) h
            ∙ ap (λ p. map unit_symbol (units p) ++ after_part s m e) same_part
            ∙ ap (λ p. us ++ (map Character (chars (drop m p)) ++ symbols_of units (drop e s))) same_prefix
            ∙ ap (λ r. us ++ (cs ++ r)) more
            ∙ ap (λ r. us ++ r) (sym (append_assoc cs (symbols_of units (drop e a)) tail))
            ∙ sym (append_assoc us (cs ++ symbols_of units (drop e a)) tail)
            ∙ ap (λ r. r ++ tail) (sym (by_first a m e (let p = some_end in omega (arith, before)) first_of_prefix))

      -- the byte is in the chunk
      module _ (reaches : i < e) where
        abbrev k : ℕ
        k = e - (i + 1)

        up_to : take e s ≡ a ++ b ∷ take k c
        up_to =
            ap (take e) split_after
            ∙ ap (λ n. take n ((a ++ b ∷ []) ++ c)) (let q : e ≡ length (a ++ b ∷ []) + k = omega (arith, size_after, reaches) in q)
            ∙ take_longer (a ++ b ∷ []) c k
            ∙ append_assoc a (b ∷ []) (take k c)
          where
            take_longer : (xs ys : List ℕ) (n : ℕ) → take (length xs + n) (xs ++ ys) ≡ xs ++ take n ys
            take_longer [] ys n = ap (λ m. take m ys) (let q : 0 + n ≡ n = omega arith in q)
            take_longer (x ∷ xs) ys n = ap (λ m. take m (x ∷ (xs ++ ys))) (let q : length (x ∷ xs) + n ≡ suc (length xs + n) = omega arith in q) ∙ ap (λ z. x ∷ z) (take_longer xs ys n)

        past : drop e s ≡ drop k c
        past =
            ap (drop e) split_after
            ∙ ap (λ n. drop n ((a ++ b ∷ []) ++ c)) (let q : e ≡ length (a ++ b ∷ []) + k = omega (arith, size_after, reaches) in q)
            ∙ drop_longer (a ++ b ∷ []) c k
          where
            drop_longer : (xs ys : List ℕ) (n : ℕ) → drop (length xs + n) (xs ++ ys) ≡ drop n ys
            drop_longer [] ys n = ap (λ m. drop m ys) (let q : 0 + n ≡ n = omega arith in q)
            drop_longer (x ∷ xs) ys n = ap (λ m. drop m (x ∷ (xs ++ ys))) (let q : length (x ∷ xs) + n ≡ suc (length xs + n) = omega arith in q) ∙ drop_longer xs ys n

        text_is : drop m (take e s) ≡ drop m a ++ b ∷ take k c
        text_is = ap (drop m) up_to ∙ drop-append-le m a (b ∷ take k c) part_before

        text : IsUtf8 (drop m a ++ b ∷ take k c)
        text = subst IsUtf8 text_is h.text

        abbrev t : List ℕ
        t = drop m a ++ b ∷ take k c

        edge : IsCharBoundary t (length (drop m a))
        edge =
            let within : length (drop m a) < length t = omega (arith, length-append (drop m a) (b ∷ take k c)) in
            IsCharBoundary-before_ascii t (length (drop m a)) within (subst (λ x. x < 0x80) (sym (get_or_at (drop m a) b (take k c) 0 (length (drop m a)) refl)) low)

        text_before : IsUtf8 (drop m a)
        text_before = subst IsUtf8 (take_at (drop m a) (b ∷ take k c) (length (drop m a)) refl) (IsUtf8-take t (length (drop m a)) text edge)

        text_from : IsUtf8 (b ∷ take k c)
        text_from = subst IsUtf8 (drop_at (drop m a) (b ∷ take k c) (length (drop m a)) refl) (IsUtf8-drop t (length (drop m a)) text edge)

        text_after : IsUtf8 (take k c)
        text_after = IsUtf8-past_char (b ∷ take k c) (take k c) b text_from (ap (λ z. z ++ take k c) (sym (encode_ascii b low)))

        first_of_a : 0 < i → IsFirstChunk a m i
        first_of_a some = record {
          ordered = part_before;
          within = omega arith;
          uncovered = λ j l u. h.uncovered j l (covered_in_prefix j u);
          text = subst (λ z. IsUtf8 (drop m z)) (sym (take_all i a (omega arith))) text_before;
          some = λ l. l;
          ended = λ l u. absurd (omega (arith, l));
        }

        first_of_c : 0 < k → IsFirstChunk c 0 k
        first_of_c some = record {
          ordered = omega arith;
          within = let w = h.within in omega (arith, w, ap length split_after, length-append (a ++ b ∷ []) c, size_after, reaches);
          uncovered = λ j l u. absurd (omega (arith, l));
          text = text_after;
          some = λ l. some;
          ended = λ l u. h.ended (let w = h.within in omega (arith, l, ap length split_after, length-append (a ++ b ∷ []) c, size_after, reaches)) (subst (IsCovered s) (let q : i + 1 + k ≡ e = omega (arith, reaches) in q) (covered_in_suffix k u));
        }

        pub in_chunk : symbols_of units s ≡ symbols_of units a ++ Character b ∷ symbols_of units c
        in_chunk =
            let us = map unit_symbol (units (take m a)) in
            let cs = map Character (chars (drop m a)) in
            let ds = map Character (chars (take k c)) in
            let rest = symbols_of units (drop k c) in
            let of_a : symbols_of units a ≡ us ++ (cs ++ [])
            = laid_out a m i part_before first_of_a ∙ ap (λ z. us ++ (map Character (chars (drop m z)) ++ symbols_of units (drop i a))) (take_all i a (omega arith)) ∙ ap (λ z. us ++ (cs ++ z)) (no_symbols units (drop i a) (drop_all i a (omega arith))) in
            let of_c : symbols_of units c ≡ ds ++ rest
            = laid_out c 0 k (omega arith) first_of_c ∙ ap (λ z. map unit_symbol z ++ (ds ++ rest)) none in
            let text_chars : chars (drop m (take e s)) ≡ chars (drop m a) ++ b ∷ chars (take k c)
            = ap chars text_is ∙ chars-append (drop m a) (b ∷ take k c) text_before ∙ ap (λ z. chars (drop m a) ++ z) (chars_past_char (b ∷ take k c) (take k c) b text_from (ap (λ z. z ++ take k c) (sym (encode_ascii b low)))) in
            by_first s m e (omega (arith, inside)) h
            ∙ ap (λ p. map unit_symbol (units p) ++ after_part s m e) (take-append-le m a (b ∷ c) part_before)
            ∙ ap (λ z. us ++ (map Character z ++ symbols_of units (drop e s))) text_chars
            ∙ ap (λ z. us ++ (z ++ symbols_of units (drop e s))) (map-append Character (chars (drop m a)) (b ∷ chars (take k c)))
            ∙ ap (λ z. us ++ ((cs ++ Character b ∷ ds) ++ symbols_of units z)) past
            ∙ ap (λ z. us ++ z) (append_assoc cs (Character b ∷ ds) rest)
            ∙ ap (λ z. us ++ (cs ++ Character b ∷ z)) (sym of_c)
            ∙ sym (append_assoc us cs (Character b ∷ symbols_of units c))
            ∙ ap (λ z. z ++ Character b ∷ symbols_of units c) (ap (λ z. us ++ z) (sym (append-nil cs)) ∙ sym of_a)

  abbrev IsCut : List ℕ → List ℕ → ℕ → Type 0
  IsCut a c b = symbols_of units (a ++ b ∷ c) ≡ symbols_of units a ++ Character b ∷ symbols_of units c

  cut_by_shorter : (a c : List ℕ) (b : ℕ) → b < 0x80 → ((shorter : List ℕ) → length shorter < length a → IsCut shorter c b) → IsCut a c b
  cut_by_shorter a c b low cuts = by_size (some_first (a ++ b ∷ c) (omega (arith, length-append a (b ∷ c))))
    where
      by_size : SomeFirst (a ++ b ∷ c) → IsCut a c b
      by_size f =
          ⊎_elim (λ l. in_chunk a c b low f.part f.end f.first l)
          (λ le. one_chunk a c b low f.part f.end f.first le
          (ap (symbols_of units) (rest_is a c b low f.part f.end f.first le) ∙ cuts (drop f.end a) (let p = some_end a c b low f.part f.end f.first in omega (arith, length-drop f.end a, le)))) (cases_lt (length a) f.end)

  pub around_ascii : (n : ℕ) (a c : List ℕ) (b : ℕ) → length a ≤ n → b < 0x80 → IsCut a c b
  around_ascii zero a c b short low = cut_by_shorter a c b low (λ shorter l. absurd (omega (arith, l, short)))
  around_ascii (suc n) a c b short low = cut_by_shorter a c b low (λ shorter l. around_ascii n shorter c b (omega (arith, l, short)) low)
