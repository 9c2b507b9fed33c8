-- The bytes of units, unit by unit.
use Rattle.std.proofs.Common.{◌≡◌, ℕ, zero, suc, ◌+◌, ◌-◌, ◌*◌, ◌/◌, ◌%◌, ◌≤◌, ◌<◌, true, false, cond, List, [], ◌∷◌, ◌++◌, length, length-append, take, drop, get_or, Fits, w16, refl, sym, ap, ◌∙◌, subst, arith, append_assoc}
use Rattle.platform_str.proofs.Common.{cond_both, nat_tests, take-append-drop, recursion_from_All, All-from_get_or, AllByRecursion, flat_map, is_pair, paired, encode, HasUnits, IsUnit, encoded_units, common_steps}
use Rattle.wtf8_core.specs.Decoder.{code_points_of}
use Rattle.platform_str.specs.FromWide.{bytes_by_neighbours, bytes_after_first, word_bytes}

-- numbers of 16 bits are units
pub are_units : (us : List ℕ) → ((i : ℕ) → Fits w16 (get_or us i 0)) → AllByRecursion IsUnit us
are_units us h = recursion_from_All IsUnit us (All-from_get_or IsUnit us 0 (λ i _. omega (arith, h i)))

-- what one unit gives
ascii_gives : (b u v : ℕ) → u < 0x80 → bytes_by_neighbours b u v ≡ u ∷ []
unfolding encode
ascii_gives b u v h = grind (arith, nat_tests, h)

gives_some : (b u v : ℕ) → 1 ≤ length (bytes_by_neighbours b u v)
unfolding encode
gives_some b u v = grind (arith, nat_tests)

pub alone_gives : (b u v : ℕ) → is_pair b u ≡ false → is_pair u v ≡ false → bytes_by_neighbours b u v ≡ encode u
alone_gives b u v p q = ap (λ t. cond t (drop 3 (encode (paired b u))) (cond (is_pair u v) (take 3 (encode (paired u v))) (encode u))) p ∙ ap (λ t. cond t (take 3 (encode (paired u v))) (encode u)) q

pub gives_few : (b u v : ℕ) → IsUnit u → length (bytes_by_neighbours b u v) ≤ 3
unfolding encode
gives_few b u v i = grind (arith, nat_tests)

-- and what a pair gives
pair_gives : (b u v w : ℕ) → is_pair b u ≡ false → is_pair u v ≡ true → bytes_by_neighbours b u v ++ bytes_by_neighbours u v w ≡ encode (paired u v)
pair_gives b u v w p q = grind (arith, nat_tests, common_steps, take-append-drop)

-- the last unit of a pair, and the first
pub last_gives : (b u v : ℕ) → is_pair b u ≡ true → bytes_by_neighbours b u v ≡ (0x80 + u % 0x40) ∷ []
unfolding encode
last_gives b u v p = grind (arith, nat_tests, p)

pub high_gives : (b u v : ℕ) → is_pair b u ≡ false → is_pair u v ≡ true
    → bytes_by_neighbours b u v ≡ (0xF0 + (u - 0xD7C0) / 0x100) ∷ (0x80 + (u - 0xD7C0) / 4 % 0x40) ∷ (0x80 + (u - 0xD7C0) % 4 * 0x10 + v / 0x40 % 0x10) ∷ []
unfolding encode
high_gives b u v p q = grind (arith, nat_tests, p, q)

-- a unit below the surrogates
pub below_gives : (b u v : ℕ) → u < 0xD800 → bytes_by_neighbours b u v ≡ encode u
below_gives b u v h = grind (arith, nat_tests, h)

pub ruleset giving = (below_gives, last_gives, high_gives, alone_gives)

no_pair_at_end : (u : ℕ) → is_pair u 0 ≡ false
no_pair_at_end u = grind (arith, nat_tests)

pub no_pair_after_low : (b u v : ℕ) → is_pair b u ≡ true → is_pair u v ≡ false
no_pair_after_low b u v p = grind (arith, nat_tests, p)

-- the units after one that isn't the first of a pair give the forms of their code points
forms_given : (b : ℕ) (us : List ℕ) → is_pair b (get_or us 0 0) ≡ false → bytes_after_first (b ∷ us) ≡ flat_map encode (code_points_of us)
unfolding code_points_of
forms_given b [] n = refl
forms_given b (u ∷ []) n = ap (λ x. x ++ []) (alone_gives b u 0 n (no_pair_at_end u))
forms_given b (u ∷ v ∷ us) n =
    cond_both (is_pair u v) _ _ (λ cs. bytes_after_first (b ∷ u ∷ v ∷ us) ≡ flat_map encode cs)
    (λ e.
    let w = get_or us 0 0 in
    sym (append_assoc (bytes_by_neighbours b u v) (bytes_by_neighbours u v w) (bytes_after_first (v ∷ us)))
    ∙ ap (λ x. x ++ bytes_after_first (v ∷ us)) (pair_gives b u v w n e)
    ∙ ap (λ x. encode (paired u v) ++ x) (forms_given v us (no_pair_after_low u v w e)))
    (λ e. ap (λ x. x ++ bytes_after_first (u ∷ v ∷ us)) (alone_gives b u v n e) ∙ ap (λ x. encode u ++ x) (forms_given u (v ∷ us) e))

-- so all units give the bytes of a string
pub string_given : (us : List ℕ) → AllByRecursion IsUnit us → HasUnits (bytes_after_first (0 ∷ us)) us
string_given us a = subst (λ b. HasUnits b us) (sym (forms_given 0 us (grind (arith, nat_tests)))) (encoded_units us a)

-- the first unit gives its part
pub first_gives : (us : List ℕ) (v : ℕ) → 0 < length us → v ≡ get_or us 1 0 → bytes_after_first (0 ∷ us) ≡ bytes_by_neighbours 0 (get_or us 0 0) v ++ bytes_after_first us
first_gives [] v h e = absurd (omega (arith, h))
first_gives (u ∷ us) v h e = ap (λ after. bytes_by_neighbours 0 u after ++ bytes_after_first (u ∷ us)) (sym e)

-- and so does the next one
pub next_gives : (w : List ℕ) (v : ℕ) → 1 < length w → v ≡ get_or w 2 0 → bytes_after_first w ≡ bytes_by_neighbours (get_or w 0 0) (get_or w 1 0) v ++ bytes_after_first (drop 1 w)
next_gives (a ∷ b ∷ bs) v h e = ap (λ after. bytes_by_neighbours a b after ++ bytes_after_first (b ∷ bs)) (sym e)
next_gives w v h e = absurd (omega (arith, h))

-- nothing comes after one unit
pub none_after : (w : List ℕ) → length w ≤ 1 → bytes_after_first w ≡ []
none_after (a ∷ b ∷ bs) h = absurd (omega (arith, h))
none_after w h = refl

-- there are no more units than bytes
pub some_after : (w : List ℕ) → length w ≤ length (bytes_after_first w) + 1
some_after (a ∷ b ∷ bs) = omega (arith, gives_some a b (get_or bs 0 0), length-append (bytes_by_neighbours a b (get_or bs 0 0)) (bytes_after_first (b ∷ bs)), some_after (b ∷ bs))
some_after w = omega arith

-- what a block of ASCII gives
pub block_ascii : (n : ℕ) (w : List ℕ) → n < length w → AllByRecursion (λ u. u < 0x80) (take n (drop 1 w)) → bytes_after_first w ≡ take n (drop 1 w) ++ bytes_after_first (drop n w)
block_ascii zero w h a = refl
block_ascii (suc n) (p ∷ b ∷ bs) h a =
    ap (λ r. r ++ bytes_after_first (b ∷ bs)) (ascii_gives p b (get_or bs 0 0) a.0)
    ∙ ap (λ r. b ∷ r) (block_ascii n (b ∷ bs) (omega (arith, h)) a.1)
block_ascii n w h a = absurd (omega (arith, h))

-- and a block by its words
pub block_words : (n : ℕ) (w words : List ℕ) → length words ≡ n → n < length w
    → ((i : ℕ) → i < n → word_bytes (get_or words i 0) ≡ bytes_by_neighbours (get_or w i 0) (get_or w (1 + i) 0) (get_or w (2 + i) 0))
    → bytes_after_first w ≡ flat_map word_bytes words ++ bytes_after_first (drop n w)
block_words zero w [] p h g = refl
block_words (suc n) (a ∷ b ∷ bs) (x ∷ xs) p h g =
    let rest = bytes_after_first (drop n (b ∷ bs)) in
    let shifted : (i : ℕ) → i < n → word_bytes (get_or xs i 0) ≡ bytes_by_neighbours (get_or (b ∷ bs) i 0) (get_or (b ∷ bs) (1 + i) 0) (get_or (b ∷ bs) (2 + i) 0) =
    λ i l. let one : 1 + suc i ≡ suc (1 + i) = omega arith in
    let two : 2 + suc i ≡ suc (2 + i) = omega arith in
    rw (ap (λ k. get_or (a ∷ b ∷ bs) k 0) one, ap (λ k. get_or (a ∷ b ∷ bs) k 0) two) at (g (suc i) (omega (arith, l))) in
    let more = block_words n (b ∷ bs) xs (omega (arith, p)) (omega (arith, h)) shifted in
    ap (λ r. bytes_by_neighbours a b (get_or bs 0 0) ++ r) more
    ∙ sym (append_assoc (bytes_by_neighbours a b (get_or bs 0 0)) (flat_map word_bytes xs) rest)
    ∙ ap (λ r. (r ++ flat_map word_bytes xs) ++ rest) (sym (g 0 (omega arith)))
block_words n w words p h g = absurd (omega (arith, p, h))
