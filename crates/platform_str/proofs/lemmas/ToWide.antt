-- The units of a string, byte by byte.
use Rattle.std.proofs.Common.{◌≡◌, ⊎_elim, ℕ, zero, suc, Bool, true, false, ◌+◌, ◌*◌, ◌/◌, ◌%◌, ◌^◌, ◌<◌, ◌≤◌, cond, ltb, leb, eqb, not, refl, sym, ap, ◌∙◌, subst, arith, List, [], ◌∷◌, ◌++◌, get_or, length, drop, take}
use Rattle.std.proofs.{lemmas.Bool.cond-false, Math.Nat.pow-suc}
use Rattle.wtf8_core.proofs.{Common.cases_lt, lemmas.units.OneToOne.wide_pair, lemmas.forms.Shapes.form_parts}
use Rattle.wtf8_core.specs.{Byte.IsContinuation, Surrogate.high_unit, Surrogate.low_unit}
use Rattle.platform_str.proofs.Common.{nat_tests, wide_single, form_ascii, form_two, form_three, form_past, encode, encode_utf16, IsCodePoint, units, flat_map, IsWtf8, HasUnits, units_of, has_units_of, code_points_in-encoded, AllByRecursion, append_assoc, common_steps}
use Rattle.platform_str.proofs.lemmas.Choices.{none_chosen}
use lib.Pow.{shr-shr}
use Rattle.platform_str.specs.ToWide.{adds_unit, unit_at, units_by_neighbours, units_after_first, chosen}

-- what vectors compute is the unit
abbrev pub two_lanes : ℕ → ℕ → ℕ
two_lanes f s = (f * 0x40 % 2 ^ 16 + s % 0x40) % 2 ^ 16

abbrev three_lanes : ℕ → ℕ → ℕ → ℕ
three_lanes f s t = (two_lanes f s * 0x40 % 2 ^ 16 + t % 0x40) % 2 ^ 16

pub lane_is_unit : (b f s t : ℕ) → f < 2 ^ 8
    → cond (ltb f 0x80) f
    (cond (leb 0xF0 b) ((three_lanes f s t % 0x400 + 0xDC00) % 2 ^ 16)
    (cond (leb 0xF0 f) ((three_lanes f s t / 0x10 + 0xD7C0) % 2 ^ 16)
    (cond (leb 0xE0 f) (three_lanes f s t)
    (two_lanes f s % 0x800)))) ≡ unit_at b f s t
lane_is_unit b f s t h = grind (arith, nat_tests, common_steps)

-- where no lead of four is beside a byte, two choices fewer do
pub lane_without_pair : (b f s t : ℕ) → f < 2 ^ 8 → b < 0xF0 → f < 0xF0
    → cond (ltb f 0x80) f (cond (leb 0xE0 f) (three_lanes f s t) (two_lanes f s % 0x800)) ≡ unit_at b f s t
lane_without_pair b f s t h l m = grind (arith, nat_tests, common_steps, cond-false, lane_is_unit)

-- and a bit where a unit is added
pub lane_is_bit : (b f : ℕ) → ◌≡◌ {A = ℕ} (cond (not (eqb (cond (leb 0xF0 b) 1 (cond (not (eqb (f / 0x40) 2)) 1 0)) 0)) 1 0) (cond (adds_unit b f) 1 0)
lane_is_bit b f = grind (arith, nat_tests)

-- what is appended, and what is left
pub appended : (new old more rest all : List ℕ) → new ≡ old ++ more → all ≡ more ++ rest → new ++ rest ≡ old ++ all
appended new old more rest all n a = ap (λ x. x ++ rest) n ∙ append_assoc old more rest ∙ ap (λ x. old ++ x) (sym a)

-- the mask of a block chooses what its bytes add
bit_chooses : (t : Bool) (x m : ℕ) → m ≡ cond t 1 0 → ◌≡◌ {A = List ℕ} (cond (eqb m 0) [] (x ∷ [])) (cond t (x ∷ []) [])
bit_chooses true x m e = rw e refl
bit_chooses false x m e = rw e refl

pub some_chosen : (n : ℕ) (w lanes : List ℕ) (mask : ℕ) → n ≤ length lanes → n < length w → mask < 2 ^ n
    → ((i : ℕ) → i < n → get_or lanes i 0 ≡ unit_at (get_or w i 0) (get_or w (1 + i) 0) (get_or w (2 + i) 0) (get_or w (3 + i) 0))
    → ((i : ℕ) → i < n → mask / 2 ^ i % 2 ≡ cond (adds_unit (get_or w i 0) (get_or w (1 + i) 0)) 1 0)
    → units_after_first w ≡ chosen lanes mask ++ units_after_first (drop n w)
some_chosen zero w lanes mask p h k u m =
    let none : mask ≡ 0 = omega (arith, k) in
    sym (ap (λ x. chosen lanes x ++ units_after_first w) none ∙ ap (λ x. x ++ units_after_first w) (none_chosen lanes))
some_chosen (suc n) (a ∷ b ∷ bs) (x ∷ xs) mask p h k u m =
    let z : 0 < suc n = omega arith in
    let at = λ (k : ℕ). get_or (a ∷ b ∷ bs) k 0 in
    let half : mask / 2 < 2 ^ n = omega (arith, k, pow-suc 2 n) in
    let first : mask % 2 ≡ cond (adds_unit a b) 1 0 = omega (arith, m 0 z) in
    let bit : (i : ℕ) → mask / 2 / 2 ^ i ≡ mask / 2 ^ suc i = λ i. let e : 1 + i ≡ suc i = omega arith in shr-shr mask 1 i ∙ ap (λ j. mask / 2 ^ j) e in
    let one : (i : ℕ) → 1 + suc i ≡ suc (1 + i) = λ i. omega arith in
    let two : (i : ℕ) → 2 + suc i ≡ suc (2 + i) = λ i. omega arith in
    let three : (i : ℕ) → 3 + suc i ≡ suc (3 + i) = λ i. omega arith in
    let i = some_chosen n (b ∷ bs) xs (mask / 2) (omega (arith, p)) (omega (arith, h)) half
    (λ i l. rw (ap at (one i), ap at (two i), ap at (three i)) at (u (suc i) (omega (arith, l))))
    (λ i l. ap (λ x. x % 2) (bit i) ∙ (rw (ap at (one i)) at (m (suc i) (omega (arith, l))))) in
    ap (λ r. units_by_neighbours a b (get_or bs 0 0) (get_or bs 1 0) ++ r) i
    ∙ sym (append_assoc (units_by_neighbours a b (get_or bs 0 0) (get_or bs 1 0)) (chosen xs (mask / 2)) (units_after_first (drop n (b ∷ bs))))
    ∙ ap (λ r. (r ++ chosen xs (mask / 2)) ++ units_after_first (drop n (b ∷ bs)))
    (ap (λ v. cond (adds_unit a b) (v ∷ []) []) (sym (u 0 z)) ∙ sym (bit_chooses (adds_unit a b) x (mask % 2) first))
some_chosen n w lanes mask p h k u m = absurd (omega (arith, p, h))

-- ASCII adds itself
ascii_adds : (a b s t : ℕ) → b < 0x80 → units_by_neighbours a b s t ≡ b ∷ []
ascii_adds a b s t h = grind (arith, nat_tests, h)

pub block_ascii : (n : ℕ) (w : List ℕ) → n < length w → ((i : ℕ) → i < n → get_or w (1 + i) 0 < 0x80) → units_after_first w ≡ take n (drop 1 w) ++ units_after_first (drop n w)
block_ascii zero w h a = refl
block_ascii (suc n) (p ∷ b ∷ bs) h a =
    let next = λ (i : ℕ). let e : 1 + suc i ≡ suc (1 + i) = omega arith in e in
    ap (λ r. r ++ units_after_first (b ∷ bs)) (ascii_adds p b (get_or bs 0 0) (get_or bs 1 0) (a 0 (omega arith)))
    ∙ ap (λ r. b ∷ r) (block_ascii n (b ∷ bs) (omega (arith, h)) (λ i l. subst (λ k. get_or (p ∷ b ∷ bs) k 0 < 0x80) (next i) (a (suc i) (omega (arith, l)))))
block_ascii n w h a = absurd (omega (arith, h))

pub one_ascii : (w : List ℕ) → 1 < length w → get_or w 1 0 < 0x80 → units_after_first w ≡ get_or w 1 0 ∷ units_after_first (drop 1 w)
one_ascii (a ∷ b ∷ bs) h l = ap (λ r. r ++ units_after_first (b ∷ bs)) (ascii_adds a b (get_or bs 0 0) (get_or bs 1 0) l)
one_ascii w h l = absurd (omega (arith, h))

-- one byte adds nothing
pub none_after : (w : List ℕ) → length w ≤ 1 → units_after_first w ≡ []
none_after (a ∷ b ∷ bs) h = absurd (omega (arith, h))
none_after w h = refl

-- a continuation adds nothing, but for the one after a lead of four
adds_nothing : (a k s t : ℕ) → a < 0xF0 → 0x80 ≤ k → k < 0xC0 → units_by_neighbours a k s t ≡ []
adds_nothing a k s t h l m = grind (arith, nat_tests, h, l, m)

-- the bytes of a code point, one by one
two_adds : (a c t : ℕ) → a < 0xF0 → 0x80 ≤ c → c < 0x800 → units_by_neighbours a (0xC0 + c / 0x40) (0x80 + c % 0x40) t ≡ c ∷ []
two_adds a c t h l m = grind (arith, nat_tests, h, l, m)

three_adds : (a c : ℕ) → a < 0xF0 → 0x800 ≤ c → c < 0x1_0000 → units_by_neighbours a (0xE0 + c / 0x1000) (0x80 + (c / 0x40) % 0x40) (0x80 + c % 0x40) ≡ c ∷ []
three_adds a c h l m = grind (arith, nat_tests, h, l, m)

high_adds : (a c : ℕ) → a < 0xF0 → 0x1_0000 ≤ c → IsCodePoint c → units_by_neighbours a (0xF0 + c / 0x4_0000) (0x80 + (c / 0x1000) % 0x40) (0x80 + (c / 0x40) % 0x40) ≡ high_unit c ∷ []
high_adds a c h l m = grind (arith, nat_tests, h, l, m)

low_adds : (c : ℕ) → 0x1_0000 ≤ c → IsCodePoint c → units_by_neighbours (0xF0 + c / 0x4_0000) (0x80 + (c / 0x1000) % 0x40) (0x80 + (c / 0x40) % 0x40) (0x80 + c % 0x40) ≡ low_unit c ∷ []
low_adds c l m = grind (arith, nat_tests, l, m)

skip : (f k : ℕ) (rest : List ℕ) → f < 0xF0 → 0x80 ≤ k → k < 0xC0 → units_after_first (f ∷ k ∷ rest) ≡ units_after_first (k ∷ rest)
skip f k rest h l m = ap (λ x. x ++ units_after_first (k ∷ rest)) (adds_nothing f k (get_or rest 0 0) (get_or rest 1 0) h l m)

-- a form adds the units of its code point, and its last byte is no lead of four
abbrev FormAdds : ℕ → ℕ → List ℕ → Type 0
FormAdds a c rest = (last : ℕ) × (last < 0xF0) × (units_after_first (a ∷ (encode c ++ rest)) ≡ encode_utf16 c ++ units_after_first (last ∷ rest))

form_adds : (a c : ℕ) (rest : List ℕ) → a < 0xF0 → IsCodePoint c → FormAdds a c rest
form_adds a c rest h i = ⊎_elim one (λ g. ⊎_elim (two g) (λ n. ⊎_elim (three n) four (cases_lt c 0x1_0000)) (cases_lt c 0x800)) (cases_lt c 0x80)
  where
    all : List ℕ → List ℕ
    all form = units_after_first (a ∷ (form ++ rest))

    j : ℕ
    j = 0x80 + (c / 0x40) % 0x40

    k : ℕ
    k = 0x80 + c % 0x40

    one : c < 0x80 → FormAdds a c rest
    one l =
        let adds = ascii_adds a c (get_or rest 0 0) (get_or rest 1 0) l ∙ sym (wide_single c (omega (arith, l))) in
        (c, omega (arith, l), ap all (form_ascii c l) ∙ ap (λ x. x ++ units_after_first (c ∷ rest)) adds)

    two : 0x80 ≤ c → c < 0x800 → FormAdds a c rest
    two g l =
        let f = 0xC0 + c / 0x40 in
        let adds = two_adds a c (get_or rest 0 0) h g l ∙ sym (wide_single c (omega (arith, l))) in
        let none = skip f k rest (omega (arith, l)) (omega arith) (omega arith) in
        (k, omega arith, ap all (form_two c g l) ∙ ap (λ x. x ++ units_after_first (f ∷ k ∷ rest)) adds ∙ ap (λ x. encode_utf16 c ++ x) none)

    three : 0x800 ≤ c → c < 0x1_0000 → FormAdds a c rest
    three g l =
        let f = 0xE0 + c / 0x1000 in
        let adds = three_adds a c h g l ∙ sym (wide_single c l) in
        let none = skip f j (k ∷ rest) (omega (arith, l)) (omega arith) (omega arith) ∙ skip j k rest (omega arith) (omega arith) (omega arith) in
        (k, omega arith, ap all (form_three c g l) ∙ ap (λ x. x ++ units_after_first (f ∷ j ∷ k ∷ rest)) adds ∙ ap (λ x. encode_utf16 c ++ x) none)

    four : 0x1_0000 ≤ c → FormAdds a c rest
    four g =
        let b = 0x80 + (c / 0x1000) % 0x40 in
        let after = units_after_first (b ∷ j ∷ k ∷ rest) in
        let adds = ap (λ x. (high_unit c ∷ []) ++ (x ++ after)) (low_adds c g i) ∙ ap (λ x. x ++ after) (sym (wide_pair c g)) in
        let none = skip b j (k ∷ rest) (omega arith) (omega arith) (omega arith) ∙ skip j k rest (omega arith) (omega arith) (omega arith) in
        (k, omega arith, ap all (form_past c g) ∙ ap (λ x. x ++ units_after_first ((0xF0 + c / 0x4_0000) ∷ b ∷ j ∷ k ∷ rest)) (high_adds a c h g i) ∙ adds ∙ ap (λ x. encode_utf16 c ++ x) none)

forms_add : (a : ℕ) (cs : List ℕ) → a < 0xF0 → AllByRecursion IsCodePoint cs → units_after_first (a ∷ flat_map encode cs) ≡ units cs
forms_add a [] h i = refl
forms_add a (c ∷ cs) h i =
    let f = form_adds a c (flat_map encode cs) h i.0 in
    f.2 ∙ ap (λ x. encode_utf16 c ++ x) (forms_add f.0 cs f.1 i.1)

-- the bytes of a string add its units
pub string_adds : (s : List ℕ) → IsWtf8 s → units_after_first (0 ∷ s) ≡ units_of s
string_adds s w = ap (λ x. units_after_first (0 ∷ x)) w.1.joined ∙ forms_add 0 w.0 (omega arith) w.1.code_points ∙ ap units (sym (code_points_in-encoded s w.0 w.1))

-- a string begins with a unit, since no form begins with a continuation, and its other bytes add the others
no_continuation : (b : ℕ) → (IsContinuation b → ⊥) → adds_unit 0 b ≡ true
no_continuation b h = grind (arith, nat_tests, h)

begins_new : (cs : List ℕ) → 0 < length (flat_map encode cs) → adds_unit 0 (get_or (flat_map encode cs) 0 0) ≡ true
begins_new [] h = absurd (omega (arith, h))
begins_new (c ∷ cs) h =
    let parts = form_parts c in
    ap (λ form. adds_unit 0 (get_or (form ++ flat_map encode cs) 0 0)) parts.is ∙ no_continuation parts.lead parts.begins

pub begins_with : (s : List ℕ) → IsWtf8 s → 0 < length s → units_of s ≡ unit_at 0 (get_or s 0 0) (get_or s 1 0) (get_or s 2 0) ∷ units_after_first s
begins_with [] w h = absurd (omega (arith, h))
begins_with (b ∷ bs) w h =
    let new = subst (λ x. 0 < length x → adds_unit 0 (get_or x 0 0) ≡ true) (sym w.1.joined) (begins_new w.0) h in
    sym (string_adds (b ∷ bs) w) ∙ ap (λ t. cond t (unit_at 0 b (get_or bs 0 0) (get_or bs 1 0) ∷ []) [] ++ units_after_first (b ∷ bs)) new

pub no_units : (s : List ℕ) → IsWtf8 s → length s ≡ 0 → units_of s ≡ []
no_units s w h = sym (string_adds s w) ∙ none_after (0 ∷ s) (omega (arith, h))

-- units written into an empty vector
pub has_written : {b e none new : List ℕ} → IsWtf8 e → e ≡ b → none ≡ [] → new ≡ none ++ units_of e → HasUnits b new
has_written {b} {e} {none} {new} w s n is = subst (λ x. HasUnits x new) s (subst (HasUnits e) (sym (is ∙ ap (λ x. x ++ units_of e) n)) (has_units_of e w))
