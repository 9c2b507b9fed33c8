-- What the tables say, by a test of each of their entries.
use Rattle.wtf8_core.proofs.Common.{◌≡◌, ◌⊎◌, inl, inr, ⊎_elim, ℕ, suc, ◌+◌, ◌-◌, ◌*◌, ◌≤◌, Bool, true, false, leb, eqb, ◌&&◌, ◌||◌, List, [], ◌∷◌, map, ◌<◌, get_or, refl, sym, ap, ◌∙◌, and_parts, or_cases, leb-true, eqb-true, beq, needed_continuations, lead_bits, least_value, class_at, next_at, Row, needed, rows, SomeRow, State, Between, AfterHigh, BadFourth, Refused, BadThird, Class, state_index}
use Rattle.wtf8_core.specs.{Table.state_at, Table.class_index, declared.table.Class.TheVariants.Ascii}
use Rattle.wtf8_core.proofs.lemmas.vectors.ComputedTests.{each_below}

-- a test that computes
pub data Test : Type 0 where
  at_most : ℕ → ℕ → Test
  equal : ℕ → ℕ → Test
  alike : Bool → Bool → Test
  is : State → State → Test
  both : Test → Test → Test
  either : Test → Test → Test

abbrev pub passes : Test → Bool
passes (at_most a b) = leb a b
passes (equal a b) = eqb a b
passes (alike a b) = beq a b
passes (is s t) = eqb (state_index s) (state_index t)
passes (both p q) = passes p && passes q
passes (either p q) = passes p || passes q

-- what it says where it passes
abbrev pub Holds : Test → Type 0
Holds (at_most a b) = a ≤ b
Holds (equal a b) = a ≡ b
Holds (alike a b) = a ≡ b
Holds (is s t) = s ≡ t
Holds (both p q) = Holds p × Holds q
Holds (either p q) = Holds p ⊎ Holds q

-- the state at its own index
pub at_index : (s : State) → state_at (state_index s) ≡ s
unfolding state_at
at_index Between = refl
at_index s = refl

holds : (t : Test) → passes t ≡ true → Holds t
holds (at_most a b) e = leb-true a b e
holds (equal a b) e = eqb-true a b e
holds (alike true true) e = refl
holds (alike false false) e = refl
holds (alike a b) e = cc
holds (is s t) e = sym (at_index s) ∙ ap state_at (eqb-true _ _ e) ∙ at_index t
holds (both p q) e = let w = and_parts (passes p) (passes q) e in (holds p w.0, holds q w.1)
holds (either p q) e = ⊎_elim (λ a. inl (holds p a)) (λ a. inr (holds q a)) (or_cases (passes p) (passes q) e)

-- all of the tests, and some of them
abbrev pub every : List Test → Test
every [] = equal 0 0
every (t ∷ ts) = both t (every ts)

abbrev pub some : List Test → Test
some [] = equal 0 1
some (t ∷ ts) = either t (some ts)

pub some_from : (test : Row → Test) (P : Row → Type 0) (rs : List Row) → Holds (some (map test rs)) → ((r : Row) → Holds (test r) → P r) → SomeRow P rs
some_from test P [] h f = cc
some_from test P (r ∷ rs) h f = ⊎_elim (λ a. inl (f r a)) (λ a. inr (some_from test P rs a f)) h

-- what holds of some row, with what a test says of each
pub some_with : (test : Row → Test) (P : Row → Type 0) (Q : Type 0) (rs : List Row) → SomeRow P rs → Holds (every (map test rs)) → ((r : Row) → P r → Holds (test r) → Q) → Q
some_with test P Q [] s h f = absurd s
some_with test P Q (r ∷ rs) s h f = ⊎_elim (λ a. f r a h.0) (λ a. some_with test P Q rs a h.1 f) s

-- the first byte of each class, in their order
abbrev firsts : List ℕ
firsts = 0x0 ∷ 0x80 ∷ 0x90 ∷ 0xa0 ∷ 0xb0 ∷ 0xc0 ∷ 0xc2 ∷ 0xe0 ∷ 0xe1 ∷ 0xed ∷ 0xee ∷ 0xf0 ∷ 0xf1 ∷ 0xf4 ∷ 0xf5 ∷ []

-- the first and the last byte of a class
pub first_of : Class → ℕ
first_of k = get_or firsts (class_index k) 0

pub last_of : Class → ℕ
last_of k = get_or firsts (suc (class_index k)) 0x100 - 1

-- the byte lies between them, and so do the low bits of a lead
abbrev pub in_class : Class → ℕ → Test
in_class k x =
    every (at_most (first_of k) x ∷ at_most x (last_of k) ∷ either (at_most (first_of k) 0xC1)
    (every (at_most (lead_bits (first_of k)) (lead_bits x) ∷ at_most (lead_bits x) (lead_bits (last_of k)) ∷ equal (needed_continuations x) (needed_continuations (first_of k)) ∷ [])) ∷ [])

pub classed : (x : ℕ) → x < 256 → Holds (in_class (class_at x) x)
unfolding class_at first_of last_of
classed x h = holds (in_class (class_at x) x) (each_below (λ x. passes (in_class (class_at x) x)) 256 x refl h)

-- the bytes of a class are continuations
abbrev pub continuing : Class → Test
continuing k = both (at_most 0x80 (first_of k)) (at_most (last_of k) 0xBF)

-- the row of a class of leads
abbrev pub begins : Bool → Class → Row → Test
begins h k r =
    every (alike r.high h ∷ equal r.read 0 ∷ equal (needed r) (needed_continuations (first_of k))
    ∷ at_most r.least (lead_bits (first_of k)) ∷ at_most (lead_bits (last_of k)) r.most ∷ at_most 0xC2 (first_of k) ∷ [])

abbrev pub between_entry : Bool → Class → State → Test
between_entry h k t =
    either (both (at_most (last_of k) 0x7F) (is t Between))
    (either (both (both (at_most 0x80 (first_of k)) (at_most (last_of k) 0xC1)) (is t Refused)) (some (map (begins h k) (rows t))))

abbrev pub least_after : Class → Row → ℕ
least_after k r = r.least * 0x40 + (first_of k - 0x80)

abbrev pub most_after : Class → Row → ℕ
most_after k r = r.most * 0x40 + (last_of k - 0x80)

-- one more continuation of the class, and one or more are still missing
abbrev pub goes_on : Class → Row → Row → Test
goes_on k r s = every (alike s.high r.high ∷ equal s.read (suc r.read) ∷ equal r.later (suc s.later) ∷ at_most s.least (least_after k r) ∷ at_most (most_after k r) s.most ∷ [])

-- the last continuation, with which every value is refused
abbrev pub all_refused : State → Class → Row → Test
all_refused s k r =
    both (either (both (is s BadFourth) (equal r.read 2)) (both (is s BadThird) (equal r.read 1)))
    (either (at_most (most_after k r + 1) (least_value (needed r)))
    (either (at_most 0x11_0000 (least_after k r)) (both (alike r.high true) (both (at_most 0xDC00 (least_after k r)) (at_most (most_after k r) 0xDFFF)))))

-- the same, and every value is a code point that may come here
abbrev pub all_accepted : State → Class → Row → Test
all_accepted t k r =
    every (at_most (least_value (needed r)) (least_after k r) ∷ at_most (most_after k r) 0x10_FFFF
    ∷ either (alike r.high false) (either (at_most (most_after k r) 0xDBFF) (at_most 0xE000 (least_after k r)))
    ∷ either (both (is t Between) (either (at_most (most_after k r) 0xD7FF) (at_most 0xDC00 (least_after k r))))
    (both (is t AfterHigh) (both (at_most 0xD800 (least_after k r)) (at_most (most_after k r) 0xDBFF))) ∷ [])

abbrev pub open_entry : State → Class → State → Row → Test
open_entry s k t r =
    both (at_most r.read 2)
    (either (both (continuing k) (either (both (equal r.later 0) (either (both (is t Refused) (all_refused s k r)) (all_accepted t k r))) (some (map (goes_on k r) (rows t)))))
    (both (is t Refused) (either (at_most (last_of k) 0x7F) (at_most 0xC0 (first_of k)))))

abbrev pub entry : State → Class → Test
entry Between k = between_entry false k (next_at Between k)
entry AfterHigh k = between_entry true k (next_at AfterHigh k)
entry s k = every (map (open_entry s k (next_at s k)) (rows s))

all_pass : (s : State) (k : Class) → passes (entry s k) ≡ true
unfolding next_at first_of last_of
all_pass Between Ascii = refl
all_pass s Ascii = refl
all_pass s k = refl

-- what the test says of each entry
pub entered : (s : State) (k : Class) → Holds (entry s k)
entered s k = holds (entry s k) (all_pass s k)
