-- Words of 128 flags.
use Rattle.std.proofs.Common.{◌≡◌, ◌⊎◌, ◌↔◌, inl, inr, ◌<◌, ◌+◌, ◌*◌, ◌/◌, ◌%◌, ◌^◌, ℕ, zero, suc, Bool, true, IsTrue, refl, sym, ap, ◌∙◌, subst, arith}
use Rattle.std.specs.Int.{bit_at}
use Rattle.std.specs.Int.RustNames.{bit_and, bit_or}
use Rattle.std.proofs.lemmas.Nat.Bits.{bit_at_and, bit_at_or, bit_at-lt, bit_at-suc, bit_at_lowest, bit_at_cat_low, bit_at-zero}
use Rattle.wildcards.specs.Flags.{Set, IsShifted, SetsLowest, IsStepped}

-- what is lost above doesn't change the bits below
within : (n i : ℕ) → i < 128 → bit_at (n % 2 ^ 128) i ≡ bit_at n i
within n i l =
    let e : n / 2 ^ 128 * 2 ^ 128 + n % 2 ^ 128 ≡ n = omega arith in
    sym (bit_at_cat_low (n / 2 ^ 128) 128 (n % 2 ^ 128) i l) ∙ ap (λ z. bit_at z i) e

pub shift_lowest : (n : ℕ) → bit_at (n * 2 % 2 ^ 128) zero ≡ 0
shift_lowest n = within (n * 2) zero (omega arith) ∙ bit_at_lowest (n * 2) ∙ omega arith

pub shift_higher : (n i : ℕ) → suc i < 128 → bit_at (n * 2 % 2 ^ 128) (suc i) ≡ bit_at n i
shift_higher n i l =
    let e : n * 2 / 2 ≡ n = omega arith in
    within (n * 2) (suc i) l ∙ bit_at-suc (n * 2) i ∙ ap (λ z. bit_at z i) e

pub is_shifted : (n : ℕ) → IsShifted n (n * 2 % 2 ^ 128)
is_shifted n = record {
  lowest = λ h. let e = h.one in omega (arith, shift_lowest n);
  higher = λ i l. (λ h. record { one = sym (shift_higher n i l) ∙ h.one }, λ h. record { one = shift_higher n i l ∙ h.one });
}

pub set_and : (a b i : ℕ) → Set (bit_and a b) i ↔ (Set a i × Set b i)
set_and a b i = (
  λ h. let e = h.one in (record { one = omega (arith, bit_at_and a b i, bit_at-lt a i, bit_at-lt b i) }, record { one = omega (arith, bit_at_and a b i, bit_at-lt a i, bit_at-lt b i) }),
  λ h. let e = h.0.one in let f = h.1.one in record { one = omega (arith, bit_at_and a b i) },
)

pub set_or : (a b i : ℕ) → Set (bit_or a b) i ↔ (Set a i ⊎ Set b i)
set_or a b i = (λ h. by_bit (bit_at a i) refl h.one, λ h. joined h)
  where
    by_bit : (n : ℕ) → bit_at a i ≡ n → bit_at (bit_or a b) i ≡ 1 → Set a i ⊎ Set b i
    by_bit zero e f = inr (record { one = omega (arith, bit_at_or a b i) })
    by_bit (suc n) e f = inl (record { one = omega (arith, bit_at-lt a i) })

    joined : Set a i ⊎ Set b i → Set (bit_or a b) i
    joined (inl h) = let e = h.one in record { one = omega (arith, bit_at_or a b i, bit_at-lt b i) }
    joined (inr h) = let e = h.one in record { one = omega (arith, bit_at_or a b i, bit_at-lt a i) }

pub is_stepped : (word fitting staying moved : ℕ) → IsShifted (bit_and word fitting) moved → IsStepped word fitting staying (bit_or moved (bit_and word staying))
is_stepped word fitting staying moved h = record { lowest = (λ k. first ((set_or moved (bit_and word staying) zero).0 k), λ k. (set_or moved (bit_and word staying) zero).1 (inr ((set_and word staying zero).1 k))); higher = λ i l. (λ k. next i l ((set_or moved (bit_and word staying) (suc i)).0 k), λ k. (set_or moved (bit_and word staying) (suc i)).1 (back i l k)) }
  where
    first : Set moved zero ⊎ Set (bit_and word staying) zero → Set word zero × Set staying zero
    first (inl k) = absurd (h.lowest k)
    first (inr k) = (set_and word staying zero).0 k

    next : (i : ℕ) → suc i < 128 → Set moved (suc i) ⊎ Set (bit_and word staying) (suc i) → (Set word i × Set fitting i) ⊎ (Set word (suc i) × Set staying (suc i))
    next i l (inl k) = inl ((set_and word fitting i).0 ((h.higher i l).0 k))
    next i l (inr k) = inr ((set_and word staying (suc i)).0 k)

    back : (i : ℕ) → suc i < 128 → (Set word i × Set fitting i) ⊎ (Set word (suc i) × Set staying (suc i)) → Set moved (suc i) ⊎ Set (bit_and word staying) (suc i)
    back i l (inl k) = inl ((h.higher i l).1 ((set_and word fitting i).1 k))
    back i l (inr k) = inr ((set_and word staying (suc i)).1 k)

one_lowest : bit_at 1 zero ≡ 1
one_lowest = refl

one_higher : (i : ℕ) → bit_at 1 (suc i) ≡ 0
one_higher i = bit_at-suc 1 i ∙ bit_at-zero i

pub sets_lowest : (word : ℕ) (flag : Bool) → flag ≡ true → SetsLowest word flag (bit_or word 1)
sets_lowest word flag e = record {
  lowest = (λ h. inr (subst IsTrue (sym e) refl), λ h. (set_or word 1 zero).1 (inr (record { one = one_lowest })));
  higher = λ i. (λ h. only i ((set_or word 1 (suc i)).0 h), λ h. (set_or word 1 (suc i)).1 (inl h));
}
  where
    only : (i : ℕ) → Set word (suc i) ⊎ Set 1 (suc i) → Set word (suc i)
    only i (inl h) = h
    only i (inr h) = let e = h.one in absurd (omega (arith, one_higher i))
