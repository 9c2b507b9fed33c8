-- The reader's definitions, one step at a time.
use Rattle.wtf8_core.proofs.Common.{common_steps, ◌≡◌, ℕ, zero, suc, ◌+◌, ◌-◌, ◌*◌, ◌%◌, ◌<◌, ◌≤◌, Bool, true, false, cond, List, [], ◌∷◌, length, drop, Result, Ok, Err, refl, sym, ap, ◌∙◌, arith, sub-one, nat_tests, is_in_range, is_high, with_continuations, first_item, and_then_checked, continuations, after_item, items_skipping, then_items, lead_bits, IsFirstItem, needed_continuations, cond-false, le-ltb, EncodingError, Byte, End, IsInRange, IsContinuation, checked_value, first_split, split_within, items_from, is_high_item}

pub with_continuations-none : (v n : ℕ) (bs : List ℕ) → n ≡ 0 → with_continuations v n bs ≡ Ok v
unfolding with_continuations
with_continuations-none v zero bs e = refl
with_continuations-none v (suc n) bs e = cc

pub items-nil : (n : ℕ) (h : Bool) (bs : List ℕ) → length bs ≡ 0 → items_skipping n h bs ≡ []
unfolding items_skipping
items-nil n h [] e = refl
items-nil n h (b ∷ bs) e = absurd (omega arith)

-- as many continuations are joined as are counted
whole_count : (v n c : ℕ) (bs : List ℕ) → with_continuations v n bs ≡ Ok c → continuations n bs ≡ n
unfolding with_continuations continuations
whole_count v zero c bs e = refl
whole_count v (suc n) c [] e = cc
whole_count v (suc n) c (x ∷ bs) e =
    let P : Bool → Type 0 = λ b. cond b (with_continuations (v * 64 + x % 64) n bs) (Err (Byte x)) ≡ Ok c → cond b (suc (continuations n bs)) 0 ≡ suc n in
    elim (is_in_range 0x80 0xBF x) as P [ true ↦ λ k. ap suc (whole_count (v * 64 + x % 64) n c bs k) | false ↦ λ k. cc ] e

pub items-ok : (h : Bool) (b c : ℕ) (bs : List ℕ) → first_item h b bs ≡ Ok c
    → items_skipping 0 h (b ∷ bs) ≡ Ok c ∷ items_skipping (after_item b bs) (is_high c) bs
unfolding items_skipping
items-ok h b c bs e = ap (λ r. then_items r (λ h. items_skipping (after_item b bs) h bs)) e

pub items-err : (h : Bool) (b : ℕ) (f : EncodingError) (bs : List ℕ) → first_item h b bs ≡ Err f
    → items_skipping 0 h (b ∷ bs) ≡ Err f ∷ items_skipping (after_item b bs) false bs
unfolding items_skipping
items-err h b f bs e = ap (λ r. then_items r (λ h. items_skipping (after_item b bs) h bs)) e

pub items_skipping-drop : (n : ℕ) (h : Bool) (bs : List ℕ) → items_skipping n h bs ≡ items_skipping 0 h (drop n bs)
unfolding items_skipping
items_skipping-drop (suc n) h (b ∷ bs) = items_skipping-drop n h bs
items_skipping-drop n h bs = refl

-- what follows a fault
pub items-step-err : (h : Bool) (b : ℕ) (f : EncodingError) (bs rest : List ℕ) → first_item h b bs ≡ Err f → rest ≡ drop (after_item b bs) bs
    → items_skipping 0 h (b ∷ bs) ≡ Err f ∷ items_skipping 0 false rest
items-step-err h b f bs rest e d = grind (arith, nat_tests, common_steps, items-err, items_skipping-drop)

and_then_whole : (h : Bool) (n c : ℕ) (bs : List ℕ) (r : Result ℕ EncodingError) → ((v : ℕ) → r ≡ Ok v → continuations n bs ≡ n)
    → and_then_checked h n r ≡ Ok c → continuations n bs ≡ n
unfolding and_then_checked
and_then_whole h n c bs (Ok v) k e = k v refl
and_then_whole h n c bs (Err f) k e = cc

-- continuations after a lead belong to it if all that it needs are there
pub after_code_point : (h : Bool) (b c : ℕ) (bs : List ℕ) → 0x80 ≤ b → first_item h b bs ≡ Ok c → after_item b bs ≡ needed_continuations b
unfolding first_item after_item
after_code_point h b c bs l e = grind (arith, nat_tests, common_steps, and_then_whole, whole_count, cond-false, le-ltb)

pub first_ascii : (h : Bool) (b : ℕ) (bs : List ℕ) → b < 0x80 → first_item h b bs ≡ Ok b
unfolding first_item
first_ascii h b bs l = grind (arith, nat_tests)

after_ascii : (b : ℕ) (bs : List ℕ) → b < 0x80 → after_item b bs ≡ 0
unfolding after_item
after_ascii b bs l = grind (arith, nat_tests)

-- the continuations at the start, dropped
pub no_continuations : (n : ℕ) (bs : List ℕ) → n ≡ 0 → drop (continuations n bs) bs ≡ bs
unfolding continuations
no_continuations zero bs e = refl
no_continuations (suc n) bs e = cc

pub continuations_of_none : (n : ℕ) (bs : List ℕ) → length bs ≡ 0 → drop (continuations n bs) bs ≡ bs
unfolding continuations
continuations_of_none zero [] e = refl
continuations_of_none (suc n) [] e = refl
continuations_of_none n (b ∷ bs) e = absurd (omega arith)

pub continuations-cons : (n x : ℕ) (bs : List ℕ) → 0 < n → continuations n (x ∷ bs) ≡ cond (is_in_range 0x80 0xBF x) (suc (continuations (n - 1) bs)) 0
unfolding continuations
continuations-cons zero x bs h = absurd (omega arith)
continuations-cons (suc n) x bs h = rw sub-one refl

-- the same for the first item
pub first-ascii : (h : Bool) (b : ℕ) (bs : List ℕ) → b < 0x80 → IsFirstItem h (b ∷ bs) (Ok b) bs
first-ascii h b bs l = record { first = b; after = bs; is = refl; item_is = first_ascii h b bs l; rest_is = sym (ap (λ n. drop n bs) (after_ascii b bs l)) }

pub first-code_point : (h : Bool) (b c : ℕ) (bs rest : List ℕ) → 0x80 ≤ b → first_item h b bs ≡ Ok c → rest ≡ drop (needed_continuations b) bs → IsFirstItem h (b ∷ bs) (Ok c) rest
first-code_point h b c bs rest l e d = record { first = b; after = bs; is = refl; item_is = e; rest_is = d ∙ sym (ap (λ n. drop n bs) (after_code_point h b c bs l e)) }

-- how bytes are split by their first
pub split-ascii : (h : Bool) (b : ℕ) (bs : List ℕ) → b < 0x80 → first_split h (b ∷ bs) ≡ (Ok b, bs)
unfolding first_item after_item
split-ascii h b bs l = grind (arith, nat_tests)

pub split-stray : (h : Bool) (b : ℕ) (bs : List ℕ) → IsInRange 0x80 0xC1 b → first_split h (b ∷ bs) ≡ (Err (Byte b), bs)
unfolding first_item after_item
split-stray h b bs s = grind (arith, nat_tests, s)

pub split-lead : (h : Bool) (b : ℕ) (bs : List ℕ) → 0xC2 ≤ b → first_split h (b ∷ bs) ≡ split_within h (needed_continuations b) (needed_continuations b) (lead_bits b) bs
unfolding first_item after_item split_within
split-lead h b bs l = grind (arith, nat_tests)

-- and within a sequence
pub within-more : (h : Bool) (n m v x : ℕ) (bs : List ℕ) → IsContinuation x → split_within h n (suc m) v (x ∷ bs) ≡ split_within h n m (v * 0x40 + x % 0x40) bs
unfolding split_within with_continuations continuations
within-more h n m v x bs c = grind (arith, nat_tests, c)

pub within-broken : (h : Bool) (n m v x : ℕ) (bs : List ℕ) → (IsContinuation x → ⊥) → split_within h n (suc m) v (x ∷ bs) ≡ (Err (Byte x), x ∷ bs)
unfolding split_within and_then_checked with_continuations continuations
within-broken h n m v x bs c = grind (arith, nat_tests, c)

pub within-end : (h : Bool) (n m v : ℕ) → split_within h n (suc m) v [] ≡ (Err End, [])
unfolding split_within and_then_checked with_continuations continuations
within-end h n m v = refl

pub within-whole : (h : Bool) (n v : ℕ) (bs : List ℕ) → split_within h n 0 v bs ≡ (checked_value h n v, bs)
unfolding split_within and_then_checked with_continuations continuations
within-whole h n v bs = refl

-- the items of bytes are those of their split
pub items-split : (h : Bool) (bs : List ℕ) → 0 < length bs → items_skipping 0 h bs ≡ items_from (first_split h bs)
items-split h [] l = absurd (omega arith)
items-split h (b ∷ bs) l = by (first_item h b bs) refl
  where
    by : (r : Result ℕ EncodingError) → first_item h b bs ≡ r → items_skipping 0 h (b ∷ bs) ≡ then_items r (λ t. items_skipping 0 t (drop (after_item b bs) bs))
    by (Ok c) e = items-ok h b c bs e ∙ ap (λ l. Ok c ∷ l) (items_skipping-drop (after_item b bs) (is_high c) bs)
    by (Err f) e = items-step-err h b f bs _ e refl

-- and so the items are those of the first and of what follows it
pub split_of_first : (h : Bool) (bs rest : List ℕ) (item : Result ℕ EncodingError) → IsFirstItem h bs item rest → first_split h bs ≡ (item, rest)
split_of_first h bs rest item i = grind (arith, nat_tests, common_steps)

pub items_of_step : (h t : Bool) (bs rest : List ℕ) (item : Result ℕ EncodingError) → IsFirstItem h bs item rest → t ≡ is_high_item item → items_skipping 0 h bs ≡ item ∷ items_skipping 0 t rest
items_of_step h t bs rest item i e = grind (arith, nat_tests, common_steps, items-split, split_of_first)

pub ruleset reading = (no_continuations, continuations_of_none, continuations-cons, first-ascii, first-code_point, with_continuations-none, items_of_step, items-nil)
