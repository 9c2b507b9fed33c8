-- One more byte in the table is one more byte of the reader.
use Rattle.wtf8_core.proofs.Common.{common_steps, ◌≡◌, ◌≢◌, ◌⊎◌, refl, HasFirstFault, inl, inr, ⊎_elim, ℕ, suc, ◌+◌, ◌*◌, ◌-◌, ◌%◌, ◌<◌, ◌≤◌, Bool, true, false, List, [], ◌∷◌, ◌++◌, map, Result, Ok, Err, sym, ap, ◌∙◌, subst, arith, nat_tests, append_assoc, append-nil, map-append, cond_both, cond-true, cond-false, All, All-append, All-from_recursion, IsByte, IsContinuation, needed_continuations, is_high, lead_bits, checked_value, first_split, split_within, items_from, items_after, AreItems, class_at, next_at, Gives, Row, needed, rows, SomeRow, IsOpen, IsInState, IsFaulty, kept_bits, joined_bits, fault_at, is_continuation, cond, EncodingError, Byte, CodePoint, End, State, Between, AfterHigh, BadFourth, Refused, BadThird}
use Rattle.wtf8_core.specs.Checker.{value_fault}
use Rattle.wtf8_core.proofs.lemmas.{forms.Ranges.in_range, forms.Ranges.not_in_range, reader.Complete.when_good, reader.Complete.when_bad, reader.FirstErr.items_first_err, reader.Reading.items-split, reader.Reading.split-ascii, reader.Reading.split-stray, reader.Reading.split-lead, reader.Reading.within-more, reader.Reading.within-broken, reader.Reading.within-whole, reader.Sound.items_of_bytes, table.Entries.Holds, table.Entries.some_from, table.Entries.some_with, table.Entries.in_class, table.Entries.classed, table.Entries.begins, table.Entries.between_entry, table.Entries.least_after, table.Entries.most_after, table.Entries.goes_on, table.Entries.open_entry, table.Entries.entered}

-- the bits of a lead that needs two continuations or more, and of one more continuation
lead_kept : (bits x : ℕ) → 2 ≤ needed_continuations x → kept_bits 0 (joined_bits bits x) ≡ lead_bits x
lead_kept bits x h = grind (arith, nat_tests)

bits_more : (n bits x v : ℕ) → n ≤ 2 → kept_bits n bits ≡ v → kept_bits (suc n) (joined_bits bits x) ≡ v * 0x40 + x % 0x40
bits_more (suc (suc (suc n))) bits x v h e = absurd (omega arith)
bits_more n bits x v h e = omega arith

-- the items of the bytes if none come after them
pub items_now : {after : List ℕ → List (Result ℕ EncodingError)} (b : List ℕ) → (g : Gives b after) → items_after false b ≡ map Ok g.code_points ++ after []
items_now b g = ap (items_after false) (sym (append-nil b)) ∙ g.items []

-- more bytes are read
pub gives_more : {after then : List ℕ → List (Result ℕ EncodingError)} (b bs ds : List ℕ) → Gives b after → All IsByte bs → ((more : List ℕ) → after (bs ++ more) ≡ map Ok ds ++ then more) → Gives (b ++ bs) then
gives_more {after} {then} b bs ds g a e = record {
  are_bytes = All-append IsByte b bs g.are_bytes a;
  code_points = g.code_points ++ ds;
  items = λ more. ap (items_after false) (append_assoc b bs more)
      ∙ g.items (bs ++ more)
      ∙ ap (λ l. map Ok g.code_points ++ l) (e more)
      ∙ sym (append_assoc (map Ok g.code_points) (map Ok ds) (then more))
      ∙ ap (λ l. l ++ then more) (sym (map-append Ok g.code_points ds));
}

-- what it refuses is the first fault
pub first_fault : {after : List ℕ → List (Result ℕ EncodingError)} (b : List ℕ) (f : EncodingError) (later : List (Result ℕ EncodingError)) → Gives b after → after [] ≡ Err f ∷ later → HasFirstFault b f
first_fault b f later g e = (g.code_points, items_first_err b g.code_points f later (subst (AreItems b) (items_now b g ∙ ap (λ l. map Ok g.code_points ++ l) e) (items_of_bytes b g.are_bytes)))

opened_of_rows : (t : State) (bits : ℕ) (b : List ℕ) → SomeRow (IsOpen bits b) (rows t) → IsInState t bits b
opened_of_rows Between bits b r = absurd r
opened_of_rows AfterHigh bits b r = absurd r
opened_of_rows t bits b r = r

-- the fault of a last continuation that is refused
fault_last : (s t : State) (bits x v : ℕ) → s ≡ t → IsContinuation x → value_fault t bits x ≡ CodePoint v → fault_at s bits x ≡ CodePoint v
fault_last s t bits x v e c h = subst (λ z. fault_at z bits x ≡ CodePoint v) (sym e) (cond-true _ _ _ (in_range 0x80 0xBF x c) ∙ h)

-- where no sequence is open any byte that is refused is the fault
no_value : (x : ℕ) → cond (is_continuation x) (Byte x) (Byte x) ≡ Byte x
no_value x = cond_both (is_continuation x) _ _ (λ f. f ≡ Byte x) (λ _. refl) (λ _. refl)

-- what a byte does in a state
pub record StepsTo (state : State) (bits : ℕ) (b : List ℕ) (x : ℕ) (t : State) : Type 0 where
  pub on : t ≢ Refused → IsInState t (joined_bits bits x) (b ++ x ∷ [])
  pub off : t ≡ Refused → IsFaulty (b ++ x ∷ []) (fault_at state (joined_bits bits x) x)

module _ (s t : State) (bits : ℕ) (b : List ℕ) (x : ℕ) (u : x < 256) where
  one : All IsByte (x ∷ [])
  one = All-from_recursion IsByte (x ∷ []) (u, tt)

  k : Holds (in_class (class_at x) x)
  k = classed x u

  rows_step : SomeRow (IsOpen (joined_bits bits x) (b ++ x ∷ [])) (rows t) → StepsTo s bits b x t
  rows_step r = grind (arith, nat_tests, common_steps, opened_of_rows)

  module _ {after : List ℕ → List (Result ℕ EncodingError)} (g : Gives b after) where
    -- the byte ends a code point
    accepted : (c : ℕ) → ((more : List ℕ) → after (x ∷ more) ≡ Ok c ∷ items_after (is_high c) more) → ((t ≡ Between) × (is_high c ≡ false)) ⊎ ((t ≡ AfterHigh) × (is_high c ≡ true)) → StepsTo s bits b x t
    accepted c e h =
        let more : (after : Bool) → is_high c ≡ after → Gives (b ++ x ∷ []) (items_after after) = λ after k. gives_more b (x ∷ []) (c ∷ []) g one (λ more. e more ∙ ap (λ z. Ok c ∷ items_after z more) k) in
        record {
          on = λ _. ⊎_elim (λ a. subst (λ z. IsInState z (joined_bits bits x) (b ++ x ∷ [])) (sym a.0) (more false a.1)) (λ a. subst (λ z. IsInState z (joined_bits bits x) (b ++ x ∷ [])) (sym a.0) (more true a.1)) h;
          off = λ z. ⊎_elim (λ a. let y = a.0 in cc) (λ a. let y = a.0 in cc) h;
        }

    -- the byte is refused
    refused : {later : List ℕ → List (Result ℕ EncodingError)} (f : EncodingError) → f ≢ End → ((more : List ℕ) → after (x ∷ more) ≡ Err f ∷ later more) → t ≡ Refused → fault_at s (joined_bits bits x) x ≡ f → StepsTo s bits b x t
    refused f n e i same = record {
      on = λ z. absurd (z i);
      off = λ _. subst (IsFaulty (b ++ x ∷ [])) (sym same) (record { first = first_fault (b ++ x ∷ []) f _ (gives_more b (x ∷ []) [] g one e) refl; stays = n });
    }

  -- within a sequence
  module _ (r : Row) (q : IsOpen bits b r) where
    abbrev v : ℕ
    v = q.value * 0x40 + x % 0x40

    continued : IsContinuation x → (more : List ℕ) → items_from (split_within r.high (needed r) (suc r.later) q.value (x ∷ more)) ≡ items_from (split_within r.high (needed r) r.later v more)
    continued c more = ap items_from (within-more r.high (needed r) r.later q.value x more c)

    whole : IsContinuation x → r.later ≡ 0 → (item : Result ℕ EncodingError) → checked_value r.high (needed r) v ≡ item → (more : List ℕ) → items_from (split_within r.high (needed r) (suc r.later) q.value (x ∷ more)) ≡ items_from (item, more)
    whole c z item e more = continued c more ∙ ap items_from (ap (λ m. split_within r.high (needed r) m v more) z ∙ within-whole r.high (needed r) v more ∙ ap (λ i. (i, more)) e)

    open_steps : Holds (open_entry s (class_at x) t r) → StepsTo s bits b x t
    open_steps e = ⊎_elim
        (λ a. let c : IsContinuation x = (omega (arith, a.0.0, k.0), omega (arith, a.0.1, k.1.0)) in
        let low : x % 0x40 ≡ x - 0x80 = omega (arith, c.0, c.1) in
        let above : least_after (class_at x) r ≤ v = omega (arith, low, q.least_is, k.0, a.0.0) in
        let below : v ≤ most_after (class_at x) r = omega (arith, low, q.most_is, k.1.0) in
        let kept : 2 ≤ needed r → kept_bits (suc r.read) (joined_bits bits x) ≡ v = λ two. bits_more r.read bits x q.value e.0 (q.bits_are two) in
        ⊎_elim
        (λ y. ⊎_elim
        (λ z. let f = z.1 in
        refused q.given (CodePoint v) (λ i. cc)
        (whole c y.0 (Err (CodePoint v)) (when_bad r.high (needed r) v (⊎_elim (λ w. inl (omega (arith, w, below))) (λ w. inr (⊎_elim (λ w. inl (omega (arith, w, above))) (λ w. inr (w.0, (omega (arith, w.1.0, above), omega (arith, w.1.1, below)))) w)) f.1))) z.0
        (⊎_elim
        (λ w. fault_last s BadFourth _ x v w.0 c (ap CodePoint (subst (λ n. kept_bits (suc n) (joined_bits bits x) ≡ v) w.1 (kept (omega (arith, w.1))))))
        (λ w. fault_last s BadThird _ x v w.0 c (ap CodePoint (subst (λ n. kept_bits (suc n) (joined_bits bits x) ≡ v) w.1 (kept (omega (arith, w.1))))))
        f.0))
        (λ z. accepted q.given v
        (whole c y.0 (Ok v) (when_good r.high (needed r) v (omega (arith, z.0, above)) (omega (arith, z.1.0, below))
        (λ h l. ⊎_elim (λ w. let no : true ≡ false = sym h ∙ w in cc) (λ w. ⊎_elim (λ w. omega (arith, w, below, l.0)) (λ w. omega (arith, w, above, l.1)) w) z.1.1.0)))
        (⊎_elim
        (λ w. inl (w.0, not_in_range 0xD800 0xDBFF v (λ y. ⊎_elim (λ z. omega (arith, z, below, y.0)) (λ z. omega (arith, z, above, y.1)) w.1)))
        (λ w. inr (w.0, in_range 0xD800 0xDBFF v (omega (arith, w.1.0, above), omega (arith, w.1.1, below))))
        z.1.1.1.0))
        y.1)
        (λ y. rows_step (some_from (goes_on (class_at x) r) (IsOpen (joined_bits bits x) (b ++ x ∷ [])) (rows t) y (λ n g. record {
          value = v;
          given = gives_more b (x ∷ []) [] q.given one (λ more. continued c more ∙ on n g more);
          least_is = omega (arith, g.1.1.1.0, above);
          most_is = omega (arith, g.1.1.1.1.0, below);
          bits_are = λ two. subst (λ m. kept_bits m (joined_bits bits x) ≡ v) (sym g.1.0) (kept (omega (arith, two, g.1.0, g.1.1.0)));
        })))
        a.1)
        (λ a. let c : IsContinuation x → ⊥ = λ y. ⊎_elim (λ z. omega (arith, z, k.1.0, y.0)) (λ z. omega (arith, z, k.0, y.1)) a.1 in
        refused q.given (Byte x) (λ i. cc) (λ more. ap items_from (within-broken r.high (needed r) r.later q.value x more c)) a.0 (cond-false _ _ _ (not_in_range 0x80 0xBF x c)))
        e.1
      where
        on : (n : Row) → Holds (goes_on (class_at x) r n) → (more : List ℕ) → items_from (split_within r.high (needed r) r.later v more) ≡ items_from (split_within n.high (needed n) (suc n.later) v more)
        on n g more =
            let same : needed r ≡ needed n = omega (arith, g.1.0, g.1.1.0) in
            ap (λ h. items_from (split_within h (needed r) r.later v more)) (sym g.0)
            ∙ ap (λ m. items_from (split_within n.high m r.later v more)) same
            ∙ ap (λ m. items_from (split_within n.high (needed n) m v more)) g.1.1.0

  -- after a whole form
  between_goes : (h : Bool) → fault_at s (joined_bits bits x) x ≡ Byte x → Gives b (items_after h) → Holds (between_entry h (class_at x) t) → StepsTo s bits b x t
  between_goes h fault g e = ⊎_elim
      (λ a. let small : x < 0x80 = omega (arith, a.0, k.1.0) in
      accepted g x (first (Ok x) (λ more. more) (λ more. split-ascii h x more small)) (inl (a.1, not_in_range 0xD800 0xDBFF x (λ q. omega (arith, q.0, small)))))
      (λ a. ⊎_elim
      (λ y. refused g (Byte x) (λ i. cc) (first (Err (Byte x)) (λ more. more) (λ more. split-stray h x more (omega (arith, y.0.0, k.0), omega (arith, y.0.1, k.1.0)))) y.1 fault)
      (λ y. rows_step (some_from (begins h (class_at x)) (IsOpen (joined_bits bits x) (b ++ x ∷ [])) (rows t) y opens))
      a)
      e
    where
      first : (item : Result ℕ EncodingError) (rest : List ℕ → List ℕ) → ((more : List ℕ) → first_split h (x ∷ more) ≡ (item, rest more)) → (more : List ℕ) → items_after h (x ∷ more) ≡ items_from (item, rest more)
      first item rest e more = items-split h (x ∷ more) (omega arith) ∙ ap items_from (e more)

      opens : (r : Row) → Holds (begins h (class_at x) r) → IsOpen (joined_bits bits x) (b ++ x ∷ []) r
      opens r t = ⊎_elim (λ l. absurd (omega (arith, l, t.1.1.1.1.1.0)))
          (λ p. let same : needed_continuations x ≡ needed r = p.1.1.0 ∙ sym t.1.1.0 in
          let all : needed r ≡ suc r.later = omega (arith, t.1.0) in
          record {
            value = lead_bits x;
            given = gives_more b (x ∷ []) [] g one (λ more. items-split h (x ∷ more) (omega arith) ∙ ap items_from (split-lead h x more (omega (arith, k.0, t.1.1.1.1.1.0))
                ∙ ap (λ n. split_within h n n (lead_bits x) more) same
                ∙ ap (λ n. split_within h (needed r) n (lead_bits x) more) all
                ∙ ap (λ z. split_within z (needed r) (suc r.later) (lead_bits x) more) (sym t.0)));
            least_is = omega (arith, t.1.1.1.0, p.0);
            most_is = omega (arith, t.1.1.1.1.0, p.1.0);
            bits_are = λ two. subst (λ n. kept_bits n (joined_bits bits x) ≡ lead_bits x) (sym t.1.0) (lead_kept bits x (omega (arith, two, same)));
          }) k.1.1.0

pub goes : (s : State) (bits : ℕ) (b : List ℕ) (x : ℕ) → x < 256 → IsInState s bits b → StepsTo s bits b x (next_at s (class_at x))
goes Between bits b x u m = between_goes Between (next_at Between (class_at x)) bits b x u false (no_value x) m (entered Between (class_at x))
goes AfterHigh bits b x u m = between_goes AfterHigh (next_at AfterHigh (class_at x)) bits b x u true (no_value x) m (entered AfterHigh (class_at x))
goes s bits b x u m =
    let t = next_at s (class_at x) in
    some_with (open_entry s (class_at x) t) (IsOpen bits b) (StepsTo s bits b x t) (rows s) m (entered s (class_at x)) (λ r q. open_steps s t bits b x u r q)
