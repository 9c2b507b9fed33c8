-- Pieces, one after the other.
use Rattle.wtf8_core.proofs.Common.{◌≡◌, ◌≢◌, inl, inr, ⊎_elim, ℕ, ◌+◌, ◌<◌, Bool, true, false, List, [], ◌∷◌, ◌++◌, map, length, take, drop, get_or, take-append-drop, Option, None, Ok, refl, sym, ap, ◌∙◌, subst, append_assoc, append-nil, All, All-from_recursion, IsByte, IsCodePoint, encode, IsWtf8, last_or, IsRefused, AreItems, items_after, items_from, class_at, next_at, Gives, Row, needed, SomeRow, IsOpen, rows, IsInState, IsFaulty, OnlyEnds, HasFirstFault, joined_bits, fault_at, Progress, progress, Describes, is_between, is_high, IsEncodedPrefix, EncodingError, Byte, CodePoint, End, Utf8, State, Between, AfterHigh, Refused, Class, cases_Bool, arith, common_steps, nat_tests}
use Rattle.std.proofs.lemmas.List.{take_more}
use Rattle.wtf8_core.proofs.lemmas.{forms.Appending.all_flat_map, table.Entries.at_index, forms.Shapes.form_bytes, reader.Complete.never_both, reader.Complete.one_fault, reader.Complete.items_of_encoded, reader.Complete.after_zero, reader.FirstErr.items_all_ok, reader.Reading.items-nil, reader.Reading.within-end, reader.Sound.items_of_bytes, table.Steps.items_now, table.Steps.gives_more, table.Steps.first_fault, table.Steps.goes}
use Rattle.wtf8_core.specs.declared.vectors.Encoding.TheVariants.{Wtf8}

refused_extends : (last : ℕ) (refused rest p : List ℕ) (f : EncodingError) → f ≢ End → IsRefused last refused rest f → IsRefused last refused (rest ++ p) f
refused_extends last refused rest p (Byte x) n (inl s) = inl s
refused_extends last refused rest p (Byte x) n (inr s) = inr (record { begun = s.begun; after = s.after ++ p; next = ap (λ l. l ++ p) s.next; breaks = s.breaks })
refused_extends last refused rest p End n s = absurd (n refl)
refused_extends last refused rest p (CodePoint v) n s = s
refused_extends last refused rest p (Utf8 i j) n s = s

-- what comes after a fault doesn't matter
pub extends : (b p : List ℕ) (f : EncodingError) → IsFaulty b f → IsFaulty (b ++ p) f
extends b p f h = grind (arith, nat_tests, common_steps, append_assoc, h.stays)

-- no sequence is open: all bytes were read
encoded : (h : Bool) (b : List ℕ) → Gives b (items_after h) → IsWtf8 b
encoded h b g = (g.code_points, items_all_ok b g.code_points (subst (AreItems b) (items_now b g ∙ ap (λ l. map Ok g.code_points ++ l) (items-nil 0 h [] refl) ∙ append-nil (map Ok g.code_points)) (items_of_bytes b g.are_bytes)))

pub whole : (s : State) (bits : ℕ) (b : List ℕ) → is_between s ≡ true → IsInState s bits b → IsWtf8 b
whole Between bits b h g = encoded false b g
whole AfterHigh bits b h g = encoded true b g
whole s bits b h g = cc

ends_of_rows : (bits : ℕ) (b : List ℕ) (rs : List Row) → SomeRow (IsOpen bits b) rs → HasFirstFault b End
ends_of_rows bits b [] s = absurd s
ends_of_rows bits b (r ∷ rs) (inl q) = first_fault b End (items_after false []) q.given (ap items_from (within-end r.high (needed r) r.later q.value))
ends_of_rows bits b (r ∷ rs) (inr q) = ends_of_rows bits b rs q

pub ends : (s : State) (bits : ℕ) (b : List ℕ) → is_between s ≡ false → IsInState s bits b → HasFirstFault b End
ends Between bits b h m = cc
ends AfterHigh bits b h m = cc
ends s bits b h m = ends_of_rows bits b (rows s) m

pub only_ends : (s : State) (bits : ℕ) (b : List ℕ) → IsInState s bits b → OnlyEnds b
only_ends s bits b m f g =
    ⊎_elim (λ h. let w = whole s bits b h m in absurd (never_both b w.0 g.0 f w.1 g.1))
    (λ h. let e = ends s bits b h m in (one_fault b g.0 e.0 f End g.1 e.1).1)
    (cases_Bool (is_between s))

-- one more byte
pub read_on : (s : State) (bits : ℕ) (class : Class) (t : State) (joined : ℕ) (b : List ℕ) (x : ℕ) → x < 256 → IsInState s bits b
    → class ≡ class_at x → t ≡ next_at s class → joined ≡ joined_bits bits x → t ≢ Refused → IsInState t joined (b ++ x ∷ [])
read_on s bits class t joined b x v m e f g n =
    let k : t ≡ next_at s (class_at x) = f ∙ ap (next_at s) e in
    let o = (goes s bits b x v m).on (λ z. n (k ∙ z)) in
    subst (λ z. IsInState z joined (b ++ x ∷ [])) (sym k) (subst (λ z. IsInState (next_at s (class_at x)) z (b ++ x ∷ [])) (sym g) o)

pub read_off : (s : State) (bits : ℕ) (class : Class) (t : State) (joined : ℕ) (fault : EncodingError) (b : List ℕ) (x : ℕ) → x < 256 → IsInState s bits b
    → class ≡ class_at x → t ≡ next_at s class → joined ≡ joined_bits bits x → t ≡ Refused → fault ≡ fault_at s joined x → IsFaulty (b ++ x ∷ []) fault
read_off s bits class t joined fault b x v m e f g n h =
    let k : t ≡ next_at s (class_at x) = f ∙ ap (next_at s) e in
    let o = (goes s bits b x v m).off (sym k ∙ n) in
    subst (IsFaulty (b ++ x ∷ [])) (sym (h ∙ ap (λ z. fault_at s z x) g)) o

-- the bytes up to an index, and one more
pub one_more_read : (b xs : List ℕ) (i : ℕ) → i < length xs → (b ++ take i xs) ++ get_or xs i 0 ∷ [] ≡ b ++ take (i + 1) xs
one_more_read b xs i h = append_assoc b (take i xs) (get_or xs i 0 ∷ []) ∙ ap (λ l. b ++ l) (sym (take_more xs i 0 h))

-- a fault at an index is one of all the bytes
pub read_fault : (b xs : List ℕ) (i : ℕ) (f : EncodingError) → i < length xs → IsFaulty ((b ++ take i xs) ++ get_or xs i 0 ∷ []) f → IsFaulty (b ++ xs) f
read_fault b xs i f l h =
    let q : (b ++ take (i + 1) xs) ++ drop (i + 1) xs ≡ b ++ xs = append_assoc b (take (i + 1) xs) (drop (i + 1) xs) ∙ ap (λ l. b ++ l) (take-append-drop (i + 1) xs) in
    subst (λ z. IsFaulty z f) q (extends _ (drop (i + 1) xs) f (subst (λ z. IsFaulty z f) (one_more_read b xs i l) h))

-- the bytes up to an index, and those from it on
pub with_prefix : (b piece rest : List ℕ) (at : ℕ) → rest ≡ drop at piece → (b ++ take at piece) ++ rest ≡ b ++ piece
with_prefix b piece rest at e = append_assoc b (take at piece) rest ∙ ap (λ l. b ++ l) (ap (λ r. take at piece ++ r) e ∙ take-append-drop at piece)

-- a prefix that vectors read
pub prefix_read : (b piece : List ℕ) (at : ℕ) (f : IsEncodedPrefix Wtf8 piece at) → Gives b (items_after false) → Gives (b ++ take at piece) (items_after (is_high (last_or 0 f.code_points)))
prefix_read b piece at f g =
    let cs = f.code_points in
    let s = f.encoded in
    let bytes = all_flat_map IsCodePoint IsByte encode (λ c k. All-from_recursion IsByte (encode c) (form_bytes c k)) cs s.code_points in
    gives_more b (take at piece) cs g (subst (All IsByte) (sym s.joined) bytes)
    (λ more. ap (λ z. items_after false (z ++ more)) s.joined ∙ items_of_encoded 0 cs more s.code_points (after_zero cs s.no_pair))

pub open_progress : (s : State) (bits : ℕ) (f : Option EncodingError) (p : Progress) (b : List ℕ) → progress s bits f ≡ p → f ≡ None → Describes p b → IsInState s bits b
open_progress s bits f p b e n h = subst (λ z. Describes (progress s bits z) b) n (subst (λ z. Describes z b) (sym e) h)

pub ruleset pieces = (whole, ends, open_progress, read_on, at_index)
