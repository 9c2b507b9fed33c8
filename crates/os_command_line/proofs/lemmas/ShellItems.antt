-- Lines, word by word: their one list of items.
use Rattle.std.proofs.Common.{◌≡◌, ◌≢◌, ℕ, zero, suc, ◌-◌, ◌<◌, ◌≤◌, true, List, [], ◌∷◌, ◌++◌, length, refl, sym, ap, ◌∙◌, subst, arith, append-nil, length-append, Option, None, Some, Result, Ok, Err, inl, inr}
use Rattle.std.proofs.lemmas.Bool.{true≢false}
use Rattle.std.proofs.lemmas.List.{nil_from_length}
use Rattle.os_command_line.specs.declared.shell.language.Language.{Language}
use Rattle.os_command_line.specs.declared.shell.fault.FaultKind.{FaultKind}
use Rattle.os_command_line.specs.declared.shell.fault.WordsFault.{WordsFault}
use Rattle.os_command_line.specs.Shell.{Outcome, Ends, Reads, IsGap, Begins, IsNext, AreItems, IsRead, HasOneFault}
use Rattle.os_command_line.specs.Shell.Outcome.{Word, Fault}
use Rattle.os_command_line.specs.Shell.IsGap.{no_gap}
use Rattle.os_command_line.specs.ShellReader.{outcome, after_gap, found, rest_of, with_found, items_within, items_of}
use Rattle.os_command_line.proofs.lemmas.ShellOneReading.{complete}
use Rattle.os_command_line.proofs.lemmas.ShellEachLine.{same, some_reading}
use Rattle.os_command_line.proofs.lemmas.ShellMeaning.{cut_word, fault_within}
use Rattle.os_command_line.proofs.lemmas.ShellGaps.{IsAfterGap, after_gap_is, gap_passed, begun, only_gap}
use Rattle.os_command_line.proofs.lemmas.Lists.{no_cons}

-- a word takes some of the text
shorter : (l : Language) (text word after : List ℕ) → Begins text → outcome l text ≡ Word word after → length after < length text
shorter l text word after b e =
    let c = cut_word l text word after e in
    some c.own c.joined c.ends
  where
    none_ends : (text : List ℕ) → Begins text → Ends text → ⊥
    none_ends [] b e = b.some refl
    none_ends (x ∷ text) b e = true≢false (sym e ∙ b.no_blank x text refl)

    some : (own : List ℕ) → text ≡ own ++ after → Ends after → length after < length text
    some [] j e = absurd (none_ends text b (subst Ends (sym j) e))
    some (x ∷ own) j e = omega (arith, ap length j, length-append own after)

-- what is next in a line is what is found there
pub next_found : (l : Language) (line : List ℕ) (o : Outcome) → IsNext l line o → found l (after_gap line) ≡ Some o
next_found l line o n = ap (found l) (ap after_gap n.parts ∙ gap_passed n.gap n.text n.is_gap ∙ begun n.text n.begins) ∙ of_text n.text n.begins n.reads
  where
    of_text : (text : List ℕ) → Begins text → Reads l true text o → found l text ≡ Some o
    of_text [] b r = absurd (b.some refl)
    of_text (c ∷ text) b r = ap Some (complete l true (c ∷ text) o [] r)

pub found_next : (l : Language) (line : List ℕ) (o : Outcome) → found l (after_gap line) ≡ Some o → IsNext l line o
found_next l line o e = of_text (after_gap line) (after_gap_is line) e
  where
    of_text : (text : List ℕ) → IsAfterGap line text → found l text ≡ Some o → IsNext l line o
    of_text [] g f = let no : None ≡ Some o = f in absurd cc
    of_text (c ∷ text) g f = let h : outcome l (c ∷ text) ≡ o = cc in record { gap = g.gap; text = c ∷ text; parts = g.parts; is_gap = g.is_gap; begins = g.begins no_cons; reads = same refl h (some_reading l (c ∷ text)) }

pub none_found : (l : Language) (line : List ℕ) → found l (after_gap line) ≡ None → after_gap line ≡ []
none_found l line e = of_text (after_gap line) e
  where
    of_text : (text : List ℕ) → found l text ≡ None → text ≡ []
    of_text [] f = refl
    of_text (c ∷ text) f = let no : Some (outcome l (c ∷ text)) ≡ None = f in absurd cc

next_shorter : (l : Language) (line word rest : List ℕ) → IsNext l line (Word word rest) → length rest < length line
next_shorter l line word rest n =
    omega (arith, ap length n.parts, length-append n.gap n.text, shorter l n.text word rest n.begins (complete l true n.text (Word word rest) [] n.reads))

next_within : (l : Language) (line : List ℕ) (kind : FaultKind) (left : List ℕ) → IsNext l line (Fault kind left) → length left ≤ length line
next_within l line kind left n = omega (arith, ap length n.parts, length-append n.gap n.text, fault_within l n.text kind left (complete l true n.text (Fault kind left) [] n.reads))

within_step : (l : Language) (len n : ℕ) (line : List ℕ) → items_within l len (suc n) line ≡ with_found len (found l (after_gap line)) (items_within l len n (rest_of (found l (after_gap line))))
unfolding items_within
within_step l len n line = refl

within_none : (l : Language) (len : ℕ) (line : List ℕ) → items_within l len zero line ≡ []
unfolding items_within
within_none l len line = refl

-- one more item
pub item_next : (l : Language) (len n : ℕ) (line : List ℕ) (o : Outcome) → found l (after_gap line) ≡ Some o → items_within l len (suc n) line ≡ with_found len (Some o) (items_within l len n (rest_of (Some o)))
item_next l len n line o e = within_step l len n line ∙ ap (λ z. with_found len z (items_within l len n (rest_of z))) e

pub no_more : (l : Language) (len n : ℕ) (line : List ℕ) → after_gap line ≡ [] → items_within l len n line ≡ []
no_more l len zero line e = within_none l len line
no_more l len (suc n) line e = within_step l len n line ∙ ap (λ z. with_found len (found l z) (items_within l len n (rest_of (found l z)))) e

-- what the rules say is what is listed
pub complete_items : (l : Language) (len n : ℕ) (line : List ℕ) (items : List (Result (List ℕ) WordsFault)) → length line ≤ n → AreItems l len line items → items_within l len n line ≡ items
complete_items l len n line [] h a = no_more l len n line (only_gap line a)
complete_items l len zero line (Ok word ∷ items) h a = absurd (omega (arith, h, next_shorter l line word a.0 a.1))
complete_items l len (suc n) line (Ok word ∷ items) h a =
    item_next l len n line (Word word a.0) (next_found l line (Word word a.0) a.1) ∙ ap (λ z. Ok word ∷ z) (complete_items l len n a.0 items (omega (arith, h, next_shorter l line word a.0 a.1)) a.2)
complete_items l len zero line (Err fault ∷ items) h a = absurd (a.1.begins.some (no_line a.1.gap a.1.text (sym a.1.parts ∙ nil_from_length line (omega (arith, h)))))
  where
    no_line : (gap text : List ℕ) → gap ++ text ≡ [] → text ≡ []
    no_line [] text e = e
    no_line (x ∷ gap) text e = absurd (no_cons e)
complete_items l len (suc n) line (Err fault ∷ items) h a =
    let at : len - length a.0 ≡ fault.index = omega (arith, a.2) in
    item_next l len n line (Fault fault.kind a.0) (next_found l line (Fault fault.kind a.0) a.1) ∙ ap (λ i. Err (record { kind = fault.kind; index = i }) ∷ []) at ∙ ap (λ z. Err fault ∷ z) (sym a.3)

gap_only : (line : List ℕ) → after_gap line ≡ [] → IsGap line
gap_only line e = let g = after_gap_is line in subst IsGap (sym (g.parts ∙ ap (λ z. g.gap ++ z) e ∙ append-nil g.gap)) g.is_gap

sound_found : (l : Language) (len n : ℕ) (line : List ℕ) → length line ≤ suc n → length line ≤ len → ((rest : List ℕ) → length rest ≤ n → length rest ≤ len → AreItems l len rest (items_within l len n rest)) → (f : Option Outcome) → found l (after_gap line) ≡ f
    → AreItems l len line (items_within l len (suc n) line)
sound_found l len n line h k more None e = let none = none_found l line e in subst (AreItems l len line) (sym (no_more l len (suc n) line none)) (gap_only line none)
sound_found l len n line h k more (Some (Word word rest)) e =
    let next = found_next l line (Word word rest) e in
    let short = next_shorter l line word rest next in
    subst (AreItems l len line) (sym (item_next l len n line (Word word rest) e)) (rest, next, more rest (omega (arith, h, short)) (omega (arith, k, short)))
sound_found l len n line h k more (Some (Fault kind left)) e =
    let next = found_next l line (Fault kind left) e in
    let within = next_within l line kind left next in
    subst (AreItems l len line) (sym (item_next l len n line (Fault kind left) e)) (left, next, omega (arith, k, within), refl)

-- and what is listed is what the rules say
pub sound_items : (l : Language) (len n : ℕ) (line : List ℕ) → length line ≤ n → length line ≤ len → AreItems l len line (items_within l len n line)
sound_items l len zero line h k = subst (AreItems l len line) (sym (within_none l len line)) (subst IsGap (sym (nil_from_length line (omega (arith, h)))) no_gap)
sound_items l len (suc n) line h k = sound_found l len n line h k (λ rest a b. sound_items l len n rest a b) (found l (after_gap line)) refl

-- more steps than the line has bytes list no more
pub enough : (l : Language) (len n : ℕ) (line : List ℕ) → length line ≤ n → length line ≤ len → items_within l len n line ≡ items_of l len line
enough l len n line h k = complete_items l len n line (items_of l len line) h (sound_items l len (length line) line (omega arith) k)

pub are_items : (l : Language) (line : List ℕ) → IsRead l line (items_of l (length line) line)
are_items l line = sound_items l (length line) (length line) line (omega arith) (omega arith)

pub one_list : (l : Language) (line : List ℕ) (xs ys : List (Result (List ℕ) WordsFault)) → IsRead l line xs → IsRead l line ys → xs ≡ ys
one_list l line xs ys p q = sym (complete_items l (length line) (length line) line xs (omega arith) p) ∙ complete_items l (length line) (length line) line ys (omega arith) q

text_found : (l : Language) (line text : List ℕ) (o : Outcome) → text ≡ after_gap line → text ≢ [] → outcome l text ≡ o → found l (after_gap line) ≡ Some o
text_found l line [] o t some e = absurd (some refl)
text_found l line (c ∷ text) o t some e = ap (found l) (sym t) ∙ ap Some e

-- the first item, and what is left
pub first_word : (l : Language) (len : ℕ) (line text word rest : List ℕ) → length line ≤ len → text ≡ after_gap line → text ≢ [] → outcome l text ≡ Word word rest → (items_of l len line ≡ Ok word ∷ items_of l len rest) × (length rest ≤ length line)
first_word l len line text word rest k t some o =
    let e = text_found l line text (Word word rest) t some o in
    let short = next_shorter l line word rest (found_next l line (Word word rest) e) in
    (of_length (length line) refl e short, omega (arith, short))
  where
    of_length : (n : ℕ) → length line ≡ n → found l (after_gap line) ≡ Some (Word word rest) → length rest < length line → items_within l len n line ≡ Ok word ∷ items_of l len rest
    of_length zero z e short = absurd (omega (arith, z, short))
    of_length (suc n) z e short = item_next l len n line (Word word rest) e ∙ ap (λ x. Ok word ∷ x) (enough l len n rest (omega (arith, z, short)) (omega (arith, k, short)))

pub first_fault : (l : Language) (len : ℕ) (line text : List ℕ) (kind : FaultKind) (left : List ℕ) → length line ≤ len → text ≡ after_gap line → text ≢ [] → outcome l text ≡ Fault kind left
    → (items_of l len line ≡ Err (record { kind = kind; index = len - length left }) ∷ items_of l len []) × (length left ≤ length line)
first_fault l len line text kind left k t some o =
    let e = text_found l line text (Fault kind left) t some o in
    let n = found_next l line (Fault kind left) e in
    (of_length (length line) (line_some line n) e, next_within l line kind left n)
  where
    line_some : (line : List ℕ) → IsNext l line (Fault kind left) → length line ≢ 0
    line_some line n z = n.begins.some (nil_from_length n.text (omega (arith, z, ap length n.parts, length-append n.gap n.text)))

    of_length : (n : ℕ) → n ≢ 0 → found l (after_gap line) ≡ Some (Fault kind left) → items_within l len n line ≡ Err (record { kind = kind; index = len - length left }) ∷ items_of l len []
    of_length zero z e = absurd (z refl)
    of_length (suc n) z e = item_next l len n line (Fault kind left) e ∙ ap (λ x. Err (record { kind = kind; index = len - length left }) ∷ x) (sym (within_none l len []))

pub no_item : (l : Language) (len : ℕ) (line text : List ℕ) → text ≡ after_gap line → text ≡ [] → items_of l len line ≡ []
no_item l len line text t e = no_more l len (length line) line (sym t ∙ e)

-- the items are words, and then at most one fault
pub words_or_fault : (l : Language) (len : ℕ) (line : List ℕ) (items : List (Result (List ℕ) WordsFault)) → AreItems l len line items → HasOneFault items
words_or_fault l len line [] h = ([], inl refl)
words_or_fault l len line (Ok word ∷ items) h = let more = words_or_fault l len h.0 items h.2 in (word ∷ more.0, elim more.1 [ inl e ↦ inl (ap (λ z. Ok word ∷ z) e) | inr f ↦ inr (f.0, ap (λ z. Ok word ∷ z) f.1) ])
words_or_fault l len line (Err fault ∷ items) h = ([], inr (fault, ap (λ z. Err fault ∷ z) h.3))
