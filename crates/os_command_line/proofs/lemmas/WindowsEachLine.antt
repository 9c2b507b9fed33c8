-- Each line is some arguments: the steps of the reader give what the rules say.
use Rattle.std.proofs.Common.{◌≡◌, ◌≢◌, ℕ, zero, suc, ◌+◌, ◌*◌, ◌/◌, ◌%◌, ◌<◌, ◌≤◌, Bool, true, false, not, List, [], ◌∷◌, ◌++◌, length, refl, sym, ap, ◌∙◌, subst, arith, append_assoc, length-append, inl, inr, ◌⊎◌}
use Rattle.std.proofs.lemmas.Bool.{cases_eq, true≢false}
use Rattle.std.proofs.lemmas.List.{replicate_more}
use Rattle.os_command_line.specs.Windows.{backslash, quote, IsBlank, backslashes, IsLiteral, Ends, Begins, Reads, AreArguments, ReadsName}
use Rattle.os_command_line.specs.Windows.Reads.{ends, literal, escaped, opens, closes, doubled}
use Rattle.os_command_line.specs.Windows.ReadsName.{name_ends, name_quote, name_unit}
use Rattle.os_command_line.specs.WindowsReader.{index, word_from, first_index, arguments_in}
use Rattle.os_command_line.proofs.lemmas.WindowsOwnText.{same, alone}
use Rattle.os_command_line.proofs.lemmas.WindowsOneReading.{at, in_name, slash_at, ends_at, literal_at, escaped_at, opens_at, closes_at, closed_at, doubled_at, quote_at, unit_at, complete_list}

pub more_backslashes : (n : ℕ) (text : List ℕ) → backslashes (n + 1) ++ text ≡ backslashes n ++ backslash ∷ text
more_backslashes n text = ap (λ s. s ++ text) (sym (replicate_more n backslash)) ∙ append_assoc (backslashes n) (backslash ∷ []) text

pub blank_cases : (u : ℕ) → IsBlank u ⊎ (IsBlank u → ⊥)
blank_cases u = elim (cases_eq u 0x20) [
  | inl e ↦ inl (inl e)
  | inr n ↦ elim (cases_eq u 0x09) [ inl e ↦ inl (inr e) | inr m ↦ inr (λ b. elim b [ inl e ↦ n e | inr e ↦ m e ]) ]
]

-- what is found from here is a reading
abbrev IsRead : Bool → ℕ → List ℕ → List ℕ × List ℕ → Type 0
IsRead inside n text r = Reads r.1 inside (backslashes n ++ text) r.0

-- the same right after a quotation mark that closes a part
abbrev IsReadClosing : List ℕ → List ℕ × List ℕ → Type 0
IsReadClosing text r = (k : ℕ) → Reads r.1 true (backslashes (2 * k) ++ quote ∷ text) (backslashes k ++ r.0)

-- from an index on a text
abbrev IsSound : List ℕ → Type 0
IsSound text = ((inside : Bool) (n : ℕ) → IsRead inside n text (word_from (at inside n) text)) × IsReadClosing text (word_from (index false true false 0) text)

at_slash : (inside : Bool) (n : ℕ) (us : List ℕ) → IsSound us → IsRead inside n (backslash ∷ us) (word_from (at inside n) (backslash ∷ us))
at_slash inside n us h = subst (IsRead inside n (backslash ∷ us)) (sym (slash_at inside n us)) (same (more_backslashes n us) refl (h.0 inside (n + 1)))

at_odd : (inside : Bool) (k : ℕ) (us : List ℕ) → IsSound us → IsRead inside (2 * k + 1) (quote ∷ us) (word_from (at inside (2 * k + 1)) (quote ∷ us))
at_odd inside k us h =
    subst (IsRead inside (2 * k + 1) (quote ∷ us)) (sym (escaped_at inside k us))
    (same refl (sym (append_assoc (backslashes k) (quote ∷ []) (word_from (at inside 0) us).0)) (escaped inside k us (word_from (at inside 0) us).0 (h.0 inside 0)))

at_even : (inside : Bool) (k : ℕ) (us : List ℕ) → IsSound us → IsRead inside (2 * k) (quote ∷ us) (word_from (at inside (2 * k)) (quote ∷ us))
at_even false k us h = subst (IsRead false (2 * k) (quote ∷ us)) (sym (opens_at k us)) (opens k us (word_from (at true 0) us).0 (h.0 true 0))
at_even true k us h = subst (IsRead true (2 * k) (quote ∷ us)) (sym (closes_at k us)) (h.1 k)

at_quote : (inside : Bool) (n : ℕ) (us : List ℕ) → IsSound us → IsRead inside n (quote ∷ us) (word_from (at inside n) (quote ∷ us))
at_quote inside n us h = elim (cases_eq (n % 2) 1) [
  | inl e ↦ let f : 2 * (n / 2) + 1 ≡ n = omega (arith, e) in subst (λ m. IsRead inside m (quote ∷ us) (word_from (at inside m) (quote ∷ us))) f (at_odd inside (n / 2) us h)
  | inr e ↦ let f : 2 * (n / 2) ≡ n = omega (arith, e) in subst (λ m. IsRead inside m (quote ∷ us) (word_from (at inside m) (quote ∷ us))) f (at_even inside (n / 2) us h)
]

at_literal : (inside : Bool) (n u : ℕ) (us : List ℕ) → IsLiteral inside u → IsSound us → IsRead inside n (u ∷ us) (word_from (at inside n) (u ∷ us))
at_literal inside n u us l h =
    subst (IsRead inside n (u ∷ us)) (sym (literal_at inside n u us l))
    (same refl (sym (append_assoc (backslashes n) (u ∷ []) (word_from (at inside 0) us).0)) (literal inside n u us (word_from (at inside 0) us).0 l (h.0 inside 0)))

at_end : (inside : Bool) (n : ℕ) (text : List ℕ) → Ends inside text → IsRead inside n text (word_from (at inside n) text)
at_end inside n text e = subst (IsRead inside n text) (sym (ends_at false false inside n text e)) (ends inside n e)

at_other : (inside : Bool) (n u : ℕ) (us : List ℕ) → u ≢ backslash → u ≢ quote → IsSound us → IsRead inside n (u ∷ us) (word_from (at inside n) (u ∷ us))
at_other true n u us s q h = at_literal true n u us (record { no_backslash = s; no_quote = q; no_blank = λ e. absurd (true≢false e) }) h
at_other false n u us s q h = elim (blank_cases u) [
  | inl b ↦ at_end false n (u ∷ us) b
  | inr b ↦ at_literal false n u us (record { no_backslash = s; no_quote = q; no_blank = λ _. b }) h
]

at_any : (inside : Bool) (n u : ℕ) (us : List ℕ) → IsSound us → IsRead inside n (u ∷ us) (word_from (at inside n) (u ∷ us))
at_any inside n u us h = elim (cases_eq u backslash) [
  | inl e ↦ subst (λ v. IsRead inside n (v ∷ us) (word_from (at inside n) (v ∷ us))) (sym e) (at_slash inside n us h)
  | inr s ↦ elim (cases_eq u quote) [
    | inl e ↦ subst (λ v. IsRead inside n (v ∷ us) (word_from (at inside n) (v ∷ us))) (sym e) (at_quote inside n us h)
    | inr q ↦ at_other inside n u us s q h
  ]
]

closing_at : (u : ℕ) (us : List ℕ) → IsSound us → IsReadClosing (u ∷ us) (word_from (index false true false 0) (u ∷ us))
closing_at u us h k = elim (cases_eq u quote) [
  | inl e ↦ subst (λ v. Reads (word_from (index false true false 0) (v ∷ us)).1 true (backslashes (2 * k) ++ quote ∷ v ∷ us) (backslashes k ++ (word_from (index false true false 0) (v ∷ us)).0)) (sym e) marks
  | inr q ↦ let r = word_from (at false 0) (u ∷ us) in
      subst (λ (r : List ℕ × List ℕ). Reads r.1 true (backslashes (2 * k) ++ quote ∷ u ∷ us) (backslashes k ++ r.0)) (sym (closed_at (u ∷ us) q)) (closes k (u ∷ us) r.0 q (at_any false 0 u us h))
]
  where
    marks : Reads (word_from (index false true false 0) (quote ∷ us)).1 true (backslashes (2 * k) ++ quote ∷ quote ∷ us) (backslashes k ++ (word_from (index false true false 0) (quote ∷ us)).0)
    marks = subst (λ (r : List ℕ × List ℕ). Reads r.1 true (backslashes (2 * k) ++ quote ∷ quote ∷ us) (backslashes k ++ r.0)) (sym (doubled_at us)) (doubled k us (word_from (at true 0) us).0 (h.0 true 0))

sound : (text : List ℕ) → IsSound text
sound [] = (λ inside n. at_end inside n [] tt, λ k. subst (λ (r : List ℕ × List ℕ). Reads r.1 true (backslashes (2 * k) ++ quote ∷ []) (backslashes k ++ r.0)) (sym (ends_at false true false 0 [] tt)) (closes k [] [] tt (ends false 0 tt)))
sound (u ∷ us) = let h = sound us in (λ inside n. at_any inside n u us h, closing_at u us h)

-- each text is read as an argument
pub some_reading : (text : List ℕ) → Reads (word_from first_index text).1 false text (word_from first_index text).0
some_reading text = (sound text).0 false 0

-- and as a program's name
pub some_name : (text : List ℕ) (inside : Bool) → ReadsName (word_from (in_name inside) text).1 inside text (word_from (in_name inside) text).0
some_name [] inside = subst (λ (r : List ℕ × List ℕ). ReadsName r.1 inside [] r.0) (sym (ends_at true false inside 0 [] tt)) (name_ends inside tt)
some_name (u ∷ us) inside = elim (cases_eq u quote) [
  | inl e ↦ subst (λ v. ReadsName (word_from (in_name inside) (v ∷ us)).1 inside (v ∷ us) (word_from (in_name inside) (v ∷ us)).0) (sym e) (marked (some_name us (not inside)))
  | inr q ↦ other inside q (some_name us)
]
  where
    marked : ReadsName (word_from (in_name (not inside)) us).1 (not inside) us (word_from (in_name (not inside)) us).0 → ReadsName (word_from (in_name inside) (quote ∷ us)).1 inside (quote ∷ us) (word_from (in_name inside) (quote ∷ us)).0
    marked h = subst (λ (r : List ℕ × List ℕ). ReadsName r.1 inside (quote ∷ us) r.0) (sym (quote_at inside us)) (name_quote inside us (word_from (in_name (not inside)) us).0 h)

    unit : (i : Bool) → u ≢ quote → (i ≡ false → ¬ (IsBlank u)) → ((j : Bool) → ReadsName (word_from (in_name j) us).1 j us (word_from (in_name j) us).0) → ReadsName (word_from (in_name i) (u ∷ us)).1 i (u ∷ us) (word_from (in_name i) (u ∷ us)).0
    unit i q b h = subst (λ (r : List ℕ × List ℕ). ReadsName r.1 i (u ∷ us) r.0) (sym (unit_at i u us q b)) (name_unit i u us (word_from (in_name i) us).0 q b (h i))

    other : (i : Bool) → u ≢ quote → ((j : Bool) → ReadsName (word_from (in_name j) us).1 j us (word_from (in_name j) us).0) → ReadsName (word_from (in_name i) (u ∷ us)).1 i (u ∷ us) (word_from (in_name i) (u ∷ us)).0
    other true q h = unit true q (λ e. absurd (true≢false e)) h
    other false q h = elim (blank_cases u) [
      | inl b ↦ subst (λ (r : List ℕ × List ℕ). ReadsName r.1 false (u ∷ us) r.0) (sym (ends_at true false false 0 (u ∷ us) b)) (name_ends false b)
      | inr b ↦ unit false q (λ _. b) h
    ]

-- ---- lists of arguments

no_end_here : (inside : Bool) (after : List ℕ) → Ends inside after → Begins after → ⊥
no_end_here inside [] e b = b
no_end_here true (u ∷ us) e b = e
no_end_here false (u ∷ us) e b = b e

-- an argument takes some of the line
pub shorter : (after : List ℕ) (inside : Bool) (text argument : List ℕ) → Reads after inside text argument → Begins text → length after < length text
shorter after inside text argument r b = let a = alone after inside text argument r in some a.own a.joined a.inside a.ends
  where
    some : (own : List ℕ) → text ≡ own ++ after → (i : Bool) → Ends i after → length after < length text
    some [] j i e = absurd (no_end_here i after e (subst Begins j b))
    some (u ∷ own) j i e = omega (arith, ap length j, length-append own after)

-- a blank before a line changes nothing
blank_first : (u : ℕ) (us : List ℕ) (xs : List (List ℕ)) → IsBlank u → AreArguments us xs → AreArguments (u ∷ us) xs
blank_first u us [] b h = (b, h)
blank_first u us (x ∷ xs) b h =
    let n = h.1 in
    (h.0, record { blanks = u ∷ n.blanks; text = n.text; joined = ap (λ z. u ∷ z) n.joined; are_blanks = (b, n.are_blanks); begins = n.begins; reads = n.reads }, h.2)

each_line : (fuel : ℕ) (line : List ℕ) → length line ≤ fuel → (xs : List (List ℕ)) × AreArguments line xs
each_line fuel [] h = ([], tt)
each_line zero (u ∷ us) h = absurd (omega (arith, h))
each_line (suc fuel) (u ∷ us) h = elim (blank_cases u) [
  | inl b ↦ let r = each_line fuel us (omega (arith, h)) in (r.0, blank_first u us r.0 b r.1)
  | inr b ↦ let read = word_from first_index (u ∷ us) in
      let reads = some_reading (u ∷ us) in
      let r = each_line fuel read.1 (omega (arith, h, shorter read.1 false (u ∷ us) read.0 reads b)) in
      (read.0 ∷ r.0, (read.1, record { blanks = []; text = u ∷ us; joined = refl; are_blanks = tt; begins = b; reads = reads }, r.1))
]

-- a line is some arguments
pub some_list : (line : List ℕ) → (xs : List (List ℕ)) × AreArguments line xs
some_list line = each_line (length line) line (omega arith)

-- they are those that are found
pub are_found : (line : List ℕ) → AreArguments line (arguments_in line)
are_found line = let s = some_list line in subst (AreArguments line) (sym (complete_list line s.0 s.1)) s.1
