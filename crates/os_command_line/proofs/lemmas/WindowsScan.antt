-- How far an argument and a program's name reach, by bytes.
use Rattle.std.proofs.Common.{◌≡◌, ◌≢◌, ⊎_elim, ℕ, ◌+◌, ◌*◌, ◌/◌, ◌%◌, ◌<◌, Bool, true, false, not, List, [], ◌∷◌, ◌++◌, length, take, drop, get_or, refl, sym, ap, ◌∙◌, subst, arith, append_assoc, append-nil, inl, inr, take-append-drop, Option, None, Some}
use Rattle.std.specs.List.{AllByRecursion}
use Rattle.std.proofs.lemmas.Bool.{cases_eq, ne_eqb, eq-eqb, eqb-true, true≢false}
use Rattle.std.proofs.lemmas.List.{drop_more}
use Rattle.memchr.specs.Find.{IsFirstByte, NoneBefore, Passes, is_byte, is_byte3}
use Rattle.os_command_line.specs.Windows.{backslash, quote, IsBlank, backslashes, IsLiteral, Ends, StartsWithNoQuote, Reads, ReadsName}
use Rattle.os_command_line.specs.Windows.Reads.{ends, literal, escaped, opens, closes, doubled}
use Rattle.os_command_line.specs.Windows.ReadsName.{name_ends, name_quote, name_unit}
use Rattle.os_command_line.specs.WindowsReader.{meant, first_index}
use Rattle.os_command_line.specs.WindowsSteps.{IsInPart, IsPartCut, IsPartEnd, BeginsArgument, EndsWithRun, last_run, Leads, IsQuoteStep}
use Rattle.os_command_line.proofs.lemmas.WindowsOwnText.{same}
use Rattle.os_command_line.proofs.lemmas.WindowsEachLine.{more_backslashes}
use Rattle.os_command_line.proofs.lemmas.WindowsRuns.{more_is, slash_more}
use Rattle.os_command_line.proofs.lemmas.Lists.{both_parts, one_more}
use Rattle.os_command_line.proofs.lemmas.ShellForms.{nowhere, before_first}
use Rattle.os_command_line.proofs.lemmas.WindowsOneReading.{complete_alone}

-- ---- a quotation mark

module _ (run : ℕ) (text : List ℕ) where
  pub step_escaped : (inside : Bool) → run % 2 ≡ 1 → IsQuoteStep inside run (quote ∷ text) inside text
  step_escaped inside h = record {
    taken = quote ∷ [];
    parts = refl;
    added = backslashes (run / 2) ++ quote ∷ [];
    leads = λ argument after r. same (ap (λ k. backslashes k ++ quote ∷ text) odd_is) (sym (append_assoc (backslashes (run / 2)) (quote ∷ []) argument)) (escaped inside (run / 2) text argument r);
    shorter = omega arith;
  }
    where
      odd_is : 2 * (run / 2) + 1 ≡ run
      odd_is = omega (arith, h)

  module _ (even : run % 2 ≢ 1) where
    even_is : 2 * (run / 2) ≡ run
    even_is = omega (arith, even)

    pub step_opens : (inside : Bool) → inside ≡ false → IsQuoteStep inside run (quote ∷ text) true text
    step_opens inside i = subst (λ b. IsQuoteStep b run (quote ∷ text) true text) (sym i) (record {
      taken = quote ∷ [];
      parts = refl;
      added = backslashes (run / 2);
      leads = λ argument after r. same (ap (λ k. backslashes k ++ quote ∷ text) even_is) refl (opens (run / 2) text argument r);
      shorter = omega arith;
    })

    pub step_closes : (inside : Bool) → inside ≡ true → StartsWithNoQuote text → IsQuoteStep inside run (quote ∷ text) false text
    step_closes inside i s = subst (λ b. IsQuoteStep b run (quote ∷ text) false text) (sym i) (record {
      taken = quote ∷ [];
      parts = refl;
      added = backslashes (run / 2);
      leads = λ argument after r. same (ap (λ k. backslashes k ++ quote ∷ text) even_is) refl (closes (run / 2) text argument s r);
      shorter = omega arith;
    })

    pub step_doubled : (inside : Bool) (after_quote : List ℕ) → inside ≡ true → after_quote ≡ quote ∷ text → IsQuoteStep inside run (quote ∷ after_quote) inside text
    step_doubled inside after_quote i b =
        subst (λ z. IsQuoteStep inside run (quote ∷ z) inside text) (sym b)
        (subst (λ b. IsQuoteStep b run (quote ∷ quote ∷ text) b text) (sym i)
        (record {
          taken = quote ∷ quote ∷ [];
          parts = refl;
          added = backslashes (run / 2) ++ quote ∷ [];
          leads = λ argument after r. same (ap (λ k. backslashes k ++ quote ∷ quote ∷ text) even_is) (sym (append_assoc (backslashes (run / 2)) (quote ∷ []) argument)) (doubled (run / 2) text argument r);
          shorter = omega arith;
        }))

pub ruleset quote_steps = (step_escaped, step_opens, step_closes, step_doubled)

-- ---- a part

part_literal : (inside : Bool) (u : ℕ) → IsInPart inside u → u ≢ backslash → IsLiteral inside u
part_literal inside u p other = record { no_backslash = other; no_quote = p.no_quote; no_blank = p.no_blank }

-- what comes after a part is read after its last backslashes
part_leads : (inside : Bool) (rest us : List ℕ) (n : ℕ) → AllByRecursion (IsInPart inside) us → (added : List ℕ) × Leads inside n (us ++ rest) added inside (last_run n us) rest
part_leads inside rest [] n h = ([], λ argument after r. r)
part_leads inside rest (u ∷ us) n h = elim (cases_eq u backslash) [
  | inl is ↦
      let more = part_leads inside rest us (n + 1) h.1 in
      (more.0, λ argument after r. same (more_backslashes n (us ++ rest) ∙ ap (λ x. backslashes n ++ x ∷ (us ++ rest)) (sym is)) refl (more.1 argument after (same (ap (λ m. backslashes (last_run m us) ++ rest) (slash_more n u is)) refl r)))
  | inr other ↦
      let more = part_leads inside rest us 0 h.1 in (
        (backslashes n ++ u ∷ []) ++ more.0,
        λ argument after r.
            same refl (sym (append_assoc (backslashes n ++ u ∷ []) more.0 argument ∙ append_assoc (backslashes n) (u ∷ []) (more.0 ++ argument)))
            (literal inside n u (us ++ rest) (more.0 ++ argument) (part_literal inside u h.0 other) (more.1 argument after (same (ap (λ m. backslashes (last_run m us) ++ rest) (more_is n u other)) refl r))),
      )
]

-- or it ends the argument
part_from : (inside : Bool) (after us : List ℕ) (n : ℕ) → Ends inside after → AllByRecursion (IsInPart inside) us → Reads after inside (backslashes n ++ (us ++ after)) (backslashes n ++ us)
part_from inside after [] n e h = same refl (sym (append-nil (backslashes n))) (ends inside n e)
part_from inside after (u ∷ us) n e h = elim (cases_eq u backslash) [
  | inl is ↦ same (more_backslashes n (us ++ after) ∙ ap (λ x. backslashes n ++ x ∷ (us ++ after)) (sym is)) (more_backslashes n us ∙ ap (λ x. backslashes n ++ x ∷ us) (sym is)) (part_from inside after us (n + 1) e h.1)
  | inr other ↦ literal inside n u (us ++ after) us (part_literal inside u h.0 other) (part_from inside after us 0 e h.1)
]

pub bare_means_itself : (us : List ℕ) → AllByRecursion (IsInPart false) us → meant first_index us ≡ us
bare_means_itself us h = complete_alone us us (same (append-nil us) refl (part_from false [] us 0 tt h))

-- a part, backslashes and what comes after them
part_before : (inside : Bool) (part rest : List ℕ) (run : ℕ) → AllByRecursion (IsInPart inside) part → EndsWithRun part run → (added : List ℕ) × Leads inside 0 (part ++ rest) added inside run rest
part_before inside part rest run h last =
    let parts = subst (AllByRecursion (IsInPart inside)) last.1 h in
    let read = part_leads inside (backslashes run ++ rest) last.0 0 (both_parts (IsInPart inside) last.0 (backslashes run) parts).0 in
    (read.0, λ argument after r. same (sym (append_assoc last.0 (backslashes run) rest) ∙ ap (λ z. z ++ rest) (sym last.1)) refl (read.1 argument after (same (ap (λ m. backslashes m ++ (backslashes run ++ rest)) (sym last.2)) refl r)))

-- ---- the search for its end

part_to : (inside : Bool) (test : ℕ → Bool) (text : List ℕ) (at : ℕ) → ((u : ℕ) → ¬ (test u ≡ true) → IsInPart inside u) → ((u : ℕ) (us : List ℕ) → test u ≡ true → u ≢ quote → Ends inside (u ∷ us)) → NoneBefore (Passes test text) 0 (length text) at × Passes test text at
    → (at < length text) × IsPartCut inside text (take at text) (drop at text)
part_to inside test text at other stops first = (
  first.0.high,
  record {
    joined = sym (take-append-drop at text);
    is_part = before_first test (IsInPart inside) other text at first.0;
    end = λ n. let e = drop_more text at 0 first.0.high in subst (Ends inside) (sym e) (stops (get_or text at 0) (drop (at + 1) text) first.1 (subst StartsWithNoQuote e n));
  },
)

-- inside quotation marks
quote_other : (u : ℕ) → ¬ (is_byte 0x22 u ≡ true) → IsInPart true u
quote_other u n = record { no_quote = λ e. n (eq-eqb u quote e); no_blank = λ e. absurd (true≢false e) }

pub quoted_end : (text : List ℕ) (found : Option ℕ) → IsFirstByte (is_byte 0x22) text found → IsPartEnd true text found
quoted_end text None h = nowhere (is_byte 0x22) (IsInPart true) quote_other text h
quoted_end text (Some at) h = part_to true (is_byte 0x22) text at quote_other (λ u us is n. absurd (n (eqb-true u quote is))) h

-- and outside
abbrev is_stop : ℕ → Bool
is_stop u = is_byte3 0x20 0x09 0x22 u

stop_other : (u : ℕ) → ¬ (is_stop u ≡ true) → IsInPart false u
stop_other u n = record {
  no_blank = λ _. ⊎_elim (λ e. n (subst (λ z. is_stop z ≡ true) (sym e) refl)) (λ e. n (subst (λ z. is_stop z ≡ true) (sym e) refl));
  no_quote = λ e. n (subst (λ z. is_stop z ≡ true) (sym e) refl);
}

stop_blank : (u : ℕ) → is_stop u ≡ true → u ≢ quote → IsBlank u
stop_blank u h n = elim (cases_eq u 0x20) [
  | inl e ↦ inl e
  | inr a ↦ elim (cases_eq u 0x09) [
    | inl e ↦ inr e
    | inr b ↦ absurd (true≢false (sym h ∙ none a b))
  ]
]
  where
    none : u ≢ 0x20 → u ≢ 0x09 → is_stop u ≡ false
    none a b = rw (ne_eqb u 0x20 a, ne_eqb u 0x09 b, ne_eqb u 0x22 n) refl

pub bare_end : (text : List ℕ) (found : Option ℕ) → IsFirstByte is_stop text found → IsPartEnd false text found
bare_end text None h = nowhere is_stop (IsInPart false) stop_other text h
bare_end text (Some at) h = part_to false is_stop text at stop_other (λ u us is n. stop_blank u is n) h

pub ruleset part_ends = (quoted_end, bare_end)

pub whole_part : (inside : Bool) (text : List ℕ) → AllByRecursion (IsInPart inside) text → IsPartCut inside text text []
whole_part inside text h = record { joined = sym (append-nil text); is_part = h; end = λ _. tt }

-- ---- an argument

-- an argument was read up to this part, before which something leads on; it is bare if the part is its first
pub record IsSoFar (line : List ℕ) (inside bare : Bool) (part rest : List ℕ) : Type 0 where
  pub taken : List ℕ
  pub parts : line ≡ taken ++ rest
  pub added : List ℕ
  pub leads : Leads false 0 line added inside 0 (part ++ rest)
  pub is_part : AllByRecursion (IsInPart inside) part
  pub end : StartsWithNoQuote rest → Ends inside rest
  pub is_bare : bare ≡ true → AllByRecursion (IsInPart false) taken

pub first_part : (line part rest : List ℕ) → IsPartCut false line part rest → IsSoFar line false true part rest
first_part line part rest cut = record { taken = part; parts = cut.joined; added = []; leads = λ argument after r. same (sym cut.joined) refl r; is_part = cut.is_part; end = cut.end; is_bare = λ _. cut.is_part }

pub next_part : (line : List ℕ) (inside bare : Bool) (part rest : List ℕ) → IsSoFar line inside bare part rest → (run : ℕ) → EndsWithRun part run → (after : List ℕ) → rest ≡ quote ∷ after
    → (inside' : Bool) (text : List ℕ) → IsQuoteStep inside run (quote ∷ after) inside' text → (part' rest' : List ℕ) → IsPartCut inside' text part' rest' → IsSoFar line inside' false part' rest'
next_part line inside bare part rest so_far run last after r inside' text step part' rest' cut =
    let before = part_before inside part rest run so_far.is_part last in
    record {
      taken = so_far.taken ++ (step.taken ++ part');
      parts = so_far.parts ∙ ap (λ z. so_far.taken ++ z) (r ∙ step.parts ∙ ap (λ z. step.taken ++ z) cut.joined ∙ sym (append_assoc step.taken part' rest')) ∙ sym (append_assoc so_far.taken (step.taken ++ part') rest');
      added = so_far.added ++ (before.0 ++ step.added);
      leads = λ argument after' read.
          same refl (sym (append_assoc so_far.added (before.0 ++ step.added) argument ∙ ap (λ z. so_far.added ++ z) (append_assoc before.0 step.added argument)))
          (so_far.leads (before.0 ++ (step.added ++ argument)) after'
          (before.1 (step.added ++ argument) after'
          (same (ap (λ z. backslashes run ++ z) (sym r)) refl (step.leads argument after' (same (sym cut.joined) refl read)))));
      is_part = cut.is_part;
      end = cut.end;
      is_bare = λ e. absurd (true≢false (sym e));
    }

pub last_part : (line : List ℕ) (inside bare : Bool) (part rest : List ℕ) → IsSoFar line inside bare part rest → StartsWithNoQuote rest → BeginsArgument line rest bare
last_part line inside bare part rest so_far n = record {
  argument = so_far.added ++ part;
  raw = so_far.taken;
  reads = so_far.leads part rest (part_from inside rest part 0 (so_far.end n) so_far.is_part);
  joined = so_far.parts;
  is_bare = so_far.is_bare;
}

-- ---- the program's name

name_part : (inside : Bool) (rest us name after : List ℕ) → AllByRecursion (IsInPart inside) us → ReadsName after inside rest name → ReadsName after inside (us ++ rest) (us ++ name)
name_part inside rest [] name after h r = r
name_part inside rest (u ∷ us) name after h r = name_unit inside u (us ++ rest) (us ++ name) h.0.no_quote h.0.no_blank (name_part inside rest us name after h.1 r)

pub record IsNameSoFar (line : List ℕ) (inside : Bool) (rest : List ℕ) : Type 0 where
  pub taken : List ℕ
  pub parts : line ≡ taken ++ rest
  pub added : List ℕ
  pub leads : (name after : List ℕ) → ReadsName after inside rest name → ReadsName after false line (added ++ name)
  pub end : StartsWithNoQuote rest → Ends inside rest

pub first_of_name : (line part rest : List ℕ) → IsPartCut false line part rest → IsNameSoFar line false rest
first_of_name line part rest cut = record { taken = part; parts = cut.joined; added = part; leads = λ name after r. subst (λ z. ReadsName after false z (part ++ name)) (sym cut.joined) (name_part false rest part name after cut.is_part r); end = cut.end }

pub next_of_name : (line : List ℕ) (inside : Bool) (rest after : List ℕ) → IsNameSoFar line inside rest → rest ≡ quote ∷ after → (part' rest' : List ℕ) → IsPartCut (not inside) after part' rest' → IsNameSoFar line (not inside) rest'
next_of_name line inside rest after so_far r part' rest' cut = record {
  taken = so_far.taken ++ quote ∷ part';
  parts = so_far.parts ∙ ap (λ z. so_far.taken ++ z) (r ∙ ap (λ z. quote ∷ z) cut.joined) ∙ sym (append_assoc so_far.taken (quote ∷ part') rest');
  added = so_far.added ++ part';
  leads = λ name after' read.
      subst (ReadsName after' false line) (sym (append_assoc so_far.added part' name))
      (so_far.leads (part' ++ name) after'
      (subst (λ z. ReadsName after' inside z (part' ++ name)) (sym (r ∙ ap (λ z. quote ∷ z) cut.joined)) (name_quote inside (part' ++ rest') (part' ++ name) (name_part (not inside) rest' part' name after' cut.is_part read))));
  end = cut.end;
}

pub last_of_name : (line : List ℕ) (inside : Bool) (rest : List ℕ) → IsNameSoFar line inside rest → StartsWithNoQuote rest → (name : List ℕ) × (raw : List ℕ) × ReadsName rest false line name × (line ≡ raw ++ rest)
last_of_name line inside rest so_far n = (so_far.added ++ [], so_far.taken, so_far.leads [] rest (name_ends inside (so_far.end n)), so_far.parts)

-- ---- blanks

pub blank_passed : (line rest : List ℕ) (unit : ℕ) (after : List ℕ) → (blanks : List ℕ) × AllByRecursion IsBlank blanks × (line ≡ blanks ++ rest) → rest ≡ unit ∷ after → IsBlank unit
    → (blanks : List ℕ) × AllByRecursion IsBlank blanks × (line ≡ blanks ++ after)
blank_passed line rest unit after so_far e b =
    (so_far.0 ++ unit ∷ [], one_more IsBlank so_far.0 unit so_far.1 b, so_far.2 ∙ ap (λ z. so_far.0 ++ z) e ∙ sym (append_assoc so_far.0 (unit ∷ []) after))
