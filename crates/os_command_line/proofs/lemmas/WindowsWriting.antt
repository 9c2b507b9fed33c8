-- What is written of an argument is read as it.
use Rattle.std.proofs.Common.{◌≡◌, ◌≢◌, ℕ, ◌+◌, ◌*◌, Bool, true, false, if◌then◌else◌, eqb, List, [], ◌∷◌, ◌++◌, length, take, refl, sym, ap, ◌∙◌, subst, arith, append_assoc, append-nil, length-append, inl, inr}
use Rattle.std.specs.List.{AllByRecursion}
use Rattle.std.proofs.lemmas.Bool.{cases_eq, ne_eqb, true≢false}
use Rattle.std.proofs.lemmas.List.{replicate-append-replicate}
use Rattle.std.proofs.Math.Seq.{take-append_seam}
use Rattle.os_command_line.specs.Windows.{backslash, quote, IsBlank, is_blank, backslashes, Ends, StartsWithNoQuote, Begins, Reads, IsTextOf, IsPlain}
use Rattle.os_command_line.specs.Windows.Reads.{ends, literal, escaped as escaped_mark, opens, closes}
use Rattle.os_command_line.specs.WindowsWriting.{HasNo, IsFirstAt, leads_to_mark, escaped, in_marks, has_blank, argument_text, unwritten, IsAddedFor, IsPart, IsWritten}
use Rattle.os_command_line.proofs.lemmas.Lists.{both_parts, no_cons, one_more}
use Rattle.os_command_line.proofs.lemmas.ShellOneReading.{or_false, and_none}
use Rattle.os_command_line.proofs.lemmas.WindowsOneReading.{blank, not_blank, past_blank}
use Rattle.os_command_line.proofs.lemmas.WindowsOwnText.{same}
use Rattle.os_command_line.proofs.lemmas.WindowsEachLine.{more_backslashes}

pub twice : (n m k : ℕ) (text : List ℕ) → n + m ≡ k → backslashes n ++ (backslashes m ++ text) ≡ backslashes k ++ text
twice n m k text e = sym (append_assoc (backslashes n) (backslashes m) text) ∙ ap (λ s. s ++ text) (replicate-append-replicate n m backslash ∙ ap backslashes e)

-- ---- a unit

module _ (inside : Bool) (rest : List ℕ) where
  none_before : unwritten inside 0 rest ≡ escaped inside rest
  none_before = by (leads_to_mark inside rest)
    where
      by : (m : Bool) → (if m then backslashes 0 else []) ++ escaped inside rest ≡ escaped inside rest
      by true = refl
      by false = refl

  slash_spelled : (run : ℕ) → unwritten inside run (backslash ∷ rest) ≡ backslash ∷ unwritten inside (run + 1) rest
  slash_spelled run = by (leads_to_mark inside rest)
    where
      by : (m : Bool) → (if m then backslashes run else []) ++ (if m then backslash ∷ backslash ∷ escaped inside rest else backslash ∷ escaped inside rest) ≡ backslash ∷ ((if m then backslashes (run + 1) else []) ++ escaped inside rest)
      by true = twice run 2 (run + 2) (escaped inside rest) refl ∙ sym (twice 1 (run + 1) (run + 2) (escaped inside rest) (omega arith))
      by false = refl

  quote_spelled : (run : ℕ) → unwritten inside run (quote ∷ rest) ≡ (backslashes (run + 1) ++ quote ∷ []) ++ unwritten inside 0 rest
  quote_spelled run = twice run 1 (run + 1) (quote ∷ escaped inside rest) refl ∙ ap (λ z. backslashes (run + 1) ++ quote ∷ z) (sym none_before) ∙ sym (append_assoc (backslashes (run + 1)) (quote ∷ []) (unwritten inside 0 rest))

  literal_spelled : (run u : ℕ) → u ≢ backslash → u ≢ quote → unwritten inside run (u ∷ rest) ≡ u ∷ unwritten inside 0 rest
  literal_spelled run u s q = rw (ne_eqb u quote q, ne_eqb u backslash s) (ap (λ z. u ∷ z) (sym none_before))

module _ (inside : Bool) (run : ℕ) (unit : ℕ) where
  pub added_slash : unit ≡ backslash → IsAddedFor inside run unit (unit ∷ []) (run + 1)
  added_slash e = subst (λ u. IsAddedFor inside run u (u ∷ []) (run + 1)) (sym e) (record { spelled = λ rest. slash_spelled inside rest run; no_blank = λ _. past_blank backslash (omega arith); plain = λ _. refl })

  pub added_quote : unit ≡ quote → IsAddedFor inside run unit (backslashes (run + 1) ++ unit ∷ []) 0
  added_quote e = subst (λ u. IsAddedFor inside run u (backslashes (run + 1) ++ u ∷ []) 0) (sym e) (record { spelled = λ rest. quote_spelled inside rest run; no_blank = λ _. past_blank quote (omega arith); plain = λ n. absurd (n refl) })

  pub added_literal : unit ≢ backslash → unit ≢ quote → (inside ≡ false → ¬ (IsBlank unit)) → IsAddedFor inside run unit (unit ∷ []) 0
  added_literal s q b = record { spelled = λ rest. literal_spelled inside rest run unit s q; no_blank = b; plain = λ _. refl }

-- ---- some units, one after the other

begins_more : (prefix more : List ℕ) → Begins prefix → Begins (prefix ++ more)
begins_more [] more h = absurd h
begins_more (u ∷ prefix) more h = h

escaped_begins : (us : List ℕ) → us ≢ [] → AllByRecursion (λ u. ¬ (IsBlank u)) us → Begins (escaped false us)
escaped_begins [] n h = absurd (n refl)
escaped_begins (u ∷ us) n h = by (leads_to_mark false (u ∷ us))
  where
    by : (m : Bool) → Begins (if m then backslash ∷ u ∷ escaped false us else u ∷ escaped false us)
    by true = past_blank backslash (omega arith)
    by false = h.0

bare_is : (prefix : List ℕ) (run : ℕ) (taken : List ℕ) → IsPart false prefix run taken → escaped false taken ≡ prefix
bare_is prefix run taken p = ap (escaped false) (sym (append-nil taken)) ∙ p.spelled [] ∙ append-nil prefix

part_begins : (inside : Bool) (prefix : List ℕ) (run : ℕ) (taken : List ℕ) → IsPart inside prefix run taken → inside ≡ false → taken ≢ [] → Begins prefix
part_begins true prefix run taken p e some = absurd (true≢false e)
part_begins false prefix run taken p e some = subst Begins (bare_is prefix run taken p) (escaped_begins taken some (p.no_blank refl))

pub begun : (inside : Bool) (old : List ℕ) → IsWritten inside old old 0 []
begun inside old = record {
  prefix = [];
  new_is = sym (append-nil old);
  part = record { spelled = λ rest. sym (none_before inside rest); no_blank = λ _. tt };
  begins = λ _ n. absurd (n refl);
  plain = λ _. refl;
}

pub written_on : (inside : Bool) (old mid new : List ℕ) (run : ℕ) (taken : List ℕ) (unit : ℕ) (added : List ℕ) (next : ℕ) → IsWritten inside old mid run taken → new ≡ mid ++ added → IsAddedFor inside run unit added next → IsWritten inside old new next (taken ++ unit ∷ [])
written_on inside old mid new run taken unit added next w e x = record {
  prefix = w.prefix ++ added;
  new_is = e ∙ ap (λ z. z ++ added) w.new_is ∙ append_assoc old w.prefix added;
  part = part;
  begins = part_begins inside (w.prefix ++ added) next (taken ++ unit ∷ []) part;
  plain = λ h. let parts = both_parts (λ u. u ≢ quote) taken (unit ∷ []) h in ap (λ z. z ++ added) (w.plain parts.0) ∙ ap (λ z. taken ++ z) (x.plain parts.1.0);
}
  where
    part : IsPart inside (w.prefix ++ added) next (taken ++ unit ∷ [])
    part = record {
      spelled = λ rest. ap (escaped inside) (append_assoc taken (unit ∷ []) rest) ∙ w.part.spelled (unit ∷ rest) ∙ ap (λ z. w.prefix ++ z) (x.spelled rest) ∙ sym (append_assoc w.prefix added (unwritten inside next rest));
      no_blank = λ i. one_more (λ u. ¬ (IsBlank u)) taken unit (w.part.no_blank i) (x.no_blank i);
    }

-- ---- what is written is read

no_quote_after : (after : List ℕ) → Ends false after → StartsWithNoQuote after
no_quote_after [] h = tt
no_quote_after (u ∷ us) (inl e) = λ f. omega (arith, e, f)
no_quote_after (u ∷ us) (inr e) = λ f. omega (arith, e, f)

abbrev closed : Bool → List ℕ → List ℕ
closed true after = quote ∷ after
closed false after = after

-- an argument from these units on, after n backslashes
reads : (inside : Bool) (us after : List ℕ) (n : ℕ) → (inside ≡ false → AllByRecursion (λ u. ¬ (IsBlank u)) us) → Ends false after → Reads after inside (backslashes n ++ (unwritten inside n us ++ closed inside after)) (backslashes n ++ us)
reads true [] after n h e = same (sym (ap (λ z. backslashes n ++ (z ++ quote ∷ after)) (append-nil (backslashes n)) ∙ twice n n (2 * n) (quote ∷ after) (omega arith))) refl (closes n after [] (no_quote_after after e) (ends false 0 e))
reads false [] after n h e = same refl (sym (append-nil (backslashes n))) (ends false n e)
reads inside (u ∷ us) after n h e = elim (cases_eq u backslash) [
  | inl is ↦ subst (λ x. Reads after inside (backslashes n ++ (unwritten inside n (x ∷ us) ++ closed inside after)) (backslashes n ++ x ∷ us)) (sym is)
      (same (more_backslashes n (unwritten inside (n + 1) us ++ closed inside after) ∙ ap (λ z. backslashes n ++ (z ++ closed inside after)) (sym (slash_spelled inside us n))) (more_backslashes n us) (reads inside us after (n + 1) (λ i. (h i).1) e))
  | inr s ↦ let rest = unwritten inside 0 us ++ closed inside after in
      let read : Reads after inside rest us = reads inside us after 0 (λ i. (h i).1) e in elim (cases_eq u quote) [
        | inl is ↦ subst (λ x. Reads after inside (backslashes n ++ (unwritten inside n (x ∷ us) ++ closed inside after)) (backslashes n ++ x ∷ us)) (sym is)
            (same (sym (ap (λ z. backslashes n ++ (z ++ closed inside after)) (quote_spelled inside us n) ∙ ap (λ z. backslashes n ++ z) (append_assoc (backslashes (n + 1) ++ quote ∷ []) (unwritten inside 0 us) (closed inside after) ∙ append_assoc (backslashes (n + 1)) (quote ∷ []) rest) ∙ twice n (n + 1) (2 * n + 1) (quote ∷ rest) (omega arith))) refl
            (escaped_mark inside n rest us read))
        | inr q ↦ same (ap (λ z. backslashes n ++ (z ++ closed inside after)) (sym (literal_spelled inside us n u s q))) refl (literal inside n u rest us (record { no_backslash = s; no_quote = q; no_blank = λ i. (h i).0 }) read)
      ]
]

marks_are : (argument : List ℕ) → IsTextOf (in_marks argument) argument
marks_are argument after e = (
  past_blank quote (omega arith),
  opens 0 ((escaped true argument ++ quote ∷ []) ++ after) argument
      (same (ap (λ z. z ++ quote ∷ after) (none_before true argument) ∙ sym (append_assoc (escaped true argument) (quote ∷ []) after)) refl (reads true argument after 0 (λ i. absurd (true≢false i)) e)),
)

bare_text : (argument : List ℕ) → argument ≢ [] → AllByRecursion (λ u. ¬ (IsBlank u)) argument → IsTextOf (escaped false argument) argument
bare_text argument some h after e = (begins_more (escaped false argument) after (escaped_begins argument some h), same (ap (λ z. z ++ after) (none_before false argument)) refl (reads false argument after 0 (λ _. h) e))

-- ---- an argument, in quotation marks or not

no_blank_in : (us : List ℕ) → has_blank us ≡ false → AllByRecursion (λ u. ¬ (IsBlank u)) us
no_blank_in [] e = tt
no_blank_in (u ∷ us) e = let p = or_false (is_blank u) (has_blank us) e in (λ b. true≢false (sym (blank u b) ∙ p.0), no_blank_in us p.1)

has_none : (us : List ℕ) → AllByRecursion (λ u. ¬ (IsBlank u)) us → has_blank us ≡ false
has_none [] h = refl
has_none (u ∷ us) h = rw (not_blank u h.0) (has_none us h.1)

pub text_in_marks : (argument : List ℕ) → (argument ≢ [] → AllByRecursion (λ u. ¬ (IsBlank u)) argument → ⊥) → argument_text argument ≡ in_marks argument
text_in_marks [] n = refl
text_in_marks (u ∷ us) n = by (has_blank (u ∷ us)) refl
  where
    by : (b : Bool) → has_blank (u ∷ us) ≡ b → (if b then in_marks (u ∷ us) else escaped false (u ∷ us)) ≡ in_marks (u ∷ us)
    by true e = refl
    by false e = absurd (n no_cons (no_blank_in (u ∷ us) e))

pub text_bare : (argument : List ℕ) → argument ≢ [] → AllByRecursion (λ u. ¬ (IsBlank u)) argument → argument_text argument ≡ escaped false argument
text_bare [] n h = absurd (n refl)
text_bare (u ∷ us) n h = ap (λ b. if b then in_marks (u ∷ us) else escaped false (u ∷ us)) (has_none (u ∷ us) h)

-- the text of an argument is read as it
pub text_is : (argument : List ℕ) → IsTextOf (argument_text argument) argument
text_is [] = marks_are []
text_is (u ∷ us) = by (has_blank (u ∷ us)) refl
  where
    by : (b : Bool) → has_blank (u ∷ us) ≡ b → IsTextOf (if b then in_marks (u ∷ us) else escaped false (u ∷ us)) (u ∷ us)
    by true e = marks_are (u ∷ us)
    by false e = bare_text (u ∷ us) no_cons (no_blank_in (u ∷ us) e)

no_mark : (us : List ℕ) → HasNo quote us → leads_to_mark false us ≡ false
no_mark [] h = refl
no_mark (u ∷ us) h = rw (ne_eqb u quote h.0) (and_none (eqb u backslash) (leads_to_mark false us) (no_mark us h.1))

itself : (us : List ℕ) → HasNo quote us → escaped false us ≡ us
itself [] h = refl
itself (u ∷ us) h = ap (λ m. if m then backslash ∷ u ∷ escaped false us else u ∷ escaped false us) (no_mark (u ∷ us) h) ∙ ap (λ z. u ∷ z) (itself us h.1)

-- which is a plain argument itself
pub plain_text : (argument : List ℕ) → IsPlain argument → argument_text argument ≡ argument
plain_text argument p = text_bare argument p.some p.no_blank ∙ itself argument p.no_quote

-- ---- as it is written

pub marked_new : (old one two three new : List ℕ) (run : ℕ) (argument : List ℕ) → one ≡ old ++ quote ∷ [] → IsWritten true one two run argument → three ≡ two ++ backslashes run → new ≡ three ++ quote ∷ [] → new ≡ old ++ in_marks argument
marked_new old one two three new run argument e w f g =
    let all : w.prefix ++ backslashes run ≡ escaped true argument = ap (λ z. w.prefix ++ z) (sym (append-nil (backslashes run))) ∙ sym (w.part.spelled []) ∙ ap (escaped true) (append-nil argument) in
    g
    ∙ ap (λ z. z ++ quote ∷ []) (f ∙ ap (λ z. z ++ backslashes run) (w.new_is ∙ ap (λ z. z ++ w.prefix) e) ∙ append_assoc (old ++ quote ∷ []) w.prefix (backslashes run) ∙ ap (λ z. (old ++ quote ∷ []) ++ z) all)
    ∙ append_assoc (old ++ quote ∷ []) (escaped true argument) (quote ∷ [])
    ∙ append_assoc old (quote ∷ []) (escaped true argument ++ quote ∷ [])

pub bare_new : (old new : List ℕ) (run : ℕ) (argument : List ℕ) → IsWritten false old new run argument → new ≡ old ++ escaped false argument
bare_new old new run argument w = w.new_is ∙ ap (λ z. old ++ z) (sym (bare_is w.prefix run argument w.part))

pub written_quoted : (old one two three new : List ℕ) (run : ℕ) (argument : List ℕ) → one ≡ old ++ quote ∷ [] → IsWritten true one two run argument → three ≡ two ++ backslashes run → new ≡ three ++ quote ∷ [] → (text : List ℕ) × (new ≡ old ++ text) × IsTextOf text argument
written_quoted old one two three new run argument e w f g = (in_marks argument, marked_new old one two three new run argument e w f g, marks_are argument)

pub written_bare : (old new : List ℕ) (run : ℕ) (argument : List ℕ) → IsWritten false old new run argument → argument ≢ [] → (text : List ℕ) × (new ≡ old ++ text) × IsTextOf text argument
written_bare old new run argument w some = (escaped false argument, bare_new old new run argument w, bare_text argument some (w.part.no_blank refl))

pub plain_written : (old new : List ℕ) (run : ℕ) (argument : List ℕ) → IsWritten false old new run argument → IsPlain argument → new ≡ old ++ argument
plain_written old new run argument w p = w.new_is ∙ ap (λ z. old ++ z) (w.plain p.no_quote)

-- ---- growing

pub grown_on : (old mid new : List ℕ) → (more : List ℕ) × (mid ≡ old ++ more) → (more : List ℕ) × (new ≡ mid ++ more) → (more : List ℕ) × (new ≡ old ++ more)
grown_on old mid new a b = (a.0 ++ b.0, b.1 ∙ ap (λ z. z ++ b.0) a.1 ∙ append_assoc old a.0 b.0)

pub grown_from : (old mid new : List ℕ) → mid ≡ old → (more : List ℕ) × (new ≡ mid ++ more) → (more : List ℕ) × (new ≡ old ++ more)
grown_from old mid new e b = (b.0, b.1 ∙ ap (λ z. z ++ b.0) e)

-- what has grown is cut back to its length from before
pub cut_back : (old mid new : List ℕ) (len : ℕ) → (more : List ℕ) × (mid ≡ old ++ more) → len ≡ length old → new ≡ take len mid → new ≡ old
cut_back old mid new len grown at cut = cut ∙ ap (take len) grown.1 ∙ ap (λ n. take n (old ++ grown.0)) at ∙ take-append_seam old grown.0

-- ---- a first index

pub record IsPassed (c : ℕ) (all rest : List ℕ) (i : ℕ) : Type 0 where
  pub before : List ℕ
  pub joined : all ≡ before ++ rest
  pub none : HasNo c before
  pub index : i ≡ length before

pub none_passed : (c : ℕ) (all rest : List ℕ) → rest ≡ all → IsPassed c all rest 0
none_passed c all rest e = record { before = []; joined = sym e; none = tt; index = refl }

pub one_passed : (c : ℕ) (all rest : List ℕ) (i u : ℕ) (more : List ℕ) → IsPassed c all rest i → rest ≡ u ∷ more → u ≢ c → IsPassed c all more (i + 1)
one_passed c all rest i u more p e n = record {
  before = p.before ++ u ∷ [];
  joined = p.joined ∙ ap (λ z. p.before ++ z) e ∙ sym (append_assoc p.before (u ∷ []) more);
  none = one_more (λ x. x ≢ c) p.before u p.none n;
  index = omega (arith, p.index, length-append p.before (u ∷ []));
}

pub passed_here : (c : ℕ) (all rest : List ℕ) (i u : ℕ) (more : List ℕ) → IsPassed c all rest i → rest ≡ u ∷ more → u ≡ c → IsFirstAt c all i
passed_here c all rest i u more p e is = record { before = p.before; after = more; joined = p.joined ∙ ap (λ z. p.before ++ z) (e ∙ ap (λ x. x ∷ more) is); none_before = p.none; index = p.index }

pub all_passed : (c : ℕ) (all rest : List ℕ) (i : ℕ) → IsPassed c all rest i → rest ≡ [] → HasNo c all
all_passed c all rest i p e = subst (HasNo c) (sym (p.joined ∙ ap (λ z. p.before ++ z) e ∙ append-nil p.before)) p.none

pub passed_within : (c : ℕ) (all rest : List ℕ) (i : ℕ) → IsPassed c all rest i → i + length rest ≡ length all
passed_within c all rest i p = omega (arith, p.index, ap length p.joined, length-append p.before rest)
