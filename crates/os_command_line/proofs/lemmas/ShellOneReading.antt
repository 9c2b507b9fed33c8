-- A text is read in one way: what the rules say is what the steps of the reader give.
use Rattle.std.proofs.Common.{◌≡◌, ℕ, zero, suc, Bool, true, false, ◌||◌, ◌&&◌, eqb, leb, List, [], ◌∷◌, ◌++◌, length, refl, sym, ap, ◌∙◌, subst, arith, append_assoc, append-nil, Option, None, Some, inl, inr, ◌⊎◌}
use Rattle.std.specs.Prelude.{option_to_list}
use Rattle.std.proofs.lemmas.Bool.{ne_eqb, eqb-true, cases_Bool, true≢false, and_parts, leb-true}
use Rattle.os_command_line.specs.declared.shell.language.Language.{Language}
use Rattle.os_command_line.specs.declared.shell.step.State.{State}
use Rattle.os_command_line.specs.declared.shell.step.State.TheVariants.{Start, Bare, Single, Double, Dollar}
use Rattle.os_command_line.specs.declared.shell.step.Step.TheVariants.{End, Go, Refuse}
use Rattle.os_command_line.specs.declared.shell.fault.FaultKind.{FaultKind}
use Rattle.os_command_line.specs.declared.shell.fault.FaultKind.TheVariants.{TrailingBackslash, Special, UnknownEscape}
use Rattle.os_command_line.specs.Shell.{single_quote, double_quote, backslash, dollar, newline, is_mark, is_blank, is_expansion, is_history, is_special, is_special_doubled, is_escapable, begins_quote, opens_dollar, IsOpening, IsBare, HasNoQuote, IsItselfDoubled, Doubled, is_octal, letter_meaning, octal_meaning, escape_meaning, BeginsNoEscape, Dollared, Outcome, prepend, Ends, Reads}
use Rattle.os_command_line.specs.Shell.IsOpening.{quote, line_joined}
use Rattle.os_command_line.specs.Shell.Outcome.{Word, Fault}
use Rattle.os_command_line.specs.Shell.Doubled.{none, plain, escape, joined, kept}
use Rattle.os_command_line.specs.Shell.Dollared.{nothing, itself, escape_of}
use Rattle.os_command_line.specs.Shell.Reads.{ends, bare, escaped, continued, single, double, dollared, trailing, unclosed, undoubled, unescaped, undollared, unfinished, unknown, special, expands, keeps}
use Rattle.os_command_line.specs.ShellReader.{is_start, opening_len, bare_step, outside_step, double_step, meaning_step, letter_step, dollar_escape_step, step, at_end, opened, next_state, passed, after_step, run}

-- the reader outside quotes, first in a word or not
abbrev pub outside : Bool → State
outside true = Start
outside false = Bare

pub prepend_nothing : (o : Outcome) → prepend [] o ≡ o
prepend_nothing (Word word after) = refl
prepend_nothing (Fault kind left) = refl

pub prepend_twice : (a b : List ℕ) (o : Outcome) → prepend a (prepend b o) ≡ prepend (a ++ b) o
prepend_twice a b (Word word after) = ap (λ w. Word w after) (sym (append_assoc a b word))
prepend_twice a b (Fault kind left) = refl

-- ---- classes of bytes

pub or_false : (a b : Bool) → a || b ≡ false → (a ≡ false) × (b ≡ false)
or_false true b e = absurd (true≢false e)
or_false false b e = (refl, e)

pub or_true : (a b : Bool) → a || b ≡ true → (a ≡ true) ⊎ (b ≡ true)
or_true true b e = inl refl
or_true false b e = inr e

pub no_mark : (b : ℕ) → is_mark b ≡ false → (eqb b 0x27 ≡ false) × (eqb b 0x22 ≡ false) × (eqb b 0x5C ≡ false)
no_mark b h =
    let p = or_false (eqb b 0x27) (eqb b 0x22 || eqb b 0x5C) h in
    let q = or_false (eqb b 0x22) (eqb b 0x5C) p.1 in
    (p.0, q.0, q.1)

pub blank_is : (b : ℕ) → is_blank b ≡ true → (b ≡ 0x20) ⊎ ((b ≡ 0x09) ⊎ (b ≡ 0x0A))
blank_is b h = elim (or_true (eqb b 0x20) (eqb b 0x09 || eqb b 0x0A) h) [
  | inl e ↦ inl (eqb-true b 0x20 e)
  | inr r ↦ elim (or_true (eqb b 0x09) (eqb b 0x0A) r) [ inl e ↦ inr (inl (eqb-true b 0x09 e)) | inr e ↦ inr (inr (eqb-true b 0x0A e)) ]
]

-- what holds of each blank holds of this one
pub of_blank : (P : ℕ → Type 0) (b : ℕ) → is_blank b ≡ true → P 0x20 → P 0x09 → P 0x0A → P b
of_blank P b h x y z = elim (blank_is b h) [ inl e ↦ subst P (sym e) x | inr r ↦ elim r [ inl e ↦ subst P (sym e) y | inr e ↦ subst P (sym e) z ] ]

-- and of each quote or backslash
pub of_mark : (P : ℕ → Type 0) (b : ℕ) → is_mark b ≡ true → P 0x27 → P 0x22 → P 0x5C → P b
of_mark P b h x y z = elim (or_true (eqb b 0x27) (eqb b 0x22 || eqb b 0x5C) h) [
  | inl e ↦ subst P (sym (eqb-true b 0x27 e)) x
  | inr r ↦ elim (or_true (eqb b 0x22) (eqb b 0x5C) r) [ inl e ↦ subst P (sym (eqb-true b 0x22 e)) y | inr e ↦ subst P (sym (eqb-true b 0x5C e)) z ]
]

pub of_expansion : (P : ℕ → Type 0) (b : ℕ) → is_expansion b ≡ true → P 0x24 → P 0x60 → P b
of_expansion P b h x y = elim (or_true (eqb b 0x24) (eqb b 0x60) h) [ inl e ↦ subst P (sym (eqb-true b 0x24 e)) x | inr e ↦ subst P (sym (eqb-true b 0x60 e)) y ]

-- and of what is special in double quotes
pub of_special_doubled : (P : ℕ → Type 0) (b : ℕ) → is_special_doubled b ≡ true → P 0x24 → P 0x60 → P 0x21 → P b
of_special_doubled P b h x y z = elim (or_true (is_expansion b) (is_history b) h) [ inl e ↦ of_expansion P b e x y | inr e ↦ subst P (sym (eqb-true b 0x21 e)) z ]

special_mark : (first : Bool) (b : ℕ) → is_mark b ≡ true → is_special first b ≡ false
special_mark true b h = of_mark (λ x. is_special true x ≡ false) b h refl refl refl
special_mark false b h = of_mark (λ x. is_special false x ≡ false) b h refl refl refl

special_blank : (first : Bool) (b : ℕ) → is_blank b ≡ true → is_special first b ≡ false
special_blank true b h = of_blank (λ x. is_special true x ≡ false) b h refl refl refl
special_blank false b h = of_blank (λ x. is_special false x ≡ false) b h refl refl refl

-- a special byte is no mark and no blank
pub special_no_mark : (first : Bool) (b : ℕ) → is_special first b ≡ true → is_mark b ≡ false
special_no_mark first b h = elim (cases_Bool (is_mark b)) [ inl m ↦ absurd (true≢false (sym h ∙ special_mark first b m)) | inr m ↦ m ]

pub special_no_blank : (first : Bool) (b : ℕ) → is_special first b ≡ true → is_blank b ≡ false
special_no_blank first b h = elim (cases_Bool (is_blank b)) [ inl m ↦ absurd (true≢false (sym h ∙ special_blank first b m)) | inr m ↦ m ]

-- ---- steps

module _ (l : Language) (s : State) (from : List ℕ) (b : ℕ) (text : List ℕ) where
  pub go : (out : Option ℕ) (next : State) (n : ℕ) → step l s b text ≡ Go out next n → run l s from zero (b ∷ text) ≡ prepend (option_to_list out) (run l next (opened s from (b ∷ text)) n text)
  unfolding run
  go out next n e = ap (λ z. after_step (b ∷ text) z (run l (next_state s z) (opened s from (b ∷ text)) (passed z) text)) e

  pub refuse : (kind : FaultKind) → step l s b text ≡ Refuse kind → run l s from zero (b ∷ text) ≡ Fault kind (b ∷ text)
  unfolding run
  refuse kind e = ap (λ z. after_step (b ∷ text) z (run l (next_state s z) (opened s from (b ∷ text)) (passed z) text)) e

  pub stop : step l s b text ≡ End → run l s from zero (b ∷ text) ≡ Word [] (b ∷ text)
  unfolding run
  stop e = ap (λ z. after_step (b ∷ text) z (run l (next_state s z) (opened s from (b ∷ text)) (passed z) text)) e

  pub pass : (k : ℕ) → run l s from (suc k) (b ∷ text) ≡ run l s from k text
  unfolding run
  pass k = refl

pub no_text : (l : Language) (s : State) (from : List ℕ) (k : ℕ) → run l s from k [] ≡ at_end s from
unfolding run
no_text l s from zero = refl
no_text l s from (suc k) = refl

pub pass_all : (l : Language) (s : State) (from letters text : List ℕ) → run l s from (length letters) (letters ++ text) ≡ run l s from zero text
pass_all l s from [] text = refl
pass_all l s from (c ∷ letters) text = pass l s from c (letters ++ text) (length letters) ∙ pass_all l s from letters text

-- outside quotes
pub outside_is : (l : Language) (first : Bool) (b : ℕ) (text : List ℕ) → step l (outside first) b text ≡ outside_step l (outside first) b text
outside_is l true b text = refl
outside_is l false b text = refl

pub opened_here : (first : Bool) (from here : List ℕ) → opened (outside first) from here ≡ here
opened_here true from here = refl
opened_here false from here = refl

pub starts : (first : Bool) → is_start (outside first) ≡ first
starts true = refl
starts false = refl

pub ended : (first : Bool) (from : List ℕ) → at_end (outside first) from ≡ Word [] []
ended true from = refl
ended false from = refl

module _ (l : Language) (first : Bool) (from : List ℕ) (b : ℕ) (text : List ℕ) where
  pub go_outside : (out : Option ℕ) (next : State) (n : ℕ) → outside_step l (outside first) b text ≡ Go out next n → run l (outside first) from zero (b ∷ text) ≡ prepend (option_to_list out) (run l next (b ∷ text) n text)
  go_outside out next n e = go l (outside first) from b text out next n (outside_is l first b text ∙ e) ∙ ap (λ z. prepend (option_to_list out) (run l next z n text)) (opened_here first from (b ∷ text))

  pub refuse_outside : (kind : FaultKind) → outside_step l (outside first) b text ≡ Refuse kind → run l (outside first) from zero (b ∷ text) ≡ Fault kind (b ∷ text)
  refuse_outside kind e = refuse l (outside first) from b text kind (outside_is l first b text ∙ e)

  pub stop_outside : outside_step l (outside first) b text ≡ End → run l (outside first) from zero (b ∷ text) ≡ Word [] (b ∷ text)
  stop_outside e = stop l (outside first) from b text (outside_is l first b text ∙ e)

-- a byte that is no mark and no blank
pub other_step : (l : Language) (s : State) (b : ℕ) (text : List ℕ) → is_mark b ≡ false → is_blank b ≡ false → outside_step l s b text ≡ bare_step l s b text
other_step l s b text m h = let n = no_mark b m in rw (n.0, n.1, n.2, h) refl

pub bare_go : (l : Language) (first : Bool) (b : ℕ) (text : List ℕ) → IsBare l first b text → outside_step l (outside first) b text ≡ Go (Some b) Bare 0
bare_go l first b text h = other_step l (outside first) b text h.no_mark h.no_blank ∙ rw (h.no_dollar, starts first, h.no_special) refl

pub special_refuse : (l : Language) (first : Bool) (b : ℕ) (text : List ℕ) → l.refuses_specials ≡ true → is_special first b ≡ true → opens_dollar l b text ≡ false → outside_step l (outside first) b text ≡ Refuse Special
special_refuse l first b text r h d = other_step l (outside first) b text (special_no_mark first b h) (special_no_blank first b h) ∙ rw (d, starts first, r, h) refl

begins : (opening text : List ℕ) → IsOpening opening → begins_quote (opening ++ text) ≡ true
begins _ [] quote = refl
begins _ (c ∷ text) quote = refl
begins _ text (line_joined opening h) = begins opening text h

opening_is : (opening text : List ℕ) → IsOpening opening → opening_len (opening ++ text) ≡ length opening
opening_is _ [] quote = refl
opening_is _ (c ∷ text) quote = refl
opening_is _ text (line_joined opening h) = ap (λ n. suc (suc n)) (opening_is opening text h)

pub opens : (l : Language) (opening text : List ℕ) → l.dollar_quotes ≡ true → IsOpening opening → opens_dollar l dollar (opening ++ text) ≡ true
opens l opening text d h = rw (d, begins opening text h) refl

pub dollar_go : (l : Language) (first : Bool) (opening text : List ℕ) → l.dollar_quotes ≡ true → IsOpening opening → outside_step l (outside first) dollar (opening ++ text) ≡ Go None Dollar (length opening)
dollar_go l first opening text d h = other_step l (outside first) dollar (opening ++ text) refl refl ∙ rw (opens l opening text d h) (ap (Go None Dollar) (opening_is opening text h))

-- ---- quotes

pub in_single : (l : Language) (from quoted text : List ℕ) → HasNoQuote quoted → run l Single from zero (quoted ++ text) ≡ prepend quoted (run l Single from zero text)
in_single l from [] text h = sym (prepend_nothing (run l Single from zero text))
in_single l from (b ∷ quoted) text h =
    go l Single from b (quoted ++ text) (Some b) Single 0 (rw h.0 refl) ∙ ap (prepend (b ∷ [])) (in_single l from quoted text h.1) ∙ prepend_twice (b ∷ []) quoted (run l Single from zero text)

no_escapable : (b : ℕ) → is_escapable b ≡ false → (is_expansion b ≡ false) × (eqb b 0x22 ≡ false) × (eqb b 0x5C ≡ false)
no_escapable b h =
    let p = or_false (is_expansion b) (eqb b 0x22 || eqb b 0x5C) h in
    let q = or_false (eqb b 0x22) (eqb b 0x5C) p.1 in
    (p.0, q.0, q.1)

pub and_none : (a b : Bool) → b ≡ false → a && b ≡ false
and_none true b e = e
and_none false b e = refl

-- a byte that a backslash doesn't escape means itself there, if it isn't refused
pub itself_doubled : (l : Language) (b : ℕ) → is_escapable b ≡ false → l.refuses_specials && is_history b ≡ false → IsItselfDoubled l b
itself_doubled l b h k = let n = no_escapable b h in record { no_quote = n.1; no_backslash = n.2; no_special = rw n.0 k }

pub doubled_go : (l : Language) (b : ℕ) (text : List ℕ) → IsItselfDoubled l b → double_step l b text ≡ Go (Some b) Double 0
doubled_go l b text h = rw (h.no_quote, h.no_backslash, h.no_special) refl

pub kept_go : (l : Language) (b : ℕ) (text : List ℕ) → is_escapable b ≡ false → eqb b 0x0A ≡ false → double_step l backslash (b ∷ text) ≡ Go (Some backslash) Double 0
kept_go l b text h n = rw (h, n) refl

pub escape_go : (l : Language) (b : ℕ) (text : List ℕ) → is_escapable b ≡ true → double_step l backslash (b ∷ text) ≡ Go (Some b) Double 1
escape_go l b text h = rw h refl

pub in_double : (l : Language) (from quoted word text : List ℕ) → Doubled l quoted word → run l Double from zero (quoted ++ text) ≡ prepend word (run l Double from zero text)
in_double l from _ _ text none = sym (prepend_nothing (run l Double from zero text))
in_double l from _ _ text (plain b quoted word h r) =
    go l Double from b (quoted ++ text) (Some b) Double 0 (doubled_go l b (quoted ++ text) h) ∙ ap (prepend (b ∷ [])) (in_double l from quoted word text r) ∙ prepend_twice (b ∷ []) word (run l Double from zero text)
in_double l from _ _ text (escape b quoted word h r) =
    go l Double from backslash (b ∷ (quoted ++ text)) (Some b) Double 1 (escape_go l b (quoted ++ text) h)
    ∙ ap (prepend (b ∷ [])) (pass l Double from b (quoted ++ text) 0 ∙ in_double l from quoted word text r)
    ∙ prepend_twice (b ∷ []) word (run l Double from zero text)
in_double l from _ _ text (joined quoted word r) =
    go l Double from backslash (newline ∷ (quoted ++ text)) None Double 1 refl
    ∙ prepend_nothing (run l Double from 1 (newline ∷ (quoted ++ text)))
    ∙ pass l Double from newline (quoted ++ text) 0
    ∙ in_double l from quoted word text r
in_double l from _ _ text (kept b quoted word h n r) =
    go l Double from backslash (b ∷ (quoted ++ text)) (Some backslash) Double 0 (kept_go l b (quoted ++ text) h n)
    ∙ ap (prepend (backslash ∷ [])) (in_double l from (b ∷ quoted) word text r)
    ∙ prepend_twice (backslash ∷ []) word (run l Double from zero text)

-- an octal digit is no letter
pub digit_no_letter : (c : ℕ) → is_octal c ≡ true → letter_meaning c ≡ None
digit_no_letter c h =
    let r = and_parts (leb 0x30 c) (leb c 0x37) h in
    let low = leb-true 0x30 c r.0 in
    let high = leb-true c 0x37 r.1 in
    rw (
      ne_eqb c 0x27 (λ e. omega (arith, e, low)),
      ne_eqb c 0x22 (λ e. omega (arith, e, low)),
      ne_eqb c 0x5C (λ e. omega (arith, e, high)),
      ne_eqb c 0x61 (λ e. omega (arith, e, high)),
      ne_eqb c 0x62 (λ e. omega (arith, e, high)),
      ne_eqb c 0x66 (λ e. omega (arith, e, high)),
      ne_eqb c 0x6E (λ e. omega (arith, e, high)),
      ne_eqb c 0x72 (λ e. omega (arith, e, high)),
      ne_eqb c 0x74 (λ e. omega (arith, e, high)),
      ne_eqb c 0x76 (λ e. omega (arith, e, high)),
    ) refl

no_meaning : (b : ℕ) → None ≡ Some b → ⊥
no_meaning b e = cc

first_octal : (c d e b : ℕ) → octal_meaning c d e ≡ Some b → is_octal c ≡ true
first_octal c d e b h = elim (cases_Bool (is_octal c)) [ inl t ↦ t | inr f ↦ absurd (no_meaning b (sym (none_of f) ∙ h)) ]
  where
    none_of : is_octal c ≡ false → octal_meaning c d e ≡ None
    none_of f = rw f refl

pub escape_meant : (letters : List ℕ) (b : ℕ) (text : List ℕ) → escape_meaning letters ≡ Some b → dollar_escape_step (letters ++ text) ≡ Go (Some b) Dollar (length letters)
escape_meant [] b text h = absurd (no_meaning b h)
escape_meant (c ∷ []) b text h = ap (letter_step c text) h
escape_meant (c ∷ d ∷ []) b text h = absurd (no_meaning b h)
escape_meant (c ∷ d ∷ e ∷ []) b text h = ap (letter_step c (d ∷ e ∷ text)) (digit_no_letter c (first_octal c d e b h)) ∙ ap (meaning_step 3) h
escape_meant (c ∷ d ∷ e ∷ f ∷ more) b text h = absurd (no_meaning b h)

pub no_escape : (text : List ℕ) → BeginsNoEscape text → dollar_escape_step text ≡ Refuse UnknownEscape
no_escape [] h = absurd (h.some refl)
no_escape (c ∷ []) h = ap (letter_step c []) (h.none (c ∷ []) [] refl)
no_escape (c ∷ d ∷ []) h = ap (letter_step c (d ∷ [])) (h.none (c ∷ []) (d ∷ []) refl)
no_escape (c ∷ d ∷ e ∷ text) h = ap (letter_step c (d ∷ e ∷ text)) (h.none (c ∷ []) (d ∷ e ∷ text) refl) ∙ ap (meaning_step 3) (h.none (c ∷ d ∷ e ∷ []) text refl)

pub in_dollar : (l : Language) (from quoted word text : List ℕ) → Dollared quoted word → run l Dollar from zero (quoted ++ text) ≡ prepend word (run l Dollar from zero text)
in_dollar l from _ _ text nothing = sym (prepend_nothing (run l Dollar from zero text))
in_dollar l from _ _ text (itself b quoted word q s r) =
    go l Dollar from b (quoted ++ text) (Some b) Dollar 0 (rw (q, s) refl) ∙ ap (prepend (b ∷ [])) (in_dollar l from quoted word text r) ∙ prepend_twice (b ∷ []) word (run l Dollar from zero text)
in_dollar l from _ _ text (escape_of letters b quoted word h r) =
    ap (λ z. run l Dollar from zero (backslash ∷ z)) (append_assoc letters quoted text)
    ∙ go l Dollar from backslash (letters ++ (quoted ++ text)) (Some b) Dollar (length letters) (escape_meant letters b (quoted ++ text) h)
    ∙ ap (prepend (b ∷ [])) (pass_all l Dollar from letters (quoted ++ text) ∙ in_dollar l from quoted word text r)
    ∙ prepend_twice (b ∷ []) word (run l Dollar from zero text)

-- ---- a text

ends_at : (l : Language) (first : Bool) (from after : List ℕ) → Ends after → run l (outside first) from zero after ≡ Word [] after
ends_at l first from [] h = no_text l (outside first) from 0 ∙ ended first from
ends_at l first from (b ∷ bs) h = stop_outside l first from b bs (of_blank (λ x. outside_step l (outside first) x bs ≡ End) b h refl refl refl)

pub single_closed : (l : Language) (from text : List ℕ) → run l Single from zero (single_quote ∷ text) ≡ run l Bare from zero text
single_closed l from text = go l Single from single_quote text None Bare 0 refl ∙ prepend_nothing (run l Bare from zero text)

pub double_closed : (l : Language) (from text : List ℕ) → run l Double from zero (double_quote ∷ text) ≡ run l Bare from zero text
double_closed l from text = go l Double from double_quote text None Bare 0 refl ∙ prepend_nothing (run l Bare from zero text)

pub dollar_closed : (l : Language) (from text : List ℕ) → run l Dollar from zero (single_quote ∷ text) ≡ run l Bare from zero text
dollar_closed l from text = go l Dollar from single_quote text None Bare 0 refl ∙ prepend_nothing (run l Bare from zero text)

module _ (l : Language) (first : Bool) (from : List ℕ) where
  pub single_opened : (text : List ℕ) → run l (outside first) from zero (single_quote ∷ text) ≡ run l Single (single_quote ∷ text) zero text
  single_opened text = go_outside l first from single_quote text None Single 0 refl ∙ prepend_nothing (run l Single (single_quote ∷ text) zero text)

  pub double_opened : (text : List ℕ) → run l (outside first) from zero (double_quote ∷ text) ≡ run l Double (double_quote ∷ text) zero text
  double_opened text = go_outside l first from double_quote text None Double 0 refl ∙ prepend_nothing (run l Double (double_quote ∷ text) zero text)

  pub dollar_opened : (opening text : List ℕ) → l.dollar_quotes ≡ true → IsOpening opening → run l (outside first) from zero (dollar ∷ (opening ++ text)) ≡ run l Dollar (dollar ∷ (opening ++ text)) zero text
  dollar_opened opening text d h =
      go_outside l first from dollar (opening ++ text) None Dollar (length opening) (dollar_go l first opening text d h)
      ∙ prepend_nothing (run l Dollar (dollar ∷ (opening ++ text)) (length opening) (opening ++ text))
      ∙ pass_all l Dollar (dollar ∷ (opening ++ text)) opening text

  pub escaped_at : (b : ℕ) (text : List ℕ) → eqb b 0x0A ≡ false → run l (outside first) from zero (backslash ∷ b ∷ text) ≡ prepend (b ∷ []) (run l Bare (backslash ∷ b ∷ text) zero text)
  escaped_at b text h =
      go_outside l first from backslash (b ∷ text) (Some b) Bare 1 (rw h refl) ∙ ap (prepend (b ∷ [])) (pass l Bare (backslash ∷ b ∷ text) b text 0)

  pub joined_at : (text : List ℕ) → run l (outside first) from zero (backslash ∷ newline ∷ text) ≡ run l (outside first) (backslash ∷ newline ∷ text) zero text
  joined_at text =
      go_outside l first from backslash (newline ∷ text) None (outside first) 1 refl
      ∙ prepend_nothing (run l (outside first) (backslash ∷ newline ∷ text) 1 (newline ∷ text))
      ∙ pass l (outside first) (backslash ∷ newline ∷ text) newline text 0

-- a backslash before what is refused in double quotes, and isn't escaped there
pub kept_refused : (l : Language) (from : List ℕ) (b : ℕ) (text : List ℕ) → l.refuses_specials ≡ true → is_history b ≡ true → run l Double from zero (backslash ∷ b ∷ text) ≡ Fault Special (b ∷ text)
kept_refused l from b text r h =
    subst (λ z. run l Double from zero (backslash ∷ z ∷ text) ≡ Fault Special (z ∷ text)) (sym (eqb-true b 0x21 h))
    (go l Double from backslash (0x21 ∷ text) (Some backslash) Double 0 refl ∙ ap (prepend (backslash ∷ [])) (refuse l Double from 0x21 text Special (rw r refl)))

-- what the rules say is what is found byte by byte
pub complete : (l : Language) (first : Bool) (text : List ℕ) (o : Outcome) (from : List ℕ) → Reads l first text o → run l (outside first) from zero text ≡ o
complete l _ _ _ from (ends first after e) = ends_at l first from after e
complete l _ _ _ from (bare first b text o h r) = go_outside l first from b text (Some b) Bare 0 (bare_go l first b text h) ∙ ap (prepend (b ∷ [])) (complete l false text o (b ∷ text) r)
complete l _ _ _ from (escaped first b text o h r) = escaped_at l first from b text h ∙ ap (prepend (b ∷ [])) (complete l false text o (backslash ∷ b ∷ text) r)
complete l _ _ _ from (continued first text o r) = joined_at l first from text ∙ complete l first text o (backslash ∷ newline ∷ text) r
complete l _ _ _ from (single first quoted text o h r) =
    let here = single_quote ∷ (quoted ++ single_quote ∷ text) in
    single_opened l first from (quoted ++ single_quote ∷ text) ∙ in_single l here quoted (single_quote ∷ text) h ∙ ap (prepend quoted) (single_closed l here text ∙ complete l false text o here r)
complete l _ _ _ from (double first quoted word text o h r) =
    let here = double_quote ∷ (quoted ++ double_quote ∷ text) in
    double_opened l first from (quoted ++ double_quote ∷ text) ∙ in_double l here quoted word (double_quote ∷ text) h ∙ ap (prepend word) (double_closed l here text ∙ complete l false text o here r)
complete l _ _ _ from (dollared first opening quoted word text o d i h r) =
    let here = dollar ∷ (opening ++ (quoted ++ single_quote ∷ text)) in
    dollar_opened l first from opening (quoted ++ single_quote ∷ text) d i ∙ in_dollar l here quoted word (single_quote ∷ text) h ∙ ap (prepend word) (dollar_closed l here text ∙ complete l false text o here r)
complete l _ _ _ from (trailing first) = refuse_outside l first from backslash [] TrailingBackslash refl
complete l _ _ _ from (unclosed first text h) =
    let here = single_quote ∷ text in
    single_opened l first from text ∙ ap (run l Single here zero) (sym (append-nil text)) ∙ in_single l here text [] h ∙ ap (prepend text) (no_text l Single here 0)
complete l _ _ _ from (undoubled first quoted word h) =
    let here = double_quote ∷ quoted in
    double_opened l first from quoted ∙ ap (run l Double here zero) (sym (append-nil quoted)) ∙ in_double l here quoted word [] h ∙ ap (prepend word) (no_text l Double here 0)
complete l _ _ _ from (unescaped first quoted word h) =
    let here = double_quote ∷ (quoted ++ backslash ∷ []) in
    double_opened l first from (quoted ++ backslash ∷ [])
    ∙ in_double l here quoted word (backslash ∷ []) h
    ∙ ap (prepend word) (go l Double here backslash [] (Some backslash) Double 0 refl ∙ ap (prepend (backslash ∷ [])) (no_text l Double here 0))
complete l _ _ _ from (undollared first opening quoted word d i h) =
    let here = dollar ∷ (opening ++ quoted) in
    dollar_opened l first from opening quoted d i ∙ ap (run l Dollar here zero) (sym (append-nil quoted)) ∙ in_dollar l here quoted word [] h ∙ ap (prepend word) (no_text l Dollar here 0)
complete l _ _ _ from (unfinished first opening quoted word d i h) =
    let here = dollar ∷ (opening ++ (quoted ++ backslash ∷ [])) in
    dollar_opened l first from opening (quoted ++ backslash ∷ []) d i
    ∙ in_dollar l here quoted word (backslash ∷ []) h
    ∙ ap (prepend word) (go l Dollar here backslash [] (Some backslash) Dollar 0 refl ∙ ap (prepend (backslash ∷ [])) (no_text l Dollar here 0))
complete l _ _ _ from (unknown first opening quoted word text d i h n) =
    let here = dollar ∷ (opening ++ (quoted ++ backslash ∷ text)) in
    dollar_opened l first from opening (quoted ++ backslash ∷ text) d i ∙ in_dollar l here quoted word (backslash ∷ text) h ∙ ap (prepend word) (refuse l Dollar here backslash text UnknownEscape (no_escape text n))
complete l _ _ _ from (special first b text r h d) = refuse_outside l first from b text Special (special_refuse l first b text r h d)
complete l _ _ _ from (expands first quoted word b text h r x) =
    let here = double_quote ∷ (quoted ++ b ∷ text) in
    double_opened l first from (quoted ++ b ∷ text)
    ∙ in_double l here quoted word (b ∷ text) h
    ∙ ap (prepend word) (refuse l Double here b text Special (of_special_doubled (λ z. double_step l z text ≡ Refuse Special) b x (rw r refl) (rw r refl) (rw r refl)))
complete l _ _ _ from (keeps first quoted word b text h r x) =
    let here = double_quote ∷ (quoted ++ backslash ∷ b ∷ text) in
    double_opened l first from (quoted ++ backslash ∷ b ∷ text) ∙ in_double l here quoted word (backslash ∷ b ∷ text) h ∙ ap (prepend word) (kept_refused l here b text r x)

pub one_reading : (l : Language) (text : List ℕ) (o p : Outcome) → Reads l true text o → Reads l true text p → o ≡ p
one_reading l text o p r s = sym (complete l true text o [] r) ∙ complete l true text p [] s
