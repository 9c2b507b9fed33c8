-- Plain bytes: texts that both forms show unchanged.
use Rattle.os_quote.proofs.Common.{text_escape, ◌≡◌, ⊎_elim, ℕ, zero, suc, ◌+◌, ◌-◌, ◌<◌, ◌≤◌, true, List, [], ◌∷◌, length, take, get_or, refl, sym, subst, arith, AllByRecursion, IsUtf8, cases_lt, chars-IsAscii, IsUtf8-from_ascii, shown_by, IsPlain, IsPlainUpTo, AreUnchanged, IsUnchanged}
use Rattle.os_quote.specs.declared.form.Form.{Form, TheVariants.Text, TheVariants.Line}
use Rattle.os_quote.proofs.lemmas.{Readings.ascii_all, Shown.ascii_stays, Texts.unchanged_text}

plain_ascii : (bs : List ℕ) → AllByRecursion IsPlain bs → AllByRecursion (λ b. b < 128) bs
plain_ascii [] a = tt
plain_ascii (b ∷ bs) a = let high = a.0.0.1 in (omega arith, plain_ascii bs a.1)

pub plain_is_text : (bs : List ℕ) → AllByRecursion IsPlain bs → IsUtf8 bs
plain_is_text bs a = IsUtf8-from_ascii bs (ascii_all bs (plain_ascii bs a))

plain_is_shown : (form : Form) (b : ℕ) → IsPlain b → shown_by form b ≡ true
plain_is_shown Text b p = refl
plain_is_shown Line b p = let high = p.0.1 in ascii_stays b p.0.0 (omega arith)

each_unchanged : (form : Form) (bs : List ℕ) → AllByRecursion IsPlain bs → AllByRecursion (IsUnchanged (shown_by form)) bs
each_unchanged form [] a = tt
each_unchanged form (b ∷ bs) a = ((a.0.1, plain_is_shown form b a.0), each_unchanged form bs a.1)

pub plain_unchanged : (form : Form) (bs : List ℕ) → AllByRecursion IsPlain bs → AreUnchanged (shown_by form) bs
plain_unchanged form bs a = subst (AllByRecursion (IsUnchanged (shown_by form))) (sym (chars-IsAscii bs (ascii_all bs (plain_ascii bs a)))) (each_unchanged form bs a)

pub plain_is_own : (form : Form) (bs : List ℕ) → AllByRecursion IsPlain bs → text_escape (shown_by form) bs ≡ bs
plain_is_own form bs a = unchanged_text (shown_by form) bs (plain_is_text bs a) (plain_unchanged form bs a)

-- by index
pub plain_prefix : (bs : List ℕ) (n : ℕ) → ((i : ℕ) → i < n → IsPlain (get_or bs i 0)) → AllByRecursion IsPlain (take n bs)
plain_prefix [] zero h = tt
plain_prefix (b ∷ bs) (suc n) h = (h 0 (omega arith), plain_prefix bs n (λ k lt. h (suc k) (omega (arith, lt))))
plain_prefix bs n h = tt

pub none_plain : (bs : List ℕ) → IsPlainUpTo bs 0
none_plain bs = record { within = omega arith; plain = λ i lt. absurd (omega (arith, lt)) }

pub more_plain : (bs : List ℕ) (at n : ℕ) → IsPlainUpTo bs at → at + n ≤ length bs → ((i : ℕ) → i < n → IsPlain (get_or bs (at + i) 0)) → IsPlainUpTo bs (at + n)
more_plain bs at n before room more = record {
  within = room;
  plain = λ i lt.
      ⊎_elim (λ l. before.plain i l)
      (λ ge. let e : at + (i - at) ≡ i = omega (arith, ge) in subst (λ k. IsPlain (get_or bs k 0)) e (more (i - at) (omega (arith, ge, lt))))
      (cases_lt i at);
}

pub one_plain : (bs : List ℕ) (at : ℕ) → IsPlainUpTo bs at → at < length bs → IsPlain (get_or bs at 0) → IsPlainUpTo bs (at + 1)
one_plain bs at before room one =
    more_plain bs at 1 before (omega (arith, room)) (λ i lt. let e : at ≡ at + i = omega (arith, lt) in subst (λ k. IsPlain (get_or bs k 0)) e one)

pub fewer_plain : (bs : List ℕ) (at n : ℕ) → IsPlainUpTo bs at → n ≤ at → IsPlainUpTo bs n
fewer_plain bs at n all low = record { within = omega (arith, all.within, low); plain = λ i lt. all.plain i (omega (arith, lt, low)) }

pub ruleset plain_bytes = (none_plain, more_plain, one_plain)
