-- A program's name and texts of arguments, joined, are a command line.
use Rattle.std.proofs.Common.{◌≡◌, ◌≢◌, ℕ, ◌+◌, true, false, Option, Some, None, List, [], ◌∷◌, ◌++◌, length, take, drop, refl, sym, subst, arith, append_assoc, inl}
use Rattle.std.specs.Prelude.{MatchOption}
use Rattle.std.proofs.lemmas.Bool.{eq-eqb}
use Rattle.std.proofs.lemmas.List.{length-take-le}
use Rattle.memchr.specs.Find.{NoneBefore, Nowhere, Passes, is_byte}
use Rattle.os_command_line.specs.Windows.{quote, Ends, IsNext, AreArguments, IsCommandLine}
use Rattle.os_command_line.specs.WindowsWriting.{HasNo, IsFirstAt}
use Rattle.os_command_line.proofs.lemmas.ShellForms.{nowhere, before_first, cut_at}
use Rattle.os_command_line.proofs.lemmas.WindowsLines.{AreTextOf, line_written}
use Rattle.osbytes_c.specs.CommandLines.{quoted_name, after_name, AreArgumentTexts}

ends_after : (texts : List (List ℕ)) (more : List ℕ) → Ends false more → Ends false (after_name texts ++ more)
ends_after [] more e = e
ends_after (text ∷ texts) more e = inl refl

texts_are : (arguments texts : List (List ℕ)) → AreArgumentTexts arguments texts → AreTextOf (after_name texts) arguments
texts_are [] [] a more others e h = h
texts_are [] (text ∷ texts) a more others e h = absurd a
texts_are (argument ∷ arguments) [] a more others e h = absurd a
texts_are (argument ∷ arguments) (text ∷ texts) a more others e h =
    let rest = after_name texts ++ more in
    let read = a.0 rest (ends_after texts more e) in
    let next : IsNext (0x20 ∷ (text ++ rest)) argument rest = record { blanks = 0x20 ∷ []; text = text ++ rest; joined = refl; are_blanks = (inl refl, tt); begins = read.0; reads = read.1 } in
    subst (λ z. AreArguments (0x20 ∷ z) (argument ∷ (arguments ++ others))) (sym (append_assoc text (after_name texts) more)) (rest, next, texts_are arguments texts a.1 more others e h)

pub joined : (name : List ℕ) (arguments texts : List (List ℕ)) → HasNo quote name → AreArgumentTexts arguments texts → IsCommandLine (quoted_name name ++ after_name texts) name arguments
joined name arguments texts h a =
    line_written (quoted_name name ++ after_name texts) name (after_name texts) arguments h refl (texts_are arguments texts a) (ends texts)
  where
    ends : (texts : List (List ℕ)) → Ends false (after_name texts)
    ends [] = tt
    ends (text ∷ texts) = inl refl

not_quote : (x : ℕ) → ¬ (is_byte quote x ≡ true) → x ≢ quote
not_quote x n e = n (eq-eqb x quote e)

-- the first quotation mark
pub quote_found : (name : List ℕ) (found : Option ℕ) → MatchOption found (Nowhere (Passes (is_byte quote) name) 0 (length name)) (λ k. NoneBefore (Passes (is_byte quote) name) 0 (length name) k × Passes (is_byte quote) name k)
    → MatchOption found (HasNo quote name) (λ index. IsFirstAt quote name index)
quote_found name None h = nowhere (is_byte quote) (λ x. x ≢ quote) not_quote name h
quote_found name (Some i) h = record {
  before = take i name;
  after = drop (i + 1) name;
  joined = cut_at quote name i h.0.high h.1;
  none_before = before_first (is_byte quote) (λ x. x ≢ quote) not_quote name i h.0;
  index = sym (length-take-le i name (omega (arith, h.0.high)));
}
