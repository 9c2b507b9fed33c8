-- Whole command lines, written.
use Rattle.std.proofs.Common.{◌≡◌, ℕ, true, false, List, [], ◌∷◌, ◌++◌, map, refl, sym, ap, ◌∙◌, subst, append_assoc, append-nil, inl}
use Rattle.std.proofs.lemmas.Bool.{true≢false}
use Rattle.os_command_line.specs.ShellWriting.{after_first}
use Rattle.os_command_line.specs.Windows.{quote, Ends, IsNext, AreArguments, ReadsName, IsCommandLine}
use Rattle.os_command_line.specs.Windows.ReadsName.{name_ends, name_quote, name_unit}
use Rattle.os_command_line.specs.WindowsWriting.{HasNo, argument_text, line_text}
use Rattle.os_command_line.proofs.lemmas.ShellJoining.{IsJoinedSoFar}
use Rattle.os_command_line.proofs.lemmas.WindowsWriting.{text_is}

-- whatever arguments follow, the text before them is read as these
abbrev pub AreTextOf : List ℕ → List (List ℕ) → Type 0
AreTextOf text arguments = (more : List ℕ) (others : List (List ℕ)) → Ends false more → AreArguments more others → AreArguments (text ++ more) (arguments ++ others)

in_quotes : (name after : List ℕ) → HasNo quote name → Ends false after → ReadsName after true (name ++ quote ∷ after) name
in_quotes [] after h e = name_quote true after [] (name_ends false e)
in_quotes (u ∷ name) after h e = name_unit true u (name ++ quote ∷ after) name h.0 (λ f. absurd (true≢false f)) (in_quotes name after h.1 e)

pub line_written : (line name text : List ℕ) (arguments : List (List ℕ)) → HasNo quote name → line ≡ (quote ∷ (name ++ quote ∷ [])) ++ text → AreTextOf text arguments → Ends false text → IsCommandLine line name arguments
unfolding IsCommandLine
line_written line name text arguments h e p ends =
    let whole : line ≡ quote ∷ (name ++ quote ∷ text) = e ∙ append_assoc (quote ∷ name) (quote ∷ []) text in
    let all = subst (λ z. AreArguments z arguments) (append-nil text) (subst (AreArguments (text ++ [])) (append-nil arguments) (p [] [] tt tt)) in
    (text, subst (λ z. ReadsName text false z name) (sym whole) (name_quote false (name ++ quote ∷ text) name (in_quotes name text h ends)), all)

abbrev texts : List (List ℕ) → List ℕ
texts arguments = after_first (map argument_text arguments)

ends_after : (arguments : List (List ℕ)) (more : List ℕ) → Ends false more → Ends false (texts arguments ++ more)
ends_after [] more e = e
ends_after (argument ∷ arguments) more e = inl refl

texts_are : (arguments : List (List ℕ)) → AreTextOf (texts arguments) arguments
texts_are [] more others e h = h
texts_are (argument ∷ arguments) more others e h =
    let rest = texts arguments ++ more in
    let read = text_is argument rest (ends_after arguments more e) in
    let next : IsNext (0x20 ∷ (argument_text argument ++ rest)) argument rest = record { blanks = 0x20 ∷ []; text = argument_text argument ++ rest; joined = refl; are_blanks = (inl refl, tt); begins = read.0; reads = read.1 } in
    subst (λ z. AreArguments (0x20 ∷ z) (argument ∷ (arguments ++ others))) (sym (append_assoc (argument_text argument) (texts arguments) more)) (rest, next, texts_are arguments more others e h)

pub line_reads : (line name : List ℕ) (arguments : List (List ℕ)) → HasNo quote name → line ≡ line_text name arguments → IsCommandLine line name arguments
line_reads line name arguments h e = line_written line name (texts arguments) arguments h e (texts_are arguments) (subst (Ends false) (append-nil (texts arguments)) (ends_after arguments [] tt))

-- the line of a program's name, before any argument
pub none_yet : (name : List ℕ) (all rest : List (List ℕ)) (new line : List ℕ) → all ≡ rest → new ≡ [] → line ≡ new ++ quote ∷ (name ++ quote ∷ []) → IsJoinedSoFar argument_text all rest (quote ∷ (name ++ quote ∷ [])) line
none_yet name all rest new line a n e = record {
  done = [];
  joined = a;
  line_is = e ∙ ap (λ z. z ++ quote ∷ (name ++ quote ∷ [])) n ∙ sym (append-nil (quote ∷ (name ++ quote ∷ [])));
  no_nul = tt;
}

-- two maps in turn
pub maps : {A B C : Type 0} (f : B → C) (g : A → B) (xs : List A) → map (λ x. f (g x)) xs ≡ map f (map g xs)
maps f g [] = refl
maps f g (x ∷ xs) = ap (λ z. f (g x) ∷ z) (maps f g xs)
