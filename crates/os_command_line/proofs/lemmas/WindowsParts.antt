-- Each unit of a command line is a blank, a mark, or one of an argument.
use Rattle.std.proofs.Common.{◌≡◌, ℕ, zero, suc, ◌+◌, ◌*◌, Bool, true, false, not, List, [], ◌∷◌, ◌++◌, refl, ap, ◌∙◌, subst, arith, append-nil, inl, inr}
use Rattle.os_command_line.specs.Windows.{backslash, quote, backslashes, Reads, ReadsName, AreArguments, IsCommandLine}
use Rattle.os_command_line.specs.Windows.Reads.{ends, literal, escaped, opens, closes, doubled}
use Rattle.os_command_line.specs.Windows.ReadsName.{name_ends, name_quote, name_unit}
use Rattle.os_command_line.specs.WindowsParts.{IsMarked, AreParts, AreLineParts}
use Rattle.os_command_line.specs.WindowsParts.IsMarked.{nothing, mark, itself}
use Rattle.os_command_line.proofs.lemmas.WindowsOwnText.{alone, name_alone}
use Rattle.os_command_line.proofs.lemmas.WindowsWriting.{twice}

slashes_itself : (n : ℕ) (text argument : List ℕ) → IsMarked text argument → IsMarked (backslashes n ++ text) (backslashes n ++ argument)
slashes_itself zero text argument m = m
slashes_itself (suc n) text argument m = itself backslash (backslashes n ++ text) (backslashes n ++ argument) (slashes_itself n text argument m)

slashes_marked : (n : ℕ) (text argument : List ℕ) → IsMarked text argument → IsMarked (backslashes n ++ text) argument
slashes_marked zero text argument m = m
slashes_marked (suc n) text argument m = mark backslash (backslashes n ++ text) argument (inl refl) (slashes_marked n text argument m)

-- of these backslashes the first are marks, and as many as are meant are not
slashes : (marks n k : ℕ) (text argument : List ℕ) → marks + n ≡ k → IsMarked text argument → IsMarked (backslashes k ++ text) (backslashes n ++ argument)
slashes marks n k text argument e m = subst (λ z. IsMarked z (backslashes n ++ argument)) (twice marks n k text e) (slashes_marked marks (backslashes n ++ text) (backslashes n ++ argument) (slashes_itself n text argument m))

quote_marked : (text argument : List ℕ) → IsMarked text argument → IsMarked (quote ∷ text) argument
quote_marked text argument m = mark quote text argument (inr refl) m

-- the text of an argument is marked
marked : (inside : Bool) (text argument : List ℕ) → Reads [] inside text argument → IsMarked text argument
marked _ _ _ (ends inside n e) = subst (IsMarked (backslashes n ++ [])) (append-nil (backslashes n)) (slashes_itself n [] [] nothing)
marked _ _ _ (literal inside n u text argument h r) = slashes_itself n (u ∷ text) (u ∷ argument) (itself u text argument (marked inside text argument r))
marked _ _ _ (escaped inside n text argument r) = slashes (n + 1) n (2 * n + 1) (quote ∷ text) (quote ∷ argument) (omega arith) (itself quote text argument (marked inside text argument r))
marked _ _ _ (opens n text argument r) = slashes n n (2 * n) (quote ∷ text) argument (omega arith) (quote_marked text argument (marked true text argument r))
marked _ _ _ (closes n text argument h r) = slashes n n (2 * n) (quote ∷ text) argument (omega arith) (quote_marked text argument (marked false text argument r))
marked _ _ _ (doubled n text argument r) = slashes n n (2 * n) (quote ∷ quote ∷ text) (quote ∷ argument) (omega arith) (quote_marked (quote ∷ text) (quote ∷ argument) (itself quote text argument (marked true text argument r)))

marked_name : (inside : Bool) (text name : List ℕ) → ReadsName [] inside text name → IsMarked text name
marked_name _ _ _ (name_ends inside e) = nothing
marked_name _ _ _ (name_quote inside text name r) = quote_marked text name (marked_name (not inside) text name r)
marked_name _ _ _ (name_unit inside u text name q b r) = itself u text name (marked_name inside text name r)

argument_parts : (line : List ℕ) (arguments : List (List ℕ)) → AreArguments line arguments → AreParts line arguments
argument_parts line [] h = h
argument_parts line (argument ∷ arguments) h =
    let n = h.1 in
    let m = alone h.0 false n.text argument n.reads in
    (n.blanks, m.own, h.0, n.joined ∙ ap (λ z. n.blanks ++ z) m.joined, n.are_blanks, marked false m.own argument m.reads, argument_parts h.0 arguments h.2)

pub line_parts : (line name : List ℕ) (arguments : List (List ℕ)) → IsCommandLine line name arguments → AreLineParts line name arguments
unfolding IsCommandLine
line_parts line name arguments h = let m = name_alone h.0 false line name h.1 in record { text = m.own; rest = h.0; joined = m.joined; marked = marked_name false m.own name m.reads; parts = argument_parts h.0 arguments h.2 }
