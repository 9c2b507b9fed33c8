-- Each byte of a line is one of a gap, of a mark, or of a word.
use Rattle.std.proofs.Common.{◌≡◌, ℕ, Bool, true, false, List, [], ◌∷◌, ◌++◌, length, refl, sym, ap, ◌∙◌, subst, append_assoc, Result, Ok, Err}
use Rattle.os_command_line.specs.declared.shell.language.Language.{Language}
use Rattle.os_command_line.specs.declared.shell.fault.WordsFault.{WordsFault}
use Rattle.os_command_line.specs.Shell.{single_quote, double_quote, backslash, dollar, newline, Doubled, Dollared, Outcome, prepend, Reads, AreItems, IsRead}
use Rattle.os_command_line.specs.Shell.Outcome.{Word, Fault}
use Rattle.os_command_line.specs.Shell.Doubled.{none, plain, escape as escape_doubled, joined, kept}
use Rattle.os_command_line.specs.Shell.Dollared.{nothing as no_dollared, itself as dollar_itself, escape_of}
use Rattle.os_command_line.specs.Shell.Reads.{ends, bare, escaped, continued, single, double, dollared, trailing, unclosed, undoubled, unescaped, undollared, unfinished, unknown, special, expands, keeps}
use Rattle.os_command_line.specs.ShellParts.{IsMarked, AreLineParts}
use Rattle.os_command_line.specs.ShellParts.IsMark.{one, opens, joins}
use Rattle.os_command_line.specs.ShellParts.IsMarked.{nothing, mark, itself, escape}
use Rattle.os_command_line.proofs.lemmas.ShellOwnText.{around, around_is, opened, opened_is}

all_itself : (quoted text word : List ℕ) → IsMarked text word → IsMarked (quoted ++ text) (quoted ++ word)
all_itself [] text word m = m
all_itself (b ∷ quoted) text word m = itself b (quoted ++ text) (quoted ++ word) (all_itself quoted text word m)

marked_doubled : (l : Language) (quoted meant text word : List ℕ) → Doubled l quoted meant → IsMarked text word → IsMarked (quoted ++ text) (meant ++ word)
marked_doubled l _ _ text word none m = m
marked_doubled l _ _ text word (plain b quoted meant h d) m = itself b (quoted ++ text) (meant ++ word) (marked_doubled l quoted meant text word d m)
marked_doubled l _ _ text word (escape_doubled b quoted meant h d) m = mark (backslash ∷ []) (b ∷ (quoted ++ text)) (b ∷ (meant ++ word)) (one backslash refl) (itself b (quoted ++ text) (meant ++ word) (marked_doubled l quoted meant text word d m))
marked_doubled l _ _ text word (joined quoted meant d) m = mark (backslash ∷ newline ∷ []) (quoted ++ text) (meant ++ word) joins (marked_doubled l quoted meant text word d m)
marked_doubled l _ _ text word (kept b quoted meant h n d) m = itself backslash (b ∷ (quoted ++ text)) (meant ++ word) (marked_doubled l (b ∷ quoted) meant text word d m)

marked_dollared : (quoted meant text word : List ℕ) → Dollared quoted meant → IsMarked text word → IsMarked (quoted ++ text) (meant ++ word)
marked_dollared _ _ text word no_dollared m = m
marked_dollared _ _ text word (dollar_itself b quoted meant q s d) m = itself b (quoted ++ text) (meant ++ word) (marked_dollared quoted meant text word d m)
marked_dollared _ _ text word (escape_of letters b quoted meant e d) m =
    subst (λ z. IsMarked (backslash ∷ z) (b ∷ (meant ++ word))) (sym (append_assoc letters quoted text)) (escape letters b (quoted ++ text) (meant ++ word) e (marked_dollared quoted meant text word d m))

-- the text of a word is marked, and what comes after it is left
abbrev IsMarkedBefore : List ℕ → Outcome → Type 0
IsMarkedBefore text (Word word after) = (own : List ℕ) × (text ≡ own ++ after) × IsMarked own word
IsMarkedBefore text (Fault kind left) = Unit {0}

marked_more : (taken added text : List ℕ) (o : Outcome) → ((own word : List ℕ) → IsMarked own word → IsMarked (taken ++ own) (added ++ word)) → IsMarkedBefore text o → IsMarkedBefore (taken ++ text) (prepend added o)
marked_more taken added text (Word word after) f m = (taken ++ m.0, ap (λ z. taken ++ z) m.1 ∙ sym (append_assoc taken m.0 after), f m.0 word m.2)
marked_more taken added text (Fault kind left) f m = tt

nothing_first : (text : List ℕ) (o : Outcome) → IsMarkedBefore text (prepend [] o) → IsMarkedBefore text o
nothing_first text (Word word after) m = m
nothing_first text (Fault kind left) m = m

marked : (l : Language) (first : Bool) (text : List ℕ) (o : Outcome) → Reads l first text o → IsMarkedBefore text o
marked l _ _ _ (ends first after e) = ([], refl, nothing)
marked l _ _ _ (bare first b text o h r) = marked_more (b ∷ []) (b ∷ []) text o (λ own word m. itself b own word m) (marked l false text o r)
marked l _ _ _ (escaped first b text o h r) = marked_more (backslash ∷ b ∷ []) (b ∷ []) text o (λ own word m. mark (backslash ∷ []) (b ∷ own) (b ∷ word) (one backslash refl) (itself b own word m)) (marked l false text o r)
marked l _ _ _ (continued first text o r) = nothing_first (backslash ∷ newline ∷ text) o (marked_more (backslash ∷ newline ∷ []) [] text o (λ own word m. mark (backslash ∷ newline ∷ []) own word joins m) (marked l first text o r))
marked l _ _ _ (single first quoted text o h r) =
    subst (λ z. IsMarkedBefore z (prepend quoted o)) (around_is single_quote quoted single_quote text)
    (marked_more (around single_quote quoted single_quote) quoted text o
    (λ own word m. subst (λ z. IsMarked z (quoted ++ word)) (sym (around_is single_quote quoted single_quote own))
    (mark (single_quote ∷ []) (quoted ++ single_quote ∷ own) (quoted ++ word) (one single_quote refl) (all_itself quoted (single_quote ∷ own) word (mark (single_quote ∷ []) own word (one single_quote refl) m))))
    (marked l false text o r))
marked l _ _ _ (double first quoted meant text o h r) =
    subst (λ z. IsMarkedBefore z (prepend meant o)) (around_is double_quote quoted double_quote text)
    (marked_more (around double_quote quoted double_quote) meant text o
    (λ own word m. subst (λ z. IsMarked z (meant ++ word)) (sym (around_is double_quote quoted double_quote own))
    (mark (double_quote ∷ []) (quoted ++ double_quote ∷ own) (meant ++ word) (one double_quote refl) (marked_doubled l quoted meant (double_quote ∷ own) word h (mark (double_quote ∷ []) own word (one double_quote refl) m))))
    (marked l false text o r))
marked l _ _ _ (dollared first opening quoted meant text o d i h r) =
    subst (λ z. IsMarkedBefore z (prepend meant o)) (opened_is opening quoted text)
    (marked_more (opened opening quoted) meant text o
    (λ own word m. subst (λ z. IsMarked z (meant ++ word)) (sym (opened_is opening quoted own))
    (mark (dollar ∷ opening) (quoted ++ single_quote ∷ own) (meant ++ word) (opens opening i) (marked_dollared quoted meant (single_quote ∷ own) word h (mark (single_quote ∷ []) own word (one single_quote refl) m))))
    (marked l false text o r))
marked l _ _ _ (trailing first) = tt
marked l _ _ _ (unclosed first text h) = tt
marked l _ _ _ (undoubled first quoted word h) = tt
marked l _ _ _ (unescaped first quoted word h) = tt
marked l _ _ _ (undollared first opening quoted word d i h) = tt
marked l _ _ _ (unfinished first opening quoted word d i h) = tt
marked l _ _ _ (unknown first opening quoted word text d i h n) = tt
marked l _ _ _ (special first b text r h d) = tt
marked l _ _ _ (expands first quoted word b text h r x) = tt
marked l _ _ _ (keeps first quoted word b text h r x) = tt

item_parts : (l : Language) (len : ℕ) (line : List ℕ) (items : List (Result (List ℕ) WordsFault)) → AreItems l len line items → AreLineParts line items
item_parts l len line [] h = h
item_parts l len line (Ok word ∷ items) h =
    let n = h.1 in
    let m = marked l true n.text (Word word h.0) n.reads in
    (n.gap, m.0, h.0, n.parts ∙ ap (λ z. n.gap ++ z) m.1, n.is_gap, m.2, item_parts l len h.0 items h.2)
item_parts l len line (Err fault ∷ items) h = let n = h.1 in (n.gap, n.text, n.parts, n.is_gap)

pub line_parts : (l : Language) (line : List ℕ) (items : List (Result (List ℕ) WordsFault)) → IsRead l line items → AreLineParts line items
line_parts l line items h = item_parts l (length line) line items h
