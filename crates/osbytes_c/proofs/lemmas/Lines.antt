-- Words and arguments of lines, and how much room they want.
use Rattle.std.proofs.Common.{◌≡◌, ℕ, ◌+◌, ◌*◌, ◌^◌, ◌≤◌, ◌<◌, Bool, true, false, List, [], ◌∷◌, ◌++◌, length, map, Result, Ok, Err, refl, sym, ap, ◌∙◌, subst, arith, append_assoc, append-nil, length-append}
use Rattle.wtf8_core.specs.Truncated.{IsTruncated}
use Rattle.wtf8_core.proofs.lemmas.buffers.Truncated.{none_yet}
use Rattle.platform_str.specs.BufferSink.{Pushes}
use Rattle.platform_str.proofs.lemmas.Pushing.{pushed_all}
use Rattle.wtf8_core.specs.Wtf8.{IsWtf8}
use Rattle.wtf8_core.specs.UnitsOf.{units_of}
use Rattle.os_command_line.specs.Shell as shell
use Rattle.os_command_line.specs.Shell.{AreItems, IsRead}
use Rattle.os_command_line.specs.Shell.Outcome.{Word}
use Rattle.os_command_line.specs.declared.shell.step.State.TheVariants.{Start}
use Rattle.os_command_line.specs.Windows.{quote, backslashes, Reads, ReadsName, AreArguments, IsCommandLine}
use Rattle.os_command_line.specs.Windows.Reads.{ends, literal, escaped, opens, closes, doubled}
use Rattle.os_command_line.specs.Windows.ReadsName.{name_ends, name_quote, name_unit}
use Rattle.os_command_line.specs.declared.shell.fault.WordsFault.{WordsFault}
use Rattle.os_command_line.specs.declared.shell.language.Language.{Language}
use Rattle.os_command_line.proofs.lemmas.ShellMeaning.{cut_word, meant_short}
use Rattle.os_command_line.proofs.lemmas.ShellOneReading.{complete}
use Rattle.os_command_line.proofs.lemmas.WindowsEachLine.{shorter}
use Rattle.os_command_line.proofs.lemmas.WindowsStrings.{units_fit}
use Rattle.osbytes_c.specs.Answers.{Writes}
use Rattle.osbytes_c.specs.Lines.{ended, kind_number, AreEndedWords, AreEndedArguments, IsFaultOf}
use Rattle.osbytes_c.specs.declared.lines.shell_words.LineFault.{LineFault}
use Rattle.osbytes_c.proofs.lemmas.ArgumentWriting.{slashes}
use Rattle.osbytes_c.specs.Room.{words_room, arguments_room}

-- one more with a 0 after it
pub one_more_ended : (done : List (List ℕ)) (word : List ℕ) → ended (done ++ word ∷ []) ≡ ended done ++ (word ++ 0 ∷ [])
one_more_ended [] word = append-nil (word ++ 0 ∷ [])
one_more_ended (one ∷ done) word = ap (λ z. (one ++ 0 ∷ []) ++ z) (one_more_ended done word) ∙ sym (append_assoc (one ++ 0 ∷ []) (ended done) (word ++ 0 ∷ []))

-- ---- words of a shell

module _ (l : Language) where
  -- a word is no longer than its text, and its text isn't empty
  word_within : (line word rest : List ℕ) → shell.IsNext l line (Word word rest) → length word + 1 + 2 * length rest ≤ 2 * length line
  word_within line word rest n =
      let c = cut_word l n.text word rest (complete l true n.text (Word word rest) [] n.reads) in
      let short = meant_short l Start 0 c.own in
      let some = some_own c.own c.joined c.ends in
      omega (arith, short, some, ap length c.means, ap length n.parts, length-append n.gap n.text, ap length c.joined, length-append c.own rest)
    where
      none_ends : (text : List ℕ) → shell.Begins text → shell.Ends text → ⊥
      none_ends [] b e = b.some refl
      none_ends (x ∷ text) b e = let no : true ≡ false = sym e ∙ b.no_blank x text refl in cc

      some_own : (own : List ℕ) → n.text ≡ own ++ rest → shell.Ends rest → 1 ≤ length own
      some_own [] j e = absurd (none_ends n.text n.begins (subst shell.Ends (sym j) e))
      some_own (x ∷ own) j e = omega arith

  pub words_fit : (len : ℕ) (line : List ℕ) (items : List (Result (List ℕ) WordsFault)) → AreItems l len line items → words_room items ≤ 2 * length line
  words_fit len line [] a = omega arith
  words_fit len line (Ok word ∷ items) a = omega (arith, word_within line word a.0 a.1, words_fit len a.0 items a.2)
  words_fit len line (Err fault ∷ items) a = omega arith

word_joined : (done : List (List ℕ)) (word : List ℕ) (rest : List (Result (List ℕ) WordsFault)) → map Ok done ++ Ok word ∷ rest ≡ map Ok (done ++ word ∷ []) ++ rest
word_joined [] word rest = refl
word_joined (one ∷ done) word rest = ap (λ z. Ok one ∷ z) (word_joined done word rest)

-- the words so far are written, and there is a number for how much room all want
abbrev pub WordsSoFar : List (Result (List ℕ) WordsFault) → List (Result (List ℕ) WordsFault) → List ℕ → List ℕ → ℕ → Type 0
WordsSoFar all left old new count = (done : List (List ℕ)) × (all ≡ map Ok done ++ left) × IsTruncated (ended done) old new count × (count + words_room left < 2 ^ 64)

pub no_words_yet : (all left : List (Result (List ℕ) WordsFault)) (old : List ℕ) → left ≡ all → words_room all < 2 ^ 64 → WordsSoFar all left old old 0
no_words_yet all left old e room = ([], sym e, none_yet old, omega (arith, room, ap words_room e))

module _ (all left : List (Result (List ℕ) WordsFault)) (old now : List ℕ) (count : ℕ) (so_far : WordsSoFar all left old now count) where
  module _ (word : List ℕ) (rest : List (Result (List ℕ) WordsFault)) (next : left ≡ Ok word ∷ rest) where
    pub word_has_room : count + (length word + 1) < 2 ^ 64
    word_has_room = omega (arith, so_far.3, ap words_room next)

    pub one_more_word : (new : List ℕ) (len : ℕ) → Pushes (word ++ 0 ∷ []) now count new len → WordsSoFar all rest old new len
    one_more_word new len p = (
      so_far.0 ++ word ∷ [],
      so_far.1 ∙ ap (λ z. map Ok so_far.0 ++ z) next ∙ word_joined so_far.0 word rest,
      subst (λ z. IsTruncated z old new len) (sym (one_more_ended so_far.0 word)) (p.0 (ended so_far.0) old so_far.2),
      omega (arith, so_far.3, ap words_room next, p.1, length-append word (0 ∷ [])),
    )

  pub fault_after : (fault : WordsFault) (rest : List (Result (List ℕ) WordsFault)) → left ≡ Err fault ∷ rest → (done : List (List ℕ)) × ((rest : List (Result (List ℕ) WordsFault)) × (all ≡ map Ok done ++ Err fault ∷ rest))
  fault_after fault rest next = (so_far.0, (rest, so_far.1 ∙ ap (λ z. map Ok so_far.0 ++ z) next))

  pub all_words : left ≡ [] → (done : List (List ℕ)) × ((all ≡ map Ok done) × IsTruncated (ended done) old now count)
  all_words end = (so_far.0, (so_far.1 ∙ ap (λ z. map Ok so_far.0 ++ z) end ∙ append-nil (map Ok so_far.0), so_far.2))

-- nothing comes after a fault
last_fault : (l : Language) (len : ℕ) (line : List ℕ) (done : List (List ℕ)) (fault : WordsFault) (rest : List (Result (List ℕ) WordsFault)) → AreItems l len line (map Ok done ++ Err fault ∷ rest) → rest ≡ []
last_fault l len line [] fault rest a = a.3
last_fault l len line (word ∷ done) fault rest a = last_fault l len a.0 done fault rest a.2

module _ (l : Language) (line : List ℕ) (items : List (Result (List ℕ) WordsFault)) (read : IsRead l line items) where
  pub words_written : (old new : List ℕ) (count : ℕ) → (done : List (List ℕ)) × ((items ≡ map Ok done) × IsTruncated (ended done) old new count) → Writes (AreEndedWords l line) old new count
  words_written old new count w = (ended w.0, ((w.0, (subst (IsRead l line) w.1.0 read, refl)), w.1.1))

  pub fault_of : (fault : WordsFault) (report : LineFault) → (done : List (List ℕ)) × ((rest : List (Result (List ℕ) WordsFault)) × (items ≡ map Ok done ++ Err fault ∷ rest)) → report.kind ≡ kind_number fault.kind → report.index ≡ fault.index → IsFaultOf l line report
  fault_of fault report f k i =
      let whole = subst (IsRead l line) f.1.1 read in
      let none = last_fault l (length line) line f.0 fault f.1.0 whole in
      record { words = f.0; fault = fault; read = subst (λ z. IsRead l line (map Ok f.0 ++ Err fault ∷ z)) none whole; kind = k; index = i }

-- ---- arguments of Windows

argument_within : (after : List ℕ) (inside : Bool) (text argument : List ℕ) → Reads after inside text argument → length argument + length after ≤ length text
argument_within after _ _ _ (ends inside n e) = omega (arith, length-append (backslashes n) after)
argument_within after _ _ _ (literal inside n u text argument h r) = omega (arith, length-append (backslashes n) (u ∷ text), length-append (backslashes n) (u ∷ argument), argument_within after inside text argument r)
argument_within after _ _ _ (escaped inside n text argument r) =
    omega (arith, slashes n, slashes (2 * n + 1), length-append (backslashes (2 * n + 1)) (quote ∷ text), length-append (backslashes n) (quote ∷ argument), argument_within after inside text argument r)
argument_within after _ _ _ (opens n text argument r) =
    omega (arith, slashes n, slashes (2 * n), length-append (backslashes (2 * n)) (quote ∷ text), length-append (backslashes n) argument, argument_within after true text argument r)
argument_within after _ _ _ (closes n text argument h r) =
    omega (arith, slashes n, slashes (2 * n), length-append (backslashes (2 * n)) (quote ∷ text), length-append (backslashes n) argument, argument_within after false text argument r)
argument_within after _ _ _ (doubled n text argument r) =
    omega (arith, slashes n, slashes (2 * n), length-append (backslashes (2 * n)) (quote ∷ quote ∷ text), length-append (backslashes n) (quote ∷ argument), argument_within after true text argument r)

name_within : (after : List ℕ) (inside : Bool) (text name : List ℕ) → ReadsName after inside text name → length name + length after ≤ length text
name_within after _ _ _ (name_ends inside e) = omega arith
name_within after _ _ _ (name_quote inside text name r) = omega (arith, name_within after _ text name r)
name_within after _ _ _ (name_unit inside u text name n b r) = omega (arith, name_within after inside text name r)

arguments_fit : (line : List ℕ) (arguments : List (List ℕ)) → AreArguments line arguments → arguments_room arguments ≤ 2 * length line
arguments_fit line [] a = omega arith
arguments_fit line (argument ∷ arguments) a =
    let n = a.1 in
    omega (arith, ap length n.joined, length-append n.blanks n.text, argument_within a.0 false n.text argument n.reads, shorter a.0 false n.text argument n.reads n.begins, arguments_fit a.0 arguments a.2)

-- the name and the arguments of a string
pub line_fits : (line name : List ℕ) (arguments : List (List ℕ)) → IsWtf8 line → IsCommandLine (units_of line) name arguments → (length name + 1) + arguments_room arguments ≤ 2 * length line + 1
unfolding IsCommandLine
line_fits line name arguments w c =
    omega (arith, units_fit line w, name_within c.0 false (units_of line) name c.1, arguments_fit c.0 arguments c.2)

-- the name and the arguments so far are written
abbrev pub ArgumentsSoFar : List ℕ → List (List ℕ) → List (List ℕ) → List ℕ → List ℕ → ℕ → Type 0
ArgumentsSoFar name all left old new count = (done : List (List ℕ)) × (all ≡ done ++ left) × IsTruncated (ended (name ∷ done)) old new count × (count + arguments_room left < 2 ^ 64)

pub name_written : (name : List ℕ) (all left : List (List ℕ)) (old new : List ℕ) (count : ℕ) → left ≡ all → (length name + 1) + arguments_room all < 2 ^ 64 → Pushes (name ++ 0 ∷ []) old 0 new count → ArgumentsSoFar name all left old new count
name_written name all left old new count e room p = (
  [],
  sym e,
  subst (λ z. IsTruncated z old new count) (sym (append-nil (name ++ 0 ∷ []))) (pushed_all p),
  omega (arith, room, ap arguments_room e, p.1, length-append name (0 ∷ [])),
)

module _ (name : List ℕ) (all left : List (List ℕ)) (old now : List ℕ) (count : ℕ) (so_far : ArgumentsSoFar name all left old now count) where
  module _ (argument : List ℕ) (rest : List (List ℕ)) (next : left ≡ argument ∷ rest) where
    pub argument_has_room : count + (length argument + 1) < 2 ^ 64
    argument_has_room = omega (arith, so_far.3, ap arguments_room next)

    pub one_more_argument : (new : List ℕ) (len : ℕ) → Pushes (argument ++ 0 ∷ []) now count new len → ArgumentsSoFar name all rest old new len
    one_more_argument new len p = (
      so_far.0 ++ argument ∷ [],
      so_far.1 ∙ ap (λ z. so_far.0 ++ z) next ∙ sym (append_assoc so_far.0 (argument ∷ []) rest),
      subst (λ z. IsTruncated z old new len) (sym (one_more_ended (name ∷ so_far.0) argument)) (p.0 (ended (name ∷ so_far.0)) old so_far.2),
      omega (arith, so_far.3, ap arguments_room next, p.1, length-append argument (0 ∷ [])),
    )

  pub all_arguments : left ≡ [] → IsTruncated (ended (name ∷ all)) old now count
  all_arguments end = subst (λ z. IsTruncated (ended (name ∷ z)) old now count) (sym (so_far.1 ∙ ap (λ z. so_far.0 ++ z) end ∙ append-nil so_far.0)) so_far.2

pub arguments_written : (line name : List ℕ) (arguments : List (List ℕ)) (old new : List ℕ) (count : ℕ) → IsCommandLine line name arguments → IsTruncated (ended (name ∷ arguments)) old new count → Writes (AreEndedArguments line) old new count
arguments_written line name arguments old new count c t = (ended (name ∷ arguments), ((name, (arguments, (c, refl))), t))
