-- Words that a shell doesn't run as a command where they are first on a line and no byte of them is quoted (POSIX.1-2024, Shell Command Language, 2.4 and 2.3.1). Words that are never written without quotes, as `!`, `{` and `[[`, are left out.
use Rattle.std.specs.Prelude.{ℕ, nat_eq, Bool, true, false, ◌||◌, if◌then◌else◌, codes, List, [], ◌∷◌, map}
use Rattle.std.specs.Str.{bytes_eq}
use Rattle.os_command_line.specs.ShellWriting.{single_quoted, quoted_word}

-- reserved words of POSIX (2.4)
abbrev pub posix_words : List (List ℕ)
posix_words =
    codes "case" ∷ codes "do" ∷ codes "done" ∷ codes "elif" ∷ codes "else" ∷ codes "esac" ∷ codes "fi" ∷ codes "for" ∷ codes "if" ∷ codes "in" ∷ codes "then" ∷ codes "until" ∷ codes "while" ∷ []

-- further reserved words of bash ("Reserved Words": coproc, function, select, time), ksh93 and mksh (function, select, time), ksh93 (namespace), busybox and yash (function)
abbrev pub ksh_words : List (List ℕ)
ksh_words = codes "coproc" ∷ codes "function" ∷ codes "namespace" ∷ codes "select" ∷ codes "time" ∷ []

-- further reserved words of zsh ("Reserved Words"), its word `noglob` ("Precommand Modifiers") and its two aliases
abbrev pub zsh_words : List (List ℕ)
zsh_words =
    codes "declare" ∷ codes "end" ∷ codes "export" ∷ codes "float" ∷ codes "foreach" ∷ codes "integer" ∷ codes "local" ∷ codes "nocorrect" ∷ codes "noglob" ∷ codes "readonly" ∷ codes "repeat" ∷ codes "run-help" ∷ codes "typeset" ∷ codes "which-command" ∷ []

-- further aliases that mksh begins with ("Aliases")
abbrev pub mksh_words : List (List ℕ)
mksh_words = codes "autoload" ∷ codes "functions" ∷ codes "hash" ∷ codes "history" ∷ codes "login" ∷ codes "nameref" ∷ codes "nohup" ∷ codes "r" ∷ codes "type" ∷ []

-- whether a name is one of these words
abbrev pub is_among : List (List ℕ) → List ℕ → Bool
is_among [] name = false
is_among (word ∷ words) name = bytes_eq name word || is_among words name

-- whether the name ends with a colon: a name and a colon are reserved (2.4), and a label of ksh93
abbrev pub ends_with_colon : List ℕ → Bool
ends_with_colon [] = false
ends_with_colon (b ∷ []) = nat_eq b 0x3A
ends_with_colon (b ∷ c ∷ bs) = ends_with_colon (c ∷ bs)

-- whether some shell takes the name for something else than a command where it is first on a line as it is
abbrev pub is_reserved : List ℕ → Bool
is_reserved name = is_among posix_words name || (is_among ksh_words name || (is_among zsh_words name || (is_among mksh_words name || ends_with_colon name)))

-- the word of a name that is first on a line: a reserved word is quoted
abbrev pub first_word : List ℕ → List ℕ
first_word name = if is_reserved name then single_quoted name else quoted_word name

-- the word of a name after this text of a line: it is first on an empty line
abbrev pub word_on : List ℕ → List ℕ → List ℕ
word_on [] name = first_word name
word_on (b ∷ line) name = quoted_word name

-- the words of names on a line
abbrev pub line_words : List (List ℕ) → List (List ℕ)
line_words [] = []
line_words (name ∷ names) = first_word name ∷ map quoted_word names
