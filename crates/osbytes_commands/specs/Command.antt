-- The arguments that specify each command.
use Rattle.std.specs.Prelude.{◌≡◌, ℕ, List, [], ◌∷◌, length, codes}
use Rattle.program_frame.specs.Os.{os_word}
use Rattle.program_frame.specs.declared.os.Os.{Os}
use Rattle.osbytes_commands.specs.declared.command.Command.{Command}
use Rattle.osbytes_commands.specs.declared.command.Command.TheVariants.{Units, Raw, Find, Split, Chunks, Quote, Unquote}

-- the arguments after the program's name that specify the command
abbrev pub words_of : Command → List (List ℕ)
words_of (Units os) = codes "units" ∷ os_word os ∷ []
words_of (Raw os) = codes "raw" ∷ os_word os ∷ []
words_of (Find os pattern) = codes "find" ∷ os_word os ∷ pattern.now ∷ []
words_of (Split os pattern) = codes "split" ∷ os_word os ∷ pattern.now ∷ []
words_of (Chunks os) = codes "chunks" ∷ os_word os ∷ []
words_of (Quote os) = codes "quote" ∷ os_word os ∷ []
words_of (Unquote os) = codes "unquote" ∷ os_word os ∷ []

-- the platform whose strings the command is about
abbrev pub os_of : Command → Os
os_of (Units os) = os
os_of (Raw os) = os
os_of (Find os pattern) = os
os_of (Split os pattern) = os
os_of (Chunks os) = os
os_of (Quote os) = os
os_of (Unquote os) = os

-- the command can't run: its string would be split at the empty pattern
abbrev pub IsUnusable : Command → Type 0
IsUnusable (Units os) = ⊥
IsUnusable (Raw os) = ⊥
IsUnusable (Find os pattern) = ⊥
IsUnusable (Split os pattern) = length pattern.now ≡ 0
IsUnusable (Chunks os) = ⊥
IsUnusable (Quote os) = ⊥
IsUnusable (Unquote os) = ⊥
