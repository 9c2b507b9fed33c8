-- The words for platforms.
use Rattle.std.specs.Prelude.{ℕ, List, codes}
use Rattle.program_frame.specs.declared.os.Os.{Os}
use Rattle.program_frame.specs.declared.os.Os.TheVariants.{Unix, Windows, Wasm}

-- the word for the platform
abbrev pub os_word : Os → List ℕ
os_word Unix = codes "unix"
os_word Windows = codes "windows"
os_word Wasm = codes "wasm"
