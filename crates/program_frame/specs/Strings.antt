-- The strings of the platform that a command names.
use Rattle.os_str_bytes.specs.Platform.{Ghosts}
use Rattle.os_str_bytes.specs.Unix as unix_type
use Rattle.os_str_bytes.specs.Windows as windows_type
use Rattle.os_str_bytes.specs.Wasm as wasm_type
use Rattle.os_str_bytes.specs.UnixPlatform.TheImpl as unix
use Rattle.os_str_bytes.specs.WindowsPlatform.TheImpl as windows
use Rattle.os_str_bytes.specs.WasmPlatform.TheImpl as wasm
use Rattle.program_frame.specs.declared.os.Os.{Os}
use Rattle.program_frame.specs.declared.os.Os.TheVariants.{Unix, Windows, Wasm}

-- the type of the platform
abbrev pub marker : Os → Type 0
marker Unix = unix_type.Unix
marker Windows = windows_type.Windows
marker Wasm = wasm_type.Wasm

-- what the platform defines of its strings
abbrev pub strings : (os : Os) → Ghosts (marker os)
strings Unix = unix.ghosts
strings Windows = windows.ghosts
strings Wasm = wasm.ghosts
