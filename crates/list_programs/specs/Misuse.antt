-- What a program prints of arguments that it can't use.
use Rattle.std.specs.Prelude.{ℕ, List, ◌++◌, codes}
use Rattle.os_args.specs.ErrorText.{fault_text, shown}
use Rattle.os_args.specs.Views.{fault_of}
use Rattle.os_str_bytes.specs.WasmPlatform.TheImpl as wasm
use Rattle.list_programs.specs.declared.misuse.Misuse.{Misuse}
use Rattle.list_programs.specs.declared.misuse.Misuse.TheVariants.{Argument, Missing, Invalid, Misplaced}

-- an argument is printed as its escape on one line
abbrev pub misuse_text : Misuse → List ℕ
misuse_text (Argument error) = fault_text wasm.ghosts.units (fault_of error)
misuse_text (Missing what) = codes "missing " ++ what.now
misuse_text (Invalid what word) = (codes "invalid " ++ what.now) ++ (codes " '" ++ (shown wasm.ghosts.units word.now ++ codes "'"))
misuse_text (Misplaced option command) = option.now ++ (codes " isn't for " ++ command.now)
