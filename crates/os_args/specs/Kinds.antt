-- What clauses see of a word: its kind.
use Rattle.platform_str.specs.declared.platform.Platform.{Ghosts}
use Rattle.platform_str.specs.declared.os_str.OsStr.{OsStr}
use Rattle.platform_str.specs.Strings.{bytes}
use Rattle.os_args.specs.declared.word.Word.{Word}
use Rattle.os_args.specs.declared.word.Word.TheVariants as word
use Rattle.os_args.specs.Word.{Kind, Long, LongBytes, Short, ShortBytes, Value}

module _ {E : Type 0} {P : Ghosts E} where
  abbrev pub kind_of : Word (OsStr E P) → Kind
  kind_of (word.Long name) = Long name.now
  kind_of (word.LongBytes name) = LongBytes (bytes name)
  kind_of (word.Short c) = Short c
  kind_of (word.ShortBytes rest) = ShortBytes (bytes rest)
  kind_of (word.Value value) = Value (bytes value)
