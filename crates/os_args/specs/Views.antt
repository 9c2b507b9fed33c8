-- The view that clauses have of the words of a command line, and of the result of a step.
use Rattle.std.specs.Prelude.{map, Result, Ok, Err}
use Rattle.std.specs.Option.{option_map}
use Rattle.platform_str.specs.declared.platform.Platform.{Ghosts}
use Rattle.platform_str.specs.declared.os_str.OsStr.{OsStr}
use Rattle.platform_str.specs.Strings.{bytes}
use Rattle.os_args.specs.declared.error.ArgumentError.{ArgumentError}
use Rattle.os_args.specs.declared.error.ArgumentError.TheVariants as error
use Rattle.os_args.specs.declared.arguments.Arguments.{Arguments}
use Rattle.os_args.specs.Kinds.{kind_of}
use Rattle.os_args.specs.Reading.{Fault, UnexpectedValue, MissingValue, UnexpectedArgument, Reading}

module _ {E : Type 0} {P : Ghosts E} where
  -- an error
  abbrev pub fault_of : ArgumentError (OsStr E P) → Fault
  fault_of (error.UnexpectedValue last value) = UnexpectedValue (option_map kind_of last) (bytes value)
  fault_of (error.MissingValue last) = MissingValue (option_map kind_of last)
  fault_of (error.UnexpectedArgument word) = UnexpectedArgument (kind_of word)

  -- the outcome of a step, where `of` maps the value of its success
  abbrev pub outcome_of : {A B : Type 0} → (A → B) → Result A (ArgumentError (OsStr E P)) → Result B Fault
  outcome_of of (Ok given) = Ok (of given)
  outcome_of of (Err error) = Err (fault_of error)

  -- how far the words are read
  abbrev pub reading : Arguments E P → Reading
  reading a = record { given = map bytes a.words.now; index = a.index; pending = bytes a.pending; ended = a.ended; numbers = a.numbers; last = option_map kind_of a.last }
