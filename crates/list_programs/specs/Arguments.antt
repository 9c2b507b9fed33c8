-- The arguments of a program, read as options and operands: POSIX, "Utility Conventions", 12.2, with options anywhere before `--` and long options, as getopt_long reads them.
use Rattle.std.specs.Prelude.{◌≡◌, ◌⊎◌, ℕ, Bool, true, false, List, [], ◌∷◌, ◌++◌, Option, Some, None, Ok, Err}
use denote.Ref.{Bor}
use Rattle.os_args.specs.Word.{Kind, Long, LongBytes, Short, ShortBytes, Value}
use Rattle.os_args.specs.Reading.{Fault, UnexpectedArgument, Reading, TakesWord, TakesValue}
use Rattle.os_args.specs.Views.{fault_of}
use Rattle.list_programs.specs.declared.arguments.Given.{Given}
use Rattle.list_programs.specs.declared.arguments.Given.TheVariants.{Operand, Flag, Valued}
use Rattle.list_programs.specs.declared.arguments.ReadFault.{ReadFault}
use Rattle.list_programs.specs.declared.arguments.ReadFault.TheVariants.{Misuse, Memory}

-- none of the arguments is read
abbrev pub unread : List (List ℕ) → Reading
unread words = record { given = words; index = 0; pending = []; ended = false; numbers = false; last = None }

-- what was read is an option, and no operand
abbrev pub IsOption : Kind → Type 0
IsOption (Long name) = Unit {0}
IsOption (LongBytes name) = Unit {0}
IsOption (Short c) = Unit {0}
IsOption (ShortBytes rest) = Unit {0}
IsOption (Value value) = ⊥

-- for a program with options that are spelled so, where some take a value:
module _ {O : Type 0} (spelled : O → Kind → Type 0) (has_value : O → Bool) where
  -- an operand, an option, or an option and its value are read
  abbrev pub Takes : Reading → Given O → Reading → Type 0
  Takes before (Operand word) after = TakesWord before (Ok (Some (Value word.now))) after
  Takes before (Flag option) after = (kind : Kind) × ((spelled option kind × (has_value option ≡ false)) × TakesWord before (Ok (Some kind)) after)
  Takes before (Valued option value) after = (kind : Kind) × (mid : Reading) × ((spelled option kind × (has_value option ≡ true)) × (TakesWord before (Ok (Some kind)) mid × TakesValue mid (Ok value.now) after))

  -- an option that was read, and its value if it takes one
  abbrev pub Completes : Kind → Reading → Given O → Reading → Type 0
  Completes kind mid (Operand word) after = ⊥
  Completes kind mid (Flag option) after = (spelled option kind × (has_value option ≡ false)) × (after ≡ mid)
  Completes kind mid (Valued option value) after = (spelled option kind × (has_value option ≡ true)) × TakesValue mid (Ok value.now) after

  -- the program has no such option, or its value is missing
  abbrev pub CantComplete : Kind → Reading → Fault → Type 0
  CantComplete kind mid fault =
      (((option : O) → ¬ (spelled option kind)) × (fault ≡ UnexpectedArgument kind))
      ⊎ ((option : O) × (after : Reading) × ((spelled option kind × (has_value option ≡ true)) × TakesValue mid (Err fault) after))

  -- these are read, one after the other
  abbrev pub TakesAll : Reading → List (Given O) → Reading → Type 0
  TakesAll before [] after = after ≡ before
  TakesAll before (given ∷ more) after = (mid : Reading) × Takes before given mid × TakesAll mid more after

  -- the arguments are these options and operands, and no more
  pub record AreGiven (words : List (List ℕ)) (given : List (Given O)) : Type 0 where
    pub read : Reading
    pub after : Reading
    pub are : TakesAll (unread words) given read
    pub end : TakesWord read (Ok None) after

  -- the next argument is an option that the program doesn't have
  pub record IsUnknown (at : Reading) (fault : Fault) : Type 0 where
    pub kind : Kind
    pub after : Reading
    pub taken : TakesWord at (Ok (Some kind)) after
    pub option : IsOption kind
    pub unknown : (option : O) → ¬ (spelled option kind)
    pub fault_is : fault ≡ UnexpectedArgument kind

  -- the next argument is an option that takes a value, which is missing
  pub record LacksItsValue (at : Reading) (fault : Fault) : Type 0 where
    pub kind : Kind
    pub option : O
    pub mid : Reading
    pub after : Reading
    pub is : spelled option kind
    pub valued : has_value option ≡ true
    pub taken : TakesWord at (Ok (Some kind)) mid
    pub missing : TakesValue mid (Err fault) after

  -- the last option has a value that it doesn't take
  abbrev pub HasOneTooMany : Reading → Fault → Type 0
  HasOneTooMany at fault = (after : Reading) × TakesWord at (Err fault) after

  -- reading can't go on from here
  abbrev pub FailsAt : Reading → Fault → Type 0
  FailsAt at fault = HasOneTooMany at fault ⊎ (IsUnknown at fault ⊎ LacksItsValue at fault)

  -- the first fault of the arguments: what comes before it are options and operands
  pub record HasFault (words : List (List ℕ)) (fault : Fault) : Type 0 where
    pub given : List (Given O)
    pub at : Reading
    pub are : TakesAll (unread words) given at
    pub fails : FailsAt at fault

  -- why arguments aren't options and operands of the program; an allocation may fail
  abbrev pub IsReadFault : List (List ℕ) → ReadFault → Type 0
  IsReadFault words (Misuse error) = HasFault words (fault_of error)
  IsReadFault words Memory = Unit {0}

-- the text of a value
abbrev pub text_of : Bor (List ℕ) → List ℕ
text_of value = value.now

module _ {O : Type 0} where
  -- the operands, in order
  abbrev pub operands_of : List (Given O) → List (List ℕ)
  operands_of [] = []
  operands_of (Operand word ∷ given) = word.now ∷ operands_of given
  operands_of (Flag option ∷ given) = operands_of given
  operands_of (Valued option value ∷ given) = operands_of given

  module _ (option : O) where
    -- this is the option
    abbrev pub IsOf : Given O → Type 0
    IsOf (Operand word) = ⊥
    IsOf (Flag other) = other ≡ option
    IsOf (Valued other value) = other ≡ option

    -- the option is among these
    abbrev pub HasOption : List (Given O) → Type 0
    HasOption [] = ⊥
    HasOption (one ∷ given) = IsOf one ⊎ HasOption given

    -- this is the option with this value
    abbrev pub HasValue : Given O → List ℕ → Type 0
    HasValue (Operand word) value = ⊥
    HasValue (Flag other) value = ⊥
    HasValue (Valued other given) value = (other ≡ option) × (given.now ≡ value)

    -- no value is given here for the option
    abbrev pub LacksValueOf : Given O → Type 0
    LacksValueOf one = (value : List ℕ) → ¬ (HasValue one value)

    -- the values of the option, in order
    abbrev pub AreValues : List (Given O) → List (List ℕ) → Type 0
    AreValues [] values = values ≡ []
    AreValues (one ∷ given) values =
        ((value : List ℕ) × (more : List (List ℕ)) × (HasValue one value × (AreValues given more × (values ≡ value ∷ more))))
        ⊎ (LacksValueOf one × AreValues given values)

    -- its value is appended, if it is the option with one
    abbrev pub AddsValue : Given O → List (List ℕ) → List (List ℕ) → Type 0
    AddsValue one old new =
        ((value : List ℕ) × (HasValue one value × (new ≡ old ++ value ∷ [])))
        ⊎ (LacksValueOf one × (new ≡ old))

    -- the last value of the option, or else the one before
    abbrev pub LastValue : List (Given O) → Option (List ℕ) → Option (List ℕ) → Type 0
    LastValue [] before last = last ≡ before
    LastValue (one ∷ given) before last =
        ((value : List ℕ) × (HasValue one value × LastValue given (Some value) last))
        ⊎ (LacksValueOf one × LastValue given before last)
