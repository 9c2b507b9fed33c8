-- Which paths of a list a pattern of another list matches.
use Rattle.std.specs.Prelude.{◌≡◌, ◌⊎◌, ◌<◌, ◌/◌, ◌%◌, nat_eq, ℕ, zero, suc, List, [], ◌∷◌}
use Rattle.std.specs.List.{AllByRecursion}
use Rattle.std.specs.declared.alloc.Global.{Global}
use Rattle.wildcards.specs.Sets.{IsHit}
use Rattle.wildcards.specs.declared.options.Options.{Options}
use Rattle.wildcards.specs.declared.set.Pattern.{Pattern}
use Rattle.wildcards.specs.declared.separators.Separators.{Separators}
use Rattle.wildcards.specs.declared.separators.Separators.TheVariants as separators
use Rattle.glob_text.specs.declared.fault.FaultKind.{FaultKind}
use Rattle.glob_text.specs.declared.fault.FaultKind.TheVariants.{UnclosedClass, ReversedRange, UnknownClassName, DanglingEscape, UnclosedAlternatives, UnopenedAlternatives, TooManyChoices}
use Rattle.glob_text.specs.declared.fault.PatternFault.{PatternFault}
use Rattle.glob_patterns.specs.GlobSets.{AreMeanings, IsFirstFault}
use Rattle.glob_patterns.specs.Letters.{letters_of}
use Rattle.glob_patterns.specs.Options.{options_of, syntax_of}
use Rattle.glob_patterns.specs.declared.options.GlobOptions.{GlobOptions}
use Rattle.osbytes_c.specs.declared.globs.GlobFault.{GlobFault}
use Rattle.osbytes_c.specs.declared.globs.Rejection.{Rejection}
use Rattle.osbytes_c.specs.declared.globs.Rejection.TheVariants.{Memory, Faulty, Fault}
use Rattle.osbytes_c.specs.ItemLists.{Views, AreItems, HasOther}

-- the separators with this number: 0 none, 1 `/`, 3 `/` and `\`
abbrev pub separators_on : ℕ → Separators
separators_on zero = separators.None
separators_on (suc zero) = separators.Slash
separators_on (suc (suc n)) = separators.SlashAndBackslash

-- the options with this number: that of the separators, 4 for a literal leading dot, 8 for a `\` that quotes, 16 for one that does so in a class, 32 for letters without case
abbrev pub glob_options : ℕ → GlobOptions
glob_options n = record {
  separators = separators_on (n % 4);
  literal_leading_dot = nat_eq (n / 4 % 2) 1;
  escapes = nat_eq (n / 8 % 2) 1;
  class_escapes = nat_eq (n / 16 % 2) 1;
  case_insensitive = nat_eq (n / 32 % 2) 1;
}

-- there are no such options
abbrev pub AreNoOptions : ℕ → Type 0
AreNoOptions n = (63 < n) ⊎ (n % 4 ≡ 2)

-- the number of what is wrong with a pattern
abbrev pub fault_number : FaultKind → ℕ
fault_number UnclosedClass = 1
fault_number ReversedRange = 2
fault_number UnknownClassName = 3
fault_number DanglingEscape = 4
fault_number UnclosedAlternatives = 5
fault_number UnopenedAlternatives = 6
fault_number TooManyChoices = 7

-- the byte that records whether something holds: 1 it does, 0 it doesn't
abbrev pub IsReported : Type 0 → ℕ → Type 0
IsReported Is answer = (Is × (answer ≡ 1)) ⊎ ((¬ Is) × (answer ≡ 0))

-- the same of each item
abbrev pub AreEachReported : (List ℕ → Type 0) → List (List ℕ) → List ℕ → Type 0
AreEachReported Is [] [] = Unit {0}
AreEachReported Is [] (answer ∷ answers) = ⊥
AreEachReported Is (item ∷ items) [] = ⊥
AreEachReported Is (item ∷ items) (answer ∷ answers) = IsReported (Is item) answer × AreEachReported Is items answers

-- a path is matched by one of the compiled patterns
abbrev pub IsMatched : (List ℕ → List ℕ) → Options → List (Pattern Global) → List ℕ → Type 0
IsMatched units matching compiled path = (i : ℕ) × IsHit matching compiled (letters_of units path) i

-- each path of the list is a string, and its byte records whether one of the compiled patterns matches it
pub record AreNamesReported (formed : List ℕ → Type 0) (units : List ℕ → List ℕ) (matching : Options) (compiled : List (Pattern Global)) (paths : Views) (answers : List ℕ) : Type 0 where
  pub names : List (List ℕ)
  pub are_names : AreItems paths names
  pub strings : AllByRecursion formed names
  pub reported : AreEachReported (IsMatched units matching compiled) names answers

module _ (formed : List ℕ → Type 0) (units : List ℕ → List ℕ) (o : GlobOptions) (patterns : Views) where
  -- the patterns of the list, each a string, compiled with these options
  pub record AreCompiled (matching : Options) (compiled : List (Pattern Global)) : Type 0 where
    pub texts : List (List ℕ)
    pub are_texts : AreItems patterns texts
    pub strings : AllByRecursion formed texts
    pub options : matching ≡ options_of o
    pub meanings : AreMeanings formed (letters_of units) (syntax_of o) Global texts compiled

  -- each path of the list is a string, and its byte records whether one of the patterns of the other list matches it
  pub record AreMatchesReported (paths : Views) (answers : List ℕ) : Type 0 where
    pub matching : Options
    pub compiled : List (Pattern Global)
    pub are_compiled : AreCompiled matching compiled
    pub are_reported : AreNamesReported formed units matching compiled paths answers

  -- the first pattern of the list, each a string, that has a fault, by its number, and its first fault
  pub record IsGlobFault (fault : GlobFault) : Type 0 where
    pub texts : List (List ℕ)
    pub are_texts : AreItems patterns texts
    pub strings : AllByRecursion formed texts
    pub first : PatternFault
    pub is : IsFirstFault formed (letters_of units) (syntax_of o) Global texts fault.which first
    pub kind : fault.kind ≡ fault_number first.kind
    pub index : fault.index ≡ first.index

  -- the patterns of the list can be compiled
  abbrev pub CanBeCompiled : Type 0
  CanBeCompiled = (matching : Options) × ((compiled : List (Pattern Global)) × AreCompiled matching compiled)

  -- a pattern isn't a string; or the patterns can be compiled, and a path isn't a string
  abbrev pub HasUnstring : Views → Type 0
  HasUnstring paths = HasOther formed patterns ⊎ (CanBeCompiled × HasOther formed paths)

  -- why nothing is reported: an allocation failed, an item isn't a string, or a pattern has a fault
  abbrev pub IsRejection : Views → Rejection → Type 0
  IsRejection paths Memory = Unit {0}
  IsRejection paths Faulty = HasUnstring paths
  IsRejection paths (Fault fault) = IsGlobFault fault

  -- why the patterns aren't compiled: an allocation failed, a pattern isn't a string, or one has a fault
  abbrev pub IsNoSet : Rejection → Type 0
  IsNoSet Memory = Unit {0}
  IsNoSet Faulty = HasOther formed patterns
  IsNoSet (Fault fault) = IsGlobFault fault

-- why a list isn't read: an allocation failed, or an item isn't a string
abbrev pub IsListRejection : (List ℕ → Type 0) → Views → Rejection → Type 0
IsListRejection formed list Memory = Unit {0}
IsListRejection formed list Faulty = HasOther formed list
IsListRejection formed list (Fault fault) = ⊥
