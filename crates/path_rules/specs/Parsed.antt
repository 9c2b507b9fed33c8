-- A path whose prefix was found once: what its parts are, and what tests of a path ask of them.
use Rattle.std.specs.Prelude.{◌≡◌, ℕ, List, Option, Some, None}
use denote.Ref.{Bor}
use Rattle.path_rules.specs.declared.rules.Style.{Style}
use Rattle.path_rules.specs.declared.rules.Style.TheVariants as style
use Rattle.path_rules.specs.declared.prefix.Prefix as held
use Rattle.path_rules.specs.declared.rules.Rules.{Rules}
use Rattle.path_rules.specs.declared.rules.Rules.TheVariants as rule
use Rattle.path_rules.specs.Root.{BeginsWithSeparator, HasRootAfter}
use Rattle.path_rules.specs.declared.head.Start.{Start}
use Rattle.path_rules.specs.StyleRules.{rules_of_style}
use Rattle.path_rules.specs.Prefix.{Kind, IsPrefixOf, rules_of}
use Rattle.path_rules.specs.Components.{IsStartOf, root_of, after_root}
use Rattle.path_rules.specs.PrefixViews.{kind_of}

abbrev pub kind_found : Option (held.Prefix (Bor (List ℕ))) → Option Kind
kind_found None = None
kind_found (Some prefix) = Some (kind_of prefix)

-- the path begins with a prefix of this kind before the rest, or with none
abbrev pub IsFound : Style → List ℕ → Option Kind → List ℕ → Type 0
IsFound style.Unix path None rest = rest ≡ path
IsFound style.Unix path (Some kind) rest = ⊥
IsFound style.Windows path None rest = ((kind : Kind) (more : List ℕ) → ¬ (IsPrefixOf path kind more)) × (rest ≡ path)
IsFound style.Windows path (Some kind) rest = IsPrefixOf path kind rest

-- what was found is so
abbrev pub FoundWith : (Kind → List ℕ → Type 0) → Option Kind → List ℕ → Type 0
FoundWith P None rest = ⊥
FoundWith P (Some kind) rest = P kind rest

abbrev pub FoundOr : (List ℕ → Type 0) → (Kind → List ℕ → Type 0) → Option Kind → List ℕ → Type 0
FoundOr Q P None rest = Q rest
FoundOr Q P (Some kind) rest = P kind rest

abbrev pub KindFound : (Kind → Type 0) → Option Kind → Type 0
KindFound P None = ⊥
KindFound P (Some kind) = P kind

abbrev pub SomeFound : Option Kind → Type 0
SomeFound None = ⊥
SomeFound (Some kind) = Unit {0}

-- a root after the prefix, or at the start of the path
abbrev pub RootFound : Style → Option Kind → List ℕ → Type 0
RootFound w None rest = BeginsWithSeparator (rules_of_style w) rest
RootFound w (Some kind) rest = HasRootAfter kind rest

-- a root after the prefix; without one there is none on Windows
abbrev pub AbsoluteFound : Style → Option Kind → List ℕ → Type 0
AbsoluteFound style.Unix found rest = BeginsWithSeparator rule.Slash rest
AbsoluteFound style.Windows None rest = ⊥
AbsoluteFound style.Windows (Some kind) rest = HasRootAfter kind rest

-- what separates in the path
abbrev pub rules_found : Style → Option Kind → Rules
rules_found w None = rules_of_style w
rules_found w (Some kind) = rules_of kind

-- with what the path starts after its prefix, and the body
abbrev pub IsStartFound : Style → Option Kind → List ℕ → Start → List ℕ → Type 0
IsStartFound w None rest start body = IsStartOf (rules_of_style w) rest start body
IsStartFound w (Some kind) rest start body = (start ≡ root_of kind rest) × (body ≡ after_root rest)

-- only `\` separates after it
abbrev pub IsVerbatimKind : Kind → Type 0
IsVerbatimKind kind = rules_of kind ≡ rule.Verbatim
