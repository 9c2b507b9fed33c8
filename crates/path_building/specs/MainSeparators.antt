-- Which bytes separate in a path that is written anew.
use Rattle.std.specs.Prelude.{◌≡◌, ℕ, true, List}
use Rattle.std.specs.List.{AllByRecursion}
use Rattle.path_rules.specs.declared.rules.Rules.{Rules}
use Rattle.path_rules.specs.declared.rules.Rules.TheVariants as rules
use Rattle.path_rules.specs.declared.rules.Style as whose
use Rattle.path_rules.specs.declared.rules.Style.TheVariants as style
use Rattle.path_rules.specs.Separators.{separates}
use Rattle.path_rules.specs.Prefix.{Kind, IsPrefixOf, IsPrefixed, rules_of}

-- each byte of s that separates is c
abbrev pub SeparatesBy : Rules → ℕ → List ℕ → Type 0
SeparatesBy r c s = AllByRecursion (λ b. separates r b ≡ true → b ≡ c) s

-- after the path's prefix, or in all of it where it has none, each byte that separates is the main separator
abbrev pub HasMainSeparators : whose.Style → List ℕ → Type 0
HasMainSeparators style.Unix path = SeparatesBy rules.Slash 0x2F path
HasMainSeparators style.Windows path =
    ((kind : Kind) (rest : List ℕ) → IsPrefixOf path kind rest → SeparatesBy (rules_of kind) 0x5C rest)
    × (¬ (IsPrefixed style.Windows path) → SeparatesBy rules.Either 0x5C path)
