-- Slashes of Windows paths.
use Rattle.std.specs.Prelude.{◌≡◌, ◌≢◌, ℕ, List}
use Rattle.std.specs.List.{AllByRecursion}
use Rattle.path_rules.specs.declared.rules.Rules.TheVariants as rules
use Rattle.path_rules.specs.declared.rules.Style.TheVariants as style
use Rattle.path_rules.specs.Prefix.{Kind, IsPrefixOf, IsPrefixed, rules_of}

-- no byte is `/`
abbrev pub LacksSlash : List ℕ → Type 0
LacksSlash s = AllByRecursion (λ b. b ≢ 0x2F) s

-- no byte after the path's prefix is `/`, unless the prefix begins with `\\?\`, and none where it has no prefix
abbrev pub HasNoSlash : List ℕ → Type 0
HasNoSlash path =
    ((kind : Kind) (rest : List ℕ) → IsPrefixOf path kind rest → rules_of kind ≡ rules.Either → LacksSlash rest)
    × (¬ (IsPrefixed style.Windows path) → LacksSlash path)
