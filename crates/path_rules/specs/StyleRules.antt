-- The separators of a style, and of a path.
use Rattle.std.specs.Prelude.{ℕ, List, if◌then◌else◌}
use Rattle.path_rules.specs.declared.rules.Rules.{Rules}
use Rattle.path_rules.specs.declared.rules.Rules.TheVariants.{Slash, Either, Verbatim}
use Rattle.path_rules.specs.declared.rules.Style.{Style}
use Rattle.path_rules.specs.declared.rules.Style.TheVariants.{Unix, Windows}
use Rattle.path_rules.specs.Prefix.{begins_verbatim}

-- what separates in a path without a prefix
abbrev pub rules_of_style : Style → Rules
rules_of_style Unix = Slash
rules_of_style Windows = Either

-- what separates in a path: after `\\?\` a `\` alone
abbrev pub rules_of_path : Style → List ℕ → Rules
rules_of_path Unix path = Slash
rules_of_path Windows path = if begins_verbatim path then Verbatim else Either

-- the separator that is written
abbrev pub main_separator : Style → ℕ
main_separator Unix = 0x2F
main_separator Windows = 0x5C
