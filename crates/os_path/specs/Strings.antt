-- The kind of a prefix component (std's `PrefixComponent::kind`).
use Rattle.path_rules.specs.declared.rules.Style.{Style}
use Rattle.path_rules.specs.Component.{Item, Prefix, RootDir, CurDir, ParentDir, Normal}
use Rattle.path_rules.specs.Prefix.{Kind}
use Rattle.os_path.specs.Prefixes.{HasPrefix, HasNoPrefix}

-- the component is a prefix of this kind
abbrev pub IsPrefixKind : Style → Item → Kind → Type 0
IsPrefixKind w (Prefix s) kind = HasPrefix w s kind
IsPrefixKind w RootDir kind = ⊥
IsPrefixKind w CurDir kind = ⊥
IsPrefixKind w ParentDir kind = ⊥
IsPrefixKind w (Normal s) kind = ⊥

-- the component is no prefix, or its bytes are none
abbrev pub HasNoPrefixKind : Style → Item → Type 0
HasNoPrefixKind w (Prefix s) = HasNoPrefix w s
HasNoPrefixKind w RootDir = Unit {0}
HasNoPrefixKind w CurDir = Unit {0}
HasNoPrefixKind w ParentDir = Unit {0}
HasNoPrefixKind w (Normal s) = Unit {0}
