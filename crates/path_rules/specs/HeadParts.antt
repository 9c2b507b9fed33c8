-- The parts that a path is taken apart into. Step words: no public contract names them.
use Rattle.std.specs.Prelude.{◌≡◌, ℕ, List, [], ◌∷◌, ◌++◌, Some}
use Rattle.path_rules.specs.declared.rules.Rules.{Rules}
use Rattle.path_rules.specs.declared.rules.Rules.TheVariants as rule
use Rattle.path_rules.specs.declared.rules.Style.{Style}
use Rattle.path_rules.specs.declared.rules.Style.TheVariants as style
use Rattle.path_rules.specs.declared.head.Head.{Head}
use Rattle.path_rules.specs.Separators.{IsUpTo}
use Rattle.path_rules.specs.Component.{Item, named, components_in}
use Rattle.path_rules.specs.Components.{IsStartOf, root_of, after_root}
use Rattle.path_rules.specs.Prefix.{Kind, IsPrefixOf, rules_of}

-- the parts of a Unix path
pub record IsUnixHead (path : List ℕ) (head : Head) : Type 0 where
  pub rules : head.rules ≡ rule.Slash
  pub prefix : head.prefix.now ≡ []
  pub start : IsStartOf rule.Slash path head.start head.body.now

-- the parts of a Windows path that has no prefix
pub record IsBareHead (path : List ℕ) (head : Head) : Type 0 where
  pub none : (kind : Kind) (rest : List ℕ) → ¬ (IsPrefixOf path kind rest)
  pub rules : head.rules ≡ rule.Either
  pub prefix : head.prefix.now ≡ []
  pub start : IsStartOf rule.Either path head.start head.body.now

-- the parts of one that has a prefix
pub record IsPrefixedHead (path : List ℕ) (head : Head) : Type 0 where
  pub kind : Kind
  pub rest : List ℕ
  pub is : IsPrefixOf path kind rest
  pub joined : path ≡ head.prefix.now ++ rest
  pub rules : head.rules ≡ rules_of kind
  pub start : head.start ≡ root_of kind rest
  pub body : head.body.now ≡ after_root rest

pub data IsWindowsHead (path : List ℕ) (head : Head) : Type 0 where
  bare_head : IsBareHead path head → IsWindowsHead path head
  prefixed_head : IsPrefixedHead path head → IsWindowsHead path head

-- the parts of a path
abbrev pub IsHead : Style → List ℕ → Head → Type 0
IsHead style.Unix path head = IsUnixHead path head
IsHead style.Windows path head = IsWindowsHead path head

-- a part at the start of the body that has its components, and in which the last part names the last of them
pub record IsLastPart (r : Rules) (body left part : List ℕ) : Type 0 where
  pub up_to : IsUpTo r body left
  pub same : components_in r body ≡ components_in r left
  pub front : List ℕ
  pub joined : left ≡ front ++ part
  pub first : List Item
  pub item : Item
  pub names : named r part ≡ Some item
  pub items : components_in r left ≡ first ++ item ∷ []
