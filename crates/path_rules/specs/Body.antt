-- What follows a path's prefix and its start, and where its last component ends.
use Rattle.std.specs.Prelude.{◌≡◌, ◌≢◌, ◌⊎◌, ℕ, List, [], ◌++◌, None}
use Rattle.path_rules.specs.declared.rules.Rules.{Rules}
use Rattle.path_rules.specs.declared.rules.Rules.TheVariants as rules
use Rattle.path_rules.specs.declared.rules.Style as whose
use Rattle.path_rules.specs.declared.rules.Style.TheVariants as style
use Rattle.path_rules.specs.Separators.{IsField}
use Rattle.path_rules.specs.Component.{Item, named, EndsNamed}
use Rattle.path_rules.specs.Prefix.{Kind, IsPrefixOf, rules_of}
use Rattle.path_rules.specs.Components.{AreComponents, start_of, after_start, after_root}
use Rattle.path_rules.specs.Cut.{IsAsciiCut}

-- in a path without a prefix the body follows a root or a `.` at the start
pub record HasBareBody (q : Rules) (s : List ℕ) (r : Rules) (body : List ℕ) : Type 0 where
  pub rules : r ≡ q
  pub is : body ≡ after_start (start_of q s) s

-- in a path with a prefix it follows that and the root
pub record HasPrefixedBody (s : List ℕ) (r : Rules) (body : List ℕ) : Type 0 where
  pub kind : Kind
  pub rest : List ℕ
  pub prefix : IsPrefixOf s kind rest
  pub rules : r ≡ rules_of kind
  pub is : body ≡ after_root rest

-- the body of a path, and what separates in it
abbrev pub HasBody : whose.Style → List ℕ → Rules → List ℕ → Type 0
HasBody style.Unix s r body = HasBareBody rules.Slash s r body
HasBody style.Windows s r body = HasPrefixedBody s r body ⊎ (((kind : Kind) (rest : List ℕ) → ¬ (IsPrefixOf s kind rest)) × HasBareBody rules.Either s r body)

-- the path's body is empty, or ends where its last component ends
pub record EndsTight (w : whose.Style) (s : List ℕ) : Type 0 where
  pub rules : Rules
  pub body : List ℕ
  pub has : HasBody w s rules body
  pub named : EndsNamed rules body

-- the path's body is the front's and what comes after it, so that the front has the separator of its root: that of `\\server\share\a` before `a` is `\\server\share\`
pub record HasBodyAfter (style : whose.Style) (path front after : List ℕ) : Type 0 where
  pub rules : Rules
  pub body : List ℕ
  pub left : List ℕ
  pub has : HasBody style path rules body
  pub has_left : HasBody style front rules left
  pub joined : body ≡ left ++ after

-- the first part of s names a component, unless s is empty
abbrev pub BeginsNamed : Rules → List ℕ → Type 0
BeginsNamed r s = (part rest : List ℕ) → s ≢ [] → IsField r s part rest → named r part ≢ None

-- t is the path up to the end of its last component, or of its root
pub record IsEndTrimmed (w : whose.Style) (path t : List ℕ) : Type 0 where
  pub after : List ℕ
  pub joined : path ≡ t ++ after
  pub cut : IsAsciiCut t after
  pub items : List Item
  pub are : AreComponents w t items
  pub whole : AreComponents w path items
  pub tight : EndsTight w t
  pub within : HasBodyAfter w path t after
