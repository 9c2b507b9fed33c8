-- The parts of a path that an iterator has left. Step words: no public contract names them.
use Rattle.std.specs.Prelude.{◌≡◌, ◌≢◌, ◌⊎◌, ◌≤◌, ◌+◌, ℕ, Bool, true, false, List, [], ◌∷◌, ◌++◌, length}
use Rattle.path_rules.specs.declared.rules.Rules.{Rules}
use Rattle.path_rules.specs.declared.rules.Style as whose
use Rattle.path_rules.specs.declared.head.Start.TheVariants.{Nothing}
use Rattle.path_rules.specs.declared.head.Head.{Head}
use Rattle.path_rules.specs.Separators.{Edge, IsUpTo}
use Rattle.path_rules.specs.Component.{Item, Prefix, components_in}
use Rattle.path_rules.specs.Heads.{items_of}
use Rattle.path_rules.specs.HeadParts.{IsHead}
use Rattle.path_rules.specs.Cut.{IsAsciiCut}

-- t is inside s, between two cuts
pub record IsInside (s t : List ℕ) : Type 0 where
  pub before : List ℕ
  pub after : List ℕ
  pub joined : s ≡ (before ++ t) ++ after
  pub begins : IsAsciiCut before t
  pub ends : IsAsciiCut (before ++ t) after

-- t is inside the body, and what comes after it has the components behind; it begins with a separator, unless t is empty
pub record IsInBody (r : Rules) (body t : List ℕ) (behind : List Item) : Type 0 where
  pub at : IsInside body t
  pub items : components_in r at.after ≡ behind
  pub edge : Edge r at.after ⊎ (t ≡ [])

-- the body without its last components, which are those behind
pub record IsBodyLeft (r : Rules) (body left : List ℕ) (behind : List Item) : Type 0 where
  pub ends : (left ≡ []) ⊎ IsUpTo r body left
  pub items : components_in r body ≡ components_in r left ++ behind

-- what is left before and in the body: all that is before it; the start; a prefix alone; nothing; or a part of the body, once it is begun
pub data ArePartsLeft (h left : Head) (begun : Bool) (front behind : List Item) : Type 0 where
  all_before : begun ≡ false → front ≡ [] → left.prefix.now ≡ h.prefix.now → left.start ≡ h.start → IsBodyLeft h.rules h.body.now left.body.now behind → ArePartsLeft h left begun front behind
  start_before : begun ≡ false → front ≡ Prefix h.prefix.now ∷ [] → h.prefix.now ≢ [] → left.prefix.now ≡ [] → left.start ≡ h.start → h.start ≢ Nothing → IsBodyLeft h.rules h.body.now left.body.now behind → ArePartsLeft h left begun front behind
  prefix_left : begun ≡ false → front ≡ [] → h.prefix.now ≢ [] → left.prefix.now ≡ h.prefix.now → left.start ≡ Nothing → left.body.now ≡ [] → ArePartsLeft h left begun front behind
  none_left : left.prefix.now ≡ [] → left.start ≡ Nothing → left.body.now ≡ [] → ArePartsLeft h left begun front behind
  body_alone : begun ≡ true → left.prefix.now ≡ [] → left.start ≡ Nothing → IsInBody h.rules h.body.now left.body.now behind → ArePartsLeft h left begun front behind

-- left of these parts, after `count` components
pub record AreLeftIn (h left : Head) (begun : Bool) (count : ℕ) : Type 0 where
  pub rules : left.rules ≡ h.rules
  pub front : List Item
  pub behind : List Item
  pub taken : length front ≡ count
  pub whole : items_of h ≡ front ++ (items_of left ++ behind)
  pub parts : ArePartsLeft h left begun front behind

-- left of the path's parts
pub record AreLeftOf (w : whose.Style) (path : List ℕ) (left : Head) (begun : Bool) (count : ℕ) : Type 0 where
  pub in_each : (h : Head) → IsHead w path h → AreLeftIn h left begun count
  pub fits : count + length (items_of left) ≤ length path + 2
