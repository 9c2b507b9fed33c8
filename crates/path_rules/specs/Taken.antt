-- What is left of a path's parts after its first components. Step words: no public contract names them.
use Rattle.std.specs.Prelude.{◌≡◌, ◌≢◌, ◌↔◌, ℕ, List, [], ◌∷◌, ◌++◌}
use Rattle.path_rules.specs.declared.head.Start.TheVariants.{Nothing}
use Rattle.path_rules.specs.declared.head.Head.{Head}
use Rattle.path_rules.specs.Component.{Item, Prefix}
use Rattle.path_rules.specs.Heads.{items_of}
use Rattle.path_rules.specs.Compare.{StartsAlike, AreAllAlike}
use Rattle.path_rules.specs.Cut.{IsAsciiCut}

-- t is the end of s, after a cut
pub record IsTail (s t : List ℕ) : Type 0 where
  pub before : List ℕ
  pub joined : s ≡ before ++ t
  pub cut : IsAsciiCut before t

-- the first component is taken: the prefix, or what comes after it
pub data Takes (h : Head) (x : Item) (g : Head) : Type 0 where
  takes_prefix : h.prefix.now ≢ [] → x ≡ Prefix h.prefix.now → g.prefix.now ≡ [] → g.start ≡ h.start → g.rules ≡ h.rules → g.body.now ≡ h.body.now → Takes h x g
  takes_later : g.prefix.now ≡ [] → g.start ≡ Nothing → g.rules ≡ h.rules → IsTail h.body.now g.body.now → Takes h x g

-- these components are taken: none, the prefix, or more
pub data HaveTaken (h : Head) (taken : List Item) (g : Head) : Type 0 where
  taken_none : taken ≡ [] → g.prefix.now ≡ h.prefix.now → g.start ≡ h.start → g.rules ≡ h.rules → g.body.now ≡ h.body.now → HaveTaken h taken g
  taken_prefix : h.prefix.now ≢ [] → taken ≡ Prefix h.prefix.now ∷ [] → g.prefix.now ≡ [] → g.start ≡ h.start → g.rules ≡ h.rules → g.body.now ≡ h.body.now → HaveTaken h taken g
  taken_more : g.prefix.now ≡ [] → g.start ≡ Nothing → g.rules ≡ h.rules → IsTail h.body.now g.body.now → HaveTaken h taken g

-- components alike the wanted ones were taken
pub record AreTaken (h : Head) (wanted : List Item) (g : Head) : Type 0 where
  pub taken : List Item
  pub items : items_of h ≡ taken ++ items_of g
  pub alike : AreAllAlike taken wanted
  pub have : HaveTaken h taken g

-- so far
pub record AreTakenSoFar (h : Head) (base : List Item) (g : Head) (wanted : List Item) : Type 0 where
  pub seen : List Item
  pub joined : base ≡ seen ++ wanted
  pub so_far : AreTaken h seen g
  pub same : StartsAlike (items_of h) base ↔ StartsAlike (items_of g) wanted
