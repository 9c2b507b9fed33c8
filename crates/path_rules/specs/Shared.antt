-- What two bodies begin with alike, for views and private contracts.
use Rattle.std.specs.Prelude.{◌≡◌, ◌<◌, ℕ, List, [], ◌++◌, slice_index}
use Rattle.path_rules.specs.declared.head.Head.{Head}
use Rattle.path_rules.specs.declared.rules.Rules.{Rules}
use Rattle.path_rules.specs.Component.{Item, components_in}

-- the first n bytes are alike in both, one by one
abbrev pub AreAlikeBelow : List ℕ → List ℕ → ℕ → Type 0
AreAlikeBelow a b n = (i : ℕ) → i < n → slice_index a i ≡ slice_index b i

-- both begin with the same components, and x and y have what is left
pub record SharesItems (r : Rules) (a b x y : List ℕ) : Type 0 where
  pub items : List Item
  pub first : components_in r a ≡ items ++ components_in r x
  pub second : components_in r b ≡ items ++ components_in r y

-- neither has a prefix, and both have the same rules and start
pub record StartAlike (a b : Head) : Type 0 where
  pub first : a.prefix.now ≡ []
  pub second : b.prefix.now ≡ []
  pub rules : b.rules ≡ a.rules
  pub start : b.start ≡ a.start
