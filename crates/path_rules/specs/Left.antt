-- The remaining items of an iterator over a path's components (std's `Components` and its `as_path`).
use Rattle.std.specs.Prelude.{◌≡◌, ℕ, suc, List, [], ◌∷◌, ◌++◌, length, Option, Some, None}
use Rattle.std.specs.Iterator.{YieldsFirstBy, YieldsLastBy}
use Rattle.path_rules.specs.declared.rules.Rules.{Rules}
use Rattle.path_rules.specs.declared.rules.Style as whose
use Rattle.path_rules.specs.Component.{Item, Prefix, RootDir, components_in, EndsNamed}
use Rattle.path_rules.specs.Components.{AreComponents}
use Rattle.path_rules.specs.Prefix.{IsPrefixed, IsRawPrefix}
use Rattle.path_rules.specs.Body.{HasBody, HasBodyAfter, EndsTight, BeginsNamed}
use Rattle.path_rules.specs.Cut.{IsAsciiCut}

-- the path, the style whose rules it follows, the number of components taken from its front, and the remaining ones
pub record Left : Type 0 where
  pub style : whose.Style
  pub path : List ℕ
  pub taken : ℕ
  pub items : List Item

-- the same path, with `count` components taken from its front now
pub record GoesOn (old new : Left) (count : ℕ) : Type 0 where
  pub style : new.style ≡ old.style
  pub path : new.path ≡ old.path
  pub taken : new.taken ≡ count

module _ {A : Type 0} where
  -- one more, if something was given
  abbrev pub one_more : Option A → ℕ → ℕ
  one_more None n = n
  one_more (Some x) n = suc n

module _ {A : Type 0} (view : A → Item) where
  -- a call gives the first component that is left
  abbrev pub GivesFirst : Left → Option A → Left → Type 0
  GivesFirst old given new = YieldsFirstBy view (λ l. l.items) old given new × GoesOn old new (one_more given old.taken)

  -- or the last
  abbrev pub GivesLast : Left → Option A → Left → Type 0
  GivesLast old given new = YieldsLastBy view (λ l. l.items) old given new × GoesOn old new old.taken

-- part is where these components are. It is one of five: nothing; a path up to the end of a component or of a root; a prefix alone; what follows the prefix and begins with the root. The fifth is in the body: it begins and ends with a component, and the components behind come after it
pub data HasLeft (w : whose.Style) (path before part after : List ℕ) (front items behind : List Item) : Type 0 where
  nothing : items ≡ [] → part ≡ [] → HasLeft w path before part after front items behind
  from_start : before ≡ [] → front ≡ [] → AreComponents w part items → EndsTight w part → HasBodyAfter w path part after → HasLeft w path before part after front items behind
  prefix_alone : before ≡ [] → front ≡ [] → IsPrefixed w path → IsRawPrefix w path part → items ≡ Prefix part ∷ [] → HasLeft w path before part after front items behind
  after_prefix : front ≡ Prefix before ∷ [] → IsPrefixed w path → IsRawPrefix w path before → AreComponents w (before ++ part) (Prefix before ∷ items) → EndsTight w (before ++ part) → HasBodyAfter w path (before ++ part) after → (others : List Item) → items ≡ RootDir ∷ others → HasLeft w path before part after front items behind
  in_body : (r : Rules) (body skipped : List ℕ) → HasBody w path r body → body ≡ (skipped ++ part) ++ after → components_in r part ≡ items → components_in r after ≡ behind → BeginsNamed r part → EndsNamed r part → HasLeft w path before part after front items behind

-- the part of the path's bytes where the remaining components are, after `taken` others
pub record IsLeft (w : whose.Style) (path : List ℕ) (taken : ℕ) (items : List Item) (part : List ℕ) : Type 0 where
  pub front : List Item
  pub behind : List Item
  pub whole : AreComponents w path (front ++ (items ++ behind))
  pub count : length front ≡ taken
  pub before : List ℕ
  pub after : List ℕ
  pub joined : path ≡ (before ++ part) ++ after
  pub begins : IsAsciiCut before part
  pub ends : IsAsciiCut (before ++ part) after
  pub has : HasLeft w path before part after front items behind
