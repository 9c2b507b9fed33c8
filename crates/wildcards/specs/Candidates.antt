-- The places that a path is matched with: only private contracts name this.
use Rattle.std.specs.Prelude.{◌≡◌, ◌-◌, ◌≤◌, ◌⊎◌, ℕ, Bool, List, [], ◌∷◌, ◌++◌, map, length, take, drop, if◌then◌else◌, true, Option, Some, None, MatchOption}
use denote.Ref.{Bor}
use Rattle.wildcards.specs.declared.candidates.Query.{Query}
use Rattle.wildcards.specs.declared.candidates.Stage.{Stage}
use Rattle.wildcards.specs.declared.candidates.Stage.TheVariants as stage
use Rattle.wildcards.specs.declared.filter.Filter.{Filter}
use Rattle.wildcards.specs.declared.filter.Place.{Place}
use Rattle.wildcards.specs.declared.separators.Separators.{Separators}
use Rattle.wildcards.specs.Components.{components}
use Rattle.wildcards.specs.Extensions.{LacksExtension, IsExtension}
use Rattle.wildcards.specs.Filters.{AsksName}
use Rattle.wildcards.specs.Keys.{EndsIn, first_letters, key_separators}
use Rattle.wildcards.specs.Sets.{Has}
use Rattle.wildcards.specs.Tables.{bucket, slot_of}

-- one of the lists has the element
abbrev pub OneHas : {X : Type 0} → List (List X) → X → Type 0
OneHas [] i = ⊥
OneHas (xs ∷ lists) i = Has xs i ⊎ OneHas lists i

-- the keys, after one more key if the flag is set
abbrev pub with_key : Bool → List ℕ → List (List ℕ) → List (List ℕ)
with_key asked key keys = if asked then key ∷ keys else keys

module _ {A : Type 0} where
  -- the query is of this filter and path
  pub record IsQuery (q : Query A) (filter : Filter A) (s : Separators) (path : List ℕ) : Type 0 where
    pub filter_is : q.filter.now ≡ filter
    pub separators_are : q.separators ≡ key_separators s
    pub path_is : q.path.now ≡ path
    pub name_is : AsksName filter → EndsIn (components s path) q.name.now
    pub extension_is : MatchOption q.extension (filter.extensions ≡ true → LacksExtension (components s path)) (λ text. IsExtension (components s path) text.now)

  module _ (q : Query A) where
    -- the end of the last component, of these sizes
    abbrev pub end_keys : List ℕ → List (List ℕ)
    end_keys [] = []
    end_keys (n ∷ ns) = drop (length q.name.now - n) q.name.now ∷ end_keys ns

    -- the extension, and others
    abbrev pub after_extension : Option (Bor (List ℕ)) → List (List ℕ) → List (List ℕ)
    after_extension None keys = keys
    after_extension (Some extension) keys = extension.now ∷ keys

    -- the extension, and the end of each size
    abbrev pub extension_keys : List (List ℕ)
    extension_keys = after_extension q.extension (end_keys q.filter.now.ends.items)

    -- the start of the last component, of these sizes, and those
    abbrev pub name_keys : List ℕ → List (List ℕ)
    name_keys [] = extension_keys
    name_keys (n ∷ ns) = first_letters n q.name.now ∷ name_keys ns

    -- the starts of these components of the first size, of all components of the other sizes, and those of the last
    abbrev pub component_keys : List ℕ → List ℕ → List (List ℕ)
    component_keys [] rest = name_keys q.filter.now.names.items
    component_keys (n ∷ ns) rest = map (first_letters n) (components q.separators rest) ++ component_keys ns q.path.now

    abbrev pub path_keys : List (List ℕ)
    path_keys = with_key q.filter.now.paths q.path.now (component_keys q.filter.now.components.items q.path.now)

    -- all that are left at a stage
    abbrev pub left_keys : Stage → List (List ℕ)
    left_keys stage.Path = path_keys
    left_keys (stage.Component sizes rest) = component_keys sizes.now rest.now
    left_keys (stage.Name sizes) = name_keys sizes.now
    left_keys (stage.End sizes) = end_keys sizes.now

    -- the first of the keys, and the stage at which the others are left; None where there is none
    abbrev pub IsNextKey : List (List ℕ) → Option (Bor (List ℕ) × Stage) → Type 0
    IsNextKey keys result = MatchOption result (keys ≡ []) (λ next. keys ≡ next.0.now ∷ left_keys next.1)

    -- the index of a key's bucket
    abbrev pub slot_in : List ℕ → ℕ
    slot_in key = slot_of q.filter.now.folds (length q.filter.now.buckets.items) key

    -- what is in the bucket of each key
    abbrev pub key_lists : List (List ℕ) → List (List Place)
    key_lists [] = []
    key_lists (key ∷ keys) = bucket q.filter.now.folds q.filter.now.buckets.items key ∷ key_lists keys

    -- and the choices that need no key
    abbrev pub lists_of : List (List ℕ) → List (List Place)
    lists_of keys = q.filter.now.others.items ∷ key_lists keys

    -- so of all keys
    abbrev pub all_lists : List (List Place)
    all_lists = lists_of path_keys

    -- one of the first keys, as many as this, has the bucket of this index
    abbrev pub HasEarlier : ℕ → ℕ → Type 0
    HasEarlier count slot = (key : List ℕ) × (Has (take count path_keys) key × (slot_in key ≡ slot))

    -- what the key's bucket has, or nothing, if it is that of one of the first keys
    abbrev pub IsHandedOut : ℕ → List ℕ → List Place → Type 0
    IsHandedOut count key places = (places ≡ bucket q.filter.now.folds q.filter.now.buckets.items key) ⊎ ((places ≡ []) × HasEarlier count (slot_in key))

    -- the first of the keys with its places, and the stage at which the others are left; None where there is none
    abbrev pub IsNext : ℕ → List (List ℕ) → Option (Bor (List Place) × Stage) → Type 0
    IsNext count keys result = MatchOption result (keys ≡ []) (λ next. (key : List ℕ) × ((keys ≡ key ∷ left_keys next.1) × IsHandedOut count key next.0.now))

    -- these keys were looked up, and the others are left at the stage
    pub record AreBefore (stage : Stage) (count : ℕ) (keys : List (List ℕ)) : Type 0 where
      pub joined : path_keys ≡ keys ++ left_keys stage
      pub counted : count ≤ length keys
