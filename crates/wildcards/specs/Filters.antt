-- Which patterns a path may match, by the keys that they need: only private contracts name this.
use Rattle.std.specs.Prelude.{◌≡◌, ◌⊎◌, ◌+◌, ◌<◌, true, ℕ, List, [], ◌∷◌, length}
use Rattle.std.specs.List.{HoldsAt}
use Rattle.wildcards.specs.declared.options.Options.{Options}
use Rattle.wildcards.specs.declared.filter.Filter.{Filter}
use Rattle.wildcards.specs.declared.filter.Place.{Place}
use Rattle.wildcards.specs.declared.key.Kind.{Kind}
use Rattle.wildcards.specs.declared.key.Kind.TheVariants as kind
use Rattle.wildcards.specs.declared.part.Part.{Part}
use Rattle.wildcards.specs.declared.pattern.Choice.{Choice}
use Rattle.wildcards.specs.declared.piece.Piece.{Piece}
use Rattle.wildcards.specs.declared.set.Pattern.{Pattern}
use Rattle.wildcards.specs.Match.{Matches}
use Rattle.wildcards.specs.Sets.{Has, IsHit}
use Rattle.wildcards.specs.Small.{IsNeededBy}
use Rattle.wildcards.specs.Tables.{bucket}

module _ {A : Type 0} where
  -- keys of this kind and size are looked up
  abbrev pub Asks : Filter A → Kind → ℕ → Type 0
  Asks f kind.Path n = f.paths ≡ true
  Asks f kind.Component n = Has f.components.items n
  Asks f kind.Name n = Has f.names.items n
  Asks f kind.Extension n = f.extensions ≡ true
  Asks f kind.End n = Has f.ends.items n

  -- the start of the last component is looked up, or its end
  abbrev pub AsksName : Filter A → Type 0
  AsksName f = ((n : ℕ) × Has f.names.items n) ⊎ ((n : ℕ) × Has f.ends.items n)

  -- the place is in the bucket of a key that the pieces need
  pub record IsListed (o : Options) (f : Filter A) (i : Place) (pieces : List (Piece (Part A))) : Type 0 where
    pub kind : Kind
    pub size : ℕ
    pub key : List ℕ
    pub needed : IsNeededBy f.folds o pieces kind size key
    pub asked : Asks f kind size
    pub listed : Has (bucket f.folds f.buckets.items key) i

  -- the place is found wherever the pieces match
  abbrev pub IsCovered : Options → Filter A → Place → List (Piece (Part A)) → Type 0
  IsCovered o f i pieces = Has f.others.items i ⊎ IsListed o f i pieces

  -- what is found is found later
  pub record Grows (f g : Filter A) : Type 0 where
    pub others : (i : Place) → Has f.others.items i → Has g.others.items i
    pub same : f.folds ≡ g.folds
    pub listed : (key : List ℕ) (i : Place) → Has (bucket f.folds f.buckets.items key) i → Has (bucket g.folds g.buckets.items key) i
    pub asked : (k : Kind) (n : ℕ) → Asks f k n → Asks g k n

  -- so for each choice of a pattern, from one of this index on
  abbrev pub AreCovered : Options → Filter A → ℕ → ℕ → List (Choice A) → Type 0
  AreCovered o f i j [] = Unit {0}
  AreCovered o f i j (c ∷ cs) = IsCovered o f (record { pattern = i; choice = j }) c.pieces.items × AreCovered o f i (j + 1) cs

  -- so for each pattern below n
  abbrev pub CoversBelow : Options → Filter A → List (Pattern A) → ℕ → Type 0
  CoversBelow o f patterns n = (i : ℕ) → i < n → HoldsAt (λ p. AreCovered o f i 0 p.choices.items) patterns i

  -- each pattern is so: its negation is refuted
  abbrev pub CoversAll : Options → Filter A → List (Pattern A) → Type 0
  CoversAll o f patterns = (i : ℕ) → i < length patterns → HoldsAt (λ p. (AreCovered o f i 0 p.choices.items → ⊥) → ⊥) patterns i

  -- the choice at the place matches the letters of a path
  abbrev pub IsHitAt : Options → List (Pattern A) → List ℕ → Place → Type 0
  IsHitAt o patterns path place = (place.pattern < length patterns) × HoldsAt (λ p. (place.choice < length p.choices.items) × HoldsAt (λ c. Matches o c.pieces.items path) p.choices.items place.choice) patterns place.pattern

  -- the list has what it had, and patterns that match: those of each place whose choice does
  pub record AddsHits (o : Options) (patterns : List (Pattern A)) (path : List ℕ) (places : List Place) (before after : List ℕ) : Type 0 where
    pub sound : (i : ℕ) → Has after i → Has before i ⊎ IsHit o patterns path i
    pub kept : (i : ℕ) → Has before i → Has after i
    pub complete : (place : Place) → Has places place → IsHitAt o patterns path place → Has after place.pattern
