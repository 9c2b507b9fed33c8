-- Which letters a class permits.
use Rattle.std.specs.Prelude.{◌≡◌, ℕ, Bool}
use Rattle.wildcards.specs.declared.class.Class.{Class}
use Rattle.wildcards.specs.declared.piece.Item.{Item}
use Rattle.wildcards.specs.declared.piece.Item.TheVariants.{Any, Literal, EitherCase, OneOf}
use Rattle.wildcards.specs.Ranges.{permits}

module _ {A : Type 0} where
  -- the class permits the letter
  abbrev pub permitted : Class A → ℕ → Bool
  permitted class letter = permits class.table.value.negated class.table.value.ranges.items letter

  -- the classes permit the same letters
  abbrev pub AreAlike : Class A → Class A → Type 0
  AreAlike c d = (letter : ℕ) → permitted d letter ≡ permitted c letter

  -- an item of the same letters
  abbrev pub IsItemClone : Item A → Item A → Type 0
  IsItemClone Any item = item ≡ Any
  IsItemClone (Literal letter) item = item ≡ Literal letter
  IsItemClone (EitherCase small) item = item ≡ EitherCase small
  IsItemClone (OneOf class) item = (clone : Class A) × (item ≡ OneOf clone) × AreAlike class clone
