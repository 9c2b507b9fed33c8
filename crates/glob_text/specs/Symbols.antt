-- The letters of a pattern's text, with their byte indices.
use Rattle.std.specs.Prelude.{◌≡◌, ◌+◌, ℕ, Bool, false, nat_eq, List, [], ◌∷◌, length}
use Rattle.wildcards.specs.Reading.{IsFirstLetter}
use Rattle.glob_text.specs.declared.symbol.Symbol.{Symbol}
use Rattle.wildcards.specs.Items.{Reads}

module _ (formed : List ℕ → Type 0) (letters : List ℕ → List ℕ) (text : List ℕ) where
  -- what is left of the text begins with the symbol: its letter, and its byte index in the text
  pub record IsSymbol (left : List ℕ) (symbol : Symbol) (rest : List ℕ) : Type 0 where
    pub letter : IsFirstLetter formed letters left symbol.letter rest
    pub index : symbol.index + length left ≡ length text

  -- the symbols of the text
  abbrev pub AreSymbols : List Symbol → Type 0
  AreSymbols symbols = Reads IsSymbol text symbols []

-- the text begins with this letter
abbrev pub begins_with : ℕ → List Symbol → Bool
begins_with letter [] = false
begins_with letter (x ∷ xs) = nat_eq x.letter letter
