-- The symbols that an array is filled with, each with its bytes.
use Rattle.std.specs.Prelude.{◌≡◌, ◌≤◌, ◌<◌, ◌↔◌, ℕ, Bool, true, false, List, [], ◌∷◌, length, drop}
use Rattle.os_str_ext.specs.Symbols.{AreSymbols}
use Rattle.os_str_ext.specs.declared.symbols.Symbol.{Symbol}
use Rattle.osbytes_c.specs.declared.walks.symbols.Step.{Step}
use Rattle.osbytes_c.specs.declared.walks.symbols_fill.SymbolView.{SymbolView}
use Rattle.osbytes_c.specs.Faults.{IsString}
use Rattle.osbytes_c.specs.Fills.{GiveInOrder, IsView}
use Rattle.osbytes_c.specs.Platforms.{units_on}
use Rattle.osbytes_c.specs.Steps.{IsSymbolAt, Reports, StartsWithNoSymbol, StartsWithSymbol, step_after}

-- after index `at` s begins with this symbol; if what comes there is a string of the platform, it is the first of its symbols
pub record IsSymbolStep (platform : ℕ) (s : List ℕ) (at : ℕ) (step : Step) : Type 0 where
  pub symbol : IsString platform (drop at s) → IsSymbolAt platform s at step
  pub first : StartsWithSymbol platform (drop at s) (step_after at step)
  pub some : at < step.end
  pub within : step.end ≤ length s

-- the symbol from an index on, of a string that begins at this address
pub record ShowsSymbol (address at : ℕ) (step : Step) (view : SymbolView) : Type 0 where
  pub kind : view.kind ≡ step.kind
  pub value : view.value ≡ step.value
  pub bytes : IsView address at step.end view.bytes

-- from index `at` on s has these symbols, and then those from index `rest` on, unless that is its end
abbrev pub SymbolViews : ℕ → List ℕ → ℕ → ℕ → List SymbolView → Bool → ℕ → Type 0
SymbolViews platform s address at items ended rest =
    GiveInOrder (IsSymbolStep platform s) (ShowsSymbol address) (λ step. step.end) (λ step. false) at items false rest
    × ((ended ≡ true) ↔ (rest ≡ length s))

-- from index `at` on s has fewer symbols than there is room for, before an index at which no symbol begins
pub record IsStuck (platform : ℕ) (s : List ℕ) (address at room : ℕ) : Type 0 where
  pub items : List SymbolView
  pub next : ℕ
  pub are : GiveInOrder (IsSymbolStep platform s) (ShowsSymbol address) (λ step. step.end) (λ step. false) at items false next
  pub fewer : length items < room
  pub within : next < length s
  pub none : StartsWithNoSymbol platform (drop next s)

-- each of these symbols is reported
abbrev pub AreReported : List Symbol → List SymbolView → Type 0
AreReported [] [] = Unit {0}
AreReported [] (view ∷ views) = ⊥
AreReported (symbol ∷ symbols) [] = ⊥
AreReported (symbol ∷ symbols) (view ∷ views) = Reports symbol view.kind view.value × AreReported symbols views

-- these are the symbols of the string of the platform, as they are reported
abbrev pub AreSymbolsOf : ℕ → List ℕ → List SymbolView → Type 0
AreSymbolsOf platform s views = IsString platform s → (symbols : List Symbol) × (AreReported symbols views × AreSymbols (units_on platform) s symbols)
