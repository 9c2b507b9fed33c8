-- Symbols in an array, one after the other.
use Rattle.std.proofs.Common.{◌≡◌, ℕ, zero, suc, Bool, true, false, ◌↔◌, List, [], ◌∷◌, ◌++◌, length, drop, refl, sym, subst}
use Rattle.os_str_ext.specs.Symbols.{AreSymbols}
use Rattle.os_str_ext.specs.declared.symbols.Symbol.{Symbol}
use Rattle.os_str_ext.proofs.lemmas.SymbolBytes.{symbols_once}
use Rattle.osbytes_c.specs.declared.walks.symbols_fill.SymbolView.{SymbolView}
use Rattle.osbytes_c.specs.Faults.{IsString, IsUnstring}
use Rattle.osbytes_c.specs.Fills.{GiveInOrder, IsLeft}
use Rattle.osbytes_c.specs.Platforms.{units_on}
use Rattle.osbytes_c.specs.Steps.{Reports}
use Rattle.osbytes_c.proofs.lemmas.Walks.{symbol_walk}
use Rattle.osbytes_c.specs.SymbolFills.{AreReported, IsSymbolStep, ShowsSymbol}

-- what is left of a string after some symbols is one
pub strings_left : (platform : ℕ) (s : List ℕ) (address at : ℕ) (items : List SymbolView) (rest : ℕ)
    → GiveInOrder (IsSymbolStep platform s) (ShowsSymbol address) (λ step. step.end) (λ step. false) at items false rest → IsString platform (drop at s) → IsString platform (drop rest s)
strings_left platform s address at [] rest g w = subst (λ i. IsString platform (drop i s)) (sym g.1) w
strings_left platform s address at (item ∷ items) rest g w =
    let step = g.0 in strings_left platform s address step.end items rest g.1.1.1 (g.1.0.symbol w).formed

-- so where what is left is none, nothing was
pub unstring_before : (platform : ℕ) (s : List ℕ) (address at : ℕ) (items : List SymbolView) (rest : ℕ)
    → GiveInOrder (IsSymbolStep platform s) (ShowsSymbol address) (λ step. step.end) (λ step. false) at items false rest → IsUnstring platform (drop rest s) → IsUnstring platform (drop at s)
unstring_before zero s address at items rest g u = u
unstring_before (suc zero) s address at items rest g u = λ w. u (strings_left 1 s address at items rest g w)
unstring_before (suc (suc zero)) s address at items rest g u = λ w. u (strings_left 2 s address at items rest g w)
unstring_before (suc (suc (suc n))) s address at items rest g u = u

-- the symbols in an array, and those that are left
pub symbols_filled : (platform : ℕ) (s : List ℕ) (address at : ℕ) (items : List SymbolView) (rest : ℕ)
    → GiveInOrder (IsSymbolStep platform s) (ShowsSymbol address) (λ step. step.end) (λ step. false) at items false rest → IsString platform (drop at s)
    → (left : List Symbol) → AreSymbols (units_on platform) (drop rest s) left
    → (first : List Symbol) × (AreReported first items × AreSymbols (units_on platform) (drop at s) (first ++ left))
symbols_filled platform s address at [] rest g w left are = ([], (tt, subst (λ i. AreSymbols (units_on platform) (drop i s) left) g.1 are))
symbols_filled platform s address at (item ∷ items) rest g w left are =
    let step = g.0 in
    let is = g.1.0.symbol w in
    let shows = g.1.1.0 in
    let later = symbols_filled platform s address step.end items rest g.1.1.1 is.formed left are in
    let same = symbols_once (units_on platform) (drop step.end s) is.after (later.0 ++ left) is.rest later.1.1 in (
      is.first ∷ later.0,
      (
        (subst (λ k. Reports is.first k item.value) (sym shows.kind) (subst (λ v. Reports is.first step.kind v) (sym shows.value) is.is), later.1.0),
        subst (λ xs. AreSymbols (units_on platform) (drop at s) (is.first ∷ xs)) same is.all,
      ),
    )

-- no symbols are left at the end
pub symbols_left : (platform : ℕ) (s : List ℕ) (ended : Bool) (rest : ℕ) (left : List Symbol) → ((ended ≡ true) ↔ (rest ≡ length s))
    → IsLeft ended left (AreSymbols (units_on platform) (drop rest s) left) → AreSymbols (units_on platform) (drop rest s) left
symbols_left platform s true rest left end are = subst (AreSymbols (units_on platform) (drop rest s)) (sym are) (symbol_walk platform s rest [] (end.0 refl))
symbols_left platform s false rest left end are = are
