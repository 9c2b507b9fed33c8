use Rattle.os_str_ext.proofs.Common.{◌∙◌, ◌∷◌, ap, subst, sym, StartsWithNoCharacter, bytes, no_units, symbols_of, unit_symbol}
use Rattle.std.proofs.Common.{rules}
use Rattle.os_str_ext.proofs.lemmas.{SymbolSteps.no_symbols, SymbolSteps.symbols_by_character, UnitAtStart.symbols_from_unit}
use Rattle.os_str_ext.proofs.symbols.split_first_symbol.Goals as goal

pub returns-in-Some : goal.returns-in-Some
returns-in-Some g c =
    let units = g.E.Platform.units in
    symbols_by_character (bytes c.args.string) (bytes c.in-Some.rest) c.in-Some.character (search rules) c.in-Some.ensures.bytes units (no_units g.E.Platform.well_formed units g.met.E.Platform.occurrence)

pub returns-then-is_empty : goal.returns-then-is_empty
returns-then-is_empty g c = no_symbols g.E.Platform.units _ (c.is_empty.ensures.0 c.if-is_empty.true)

pub first_unit-number-requires-clause-uncovered : goal.first_unit-number-requires-clause-uncovered
first_unit-number-requires-clause-uncovered g c = subst StartsWithNoCharacter (sym c.as_encoded_bytes-bytes.ensures.value) c.in_default.ensures.bytes

pub returns : goal.returns
returns g c =
    let units = g.E.Platform.units in
    let value = c.as_encoded_bytes-bytes.ensures.value in
    let uncovered = subst StartsWithNoCharacter (sym value) c.in_default.ensures.bytes in
    ap (symbols_of units) (sym value)
    ∙ symbols_from_unit g.met.E.Platform.occurrence g.met.E.Platform.laws.cut_prefix c.as_encoded_bytes-bytes.ensures.formed uncovered c.first_unit-number.ensures
    ∙ ap (λ r. unit_symbol c.first_unit-number.result.0 ∷ symbols_of units r) (sym (c.from_encoded_bytes_unchecked-rest.ensures ∙ c.split_at.ensures.back))
