use Rattle.std.proofs.Common.{◌≤◌, length, sym, subst, arith}
use Rattle.std.proofs.lemmas.List.{length-take-le}
use Rattle.wtf8_core.specs.{Covered.StartsWithNoCharacter, UnitsOf.units_of, Wtf8.IsWtf8}
use Rattle.platform_str.specs.Laws.{IsFirstUnit}
use Rattle.platform_str.specs.platforms.Windows.{windows_laws}
use Rattle.platform_str.proofs.lemmas.FirstUnits.{first_is_unit}
use Rattle.osbytes_c.specs.Steps.{IsSurrogatePrefix}
use Rattle.osbytes_c.proofs.lemmas.Symbols.{prefix_uncovered, prefix_within, prefix_formed, prefix_units}
use Rattle.osbytes_c.proofs.walks.symbols.first_surrogate.Goals as goal

pub returns-then-bytes-lt3-clause-unit : goal.returns-then-bytes-lt3-clause-unit
returns-then-bytes-lt3-clause-unit c = λ w. let le = prefix_within c.args.bytes.now c.requires.some c.requires.uncovered w in omega (arith, le, c.if-bytes-lt3.true)

pub returns-in_default-clause-unit : goal.returns-in_default-clause-unit
returns-in_default-clause-unit c = λ w.
    windows_laws.faulty _ _ c.in_default.ensures (subst IsWtf8 (sym c.split_at.ensures.front) (prefix_formed c.args.bytes.now c.requires.some c.requires.uncovered w))

pub returns-in_default-clause-none : goal.returns-in_default-clause-none
returns-in_default-clause-none c = λ unit prefix. windows_laws.faulty _ _ c.in_default.ensures (subst IsWtf8 (sym c.split_at.ensures.front) prefix.formed)

pub first_unit-unit-requires-clause-uncovered : goal.first_unit-unit-requires-clause-uncovered
first_unit-unit-requires-clause-uncovered c = subst StartsWithNoCharacter (sym c.split_at.ensures.front) (prefix_uncovered c.args.bytes.now c.requires.uncovered)

pub returns-clause-unit : goal.returns-clause-unit
returns-clause-unit c =
    let s = c.args.bytes.now in
    let front = c.split_at.ensures.front in
    let le : 3 ≤ length s = c.if-bytes-lt3.false in
    let formed = subst IsWtf8 front c.in-Ok.ensures in
    let some = length-take-le 3 s le in
    let units = (subst (λ b. IsFirstUnit IsWtf8 units_of b c.first_unit-unit.result.0 c.first_unit-unit.result.1) front c.first_unit-unit.ensures).units_are in
    let first = first_is_unit formed (omega (arith, some)) (prefix_uncovered s c.requires.uncovered) units in
    subst (IsSurrogatePrefix s) (sym c.from.ensures) (record { within = le; formed = formed; units_are = prefix_units s c.first_unit-unit.result.0 le first })
