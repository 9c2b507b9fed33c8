use Rattle.std.proofs.Common.{inr, refl, subst, sym}
use Rattle.wtf8_core.specs.Covered.{StartsWithNoCharacter}
use Rattle.osbytes_c.specs.Faults.{IsString}
use Rattle.osbytes_c.specs.Steps.{IsFirstOf, StartsWithNoSymbol, StartsWithSymbol}
use Rattle.osbytes_c.proofs.lemmas.Symbols.{byte_first, surrogate_first, unstring_of_wasm, no_symbol_of_wasm}
use Rattle.osbytes_c.proofs.walks.symbols.first_symbol.Goals as goal

pub first_surrogate-requires-clause-uncovered : goal.first_surrogate-requires-clause-uncovered
first_surrogate-requires-clause-uncovered c = subst StartsWithNoCharacter c.unix.ensures c.in_default.ensures.bytes

pub returns-then-platform-eq0-clause-first : goal.returns-then-platform-eq0-clause-first
returns-then-platform-eq0-clause-first c = λ w.
    let s = c.args.bytes.now in
    let uncovered = subst StartsWithNoCharacter c.unix.ensures c.in_default.ensures.bytes in
    subst (λ p. IsFirstOf p s (record { kind = 2; value = c.from.result; end = 1 })) (sym c.if-platform-eq0.true) (byte_first s _ c.requires.some uncovered (refl, c.from.ensures) refl)

pub returns-then-platform-eq1-clause-first : goal.returns-then-platform-eq1-clause-first
returns-then-platform-eq1-clause-first c = λ w.
    let s = c.args.bytes.now in
    let uncovered = subst StartsWithNoCharacter c.unix.ensures c.in_default.ensures.bytes in
    let e = c.if-platform-eq1.true in
    subst (λ p. IsFirstOf p s (record { kind = 2; value = c.in-Some-first_surrogate.unit; end = 3 })) (sym e) (surrogate_first s c.in-Some-first_surrogate.unit _ c.requires.some uncovered c.in-Some-first_surrogate.ensures.unit (refl, refl) refl (subst (λ p. IsString p s) e w))

pub returns-clause-first : goal.returns-clause-first
returns-clause-first c =
    let s = c.args.bytes.now in
    unstring_of_wasm c.args.platform s c.if-platform-eq0.false c.if-platform-eq1.false c.requires.known c.requires.some (subst StartsWithNoCharacter c.unix.ensures c.in_default.ensures.bytes)

pub returns-then-platform-eq0-clause-starts : goal.returns-then-platform-eq0-clause-starts
returns-then-platform-eq0-clause-starts c =
    let s = c.args.bytes.now in
    let uncovered = subst StartsWithNoCharacter c.unix.ensures c.in_default.ensures.bytes in
    subst (λ p. StartsWithSymbol p s (record { kind = 2; value = c.from.result; end = 1 })) (sym c.if-platform-eq0.true) (inr (refl, (uncovered, (c.from.ensures, refl))))

pub returns-then-platform-eq1-clause-starts : goal.returns-then-platform-eq1-clause-starts
returns-then-platform-eq1-clause-starts c =
    let s = c.args.bytes.now in
    let uncovered = subst StartsWithNoCharacter c.unix.ensures c.in_default.ensures.bytes in
    subst (λ p. StartsWithSymbol p s (record { kind = 2; value = c.in-Some-first_surrogate.unit; end = 3 })) (sym c.if-platform-eq1.true) (inr (refl, (uncovered, (c.in-Some-first_surrogate.ensures.unit, refl))))

pub returns-in_default-first_surrogate-clause-none : goal.returns-in_default-first_surrogate-clause-none
returns-in_default-first_surrogate-clause-none c =
    let s = c.args.bytes.now in
    let uncovered = subst StartsWithNoCharacter c.unix.ensures c.in_default.ensures.bytes in
    subst (λ p. StartsWithNoSymbol p s) (sym c.if-platform-eq1.true) (uncovered, c.in_default-first_surrogate.ensures.none)

pub returns-clause-none : goal.returns-clause-none
returns-clause-none c =
    let s = c.args.bytes.now in
    no_symbol_of_wasm c.args.platform s c.if-platform-eq0.false c.if-platform-eq1.false c.requires.known (subst StartsWithNoCharacter c.unix.ensures c.in_default.ensures.bytes)

pub returns-in-Some-clause-none : goal.returns-in-Some-clause-none
returns-in-Some-clause-none c = c.character_step.ensures.some c.args.platform
