use Rattle.std.proofs.Common.{rules, ◌≡◌, ◌+◌, sym, subst, arith}
use Rattle.wtf8_core.specs.Character.{WholeCharacter}
use Rattle.glob_patterns.specs.Letters.{letters_of}
use Rattle.wildcards.specs.Reading.{IsFirstLetter}
use Rattle.os_str_ext.proofs.lemmas.UnitAtStart.{symbols_from_unit}
use Rattle.glob_patterns.proofs.lemmas.UnitLetters.{character_first, unit_first}
use Rattle.glob_patterns.proofs.letters.StringLettersLetters.split_first.Goals as goal

pub returns-in_default : goal.returns-in_default
returns-in_default g c =
    let s = c.args.bytes.now in
    let formed = g.E.Platform.well_formed in
    let units = g.E.Platform.units in
    let laws = g.met.E.Platform.laws in
    let symbols = symbols_from_unit g.met.E.Platform.occurrence laws.cut_prefix c.requires.formed c.in_default.ensures c.first_unit-unit.ensures in
    subst (λ unit. IsFirstLetter formed (letters_of units) s (0x11_0000 + unit) c.split_at.result.1.now) (sym c.from.ensures)
    (unit_first formed units g.met.E.Platform.occurrence laws.cut_suffix s _ _ _ c.requires.some symbols c.first_unit-unit.ensures c.split_at.ensures.back)

pub returns : goal.returns
returns g c =
    let s = c.args.bytes.now in
    let formed = g.E.Platform.well_formed in
    let units = g.E.Platform.units in
    subst (λ letter. IsFirstLetter formed (letters_of units) s letter c.split_at-2.result.1.now) (sym c.from-2.ensures)
    (character_first formed units g.met.E.Platform.occurrence g.met.E.Platform.laws.cut_suffix s _ c.in-Some.size _ c.requires.formed (subst (WholeCharacter s 0) (let q : 0 + c.in-Some.size ≡ c.in-Some.size = omega arith in q) c.in-Some.ensures.0) (search rules) c.in-Some.ensures.1 c.split_at-2.ensures.back)
