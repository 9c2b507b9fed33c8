use Rattle.os_str_ext.proofs.Common.{◌∙◌, subst, sym, StartsWithNoCharacter, HasNoCharacter}
use Rattle.wtf8_core.proofs.lemmas.chunks.PartUnits.{uncovered_rest}
use Rattle.os_str_ext.proofs.os_units.NonUnicodeOsStr.split_first.Goals as goal

pub first_unit-number-requires-clause-uncovered : goal.first_unit-number-requires-clause-uncovered
first_unit-number-requires-clause-uncovered g c = subst StartsWithNoCharacter (sym c.as_encoded_bytes-bytes.ensures.value) (c.args.self.uncovered 0)

pub new-requires : goal.new-requires
new-requires g c =
    let uncovered = subst HasNoCharacter (sym c.as_encoded_bytes-bytes.ensures.value) c.args.self.uncovered in
    subst HasNoCharacter (sym (c.from_encoded_bytes_unchecked-rest.ensures ∙ c.split_at.ensures.back)) (uncovered_rest c.as_encoded_bytes-bytes.result.now c.first_unit-number.result.1 uncovered)
