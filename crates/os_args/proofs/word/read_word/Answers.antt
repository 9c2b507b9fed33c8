use Rattle.std.proofs.Common.{◌≡◌, ◌≢◌, IsTrue, true, false, [], sym, ◌∙◌}
use Rattle.platform_str.specs.Strings.{bytes}
use Rattle.os_args.specs.Kinds.{kind_of}
use Rattle.os_args.specs.Word.{StartsAsNegative}
use Rattle.os_args.proofs.lemmas.Readings.{is_short}
use Rattle.os_args.proofs.word.read_word.Goals as goal
use Rattle.os_args.proofs.word.read_word.Goals.{else-numbers-via-then-numbers+else-starts_as_negative, else-numbers-via-else-numbers}

pub returns : goal.returns
returns g c =
    let s = bytes c.args.word in
    let flags = bytes c.in-Some-strip_prefix.flags in
    let some : flags ≢ [] = λ e. let never : false ≡ true = sym c.if-is_empty.false ∙ c.is_empty.ensures.1 e in cc in
    let numeral : IsTrue c.args.numbers → ¬ (StartsAsNegative s) = elim c.else-numbers.branch [
      | else-numbers-via-then-numbers+else-starts_as_negative w ↦ λ t h. let never : false ≡ true = sym w.if-starts_as_negative.false ∙ w.starts_as_negative.ensures.1 h in cc
      | else-numbers-via-else-numbers w ↦ λ t h. let never : false ≡ true = sym w.if-numbers.false ∙ t in cc
    ] in
    is_short c.args.numbers s flags (kind_of c.read_flag.result.0) (bytes c.read_flag.result.1) c.in_default.ensures.bytes c.in-Some-strip_prefix.ensures.bytes some numeral c.read_flag.ensures
