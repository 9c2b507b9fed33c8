use Rattle.wtf8_core.proofs.Common.{common_steps, rules, ◌+◌, arith, get_or, get_or-drop, ap, ◌∙◌}
use Rattle.wtf8_core.proofs.lemmas.vectors.Windows.{more, more_from_start, zeros, zeros_before}
use Rattle.wtf8_core.specs.declared.vectors.Encoding.TheVariants.{Utf8}
use Rattle.wtf8_core.proofs.vectors.scan.len_of_few.Goals as goal

pub put_in_zeros-requires-clause-zeros : goal.put_in_zeros-requires-clause-zeros
put_in_zeros-requires-clause-zeros c = zeros 36

pub returns-then-bytes-lt-STEP : goal.returns-then-bytes-lt-STEP
returns-then-bytes-lt-STEP c = search (rules, common_steps, more_from_start, zeros_before)

pub returns : goal.returns
returns c =
    let bytes = c.args.bytes.now in
    let put = c.put_in_zeros.ensures in
    let same = zeros_before _ bytes put.before put.copied in
    let first = more_from_start Utf8 bytes _ 16 (λ i _. same i) (λ i h. c.allowed_in_step-kept.ensures.pattern i (omega (arith, h, c.if-kept-lt-STEP.false))) in
    more Utf8 bytes 16 _ c.allowed_in_step.result (λ i h. ap (λ x. get_or x i 0) c.split_at.ensures.back ∙ get_or-drop 16 _ i 0 ∙ same (16 + i)) 16 (omega arith) (omega arith) c.allowed_in_step.ensures.pattern first
