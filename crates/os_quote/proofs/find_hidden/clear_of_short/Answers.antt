use Rattle.wtf8_core.proofs.lemmas.vectors.Windows.{from_start, zeros}
use Rattle.os_quote.proofs.{Common.arith, lemmas.Suspects.in_copy}
use Rattle.os_quote.proofs.find_hidden.clear_of_short.Goals as goal

pub put_in_zeros-requires-clause-zeros : goal.put_in_zeros-requires-clause-zeros
put_in_zeros-requires-clause-zeros c = zeros 66

pub returns-clause-clear : goal.returns-clause-clear
returns-clause-clear c =
    let rest = c.split_at.result.1.now in
    in_copy c.args.bytes.now rest _ c.args.from c.min.result c.split_at.ensures.back (from_start _ rest c.put_in_zeros.ensures.copied) (λ i lt. c.clear_len.ensures.clear i (omega (arith, lt, c.min.ensures)))
