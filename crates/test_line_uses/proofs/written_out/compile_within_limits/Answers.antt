use Rattle.std.proofs.lemmas.Result.{IfOk-weaker}
use Rattle.test_line_uses.proofs.WrittenOut.{within_limits}
use Rattle.test_line_uses.proofs.written_out.compile_within_limits.Goals as goal

pub returns : goal.returns
returns g c =
    IfOk-weaker c.compile.result _ _ (λ read h. within_limits g.L.Letters.formed g.L.Letters.letters c.args.syntax c.args.text.now read h) c.compile.ensures
