use Rattle.os_quote.proofs.Common.{bytes, sym}
use Rattle.os_quote.specs.declared.form.Form.TheVariants.{Line}
use Rattle.os_quote.proofs.lemmas.Endings.{unspaced, without_ending}
use Rattle.os_quote.proofs.write_walk.before_space.Goals as goal

pub returns-in-None : goal.returns-in-None
returns-in-None g c =
    let s = bytes c.args.string in
    let none = unspaced s (λ before e. c.in-None.ensures.bytes (record { rest = before; joined = e })) in
    sym (without_ending Line s none).0
