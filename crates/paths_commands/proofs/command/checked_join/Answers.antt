use Rattle.std.proofs.Common.{◌≡◌, inl, inr, subst}
use Rattle.path_building.specs.Faults.{IsBaseFault}
use Rattle.paths_commands.specs.Styles.{style_of}
use Rattle.paths_commands.proofs.command.checked_join.Goals as goal

pub returns-in-Err-clause-misuse : goal.returns-in-Err-clause-misuse
returns-in-Err-clause-misuse c =
    let error = c.in-Err.error in
    let word = c.args.operand.now in
    let raw : c.as_bytes.result.now ≡ word = Prim.search Rattle.std.proofs.Common.rules in
    let fault = subst (λ s. IsBaseFault (style_of c.args.os) s error) raw (subst (λ w. IsBaseFault w c.as_bytes.result.now error) c.style_of.ensures c.in-Err.ensures.err) in
    inr (inr (inl (error, (c.base_word.ensures, (c.requires.checked, (c.args.os, (c.requires.operands, fault)))))))
