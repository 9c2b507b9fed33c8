use Rattle.std.proofs.Common.{◌≡◌, ◌⊎◌, ◌∙◌, sym, subst, IfOk, IfErr}
use Rattle.osbytes_commands.specs.declared.fault.Fault.TheVariants.{Memory}
use Rattle.program_frame.specs.Strings.{strings}
use Rattle.osbytes_commands.specs.Output.{IsOutputOn, IsRejectionOn}
use Rattle.osbytes_commands.proofs.answer.answer.Goals as goal

pub returns-in-Unix-clause-output : goal.returns-in-Unix-clause-output
returns-in-Unix-clause-output g c =
    subst (λ os. IfOk c.answer_on.result (λ output. IsOutputOn (strings os) c.args.command c.args.input.now output.items)) (sym c.in-Unix.is ∙ c.os.ensures) c.answer_on.ensures.output

pub returns-in-Unix-clause-fault : goal.returns-in-Unix-clause-fault
returns-in-Unix-clause-fault g c =
    subst (λ os. IfErr c.answer_on.result (λ fault. (fault ≡ Memory) ⊎ IsRejectionOn (strings os) c.args.command c.args.input.now fault)) (sym c.in-Unix.is ∙ c.os.ensures) c.answer_on.ensures.fault

pub returns-in-Windows-clause-output : goal.returns-in-Windows-clause-output
returns-in-Windows-clause-output g c =
    subst (λ os. IfOk c.answer_on-in-Windows.result (λ output. IsOutputOn (strings os) c.args.command c.args.input.now output.items)) (sym c.in-Windows.is ∙ c.os.ensures) c.answer_on-in-Windows.ensures.output

pub returns-in-Windows-clause-fault : goal.returns-in-Windows-clause-fault
returns-in-Windows-clause-fault g c =
    subst (λ os. IfErr c.answer_on-in-Windows.result (λ fault. (fault ≡ Memory) ⊎ IsRejectionOn (strings os) c.args.command c.args.input.now fault)) (sym c.in-Windows.is ∙ c.os.ensures) c.answer_on-in-Windows.ensures.fault

pub returns-in-Wasm-clause-output : goal.returns-in-Wasm-clause-output
returns-in-Wasm-clause-output g c =
    subst (λ os. IfOk c.answer_on-in-Wasm.result (λ output. IsOutputOn (strings os) c.args.command c.args.input.now output.items)) (sym c.in-Wasm.is ∙ c.os.ensures) c.answer_on-in-Wasm.ensures.output

pub returns-in-Wasm-clause-fault : goal.returns-in-Wasm-clause-fault
returns-in-Wasm-clause-fault g c =
    subst (λ os. IfErr c.answer_on-in-Wasm.result (λ fault. (fault ≡ Memory) ⊎ IsRejectionOn (strings os) c.args.command c.args.input.now fault)) (sym c.in-Wasm.is ∙ c.os.ensures) c.answer_on-in-Wasm.ensures.fault
