use Rattle.platform_str.proofs.Common.{arith, refl, sym, subst}
use Rattle.platform_str.proofs.lemmas.LossyLoops.{uncovered_at, some_at, formed_at, first_part, first_text}
use Rattle.platform_str.specs.Lossy.{IsFaultPart}
use Rattle.platform_str.proofs.lossy.after_fault.Goals as goal

pub replaced_len-requires-clause-uncovered : goal.replaced_len-requires-clause-uncovered
replaced_len-requires-clause-uncovered g c = uncovered_at c.split_at.ensures.back c.requires.fault.valid

pub split_at-requires-2 : goal.split_at-requires-2
split_at-requires-2 g c = (first_part g.met.E.Platform.laws c.split_at.ensures.back c.requires.fault.valid c.requires.formed c.replaced_len.ensures).within

pub returns : goal.returns
returns g c = first_text g.met.E.Platform.laws refl c.split_at.ensures.back c.split_at-2.ensures.back c.requires.fault.valid c.requires.formed c.replaced_len.ensures

pub replaced_len-requires-clause-part : goal.replaced_len-requires-clause-part
replaced_len-requires-clause-part g c = subst (λ b. IsFaultPart b c.args.error_len) (sym c.split_at.ensures.back) c.requires.fault.part

pub split_at-requires : goal.split_at-requires
split_at-requires g c = omega (arith, c.requires.fault.valid.short)

pub replaced_len-requires-clause-formed : goal.replaced_len-requires-clause-formed
replaced_len-requires-clause-formed g c = formed_at g.met.E.Platform.laws c.split_at.ensures.back c.requires.fault.valid c.requires.formed

pub replaced_len-requires-clause-some : goal.replaced_len-requires-clause-some
replaced_len-requires-clause-some g c = some_at c.split_at.ensures.back c.requires.fault.valid
