use Rattle.std.proofs.Common.{sym, subst}
use Rattle.std.proofs.Math.Seq.{take-length}
use Rattle.std.specs.Str.{IsUtf8}
use Rattle.test_uses.proofs.Outcomes.{only_some, pair_of}
use Rattle.test_uses.proofs.bytes.surrogate_fault_says.Goals as goal

pub returns : goal.returns
returns c =
    let valid = c.requires.fault.valid in
    only_some (IsUtf8 c.args.raw.now) c.surrogate_fault.result c.surrogate_fault.ensures (λ text. valid.longest _ valid.short (subst IsUtf8 (sym (take-length c.args.raw.now)) text))
    (λ fault is. pair_of fault _ _ (c.one_utf8_fault.ensures _ _ _ _ _ is c.requires.fault))
