use Rattle.std.proofs.lemmas.Result.{IfOk-weaker}
use Rattle.std.specs.List.{All}
use Rattle.wtf8_core.specs.Byte.{IsByte}
use Rattle.platform_str.proofs.Common.{◌<◌, sym, subst, All-from_get_or}
use Rattle.platform_str.proofs.unix.UnixPlatform.read_lossy.Goals as goal

pub returns-clause-formed : goal.returns-clause-formed
returns-clause-formed g c = IfOk-weaker c.from_slice.result _ _ (λ reading e. subst (All IsByte) (sym e) (All-from_get_or (λ x. x < 256) c.args.bytes.now 0 (λ i _. (c.type_inv.bytes i).fits))) c.from_slice.ensures.items
