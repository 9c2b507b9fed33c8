use Rattle.std.proofs.lemmas.Result.{IfOk-weaker}
use Rattle.platform_str.proofs.Common.{◌<◌, sym, subst, All-from_get_or, IsLossyText, lossy_text, lossy_is_utf8}
use Rattle.platform_str.proofs.wasm.WasmPlatform.read_lossy.Goals as goal

pub returns-clause-reading : goal.returns-clause-reading
returns-clause-reading g c = IfOk-weaker c.text_bytes.result _ _ (λ reading e. subst (IsLossyText c.args.bytes.now) (sym e) (lossy_text c.args.bytes.now)) c.text_bytes.ensures

pub returns-clause-formed : goal.returns-clause-formed
returns-clause-formed g c = IfOk-weaker c.text_bytes.result _ _ (λ reading w. lossy_is_utf8 c.args.bytes.now reading.items w) (returns-clause-reading g c)

pub text_bytes-requires-clause-formed : goal.text_bytes-requires-clause-formed
text_bytes-requires-clause-formed g c = All-from_get_or (λ x. x < 256) c.args.bytes.now 0 (λ i _. (c.type_inv.bytes i).fits)
