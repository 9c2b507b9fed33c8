use Rattle.platform_str.proofs.Common.{sym, subst, cond_both, IsUtf8, IsUtf8-append}
use Rattle.std.specs.Result.{is_ok}
use Rattle.platform_str.proofs.wasm.WasmPlatform.push_bytes.Goals as goal

pub returns-clause-formed : goal.returns-clause-formed
returns-clause-formed g c = subst IsUtf8 (sym c.extend_from_slice.ensures.items) (cond_both (is_ok c.extend_from_slice.result) _ _ IsUtf8 (λ _. IsUtf8-append _ _ c.requires.string c.requires.more) (λ _. c.requires.string))
