use Rattle.platform_str.proofs.Common.{never_uncovered}
use Rattle.platform_str.proofs.wasm.WasmPlatform.first_unit.Goals as goal

pub unreachable-requires : goal.unreachable-requires
unreachable-requires c = never_uncovered c.args._bytes.now c.requires.formed c.requires.some c.requires.uncovered
