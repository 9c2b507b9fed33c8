use Rattle.std.proofs.Common.{length, ap, arith}
use Rattle.platform_str.specs.Strings.{bytes}
use Rattle.osbytes_c.proofs.lemmas.Lines.{line_fits}
use Rattle.osbytes_c.proofs.lines.windows_arguments.osb_core_windows_arguments.Goals as goal

pub write_arguments-written-requires : goal.write_arguments-written-requires
write_arguments-written-requires c =
    omega (arith, line_fits (bytes c.in-Ok.string) c.new.result.0 c.new.result.1 c.in-Ok.string.ok c.new.ensures, ap length c.in-Ok.ensures.bytes, c.in-Ok.ensures.short)
