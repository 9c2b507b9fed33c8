use Rattle.platform_str.specs.platforms.Windows.{windows_laws}
use Rattle.osbytes_c.proofs.strings.check.report_wtf8.Goals as goal

pub unreachable-requires : goal.unreachable-requires
unreachable-requires c = windows_laws.faulty _ _ c.requires c.in-None.ensures
