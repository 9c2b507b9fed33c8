use Rattle.platform_str.proofs.Common.{end_tested}
use Rattle.platform_str.proofs.unix.UnixPlatform.ends_with_os.Goals as goal

pub returns : goal.returns
returns c = end_tested c.args.string.now c.args.suffix.now c.ends_with.result c.ends_with.ensures.value
