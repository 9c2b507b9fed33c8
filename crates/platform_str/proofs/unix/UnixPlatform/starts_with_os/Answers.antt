use Rattle.platform_str.proofs.Common.{prefix_tested}
use Rattle.platform_str.proofs.unix.UnixPlatform.starts_with_os.Goals as goal

pub returns : goal.returns
returns c = prefix_tested c.args.string.now c.args.prefix.now c.starts_with.result c.starts_with.ensures.value
