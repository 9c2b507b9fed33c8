use Rattle.platform_str.specs.Strings.{path_bytes}
use Rattle.test_path_uses.proofs.KnownPrefix.{taken_off, kept, kept_plain}
use Rattle.test_path_uses.proofs.prefixes.simplified.Goals as goal

pub returns-clause-known : goal.returns-clause-known
returns-clause-known c = λ other k. taken_off (path_bytes c.args.path) (path_bytes c.simplified.result) c.simplified.ensures other k

pub returns-clause-kept : goal.returns-clause-kept
returns-clause-kept c = λ none. kept (path_bytes c.args.path) (path_bytes c.simplified.result) c.simplified.ensures none

pub returns-clause-plain : goal.returns-clause-plain
returns-clause-plain c = λ e. kept_plain (path_bytes c.args.path) (path_bytes c.simplified.result) c.simplified.ensures e
