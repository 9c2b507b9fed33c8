use Rattle.platform_str.specs.Strings.{path_bytes}
use Rattle.test_path_uses.proofs.PathEnds.{slash_kept}
use Rattle.test_path_uses.proofs.path_ends.name_kept.Goals as goal

pub returns : goal.returns
returns c = λ v before e. slash_kept (path_bytes c.args.path) (path_bytes c.trim_trailing_sep.result) before c.trim_trailing_sep.ensures v e
