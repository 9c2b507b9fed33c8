use Rattle.platform_str.specs.Strings.{bytes, path_bytes}
use Rattle.test_path_uses.proofs.renamed.with_stem_twice.Goals as goal

pub returns : goal.returns
returns g c = c.one_result.ensures.stem g.E.PathStyle.follows (path_bytes c.args.path) (bytes c.args.stem) _ _ c.in_ok-one.ensures c.in_ok-other.ensures
