use Rattle.test_path_uses.proofs.ReadParts.{kept_whole}
use Rattle.test_path_uses.proofs.read_parts.root_kept.Goals as goal

pub returns : goal.returns
returns c = λ rules has. kept_whole c.args.style c.args.path.now c.end_trimmed.result.now (c.one_list.ensures.prefix c.args.path.now) c.end_trimmed.ensures rules has
