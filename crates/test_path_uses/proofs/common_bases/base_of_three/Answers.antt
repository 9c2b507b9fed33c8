use Rattle.platform_str.specs.Strings.{path_bytes}
use Rattle.test_path_uses.proofs.Both.{with_err, with_ok}
use Rattle.test_path_uses.proofs.Bases.{apart_of_three}
use Rattle.test_path_uses.proofs.common_bases.base_of_three.Goals as goal

pub returns-clause-front : goal.returns-clause-front
returns-clause-front g c = with_ok c.common_base.result c.common_base.ensures.ok (λ base h. h.front)

pub returns-clause-second : goal.returns-clause-second
returns-clause-second g c = with_ok c.common_base.result c.common_base.ensures.ok (λ base h. h.common.0)

pub returns-clause-third : goal.returns-clause-third
returns-clause-third g c = with_ok c.common_base.result c.common_base.ensures.ok (λ base h. h.common.1.0)

pub returns-clause-longest : goal.returns-clause-longest
returns-clause-longest g c = with_ok c.common_base.result c.common_base.ensures.ok (λ base h front a b d. h.longest front a (b, (d, tt)))

pub returns-clause-apart : goal.returns-clause-apart
returns-clause-apart g c =
    with_err c.common_base.result c.common_base.ensures.err (λ fault h same. apart_of_three g.E.PathStyle.follows (path_bytes c.args.path) (path_bytes c.args.second) (path_bytes c.args.third) fault h same)
