use Rattle.test_path_uses.proofs.Both.{with_err, with_ok}
use Rattle.test_path_uses.proofs.Bases.{apart_of_two}
use Rattle.test_path_uses.proofs.common_bases.base_of_two.Goals as goal

pub returns-clause-front : goal.returns-clause-front
returns-clause-front c = with_ok c.common_base.result c.common_base.ensures.ok (λ base h. h.front)

pub returns-clause-common : goal.returns-clause-common
returns-clause-common c = with_ok c.common_base.result c.common_base.ensures.ok (λ base h. h.common.0)

pub returns-clause-longest : goal.returns-clause-longest
returns-clause-longest c = with_ok c.common_base.result c.common_base.ensures.ok (λ base h front a b. h.longest front a (b, tt))

pub returns-clause-begun : goal.returns-clause-begun
returns-clause-begun c = with_ok c.common_base.result c.common_base.ensures.ok (λ base h. h.alike.0)

pub returns-clause-apart : goal.returns-clause-apart
returns-clause-apart c = with_err c.common_base.result c.common_base.ensures.err (λ fault h. apart_of_two c.args.style c.args.path.now c.args.other.now fault h)
