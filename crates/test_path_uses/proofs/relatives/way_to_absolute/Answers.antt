use Rattle.platform_str.specs.Strings.{path_bytes, path_vec_of}
use Rattle.test_path_uses.proofs.Both.{with_ok}
use Rattle.test_path_uses.proofs.Ways.{itself, no_way}
use Rattle.test_path_uses.proofs.relatives.way_to_absolute.Goals as goal

pub returns-clause-itself : goal.returns-clause-itself
returns-clause-itself g c =
    with_ok c.relative_from.result c.relative_from.ensures (λ way h a n. itself (λ p. (path_vec_of p).items) g.E.PathStyle.follows (path_bytes c.args.path) (path_bytes c.args.base) way h a n)

pub returns-clause-none : goal.returns-clause-none
returns-clause-none g c =
    with_ok c.relative_from.result c.relative_from.ensures (λ way h n b. no_way (λ p. (path_vec_of p).items) g.E.PathStyle.follows (path_bytes c.args.path) (path_bytes c.args.base) way h n b)
