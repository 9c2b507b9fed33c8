use Rattle.platform_str.specs.Strings.{path_bytes, path_vec_of}
use Rattle.test_path_uses.proofs.Checks.{no_base_nul, no_nul, no_open_base, no_prefix, no_reserved_base, no_root, no_stream, no_way_out, none_reserved}
use Rattle.test_path_uses.proofs.checked.refused.Goals as goal

pub returns-clause-out : goal.returns-clause-out
returns-clause-out g c =
    no_way_out (λ p. (path_vec_of p).items) g.E.PathStyle.follows (path_bytes c.args.base) (path_bytes c.args.path) c.one_list.ensures.items c.join_checked.result c.join_checked.ensures.ok

pub returns-clause-reserved : goal.returns-clause-reserved
returns-clause-reserved g c =
    none_reserved (λ p. (path_vec_of p).items) g.E.PathStyle.follows (path_bytes c.args.base) (path_bytes c.args.path) c.one_list.ensures.items c.join_checked.result c.join_checked.ensures.ok

pub returns-clause-prefix : goal.returns-clause-prefix
returns-clause-prefix g c = no_prefix (λ p. (path_vec_of p).items) g.E.PathStyle.follows (path_bytes c.args.base) (path_bytes c.args.path) c.join_checked.result c.join_checked.ensures.ok

pub returns-clause-root : goal.returns-clause-root
returns-clause-root g c = no_root (λ p. (path_vec_of p).items) g.E.PathStyle.follows (path_bytes c.args.base) (path_bytes c.args.path) c.join_checked.result c.join_checked.ensures.ok

pub returns-clause-stream : goal.returns-clause-stream
returns-clause-stream g c =
    no_stream (λ p. (path_vec_of p).items) g.E.PathStyle.follows (path_bytes c.args.base) (path_bytes c.args.path) c.one_list.ensures.items c.join_checked.result c.join_checked.ensures.ok

pub returns-clause-nul : goal.returns-clause-nul
returns-clause-nul g c = no_nul (λ p. (path_vec_of p).items) g.E.PathStyle.follows (path_bytes c.args.base) (path_bytes c.args.path) c.join_checked.result c.join_checked.ensures.ok

pub returns-clause-base_nul : goal.returns-clause-base_nul
returns-clause-base_nul g c = no_base_nul (λ p. (path_vec_of p).items) g.E.PathStyle.follows (path_bytes c.args.base) (path_bytes c.args.path) c.join_checked.result c.join_checked.ensures.ok

pub returns-clause-base : goal.returns-clause-base
returns-clause-base g c = no_open_base (λ p. (path_vec_of p).items) g.E.PathStyle.follows (path_bytes c.args.base) (path_bytes c.args.path) c.join_checked.result c.join_checked.ensures.ok

pub returns-clause-base_name : goal.returns-clause-base_name
returns-clause-base_name g c = no_reserved_base (λ p. (path_vec_of p).items) g.E.PathStyle.follows (path_bytes c.args.base) (path_bytes c.args.path) c.join_checked.result c.join_checked.ensures.ok
