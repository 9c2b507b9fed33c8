use Rattle.std.proofs.Common.{inl, inr, subst}
use Rattle.platform_str.specs.Strings.{path_bytes, path_vec_of}
use Rattle.os_path.specs.Converted.{IsConvertFault}
use Rattle.test_path_uses.proofs.Both.{with_ok, with_err}
use Rattle.test_path_uses.proofs.OtherStyle.{one_index, written_anew}
use Rattle.test_path_uses.proofs.styles.converted.Goals as goal

pub returns-clause-first : goal.returns-clause-first
returns-clause-first g c =
    with_err c.with_style.result c.with_style.ensures.err (λ error h items known index single are first e.
    let s = path_bytes c.args.path in
    let fault = subst (IsConvertFault g.E.PathStyle.follows g.F.PathStyle.follows g.F.Platform.first_fault s) e h in
    elim fault.1 [
      | inl k ↦ absurd (single k.0)
      | inr k ↦ one_index c.one_list.ensures.items g.E.PathStyle.follows g.F.PathStyle.follows s index known items k.1.0 k.1.1.0 k.1.1.1 are first
    ])

pub returns-clause-written : goal.returns-clause-written
returns-clause-written g c =
    with_ok c.with_style.result c.with_style.ensures.ok (λ made h items other are.
    written_anew c.one_list.ensures.items g.E.PathStyle.follows g.F.PathStyle.follows (path_bytes c.args.path) (path_vec_of made).items h items other are)
