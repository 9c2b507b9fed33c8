use Rattle.std.proofs.Common.{rules, ◌≡◌, ⊎_elim, inl, inr, refl, subst}
use Rattle.platform_str.specs.Strings.{path_bytes}
use Rattle.path_building.specs.FullPath.{IsAbsoluteFault}
use Rattle.paths_commands.proofs.item.write_absolute.Goals as goal

pub returns-in-Err : goal.returns-in-Err
returns-in-Err g c =
    let S = g.E.PathStyle.follows in
    let path = path_bytes c.args.path in
    let error = c.in-Err.error in
    let below : path_bytes c.new-2.result ≡ c.args.directory.now = search rules in
    let fault = subst (λ d. IsAbsoluteFault S path d error) below c.in-Err.ensures.err in
    record {
      ok = tt;
      fault = ⊎_elim (λ memory. inl memory) (λ reported. inr (error, (reported.1, (reported.0, fault)))) c.unplaced.ensures;
      unchanged = refl;
    }
