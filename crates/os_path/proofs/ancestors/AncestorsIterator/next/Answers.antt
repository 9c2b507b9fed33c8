use Rattle.std.proofs.Common.{◌≡◌, ◌<◌, Some, sym, ap, ◌∙◌, subst}
use Rattle.std.specs.Option.{option_map}
use Rattle.platform_str.specs.Strings.{path_bytes}
use Rattle.os_path.specs.Ancestors.{paths_left}
use Rattle.os_path.proofs.lemmas.Parents.{fewer_left}
use Rattle.os_path.proofs.ancestors.AncestorsIterator.next.Goals as goal

pub returns-clause-goes : goal.returns-clause-goes
returns-clause-goes g c =
    let small = fewer_left path_bytes g.E.PathStyle.follows (path_bytes c.in-Some.path) c.parent-self-inside.result c.parent-self-inside.ensures in
    let is : c.args.self.now ≡ Some (path_bytes c.in-Some.path) = sym c.self.view_is ∙ ap (option_map path_bytes) c.in-Some.is in
    record {
      on = λ _. (tt, tt, subst (λ x. paths_left (option_map path_bytes c.parent-self-inside.result) < paths_left x) (sym is) small);
      keeps = tt;
      rests = λ _. tt;
    }
