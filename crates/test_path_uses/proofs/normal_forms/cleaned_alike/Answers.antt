use Rattle.platform_str.specs.Strings.{path_bytes}
use Rattle.test_path_uses.proofs.normal_forms.cleaned_alike.Goals as goal

pub returns : goal.returns
returns g c = λ d n m. c.one_clean_path.ensures (path_bytes c.args.path) (path_bytes c.args.other) _ _ d n m c.in_ok-one.ensures c.in_ok-two.ensures
