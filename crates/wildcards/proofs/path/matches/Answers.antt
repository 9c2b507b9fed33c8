use Rattle.std.proofs.Common.{◌≡◌, true, false}
use Rattle.wildcards.proofs.path.matches.Goals as goal

pub returns-then-ends_otherwise : goal.returns-then-ends_otherwise
returns-then-ends_otherwise g c =
    let no : ¬ (false ≡ true) = λ e. cc in
    (λ e. absurd (no e), λ m. absurd (c.ends_otherwise.ensures c.if-ends_otherwise.true c.args.options m))
