use Rattle.std.proofs.Common.{◌≡◌, ◌∙◌, Option, Some, None, true, false, sym, subst}
use Rattle.std.specs.Option.{is_some}
use Rattle.std.specs.Prelude.{MatchOption}
use Rattle.os_ignore.specs.Ignores.{HasLineOf, files_of}
use Rattle.test_path_uses.proofs.ignored.has_deciding_text.Goals as goal

no_some : {X : Type 0} (o : Option X) (P : Type 0) (Q : X → Type 0) → is_some o ≡ false → MatchOption o P Q → P
no_some None P Q e m = m
no_some (Some x) P Q e m = let never : true ≡ false = e in absurd cc

pub returns-in-Ignored : goal.returns-in-Ignored
returns-in-Ignored g c e =
    let files = files_of c.args.ignore.now in
    let has = subst (HasLineOf files) c.in-Ignored.is (c.known_line.ensures files c.args.path.now c.args.is_dir c.matched.result c.matched.ensures) in
    absurd (has (no_some c.line.result _ _ (sym c.is_some.ensures ∙ e) c.line.ensures))
