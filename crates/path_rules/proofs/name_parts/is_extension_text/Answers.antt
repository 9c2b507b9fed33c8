use Rattle.std.proofs.Common.{◌≡◌, true, false, sym, subst}
use Rattle.path_rules.specs.Separators.{IsPlain}
use Rattle.path_rules.proofs.lemmas.Cuts.{no_separator_inside}
use Rattle.path_rules.proofs.name_parts.is_extension_text.Goals as goal

pub returns-in-Some : goal.returns-in-Some
returns-in-Some c =
    let cut = c.in-Some.ensures.0 in (
      λ t. let never : false ≡ true = t in cc,
      λ h. absurd (no_separator_inside c.rules.result _ _ cut.separator cut.parts (subst (IsPlain c.rules.result) cut.joined (subst (λ r. IsPlain r c.args.extension.now) (sym c.rules.ensures) h))),
    )
