use Rattle.os_ignore.proofs.lemmas.Rests.{text_matches}
use Rattle.os_ignore.proofs.verdict.matches_text.Goals as goal

pub returns-in-Some : goal.returns-in-Some
returns-in-Some g c =
    let both = text_matches c.args.folds c.args.literal.now c.args.pattern.now c.args.text.now c.in-Some.rest.now c.in-Some.ensures in
    (λ e. both.0 (c.matches_rest.ensures.0 e), λ m. c.matches_rest.ensures.1 (both.1 m))
