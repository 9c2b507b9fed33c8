use Rattle.std.proofs.Common.{ℕ, ◌↔◌, IsTrue, subst}
use Rattle.platform_str.specs.Strings.{bytes}
use Rattle.wildcards.specs.Sets.{IsHit}
use Rattle.glob_patterns.specs.Letters.{letters_of}
use Rattle.glob_patterns.proofs.lemmas.TextHits.{match_of_texts}
use Rattle.glob_patterns.proofs.glob_set.GlobSet.is_match.Goals as goal

pub returns-clause-value : goal.returns-clause-value
returns-clause-value g c =
    let set = c.args.self.now.set in
    subst (λ raw. IsTrue c.is_match.result ↔ ((i : ℕ) × IsHit set.options set.patterns.items (letters_of g.E.Platform.units raw) i))
    c.as_encoded_bytes.ensures.value c.is_match.ensures

pub returns-clause-texts : goal.returns-clause-texts
returns-clause-texts g c =
    let set = c.args.self.now.set in
    match_of_texts g.E.Platform.well_formed (letters_of g.E.Platform.units) set.options set.patterns.items (letters_of g.E.Platform.units (bytes c.args.path)) c.is_match.result (returns-clause-value g c)
