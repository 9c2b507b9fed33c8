use Rattle.std.proofs.Common.{OnOk, subst}
use Rattle.platform_str.specs.Strings.{bytes}
use Rattle.wildcards.specs.Sets.{AreHits}
use Rattle.glob_patterns.specs.Letters.{letters_of}
use Rattle.glob_patterns.proofs.lemmas.TextHits.{matches_of_texts, on_ok}
use Rattle.glob_patterns.proofs.glob_set.GlobSet.matches.Goals as goal

pub returns-clause-texts : goal.returns-clause-texts
returns-clause-texts g c =
    let set = c.args.self.now.set in
    let letters = letters_of g.E.Platform.units in
    let found = c.matches.new.found.items in
    let hits = subst (λ raw. OnOk c.matches.result (AreHits set.options set.patterns.items (letters raw) found)) c.as_encoded_bytes.ensures.value c.matches.ensures.hits in
    on_ok c.matches.result (matches_of_texts g.E.Platform.well_formed letters set.options set.patterns.items (letters (bytes c.args.path)) found) hits
