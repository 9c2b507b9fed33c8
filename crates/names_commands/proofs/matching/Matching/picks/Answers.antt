use Rattle.std.proofs.Common.{sym, ◌∙◌}
use Rattle.std.proofs.lemmas.Bool.{false≢true}
use Rattle.os_ignore.specs.Walks.{files_of_walk}
use Rattle.os_str_bytes.specs.Strings.{bytes}
use Rattle.names_commands.specs.Matching.{IsChosenBy, IsMatchedBy}
use Rattle.names_commands.proofs.lemmas.Picked.{never_picked, picked_unless, selected_turned}
use Rattle.names_commands.proofs.matching.Matching.picks.Goals as goal

pub returns-then-is_match-clause-picks : goal.returns-then-is_match-clause-picks
returns-then-is_match-clause-picks g c =
    let P = g.E.Platform in
    let m = c.args.self.now in
    never_picked m.inverted (IsChosenBy P m.globs) (IsMatchedBy P m.excluded.now) (files_of_walk c.args.walk.now) (bytes c.args.name) (c.is_match.ensures.value.0 c.if-is_match.true)

pub returns-clause-picks : goal.returns-clause-picks
returns-clause-picks g c =
    let P = g.E.Platform in
    let m = c.args.self.now in
    let name = bytes c.args.name in
    let selected = selected_turned m.inverted (IsChosenBy P m.globs) (files_of_walk c.args.walk.now) name c.in_ok-matches.matches c.turned.result c.turned.ensures c.in_ok-matches.ensures.matches in
    picked_unless m.inverted (IsChosenBy P m.globs) (IsMatchedBy P m.excluded.now) (files_of_walk c.args.walk.now) name c.turned.result selected (λ hit. false≢true (sym c.if-is_match.false ∙ c.is_match.ensures.value.1 hit))
