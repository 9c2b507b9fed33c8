use denote.Ref.{Bor}
use Rattle.std.proofs.Common.{ℕ, List}
use Rattle.path_rules.specs.Views.{item_of}
use Rattle.path_rules.proofs.lemmas.LastNames.{none_last, last_is}
use Rattle.path_rules.proofs.parents.file_name.Goals as goal

pub returns-in_default : goal.returns-in_default
returns-in_default c = none_last c.args.style c.args.path.now c.new.result.items c.new.ensures.items c.in_default.ensures.steps.0.0

pub returns : goal.returns
returns c =
    last_is c.args.style c.args.path.now c.new.result.items c.new.ensures.items (λ (x : Bor (List ℕ)). x.now) c.next_back.new.self.items (item_of c.in-Some.last) c.name.result c.in-Some.ensures.steps.0 c.name.ensures
