use Rattle.std.proofs.Common.{◌∷◌, ◌++◌, [], ◌∙◌, ap}
use Rattle.std.proofs.lemmas.List.{nil_from_length}
use Rattle.wildcards.proofs.lemmas.Flags.{all_staying, staying_first, staying_past_many, staying_past_one}
use Rattle.wildcards.proofs.automaton.staying.Goals as goal

pub loop-last-init : goal.loop-last-init
loop-last-init g c = staying_first _

pub loop-last-preserved-in-Many : goal.loop-last-preserved-in-Many
loop-last-preserved-in-Many g c =
    staying_past_many _ _ _ _ _ _ c.loop-last.invariant (c.in-Some.ensures.cases.0 ∙ ap (λ t. c.in-Some.before.now ++ t ∷ []) c.in-Many.is) c.with_lowest-word.ensures

pub loop-last-preserved : goal.loop-last-preserved
loop-last-preserved g c =
    staying_past_one _ _ _ _ _ _ c.loop-last.invariant _ c.if-count-eq127.false (c.in-Some.ensures.cases.0 ∙ ap (λ t. c.in-Some.before.now ++ t ∷ []) c.in-One.is) c.shifted-word.ensures

pub returns : goal.returns
returns g c = all_staying _ _ _ _ _ c.loop-last.invariant (nil_from_length _ c.in_default.ensures.cases) c.with_lowest.ensures
