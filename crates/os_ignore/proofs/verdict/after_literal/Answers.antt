use Rattle.std.proofs.Common.{List, ℕ, sym, subst}
use Rattle.std.specs.Prelude.{MatchOption}
use Rattle.os_ignore.specs.Matching.{IsAfter}
use Rattle.os_ignore.proofs.verdict.after_literal.Goals as goal

pub returns-then-folds : goal.returns-then-folds
returns-then-folds c =
    subst (λ z. MatchOption c.after_folded.result ((rest : List ℕ) → IsAfter z c.args.literal.now c.args.text.now rest → ⊥) (λ rest. IsAfter z c.args.literal.now c.args.text.now rest.now)) (sym c.if-folds.true)
    c.after_folded.ensures
