use Rattle.std.proofs.Common.{◌≡◌, List, ℕ, [], ◌++◌, ap, Result, Ok, Err, IfErr, MatchResult}
use Rattle.wtf8_core.specs.Checker.{IsFaulty, OnlyEnds, HasFirstFault}
use Rattle.wtf8_core.specs.declared.fault.EncodingError.{EncodingError}
use Rattle.test_uses.proofs.laws.fault_again.Goals as goal

-- if a fault stays and is the only one, the second result is the first
again : {T : Type 0} (b c : List ℕ) (r s : Result T EncodingError) → ((f : EncodingError) → IsFaulty b f → IsFaulty c f)
    → ((f g : EncodingError) → HasFirstFault c f → HasFirstFault c g → f ≡ g)
    → MatchResult r (λ _. OnlyEnds b) (λ f. IsFaulty b f) → MatchResult s (λ _. OnlyEnds c) (λ f. IsFaulty c f) → IfErr r (λ f. s ≡ Err f)
again b c (Ok x) s stays one p q = tt
again b c (Err f) (Ok y) stays one p q = let k = stays f p in absurd (k.stays (q f k.first))
again b c (Err f) (Err g) stays one p q = ap Err (one g f q.first (stays f p).first)

pub returns : goal.returns
returns c =
    let stays = c.fault_stays.ensures in
    let one = c.one_first_fault.ensures in
    again c.args.piece.now (c.args.piece.now ++ c.args.more.now) c.feed-first.result c.feed-second.result (λ f h. stays _ _ _ h) (λ f g x y. (one _ _ _ _ _ x.1 y.1).1)
    (c.feed-first.ensures.answer [] c.new-checker.ensures) (c.feed-second.ensures.answer c.args.piece.now (c.feed-first.ensures.describes [] c.new-checker.ensures))
