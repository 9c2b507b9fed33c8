use Rattle.wtf8_core.proofs.Common.{arith, ◌≡◌, [], ◌∷◌, ◌++◌, sym, ap, ◌∙◌, subst, append_assoc, IsInState, IsFaulty}
use Rattle.wtf8_core.proofs.lemmas.table.Pieces.{extends}
use Rattle.wtf8_core.proofs.checker.read_piece.Goals as goal

pub loop-state-preserved : goal.loop-state-preserved
loop-state-preserved c =
    let m = c.loop-state.invariant in
    let x = c.in-Some.first.now in
    record {
      prefix = m.prefix ++ x ∷ [];
      is = m.is ∙ ap (λ l. m.prefix ++ l) c.in-Some.ensures.cases.0 ∙ sym (append_assoc m.prefix (x ∷ []) c.in-Some.after.now);
      occurs = λ b h. subst (IsInState c.in-Ok.next c.in-Ok.joined) (append_assoc b m.prefix (x ∷ [])) (c.in-Ok.ensures (b ++ m.prefix) (m.occurs b h));
    }

pub returns-in-Err : goal.returns-in-Err
returns-in-Err c b h =
    let m = c.loop-state.invariant in
    let after = c.in-Some.after.now in
    let e : ((b ++ m.prefix) ++ c.in-Some.first.now ∷ []) ++ after ≡ b ++ c.args.piece.now =
    append_assoc (b ++ m.prefix) (c.in-Some.first.now ∷ []) after ∙ ap (λ l. (b ++ m.prefix) ++ l) (sym c.in-Some.ensures.cases.0) ∙ append_assoc b m.prefix c.loop-state.rest.now ∙ ap (λ l. b ++ l) (sym m.is) in
    subst (λ z. IsFaulty z c.in-Err.fault) e (extends _ after c.in-Err.fault (c.in-Err.ensures (b ++ m.prefix) (m.occurs b h)))

pub returns : goal.returns
returns c b h = grind (arith, append_assoc)
