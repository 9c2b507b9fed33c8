use Rattle.std.proofs.Common.{inl, inr, ◌++◌, ◌∷◌, [], refl, sym, ◌∙◌, subst, append-nil}
use Rattle.std.proofs.lemmas.Result.{on_ok_weaker}
use Rattle.os_ignore.specs.Walks.{files_of_walk}
use Rattle.os_quote.specs.Escape.{IsLineEscape}
use Rattle.list_programs.specs.ListOptions.{byte_of}
use Rattle.names_commands.specs.Matching.{IsInForm, IsPickedBy}
use Rattle.names_commands.proofs.matching.write_matching.Goals as goal

pub returns-then-not-picks-clause-ok : goal.returns-then-not-picks-clause-ok
returns-then-not-picks-clause-ok g c =
    let Picked = IsPickedBy g.E.Platform c.args.names.now.inverted c.args.names.now.globs c.args.names.now.excluded.now (files_of_walk c.args.walk.now) in
    let other : ¬ (Picked c.args.item.now) = λ picked.
    let picks = c.in_ok-picks.ensures.picks.1 (subst Picked (sym c.in_ok-name.ensures.bytes) picked) in
    let never = sym picks ∙ c.if-not-picks.true in cc in
    ([], ((c.in_ok-name.ensures.formed, (c.in_ok-name.ensures.whole, (c.in_ok-name.ensures.placed, inr (other, refl)))), sym (append-nil c.args.output.now.items)))

pub returns-in-Line-clause-ok : goal.returns-in-Line-clause-ok
returns-in-Line-clause-ok g c =
    let P = g.E.Platform in
    let name = c.args.item.now in
    let picked = subst (IsPickedBy P c.args.names.now.inverted c.args.names.now.globs c.args.names.now.excluded.now (files_of_walk c.args.walk.now)) c.in_ok-name.ensures.bytes (c.in_ok-picks.ensures.picks.0 c.if-not-picks.false) in
    on_ok_weaker c.write_line.result
    (λ w.
    let line = subst (λ n. IsLineEscape P.units n w.0) c.in_ok-name.ensures.bytes w.1.0 in
    (w.0 ++ 0x0A ∷ [], ((c.in_ok-name.ensures.formed, (c.in_ok-name.ensures.whole, (c.in_ok-name.ensures.placed, inl (picked, subst (λ f. IsInForm P f c.args.names.now.list.end name (w.0 ++ 0x0A ∷ [])) (sym c.in-Line.is) (w.0, line, refl))))), w.1.1)))
    c.write_line.ensures.line

pub returns-in-Name-clause-ok : goal.returns-in-Name-clause-ok
returns-in-Name-clause-ok g c =
    let P = g.E.Platform in
    let name = c.args.item.now in
    let picked = subst (IsPickedBy P c.args.names.now.inverted c.args.names.now.globs c.args.names.now.excluded.now (files_of_walk c.args.walk.now)) c.in_ok-name.ensures.bytes (c.in_ok-picks.ensures.picks.0 c.if-not-picks.false) in
    on_ok_weaker c.push_name.result
    (λ e. (name ++ byte_of c.args.names.now.list.end ∷ [], ((c.in_ok-name.ensures.formed, (c.in_ok-name.ensures.whole, (c.in_ok-name.ensures.placed, inl (picked, subst (λ f. IsInForm P f c.args.names.now.list.end name (name ++ byte_of c.args.names.now.list.end ∷ [])) (sym c.in-Name.is) refl)))), e)))
    c.push_name.ensures.ok

pub returns-in-Word-clause-ok : goal.returns-in-Word-clause-ok
returns-in-Word-clause-ok g c =
    let P = g.E.Platform in
    let name = c.args.item.now in
    let picked = subst (IsPickedBy P c.args.names.now.inverted c.args.names.now.globs c.args.names.now.excluded.now (files_of_walk c.args.walk.now)) c.in_ok-name.ensures.bytes (c.in_ok-picks.ensures.picks.0 c.if-not-picks.false) in
    on_ok_weaker c.write_word.result
    (λ w. (w.0, ((c.in_ok-name.ensures.formed, (c.in_ok-name.ensures.whole, (c.in_ok-name.ensures.placed, inl (picked, subst (λ f. IsInForm P f c.args.names.now.list.end name w.0) (sym c.in-Word.is) w.1.0)))), w.1.1)))
    c.write_word.ensures.line
