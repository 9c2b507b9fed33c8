use Rattle.os_quote.proofs.Common.{arith, refl, true≢false}
use Rattle.os_quote.proofs.lemmas.Lines.{all_shown, hidden_leaves, past_backslash, with_backslash, cut_is_shorter}
use Rattle.os_quote.proofs.find_hidden.is_on_one_line.Goals as goal

pub returns-then-character-ne92 : goal.returns-then-character-ne92
returns-then-character-ne92 c = grind (arith, true≢false, hidden_leaves)

pub loop-character-preserved : goal.loop-character-preserved
loop-character-preserved c =
    let i = c.loop-character.invariant in (
      c.in-Some.ensures.after_text,
      (
        λ after. i.1.0 (with_backslash _ _ _ _ i.0 c.in-Some.ensures c.if-character-ne92.false after),
        λ all. past_backslash _ _ _ _ i.0 c.in-Some.ensures (i.1.1 all),
      ),
    )

pub loop-character-smaller : goal.loop-character-smaller
loop-character-smaller c = cut_is_shorter _ _ _ _ _ c.in-Some.ensures

pub returns : goal.returns
returns c = (λ _. c.loop-character.invariant.1.0 (all_shown _ c.in_default.ensures), λ _. refl)
