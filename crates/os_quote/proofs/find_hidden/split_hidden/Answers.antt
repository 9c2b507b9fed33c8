use Rattle.os_quote.proofs.Common.{◌≡◌, ℕ, List, take, subst, arith, take_all, IsCharBoundary, IsCharBoundary-from_take, IsUtf8, IsPlainUpTo, AreUnchanged, stays_on_line}
use Rattle.os_quote.specs.declared.form.Form.TheVariants.{Line}
use Rattle.os_quote.proofs.lemmas.PlainBytes.{plain_prefix, plain_is_text, plain_unchanged}
use Rattle.os_quote.proofs.find_hidden.split_hidden.Goals as goal

at_boundary : (text bytes : List ℕ) (n : ℕ) → IsUtf8 text → bytes ≡ text → IsPlainUpTo bytes n → IsCharBoundary text n × AreUnchanged stays_on_line (take n text)
at_boundary text bytes n u e up =
    let up_to = subst (λ x. IsPlainUpTo x n) e up in
    let plain = plain_prefix text n up_to.plain in
    (IsCharBoundary-from_take text n u up_to.within (plain_is_text (take n text) plain), plain_unchanged Line (take n text) plain)

pub returns-then-at-text : goal.returns-then-at-text
returns-then-at-text c = subst (AreUnchanged stays_on_line) (take_all _ _ (omega (arith, c.if-at-text.true))) (at_boundary c.args.text.now _ _ c.utf8.text c.as_bytes.ensures.value c.plain_len-at.ensures).1

pub split_at_suspect-requires-clause-boundary : goal.split_at_suspect-requires-clause-boundary
split_at_suspect-requires-clause-boundary c = (at_boundary c.args.text.now _ _ c.utf8.text c.as_bytes.ensures.value c.plain_len-at.ensures).0

pub split_at_suspect-requires-clause-unchanged : goal.split_at_suspect-requires-clause-unchanged
split_at_suspect-requires-clause-unchanged c = (at_boundary c.args.text.now _ _ c.utf8.text c.as_bytes.ensures.value c.plain_len-at.ensures).1
