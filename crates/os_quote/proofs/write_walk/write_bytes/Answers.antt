use Rattle.os_quote.proofs.Common.{◌≡◌, ◌++◌, ℕ, List, [], take, ◌∙◌, sym, ap, subst, arith, IsUtf8, IsUtf8-append, escape_of, shown_by}
use Rattle.std.proofs.lemmas.Result.{err_from_is_err_and}
use Rattle.os_quote.proofs.lemmas.{ByteTexts.one_more}
use Rattle.os_quote.proofs.write_walk.write_bytes.Goals.{then-loop-len-test+else-shown-lt-SHOWN, else-loop-len-test, then-loop-len-test+then-shown-lt-SHOWN+in_default}
use Rattle.os_quote.proofs.write_walk.write_bytes.Goals as goal

pub loop-len-init : goal.loop-len-init
loop-len-init g c =
    let put = c.put_text-len.ensures in
    (omega (arith, put.within), subst IsUtf8 (sym put.written) put.is_text, c.requires.formed, omega arith, ap (λ t. t ++ escape_of (shown_by c.args.form) g.E.Platform.units c.args.following.now) (sym put.written))

pub loop-len-preserved : goal.loop-len-preserved
loop-len-preserved g c =
    let so_far = c.loop-len.invariant in
    let next = c.in-Some.ensures in
    let put = next.1 in
    let start = next.2 in
    let within = put.within in
    let shorter = start.shorter in
    (omega (arith, within, c.loop-len-test.true), subst IsUtf8 (sym put.written) (IsUtf8-append _ _ so_far.1 put.is_text), start.formed, omega (arith, shorter, so_far.3), one_more _ _ _ so_far.4 start.escape put.written)

-- the texts and what is left are all that was to be taken
parts : {whole texts before : List ℕ} (len : ℕ) (left : List ℕ) {taken : List ℕ} → whole ≡ take len before ++ left → texts ≡ before → taken ≡ take len texts → whole ≡ taken ++ left
parts len left all same is = all ∙ ap (λ t. t ++ left) (sym (is ∙ ap (take len) same))

pub loop-len-smaller : goal.loop-len-smaller
loop-len-smaller g c = c.in-Some.ensures.2.shorter

pub from_utf8_unchecked-requires : goal.from_utf8_unchecked-requires
from_utf8_unchecked-requires g c =
    let same : c.loop-len-test.texts ≡ c.loop-len.texts = elim c.loop-len-test.branch [
      | then-loop-len-test+else-shown-lt-SHOWN w ↦ w.texts-is
      | else-loop-len-test w ↦ w.texts-is
      | then-loop-len-test+then-shown-lt-SHOWN+in_default w ↦ w.texts-is ∙ w.in_default.ensures
    ] in
    subst (λ t. IsUtf8 (take c.loop-len.len t)) (sym same) c.loop-len.invariant.1

pub take_text-requires : goal.take_text-requires
take_text-requires g c =
    let sink = g.S.Sink.rules in
    let old = c.args.sink.now in
    let same : c.loop-len-test.texts ≡ c.loop-len.texts = elim c.loop-len-test.branch [
      | then-loop-len-test+else-shown-lt-SHOWN w ↦ w.texts-is
      | else-loop-len-test w ↦ w.texts-is
      | then-loop-len-test+then-shown-lt-SHOWN+in_default w ↦ w.texts-is ∙ w.in_default.ensures
    ] in
    let all = parts c.loop-len.len _ c.loop-len.invariant.4 same c.from_utf8_unchecked.ensures in
    sink.room_before old _ _ (subst (sink.has_room old) all c.requires.room)

pub returns-in_err-take_text-clause-taken : goal.returns-in_err-take_text-clause-taken
returns-in_err-take_text-clause-taken g c =
    let sink = g.S.Sink.rules in
    let old = c.args.sink.now in
    let same : c.loop-len-test.texts ≡ c.loop-len.texts = elim c.loop-len-test.branch [
      | then-loop-len-test+else-shown-lt-SHOWN w ↦ w.texts-is
      | else-loop-len-test w ↦ w.texts-is
      | then-loop-len-test+then-shown-lt-SHOWN+in_default w ↦ w.texts-is ∙ w.in_default.ensures
    ] in
    let all = parts c.loop-len.len _ c.loop-len.invariant.4 same c.from_utf8_unchecked.ensures in
    rw (err_from_is_err_and c.from_residual.result c.from_residual.ensures.1).1 (subst (λ x. sink.rejects old x c.take_text.new.self) (sym all) (sink.rejects_after old old c.take_text.new.self [] _ _ (sink.took_nothing old) c.in_err-take_text.ensures))

pub returns : goal.returns
returns g c =
    let so_far = c.loop-len.invariant in
    let same : c.loop-len-test.texts ≡ c.loop-len.texts = elim c.loop-len-test.branch [
      | then-loop-len-test+else-shown-lt-SHOWN w ↦ w.texts-is
      | else-loop-len-test w ↦ w.texts-is
      | then-loop-len-test+then-shown-lt-SHOWN+in_default w ↦ w.texts-is ∙ w.in_default.ensures
    ] in
    record {
      taken = (c.from_utf8_unchecked.result.now, c.in_ok-take_text.ensures, parts c.loop-len.len _ so_far.4 same c.from_utf8_unchecked.ensures);
      rest = (so_far.2, so_far.3);
    }
