use Rattle.os_quote.proofs.Common.{◌≡◌, ◌++◌, ◌-◌, length, take, drop, refl, sym, ap, ◌∙◌, subst, arith, take-append-drop, sub-zero, true≢false, encode_utf8, AreUnchanged, stays_on_line, IsNextSuspect}
use Rattle.os_quote.proofs.lemmas.Hidden.{suspect_begins, unchanged_to, unchanged_after, all_unchanged}
use Rattle.os_quote.proofs.find_hidden.split_at_suspect.Goals as goal

pub loop-suspect-init : goal.loop-suspect-init
loop-suspect-init c = (c.requires.boundary, c.requires.unchanged)

pub range_from-requires : goal.range_from-requires
range_from-requires c _ =
    suspect_begins c.args.text.now c.loop-suspect.at c.in-Some.suspect (subst (λ x. IsNextSuspect x c.loop-suspect.at c.in-Some.suspect) c.as_bytes.ensures.value c.in-Some.ensures)

pub range-requires-clause-end_boundary : goal.range-requires-clause-end_boundary
range-requires-clause-end_boundary c =
    suspect_begins c.args.text.now c.loop-suspect.at c.in-Some.suspect (subst (λ x. IsNextSuspect x c.loop-suspect.at c.in-Some.suspect) c.as_bytes.ensures.value c.in-Some.ensures)

pub returns-then-not-is_unchanged : goal.returns-then-not-is_unchanged
returns-then-not-is_unchanged c =
    let text = c.args.text.now in
    let i = c.in-Some.suspect in
    let next = subst (λ x. IsNextSuspect x c.loop-suspect.at i) c.as_bytes.ensures.value c.in-Some.ensures in
    let unchanged = unchanged_to text c.loop-suspect.at i (λ k. omega (arith, c.type_inv.text k)) c.utf8.text c.loop-suspect.invariant.0 (suspect_begins text c.loop-suspect.at i next) next.from c.loop-suspect.invariant.1 next.clear in
    let prefix : c.range.result.now ≡ take i text = c.range.ensures.value ∙ ap (λ n. take n text) (sub-zero i) in
    let rest = sym c.range_from.ensures.value ∙ sym c.chars-characters.ensures.rest ∙ c.in_ok-character.ensures.steps.0 ∙ ap (λ x. encode_utf8 c.in_ok-character.character ++ x) (sym c.as_str-rest.ensures) in
    record {
      unchanged = subst (AreUnchanged stays_on_line) (sym prefix) unchanged;
      hidden = λ s. true≢false (sym (c.is_unchanged.ensures.1 s) ∙ c.if-not-is_unchanged.true);
      joined = sym (take-append-drop i text) ∙ ap (λ x. x ++ drop i text) (sym prefix) ∙ ap (λ x. c.range.result.now ++ x) rest;
      prefix_text = c.range.utf8;
      after_text = c.as_str-rest.utf8;
    }

pub loop-suspect-preserved : goal.loop-suspect-preserved
loop-suspect-preserved c =
    let text = c.args.text.now in
    let i = c.in-Some.suspect in
    let next = subst (λ x. IsNextSuspect x c.loop-suspect.at i) c.as_bytes.ensures.value c.in-Some.ensures in
    let begins = suspect_begins text c.loop-suspect.at i next in
    let unchanged = unchanged_to text c.loop-suspect.at i (λ k. omega (arith, c.type_inv.text k)) c.utf8.text c.loop-suspect.invariant.0 begins next.from c.loop-suspect.invariant.1 next.clear in
    let rest = sym c.range_from.ensures.value ∙ sym c.chars-characters.ensures.rest ∙ c.in_ok-character.ensures.steps.0 ∙ ap (λ x. encode_utf8 c.in_ok-character.character ++ x) (sym c.as_str-rest.ensures) in
    unchanged_after text c.as_str-rest.result.now i c.in_ok-character.character (length text - length c.as_str-rest.result.now) c.utf8.text begins rest unchanged (c.is_unchanged.ensures.0 c.if-not-is_unchanged.false) refl

pub returns : goal.returns
returns c = grind (arith, all_unchanged)
