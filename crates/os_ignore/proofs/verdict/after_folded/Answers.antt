use Rattle.std.proofs.Common.{[], ◌∷◌, true, refl, subst, ◌∙◌, sym}
use Rattle.os_ignore.specs.Matching.{IsAfter}
use Rattle.os_ignore.proofs.lemmas.Rests.{one_byte, one_more_byte, none_after}
use Rattle.os_ignore.proofs.lemmas.Tags.{nil_of_length}
use Rattle.os_ignore.proofs.verdict.after_folded.Goals as goal

pub returns-in_default-split_first : goal.returns-in_default-split_first
returns-in_default-split_first c = λ rest k.
    let nil = nil_of_length c.loop-byte.left.now c.in_default-split_first.ensures.cases in
    none_after c.in-Some.byte.now c.in-Some.more.now rest
    (subst (λ z. IsAfter true z [] rest) c.in-Some.ensures.cases.0 (subst (λ z. IsAfter true c.loop-byte.wanted.now z rest) nil ((c.loop-byte.invariant rest).0 k)))

pub returns-then-to_ascii_lowercase-byte : goal.returns-then-to_ascii_lowercase-byte
returns-then-to_ascii_lowercase-byte c = λ rest k.
    let here = subst (λ z. IsAfter true z c.loop-byte.left.now rest) c.in-Some.ensures.cases.0 ((c.loop-byte.invariant rest).0 k) in
    let own = one_byte c.in-Some.byte.now c.in-Some-split_first.first.now c.in-Some.more.now c.in-Some-split_first.rest.now rest (subst (λ z. IsAfter true (c.in-Some.byte.now ∷ c.in-Some.more.now) z rest) c.in-Some-split_first.ensures.cases.0 here) in
    c.if-to_ascii_lowercase-byte.true (c.to_ascii_lowercase.ensures.value ∙ own.0)

pub loop-byte-preserved : goal.loop-byte-preserved
loop-byte-preserved c = λ rest. (
  λ k.
      let here = subst (λ z. IsAfter true z c.loop-byte.left.now rest) c.in-Some.ensures.cases.0 ((c.loop-byte.invariant rest).0 k) in
      (one_byte c.in-Some.byte.now c.in-Some-split_first.first.now c.in-Some.more.now c.in-Some-split_first.rest.now rest (subst (λ z. IsAfter true (c.in-Some.byte.now ∷ c.in-Some.more.now) z rest) c.in-Some-split_first.ensures.cases.0 here)).1,
  λ k.
      let more = one_more_byte c.in-Some.byte.now c.in-Some-split_first.first.now c.in-Some.more.now c.in-Some-split_first.rest.now rest (sym c.to_ascii_lowercase.ensures.value ∙ c.if-to_ascii_lowercase-byte.false) k in
      (c.loop-byte.invariant rest).1 (subst (λ z. IsAfter true z c.loop-byte.left.now rest) (sym c.in-Some.ensures.cases.0) (subst (λ z. IsAfter true (c.in-Some.byte.now ∷ c.in-Some.more.now) z rest) (sym c.in-Some-split_first.ensures.cases.0) more)),
)

pub returns : goal.returns
returns c = (c.loop-byte.invariant c.loop-byte.left.now).1 (subst (λ z. IsAfter true z c.loop-byte.left.now c.loop-byte.left.now) (sym (nil_of_length c.loop-byte.wanted.now c.in_default.ensures.cases)) ([], refl, refl))
