use Rattle.std.proofs.Common.{◌+◌, length, refl, arith}
use Rattle.std.proofs.lemmas.Bool.{false≢true}
use Rattle.memchr.specs.Find.{OccursAt as NeedleOccursAt}
use Rattle.memchr.proofs.lemmas.FindLemmas.{Nowhere-then, Nowhere-more}
use Rattle.os_str_ext.proofs.lemmas.Needles.{first_of_all, in_copy, none_in_copy}
use Rattle.os_str_ext.proofs.needle.first_in_copy.Goals as goal

pub returns-in_default : goal.returns-in_default
returns-in_default c =
    Nowhere-then c.loop.invariant.1 (λ k far high o.
    let there = in_copy _ _ _ c.requires.copy k o in
    let fits = there.fits in
    c.in_default.ensures c.args.needle.now c.requires.finder k far (omega arith) there)

pub returns-then-bytes-at : goal.returns-then-bytes-at
returns-then-bytes-at c =
    let here = c.in-Some.ensures c.args.needle.now c.requires.finder in
    let past = c.if-bytes-at.true in
    Nowhere-then c.loop.invariant.1 (λ k far high o. let fits = o.fits in here.before k far (omega arith) (in_copy _ _ _ c.requires.copy k o))

pub returns-then-occurs_at : goal.returns-then-occurs_at
returns-then-occurs_at c =
    let here = c.in-Some.ensures c.args.needle.now c.requires.finder in
    let within = c.if-bytes-at.false in
    (record { low = omega arith; high = omega arith; before = Nowhere-then c.loop.invariant.1 (none_in_copy _ _ _ c.requires.copy _ _ here.before) }, c.if-occurs_at.ensures.0 refl)

pub loop-preserved : goal.loop-preserved
loop-preserved c =
    let here = c.in-Some.ensures c.args.needle.now c.requires.finder in
    let before = Nowhere-then c.loop.invariant.1 (none_in_copy _ _ _ c.requires.copy _ _ here.before) in
    (omega (arith, c.if-bytes-at.false), Nowhere-more before (λ o. false≢true (c.if-occurs_at.ensures.1 o)))

pub returns : goal.returns
returns c = first_of_all (NeedleOccursAt c.args.bytes.now c.args.needle.now) 0 c.loop.from (length c.args.bytes.now + 1) (omega arith) c.loop.invariant.1 _ c.first_from.ensures
