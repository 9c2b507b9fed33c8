use Rattle.platform_str.proofs.Common.{nat_tests, common_steps}
use Rattle.std.proofs.Common.{◌≡◌, ◌+◌, ◌*◌, ◌/◌, ◌%◌, ◌-◌, ◌++◌, ◌≤◌, ◌^◌, ap, sym, ◌∙◌, subst, rules, arith, length, length-append, append_assoc, take, drop, length-drop}
use Rattle.std.proofs.lemmas.{List.drop-drop, List.take_all, List.drop_all, List.length-take-le, Nat.ones-le, Simd.length-put_chunk}
use lib.Count.{ones}
use Rattle.platform_str.specs.ToWide.{chosen}
use Rattle.platform_str.proofs.lemmas.{Choices.ones_chosen, Choices.four_chosen, Choices.drop_stored, LaneTests.take_prefix_put_chunk}
use Rattle.platform_str.proofs.to_wide.put_chosen.Goals as goal

pub loop-i-preserved : goal.loop-i-preserved
loop-i-preserved c =
    let i = c.loop-i.i in
    let end = c.loop-i.end in
    let now = c.loop-i.units in
    let old = c.args.units.now in
    let mask = c.loop-i.left % 16 in
    let first = c.chosen_first.result in
    let rest = drop (4 * i) c.args.lanes in
    let n = ones mask in
    let l = c.loop-i.invariant in
    let some : length first ≡ 4 = search rules in
    let all : length c.args.lanes ≡ 16 = search rules in
    let left : length rest ≡ 16 - 4 * i = omega (arith, all, length-drop (4 * i) c.args.lanes) in
    let enough : 4 ≤ length rest = omega (arith, left, c.loop-i-test.true) in
    let count = ones_chosen (take 4 rest) mask (omega (arith, ap (λ k. 2 ^ k) (length-take-le 4 rest enough))) in
    let few = ones-le 4 mask (omega arith) in
    let room : end + length first ≤ length now = omega (arith, some, l.0, l.1, c.requires.room, c.loop-i-test.true) in
    let begins = ap (λ k. take k first) count ∙ subst (λ r. take (length (chosen (take 4 r) mask)) first ≡ chosen (take 4 r) mask) (take_all _ rest (omega (arith, left))) c.chosen_first.ensures in
    let index : 4 * (i + 1) ≡ 4 * i + 4 = omega arith in
    let others = chosen (drop (4 * (i + 1)) c.args.lanes) (c.loop-i.left / 16) in
    let next = four_chosen rest c.loop-i.left enough ∙ ap (λ r. chosen (take 4 rest) mask ++ chosen r (c.loop-i.left / 16)) (drop-drop 4 (4 * i) c.args.lanes ∙ ap (λ k. drop k c.args.lanes) (sym index)) in
    let past : end + n + 4 ≡ end + 4 + n = omega arith in (
      length-put_chunk end now first ∙ l.0,
      omega (arith, few, l.1),
      omega (arith, l.2),
      drop_stored end (end + n + 4) now first room (omega (arith, some)) ∙ ap (λ k. drop k now) past ∙ sym (drop-drop n (end + 4) now) ∙ ap (drop n) l.3 ∙ drop-drop n (end + 4) old ∙ ap (λ k. drop k old) (sym past),
      ap (λ r. r ++ others) (take_prefix_put_chunk end n now first room (omega (arith, few, some)) ∙ ap (λ r. take end now ++ r) begins)
          ∙ append_assoc (take end now) (chosen (take 4 rest) mask) others ∙ ap (λ r. take end now ++ r) (sym next) ∙ l.4,
      omega (arith, count, l.5, ap length next, length-append (chosen (take 4 rest) mask) others),
    )

pub returns-clause-end : goal.returns-clause-end
returns-clause-end c = grind (arith, nat_tests, common_steps, drop_all, ones_chosen, c.loop-i-test.false, c.requires.bits)
