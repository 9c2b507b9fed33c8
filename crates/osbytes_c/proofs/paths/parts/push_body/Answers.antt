use Rattle.std.proofs.Common.{◌≡◌, ◌+◌, ◌-◌, [], ◌∷◌, ◌++◌, length, take, drop, get_or, subst, sym, ap, ◌∙◌, append_assoc, length-append, arith}
use Rattle.std.specs.List.{cons_option}
use Rattle.path_rules.proofs.lemmas.Fields.{cons_of, nil_of}
use Rattle.osbytes_c.specs.PathParts.{part_named, parts_in}
use Rattle.osbytes_c.specs.PartBuffers.{PartsTruncated}
use Rattle.osbytes_c.proofs.lemmas.PathParts.{last_part, first_part, pushes_both}
use Rattle.osbytes_c.proofs.paths.parts.push_body.Goals as goal

pub returns-in_default : goal.returns-in_default
returns-in_default c = λ parts buffer t.
    let inv = c.loop-part.invariant in
    let r = c.args.rules in
    let from = c.loop-part.from in
    let part = c.split_part.result.0.now in
    let rest = c.split_part.result.1.now in
    let now = cons_option (part_named r from part) [] in
    let last = last_part r from c.loop-part.left.now part rest (nil_of rest c.in_default.len_below) c.split_part.ensures in
    let all : parts_in r c.args.at c.args.body.now ≡ inv.0 ++ now = inv.1.1.0 ∙ ap (λ x. inv.0 ++ x) last in
    subst (λ x. PartsTruncated (parts ++ x) buffer c.push_part-written.new.out c.push_part-written.result) (sym all)
    (pushes_both inv.0 now c.args.out.now c.loop-part.out c.push_part-written.new.out c.args.count c.loop-part.written c.push_part-written.result inv.1.0 c.push_part-written.ensures.pushes parts buffer t)

pub loop-part-preserved : goal.loop-part-preserved
loop-part-preserved c =
    let inv = c.loop-part.invariant in
    let r = c.args.rules in
    let from = c.loop-part.from in
    let left = c.loop-part.left.now in
    let part = c.split_part.result.0.now in
    let rest = c.split_part.result.1.now in
    let more = take (length rest - 1) (drop 1 rest) in
    let now = cons_option (part_named r from part) [] in
    let is : rest ≡ get_or rest 0 0 ∷ more = cons_of rest c.in-len1-up.len_at_least in
    let first = first_part r from left part rest more (get_or rest 0 0) is c.split_part.ensures in
    let after = parts_in r (from + (length part + 1)) more in
    let all : parts_in r c.args.at c.args.body.now ≡ (inv.0 ++ now) ++ after = inv.1.1.0 ∙ ap (λ x. inv.0 ++ x) first ∙ sym (append_assoc inv.0 now after) in
    let joined = ap length c.split_part.ensures.joined in
    let sizes = length-append part rest in
    let one = ap length is in
    let few = inv.1.1.1.0 in
    let within = inv.1.1.1.1 in
    let count = c.push_part-written.ensures.count in (
      inv.0 ++ now,
      (
        pushes_both inv.0 now c.args.out.now c.loop-part.out c.push_part-written.new.out c.args.count c.loop-part.written c.push_part-written.result inv.1.0 c.push_part-written.ensures.pushes,
        (all, (omega arith, omega arith)),
      ),
    )
