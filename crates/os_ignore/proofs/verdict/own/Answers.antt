use Rattle.std.proofs.Common.{◌∷◌, ◌++◌, [], ap, get_or, length, refl, sym, subst, ◌∙◌, append_assoc}
use Rattle.std.specs.List.{AllByRecursion}
use Rattle.os_ignore.specs.Verdicts.{FileIsSilent}
use Rattle.os_ignore.proofs.lemmas.Links.{regain_links, left_first, left_further, link_of, link_there, link_within, up_to_within}
use Rattle.os_ignore.proofs.lemmas.Tags.{nil_of_length}
use Rattle.os_ignore.proofs.verdict.own.Goals as goal

pub loop-file-init : goal.loop-file-init
loop-file-init g c = left_first c.args.path.now c.args.is_dir c.args.files.now c.args.above c.requires.above c.split_at.result.0.now c.split_at.ensures.front

pub returns-then-takes_in : goal.returns-then-takes_in
returns-then-takes_in g c =
    let after = c.loop-file.invariant in record {
      front = c.in-Some.before.now;
      file = c.in-Some.file.now;
      back = after.after;
      joined = after.joined ∙ ap (λ z. z ++ after.after) c.in-Some.ensures.cases.0 ∙ append_assoc c.in-Some.before.now (c.in-Some.file.now ∷ []) after.after;
      line = c.in-Some-deciding_line.line.now;
      decides = c.in-Some-deciding_line.ensures;
      none_after = after.silent;
      taken = c.if-takes_in.true;
      numbers = (refl, refl);
    }

pub returns-else-takes_in : goal.returns-else-takes_in
returns-else-takes_in g c =
    let after = c.loop-file.invariant in record {
      front = c.in-Some.before.now;
      file = c.in-Some.file.now;
      back = after.after;
      joined = after.joined ∙ ap (λ z. z ++ after.after) c.in-Some.ensures.cases.0 ∙ append_assoc c.in-Some.before.now (c.in-Some.file.now ∷ []) after.after;
      line = c.in-Some-deciding_line.line.now;
      decides = c.in-Some-deciding_line.ensures;
      none_after = after.silent;
      taken = c.if-takes_in.false;
      numbers = (refl, refl);
    }

pub deciding_line-requires : goal.deciding_line-requires
deciding_line-requires g c = c.loop-file.invariant.ends c.in-Some.before.now c.in-Some.file.now c.in-Some.ensures.cases.0

pub split_at-requires : goal.split_at-requires
split_at-requires g c = up_to_within c.args.path.now c.args.files.now c.args.above c.requires.above

pub bounds-links-before : goal.bounds-links-before
bounds-links-before g c =
    let left = c.loop-file.invariant in
    let joined = left.joined ∙ ap (λ z. z ++ left.after) c.in-Some.ensures.cases.0 in
    link_there c.args.path.now c.args.is_dir c.args.files.now c.args.links.now (regain_links [] c.args.files.now c.args.links.now c.requires.links) c.in-Some.before.now c.in-Some.file.now left.after joined

pub split_at-requires-in-Some : goal.split_at-requires-in-Some
split_at-requires-in-Some g c =
    let left = c.loop-file.invariant in
    let before = c.in-Some.before.now in
    let file = c.in-Some.file.now in
    let joined = left.joined ∙ ap (λ z. z ++ left.after) c.in-Some.ensures.cases.0 in
    link_within before file (get_or c.args.links.now (length before) 0) (link_of c.args.path.now c.args.is_dir c.args.files.now c.args.links.now (regain_links [] c.args.files.now c.args.links.now c.requires.links) before file left.after joined)

pub loop-file-preserved : goal.loop-file-preserved
loop-file-preserved g c =
    let left = c.loop-file.invariant in
    let before = c.in-Some.before.now in
    let file = c.in-Some.file.now in
    let above = left.ends before file c.in-Some.ensures.cases.0 in
    let joined = left.joined ∙ ap (λ z. z ++ left.after) c.in-Some.ensures.cases.0 in
    left_further c.args.path.now c.args.is_dir c.args.files.now c.args.links.now (regain_links [] c.args.files.now c.args.links.now c.requires.links) before file left.after joined above c.in_default-deciding_line.ensures left.silent c.split_at-in-Some.result.0.now c.split_at-in-Some.ensures.front

pub returns : goal.returns
returns g c =
    let after = c.loop-file.invariant in
    let all = after.joined ∙ ap (λ z. z ++ after.after) (nil_of_length c.loop-file.left.now c.in_default.ensures.cases) in
    subst (AllByRecursion (FileIsSilent c.args.path.now c.args.is_dir)) (sym all) after.silent
