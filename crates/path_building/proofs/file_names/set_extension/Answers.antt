use Rattle.std.proofs.Common.{◌≤◌, ◌++◌, ◌-◌, length, take, inl, ap, ◌∙◌, subst, refl}
use Rattle.path_building.specs.FileName.{IsNameEnd}
use Rattle.path_building.proofs.lemmas.FileNames.{stem_extended}
use Rattle.path_building.proofs.file_names.set_extension.Goals as goal

pub returns-clause-ok : goal.returns-clause-ok
returns-clause-ok g c =
    let w = c.args.style in
    let path = c.args.path.now.items in
    let e = c.as_slice.ensures.value in
    let n = c.in-Some.end in
    let keep = n - (length c.in-Some.name.now - length c.stem.result.now) in
    inl (
      refl,
      stem_extended w path c.in-Some.name.now c.stem.result.now c.args.extension.now c.set_end.new.vec.items n (subst (λ x. n ≤ length x) e c.in-Some.ensures.0) (subst (λ x. IsNameEnd w x n c.in-Some.name.now) e c.in-Some.ensures.1) c.stem.ensures
          (c.in_ok-set_end.ensures.ok ∙ ap (λ x. take keep path ++ x) c.dot_before.ensures),
    )
