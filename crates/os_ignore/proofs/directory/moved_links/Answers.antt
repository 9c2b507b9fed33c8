use Rattle.std.proofs.Common.{◌++◌, ◌∷◌, [], length, refl, ap, sym, subst, ◌∙◌, append_assoc, length-append, arith}
use Rattle.std.proofs.lemmas.List.{append-nil}
use Rattle.os_ignore.specs.Directories.{AreLonger}
use Rattle.os_ignore.specs.Links.{AreLinks, IsMoved}
use Rattle.os_ignore.proofs.lemmas.Links.{links_pushed, link_moved, link_within}
use Rattle.os_ignore.proofs.lemmas.Tags.{nil_of_length}
use Rattle.os_ignore.proofs.directory.moved_links.Goals as goal

pub loop-file-init : goal.loop-file-init
loop-file-init g c = record {
  done = [];
  joined = refl;
  links = subst (λ z. AreLinks z c.args.files.now c.args.links.now) (sym (append-nil c.args.before.now)) c.requires.links;
  longer = c.requires.longer;
  moved = λ file e. subst (AreLinks (c.args.before.now ++ file ∷ []) []) (sym c.new-moved.ensures.items) tt;
}

pub moved_link-requires-clause-link : goal.moved_link-requires-clause-link
moved_link-requires-clause-link g c =
    let i = c.loop-file.invariant in
    let link = subst (λ z. AreLinks (c.args.before.now ++ i.done) z c.loop-file.unmoved.now) c.in-Some.ensures.cases.0 i.links in
    let own = subst (AreLinks (c.args.before.now ++ i.done) (c.in-Some.file.now ∷ c.in-Some.others.now)) c.in-Some-split_first.ensures.cases.0 link in
    let within = link_within (c.args.before.now ++ i.done) c.in-Some.file.now c.in-Some-split_first.link.now own.0 in
    let size = length-append c.args.before.now i.done in
    let whole = ap length i.joined in
    let parts = length-append i.done c.loop-file.left.now in
    let here = ap length c.in-Some.ensures.cases.0 in
    omega (arith, within, size, whole, parts, here, c.requires.room)

pub moved_link-requires-clause-index : goal.moved_link-requires-clause-index
moved_link-requires-clause-index g c = omega (arith, c.requires.room)

pub loop-file-preserved : goal.loop-file-preserved
loop-file-preserved g c =
    let i = c.loop-file.invariant in
    let before = c.args.before.now in
    let file = c.in-Some.file.now in
    let others = c.in-Some.others.now in
    let link = subst (λ z. AreLinks (before ++ i.done) z c.loop-file.unmoved.now) c.in-Some.ensures.cases.0 i.links in
    let own = subst (AreLinks (before ++ i.done) (file ∷ others)) c.in-Some-split_first.ensures.cases.0 link in
    let longer = subst (AreLonger c.args.directory.now) c.in-Some.ensures.cases.0 i.longer in
    record {
      done = i.done ++ file ∷ [];
      joined = i.joined ∙ ap (λ z. i.done ++ z) c.in-Some.ensures.cases.0 ∙ sym (append_assoc i.done (file ∷ []) others);
      links = subst (λ z. AreLinks z others c.in-Some-split_first.further.now) (append_assoc before i.done (file ∷ [])) own.1;
      longer = longer.1;
      moved = λ added e.
          subst (AreLinks (before ++ added ∷ []) (i.done ++ file ∷ [])) (sym c.in_ok-push.ensures.items)
          (links_pushed (before ++ added ∷ []) i.done file c.loop-file.moved.items c.moved_link.result (i.moved added e) (link_moved c.args.directory.now before i.done file c.in-Some-split_first.link.now c.moved_link.result added e longer.0 own.0 (subst (λ z. IsMoved (length before) c.args.directory.now z c.in-Some-split_first.link.now c.moved_link.result) c.deref.ensures.value c.moved_link.ensures)));
    }

pub returns : goal.returns
returns g c = λ file e.
    let i = c.loop-file.invariant in
    let all = i.joined ∙ ap (λ z. i.done ++ z) (nil_of_length c.loop-file.left.now c.in_default.ensures.cases) ∙ append-nil i.done in
    subst (λ z. AreLinks (c.args.before.now ++ file ∷ []) z c.loop-file.moved.items) (sym all) (i.moved file e)
