use Rattle.std.proofs.Common.{◌≡◌, ◌++◌, ◌∷◌, true, is_ok, take, drop, length, [], subst, sym, ap, ◌∙◌, arith, length-append}
use Rattle.std.proofs.lemmas.Bool.{false≢true}
use Rattle.os_ignore.specs.Directories.{AreLonger, EndsNoLonger}
use Rattle.os_ignore.specs.Links.{AreLinks, IsUpTo, opened}
use Rattle.os_ignore.proofs.lemmas.Links.{chosen, links_after, links_length, regain_links, linked_with}
use Rattle.os_ignore.proofs.lemmas.Rests.{drop_front, inserted}
use Rattle.os_ignore.proofs.ignore.Ignore.add_with.Goals as goal

pub insert-requires : goal.insert-requires
insert-requires g c =
    let place = c.files_before-before.ensures in
    let parts = length-append c.files_before-before.result.now place.after in
    omega (arith, parts, ap length place.joined, ap length c.deref.ensures.value, c.args.self.now.files.ok.0)

pub returns-clause-added : goal.returns-clause-added
returns-clause-added g c =
    let place = c.files_before-before.ensures in
    let files = c.deref.ensures.value in
    let old = sym files ∙ place.joined in
    record {
      before = c.files_before-before.result.now;
      file = c.in_ok-added.added;
      place = record { after = place.after; joined = old; no_longer = place.no_longer; longer = place.longer };
      joined = c.in_ok-insert.ensures.items ∙ inserted c.args.self.now.files.items c.files_before-before.result.now place.after c.in_ok-added.added old;
      file_is = record {
        number_is = c.in_ok-added.ensures.0 ∙ c.len.ensures ∙ sym (sym (ap length files) ∙ c.deref.ensures.len);
        directory_is = c.in_ok-added.ensures.1.0;
        content_is = c.in_ok-added.ensures.1.1.0;
        lines = c.in_ok-added.ensures.1.1.1;
      };
    }

pub split_at-requires : goal.split_at-requires
split_at-requires g c =
    let place = c.files_before-before.ensures in
    let parts = length-append c.files_before-before.result.now place.after in
    omega (arith, parts, ap length place.joined, ap length c.deref.ensures.value, ap length c.deref-2.ensures.value)

pub split_at-requires-2 : goal.split_at-requires-2
split_at-requires-2 g c =
    let place = c.files_before-before.ensures in
    let parts = length-append c.files_before-before.result.now place.after in
    let count = links_length [] c.args.self.now.files.items c.args.self.now.links.items (regain_links [] c.args.self.now.files.items c.args.self.now.links.items c.args.self.now.linked) in
    omega (arith, parts, count, ap length place.joined, ap length c.deref.ensures.value, ap length c.deref-3.ensures.value)

pub moved_links-requires-clause-links : goal.moved_links-requires-clause-links
moved_links-requires-clause-links g c =
    let before = c.files_before-before.result.now in
    let place = c.files_before-before.ensures in
    let joined = sym c.deref.ensures.value ∙ place.joined in
    let after = c.split_at.ensures.back ∙ ap (drop (length before)) (c.deref-2.ensures.value ∙ joined) ∙ drop_front before place.after in
    let links = c.split_at-2.ensures.back ∙ ap (drop (length before)) c.deref-3.ensures.value in
    subst (λ z. AreLinks before z c.split_at-2.result.1.now) (sym after)
    (subst (AreLinks before place.after) (sym links) (links_after c.args.self.now.files.items before place.after c.args.self.now.links.items joined c.args.self.now.linked))

pub moved_links-requires-clause-longer : goal.moved_links-requires-clause-longer
moved_links-requires-clause-longer g c =
    let before = c.files_before-before.result.now in
    let place = c.files_before-before.ensures in
    let joined = sym c.deref.ensures.value ∙ place.joined in
    let after = c.split_at.ensures.back ∙ ap (drop (length before)) (c.deref-2.ensures.value ∙ joined) ∙ drop_front before place.after in
    subst (AreLonger c.args.directory.now) (sym after) place.longer

pub moved_links-requires-clause-room : goal.moved_links-requires-clause-room
moved_links-requires-clause-room g c =
    let before = c.files_before-before.result.now in
    let place = c.files_before-before.ensures in
    let joined = sym c.deref.ensures.value ∙ place.joined in
    let after = c.split_at.ensures.back ∙ ap (drop (length before)) (c.deref-2.ensures.value ∙ joined) ∙ drop_front before place.after in
    let parts = length-append before place.after in
    omega (arith, parts, ap length joined, ap length after, c.args.self.now.files.ok.0)

pub invariant_of-self-2 : goal.invariant_of-self-2
invariant_of-self-2 g c =
    let before = c.files_before-before.result.now in
    let place = c.files_before-before.ensures in
    let joined = sym c.deref.ensures.value ∙ place.joined in
    let after = c.split_at.ensures.back ∙ ap (drop (length before)) (c.deref-2.ensures.value ∙ joined) ∙ drop_front before place.after in
    let added = c.in_ok-added.added in
    let own = c.in_ok-added.ensures.1.0 in
    let moved = subst (λ z. AreLinks (before ++ added ∷ []) z c.in_ok-moved.moved.items) after (c.in_ok-moved.ensures added own) in
    let old = c.args.self.now.links.items in
    let count = links_length [] c.args.self.now.files.items old (regain_links [] c.args.self.now.files.items old c.args.self.now.linked) in
    let size = links_length (before ++ added ∷ []) place.after c.in_ok-moved.moved.items moved in
    let parts = length-append before place.after in
    let room : is_ok c.extend_from_slice.result ≡ true = c.extend_from_slice.ensures.succeeds (omega (arith, count, size, parts, ap length joined, ap length c.deref-3.ensures.value, ap length c.deref-4.ensures.value, c.deref-3.ensures.len, c.deref-4.ensures.len, c.in_ok-reserve.ensures.ok, c.in_ok-reserve.ensures.len, c.truncate.ensures.len, c.truncate.ensures.capacity, c.in_ok-push.ensures.len, c.in_ok-push.ensures.capacity)) in
    let link = c.files_around-link.result in
    let kept = c.truncate.ensures.items ∙ ap (take (length before)) c.in_ok-reserve.ensures.items in
    let pushed = c.in_ok-push.ensures.items ∙ ap (λ z. z ++ link ∷ []) kept in
    let all = chosen (is_ok c.extend_from_slice.result) _ _ _ room c.extend_from_slice.ensures.items ∙ ap (λ z. z ++ c.deref-4.result.now) pushed ∙ ap (λ z. (take (length before) old ++ link ∷ []) ++ z) c.deref-4.ensures.value in
    let files = c.in_ok-insert.ensures.items ∙ inserted c.args.self.now.files.items before place.after added joined in
    let no_longer = subst (λ z. EndsNoLonger z before) (sym own) place.no_longer in
    let up_to = subst (λ z. IsUpTo (opened z) before link) (sym own) c.files_around-link.ensures in
    record {
      linked = ∣ subst (λ z. AreLinks [] z c.extend_from_slice.new.self.items) (sym files) (subst (AreLinks [] (before ++ added ∷ place.after)) (sym all) (linked_with c.args.self.now.files.items before place.after added old c.in_ok-moved.moved.items link joined c.args.self.now.linked no_longer up_to moved)) ∣₁;
    }

pub returns-in_err-extend_from_slice-clause-unchanged : goal.returns-in_err-extend_from_slice-clause-unchanged
returns-in_err-extend_from_slice-clause-unchanged g c =
    let before = c.files_before-before.result.now in
    let place = c.files_before-before.ensures in
    let joined = sym c.deref.ensures.value ∙ place.joined in
    let after = c.split_at.ensures.back ∙ ap (drop (length before)) (c.deref-2.ensures.value ∙ joined) ∙ drop_front before place.after in
    let added = c.in_ok-added.added in
    let own = c.in_ok-added.ensures.1.0 in
    let moved = subst (λ z. AreLinks (before ++ added ∷ []) z c.in_ok-moved.moved.items) after (c.in_ok-moved.ensures added own) in
    let old = c.args.self.now.links.items in
    let count = links_length [] c.args.self.now.files.items old (regain_links [] c.args.self.now.files.items old c.args.self.now.linked) in
    let size = links_length (before ++ added ∷ []) place.after c.in_ok-moved.moved.items moved in
    let parts = length-append before place.after in
    absurd (false≢true (c.in_err-extend_from_slice.ensures.succeeds (omega (arith, count, size, parts, ap length joined, ap length c.deref-3.ensures.value, ap length c.deref-4.ensures.value, c.deref-3.ensures.len, c.deref-4.ensures.len, c.in_ok-reserve.ensures.ok, c.in_ok-reserve.ensures.len, c.truncate.ensures.len, c.truncate.ensures.capacity, c.in_ok-push.ensures.len, c.in_ok-push.ensures.capacity))))
