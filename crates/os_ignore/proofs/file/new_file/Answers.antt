use Rattle.std.proofs.Common.{length, map, sym, ap, subst, ◌∙◌}
use Rattle.os_ignore.specs.Files.{AreThere}
use Rattle.os_ignore.specs.Tags.{AreTags}
use Rattle.os_ignore.proofs.lemmas.Known.{all_lines}
use Rattle.os_ignore.proofs.lemmas.Tags.{own_tags, own_count}
use Rattle.os_ignore.proofs.file.new_file.Goals as goal

pub invariant_of-result : goal.invariant_of-result
invariant_of-result g c =
    let lines = c.in_ok-lines.lines.items in
    let tags = c.in_ok-tags.ensures ∙ ap (map (λ line. line.tag)) c.deref.ensures.value in
    record {
      count = ap length tags ∙ own_count lines;
      tagged = subst (AreTags lines) (sym tags) (own_tags lines c.in_ok-lines.ensures.tags);
      there = subst (λ z. AreThere z lines) (sym c.in_ok-from_slice-2.ensures.items) (all_lines c.args.folds c.args.content.now lines c.in_ok-lines.ensures.lines);
    }
