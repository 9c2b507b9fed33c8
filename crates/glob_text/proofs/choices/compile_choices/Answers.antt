use Rattle.std.proofs.Common.{map, subst, sym, ◌∙◌}
use Rattle.glob_text.specs.Backwards.{choices_behind, at_end}
use Rattle.glob_text.specs.Marks.{mark_of}
use Rattle.glob_text.specs.Parts.{AreCompiled}
use Rattle.glob_text.proofs.lemmas.Meanings.{choices_alike}
use Rattle.glob_text.proofs.lemmas.Merged.{merged_alike}
use Rattle.glob_text.proofs.lemmas.Sizes.{choices_are, too_large, within_limits}
use Rattle.glob_text.proofs.choices.compile_choices.Goals as goal

pub returns-then-is_too_large : goal.returns-then-is_too_large
returns-then-is_too_large g c =
    let marks = map mark_of c.args.marks.now in
    let all = (choices_behind marks at_end).current in
    record {
      choices = all;
      are = choices_are marks c.requires;
      many = too_large all c.in_ok-drawing.drawing.current.size c.in_ok-drawing.ensures.current.size c.is_too_large.result c.is_too_large.ensures c.if-is_too_large.true;
    }

pub returns-then-choices-le-MOST_APART : goal.returns-then-choices-le-MOST_APART
returns-then-choices-le-MOST_APART g c =
    let marks = map mark_of c.args.marks.now in
    let all = (choices_behind marks at_end).current in
    record {
      written_out = all;
      are = choices_are marks c.requires;
      limits = within_limits all c.in_ok-drawing.drawing.current.size c.in_ok-drawing.ensures.current.size c.is_too_large.result c.is_too_large.ensures c.if-is_too_large.false;
      matched = λ p e path. choices_alike p all c.in_ok-compile_drawn.field-0.items path (subst (λ z. AreCompiled z all c.in_ok-compile_drawn.field-0.items) (sym e) c.in_ok-compile_drawn.ensures);
    }

pub returns : goal.returns
returns g c =
    let marks = map mark_of c.args.marks.now in
    let all = (choices_behind marks at_end).current in
    let merged = map mark_of c.in_ok-merged.merged.items in
    let few = (choices_behind merged at_end).current in
    let compiled = c.in_ok-compile_drawn-2.field-0.items in
    record {
      written_out = all;
      are = choices_are marks c.requires;
      limits = within_limits all c.in_ok-drawing.drawing.current.size c.in_ok-drawing.ensures.current.size c.is_too_large.result c.is_too_large.ensures c.if-is_too_large.false;
      matched = λ p e path.
          let same = merged_alike p c.args.separators marks merged e c.in_ok-merged.ensures path in
          let are = subst (λ z. AreCompiled c.args.separators (choices_behind (map mark_of z) at_end).current compiled) c.deref-2.ensures.value c.in_ok-compile_drawn-2.ensures in
          let each = choices_alike p few compiled path (subst (λ z. AreCompiled z few compiled) (sym e) are) in
          (λ k. same.1 (each.0 k), λ k. each.1 (same.0 k));
    }
