use Rattle.platform_str.proofs.Common.{true, refl, sym, ap, ◌∙◌, formatter_spec, spec_align, spec_fill, spec_width, fill_before}
use Rattle.std.proofs.Output.{has_written_styled_append, has_written_styled_of_eq}
use Rattle.platform_str.proofs.lemmas.Displays.{filled_by}
use Rattle.platform_str.proofs.writeable.write_filled.Goals as goal

pub returns-in_ok-write_to-in-Some-clause-filled : goal.returns-in_ok-write_to-in-Some-clause-filled
returns-in_ok-write_to-in-Some-clause-filled g c = λ flush ok.
    let spec = formatter_spec c.args.f.now in
    let before = c.in_ok-write_fill-in-Some.ensures flush (refl {a = true}) in
    let text = c.in_ok-write_to-in-Some.ensures before.flush (refl {a = true}) in
    let after = c.write_fill-in-Some.ensures text.flush ok in
    let all = has_written_styled_append _ _ _ _ _ _ before (has_written_styled_append _ _ _ _ _ _ text after) in
    has_written_styled_of_eq _ _ _ _ _
    (filled_by (spec_fill spec) _ (spec_align spec) (spec_width spec) c.in-Some.width _ _ (g.T.Writeable.text c.args.text.now)
    (ap spec_fill (text.spec ∙ before.spec)) (sym c.in-Some.ensures.value) c.in_ok-padding-in-Some.ensures (c.fill_before-before.ensures.value ∙ ap (λ a. fill_before a c.in_ok-padding-in-Some.padding) c.align.ensures))
    all
