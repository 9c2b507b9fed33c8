use Rattle.os_quote.proofs.Common.{◌≡◌, ◌+◌, ◌*◌, sym, ap, ◌∙◌}
use Rattle.os_quote.proofs.{lemmas.ByteTexts.past, lemmas.ByteTexts.word_has_text, write_bytes.word_of.Goals.in-Text, write_bytes.word_of.Goals.in-Line}
use Rattle.os_quote.proofs.write_bytes.word_of.Goals as goal

pub returns : goal.returns
returns c =
    let b = c.args.byte in
    let is : c.match-form.past ≡ past c.args.form b = elim c.match-form.branch [
      | in-Text w ↦ w.past-is ∙ sym (ap (λ f. past f b) w.in-Text.is)
      | in-Line w ↦ w.past-is ∙ ap (λ n. n * 0x100) w.from.ensures ∙ sym (ap (λ f. past f b) w.in-Line.is)
    ] in
    let has = word_has_text c.args.form b _ c.ranges.byte.fits (ap (λ n. n + c.match-form.past) c.from-2.ensures ∙ ap (λ n. b + n) is) in
    record { few = has.0; text = has.1; utf8 = has.2 }
