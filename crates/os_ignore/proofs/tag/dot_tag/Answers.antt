use Rattle.std.proofs.Common.{sym, ap, ◌∙◌}
use Rattle.os_ignore.specs.Tags.{tag_of}
use Rattle.os_ignore.proofs.lemmas.Cuts.{not_plain, same_back}
use Rattle.os_ignore.proofs.tag.dot_tag.Goals as goal

pub returns-in-Some : goal.returns-in-Some
returns-in-Some c =
    λ front back cut plain.
    c.tag_of.ensures ∙ ap tag_of (same_back 0x2E _ c.in-Some.text.now front back (sym c.in-Some.ensures.0 ∙ cut) c.in-Some.ensures.1 plain)

pub returns-in-None : goal.returns-in-None
returns-in-None c = λ front back cut plain. absurd (not_plain 0x2E front back (rw cut at c.in-None.ensures))
