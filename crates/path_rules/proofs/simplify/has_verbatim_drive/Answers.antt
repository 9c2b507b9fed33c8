use Rattle.path_rules.specs.PrefixViews.{kind_of}
use Rattle.path_rules.proofs.lemmas.Simple.{other_kind, no_drive_kind}
use Rattle.path_rules.proofs.simplify.has_verbatim_drive.Goals as goal

pub returns-in_default : goal.returns-in_default
returns-in_default c = (
  λ e. cc,
  λ p. absurd (other_kind c.args.path.now (kind_of c.in-Some.prefix) c.in-Some.field-0-1.now c.in-Some.ensures (no_drive_kind c.in-Some.prefix (λ letter e. c.in_default.not-VerbatimDisk letter e)) p),
)
