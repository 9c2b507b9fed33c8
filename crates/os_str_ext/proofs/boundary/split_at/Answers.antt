use Rattle.os_str_ext.proofs.Common.{sym, ap, ◌∙◌, subst, take, drop, bytes}
use Rattle.os_str_ext.proofs.boundary.split_at.Goals as goal

pub from_encoded_bytes_unchecked-requires : goal.from_encoded_bytes_unchecked-requires
from_encoded_bytes_unchecked-requires g c =
    subst g.E.Platform.well_formed (sym (c.split_at.ensures.front ∙ ap (take c.args.at) c.as_encoded_bytes.ensures.value)) (g.met.E.Platform.laws.cut_prefix (bytes c.args.string) c.args.at c.args.string.ok c.requires)

pub from_encoded_bytes_unchecked-requires-2 : goal.from_encoded_bytes_unchecked-requires-2
from_encoded_bytes_unchecked-requires-2 g c =
    subst g.E.Platform.well_formed (sym (c.split_at.ensures.back ∙ ap (drop c.args.at) c.as_encoded_bytes.ensures.value)) (g.met.E.Platform.laws.cut_suffix (bytes c.args.string) c.args.at c.args.string.ok c.requires)

pub returns-clause-units : goal.returns-clause-units
returns-clause-units g c = rw (c.from_encoded_bytes_unchecked.ensures, c.from_encoded_bytes_unchecked-2.ensures, c.split_at.ensures.front, c.split_at.ensures.back, c.as_encoded_bytes.ensures.value) (g.met.E.Platform.laws.cut_units (bytes c.args.string) c.args.at c.args.string.ok c.requires)
