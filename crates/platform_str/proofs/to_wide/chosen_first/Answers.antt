use Rattle.platform_str.proofs.lemmas.Choices.{row_chooses}
use Rattle.platform_str.proofs.to_wide.chosen_first.Goals as goal

pub swizzle : goal.swizzle
swizzle c = (row_chooses c.args.units c.args.mask c.fits-units.0 c.requires).0

pub returns : goal.returns
returns c = (row_chooses c.args.units c.args.mask c.fits-units.0 c.requires).1
