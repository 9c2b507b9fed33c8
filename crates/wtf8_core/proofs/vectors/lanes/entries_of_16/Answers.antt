use Rattle.wtf8_core.proofs.Common.{◌<◌, refl, arith, w8, get_or-take}
use Rattle.std.proofs.lemmas.Simd.{SwzOk-from_below, Each1-from_get_or, get_or-swz_l_below}
use Rattle.wtf8_core.proofs.vectors.lanes.entries_of_16.Goals as goal

pub swizzle : goal.swizzle
swizzle c = SwzOk-from_below w8 16 1 16 0 c.args.indices refl (omega (arith, c.fits-indices.0)) (Each1-from_get_or (λ j. j < 16) c.args.indices 0 (λ i h. c.requires.indices i (omega (arith, h, c.fits-indices.0))))

pub returns : goal.returns
returns c i h = grind (arith, get_or-swz_l_below, get_or-take)
