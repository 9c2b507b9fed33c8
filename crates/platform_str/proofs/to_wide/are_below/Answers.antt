use Rattle.platform_str.proofs.{Common.◌<◌, Common.w8, Common.arith, Common.subst, lemmas.LaneTests.all_below_splat, lemmas.SixteenLanes.loaded}
use Rattle.platform_str.proofs.to_wide.are_below.Goals as goal

pub returns : goal.returns
returns c = λ none i h.
    let block = loaded c.args.from c.args.bytes.now c.requires in
    subst (λ b. b < c.args.bound) (block.each i h) (all_below_splat w8 c.args.bound 16 _ block.many (omega arith) none i 0 (omega (arith, h, block.many)))
