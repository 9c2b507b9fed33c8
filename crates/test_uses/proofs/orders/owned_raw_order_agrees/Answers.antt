use Rattle.std.proofs.Common.{rules}
use Rattle.test_uses.proofs.EqualOrder.{equal_where_same}
use Rattle.test_uses.proofs.orders.owned_raw_order_agrees.Goals as goal

pub returns : goal.returns
returns g c =
    let agree = equal_where_same _ _ _ _ c.raw_owned_comparisons.ensures.equal c.raw_owned_comparisons.ensures.order in
    search (rules, agree)
