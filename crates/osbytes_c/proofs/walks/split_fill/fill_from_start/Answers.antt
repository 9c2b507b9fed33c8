use Rattle.std.proofs.Common.{◌≡◌, ◌+◌, ◌-◌, true, false, [], ◌∷◌, ◌++◌, length, refl}
use Rattle.osbytes_c.specs.declared.walks.split.Piece.{Piece}
use Rattle.osbytes_c.specs.declared.walks.view.View.{View}
use Rattle.osbytes_c.proofs.lemmas.Fills.{one_more_filled, one_more_piece}
use Rattle.osbytes_c.proofs.walks.split_fill.fill_from_start.Goals as goal

-- the last one
pub returns-in_default : goal.returns-in_default
returns-in_default c =
    let p = c.args.pattern.now in
    let s = c.args.bytes.now in
    let inv = c.loop-count.invariant in
    let next = c.loop-count.next in
    let piece : Piece = record { edge = length s; rest = length s; last = true } in
    let view : View = record { at = c.args.address + next; len = length s - next } in
    record {
      items = inv.0 ++ view ∷ [];
      are = one_more_piece p s c.args.address c.args.at inv.0 next piece view inv.1.0 (c.in_default.ensures.edge, refl) (record { ordered = inv.1.1.1; at = refl; len = refl });
      written = one_more_filled inv.0 c.args.out.now c.loop-count.out c.loop-count.count view inv.1.1.0 c.loop-count-test.true;
      most = λ is. let never : true ≡ false = is in cc;
    }

pub loop-count-preserved : goal.loop-count-preserved
loop-count-preserved c =
    let p = c.args.pattern.now in
    let s = c.args.bytes.now in
    let inv = c.loop-count.invariant in
    let next = c.loop-count.next in
    let piece : Piece = record { edge = c.in-Some.edge; rest = c.in-Some.edge + length p; last = false } in
    let view : View = record { at = c.args.address + next; len = c.in-Some.edge - next } in (
      inv.0 ++ view ∷ [],
      (
        one_more_piece p s c.args.address c.args.at inv.0 next piece view inv.1.0 c.in-Some.ensures.edge (record { ordered = c.in-Some.ensures.within.0; at = refl; len = refl }),
        (one_more_filled inv.0 c.args.out.now c.loop-count.out c.loop-count.count view inv.1.1.0 c.loop-count-test.true, c.in-Some.ensures.within.1),
      ),
    )
