use Rattle.std.proofs.Common.{◌+◌, [], ◌∷◌, ◌++◌, subst, sym, arith}
use Rattle.wtf8_core.specs.Truncated.{IsTruncated}
use Rattle.wtf8_core.proofs.lemmas.buffers.Truncated.{one_more, one_lost}
use Rattle.osbytes_c.proofs.lemmas.Conversions.{unit_has_room, unit_read, fault_read, units_read}
use Rattle.osbytes_c.proofs.strings.wide.write_units.Goals.{then-written-out, else-written-out}
use Rattle.osbytes_c.proofs.strings.wide.write_units.Goals as goal

pub overflow_add-written : goal.overflow_add-written
overflow_add-written c =
    let all = c.loop-item.invariant in
    let few = unit_has_room c.args.bytes.now all.0 _ _ _ c.in-Some.ensures.steps all.1.1 in
    let count = all.1.0.count_is in
    omega arith

pub loop-item-preserved : goal.loop-item-preserved
loop-item-preserved c =
    let all = c.loop-item.invariant in
    let done = all.0 in
    let unit = c.in-Ok.unit in
    let old = c.args.out.now in
    let count = c.loop-item.written in
    let read = unit_read c.args.bytes.now done _ _ _ c.in-Some.ensures.steps all.1.1 unit c.in-Ok.is in
    elim c.if-written-out.branch [
      | then-written-out w ↦ (done ++ unit ∷ [], (subst (λ out. IsTruncated (done ++ unit ∷ []) old out (count + 1)) (sym w.out-is) (one_more done old c.loop-item.out count all.1.0 unit w.if-written-out.true), read))
      | else-written-out w ↦ (done ++ unit ∷ [], (subst (λ out. IsTruncated (done ++ unit ∷ []) old out (count + 1)) (sym w.out-is) (one_lost done old c.loop-item.out count all.1.0 unit w.if-written-out.false), read))
    ]

pub returns-in-Err : goal.returns-in-Err
returns-in-Err c = fault_read c.args.bytes.now c.loop-item.invariant.0 _ _ _ c.in-Some.ensures.steps c.loop-item.invariant.1.1 c.in-Err.error c.in-Err.is

pub returns : goal.returns
returns c =
    let all = c.loop-item.invariant in
    (all.0, (units_read c.args.bytes.now all.0 _ c.in-None.ensures.steps.0 all.1.1, all.1.0))
