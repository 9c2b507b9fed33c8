use Rattle.std.proofs.Common.{◌+◌, [], ◌∷◌, ◌++◌, subst, sym, arith}
use Rattle.wtf8_core.specs.Truncated.{IsTruncated}
use Rattle.wtf8_core.proofs.lemmas.buffers.Truncated.{one_more, one_lost}
use Rattle.osbytes_c.proofs.lemmas.Conversions.{byte_has_room, byte_read, bytes_read}
use Rattle.osbytes_c.proofs.strings.wide.write_some_bytes.Goals.{then-written-out, else-written-out}
use Rattle.osbytes_c.proofs.strings.wide.write_some_bytes.Goals as goal

pub overflow_add-written : goal.overflow_add-written
overflow_add-written c =
    let all = c.loop-byte.invariant in
    let few = byte_has_room c.args.units.now _ _ all.0 _ c.in-Some.ensures.steps all.1.1 in
    let count = all.1.0.count_is in
    omega arith

pub loop-byte-preserved : goal.loop-byte-preserved
loop-byte-preserved c =
    let all = c.loop-byte.invariant in
    let done = all.0 in
    let byte = c.in-Some.byte in
    let old = c.args.out.now in
    let count = c.loop-byte.written in
    let read = byte_read c.args.units.now _ _ done byte c.in-Some.ensures.steps all.1.1 in
    elim c.if-written-out.branch [
      | then-written-out w ↦ (done ++ byte ∷ [], (subst (λ out. IsTruncated (done ++ byte ∷ []) old out (count + 1)) (sym w.out-is) (one_more done old c.loop-byte.out count all.1.0 byte w.if-written-out.true), read))
      | else-written-out w ↦ (done ++ byte ∷ [], (subst (λ out. IsTruncated (done ++ byte ∷ []) old out (count + 1)) (sym w.out-is) (one_lost done old c.loop-byte.out count all.1.0 byte w.if-written-out.false), read))
    ]

pub returns : goal.returns
returns c =
    let all = c.loop-byte.invariant in
    (all.0, (bytes_read c.args.units.now all.0 _ c.in-None.ensures.steps.0 all.1.1, all.1.0))
