use Rattle.std.proofs.Common.{[], ◌∷◌, ◌++◌, arith}
use Rattle.wtf8_core.proofs.lemmas.buffers.Truncated.{one_more}
use Rattle.osbytes_c.proofs.lemmas.Conversions.{byte_has_room, byte_read, bytes_read}
use Rattle.osbytes_c.proofs.strings.wide.write_bytes.Goals as goal

pub bounds-out-written : goal.bounds-out-written
bounds-out-written c =
    let all = c.loop-byte.invariant in
    let few = byte_has_room c.args.units.now _ _ all.0 _ c.in-Some.ensures.steps all.1.1 in
    let count = all.1.0.count_is in
    let same = all.1.0.same_length in
    omega (arith, c.requires)

pub overflow_add-written : goal.overflow_add-written
overflow_add-written c =
    let all = c.loop-byte.invariant in
    let few = byte_has_room c.args.units.now _ _ all.0 _ c.in-Some.ensures.steps all.1.1 in
    let count = all.1.0.count_is in
    omega arith

pub loop-byte-preserved : goal.loop-byte-preserved
loop-byte-preserved c =
    let all = c.loop-byte.invariant in
    let done = all.0 in
    let byte = c.in-Some.byte in
    let read = byte_read c.args.units.now _ _ done byte c.in-Some.ensures.steps all.1.1 in
    (done ++ byte ∷ [], (one_more done c.args.out.now c.loop-byte.out c.loop-byte.written all.1.0 byte (bounds-out-written c), read))

pub returns : goal.returns
returns c =
    let all = c.loop-byte.invariant in
    (all.0, (bytes_read c.args.units.now all.0 _ c.in-None.ensures.steps.0 all.1.1, all.1.0))
