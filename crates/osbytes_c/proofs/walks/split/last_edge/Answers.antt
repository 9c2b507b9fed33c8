use Rattle.std.proofs.Common.{take}
use Rattle.wtf8_core.specs.Occurrence.{IsLastIndex}
use Rattle.osbytes_c.proofs.lemmas.Steps.{last_piece_at}
use Rattle.osbytes_c.proofs.walks.split.last_edge.Goals as goal

pub returns-in-Some-clause-edge : goal.returns-in-Some-clause-edge
returns-in-Some-clause-edge c =
    let s = c.args.bytes.now in
    let p = c.args.pattern.now in
    let at = c.args.at in
    let i = c.in-Some.index in
    let greatest : IsLastIndex p (take at s) i = rw (c.unix.ensures, c.split_at.ensures.front) at c.in-Some.ensures.bytes in
    last_piece_at p s at i c.requires greatest

pub returns-in-None-clause-edge : goal.returns-in-None-clause-edge
returns-in-None-clause-edge c = rw (c.unix.ensures, c.split_at.ensures.front) at c.in-None.ensures.bytes
