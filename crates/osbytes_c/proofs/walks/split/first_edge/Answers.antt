use Rattle.std.proofs.Common.{drop}
use Rattle.wtf8_core.specs.Occurrence.{IsFirstIndex}
use Rattle.osbytes_c.proofs.lemmas.Steps.{piece_at}
use Rattle.osbytes_c.proofs.walks.split.first_edge.Goals as goal

pub returns-in-Some-clause-edge : goal.returns-in-Some-clause-edge
returns-in-Some-clause-edge c =
    let s = c.args.bytes.now in
    let p = c.args.pattern.now in
    let at = c.args.at in
    let i = c.in-Some.index in
    let least : IsFirstIndex p (drop at s) i = rw (c.unix.ensures, c.split_at.ensures.back) at c.in-Some.ensures.bytes in
    piece_at p s at i least

pub returns-in-None-clause-edge : goal.returns-in-None-clause-edge
returns-in-None-clause-edge c = rw (c.unix.ensures, c.split_at.ensures.back) at c.in-None.ensures.bytes
