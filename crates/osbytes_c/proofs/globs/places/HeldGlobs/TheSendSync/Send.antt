-- A place may go to another thread, as what is kept there may.
use denote.Param.Send.{IsSend, AllSend, owning_send, struct_send, sendable}
use denote.Struct.Struct.{exits_of}
use denote.Struct.Owning.{shape, fields, to}
use Rattle.osbytes_c.specs.contracts.globs.sets.Globs.{the_row as W}
use Rattle.osbytes_c.specs.contracts.globs.places.HeldGlobs.{the_row, the_type}
use Rattle.osbytes_c.proofs.lemmas.Places.{keyless, quiet}
use Rattle.osbytes_c.proofs.globs.sets.Globs.TheSendSync.{the_send}

pub send : IsSend the_row
send =
    let all : AllSend (fields the_type) = (search sendable, (search sendable, tt)) in
    owning_send the_type all (λ d. keyless W the_send d.full d.at d.globs)
    (λ k. quiet (to the_type) (exits_of k (fields the_type)) ((struct_send (shape the_type) all).leaving k))
