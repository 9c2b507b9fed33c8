use Rattle.std.proofs.Common.{◌∷◌, ◌+◌, ◌-◌, ◌≤◌, length, subst, sym, ap, ◌∙◌}
use Rattle.wtf8_core.specs.Chunks.{AreChunks}
use Rattle.platform_str.specs.Strings.{bytes}
use Rattle.os_str_ext.specs.Parts.{part_bytes}
use Rattle.osbytes_c.specs.Steps.{IsChunkAt}
use Rattle.osbytes_c.proofs.lemmas.Steps.{chunk_at}
use Rattle.osbytes_c.proofs.walks.chunks.chunk_after.Goals as goal

pub returns-clause-chunk : goal.returns-clause-chunk
returns-clause-chunk c =
    let s = c.args.bytes.now in
    let at = c.args.at in
    let p = part_bytes c.in-Some.part in
    let t = c.in-Some.field-0-1.now in
    let within : at ≤ length s = c.requires in
    let all = subst (AreChunks (bytes c.unix.result)) c.in-Some.ensures.steps c.utf8_chunks-chunks.ensures.chunks in
    let here = subst (λ r. AreChunks r ((p, t) ∷ c.next.new.self)) (c.unix.ensures ∙ c.split_at.ensures.back) all in
    let found = chunk_at s at p t (bytes c.rest.result) c.next.new.self within here c.rest.ensures.chunks in
    let moved = subst (λ n. IsChunkAt s at (record { part = at + n; text = length s - length (bytes c.rest.result) })) (sym (c.len.ensures ∙ ap length c.as_os_str.ensures.value)) found in
    subst (λ n. IsChunkAt s at (record { part = at + c.len.result; text = length s - n })) (sym c.len-2.ensures) moved
