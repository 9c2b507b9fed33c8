use Rattle.os_str_ext.proofs.Common.{◌∙◌, ◌<◌, ap, drop, length, subst, sym, take, take-take, HasNoCharacter, chunks_of}
use Rattle.os_str_ext.proofs.lemmas.FirstChunk.{edges, part_is_uncovered, first_and_rest, same_first}
use Rattle.os_str_ext.proofs.chunks.first_chunk.Goals as goal

pub from_encoded_bytes_unchecked-requires : goal.from_encoded_bytes_unchecked-requires
from_encoded_bytes_unchecked-requires g c =
    let s = c.as_encoded_bytes-bytes.result.now in
    let m = c.first_text-uncovered.result.0.start in
    let h = c.first_text-uncovered.ensures.ends in
    subst g.E.Platform.well_formed (sym (c.split_at-2.ensures.front ∙ ap (take m) c.split_at.ensures.front ∙ take-take m _ s h.ordered))
    (g.met.E.Platform.laws.cut_prefix s m c.as_encoded_bytes-bytes.ensures.formed (edges s m _ h).0)

pub new-part-requires : goal.new-part-requires
new-part-requires g c =
    let s = c.as_encoded_bytes-bytes.result.now in
    let m = c.first_text-uncovered.result.0.start in
    let h = c.first_text-uncovered.ensures.ends in
    subst HasNoCharacter (sym (c.from_encoded_bytes_unchecked.ensures ∙ c.split_at-2.ensures.front ∙ ap (take m) c.split_at.ensures.front ∙ take-take m _ s h.ordered)) (part_is_uncovered s m _ h)

pub from_encoded_bytes_unchecked-rest-requires : goal.from_encoded_bytes_unchecked-rest-requires
from_encoded_bytes_unchecked-rest-requires g c =
    let s = c.as_encoded_bytes-bytes.result.now in
    let h = c.first_text-uncovered.ensures.ends in
    subst g.E.Platform.well_formed (sym c.split_at.ensures.back) (g.met.E.Platform.laws.cut_suffix s _ c.as_encoded_bytes-bytes.ensures.formed (edges s _ _ h).1)

pub returns : goal.returns
returns g c =
    let s = c.as_encoded_bytes-bytes.result.now in
    let value = c.as_encoded_bytes-bytes.ensures.value in
    let m = c.first_text-uncovered.result.0.start in
    let h = c.first_text-uncovered.ensures.ends in
    let prefix = c.split_at.ensures.front in
    ap chunks_of (sym value)
    ∙ first_and_rest s m _ h (subst (λ x. 0 < length x) (sym value) c.requires.some)
    ∙ sym (same_first
    (c.new-part.ensures ∙ c.from_encoded_bytes_unchecked.ensures ∙ c.split_at-2.ensures.front ∙ ap (take m) prefix ∙ take-take m _ s h.ordered)
    (c.from_utf8_unchecked-text.ensures ∙ c.split_at-2.ensures.back ∙ ap (drop m) prefix)
    (c.from_encoded_bytes_unchecked-rest.ensures ∙ c.split_at.ensures.back))
