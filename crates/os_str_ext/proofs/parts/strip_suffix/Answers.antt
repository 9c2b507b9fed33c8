use Rattle.os_str_ext.proofs.parts.strip_suffix.Goals as goal

pub split_at-requires : goal.split_at-requires
split_at-requires g c = rw c.len.ensures (rw c.as_encoded_bytes.ensures.value at (c.ends_with.ensures.edge c.if-not-ends_with.false))
