use Rattle.os_str_ext.proofs.parts.strip_prefix.Goals as goal

pub split_at-requires : goal.split_at-requires
split_at-requires g c = rw c.as_encoded_bytes.ensures.value at (c.has_prefix.ensures.edge c.if-not-has_prefix.false)
