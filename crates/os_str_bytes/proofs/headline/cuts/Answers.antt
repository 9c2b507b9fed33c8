use Rattle.os_str_bytes.proofs.lemmas.Halves.{prefix_fits, suffix_fits}
use Rattle.os_str_bytes.proofs.headline.cuts.Goals as goal

pub split_at-requires : goal.split_at-requires
split_at-requires g c = c.is_boundary.ensures.0 c.if-not-is_boundary.false

pub index-requires : goal.index-requires
index-requires g c = prefix_fits _ _ (c.is_boundary.ensures.0 c.if-not-is_boundary.false)

pub index-requires-2 : goal.index-requires-2
index-requires-2 g c = suffix_fits _ _ (c.is_boundary.ensures.0 c.if-not-is_boundary.false)

pub get_unchecked-requires : goal.get_unchecked-requires
get_unchecked-requires g c = prefix_fits _ _ (c.is_boundary.ensures.0 c.if-not-is_boundary.false)

pub get_unchecked-requires-2 : goal.get_unchecked-requires-2
get_unchecked-requires-2 g c = suffix_fits _ _ (c.is_boundary.ensures.0 c.if-not-is_boundary.false)

pub split_copy-requires : goal.split_copy-requires
split_copy-requires g c = c.is_boundary.ensures.0 c.if-not-is_boundary.false

pub truncated_copy-requires : goal.truncated_copy-requires
truncated_copy-requires g c = c.is_boundary.ensures.0 c.if-not-is_boundary.false

pub returns : goal.returns
returns g c = record {
  split_at = record { before = c.split_at.ensures.front; after = c.split_at.ensures.back; units = c.split_at.ensures.units };
  index = (record { bytes = c.index.ensures.bytes; units = c.index.ensures.units }, record { bytes = c.index-2.ensures.bytes; units = c.index-2.ensures.units });
  get_unchecked = (record { bytes = c.get_unchecked.ensures.bytes; units = c.get_unchecked.ensures.units }, record { bytes = c.get_unchecked-2.ensures.bytes; units = c.get_unchecked-2.ensures.units });
  split_off = c.split_copy.ensures;
  truncate = c.truncated_copy.ensures;
}
