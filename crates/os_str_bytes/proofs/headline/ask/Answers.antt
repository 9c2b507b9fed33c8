use Rattle.os_str_bytes.proofs.lemmas.Refusals.{only_fault}
use Rattle.os_str_bytes.proofs.headline.ask.Goals as goal

pub returns : goal.returns
returns g c = record {
  one_to_one = let laws = g.met.E.Platform.laws in record { listed = laws.unit_list; some = laws.some_encoding; once = laws.one_encoding };
  refused = let laws = g.met.E.Platform.laws in only_fault g.E.Platform.well_formed g.E.Platform.first_fault laws.faulty laws.one_fault _ _ c.cow_from_raw_bytes.ensures.cases;
  accepted = c.cow_from_raw_bytes.ensures.bytes;
  eq = c.equal.ensures;
  cmp = c.order.ensures;
  starts_with_os = c.starts_with_os.ensures;
  ends_with_os = c.ends_with_os.ensures;
  find = c.find.ensures.units;
  rfind = c.rfind.ensures.units;
  contains = c.contains.ensures.units;
  starts_with = c.starts_with.ensures.units;
  ends_with = c.ends_with.ensures.units;
  find_cuts = c.find.ensures.edges;
  rfind_cuts = c.rfind.ensures.edges;
  strip_prefix = c.strip_prefix.ensures.units;
  strip_suffix = c.strip_suffix.ensures.units;
  trim_start = c.trim_start_matches.ensures;
  trim_end = c.trim_end_matches.ensures;
  trim = c.trim_matches.ensures;
  split_once = c.split_once.ensures.units;
  rsplit_once = c.rsplit_once.ensures.units;
  split = c.pieces.ensures;
  rsplit = c.pieces_from_the_end.ensures;
  is_boundary = c.is_boundary.ensures;
  cuts = c.cuts.ensures;
  push = c.joined.ensures;
  repeat = c.repeat.ensures.units;
  utf8_chunks = c.utf8_chunks.ensures.chunks;
}
