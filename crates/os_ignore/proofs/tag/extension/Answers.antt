use Rattle.os_ignore.proofs.tag.extension.Goals as goal

pub returns-in-Some-split_last : goal.returns-in-Some-split_last
returns-in-Some-split_last c = record {
  front = c.in-Some-split_last.field-0-0.now;
  cut = c.in-Some-split_last.ensures.0;
  no_dot = c.in-Some-split_last.ensures.1;
  no_slash = c.in-None.ensures.cut;
}
