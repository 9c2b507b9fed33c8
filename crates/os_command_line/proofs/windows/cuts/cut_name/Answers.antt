use Rattle.std.proofs.Common.{◌∙◌}
use Rattle.platform_str.specs.Strings.{bytes}
use Rattle.os_command_line.proofs.lemmas.WindowsCuts.{name_cut}
use Rattle.os_command_line.proofs.windows.cuts.cut_name.Goals as goal

pub from_encoded_bytes_unchecked-requires : goal.from_encoded_bytes_unchecked-requires
from_encoded_bytes_unchecked-requires c = (name_cut _ _ c.args.line.ok c.as_encoded_bytes-line.ensures.value _ _ _ c.after_name-rest.ensures c.split_at.ensures.front c.split_at.ensures.back).raw_formed

pub from_encoded_bytes_unchecked-requires-2 : goal.from_encoded_bytes_unchecked-requires-2
from_encoded_bytes_unchecked-requires-2 c = (name_cut _ _ c.args.line.ok c.as_encoded_bytes-line.ensures.value _ _ _ c.after_name-rest.ensures c.split_at.ensures.front c.split_at.ensures.back).rest_formed

pub returns : goal.returns
returns c =
    name_cut _ _ c.args.line.ok c.as_encoded_bytes-line.ensures.value _ (bytes c.from_encoded_bytes_unchecked.result) (bytes c.from_encoded_bytes_unchecked-2.result) c.after_name-rest.ensures (c.from_encoded_bytes_unchecked.ensures ∙ c.split_at.ensures.front)
    (c.from_encoded_bytes_unchecked-2.ensures ∙ c.split_at.ensures.back)
