use Rattle.std.proofs.Common.{◌∙◌, sym, length}
use Rattle.std.proofs.lemmas.Bool.{eqb-true}
use Rattle.std.proofs.lemmas.List.{nil_from_length}
use Rattle.platform_str.specs.Strings.{bytes}
use Rattle.os_command_line.proofs.lemmas.WindowsCuts.{argument_cut, only_blanks, not_empty}
use Rattle.os_command_line.proofs.windows.cuts.cut_text.Goals as goal

pub returns-then-is_empty : goal.returns-then-is_empty
returns-then-is_empty c = only_blanks _ _ c.args.line.ok c.as_encoded_bytes.ensures.value c.skip_blanks-text.result.now c.skip_blanks-text.ensures (nil_from_length c.skip_blanks-text.result.now (eqb-true (length c.skip_blanks-text.result.now) 0 (sym c.if-is_empty.ensures)))

pub from_encoded_bytes_unchecked-requires : goal.from_encoded_bytes_unchecked-requires
from_encoded_bytes_unchecked-requires c =
    (argument_cut _ _ c.args.line.ok c.as_encoded_bytes.ensures.value c.skip_blanks-text.result.now c.skip_blanks-text.ensures _ _ _ _ (not_empty _ c.if-is_empty.ensures) c.after_argument-end.ensures c.split_at.ensures.front c.split_at.ensures.back).cut.raw_formed

pub from_encoded_bytes_unchecked-requires-2 : goal.from_encoded_bytes_unchecked-requires-2
from_encoded_bytes_unchecked-requires-2 c =
    (argument_cut _ _ c.args.line.ok c.as_encoded_bytes.ensures.value c.skip_blanks-text.result.now c.skip_blanks-text.ensures _ _ _ _ (not_empty _ c.if-is_empty.ensures) c.after_argument-end.ensures c.split_at.ensures.front c.split_at.ensures.back).cut.rest_formed

pub returns : goal.returns
returns c =
    argument_cut _ _ c.args.line.ok c.as_encoded_bytes.ensures.value c.skip_blanks-text.result.now c.skip_blanks-text.ensures _ (bytes c.from_encoded_bytes_unchecked.result) (bytes c.from_encoded_bytes_unchecked-2.result) _ (not_empty _ c.if-is_empty.ensures)
    c.after_argument-end.ensures (c.from_encoded_bytes_unchecked.ensures ∙ c.split_at.ensures.front) (c.from_encoded_bytes_unchecked-2.ensures ∙ c.split_at.ensures.back)
