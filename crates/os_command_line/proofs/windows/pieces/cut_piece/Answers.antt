use Rattle.std.proofs.Common.{◌≢◌, ◌∙◌, subst}
use Rattle.std.specs.List.{AllByRecursion}
use Rattle.platform_str.specs.Strings.{bytes}
use Rattle.os_command_line.specs.Windows.{quote}
use Rattle.os_command_line.specs.WindowsSteps.{IsCutAtQuote}
use Rattle.os_command_line.proofs.lemmas.WindowsPieces.{whole_cut, piece_formed, cut_there, rest_formed}
use Rattle.os_command_line.proofs.windows.pieces.cut_piece.Goals as goal

pub returns-in_default : goal.returns-in_default
returns-in_default c = whole_cut c.args.place (bytes c.args.text) c.args.text.ok c.requires (subst (AllByRecursion (λ u. u ≢ quote)) c.as_encoded_bytes.ensures.value c.in_default.ensures) (bytes c.new.result) c.new.result.ok c.new.ensures

pub from_encoded_bytes_unchecked-requires : goal.from_encoded_bytes_unchecked-requires
from_encoded_bytes_unchecked-requires c =
    let cut = subst (λ z. IsCutAtQuote z c.in-Some.before.now c.in-Some.after.now) c.as_encoded_bytes.ensures.value c.in-Some.ensures in
    rest_formed c.args.place (bytes c.args.text) c.in-Some.before.now c.in-Some.after.now c.args.text.ok cut _ _ _ c.at_quote-len.ensures

pub from_encoded_bytes_unchecked-requires-2 : goal.from_encoded_bytes_unchecked-requires-2
from_encoded_bytes_unchecked-requires-2 c =
    let cut = subst (λ z. IsCutAtQuote z c.in-Some.before.now c.in-Some.after.now) c.as_encoded_bytes.ensures.value c.in-Some.ensures in
    piece_formed c.args.place (bytes c.args.text) c.in-Some.before.now c.in-Some.after.now c.args.text.ok cut _ _ _ c.at_quote-len.ensures _ c.split_at.ensures.front

pub returns : goal.returns
returns c =
    let cut = subst (λ z. IsCutAtQuote z c.in-Some.before.now c.in-Some.after.now) c.as_encoded_bytes.ensures.value c.in-Some.ensures in
    cut_there c.args.place (bytes c.args.text) c.in-Some.before.now c.in-Some.after.now c.args.text.ok cut _ _ _ c.at_quote-len.ensures (bytes c.from_encoded_bytes_unchecked-2.result)
    (c.from_encoded_bytes_unchecked-2.ensures ∙ c.split_at.ensures.front) (bytes c.from_encoded_bytes_unchecked.result) c.from_encoded_bytes_unchecked.ensures
