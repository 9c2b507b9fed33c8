use Rattle.std.proofs.Common.{rules, ◌≡◌, ◌++◌, OnOk, string_bytes}
use Rattle.std.specs.Char.{encode_utf8}
use Rattle.std.proofs.lemmas.Result.{on_ok_weaker}
use Rattle.os_args.specs.ErrorText.{shown, fault_text}
use Rattle.os_args.specs.Reading.{UnexpectedArgument}
use Rattle.os_args.specs.Word.{Short}
use Rattle.test_line_uses.proofs.errors.log_unexpected.Goals as goal

pub returns : goal.returns
returns c =
    let written : OnOk c.write.result (string_bytes c.write.new.self ≡ string_bytes c.args.log.now ++ fault_text (λ b. b) (UnexpectedArgument (Short c.args.flag))) = search rules in
    on_ok_weaker c.write.result (λ e. (shown (λ b. b) (encode_utf8 c.args.flag), (c.errors.ensures (encode_utf8 c.args.flag), e))) written
