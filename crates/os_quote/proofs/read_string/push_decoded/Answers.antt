use Rattle.os_quote.proofs.Common.{◌+◌, ◌<◌, ◌^◌, length, sym, subst, form_encode, Pushes, item_bytes, token_item}
use Rattle.platform_str.proofs.lemmas.Pushing.{push_same}
use Rattle.os_quote.proofs.read_string.push_decoded.Goals as goal

pub push_form-requires-in-Long-clause-room : goal.push_form-requires-in-Long-clause-room
push_form-requires-in-Long-clause-room c =
    subst (λ x. c.args.count + length x < 2 ^ 64) (sym (form_encode c.in-Long.character)) (subst (λ t. c.args.count + length (item_bytes (token_item t)) < 2 ^ 64) c.in-Long.is c.requires)

pub returns-in-Long : goal.returns-in-Long
returns-in-Long c =
    subst (λ t. Pushes (item_bytes (token_item t)) c.args.buffer.now c.args.count c.push_form-in-Long.new.buffer c.push_form-in-Long.result) (sym c.in-Long.is) (push_same (form_encode c.in-Long.character) c.push_form-in-Long.ensures)
