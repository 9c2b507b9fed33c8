use Rattle.std.proofs.Common.{sym, subst, rules}
use Rattle.std.specs.Str.{IsUtf8}
use Rattle.std.proofs.lemmas.Str.{IsUtf8-string_bytes}
use Rattle.test_uses.proofs.files.text_there_and_back.Goals as goal

pub returns-clause-text : goal.returns-clause-text
returns-clause-text g c =
    let utf8 = subst (λ vec. IsUtf8 vec.items) (sym c.from.ensures) (IsUtf8-string_bytes c.args.text) in
    search (rules, utf8)
