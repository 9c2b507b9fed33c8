use Rattle.os_quote.proofs.Common.{◌≡◌, ◌+◌, ◌-◌, ◌++◌, ◌≤◌, length, take, drop, ap, ◌∙◌, sym, arith, encode_utf8, IsScalar, IsUtf8-encode, take-append-drop}
use Rattle.std.proofs.{Common.rules, lemmas.List.take-take}
use Rattle.wtf8_core.proofs.lemmas.characters.AtIndices.{character_fits}
use Rattle.os_quote.proofs.lemmas.ByteTexts.{placed}
use Rattle.os_quote.proofs.write_bytes.put_character.Goals as goal

pub returns : goal.returns
returns c =
    let bytes = c.args.bytes.now in
    let at = c.args.at in
    let character = c.in_ok-character.character in
    let n = c.in_ok-character.len in
    let first = c.in_ok-character.ensures in
    let few : n ≤ 4 = omega (arith, (character_fits bytes 0 (0 + n) first.0).1) in
    let scalar : IsScalar character = search rules in
    let stored : c.copy_from_slice.new.self ≡ take 4 bytes = c.copy_from_slice.ensures.after ∙ c.in_ok-four.ensures.cases.same in (
      character,
      scalar,
      omega (arith, c.if-character-lt128.false),
      sym (take-append-drop n bytes) ∙ ap (λ x. x ++ drop n bytes) first.1 ∙ ap (λ r. encode_utf8 character ++ r) (sym c.split_at.ensures.back),
      record {
        within = omega (arith, few);
        is_text = IsUtf8-encode character scalar;
        written = placed c.args.texts.now c.copy_from_slice.new.self _ at (at + 4 - at) n (omega (arith, c.requires, c.told-texts)) (omega (arith, ap length stored)) (omega (arith, few)) (ap (take n) stored ∙ take-take n 4 bytes few ∙ first.1);
      },
    )
