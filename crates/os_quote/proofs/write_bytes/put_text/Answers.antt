use Rattle.os_quote.proofs.Common.{◌≡◌, ◌+◌, ◌-◌, ◌/◌, length, take, ap, ◌∙◌, arith}
use Rattle.std.specs.Int.{w64, to_le_bytes}
use Rattle.os_quote.proofs.lemmas.ByteTexts.{placed}
use Rattle.os_quote.proofs.write_bytes.put_text.Goals as goal

pub returns : goal.returns
returns c =
    let at = c.args.at in
    let n = c.word_of-word.result / 0x100_0000_0000_0000 in
    let stored : c.copy_from_slice.new.self ≡ to_le_bytes w64 c.word_of-word.result = c.copy_from_slice.ensures.after ∙ c.to_le_bytes.ensures in
    record {
      within = omega (arith, c.word_of-word.ensures.few);
      is_text = c.word_of-word.ensures.utf8;
      written = placed c.args.texts.now c.copy_from_slice.new.self _ at (at + 8 - at) n (omega (arith, c.requires, c.told-texts)) (omega (arith, ap length stored)) (omega (arith, c.word_of-word.ensures.few)) (ap (take n) stored ∙ c.word_of-word.ensures.text);
    }
