use Rattle.wtf8_core.proofs.Common.{List, ℕ, ◌+◌, ◌-◌, ◌≡◌, ◌≤◌, Some, length, drop, length-drop, drop-drop, ap, subst, arith, IsUtf8Fault, BeginsWith}
use Rattle.wtf8_core.proofs.lemmas.{characters.AtIndices.character_fits, characters.AtIndices.text_of_character, texts.LossyTexts.after_prefix, texts.LossyTexts.fault_in_rest}
use Rattle.wtf8_core.proofs.utf8.after_characters.Goals as goal

-- the index that the length of the rest gives
index : (bytes rest : List ℕ) (at : ℕ) → at ≤ length bytes → rest ≡ drop at bytes → length bytes - length rest ≡ at
index bytes rest at within e = omega (arith, within, ap length e, length-drop at bytes)

pub returns-in-Some-Err-clause-read : goal.returns-in-Some-Err-clause-read
returns-in-Some-Err-clause-read c =
    let i = c.loop.invariant in
    let len = c.in-Some-Err.error_len in
    let w : IsUtf8Fault c.loop.rest.now 0 (Some len) = subst (BeginsWith c.loop.rest.now) c.in-Some-Err.field-0-is c.in-Some-Err.ensures in
    let same : i.0 + 0 ≡ length c.args.bytes.now - length c.loop.rest.now = omega (arith, index c.args.bytes.now c.loop.rest.now i.0 i.1 i.2) in
    subst (λ k. IsUtf8Fault c.args.bytes.now k (Some len)) same
    (fault_in_rest c.args.bytes.now i.0 i.1 i.3 0 (Some len) (subst (λ x. IsUtf8Fault x 0 (Some len)) i.2 w))

pub loop-preserved : goal.loop-preserved
loop-preserved c = grind (arith, character_fits, length-drop, drop-drop, after_prefix, text_of_character)
