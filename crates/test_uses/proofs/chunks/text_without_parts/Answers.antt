use Rattle.test_uses.proofs.chunks.text_without_parts.Goals as goal

pub returns : goal.returns
returns g c =
    let law = c.text_without_parts.ensures _ _ c.utf8_chunks.ensures.chunks in
    (λ text. law.0 (c.is_text.ensures.0 text), λ none. c.is_text.ensures.1 (law.1 none))
