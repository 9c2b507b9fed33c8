use Rattle.std.proofs.Common.{◌∙◌, ap}
use Rattle.std.specs.Str.{chars}
use Rattle.os_str_ext.specs.Symbols.{chunks_symbols}
use Rattle.test_uses.proofs.symbols.one_of_each.Goals as goal

pub returns : goal.returns
unfolding chars
returns c =
    let made = c.symbols.ensures.symbols in
    made.are ∙ ap (chunks_symbols (λ b. b)) (c.chunks.ensures.once _ _ _ made.are_chunks c.requires)
