use Rattle.std.proofs.Common.{◌∷◌, ◌+◌, map, drop, sym, ap, ◌∙◌}
use Rattle.std.proofs.lemmas.List.{drop-map, drop_more}
use Rattle.platform_str.specs.Strings.{bytes}
use Rattle.platform_str.proofs.strings.string_at.Goals as goal

pub returns-then-index-strings-clause-first : goal.returns-then-index-strings-clause-first
returns-then-index-strings-clause-first g c =
    let words = c.args.strings.now in
    let index = c.args.index in
    let word = c.index-strings-index.result in
    drop-map bytes index words
    ∙ ap (map bytes) (drop_more words index word c.if-index-strings.true)
    ∙ ap (λ w. bytes w ∷ map bytes (drop (index + 1) words)) (sym c.index-strings-index.is)
    ∙ ap (λ x. bytes word ∷ x) (sym (drop-map bytes (index + 1) words))
