use Rattle.std.proofs.Common.{◌∷◌, ◌+◌, map, sym, ap, ◌∙◌, slice_index_or, []}
use Rattle.std.proofs.lemmas.List.{drop-map, drop_more}
use Rattle.names_commands.specs.Ignoring.{text_of}
use Rattle.names_commands.proofs.ignoring.value_of.Goals as goal

pub returns : goal.returns
returns c =
    let words = c.args.values.now in
    let index = c.args.index in
    let word = slice_index_or words index (record { ref_ptr = (0, 0); now = [] }) in
    drop-map text_of index words
    ∙ ap (map text_of) (drop_more words index (record { ref_ptr = (0, 0); now = [] }) c.requires)
    ∙ ap (λ x. text_of word ∷ x) (sym (drop-map text_of (index + 1) words))
