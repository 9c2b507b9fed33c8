use Rattle.std.proofs.Common.{◌≡◌, ◌∷◌, ◌+◌, drop, map, string_bytes, sym, ap, ◌∙◌}
use Rattle.std.proofs.lemmas.List.{drop-map, drop_more}
use Rattle.names_commands.specs.Pick.{added_before}
use Rattle.names_commands.proofs.first_glob.typed_at.Goals as goal

pub returns : goal.returns
returns g c =
    let patterns = c.args.patterns.now in
    let index = c.args.index in
    let one = c.index-patterns-index.result in
    let rest = drop (index + 1) patterns in
    record {
      text = string_bytes one;
      after = map string_bytes rest;
      at = drop-map string_bytes index patterns ∙ ap (map string_bytes) (drop_more patterns index one c.requires ∙ ap (λ x. x ∷ rest) (sym c.index-patterns-index.is));
      typed_is = c.typed.ensures ∙ ap (λ n. drop n c.as_bytes.result.now) c.added_before.ensures ∙ ap (drop (added_before c.args.plain index)) c.as_bytes.ensures.value;
    }
