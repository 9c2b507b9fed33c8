use Rattle.os_str_ext.proofs.Common.{◌∙◌, ◌-◌, ◌++◌, ap, drop, subst, sym, take-append-drop, IsBoundary, bytes, IsOneCharacter}
use Rattle.os_str_ext.proofs.lemmas.EdgeCharacters.{last_edge, last_one}
use Rattle.os_str_ext.proofs.characters.split_last_char.Goals as goal

pub returns-in_default-clause-bytes : goal.returns-in_default-clause-bytes
returns-in_default-clause-bytes g c = rw (c.as_encoded_bytes.ensures.value, c.len-len.ensures) at c.in_default.ensures

pub split_at-requires : goal.split_at-requires
split_at-requires g c =
    let w = rw (c.as_encoded_bytes.ensures.value, c.len-len.ensures) at c.in-Some.ensures.1 in
    subst (λ n. IsBoundary (bytes c.args.string) (n - c.in-Some.size)) (sym c.len-len.ensures) (last_edge _ _ w)

pub only_char-requires : goal.only_char-requires
only_char-requires g c =
    let s = bytes c.args.string in
    let w = rw (c.as_encoded_bytes.ensures.value, c.len-len.ensures) at c.in-Some.ensures.1 in
    subst IsOneCharacter (sym (c.as_encoded_bytes-2.ensures.value ∙ c.split_at.ensures.back ∙ ap (λ n. drop (n - c.in-Some.size) s) c.len-len.ensures)) (last_one _ _ w)

pub returns-clause-bytes : goal.returns-clause-bytes
returns-clause-bytes g c =
    let s = bytes c.args.string in
    let i = c.len-len.result - c.in-Some.size in
    sym (take-append-drop i s)
    ∙ ap (λ x. x ++ drop i s) (sym c.split_at.ensures.front)
    ∙ ap (λ x. bytes c.split_at.result.0 ++ x) (sym (c.as_encoded_bytes-2.ensures.value ∙ c.split_at.ensures.back) ∙ c.only_char.ensures)

pub returns-clause-units : goal.returns-clause-units
returns-clause-units g c =
    let units = g.E.Platform.units in
    c.split_at.ensures.units ∙ ap (λ x. units (bytes c.split_at.result.0) ++ units x) (sym c.as_encoded_bytes-2.ensures.value ∙ c.only_char.ensures)
