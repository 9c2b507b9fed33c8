use Rattle.std.proofs.Common.{◌≡◌, [], ◌⊎◌, inl, inr, get_or, subst}
use Rattle.path_rules.specs.declared.rules.Rules.TheVariants as rules
use Rattle.path_rules.specs.Separators.{IsField}
use Rattle.path_rules.proofs.lemmas.Fields.{no_separator, nothing_named, empty_from, cons_of, nil_of}
use Rattle.path_rules.proofs.prefix.unc_prefix.Goals as goal
use Rattle.path_rules.proofs.prefix.unc_prefix.Goals.{then-is_empty-via-then-is_empty, then-is_empty-via-else-is_empty+then-is_empty-2}

pub returns-in_default : goal.returns-in_default
returns-in_default c =
    let after = c.split_field.result.1.now in
    no_separator c.args.path.now c.split_field.result.0.now (subst (IsField rules.Either c.args.path.now c.split_field.result.0.now) (nil_of after c.in_default.len_below) c.split_field.ensures)

pub returns-then-is_empty : goal.returns-then-is_empty
returns-then-is_empty c =
    let after = c.split_field.result.1.now in
    let server = c.split_field.result.0.now in
    let share = c.split_field-2.result.0.now in
    let none : (server ≡ []) ⊎ (share ≡ []) = elim c.then-is_empty.branch [
      | then-is_empty-via-then-is_empty w ↦ inl (empty_from server c.is_empty.result w.if-is_empty.true c.is_empty.ensures)
      | then-is_empty-via-else-is_empty+then-is_empty-2 w ↦ inr (empty_from share w.is_empty-else-is_empty.result w.if-is_empty-2.true w.is_empty-else-is_empty.ensures)
    ] in
    nothing_named c.args.path.now server share _ c.split_field-2.result.1.now (get_or after 0 0)
    (subst (IsField rules.Either c.args.path.now server) (cons_of after c.in-len1-up.len_at_least) c.split_field.ensures) c.split_field-2.ensures none
