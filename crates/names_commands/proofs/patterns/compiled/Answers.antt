use Rattle.std.proofs.Common.{◌+◌, ⊎_elim, inl, inr, length, map, string_bytes, sym, ap, subst, ◌∙◌, arith}
use Rattle.os_str_bytes.specs.Strings.{bytes}
use Rattle.glob_patterns.specs.GlobSets.{IsSetError}
use Rattle.glob_patterns.specs.Letters.{letters_of}
use Rattle.glob_patterns.specs.Options.{syntax_of}
use Rattle.names_commands.specs.Matching.{IsSetOf}
use Rattle.names_commands.specs.Program.{IsOfPattern, IsOfPatterns}
use Rattle.names_commands.proofs.lemmas.Picked.{first_fault}
use Rattle.names_commands.proofs.lemmas.Picks.{count_mapped}
use Rattle.names_commands.proofs.lemmas.Pointed.{is_at, is_within}
use Rattle.names_commands.proofs.patterns.compiled.Goals as goal

pub returns-in-Ok-new : goal.returns-in-Ok-new
returns-in-Ok-new g c =
    let texts = ap (map bytes) c.as_slice-globs.ensures.value ∙ c.in-Ok.ensures in
    subst (λ texts. IsSetOf g.E.Platform g.row.A.Denot c.args.options texts c.in-Ok-new.set) texts c.in-Ok-new.ensures

pub bounds-globs-index : goal.bounds-globs-index
bounds-globs-index g c =
    let P = g.E.Platform in
    let globs = c.as_slice-globs.result.now in
    let error = subst (IsSetError P.well_formed (letters_of P.units) (syntax_of c.args.options) g.row.A.Denot (map bytes globs)) c.in-Err-Pattern.field-0-is c.in-Err-Pattern.ensures in
    is_within bytes globs error.before error.text error.after c.in-Err-Pattern.index error.joined error.index_is

pub overflow_add-before : goal.overflow_add-before
overflow_add-before g c =
    let P = g.E.Platform in
    let globs = c.as_slice-globs.result.now in
    let error = subst (IsSetError P.well_formed (letters_of P.units) (syntax_of c.args.options) g.row.A.Denot (map bytes globs)) c.in-Err-Pattern.field-0-is c.in-Err-Pattern.ensures in
    let within = is_within bytes globs error.before error.text error.after c.in-Err-Pattern.index error.joined error.index_is in
    let count = ap length c.as_slice-globs.ensures.value ∙ sym (count_mapped bytes c.in-Ok.strings.items) ∙ ap length c.in-Ok.ensures ∙ count_mapped string_bytes c.args.patterns.now in
    omega (arith, within, count, c.requires)

pub overflow_add-before-in-Err-Pattern : goal.overflow_add-before-in-Err-Pattern
overflow_add-before-in-Err-Pattern g c =
    let P = g.E.Platform in
    let globs = c.as_slice-globs.result.now in
    let error = subst (IsSetError P.well_formed (letters_of P.units) (syntax_of c.args.options) g.row.A.Denot (map bytes globs)) c.in-Err-Pattern.field-0-is c.in-Err-Pattern.ensures in
    let within = is_within bytes globs error.before error.text error.after c.in-Err-Pattern.index error.joined error.index_is in
    let count = ap length c.as_slice-globs.ensures.value ∙ sym (count_mapped bytes c.in-Ok.strings.items) ∙ ap length c.in-Ok.ensures ∙ count_mapped string_bytes c.args.patterns.now in
    omega (arith, within, count, c.requires)

pub offset_bounds-globs-index : goal.offset_bounds-globs-index
offset_bounds-globs-index g c =
    let P = g.E.Platform in
    let globs = c.as_slice-globs.result.now in
    let error = subst (IsSetError P.well_formed (letters_of P.units) (syntax_of c.args.options) g.row.A.Denot (map bytes globs)) c.in-Err-Pattern.field-0-is c.in-Err-Pattern.ensures in
    let within = is_within bytes globs error.before error.text error.after c.in-Err-Pattern.index error.joined error.index_is in
    omega (arith, within, c.as_slice-globs.ensures.len, c.in-Ok.strings.ok.1, c.in-Ok.strings.small)

pub returns-in-Err-Pattern : goal.returns-in-Err-Pattern
returns-in-Err-Pattern g c =
    let P = g.E.Platform in
    let o = c.args.options in
    let globs = c.as_slice-globs.result.now in
    let texts = ap (map bytes) c.as_slice-globs.ensures.value ∙ c.in-Ok.ensures in
    let index = c.in-Err-Pattern.index in
    let fault = c.in-Err-Pattern.fault in
    let error = subst (IsSetError P.well_formed (letters_of P.units) (syntax_of o) g.row.A.Denot (map bytes globs)) c.in-Err-Pattern.field-0-is c.in-Err-Pattern.ensures in
    let first = first_fault g.row.A.Denot P o (map bytes globs) index fault error in
    let number = c.args.before + index + 1 in
    let text = c.as_encoded_bytes-pattern.ensures.value ∙ is_at bytes globs first.before first.text first.after index c.index-globs-index.result first.joined first.index_is c.index-globs-index.is in
    let why = c.rejection.result in
    ⊎_elim inl
    (λ of.
    let typed = subst (λ pattern. IsOfPattern c.added_before-added.result number pattern fault why) text of in
    let shown = subst (λ added. IsOfPattern added number first.text fault why) c.added_before-added.ensures typed in
    inr (subst (λ texts. IsOfPatterns P o c.args.before c.args.plain texts why) texts (index, fault, first, shown)))
    c.rejection.ensures
