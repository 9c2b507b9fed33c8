use Rattle.std.proofs.Common.{◌≡◌, ◌+◌, ◌-◌, ◌++◌, ⊎_elim, inl, inr, drop, length, map, string_bytes, sym, ap, subst, ◌∙◌, arith}
use Rattle.std.proofs.lemmas.List.{length-append}
use Rattle.os_str_bytes.specs.Strings.{bytes}
use Rattle.glob_patterns.specs.GlobSets.{IsSetError}
use Rattle.glob_patterns.specs.Letters.{letters_of}
use Rattle.glob_patterns.specs.Options.{syntax_of}
use Rattle.names_commands.specs.Matching.{IsFirstFault, IsSetOf}
use Rattle.names_commands.specs.PatternFiles.{pattern_line, text_of}
use Rattle.names_commands.specs.Pick.{added_before}
use Rattle.names_commands.specs.Program.{IsOfPattern}
use Rattle.names_commands.proofs.lemmas.Picked.{first_fault, first_past, first_within}
use Rattle.names_commands.proofs.lemmas.Picks.{count_mapped}
use Rattle.names_commands.proofs.lemmas.Pointed.{is_at, is_within}
use Rattle.names_commands.proofs.patterns.compiled_with.Goals as goal

pub returns-in-Ok-clause-set : goal.returns-in-Ok-clause-set
returns-in-Ok-clause-set g c =
    let lines = map text_of (map pattern_line c.args.of_files.now) in
    let texts = ap (map bytes) c.as_slice.ensures.value ∙ c.in_ok-push_strings.ensures.strings ∙ ap (λ x. x ++ lines) c.in_ok-strings.ensures in
    subst (λ texts. IsSetOf g.E.Platform g.row.A.Denot c.args.options texts c.in-Ok.set) texts c.in-Ok.ensures

pub returns-then-index-count-clause-fault : goal.returns-then-index-count-clause-fault
returns-then-index-count-clause-fault g c =
    let P = g.E.Platform in
    let o = c.args.options in
    let globs = c.as_slice.result.now in
    let given = map string_bytes c.args.patterns.now in
    let lines = map text_of (map pattern_line c.args.of_files.now) in
    let texts = ap (map bytes) c.as_slice.ensures.value ∙ c.in_ok-push_strings.ensures.strings ∙ ap (λ x. x ++ lines) c.in_ok-strings.ensures in
    let index = c.in-Err-Pattern.index in
    let fault = c.in-Err-Pattern.fault in
    let error = subst (IsSetError P.well_formed (letters_of P.units) (syntax_of o) g.row.A.Denot (map bytes globs)) c.in-Err-Pattern.field-0-is c.in-Err-Pattern.ensures in
    let whole = subst (λ t. IsFirstFault P o t index fault) texts (first_fault g.row.A.Denot P o (map bytes globs) index fault error) in
    let count = count_mapped string_bytes c.args.patterns.now in
    let below = c.if-index-count.true in
    let first = first_within P o given lines index fault whole (omega (arith, below, count)) in
    let text = c.as_bytes-pattern.ensures.value ∙ is_at string_bytes c.args.patterns.now first.before first.text first.after index c.index-patterns-index.result first.joined first.index_is c.index-patterns-index.is in
    let why = c.rejection.result in
    let number : index + 1 ≡ 0 + index + 1 = omega arith in
    ⊎_elim inl
    (λ of.
    let typed = subst (λ pattern. IsOfPattern c.added_before-added.result (index + 1) pattern fault why) text of in
    let shown = subst (λ added. IsOfPattern added (index + 1) first.text fault why) c.added_before-added.ensures typed in
    inr (inr (inl (index, fault, first, subst (λ n. IsOfPattern (added_before c.args.plain index) n first.text fault why) number shown))))
    c.rejection.ensures

pub pattern_at-requires : goal.pattern_at-requires
pattern_at-requires g c =
    let P = g.E.Platform in
    let globs = c.as_slice.result.now in
    let given = map string_bytes c.args.patterns.now in
    let lines = map text_of (map pattern_line c.args.of_files.now) in
    let texts = ap (map bytes) c.as_slice.ensures.value ∙ c.in_ok-push_strings.ensures.strings ∙ ap (λ x. x ++ lines) c.in_ok-strings.ensures in
    let error = subst (IsSetError P.well_formed (letters_of P.units) (syntax_of c.args.options) g.row.A.Denot (map bytes globs)) c.in-Err-Pattern.field-0-is c.in-Err-Pattern.ensures in
    let within = is_within bytes globs error.before error.text error.after c.in-Err-Pattern.index error.joined error.index_is in
    let size : length globs ≡ length (given ++ lines) = sym (count_mapped bytes globs) ∙ ap length texts in
    let all = length-append given lines in
    let of_given = count_mapped string_bytes c.args.patterns.now in
    let of_lines : length lines ≡ length c.args.of_files.now = count_mapped text_of (map pattern_line c.args.of_files.now) ∙ count_mapped pattern_line c.args.of_files.now in
    omega (arith, within, size, all, of_given, of_lines, c.if-index-count.false)

pub returns-in-Err-Pattern-clause-fault : goal.returns-in-Err-Pattern-clause-fault
returns-in-Err-Pattern-clause-fault g c =
    let P = g.E.Platform in
    let o = c.args.options in
    let globs = c.as_slice.result.now in
    let given = map string_bytes c.args.patterns.now in
    let all = map pattern_line c.args.of_files.now in
    let lines = map text_of all in
    let texts = ap (map bytes) c.as_slice.ensures.value ∙ c.in_ok-push_strings.ensures.strings ∙ ap (λ x. x ++ lines) c.in_ok-strings.ensures in
    let index = c.in-Err-Pattern.index in
    let fault = c.in-Err-Pattern.fault in
    let error = subst (IsSetError P.well_formed (letters_of P.units) (syntax_of o) g.row.A.Denot (map bytes globs)) c.in-Err-Pattern.field-0-is c.in-Err-Pattern.ensures in
    let whole = subst (λ t. IsFirstFault P o t index fault) texts (first_fault g.row.A.Denot P o (map bytes globs) index fault error) in
    let count = count_mapped string_bytes c.args.patterns.now in
    let past = index - length c.args.patterns.now in
    let is : index ≡ length given + past = omega (arith, count, c.if-index-count.false) in
    let first = first_past P o given lines index fault whole past is in
    let pattern = pattern_line c.pattern_at.result.now in
    ⊎_elim inl
    (λ of. inr (inr (inr (first.0, (past, fault, pattern, drop (past + 1) all, first.1, (c.pattern_at.ensures, of))))))
    c.line_rejection.ensures
