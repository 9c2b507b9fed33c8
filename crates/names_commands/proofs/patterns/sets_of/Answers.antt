use Rattle.std.proofs.Common.{◌≡◌, ◌⊎◌, ◌++◌, length, map, string_bytes, ⊎_elim, inl, inr, sym, ap, ◌∙◌, subst}
use Rattle.std.specs.List.{AllByRecursion}
use Rattle.names_commands.specs.Command.{requested_of}
use Rattle.names_commands.specs.Matching.{IsPattern, IsSetOf}
use Rattle.names_commands.specs.PatternFiles.{pattern_line, text_of}
use Rattle.names_commands.specs.Program.{IsOfLines, IsOfNoString, IsOfPatterns}
use Rattle.names_commands.proofs.lemmas.Picked.{all_fine}
use Rattle.names_commands.proofs.lemmas.Picks.{count_mapped}
use Rattle.names_commands.proofs.patterns.sets_of.Goals as goal

pub returns-in-Err : goal.returns-in-Err
returns-in-Err g c =
    let P = g.E.Platform in
    let o = c.args.options in
    let requested = requested_of c.args.request.now in
    let lines = map pattern_line c.args.of_files.now in
    let fault = c.in-Err.fault in
    ⊎_elim inl
    (λ of.
    ⊎_elim
    (λ none. inr (inl none))
    (⊎_elim (λ given. inr (inr (inl given))) (λ line. inr (inr (inr (inl line)))))
    (subst (λ items. IsOfNoString P lines fault ⊎ (IsOfPatterns P o 0 requested.plain (map string_bytes items) fault ⊎ (AllByRecursion (IsPattern P o) (map string_bytes items) × IsOfLines P o lines fault))) c.as_slice-globs.ensures.value of))
    c.in-Err.ensures.fault

pub returns-in-Err-compiled : goal.returns-in-Err-compiled
returns-in-Err-compiled g c =
    let P = g.E.Platform in
    let o = c.args.options in
    let requested = requested_of c.args.request.now in
    let set = c.in-Ok.set in
    let fault = c.in-Err-compiled.fault in
    let texts = map text_of (map pattern_line c.args.of_files.now) in
    let made = subst (λ items. IsSetOf P g.row.A.Denot o (map string_bytes items ++ texts) set) c.as_slice-globs.ensures.value c.in-Ok.ensures.set in
    let before : length c.as_slice-globs.result.now ≡ length requested.globs = ap length c.as_slice-globs.ensures.value ∙ sym (count_mapped string_bytes c.args.request.now.patterns.items) in
    let plain : length c.as_slice-excluded.result.now ≡ length requested.excluded = ap length c.as_slice-excluded.ensures.value ∙ sym (count_mapped string_bytes c.args.request.now.excluded.items) in
    ⊎_elim inl
    (λ of.
    let its = subst (λ items. IsOfPatterns P o (length c.as_slice-globs.result.now) (length c.as_slice-excluded.result.now) (map string_bytes items) fault) c.as_slice-excluded.ensures.value of in
    let counted = subst (λ n. IsOfPatterns P o (length c.as_slice-globs.result.now) n requested.excluded fault) plain its in
    inr (inr (inr (inr (all_fine P o (requested.globs ++ texts) set.set.patterns.items made.1, subst (λ n. IsOfPatterns P o n (length requested.excluded) requested.excluded fault) before counted)))))
    c.in-Err-compiled.ensures
