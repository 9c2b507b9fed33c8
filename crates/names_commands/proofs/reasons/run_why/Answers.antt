use Rattle.std.proofs.Common.{◌≡◌, length, ⊎_elim, inl, inr, map, string_bytes, refl, sym, ap, ◌∙◌, subst, Err}
use Rattle.std.proofs.lemmas.List.{length-map}
use Rattle.std.specs.Option.{option_map}
use Rattle.os_ignore.specs.Ignores.{files_of}
use Rattle.program_frame.specs.Marked.{marked_inner}
use Rattle.list_programs.specs.ListRun.{IsEndedBy, Runs}
use Rattle.list_programs.specs.declared.program_fault.Fault.TheVariants.{List as OfList, Words}
use Rattle.names_commands.specs.Command.{requested_of, options_of}
use Rattle.names_commands.specs.FirstGlob.{IsFirst, IsFirstBy}
use Rattle.names_commands.specs.Ignoring.{AreRead, text_of}
use Rattle.names_commands.specs.Matching.{IsSetOf}
use Rattle.names_commands.specs.Program.{IsFaultOf, IsOfPatterns, reason_sources}
use Rattle.names_commands.specs.Why.{LinesAreKnown, deciding, sources}
use Rattle.names_commands.proofs.lemmas.Decided.{known_lines}
use Rattle.names_commands.proofs.lemmas.FirstGlob.{same_deciding}
use Rattle.names_commands.proofs.lemmas.Picked.{are_written, as_many, first_alike, written_of}
use Rattle.names_commands.proofs.reasons.run_why.Goals as goal

pub returns-in-Err-clause-run : goal.returns-in-Err-clause-run
returns-in-Err-clause-run g c =
    let P = g.E.Platform in
    let requested = requested_of c.args.request.now in
    let fault = c.in-Err.fault in (
      Err fault,
      (
        ⊎_elim
            (λ memory. inl (ap Err memory, (refl, refl)))
            (λ of.
            let here = subst (λ o. IsOfPatterns P o 0 requested.plain (map string_bytes c.as_slice-texts.result.now) fault) c.options_of-options.ensures of in
            inr (inl (fault, subst (λ items. IsOfPatterns P (options_of c.args.os requested.case_insensitive) 0 requested.plain (map string_bytes items) fault) c.as_slice-texts.ensures.value here, (refl, (refl, refl)))))
            c.in-Err.ensures,
        refl,
      ),
    )

pub returns-in-Err-read_ignore-clause-run : goal.returns-in-Err-read_ignore-clause-run
returns-in-Err-read_ignore-clause-run g c =
    let P = g.E.Platform in
    let requested = requested_of c.args.request.now in
    let o = options_of c.args.os requested.case_insensitive in
    let set = c.in-Ok.set in
    let made = subst (λ items. IsSetOf P g.row.A.Denot o (map string_bytes items) set) c.as_slice-texts.ensures.value (subst (λ z. IsSetOf P g.row.A.Denot z (map string_bytes c.as_slice-texts.result.now) set) c.options_of-options.ensures c.in-Ok.ensures) in
    let why = subst (λ items. IsFaultOf (g.F.Files.known c.args.files.now) g.row.A.Denot requested.case_insensitive (map text_of items) c.in-Err-read_ignore.fault) c.as_slice-values.ensures.value c.in-Err-read_ignore.ensures in (
      Err c.in-Err-read_ignore.fault,
      (
        ⊎_elim
            (λ memory. inl (ap Err memory, (refl, refl)))
            (λ of. inr (inr (written_of P o requested.globs set.set.patterns.items made.1, are_written P o requested.globs set.set.patterns.items made.1, inl (of.0, of.1, (ap Err of.2, (refl, refl))))))
            why,
        refl,
      ),
    )

pub returns-clause-run : goal.returns-clause-run
returns-clause-run g c =
    let P = g.E.Platform in
    let request = c.args.request.now in
    let requested = requested_of request in
    let o = options_of c.args.os requested.case_insensitive in
    let set = c.in-Ok.set in
    let texts = c.as_slice-texts.result.now in
    let values = c.as_slice-values.result.now in
    let made = subst (λ items. IsSetOf P g.row.A.Denot o (map string_bytes items) set) c.as_slice-texts.ensures.value (subst (λ z. IsSetOf P g.row.A.Denot z (map string_bytes texts) set) c.options_of-options.ensures c.in-Ok.ensures) in
    let written = written_of P o requested.globs set.set.patterns.items made.1 in
    let files = files_of c.in-Ok-read_ignore.ignore in
    let read = subst (λ items. AreRead (g.F.Files.known c.args.files.now) requested.case_insensitive (map text_of items) files) c.as_slice-values.ensures.value c.in-Ok-read_ignore.ensures in
    let input = g.R.Read.remaining (marked_inner c.args.reader.now) in
    let left = g.R.Read.remaining (marked_inner c.run_list.new.reader) in
    let old = g.W.Write.contents (marked_inner c.args.writer.now) in
    let new = g.W.Write.contents (marked_inner c.run_list.new.writer) in
    let by_values = subst (λ items. Runs (deciding P (IsFirstBy P set) request.list (sources (map text_of items) request.plain (map string_bytes texts)) files) OfList input left old new c.run_list.ensures.run.0) c.as_slice-values.ensures.value c.run_list.ensures.run.1.0 in
    let ran = subst (λ items. Runs (deciding P (IsFirstBy P set) request.list (sources requested.files request.plain (map string_bytes items)) files) OfList input left old new c.run_list.ensures.run.0) c.as_slice-texts.ensures.value by_values in
    let does = inr (inr (written, are_written P o requested.globs set.set.patterns.items made.1, inr (files, read, same_deciding P (IsFirstBy P set) (IsFirst P o written) (first_alike P o requested.globs set made.0 made.1) requested.list (reason_sources requested) files OfList input left old new c.run_list.ensures.run.0 ran))) in
    let ended = subst (λ none. IsEndedBy (option_map Words none) old new c.run_list.ensures.run.0 c.run_list.result) c.none_for-none.ensures c.run_list.ensures.run.1.1 in (c.run_list.ensures.run.0, (does, ended))

pub invariant_of-globs : goal.invariant_of-globs
invariant_of-globs g c =
    let texts = c.as_slice-texts.result.now in record {
      counted = sym (length-map texts string_bytes) ∙ as_many g.E.Platform c.options_of-options.result (map string_bytes texts) c.in-Ok.set.set.patterns.items c.in-Ok.ensures.1;
    }

pub invariant_of-reasons : goal.invariant_of-reasons
invariant_of-reasons g c =
    let values = c.as_slice-values.result.now in
    let files = files_of c.in-Ok-read_ignore.ignore in record {
      known = subst (λ n. LinesAreKnown n files) (length-map values text_of) (known_lines c.known_line.ensures (g.F.Files.known c.args.files.now) c.args.request.now.case_insensitive (map text_of values) files c.in-Ok-read_ignore.ensures);
    }
