use Rattle.std.proofs.Common.{◌≡◌, ◌≢◌, ◌⊎◌, ◌++◌, [], ⊎_elim, inl, inr, map, string_bytes, refl, sym, ap, ◌∙◌, subst, Err}
use Rattle.std.specs.Option.{option_map}
use Rattle.std.specs.Prelude.{MatchOption}
use Rattle.os_ignore.specs.Walks.{files_of_walk}
use Rattle.program_frame.specs.Marked.{marked_inner}
use Rattle.list_programs.specs.ListRun.{IsEndedBy, Runs}
use Rattle.list_programs.specs.declared.program_fault.Fault.TheVariants.{List as OfList, Words}
use Rattle.names_commands.specs.Command.{requested_of, options_of, sources_of}
use Rattle.names_commands.specs.Ignoring.{AreRead, needs_tree, text_of}
use Rattle.names_commands.specs.Matching.{IsChosen, IsChosenBy, IsMatched, IsMatchedBy, IsPicked, IsSetOf, picking}
use Rattle.names_commands.specs.PatternFiles.{ArePatternsOf, IsUnreadOf, pattern_line, text_of as pattern_text}
use Rattle.names_commands.specs.Program.{IsFaultOf, IsOfGlobs}
use Rattle.names_commands.proofs.lemmas.Picked.{are_written, chosen, matched, same_but, where_stated, written_of}
use Rattle.names_commands.proofs.patterns.run_picked.Goals as goal

pub returns-in-Err-clause-run : goal.returns-in-Err-clause-run
returns-in-Err-clause-run g c = (
  Err c.in-Err.fault,
  (
    ⊎_elim
        (λ memory. inl (ap Err memory, (refl, refl)))
        (λ unread. inr (inl (c.in-Err.fault, inl (unread.0, subst (λ items. IsUnreadOf (g.F.Files.known c.args.files.now) 1 (map text_of items) unread.0) c.as_slice-pattern_files.ensures.value unread.1.0, unread.1.1), (refl, (refl, refl)))))
        c.in-Err.ensures,
    refl,
  ),
)

pub returns-in-Err-sets_of-clause-run : goal.returns-in-Err-sets_of-clause-run
returns-in-Err-sets_of-clause-run g c =
    let P = g.E.Platform in
    let requested = requested_of c.args.request.now in
    let lines = map pattern_line c.in-Ok.of_files.items in
    let read = subst (λ items. ArePatternsOf (g.F.Files.known c.args.files.now) 1 (map text_of items) lines) c.as_slice-pattern_files.ensures.value c.in-Ok.ensures in
    let fault = c.in-Err-sets_of.fault in (
      Err fault,
      (
        ⊎_elim
            (λ memory. inl (ap Err memory, (refl, refl)))
            (λ of.
            let here = subst (λ o. IsOfGlobs P o requested (map pattern_line c.as_slice-lines.result.now) fault) c.options_of-options.ensures of in
            inr (inl (fault, inr (lines, read, subst (λ items. IsOfGlobs P (options_of c.args.os requested.case_insensitive) requested (map pattern_line items) fault) c.as_slice-lines.ensures.value here), (refl, (refl, refl)))))
            c.in-Err-sets_of.ensures,
        refl,
      ),
    )

pub returns-in-Err-read_ignore-clause-run : goal.returns-in-Err-read_ignore-clause-run
returns-in-Err-read_ignore-clause-run g c =
    let P = g.E.Platform in
    let requested = requested_of c.args.request.now in
    let o = options_of c.args.os requested.case_insensitive in
    let lines = map pattern_line c.in-Ok.of_files.items in
    let read = subst (λ items. ArePatternsOf (g.F.Files.known c.args.files.now) 1 (map text_of items) lines) c.as_slice-pattern_files.ensures.value c.in-Ok.ensures in
    let texts = requested.globs ++ map pattern_text lines in
    let set = c.in-Ok-sets_of.sets.0 in
    let excluded = c.in-Ok-sets_of.sets.1 in
    let of_lines = subst (λ items. IsSetOf P g.row.A.Denot c.options_of-options.result (requested.globs ++ map pattern_text (map pattern_line items)) set) c.as_slice-lines.ensures.value c.in-Ok-sets_of.ensures.0 in
    let made = subst (λ z. IsSetOf P g.row.A.Denot z texts set) c.options_of-options.ensures of_lines in
    let left_out = subst (λ z. IsSetOf P g.row.A.Denot z requested.excluded excluded) c.options_of-options.ensures c.in-Ok-sets_of.ensures.1 in
    let why = subst (λ items. IsFaultOf (g.F.Files.known c.args.files.now) g.row.A.Denot requested.case_insensitive (map text_of items) c.in-Err-read_ignore.fault) c.as_slice-values.ensures.value c.in-Err-read_ignore.ensures in (
      Err c.in-Err-read_ignore.fault,
      (
        ⊎_elim
            (λ memory. inl (ap Err memory, (refl, refl)))
            (λ of. inr (inr (
              written_of P o texts set.set.patterns.items made.1,
              written_of P o requested.excluded excluded.set.patterns.items left_out.1,
              (lines, (read, are_written P o texts set.set.patterns.items made.1)),
              (are_written P o requested.excluded excluded.set.patterns.items left_out.1, inl (of.0, of.1, (ap Err of.2, (refl, refl)))),
            )))
            why,
        refl,
      ),
    )

pub returns-clause-run : goal.returns-clause-run
returns-clause-run g c =
    let P = g.E.Platform in
    let requested = requested_of c.args.request.now in
    let o = options_of c.args.os requested.case_insensitive in
    let known = g.F.Files.known c.args.files.now in
    let lines = map pattern_line c.in-Ok.of_files.items in
    let have = subst (λ items. ArePatternsOf known 1 (map text_of items) lines) c.as_slice-pattern_files.ensures.value c.in-Ok.ensures in
    let texts = requested.globs ++ map pattern_text lines in
    let set = c.in-Ok-sets_of.sets.0 in
    let excluded = c.in-Ok-sets_of.sets.1 in
    let of_lines = subst (λ items. IsSetOf P g.row.A.Denot c.options_of-options.result (requested.globs ++ map pattern_text (map pattern_line items)) set) c.as_slice-lines.ensures.value c.in-Ok-sets_of.ensures.0 in
    let made = subst (λ z. IsSetOf P g.row.A.Denot z texts set) c.options_of-options.ensures of_lines in
    let left_out = subst (λ z. IsSetOf P g.row.A.Denot z requested.excluded excluded) c.options_of-options.ensures c.in-Ok-sets_of.ensures.1 in
    let written = written_of P o texts set.set.patterns.items made.1 in
    let without = written_of P o requested.excluded excluded.set.patterns.items left_out.1 in
    let globs = c.set_of.result in
    let held = subst (λ files. MatchOption globs ((c.args.request.now.patterns.items ≡ []) × (files ≡ [])) (λ held. ((c.args.request.now.patterns.items ≢ []) ⊎ (files ≢ [])) × (held.now ≡ set))) c.as_slice-pattern_files.ensures.value (subst (λ strings. MatchOption globs ((strings ≡ []) × (c.as_slice-pattern_files.result.now ≡ [])) (λ held. ((strings ≢ []) ⊎ (c.as_slice-pattern_files.result.now ≢ [])) × (held.now ≡ set))) c.as_slice-patterns.ensures.value c.set_of.ensures) in
    let stated = where_stated string_bytes text_of (λ held. held.now ≡ set) c.args.request.now.patterns.items c.args.request.now.pattern_files.items globs held in
    let choose = chosen P o texts set made.0 made.1 (sources_of requested) globs stated in
    let leave = matched P o requested.excluded excluded left_out.0 left_out.1 in
    let files = files_of_walk c.new-walk.result in
    let read = subst (λ items. AreRead known requested.case_insensitive (map text_of items) files) c.as_slice-values.ensures.value (subst (AreRead known requested.case_insensitive (map text_of c.as_slice-values.result.now)) (sym c.new-walk.ensures) c.in-Ok-read_ignore.ensures) in
    let input = g.R.Read.remaining (marked_inner c.args.reader.now) in
    let left = g.R.Read.remaining (marked_inner c.run_list.new.reader) in
    let old = g.W.Write.contents (marked_inner c.args.writer.now) in
    let new = g.W.Write.contents (marked_inner c.run_list.new.writer) in
    let from_top = c.needs_tree-from_top.ensures ∙ ap (λ items. needs_tree (map text_of items)) c.as_slice-values.ensures.value in
    let run = subst (λ z. Runs (picking P c.args.form requested.list z (IsPicked requested.inverted (IsChosenBy P globs) (IsMatchedBy P excluded) files)) OfList input left old new c.run_list.ensures.run.0) from_top c.run_list.ensures.run.1.0 in
    let ran = same_but (IsChosenBy P globs) (IsChosen P (sources_of requested) o written) (IsMatchedBy P excluded) (IsMatched P o without) choose leave known g.row.A.Denot P c.args.form requested.list requested.inverted requested.case_insensitive requested.files input left old new c.run_list.ensures.run.0 (inr (files, read, run)) in
    let does = inr (inr (written, without, (lines, (have, are_written P o texts set.set.patterns.items made.1)), (are_written P o requested.excluded excluded.set.patterns.items left_out.1, ran))) in
    let ended = subst (λ none. IsEndedBy (option_map Words none) old new c.run_list.ensures.run.0 c.run_list.result) c.none_for-none.ensures c.run_list.ensures.run.1.1 in (c.run_list.ensures.run.0, (does, ended))
