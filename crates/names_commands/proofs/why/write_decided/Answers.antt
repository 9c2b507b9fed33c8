use Rattle.std.proofs.Common.{◌≡◌, ◌++◌, map, string_bytes, subst}
use Rattle.os_ignore.specs.Ignores.{files_of}
use Rattle.names_commands.specs.FirstGlob.{IsFirstBy}
use Rattle.names_commands.specs.Ignoring.{IsInTree, text_of}
use Rattle.names_commands.specs.Why.{IsDecidedText, sources}
use Rattle.names_commands.proofs.why.write_decided.Goals as goal

pub returns-clause-ok : goal.returns-clause-ok
returns-clause-ok g c =
    let text = c.in_ok-text.text.items in
    let name = c.in_ok-name.ensures in
    let from_top = subst (λ needs. IsInTree needs c.args.item.now) c.needs_tree.ensures name.placed in
    let globs = c.args.globs.now in
    let from = sources (map text_of c.args.values.now) globs.plain (map string_bytes globs.texts.now) in
    let decided = subst (λ n. IsDecidedText g.E.Platform (IsFirstBy g.E.Platform globs.set) from (files_of c.args.ignore.now) n text) name.bytes c.in_ok-text.ensures in
    (text, ((name.formed, (name.whole, (from_top, decided))), subst (λ x. c.extend_from_slice.new.self.items ≡ c.args.output.now.items ++ x) c.deref.ensures.value c.in_ok-extend_from_slice.ensures.items))
