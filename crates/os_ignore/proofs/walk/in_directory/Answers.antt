use Rattle.std.proofs.Common.{sym, ◌∙◌}
use Rattle.os_ignore.proofs.lemmas.Below.{hidden_in, own_in}
use Rattle.os_ignore.proofs.walk.in_directory.Goals as goal

pub returns-then-is_ignored : goal.returns-then-is_ignored
returns-then-is_ignored g c = λ directory name shown joined plain.
    let ignored = sym c.is_ignored.ensures ∙ c.if-is_ignored.true in
    hidden_in c.args.files.now directory name c.args.path.now joined c.args.is_dir c.args.above ignored shown

pub returns-else-is_ignored : goal.returns-else-is_ignored
returns-else-is_ignored g c = λ directory name shown joined plain.
    let taken = sym c.is_ignored.ensures ∙ c.if-is_ignored.false in
    let above = own_in c.args.files.now directory name c.args.path.now joined c.args.is_dir c.args.above in
    above c.own.result taken plain shown c.own.ensures
