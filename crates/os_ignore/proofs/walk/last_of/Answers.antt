use Rattle.std.proofs.Common.{◌≡◌, ◌-◌, take, Some, length, slice_get, option_copied, sym, ap, ◌∙◌}
use Rattle.os_ignore.specs.Above.{IsDecided}
use Rattle.os_ignore.proofs.lemmas.Above.{at_slice, in_none, in_some}
use Rattle.os_ignore.proofs.lemmas.Links.{regain_up_to, up_to_top}
use Rattle.os_ignore.proofs.walk.last_of.Goals as goal

pub returns-in-Some : goal.returns-in-Some
returns-in-Some g c = λ path h.
    let files = c.args.files.now in
    let above = c.args.above.now in
    let last = c.in-Some.directory.now in
    let found : slice_get above (length above - 1) ≡ Some last = sym c.last.ensures.value ∙ ap option_copied c.in-Some.is in
    let decided = at_slice (IsDecided files path) above (length above - 1) last found h in
    (in_some files path last decided, regain_up_to (take last.start path) files last.files decided.1.1.1)

pub returns-in-None : goal.returns-in-None
returns-in-None g c = λ path h. (in_none c.args.files.now, up_to_top c.args.files.now c.last_in.result c.last_in.ensures)
