use Rattle.std.proofs.Common.{◌≤◌, is_ok, length, sym, subst, take}
use Rattle.std.specs.List.{All}
use Rattle.os_ignore.specs.Above.{IsDecided}
use Rattle.os_ignore.proofs.lemmas.Above.{all_moved, front_kept}
use Rattle.os_ignore.proofs.walk.Walk.turn_to.Goals as goal

pub invariant_of-self-clause-linked : goal.invariant_of-self-clause-linked
invariant_of-self-clause-linked g c = c.args.self.now.linked

pub invariant_of-self-clause-decided : goal.invariant_of-self-clause-decided
invariant_of-self-clause-decided g c =
    let files = c.args.self.now.files.now in
    let old = c.args.self.now.path.items in
    let new = c.extend_from_slice.new.self.items in
    let shared = c.shared_bytes-shared.result in
    let within : shared ≤ length old = subst (λ z. shared ≤ length z) c.deref.ensures.value c.shared_bytes-shared.ensures.in_path in
    let same = front_kept old c.truncate-2.new.self.items new _ shared (is_ok c.extend_from_slice.result) within c.truncate-2.ensures.items c.extend_from_slice.ensures.items in
    let short = subst (λ z. All (λ directory. directory.start ≤ shared) (take c.shared_directories.result z)) c.deref-2.ensures.value c.shared_directories.ensures in
    subst (All (IsDecided files new)) (sym c.truncate.ensures.items) (all_moved files old new shared c.shared_directories.result c.args.self.now.above.items same short c.args.self.now.decided)
