use Rattle.std.proofs.Common.{◌-◌, [], ◌++◌, length, refl}
use Rattle.osbytes_c.specs.PathParts.{head_parts, prefix_parts, start_parts, parts_in}
use Rattle.osbytes_c.proofs.lemmas.PathParts.{pushes_both, none_written}
use Rattle.osbytes_c.proofs.paths.parts.write_parts.Goals as goal

pub returns : goal.returns
returns c =
    let h = c.head_of-head.result in
    let n = length h.prefix.now in
    let at = length c.args.path.now - length h.body.now in
    let old = c.args.out.now in
    let first = c.push_prefix-count in
    let second = c.push_start-count in
    let top = pushes_both (prefix_parts n) (start_parts h.start n at) old first.new.out second.new.out 0 first.result second.result first.ensures.pushes second.ensures.pushes in
    let all = pushes_both (prefix_parts n ++ start_parts h.start n at) (parts_in h.rules at h.body.now) old second.new.out c.push_body.new.out 0 second.result c.push_body.result top c.push_body.ensures in
    (head_parts h at, (record { head = h; is = c.head_of-head.ensures.parts; are = refl }, all [] old (none_written old)))
