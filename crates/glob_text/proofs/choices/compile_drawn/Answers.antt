use Rattle.std.proofs.Common.{◌≡◌, ◌<◌, ◌+◌, ◌∷◌, [], ◌∙◌, ap, map, reverse, rules, subst, sym}
use Rattle.std.proofs.lemmas.List.{nil_from_length}
use Rattle.std.proofs.lemmas.Result.{IfOk-weaker}
use Rattle.glob_text.specs.Backwards.{choices_behind, at_end}
use Rattle.glob_text.specs.Chosen.{indices_of}
use Rattle.glob_text.specs.Marks.{mark_of}
use Rattle.glob_text.specs.Nodes.{opened_of}
use Rattle.glob_text.specs.Parts.{AreCompiled}
use Rattle.glob_text.proofs.lemmas.Written.{all_written, last_first, none_written, one_written, opened_second, step_at, weight, weights, IsWriting}
use Rattle.glob_text.proofs.choices.compile_drawn.Goals as goal

pub loop-written-init : goal.loop-written-init
loop-written-init g c =
    let marks = map mark_of c.args.marks.now in
    let nodes = c.args.drawing.now.nodes.items in
    let all = (choices_behind marks at_end).current in
    let node = c.args.drawing.now.current.node in
    let none = none_written marks nodes all node c.requires.current.leads in
    subst (λ z. IsWriting marks nodes all (record { opened = record { marks = z; node = node } ∷ reverse (map opened_of c.new-opened.result.items); written = indices_of c.in_ok-written.written.items }))
    (sym c.in_ok-with_capacity.ensures.items)
    (subst (λ z. IsWriting marks nodes all (record { opened = record { marks = []; node = node } ∷ reverse (map opened_of z); written = indices_of c.in_ok-written.written.items }))
    (sym c.new-opened.ensures.items)
    (subst (λ z. IsWriting marks nodes all (record { opened = record { marks = []; node = node } ∷ []; written = indices_of z })) (sym c.in_ok-written.ensures.items) none))

pub returns-in_default : goal.returns-in_default
returns-in_default g c =
    let marks = map mark_of c.args.marks.now in
    let all = (choices_behind marks at_end).current in
    let next = step_at _ _ _ _ _ _ _ _ _ c.node_at.ensures c.deref.ensures.value c.in-End.is c.loop-written.invariant in
    let none : c.loop-written.opened.items ≡ [] = nil_from_length _ (search rules) in
    let same = all_written _ _ all _ c.deref-in_default.result.now (one_written _ _ _ _ _ _ _ (c.deref-in_default.ensures.value ∙ c.in_ok-push-in-End.ensures.items) next.0) (ap (λ z. reverse (map opened_of z)) none) in
    IfOk-weaker c.compile_each.result _ _ (λ compiled h. subst (λ z. AreCompiled c.args.separators z compiled.items) (sym same) h) c.compile_each.ensures

pub loop-written-smaller-in-End : goal.loop-written-smaller-in-End
loop-written-smaller-in-End g c =
    let next = step_at _ _ _ _ _ _ _ _ _ c.node_at.ensures c.deref.ensures.value c.in-End.is c.loop-written.invariant in
    subst (λ z. weights z < weight c.loop-written.one.node + weights (reverse (map opened_of c.loop-written.opened.items)))
    (last_first c.loop-written.opened.items c.pop.new.self.items c.in-Some.next c.in-Some.ensures.items) next.1

pub loop-written-preserved-in-End : goal.loop-written-preserved-in-End
loop-written-preserved-in-End g c =
    let marks = map mark_of c.args.marks.now in
    let nodes = c.args.drawing.now.nodes.items in
    let all = (choices_behind marks at_end).current in
    let next = step_at _ _ _ _ _ _ _ _ _ c.node_at.ensures c.deref.ensures.value c.in-End.is c.loop-written.invariant in
    subst (λ z. IsWriting marks nodes all (record { opened = z; written = indices_of c.push.new.self.items }))
    (last_first c.loop-written.opened.items c.pop.new.self.items c.in-Some.next c.in-Some.ensures.items)
    (one_written _ _ _ _ _ _ _ c.in_ok-push-in-End.ensures.items next.0)

pub loop-written-smaller-in-One : goal.loop-written-smaller-in-One
loop-written-smaller-in-One g c =
    (step_at _ _ _ _ _ _ _ _ _ c.node_at.ensures c.deref.ensures.value c.in-One.is c.loop-written.invariant).1

pub loop-written-preserved-in-One : goal.loop-written-preserved-in-One
loop-written-preserved-in-One g c =
    let marks = map mark_of c.args.marks.now in
    let nodes = c.args.drawing.now.nodes.items in
    let all = (choices_behind marks at_end).current in
    let next = step_at _ _ _ _ _ _ _ _ _ c.node_at.ensures c.deref.ensures.value c.in-One.is c.loop-written.invariant in
    subst (λ z. IsWriting marks nodes all (record { opened = record { marks = z; node = c.in-One.next } ∷ reverse (map opened_of c.loop-written.opened.items); written = indices_of c.loop-written.written.items }))
    (sym c.in_ok-push-in-One.ensures.items) next.0

pub loop-written-smaller : goal.loop-written-smaller
loop-written-smaller g c =
    let next = step_at _ _ _ _ _ _ _ _ _ c.node_at.ensures c.deref.ensures.value c.in-Both.is c.loop-written.invariant in
    let second = opened_second c.loop-written.opened.items _ _ _ _ c.in_ok-push-in-Both.ensures.items (c.in_ok-copy-in-Both.ensures ∙ c.deref-in-Both.ensures.value) in
    subst (λ z. weight c.in-Both.first + weights z < weight c.loop-written.one.node + weights (reverse (map opened_of c.loop-written.opened.items))) (sym second) next.1

pub loop-written-preserved : goal.loop-written-preserved
loop-written-preserved g c =
    let marks = map mark_of c.args.marks.now in
    let nodes = c.args.drawing.now.nodes.items in
    let all = (choices_behind marks at_end).current in
    let next = step_at _ _ _ _ _ _ _ _ _ c.node_at.ensures c.deref.ensures.value c.in-Both.is c.loop-written.invariant in
    let second = opened_second c.loop-written.opened.items _ _ _ _ c.in_ok-push-in-Both.ensures.items (c.in_ok-copy-in-Both.ensures ∙ c.deref-in-Both.ensures.value) in
    subst (λ z. IsWriting marks nodes all (record { opened = record { marks = c.loop-written.one.marks.items; node = c.in-Both.first } ∷ z; written = indices_of c.loop-written.written.items })) (sym second) next.0
