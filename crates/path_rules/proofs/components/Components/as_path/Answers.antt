use Rattle.std.proofs.Common.{length, drop, ap, ◌∙◌, subst, arith, refl}
use Rattle.path_rules.specs.Left.{Left, IsLeft}
use Rattle.path_rules.specs.LeftParts.{AreLeftIn}
use Rattle.path_rules.proofs.lemmas.AsPath.{body_short, left_in_body, left_alone, part_fits, left_with_prefix, left_after_prefix}
use Rattle.path_rules.proofs.lemmas.Fields.{empty_from, some_from}
use Rattle.path_rules.proofs.components.Components.as_path.Goals as goal

pub returns-then-self : goal.returns-then-self
returns-then-self c =
    let w = c.self.inside.style in
    let path = c.self.inside.path.now in
    let left = c.self.inside.left in
    let h = c.head_of-whole.result in
    let a = c.head_of-whole.ensures.parts in
    let items = c.head_of-whole.ensures.items in
    let n = c.self.inside.taken in
    subst (λ (l : Left). IsLeft l.style l.path l.taken l.items c.trimmed.result.now) c.self.view_is
    (left_in_body w path h left a items n (subst (λ b. AreLeftIn h left b n) c.if-self.true (c.self.invariant.in_each h a)) c.start_trimmed.result.now c.trimmed.result.now
    c.start_trimmed.ensures.items c.start_trimmed.ensures.after c.start_trimmed.ensures.named c.trimmed.ensures.items c.trimmed.ensures.before c.trimmed.ensures.named)

pub returns-then-is_over : goal.returns-then-is_over
returns-then-is_over c =
    let w = c.self.inside.style in
    let path = c.self.inside.path.now in
    let left = c.self.inside.left in
    let h = c.head_of-whole.result in
    let a = c.head_of-whole.ensures.parts in
    let items = c.head_of-whole.ensures.items in
    let n = c.self.inside.taken in
    let over = c.if-is_over.ensures.0 refl in
    subst (λ (l : Left). IsLeft l.style l.path l.taken l.items left.prefix.now) c.self.view_is
    (left_alone w path h left a items n (subst (λ b. AreLeftIn h left b n) c.if-self.false (c.self.invariant.in_each h a)) c.trimmed-body.result.now over.0 c.trimmed-body.ensures.items over.1)

pub overflow_sub-self-inside : goal.overflow_sub-self-inside
overflow_sub-self-inside c = body_short c.self.inside.style c.self.inside.path.now c.head_of-whole.result c.head_of-whole.ensures.parts

pub split_at-requires : goal.split_at-requires
split_at-requires c =
    let path = c.self.inside.path.now in
    let left = c.self.inside.left in
    let h = c.head_of-whole.result in
    let a = c.head_of-whole.ensures.parts in
    let items = c.head_of-whole.ensures.items in
    let n = c.self.inside.taken in
    (part_fits c.self.inside.style path h left a items n (subst (λ b. AreLeftIn h left b n) c.if-self.false (c.self.invariant.in_each h a)) c.trimmed-body.result.now c.trimmed-body.ensures.before c.trimmed-body.ensures.items
    (λ over. let never = c.if-is_over.ensures.1 over in cc)).0

pub split_at-requires-2 : goal.split_at-requires-2
split_at-requires-2 c =
    let path = c.self.inside.path.now in
    let left = c.self.inside.left in
    let h = c.head_of-whole.result in
    let a = c.head_of-whole.ensures.parts in
    let items = c.head_of-whole.ensures.items in
    let n = c.self.inside.taken in
    let fits = (part_fits c.self.inside.style path h left a items n (subst (λ b. AreLeftIn h left b n) c.if-self.false (c.self.invariant.in_each h a)) c.trimmed-body.result.now c.trimmed-body.ensures.before c.trimmed-body.ensures.items
    (λ over. let never = c.if-is_over.ensures.1 over in cc)).1 in
    let long = c.split_at.ensures.front_len in omega arith

pub returns-then-not-is_empty : goal.returns-then-not-is_empty
returns-then-not-is_empty c =
    let path = c.self.inside.path.now in
    let left = c.self.inside.left in
    let h = c.head_of-whole.result in
    let a = c.head_of-whole.ensures.parts in
    let items = c.head_of-whole.ensures.items in
    let n = c.self.inside.taken in
    subst (λ (l : Left). IsLeft l.style l.path l.taken l.items c.split_at.result.0.now) c.self.view_is
    (left_with_prefix c.self.inside.style path h left a items n (subst (λ b. AreLeftIn h left b n) c.if-self.false (c.self.invariant.in_each h a)) c.trimmed-body.result.now c.trimmed-body.ensures.before c.trimmed-body.ensures.items
    (λ over. let never = c.if-is_over.ensures.1 over in cc) c.trimmed-body.ensures.named (some_from left.prefix.now c.is_empty.result c.if-not-is_empty.true c.is_empty.ensures) c.split_at.result.0.now c.split_at.ensures.front)

pub returns : goal.returns
returns c =
    let path = c.self.inside.path.now in
    let left = c.self.inside.left in
    let h = c.head_of-whole.result in
    let a = c.head_of-whole.ensures.parts in
    let items = c.head_of-whole.ensures.items in
    let n = c.self.inside.taken in
    subst (λ (l : Left). IsLeft l.style l.path l.taken l.items c.split_at-2.result.1.now) c.self.view_is
    (left_after_prefix c.self.inside.style path h left a items n (subst (λ b. AreLeftIn h left b n) c.if-self.false (c.self.invariant.in_each h a)) c.trimmed-body.result.now c.trimmed-body.ensures.before c.trimmed-body.ensures.items
    (λ over. let never = c.if-is_over.ensures.1 over in cc) c.trimmed-body.ensures.named (empty_from left.prefix.now c.is_empty.result c.if-not-is_empty.false c.is_empty.ensures) c.split_at-2.result.1.now
    (c.split_at-2.ensures.back ∙ ap (drop (length h.prefix.now)) c.split_at.ensures.front))
