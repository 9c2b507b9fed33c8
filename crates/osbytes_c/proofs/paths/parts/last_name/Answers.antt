use Rattle.std.proofs.Common.{◌-◌, [], ◌∷◌, ◌++◌, length, refl, subst, sym, ap, ◌∙◌, append_assoc, arith}
use Rattle.std.proofs.lemmas.List.{same_from_push}
use Rattle.osbytes_c.specs.PathParts.{head_parts, prefix_parts, start_parts, IsNoName}
use Rattle.osbytes_c.proofs.lemmas.PathParts.{body_within, none_in_head}
use Rattle.osbytes_c.proofs.paths.parts.last_name.Goals as goal

pub returns-in-Some-clause-name : goal.returns-in-Some-clause-name
returns-in-Some-clause-name c =
    let h = c.head_of-head.result in
    let n = length h.prefix.now in
    let top = prefix_parts n ++ start_parts h.start n (length c.args.path.now - length h.body.now) in
    let found = c.in-Some.ensures.last in
    record {
      before = top ++ found.0;
      are = record {
        head = h;
        is = c.head_of-head.ensures.parts;
        are = append_assoc top found.0 (c.in-Some.last ∷ []) ∙ ap (λ x. top ++ x) (sym found.1);
      };
      name = c.if-last-eq5.true;
    }

pub returns-in-Some-clause-within : goal.returns-in-Some-clause-within
returns-in-Some-clause-within c =
    let within = body_within c.args.style c.args.path.now c.head_of-head.result c.head_of-head.ensures.parts in
    let to = c.in-Some.ensures.within.1 in
    (c.in-Some.ensures.within.0, omega arith)

pub returns-in_default-clause-name : goal.returns-in_default-clause-name
returns-in_default-clause-name c =
    let h = c.head_of-head.result in
    let n = length h.prefix.now in
    let at = length c.args.path.now - length h.body.now in
    let top = prefix_parts n ++ start_parts h.start n at in
    let found = c.in-Some.ensures.last in
    let all = append_assoc top found.0 (c.in-Some.last ∷ []) ∙ ap (λ x. top ++ x) (sym found.1) in
    record {
      parts = head_parts h at;
      are = record { head = h; is = c.head_of-head.ensures.parts; are = refl };
      none = λ before p e. subst IsNoName ((same_from_push (top ++ found.0) before c.in-Some.last p (all ∙ e)).1) c.if-last-eq5.false;
    }

pub returns-in_default-2-clause-name : goal.returns-in_default-2-clause-name
returns-in_default-2-clause-name c =
    let h = c.head_of-head.result in
    let n = length h.prefix.now in
    let at = length c.args.path.now - length h.body.now in
    let top = prefix_parts n ++ start_parts h.start n at in
    record {
      parts = head_parts h at;
      are = record { head = h; is = c.head_of-head.ensures.parts; are = refl };
      none = λ before p e. none_in_head h.start n n at before p (sym (ap (λ x. top ++ x) c.in_default.ensures.last) ∙ e);
    }
