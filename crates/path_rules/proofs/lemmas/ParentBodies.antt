-- The parent of a path, and a path up to the end of its last component, end in the path's body.
use Rattle.std.proofs.Common.{◌≡◌, inl, inr, ◌+◌, ◌-◌, ℕ, List, [], ◌∷◌, ◌++◌, length, take, sym, ap, ◌∙◌, subst, arith, refl, append_assoc, append-nil, length-append}
use Rattle.std.proofs.lemmas.List.{take_at, append_cancel_left}
use Rattle.path_rules.specs.declared.rules.Rules.{Rules}
use Rattle.path_rules.specs.declared.rules.Style as whose
use Rattle.path_rules.specs.declared.head.Head.{Head}
use Rattle.path_rules.specs.Component.{Item, components_in, EndsNamed}
use Rattle.path_rules.specs.Components.{AreComponents}
use Rattle.path_rules.specs.HeadParts.{IsHead}
use Rattle.path_rules.specs.Body.{HasBody, EndsTight, IsEndTrimmed}
use Rattle.path_rules.specs.Parent.{IsParent, IsBelow}
use Rattle.path_rules.specs.Cut.{IsAsciiCut}
use Rattle.path_rules.proofs.lemmas.Parents.{Shorter, shorter_of}
use Rattle.path_rules.proofs.lemmas.Starts.{Ends}
use Rattle.path_rules.proofs.lemmas.Strips.{body_at, head_body}

front_of : (r : Rules) (body rest : List ℕ) → Ends r body rest → (more : List ℕ) × (body ≡ rest ++ more)
front_of r body rest (inl n) = (body, sym (ap (λ x. x ++ body) n))
front_of r body rest (inr f) = (f.more, f.joined)

-- what comes after the part that is left of the body
pub body_after : (path : List ℕ) (head : Head) (rest : List ℕ) (xs : List Item) → Ends head.rules head.body.now rest → (w : whose.Style) → IsHead w path head → (f : Shorter w path head rest xs) → head.body.now ≡ rest ++ f.more
body_after path head rest xs ends w h f =
    let t = body_at w path head h in
    let e = front_of head.rules head.body.now rest ends in
    let all : path ≡ (t.before ++ rest) ++ e.0 = t.joined ∙ ap (λ x. t.before ++ x) e.1 ∙ sym (append_assoc t.before rest e.0) in
    let n = length f.before in
    let sizes = f.long in
    let long : length (t.before ++ rest) ≡ n = omega (arith, sizes, length-append t.before rest, ap length t.joined, length-append t.before head.body.now) in
    let same : f.before ≡ t.before ++ rest = sym (ap (take n) f.joined ∙ take_at f.before f.more n refl) ∙ ap (take n) all ∙ take_at (t.before ++ rest) e.0 n long in
    let more : f.more ≡ e.0 = append_cancel_left f.before f.more e.0 (sym f.joined ∙ all ∙ ap (λ x. x ++ e.0) (sym same)) in
    e.1 ∙ ap (λ x. rest ++ x) (sym more)

pub is_parent : (path : List ℕ) (head : Head) (rest : List ℕ) (x : Item) (ends : Ends head.rules head.body.now rest) (named : components_in head.rules head.body.now ≡ components_in head.rules rest ++ x ∷ []) (w : whose.Style) → IsHead w path head → IsBelow x → EndsNamed head.rules rest → IsParent w path (take (length path - length head.body.now + length rest) path)
is_parent path head rest x ends named w h low tight =
    let f = shorter_of path head rest (x ∷ []) ends named w h in
    let n = length path - length head.body.now + length rest in
    let long : length f.before ≡ n = let l = f.long in let s = f.short in omega arith in
    let before : take n path ≡ f.before = ap (take n) f.joined ∙ take_at f.before f.more n long in
    let after = body_after path head rest (x ∷ []) ends w h f in
    record {
      after = f.more;
      joined = f.joined ∙ ap (λ y. y ++ f.more) (sym before);
      cut = subst (λ y. IsAsciiCut y f.more) (sym before) f.beside;
      items = f.items;
      last = x;
      are = subst (λ y. AreComponents w y f.items) (sym before) f.are;
      whole = f.whole;
      below = low;
      tight = subst (EndsTight w) (sym before) (record { rules = head.rules; body = rest; has = f.has; named = tight });
      within = inl (record {
        rules = head.rules;
        body = head.body.now;
        left = rest;
        has = head_body w path head h;
        has_left = subst (λ y. HasBody w y head.rules rest) (sym before) f.has;
        joined = after;
      });
    }

pub is_end_trimmed : (path : List ℕ) (head : Head) (rest : List ℕ) (ends : Ends head.rules head.body.now rest) (named : components_in head.rules head.body.now ≡ components_in head.rules rest) (w : whose.Style) → IsHead w path head → EndsNamed head.rules rest
    → IsEndTrimmed w path (take (length path - length head.body.now + length rest) path)
is_end_trimmed path head rest ends named w h tight =
    let f = shorter_of path head rest [] ends (named ∙ sym (append-nil (components_in head.rules rest))) w h in
    let n = length path - length head.body.now + length rest in
    let long : length f.before ≡ n = let l = f.long in let s = f.short in omega arith in
    let before : take n path ≡ f.before = ap (take n) f.joined ∙ take_at f.before f.more n long in
    record {
      after = f.more;
      joined = f.joined ∙ ap (λ y. y ++ f.more) (sym before);
      cut = subst (λ y. IsAsciiCut y f.more) (sym before) f.beside;
      items = f.items;
      are = subst (λ y. AreComponents w y f.items) (sym before) f.are;
      whole = subst (AreComponents w path) (append-nil f.items) f.whole;
      tight = subst (EndsTight w) (sym before) (record { rules = head.rules; body = rest; has = f.has; named = tight });
      within = record {
        rules = head.rules;
        body = head.body.now;
        left = rest;
        has = head_body w path head h;
        has_left = subst (λ y. HasBody w y head.rules rest) (sym before) f.has;
        joined = body_after path head rest [] ends w h f;
      };
    }
