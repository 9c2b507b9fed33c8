-- Choices that are written, one node at a time.
use Rattle.std.proofs.Common.{◌≡◌, ℕ, zero, suc, ◌+◌, ◌<◌, ◌≤◌, List, [], ◌∷◌, ◌++◌, map, reverse, refl, sym, ap, ◌∙◌, subst, arith, append_assoc, append-nil}
use Rattle.std.specs.declared.vec.Vec.{Vec}
use Rattle.std.proofs.lemmas.List.{map-append, reverse-append}
use Rattle.std.proofs.lemmas.Simd.{map-map}
use Rattle.glob_text.specs.declared.choices.Chosen.{Chosen}
use Rattle.glob_text.specs.declared.choices.Node.{Node}
use Rattle.glob_text.specs.declared.choices.Opened.{Opened}
use Rattle.glob_text.specs.Backwards.{each_after}
use Rattle.glob_text.specs.Chosen.{indices_of, mark_at, marks_at, choices_of}
use Rattle.glob_text.specs.Marks.{Mark}
use Rattle.glob_text.specs.Nodes.{node_at, Leads, ends, one, both, OneOpened, Writing, opened_of, stepped}
use Rattle.glob_text.proofs.lemmas.Backwards.{map_alike, map_itself}

-- More than twice what a lower node weighs: so the choices that are opened weigh less after each node.
abbrev pub weight : ℕ → ℕ
weight zero = 1
weight (suc n) = 1 + (weight n + weight n)

abbrev pub weights : List OneOpened → ℕ
weights [] = 0
weights (o ∷ os) = weight o.node + weights os

weight_grows : (n m : ℕ) → n ≤ m → weight n ≤ weight m
weight_grows zero zero l = omega arith
weight_grows zero (suc m) l = let h = weight_grows zero m (omega arith) in omega (arith, h)
weight_grows (suc n) zero l = absurd (omega (arith, l))
weight_grows (suc n) (suc m) l = let h = weight_grows n m (omega (arith, l)) in omega (arith, h)

weighs_less : (n m : ℕ) → n < m → weight n + weight n < weight m
weighs_less n zero l = absurd (omega (arith, l))
weighs_less n (suc m) l = let h = weight_grows n m (omega (arith, l)) in omega (arith, h)

module _ (marks : List Mark) (nodes : List Node) where
  abbrev pub after : List ℕ → List (List Mark) → List (List Mark)
  after is cs = map (λ c. marks_at marks is ++ c) cs

  -- the choices that are opened lead to these
  abbrev pub AreLeft : List OneOpened → List (List Mark) → Type 0
  AreLeft [] rest = rest ≡ []
  AreLeft (o ∷ os) rest = (cs : List (List Mark)) × (ds : List (List Mark)) × Leads marks nodes o.node cs × (rest ≡ after o.marks cs ++ ds) × AreLeft os ds

  -- the choices are written, or are left
  pub record IsWriting (all : List (List Mark)) (w : Writing) : Type 0 where
    pub rest : List (List Mark)
    pub left : AreLeft w.opened rest
    pub joined : all ≡ map (marks_at marks) w.written ++ rest

  pub none_written : (all : List (List Mark)) (node : ℕ) → Leads marks nodes node all → IsWriting all (record { opened = record { marks = []; node = node } ∷ []; written = [] })
  none_written all node h = record {
    rest = all;
    left = (all, [], h, sym (append-nil (after [] all) ∙ map_itself all), refl);
    joined = refl;
  }

  -- a mark before each choice
  one_more : (is : List ℕ) (i : ℕ) (cs : List (List Mark)) → after is (each_after (mark_at marks i) cs) ≡ after (is ++ i ∷ []) cs
  one_more is i cs =
      map-map (λ c. marks_at marks is ++ c) (λ c. mark_at marks i ∷ c) cs
      ∙ map_alike (λ c. marks_at marks is ++ mark_at marks i ∷ c) (λ c. marks_at marks (is ++ i ∷ []) ++ c)
      (λ c. sym (ap (λ z. z ++ c) (map-append (mark_at marks) is (i ∷ [])) ∙ append_assoc (marks_at marks is) (mark_at marks i ∷ []) c)) cs

  module _ (all : List (List Mark)) (o : OneOpened) (os : List OneOpened) (is : List (List ℕ)) where
    abbrev pub Next : Node → Type 0
    Next n = IsWriting all (stepped n o (record { opened = os; written = is })) × (weights (stepped n o (record { opened = os; written = is })).opened < weight o.node + weights os)

    step_left : (cs ds : List (List Mark)) (rest : List (List Mark)) → Leads marks nodes o.node cs → rest ≡ after o.marks cs ++ ds → AreLeft os ds → all ≡ map (marks_at marks) is ++ rest → Next (node_at nodes o.node)
    step_left cs ds rest (ends l e) j k a = subst Next (sym e) (
      record {
        rest = ds;
        left = k;
        joined = a ∙ ap (λ z. map (marks_at marks) is ++ z) (j ∙ ap (λ z. z ∷ ds) (append-nil (marks_at marks o.marks)))
            ∙ sym (append_assoc (map (marks_at marks) is) (marks_at marks o.marks ∷ []) ds)
            ∙ ap (λ z. z ++ ds) (sym (map-append (marks_at marks) is (o.marks ∷ [])));
      },
      (let h = weight_grows 0 o.node (omega arith) in omega (arith, h)),
    )
    step_left cs ds rest (one {cs = es} index next l e b h) j k a = subst Next (sym e) (
      record {
        rest = rest;
        left = (es, ds, h, j ∙ ap (λ z. z ++ ds) (one_more o.marks index es), k);
        joined = a;
      },
      (let g = weighs_less next o.node b in omega (arith, g)),
    )
    step_left cs ds rest (both {cs = es} {ds = fs} first second l e b d h g) j k a = subst Next (sym e) (
      record {
        rest = rest;
        left = (es, after o.marks fs ++ ds, h, j ∙ ap (λ z. z ++ ds) (map-append (λ c. marks_at marks o.marks ++ c) es fs) ∙ append_assoc (after o.marks es) (after o.marks fs) ds, (fs, ds, g, refl, k));
        joined = a;
      },
      (let x = weighs_less first o.node b in let y = weighs_less second o.node d in omega (arith, x, y)),
    )

    pub step_at : (seen : List Node) (found n : Node) → found ≡ node_at seen o.node → seen ≡ nodes → found ≡ n → IsWriting all (record { opened = o ∷ os; written = is }) → Next n
    step_at seen found n e s k h = subst Next (sym (e ∙ ap (λ z. node_at z o.node) s) ∙ k) (step_left h.left.0 h.left.1 h.rest h.left.2 h.left.3 h.left.4 h.joined)

  -- a choice more is written
  pub one_written : {A : Type 0} (all : List (List Mark)) (cs ds : List (Chosen A)) (is : Vec ℕ A) (os : List OneOpened) → ds ≡ cs ++ record { marks = is } ∷ [] → IsWriting all (record { opened = os; written = indices_of cs ++ is.items ∷ [] }) → IsWriting all (record { opened = os; written = indices_of ds })
  one_written all cs ds is os e h =
      subst (λ z. IsWriting all (record { opened = os; written = z })) (sym (ap indices_of e ∙ map-append (λ c. c.marks.items) cs (record { marks = is } ∷ []))) h

  pub all_written : {A : Type 0} (all : List (List Mark)) (os : List OneOpened) (cs : List (Chosen A)) → IsWriting all (record { opened = os; written = indices_of cs }) → os ≡ [] → all ≡ choices_of marks cs
  all_written all os cs h e =
      let none : h.rest ≡ [] = subst (λ z. AreLeft z h.rest) e h.left in
      h.joined ∙ ap (λ z. map (marks_at marks) (indices_of cs) ++ z) none ∙ append-nil (map (marks_at marks) (indices_of cs)) ∙ map-map (marks_at marks) (λ c. c.marks.items) cs

module _ {A : Type 0} where
  -- the choice that was opened last comes first
  pub last_first : (os front : List (Opened A)) (o : Opened A) → os ≡ front ++ o ∷ [] → reverse (map opened_of os) ≡ opened_of o ∷ reverse (map opened_of front)
  last_first os front o e = ap (λ z. reverse (map opened_of z)) e ∙ ap reverse (map-append opened_of front (o ∷ [])) ∙ reverse-append (map opened_of front) (opened_of o ∷ [])

  -- the second way to go on with a choice comes first of those that were opened
  pub opened_second : (os all : List (Opened A)) (is : Vec ℕ A) (marks : List ℕ) (node : ℕ) → all ≡ os ++ record { marks = is; node = node } ∷ [] → is.items ≡ marks → reverse (map opened_of all) ≡ record { marks = marks; node = node } ∷ reverse (map opened_of os)
  opened_second os all is marks node e m = last_first all os (record { marks = is; node = node }) e ∙ ap (λ z. record { marks = z; node = node } ∷ reverse (map opened_of os)) m
