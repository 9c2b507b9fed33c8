-- What the marks that are read are written out as, one more mark at a time.
use Rattle.std.proofs.Common.{◌≡◌, ℕ, ◌<◌, List, [], ◌∷◌, ◌++◌, length, get_or, Option, Some, None, refl, sym, ap, ◌∙◌, subst, arith, length-append, append_assoc, append-nil}
use Rattle.std.proofs.lemmas.List.{get_or_at, get_or_append_left}
use Rattle.glob_text.specs.declared.choices.Counted.{Counted}
use Rattle.glob_text.specs.declared.choices.Group.{Group}
use Rattle.glob_text.specs.declared.choices.Node.{Node}
use Rattle.glob_text.specs.declared.choices.Node.TheVariants.{End, One, Both}
use Rattle.glob_text.specs.Backwards.{Pending, Behind, each_after, choices_before, choices_behind, at_end}
use Rattle.glob_text.specs.Chosen.{mark_at}
use Rattle.glob_text.specs.Marks.{Mark, literal, any, star, one_of, opens, comma, closes}
use Rattle.glob_text.specs.Nodes.{Drawn, node_at, with_one, with_found, within, open_in, comma_in, added, Leads, ends, one, both, Are, AreFound, AreGroups, IsDrawn, IsDrawingOf}
use Rattle.glob_text.specs.Sizes.{size_of, both_sizes, with_mark, nothing_size}
use Rattle.glob_text.proofs.lemmas.Sizes.{size_both, size_each, size_nothing}

module _ (marks : List Mark) where
  module _ (nodes : List Node) (n : Node) where
    fits : (i : ℕ) → i < length nodes → i < length (nodes ++ n ∷ [])
    fits i l = omega (arith, l, length-append nodes (n ∷ []))

    same : (i : ℕ) → i < length nodes → node_at (nodes ++ n ∷ []) i ≡ node_at nodes i
    same i l = get_or_append_left nodes (n ∷ []) End i l

    -- one more node changes nothing
    lead_on : {i : ℕ} {cs : List (List Mark)} → Leads marks nodes i cs → Leads marks (nodes ++ n ∷ []) i cs
    lead_on (ends {i = i} l e) = ends (fits i l) (same i l ∙ e)
    lead_on (one {i = i} index next l e b h) = one index next (fits i l) (same i l ∙ e) b (lead_on h)
    lead_on (both {i = i} first second l e b d h k) = both first second (fits i l) (same i l ∙ e) b d (lead_on h) (lead_on k)

    are_on : (c : Counted) (cs : List (List Mark)) → Are marks nodes c cs → Are marks (nodes ++ n ∷ []) c cs
    are_on c cs h = record { leads = lead_on h.leads; size = h.size }

    found_on : (f : Option Counted) (cs : List (List Mark)) → AreFound marks nodes f cs → AreFound marks (nodes ++ n ∷ []) f cs
    found_on None cs h = h
    found_on (Some c) cs h = are_on c cs h

    groups_on : (gs : List Group) (ps : List (Pending (List (List Mark)))) → AreGroups marks nodes gs ps → AreGroups marks (nodes ++ n ∷ []) gs ps
    groups_on [] [] h = tt
    groups_on [] (p ∷ ps) h = absurd h
    groups_on (g ∷ gs) [] h = absurd h
    groups_on (g ∷ gs) (p ∷ ps) h = (are_on g.after p.after h.0, found_on g.found p.found h.1, groups_on gs ps h.2)

    -- where it is
    last_fits : length nodes < length (nodes ++ n ∷ [])
    last_fits = omega (arith, length-append nodes (n ∷ []))

    last_is : node_at (nodes ++ n ∷ []) (length nodes) ≡ n
    last_is = get_or_at nodes n [] End (length nodes) refl

  in_range : (nodes : List Node) (i : ℕ) (cs : List (List Mark)) → Leads marks nodes i cs → i < length nodes
  in_range nodes i cs (ends l e) = l
  in_range nodes i cs (one index next l e b h) = l
  in_range nodes i cs (both first second l e b d h k) = l

  abbrev behind : List (Pending (List (List Mark))) → List (List Mark) → Behind (List (List Mark))
  behind ps cs = record { groups = ps; current = cs }

  -- before a mark that is itself
  one_drawn : (d : Drawn) (ps : List (Pending (List (List Mark)))) (cs : List (List Mark)) (i : ℕ) (m : Mark) → mark_at marks i ≡ m → IsDrawn marks d (behind ps cs) → IsDrawn marks (with_one d i) (behind ps (each_after m cs))
  one_drawn d ps cs i m e h =
      let n = One i d.current.node in
      record {
        current = record {
          leads = subst (λ z. Leads marks (d.nodes ++ n ∷ []) (length d.nodes) (each_after z cs)) e
              (one i d.current.node (last_fits d.nodes n) (last_is d.nodes n) (in_range d.nodes d.current.node cs h.current.leads) (lead_on d.nodes n h.current.leads));
          size = ap with_mark h.current.size ∙ sym (size_each m cs);
        };
        groups = groups_on d.nodes n d.groups ps h.groups;
      }

  -- with what was found before
  found_drawn : (d : Drawn) (ps : List (Pending (List (List Mark)))) (cs ds : List (List Mark)) (f : Option Counted) → AreFound marks d.nodes f ds → IsDrawn marks d (behind ps cs) → IsDrawn marks (with_found d f) (behind ps (cs ++ ds))
  found_drawn d ps cs ds None e h = subst (λ z. IsDrawn marks d (behind ps z)) (sym (ap (λ z. cs ++ z) e ∙ append-nil cs)) h
  found_drawn d ps cs ds (Some f) k h =
      let n = Both d.current.node f.node in
      record {
        current = record {
          leads = both d.current.node f.node (last_fits d.nodes n) (last_is d.nodes n) (in_range d.nodes d.current.node cs h.current.leads) (in_range d.nodes f.node ds k.leads) (lead_on d.nodes n h.current.leads) (lead_on d.nodes n k.leads);
          size = ap (λ z. both_sizes z f.size) h.current.size ∙ ap (both_sizes (size_of cs)) k.size ∙ sym (size_both cs ds);
        };
        groups = groups_on d.nodes n d.groups ps h.groups;
      }

  inner : (d : Drawn) (g : Group) (gs : List Group) (p : Pending (List (List Mark))) (ps : List (Pending (List (List Mark)))) (cs : List (List Mark)) → Are marks d.nodes d.current cs → AreGroups marks d.nodes (g ∷ gs) (p ∷ ps) → IsDrawn marks (with_found (within d gs) g.found) (behind ps (cs ++ p.found))
  inner d g gs p ps cs c h = found_drawn (within d gs) ps cs p.found g.found h.1 (record { current = c; groups = h.2 })

  -- before a `{`
  open_drawn : (d : Drawn) (gs : List Group) (ps : List (Pending (List (List Mark)))) (cs : List (List Mark)) → d.groups ≡ gs → Are marks d.nodes d.current cs → AreGroups marks d.nodes gs ps → IsDrawn marks (open_in gs d) (choices_before (opens 0) (behind ps cs))
  open_drawn d [] [] cs e c h = record { current = c; groups = subst (λ z. AreGroups marks d.nodes z []) (sym e) tt }
  open_drawn d [] (p ∷ ps) cs e c h = absurd h
  open_drawn d (g ∷ gs) [] cs e c h = absurd h
  open_drawn d (g ∷ gs) (p ∷ ps) cs e c h = inner d g gs p ps cs c h

  after_on : (d : Drawn) (f : Option Counted) (c : Counted) (cs : List (List Mark)) → Are marks d.nodes c cs → Are marks (with_found d f).nodes c cs
  after_on d None c cs h = h
  after_on d (Some f) c cs h = are_on d.nodes (Both d.current.node f.node) c cs h

  -- before a comma
  comma_drawn : (d : Drawn) (gs : List Group) (ps : List (Pending (List (List Mark)))) (cs : List (List Mark)) (i : ℕ) → mark_at marks i ≡ comma → d.groups ≡ gs → Are marks d.nodes d.current cs → AreGroups marks d.nodes gs ps → IsDrawn marks (comma_in gs d i) (choices_before comma (behind ps cs))
  comma_drawn d [] [] cs i m e c h = one_drawn d [] cs i comma m (record { current = c; groups = subst (λ z. AreGroups marks d.nodes z []) (sym e) tt })
  comma_drawn d [] (p ∷ ps) cs i m e c h = absurd h
  comma_drawn d (g ∷ gs) [] cs i m e c h = absurd h
  comma_drawn d (g ∷ gs) (p ∷ ps) cs i m e c h =
      let now = inner d g gs p ps cs c h in
      let after = after_on (within d gs) g.found g.after p.after h.0 in
      record { current = after; groups = (after, now.current, now.groups) }

  -- before one more mark
  pub added_drawn : (d : Drawn) (ps : List (Pending (List (List Mark)))) (cs : List (List Mark)) (m : Mark) (i : ℕ) → mark_at marks i ≡ m → IsDrawn marks d (behind ps cs) → IsDrawn marks (added d m i) (choices_before m (behind ps cs))
  added_drawn d ps cs (literal letter) i e h = one_drawn d ps cs i (literal letter) e h
  added_drawn d ps cs any i e h = one_drawn d ps cs i any e h
  added_drawn d ps cs (star again) i e h = one_drawn d ps cs i (star again) e h
  added_drawn d ps cs (one_of negated ranges) i e h = one_drawn d ps cs i (one_of negated ranges) e h
  added_drawn d ps cs (opens index) i e h = open_drawn d d.groups ps cs refl h.current h.groups
  added_drawn d ps cs comma i e h = comma_drawn d d.groups ps cs i e refl h.current h.groups
  added_drawn d ps cs (closes index) i e h = record { current = h.current; groups = (h.current, refl, h.groups) }

  -- the marks that were read
  pub record IsRead (left : List Mark) (d : Drawn) : Type 0 where
    pub behind : List Mark
    pub joined : marks ≡ left ++ behind
    pub drawn : IsDrawn marks d (choices_behind behind at_end)

  pub none_read : (d : Drawn) → d.nodes ≡ End ∷ [] → d.groups ≡ [] → d.current.node ≡ 0 → d.current.size ≡ nothing_size → IsRead marks d
  none_read d e g c s = record {
    behind = [];
    joined = sym (append-nil marks);
    drawn = record {
      current = record {
        leads = subst (λ z. Leads marks d.nodes z ([] ∷ [])) (sym c) (subst (λ z. Leads marks z 0 ([] ∷ [])) (sym e) (ends (omega arith) refl));
        size = s ∙ size_nothing Mark;
      };
      groups = subst (λ z. AreGroups marks d.nodes z []) (sym g) tt;
    };
  }

  pub one_read : (left before : List Mark) (m : Mark) (i : ℕ) (d more : Drawn) → IsRead left d → left ≡ before ++ m ∷ [] → i ≡ length before → more ≡ added d m i → IsRead before more
  one_read left before m i d more h e at k =
      let joined : marks ≡ before ++ m ∷ h.behind = h.joined ∙ ap (λ z. z ++ h.behind) e ∙ append_assoc before (m ∷ []) h.behind in
      let here : mark_at marks i ≡ m = ap (λ z. get_or z i any) joined ∙ get_or_at before m h.behind any i (sym at) in
      let s = choices_behind h.behind at_end in
      record {
        behind = m ∷ h.behind;
        joined = joined;
        drawn = subst (λ z. IsDrawn marks z (choices_before m s)) (sym k) (added_drawn d s.groups s.current m i here h.drawn);
      }

  pub all_read : (left : List Mark) (d : Drawn) → IsRead left d → left ≡ [] → IsDrawingOf marks d
  all_read left d h e = subst (λ z. IsDrawn marks d (choices_behind z at_end)) (sym (h.joined ∙ ap (λ z. z ++ h.behind) e)) h.drawn
