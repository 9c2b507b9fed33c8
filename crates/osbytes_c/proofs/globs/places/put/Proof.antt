-- `put` writes the set into the room.
use Rattle.std.proofs.Common.{◌≡◌, List, [], ◌∷◌, ◌++◌, refl, sym, ap, ◌∙◌}
use Rattle.std.specs.Prelude.{Bool, true, false, Some}
use Rattle.std.proofs.raw_atomic.Walks.{proved_at}
use Rattle.std.proofs.alloc.Calls.{Goes-blank, handle_tells}
use Rattle.std.proofs.VecSteps.Shapes.{after}
use base.Fraction.{full_share}
use base.Logic.{SProp, id⊢}
use base.Fml.{ftrue, fsep, froom, flft}
use mir.Syntax.{named}
use mir.Val.{Val, vunit}
use prog.Wp.{WpFn}
use contract.Monad.{fact}
use contract.Running.{tables}
use types.Kit.{Item, ‵, raw, ◌⊛◌, prop, at_ret, ◌$◌, ◌∵◌, !, qed, done, move, keep, drop, use1, use2, split, join, fsplit, fsplit3, fjoin, feq_i, rewrite, regoal, suffices, frame, group}
use types.Run.{enter, of_opd, true_lit, unit_lit, load, init, stop, fld, assigns, assigns_last, first, blocks, exec, returns}
use types.ByLocal.{alloc_all, pass_all, free_all, look_at, get, through, sets, env}
use types.Part.{whole, sub, look_in, store_in}
use borrow.Table.OneValue.{part_in}
use denote.Exit.{yes, rest}
use denote.Laws.{shows}
use denote.Memory.{cell_at}
use denote.Param.{layout}
use denote.RawPtr.{Ptr, block_ptr, lies_at, room_at, in_a_block}
use denote.Ref.{MutRef, mut_vals, mut_Tells}
use denote.Signature.{plain}
use denote.Steps.{nothing, opens, closes, peeks, heard}
use denote.Triple.Walked.{Stays, walk_of, says, stay_ref, stay_dropped, Goes-ref, ends_at}
use Rattle.osbytes_c.specs.Places.{kept}
use Rattle.osbytes_c.specs.contracts.globs.sets.Globs.{the_row as W}
use Rattle.osbytes_c.proofs.globs.sets.Globs.TheLaws.{the_row_laws as LW}
use Rattle.osbytes_c.specs.contracts.globs.places.HeldGlobs.{the_row as R}
use Rattle.osbytes_c.proofs.globs.places.HeldGlobs.TheLaws.{lowers}
use Rattle.osbytes_c.proofs.lemmas.Places.{place, kind, empty_room}
use Rattle.osbytes_c.proofs.lemmas.GlobPlaces.{fields}
use Rattle.osbytes_c.specs.contracts.globs.places.put as f
use Rattle.osbytes_c.proofs.globs.places.put.Statement.{statement}
use Rattle.osbytes_c.proofs.globs.places.put.Code as code

abbrev stayed : Stays f.ended.signature.params f.ended.kept
stayed = (stay_ref (0 ∷ []) tt (plain (λ _. R)), (stay_dropped (plain (λ _. W)) yes, tt))

pub put_spec : {M : Type 1} → statement M
put_spec 𝓤 𝓛 𝓜 𝓡 wired =
    let H = 𝓛.H in let 𝓣 = tables 𝓤 H 𝓜 𝓡 𝓡.env in let fn = code.function in let c = f.clauses 𝓛 𝓜.mem 𝓡.returns in
    proved_at 𝓛 f.ended stayed c 𝓜 𝓡 (Goes-ref 𝓛 1 0 tt (plain (λ _. R)), (Goes-blank 𝓛 1 (plain (λ _. W)) yes (λ κs x g. tt), tt))
    f.Key.name fn (code.unfolded 𝓤 H 𝓜 𝓡 wired) (λ z are.
    let κs = z.0.0 in let qs = z.0.1 in let r = z.0.3.0 in let x = z.0.3.1.0 in let b = r.ref_ptr.0 in let o = r.ref_ptr.1 in let h = r.now in
    let Post : Val → SProp 𝓤 = (walk_of 𝓛 f.ended stayed c).post z in
    qed 𝓛 (((‵ (flft κs.0 qs.0) ⊛ ‵ ftrue) ⊛ ‵ (fsep ((MutRef (named 0) κs.0 R).own_val r z.0.4.0) (fsep (W.own_val x z.0.4.1.0) ftrue))) ∷ raw (fact 𝓤 (h.full ≡ false)) ∷ []) ∵
    move ! (1 ∷ []) $ heard ! (h.full ≡ false) (λ fe. split ! $ move ! (1 ∷ []) $ fsplit3 ! $
    -- [self; the set; nothing; the token]
    move ! (1 ∷ []) $ handle_tells (kind W LW) ! x z.0.4.1.0 (λ u e₁ gu. move ! (3 ∷ []) $ split ! $ keep ! (3 ∷ 0 ∷ 2 ∷ []) $
    regoal ! (λ (us : List Val). prop (WpFn 𝓤 H 𝓣.C 𝓣.Λ fn (us ++ (z.0.4.1.0 ++ [])) Post)) (mut_Tells (named 0) κs.0 R r z.0.4.0 are.0) refl $
    regoal ! (λ (us : List Val). prop (WpFn 𝓤 H 𝓣.C 𝓣.Λ fn (mut_vals r ++ (us ++ [])) Post)) e₁ refl $
    enter ! 𝓣.C 𝓣.Λ fn (mut_vals r ++ (u ∷ [])) Post $ alloc_all ! (λ l. pass_all ! refl ((tt, tt), (gu, tt)) $
    let En = env fn.locals l in
    fsplit3 ! $ move ! (1 ∷ 2 ∷ 3 ∷ []) $ opens ! tt R b o (λ us.
    move ! (1 ∷ []) $ peeks ! R _ (shows 𝓛 R) h us (λ is. fsplit ! $ drop ! $
    rewrite ! 0 (λ (y : Bool). ‵ (kept W y h.at h.globs)) fe refl $ use1 𝓛 (‵ (room_at W h.at)) (empty_room W 𝓛 h.at h.globs) $
    in_a_block ! h.at (λ p. room_at W p) (id⊢ 𝓤 _) (λ b' o' e. use1 𝓛 (‵ (froom (layout W) b' o')) (id⊢ 𝓤 _) $
    let Cell : List Val → Item 𝓤 = λ ws. ‵ (cell_at full_share R.mir ws b o) in
    let word : us ≡ place false (block_ptr b' o') ∷ [] = lowers.val_is h us is ∙ ap (λ (m : Bool × Ptr). place m.0 m.1 ∷ []) (λ i. (fe i, e i)) in
    rewrite ! 1 Cell word refl $
    -- [the room; the place's cell; the open borrow, in three entries; self's first part; the set]
    sets ! (of_opd ! (load ! (through ! refl (fld ! refl (stop !))) (look_in ! 1 (sub ! 1 refl (whole !))))) refl (tt, tt) $
    sets ! (of_opd ! (get ! refl)) refl (tt, tt) $
    first ! $ blocks ! $ sets ! (of_opd ! (get ! refl)) refl gu $ assigns_last ! (of_opd ! (get ! refl)) (through ! refl (stop !)) (init ! 0 refl gu) $
    exec ! 𝓣.C 𝓣.Λ En (after 3 fn.body) (at_ret En Post) $
    assigns ! (of_opd ! (true_lit !)) (through ! refl (fld ! refl (stop !))) (store_in ! 1 (sub ! 0 refl (whole !)) (tt, tt)) $
    sets ! (of_opd ! (unit_lit !)) refl (tt, tt) $
    move ! (0 ∷ 6 ∷ []) $ use2 𝓛 (‵ (lies_at W full_share (block_ptr b' o') x)) (part_in 𝓛 W refl full_share x b' o' u) $
    rewrite ! 0 (λ (p : Ptr). ‵ (lies_at W full_share p x)) (sym e) refl $ rewrite ! 1 Cell (ap (λ (p : Ptr). place true p ∷ []) (sym e)) refl $
    let new : R.Denot = record h { full = true; globs = Some x } in
    fields ! true h.at $ fjoin ! $ move ! (1 ∷ []) $ closes ! tt R new (place true h.at ∷ []) b o $
    -- [two parts of self; the token; self's first part]
    returns ! (look_at ! 0 refl) $ free_all ! refl $ move ! (3 ∷ []) $
    suffices ! _ (ends_at 𝓛 f.ended stayed c z vunit tt (new, (rest (W.exit yes) x, tt)) (tt, (tt, tt))) $ says ! refl $
    group ! 3 $ nothing ! $ nothing ! $ join ! $ move ! (1 ∷ 0 ∷ []) $ join ! $ nothing ! $ move ! (2 ∷ 0 ∷ []) $ join ! $ frame ! $ frame ! $
    feq_i ! _ (vunit ∷ []) _ refl $ done !)))))))
