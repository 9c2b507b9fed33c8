-- `take` reads the set out and leaves the room.
use Rattle.std.proofs.Common.{◌≡◌, List, [], ◌∷◌, refl, sym, ap, ◌∙◌}
use Rattle.std.specs.Prelude.{Bool, true, false, Some, None}
use Rattle.std.proofs.raw_atomic.Walks.{proved}
use Rattle.std.proofs.VecSteps.Shapes.{after}
use lib.Dec.{T}
use base.Fraction.{full_share}
use base.Logic.{SProp, id⊢}
use base.Fml.{ftrue, fat, froom, flft}
use mir.Syntax.{named}
use mir.Val.{Val, has_ty, WT}
use contract.Monad.{fact}
use contract.Running.{tables}
use types.Kit.{Item, ‵, raw, ◌⊛◌, some, given, at_ret, ◌$◌, ◌∵◌, !, qed, done, move, keep, drop, use1, split, join, pick, learn, fsplit, fsplit3, fjoin, rewrite, suffices, frame, group}
use types.Run.{enter, of_opd, false_lit, load, look, stop, fld, assigns, first, blocks, exec, returns}
use types.ByLocal.{alloc_all, pass_all, free_all, look_at, get, through, sets, sets_last, env}
use types.Part.{whole, sub, look_in, store_in}
use borrow.Table.OneValue.{part_out}
use denote.Laws.{Is, shows}
use denote.Memory.{cell_at}
use denote.Param.{param, layout}
use denote.Param.Laws.{param_laws}
use denote.RawPtr.{Ptr, block_ptr, lies_at, room_at, in_a_block}
use denote.Ref.{MutRef, mut_vals, mut_Tells}
use denote.Signature.{plain}
use denote.Steps.{nothing, opens, closes, peeks, heard}
use denote.Triple.Walked.{Stays, walk_of, stay_ref, Goes-ref, ends_at}
use Rattle.osbytes_c.specs.Places.{kept}
use Rattle.osbytes_c.specs.declared.globs.sets.Globs.{Globs}
use Rattle.osbytes_c.specs.contracts.globs.sets.Globs.{the_row as W}
use Rattle.osbytes_c.proofs.globs.sets.Globs.TheLaws.{the_row_laws as LW}
use Rattle.osbytes_c.specs.contracts.globs.places.HeldGlobs.{the_row as R}
use Rattle.osbytes_c.proofs.globs.places.HeldGlobs.TheLaws.{lowers}
use Rattle.osbytes_c.proofs.lemmas.Places.{place, full_value, says_both}
use Rattle.osbytes_c.proofs.lemmas.GlobPlaces.{fields}
use Rattle.osbytes_c.specs.contracts.globs.places.take as f
use Rattle.osbytes_c.proofs.globs.places.take.Statement.{statement}
use Rattle.osbytes_c.proofs.globs.places.take.Code as code

abbrev stayed : Stays f.ended.signature.params f.ended.kept
stayed = (stay_ref (0 ∷ []) tt (plain (λ _. R)), tt)

pub take_spec : {M : Type 1} → statement M
take_spec 𝓤 𝓛 𝓜 𝓡 wired =
    let H = 𝓛.H in let 𝓣 = tables 𝓤 H 𝓜 𝓡 𝓡.env in let fn = code.function in let c = f.clauses 𝓛 𝓜.mem 𝓡.returns in
    proved 𝓛 f.ended stayed c 𝓜 𝓡 (Goes-ref 𝓛 1 0 tt (plain (λ _. R)), tt)
    f.Key.name fn (code.unfolded 𝓤 H 𝓜 𝓡 wired)
    (λ κs. (mut_vals, tt)) (λ κs. (mut_Tells (named 0) κs.0 R, tt)) (λ κs qs bounds a _ are.
    let r = a.0 in let b = r.ref_ptr.0 in let o = r.ref_ptr.1 in let h = r.now in let vs = mut_vals r in
    let y : (walk_of 𝓛 f.ended stayed c).Ghost = ((κs, qs, bounds, a, (vs, tt)), tt) in
    let Post : Val → SProp 𝓤 = (walk_of 𝓛 f.ended stayed c).post y in
    qed 𝓛 (((‵ (flft κs.0 qs.0) ⊛ ‵ ftrue) ⊛ ‵ ((MutRef (named 0) κs.0 R).own_val r vs) ⊛ ‵ ftrue) ∷ raw (fact 𝓤 (h.full ≡ true)) ∷ []) ∵
    move ! (1 ∷ []) $ heard ! (h.full ≡ true) (λ fe.
    split ! $ split ! $ move ! (2 ∷ []) $ split ! $ keep ! (0 ∷ 2 ∷ []) $
    enter ! _ _ _ _ _ $ alloc_all ! (λ l. pass_all ! refl ((tt, tt), tt) $
    let En = env fn.locals l in
    fsplit3 ! $ move ! (1 ∷ 2 ∷ 3 ∷ []) $ opens ! tt R b o (λ us.
    move ! (1 ∷ []) $ peeks ! R _ (shows 𝓛 R) h us (λ is. fsplit ! $ drop ! $
    rewrite ! 0 (λ (full : Bool). ‵ (kept W full h.at h.globs)) fe refl $
    use1 𝓛 (some (λ (x : Globs). given (h.globs ≡ Some x) (‵ (lies_at W full_share h.at x)))) (full_value W 𝓛 h.at h.globs) $ pick ! (λ x. learn ! (λ se.
    in_a_block ! h.at (λ p. lies_at W full_share p x) (id⊢ 𝓤 _) (λ b' o' e.
    use1 𝓛 (some (λ (v : Val). ‵ (fat full_share (layout W) b' o' v) ⊛ ‵ (W.own_val x (v ∷ [])))) (part_out 𝓛 W refl full_share x b' o') $ pick ! (λ v. split ! $
    move ! (1 ∷ []) $ peeks ! (param 0 W) (Is (param 0 W)) (shows 𝓛 (param 0 W)) x (v ∷ []) (λ iw.
    let good : T (has_ty (layout W) v) × WT v = (((param_laws 0 W LW).lawful 𝓛).typed x (v ∷ []) iw).0 in
    let Cell : List Val → Item 𝓤 = λ ws. ‵ (cell_at full_share R.mir ws b o) in
    let word : us ≡ place true (block_ptr b' o') ∷ [] = lowers.val_is h us is ∙ ap (λ (m : Bool × Ptr). place m.0 m.1 ∷ []) (λ i. (fe i, e i)) in
    move ! (1 ∷ []) $ rewrite ! 2 Cell word refl $
    -- [the set's cell; the set; the place's cell; the open borrow, in three entries; self's first part]
    assigns ! (of_opd ! (false_lit !)) (through ! refl (fld ! refl (stop !))) (store_in ! 2 (sub ! 0 refl (whole !)) (tt, tt)) $
    sets ! (of_opd ! (load ! (through ! refl (fld ! refl (stop !))) (look_in ! 2 (sub ! 1 refl (whole !))))) refl (tt, tt) $
    sets ! (of_opd ! (get ! refl)) refl (tt, tt) $
    first ! $ blocks ! $ sets_last ! (of_opd ! (load ! (through ! refl (stop !)) (look ! 0 refl))) refl good $
    exec ! 𝓣.C 𝓣.Λ En (after 4 fn.body) (at_ret En Post) $
    sets ! (of_opd ! (get ! refl)) refl good $
    use1 𝓛 (‵ (froom (layout W) b' o')) (𝓛.laws.at_room (layout W) b' o' v) $ use1 𝓛 (‵ (room_at W (block_ptr b' o'))) (id⊢ 𝓤 _) $
    rewrite ! 0 (λ (p : Ptr). ‵ (room_at W p)) (sym e) refl $ rewrite ! 2 Cell (ap (λ (p : Ptr). place false p ∷ []) (sym e)) refl $
    let new : R.Denot = record h { full = false; globs = None } in
    move ! (0 ∷ 2 ∷ 3 ∷ 4 ∷ 5 ∷ []) $ fields ! false h.at $ fjoin ! $ move ! (1 ∷ []) $ closes ! tt R new (place false h.at ∷ []) b o $
    -- [two parts of self; the token; the set; self's first part]
    returns ! (look_at ! 0 refl) $ free_all ! refl $ move ! (4 ∷ []) $
    suffices ! _ (ends_at 𝓛 f.ended stayed c y v x (new, tt) (tt, tt)) $ says_both ! se refl $
    group ! 3 $ nothing ! $ move ! (1 ∷ 0 ∷ []) $ join ! $ nothing ! $ move ! (2 ∷ 0 ∷ []) $ join ! $ frame ! $ frame ! $ done !))))))))))
