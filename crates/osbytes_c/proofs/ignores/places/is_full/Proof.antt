-- `is_full` reads a field.
use Rattle.std.proofs.Common.{◌≡◌, List, [], ◌∷◌, refl}
use Rattle.std.proofs.raw_atomic.Walks.{proved}
use base.Fraction.{full_share}
use base.Logic.{guard_i}
use contract.Monad.{fact_use}
use types.Logic.{sem}
use Rattle.std.specs.Prelude.{is_some}
use Rattle.osbytes_c.specs.Places.{kept}
use base.Fml.{ftrue, flft}
use mir.Syntax.{named}
use mir.Val.{Val, vbool}
use types.Kit.{‵, ◌⊛◌, ◌$◌, ◌∵◌, !, qed, done, move, keep, split, join, given, learn, use1, fsplit, fjoin, fsplit3, feq_i, rewrite, suffices, frame, group}
use types.Run.{enter, of_opd, load, stop, fld, returns}
use types.ByLocal.{alloc_all, pass_all, free_all, look_at, through, sets}
use types.Part.{whole, sub, look_in}
use denote.Laws.{shows}
use denote.Memory.{cell_at}
use denote.Ref.{MutRef, mut_vals, mut_Tells}
use denote.Signature.{plain}
use denote.Steps.{nothing, opens, closes, peeks}
use denote.Triple.Walked.{Stays, walk_of, stay_ref, Goes-ref, ends_at}
use Rattle.osbytes_c.specs.contracts.ignores.sets.Ignores.{the_row as W}
use Rattle.osbytes_c.specs.contracts.ignores.places.HeldIgnores.{the_row as R}
use Rattle.osbytes_c.proofs.ignores.places.HeldIgnores.TheLaws.{lowers}
use Rattle.osbytes_c.proofs.lemmas.Places.{place, kept_says, says_both}
use Rattle.osbytes_c.specs.contracts.ignores.places.is_full as f
use Rattle.osbytes_c.proofs.ignores.places.is_full.Statement.{statement}
use Rattle.osbytes_c.proofs.ignores.places.is_full.Code as code

abbrev stayed : Stays f.ended.signature.params f.ended.kept
stayed = (stay_ref (0 ∷ []) tt (plain (λ _. R)), tt)

pub is_full_spec : {M : Type 1} → statement M
is_full_spec 𝓤 𝓛 𝓜 𝓡 wired =
    let c = f.clauses 𝓛 𝓜.mem 𝓡.returns in
    proved 𝓛 f.ended stayed c 𝓜 𝓡 (Goes-ref 𝓛 1 0 tt (plain (λ _. R)), tt)
    f.Key.name code.function (code.unfolded 𝓤 𝓛.H 𝓜 𝓡 wired)
    (λ κs. (mut_vals, tt)) (λ κs. (mut_Tells (named 0) κs.0 R, tt)) (λ κs qs bounds a _ are.
    let r = a.0 in let b = r.ref_ptr.0 in let o = r.ref_ptr.1 in let h = r.now in let vs = mut_vals r in
    let y : (walk_of 𝓛 f.ended stayed c).Ghost = ((κs, qs, bounds, a, (vs, tt)), tt) in
    qed 𝓛 (((‵ (flft κs.0 qs.0) ⊛ ‵ ftrue) ⊛ ‵ ((MutRef (named 0) κs.0 R).own_val r vs) ⊛ ‵ ftrue) ∷ ‵ ftrue ∷ []) ∵
    split ! $ split ! $ move ! (2 ∷ []) $ split ! $ keep ! (0 ∷ 2 ∷ []) $
    enter ! _ _ _ _ _ $ alloc_all ! (λ l. pass_all ! refl ((tt, tt), tt) $
    fsplit3 ! $ move ! (1 ∷ 2 ∷ 3 ∷ []) $ opens ! tt R b o (λ us.
    move ! (1 ∷ []) $ peeks ! R _ (shows 𝓛 R) h us (λ is.
    let word : us ≡ place h.full h.at ∷ [] = lowers.val_is h us is in
    rewrite ! 0 (λ (ws : List Val). ‵ (R.own_val h ws)) word refl $ rewrite ! 1 (λ (ws : List Val). ‵ (cell_at full_share R.mir ws b o)) word refl $
    fsplit ! $ move ! (1 ∷ []) $
    use1 𝓛 (given (h.full ≡ is_some h.ignores) (‵ (kept W h.full h.at h.ignores))) (fact_use 𝓤 (h.full ≡ is_some h.ignores) (kept_says W 𝓛 h.full h.at h.ignores) (λ p. guard_i 𝓤 (h.full ≡ is_some h.ignores) (sem 𝓛 (kept W h.full h.at h.ignores)) p)) $ learn ! (λ says_set.
    move ! (1 ∷ 0 ∷ []) $ fjoin ! $ move ! (1 ∷ []) $
    sets ! (of_opd ! (load ! (through ! refl (fld ! refl (stop !))) (look_in ! 0 (sub ! 0 refl (whole !))))) refl (tt, tt) $
    closes ! tt R h (place h.full h.at ∷ []) b o $
    returns ! (look_at ! 0 refl) $ free_all ! refl $ move ! (3 ∷ []) $
    suffices ! _ (ends_at 𝓛 f.ended stayed c y (vbool h.full) h.full (h, tt) (tt, tt)) $ says_both ! (refl, says_set) refl $
    group ! 3 $ nothing ! $ move ! (1 ∷ 0 ∷ []) $ join ! $ nothing ! $ move ! (2 ∷ 0 ∷ []) $ join ! $ frame ! $ frame ! $
    feq_i ! _ (vbool h.full ∷ []) _ refl $ done !)))))
