-- The block goes back to the inner allocator, whose token it came with.
use Rattle.test_allocator.proofs.Steps.{◌≡◌, ℕ, List, [], ◌∷◌, refl, w64, proved, leaves, Al, token, Fn, Val, vint, vptr, inst_fn, ftrue, flft, size, align, capped, ◌⊑◌, ⊑_trans, fact, tables, ‵, raw, ◌⊛◌, later, prop, Sq, ◌$◌, ◌∵◌, !, qed, by, move, keep, use1, split, join, fsplit, fjoin, feq_i, await, enter, of_opd, addr, stop, fld, no_more, and_then, returns, alloc_all, pass_all, free_all, look_at, get, through, sets, lands_as, usize, yes, uint_vals, uint_Tells, owns, block_ptr, shr_vals, Slot, plain, types_at, nothing, heard, calls_at, framed, Stays, stay_dropped, walk_of, Goes-dropped}
use Rattle.std.proofs.alloc.Calls.{Gives, at_gives, Gives-goes, Gives-Gives}
use mir.Val.{vunit}
use base.Logic.{fst∗, never}
use types.Kit.{use3, given, learn, split3, regoal}
use prog.Wp.{WpFn}
use types.Run.{unit_lit}
use denote.RawPtr.{Ptr, RawPtr, null_ptr, ptr_val, rawptr_vals, rawptr_Tells, in_a_block}
use types.Logic.{sem}
use Rattle.std.specs.Allocator.{owned_block}
use Rattle.test_allocator.proofs.Handle.{type_args, self_slot, alloc_at, sees_alloc, sees_requests, sees_fields}
use Rattle.test_allocator.specs.contracts.allocator.FailingAllocator.deallocate as f
use Rattle.test_allocator.specs.contracts.allocator.FailingAllocator.deallocate.Key as key
use Rattle.test_allocator.proofs.allocator.FailingAllocator.deallocate.Statement.{statement}
use Rattle.test_allocator.proofs.allocator.FailingAllocator.deallocate.Code as code

pub deallocate_spec : {M : Type 1} → statement M
deallocate_spec 𝓤 𝓛 𝓜 𝓡 wired A laws g d drops met _ =
    let Z : Al = record { row = A; laws = laws; g = g; d = d; drops = drops } in
    let T = f.ended A g d drops in
    let c = f.clauses A g d drops 𝓛 𝓜.mem 𝓡.returns in
    let pointer : Slot 2 = plain (λ _. RawPtr) in
    let word : Slot 2 = plain (λ _. usize) in
    let stays : Stays T.signature.params T.kept = (stay_dropped (self_slot Z) yes, (stay_dropped pointer yes, (stay_dropped word yes, (stay_dropped word yes, tt)))) in
    let walk = walk_of 𝓛 T stays c in
    let fn : Fn = inst_fn (type_args Z) code.function in
    let 𝓣 = tables 𝓤 𝓛.H 𝓜 𝓡 𝓡.env in
    let word_goes = Goes-dropped 𝓛 2 word yes (λ κs x w. refl) in
    proved 𝓛 T stays c 𝓜 𝓡 (Goes-dropped 𝓛 2 (self_slot Z) yes (λ κs x w. refl), (Goes-dropped 𝓛 2 pointer yes (λ κs x w. refl), (word_goes, (word_goes, tt))))
    (key.name (type_args Z)) fn (code.unfolded 𝓤 𝓛.H 𝓜 𝓡 wired (A, tt) d drops)
    (λ κs. (shr_vals, (rawptr_vals, (uint_vals w64, (uint_vals w64, tt))))) (λ κs. ((λ r vs s. s.0), (rawptr_Tells, (uint_Tells w64, (uint_Tells w64, tt))))) (λ κs qs bounds a τ are.
    let κ = κs.0 in let q = qs.0 in let r = a.0 in let ptr = a.1.0 in let n = a.1.1.0 in let al = a.1.1.1.0 in
    let p = alloc_at Z r in let h = r.now.alloc in
    let y : Ptr → walk.Ghost = λ ptr. ((κs, qs, bounds, (r, (ptr, a.1.1)), (shr_vals r, (rawptr_vals ptr, (vint w64 n ∷ [], (vint w64 al ∷ [], tt))))), τ) in
    let Inner = Gives Z 𝓛 𝓜.mem 𝓡.returns in
    let HasSize : Type 0 = (capped (size τ) ≡ n) × (capped (align τ) ≡ al) in
    let others = ‵ (flft κs.1.0 qs.1.0) ⊛ ‵ ftrue in
    -- from the tokens to the end
    let returned : (b o : ℕ) → Sq 𝓛 (‵ (flft κ q) ∷ others ∷ []) (prop (walk.post (y (block_ptr b o)) vunit)) = λ b o.
    join ! $ nothing ! $ feq_i ! (List Val) (vunit ∷ []) (vunit ∷ []) refl $ nothing ! $ nothing ! $ fjoin ! $ nothing ! $ fjoin ! $ nothing ! $ fjoin ! $ nothing ! $ fjoin ! $ move ! (3 ∷ 0 ∷ 1 ∷ 2 ∷ []) $
    by ! (leaves 𝓛 T stays c (y (block_ptr b o)) vunit tt (tt, (tt, (tt, (tt, tt)))) (tt, (tt, (tt, (tt, tt))))) in
    qed 𝓛 (((‵ (flft κ q) ⊛ others) ⊛ ‵ (owns (types_at T.signature.params κs) a (y ptr).0.4))
    ∷ (raw (fact 𝓤 (κs.1.0 ⊑ A.lives)) ⊛ raw (fact 𝓤 HasSize) ⊛ ‵ (owned_block (token Z h) τ ptr)) ∷ []) ∵
    move ! (1 ∷ []) $ split3 ! $ heard ! (κs.1.0 ⊑ A.lives) (λ le. heard ! HasSize (λ has.
    in_a_block ! ptr (owned_block (token Z h) τ) (fst∗ 𝓤 (never 𝓤) (sem 𝓛 (token Z h τ null_ptr))) (λ b o at.
    regoal ! (λ ptr. prop (WpFn 𝓤 𝓛.H 𝓣.C 𝓣.Λ fn (vptr r.ref_ptr.0 r.ref_ptr.1 ∷ ptr_val ptr ∷ vint w64 n ∷ vint w64 al ∷ []) (walk.post (y ptr)))) at refl $
    let given_back : Inner.Ghost = at_gives Z 𝓛 𝓜.mem 𝓡.returns κ q p h b o n al τ in
    fsplit ! $ move ! (2 ∷ []) $ split ! $ split ! $ move ! (2 ∷ []) $ fsplit ! $ fsplit ! $ move ! (1 ∷ []) $
    use1 𝓛 (‵ (sees_alloc Z r κ) ⊛ ‵ (sees_requests Z r κ)) (sees_fields Z r κ 𝓛) $ split ! $ keep ! (0 ∷ 4 ∷ 6 ∷ 7 ∷ 5 ∷ []) $
    enter ! _ _ _ _ _ $ alloc_all ! (λ l. pass_all ! refl ((tt, tt), ((tt, tt), ((tt, record { fits = are.1.1.0.1 }), ((tt, record { fits = are.1.1.1.0.1 }), tt)))) $
    -- [the `&` to the inner allocator; the token of κ; the block's memory; the right to free it; the other tokens; the locals]
    sets ! (addr ! (through ! refl (fld ! refl (stop !)))) refl (tt, tt) $ join ! $ move ! (1 ∷ 2 ∷ []) $
    use3 𝓛 (raw (Inner.pre given_back)) (Gives-goes Z 𝓛 𝓜.mem 𝓡.returns κ q p h (⊑_trans κ κs.1.0 A.lives bounds.0 le) b o n al τ has.0 has.1 are.1.1.0.1 are.1.1.1.0.1) $
    calls_at ! (framed 𝓤 𝓛.H 𝓜 𝓣) Inner (met.deallocate drops) given_back (and_then ! (get ! refl) (and_then ! (get ! refl) (and_then ! (get ! refl) (and_then ! (get ! refl) (no_more !))))) (λ v.
    use1 𝓛 (later (given (v ≡ vunit) (‵ (flft κ q)))) (Gives-Gives Z 𝓛 𝓜.mem 𝓡.returns κ q p h b o n al τ v) $ await ! tt $ learn ! (λ is_unit.
    lands_as ! is_unit refl (tt, tt) $ sets ! (of_opd ! (unit_lit !)) refl (tt, tt) $ returns ! (look_at ! 0 refl) $ free_all ! refl $ returned b o)))))))
