-- A request that fails by the plan returns `Err` and owns nothing, and any other returns what the inner allocator returns.
use Rattle.test_allocator.proofs.Steps.{◌≡◌, ℕ, List, [], ◌∷◌, refl, w64, proved, leaves, Al, token, Fn, Val, vint, vptr, inst_fn, ftrue, flft, size, align, capped, ◌⊑◌, ⊑_trans, fact, tables, ‵, raw, ◌⊛◌, later, prop, Sq, ◌$◌, ◌∵◌, !, qed, by, move, keep, use1, split, join, fsplit, fjoin, feq_i, await, enter, addr, stop, fld, no_more, and_then, returns, alloc_all, pass_all, free_all, look_at, get, through, sets, lands_as, usize, yes, uint_vals, uint_Tells, owns, block_ptr, shr_vals, Slot, plain, types_at, nothing, heard, calls_at, framed, Stays, stay_dropped, walk_of, Goes-dropped}
use Rattle.std.proofs.Common.{true, false, Bool, Ok, Err, ap, lit<}
use Rattle.std.proofs.alloc.Calls.{Answer, answer_val, Answer-typed, Answer-Ok, Answer-err, Takes, at_takes, Answered, Takes-goes, Takes-gives, answers}
use base.Logic.{id⊢}
use base.Fml.{fsep, froom}
use Rattle.std.proofs.VecSteps.Shapes.{after}
use types.Kit.{some, at_ret, drop, use0, use2, pick, feq_l}
use types.Run.{lit, first, branches, skips, exec, returns_within}
use types.Part.{agg}
use types.ByLocal.{env}
use denote.Builtin.{bool}
use denote.Steps.{only}
use denote.Triple.Spec.{triple_of}
use Rattle.test_allocator.proofs.Handle.{type_args, self_slot, alloc_at, requests_at, sees_alloc, sees_requests, sees_fields}
use Rattle.test_allocator.specs.contracts.requests.Requests.fails_next as request
use Rattle.test_allocator.proofs.requests.Requests.fails_next.Met as request_met
use Rattle.test_allocator.specs.contracts.allocator.FailingAllocator.allocate as f
use Rattle.test_allocator.specs.contracts.allocator.FailingAllocator.allocate.Key as key
use Rattle.test_allocator.proofs.allocator.FailingAllocator.allocate.Statement.{statement}
use Rattle.test_allocator.proofs.allocator.FailingAllocator.allocate.Code as code

pub allocate_spec : {M : Type 1} → statement M
allocate_spec 𝓤 𝓛 𝓜 𝓡 wired A laws g d drops met _ =
    let Z : Al = record { row = A; laws = laws; g = g; d = d; drops = drops } in
    let T = f.ended A g d drops in
    let c = f.clauses A g d drops 𝓛 𝓜.mem 𝓡.returns in
    let word : Slot 2 = plain (λ _. usize) in
    let stays : Stays T.signature.params T.kept = (stay_dropped (self_slot Z) yes, (stay_dropped word yes, (stay_dropped word yes, tt))) in
    let walk = walk_of 𝓛 T stays c in
    let fn : Fn = inst_fn (type_args Z) code.function in
    let 𝓣 = tables 𝓤 𝓛.H 𝓜 𝓡 𝓡.env in
    let word_goes = Goes-dropped 𝓛 2 word yes (λ κs x w. refl) in
    proved 𝓛 T stays c 𝓜 𝓡 (Goes-dropped 𝓛 2 (self_slot Z) yes (λ κs x w. refl), (word_goes, (word_goes, tt)))
    (key.name (type_args Z)) fn (code.unfolded 𝓤 𝓛.H 𝓜 𝓡 wired (A, tt) d drops)
    (λ κs. (shr_vals, (uint_vals w64, (uint_vals w64, tt)))) (λ κs. ((λ r vs s. s.0), (uint_Tells w64, (uint_Tells w64, tt)))) (λ κs qs bounds a τ are.
    let κ = κs.0 in let q = qs.0 in let r = a.0 in let n = a.1.0 in let al = a.1.1.0 in
    let p = alloc_at Z r in let h = r.now.alloc in let at = requests_at Z r in
    let y : walk.Ghost = ((κs, qs, bounds, a, (shr_vals r, (vint w64 n ∷ [], (vint w64 al ∷ [], tt)))), τ) in
    let Request = triple_of 𝓛 request.signature (request.spec 𝓛 𝓜.mem 𝓡.returns) in
    let requested : Request.Ghost = (((κ, tt), (q, tt), tt, (record { ref_ptr = at; now = r.now.requests }, tt), (vptr at.0 at.1 ∷ [], tt)), tt) in
    let Inner = Takes Z 𝓛 𝓜.mem 𝓡.returns in
    let taken : Inner.Ghost = at_takes Z 𝓛 𝓜.mem 𝓡.returns κ q p h n al τ in
    let HasSize : Type 0 = (capped (size τ) ≡ n) × (capped (align τ) ≡ al) in
    let others = ‵ (flft κs.1.0 qs.1.0) ⊛ ‵ ftrue in
    -- from the tokens, and from a block before them, to the end
    let failure : Sq 𝓛 (‵ (flft κ q) ∷ others ∷ []) (prop (walk.post y (answer_val false 0 0))) =
    join ! $ nothing ! $ nothing ! $ nothing ! $ fjoin ! $ nothing ! $ fjoin ! $ nothing ! $ fjoin ! $
    use0 𝓛 (‵ (Answer.own_val (Err (record {})) (answer_val false 0 0 ∷ []))) (Answer-err 𝓛) $ move ! (3 ∷ 1 ∷ 0 ∷ 2 ∷ []) $
    by ! (leaves 𝓛 T stays c y (answer_val false 0 0) (Err (record {})) (tt, (tt, (tt, tt))) (tt, (tt, (tt, tt)))) in
    let block : (b o : ℕ) → Sq 𝓛 (‵ (fsep (froom τ b o) (token Z h τ (block_ptr b o))) ∷ ‵ (flft κ q) ∷ others ∷ []) (prop (walk.post y (answer_val true b o))) = λ b o.
    move ! (1 ∷ 2 ∷ []) $ join ! $ nothing ! $ nothing ! $ fjoin ! $ nothing ! $ fjoin ! $ nothing ! $ fjoin ! $
    use0 𝓛 (‵ (Answer.own_val (Ok (block_ptr b o)) (answer_val true b o ∷ []))) (Answer-Ok 𝓛 b o) $ move ! (2 ∷ 1 ∷ 0 ∷ 3 ∷ []) $
    by ! (leaves 𝓛 T stays c y (answer_val true b o) (Ok (block_ptr b o)) (tt, (tt, (tt, tt))) (tt, (tt, (tt, tt)))) in
    qed 𝓛 (((‵ (flft κ q) ⊛ others) ⊛ ‵ (owns (types_at T.signature.params κs) a y.0.4)) ∷ (raw (fact 𝓤 (κs.1.0 ⊑ A.lives)) ⊛ raw (fact 𝓤 HasSize)) ∷ []) ∵
    move ! (1 ∷ []) $ split ! $ heard ! (κs.1.0 ⊑ A.lives) (λ le. heard ! HasSize (λ has.
    split ! $ split ! $ move ! (2 ∷ []) $ fsplit ! $ fsplit ! $ move ! (1 ∷ []) $ use1 𝓛 (‵ (sees_alloc Z r κ) ⊛ ‵ (sees_requests Z r κ)) (sees_fields Z r κ 𝓛) $ split ! $ keep ! (1 ∷ 4 ∷ 0 ∷ 5 ∷ []) $
    enter ! _ _ _ _ _ $ alloc_all ! (λ l. pass_all ! refl ((tt, tt), ((tt, record { fits = are.1.0.1 }), ((tt, record { fits = are.1.1.0.1 }), tt))) $
    -- [the `&` to the requests; the token of κ; the `&` to the inner allocator; the other tokens; the locals]
    sets ! (addr ! (through ! refl (fld ! refl (stop !)))) refl (tt, tt) $
    feq_i ! (List Val) (vptr at.0 at.1 ∷ []) (vptr at.0 at.1 ∷ []) refl $ fjoin ! $ nothing ! $ move ! (1 ∷ 0 ∷ []) $ fjoin ! $
    nothing ! $ move ! (2 ∷ 0 ∷ []) $ join ! $ join ! $ nothing ! $ move ! (1 ∷ 0 ∷ []) $ join ! $ use1 𝓛 (raw (Request.pre requested)) (id⊢ 𝓤 _) $
    calls_at ! (framed 𝓤 𝓛.H 𝓜 𝓣) Request (request_met.met 𝓤 𝓛 𝓜 𝓡 (code.calls-test_allocator::requests::Requests::fails_next 𝓡.env wired)) requested (and_then ! (get ! refl) (no_more !)) (λ v.
    use1 𝓛 (later (some (λ (fails : Bool). ((‵ (flft κ q) ⊛ ‵ ftrue) ⊛ ‵ (bool.own_val fails (v ∷ []))) ⊛ some (λ (ws : Unit {0} × Unit {0}). ‵ (fsep ftrue ftrue) ⊛ ‵ ftrue)))) (id⊢ 𝓤 _) $ await ! tt $
    pick ! (λ fails. split ! $ split ! $ move ! (1 ∷ []) $ feq_l ! (λ is. split ! $ move ! (1 ∷ 2 ∷ []) $ drop ! $ drop ! $
    lands_as ! (ap only is) refl (tt, tt) $ first ! $
    -- [the token of κ; the `&` to the inner allocator; the other tokens; the locals]
    branches ! (get ! refl)
    (λ _. sets ! (agg ! (no_more !)) refl (tt, tt) $
    sets ! (agg ! (and_then ! (lit ! tt) (and_then ! (get ! refl) (no_more !)))) refl (tt, (record { fits = lit< tt }, (tt, tt))) $
    returns_within ! (walk.post y) refl (look_at ! 0 refl) $ free_all ! refl $ move ! (1 ∷ []) $ drop ! $ failure)
    (λ _. skips ! $ exec ! 𝓣.C 𝓣.Λ (env fn.locals l) (after 3 fn.body) (at_ret _ (walk.post y)) $
    sets ! (addr ! (through ! refl (fld ! refl (stop !)))) refl (tt, tt) $ move ! (1 ∷ []) $
    use2 𝓛 (raw (Inner.pre taken)) (Takes-goes Z 𝓛 𝓜.mem 𝓡.returns κ q p h (⊑_trans κ κs.1.0 A.lives bounds.0 le) n al τ has.0 has.1 are.1.0.1 are.1.1.0.1) $
    calls_at ! (framed 𝓤 𝓛.H 𝓜 𝓣) Inner (met.allocate drops) taken (and_then ! (get ! refl) (and_then ! (get ! refl) (and_then ! (get ! refl) (no_more !)))) (λ v.
    use1 𝓛 (later (raw (Answered Z 𝓛 𝓜.mem 𝓡.returns h τ v) ⊛ ‵ (flft κ q))) (Takes-gives Z 𝓛 𝓜.mem 𝓡.returns κ q p h n al τ v) $ await ! tt $ split ! $
    answers Z ! 𝓜.mem 𝓡.returns h τ v
    (λ b o is. fjoin ! $ lands_as ! is refl (Answer-typed true b o) $ returns ! (look_at ! 0 refl) $ free_all ! refl $ block b o)
    (λ is. lands_as ! is refl (Answer-typed false 0 0) $ returns ! (look_at ! 0 refl) $ free_all ! refl $ failure))))))))))
