-- How runs under one plan after another ended.
use Rattle.std.proofs.Common.{◌≡◌, ◌≢◌, ℕ, zero, suc, ◌+◌, ◌-◌, ◌^◌, Result, Ok, Err, IfOk, IfErr, List, ◌∷◌, map, inl, inr, refl, subst, arith, rules}
use Rattle.std.specs.List.{FoldsTo, range_with_len}
use Rattle.std.specs.declared.alloc.AllocError.{AllocError}
use Rattle.test_allocator.specs.declared.plan.Plan.{Plan}
use Rattle.test_allocator.specs.declared.plan.Plan.TheVariants.{Nth}
use Rattle.test_allocator.specs.Turns.{each_request, RanUnder, EndedIn}

err_is_not_ok : {A B : Type 0} {x : A} {e : B} → ◌≢◌ {A = Result A B} (Err e) (Ok x)
err_is_not_ok = search rules

-- the first of some steps, and those after it
step_of : {P A C : Type 0} → (R : P → A → P → Type 0) → (x : A) (xs : List A) → (p q : P) → FoldsTo R p (x ∷ xs) q → ((j : P) → R p x j → FoldsTo R j xs q → C) → C
step_of R x xs p q ran then = then ran.0 ran.1 ran.2

module _ {Test Heap : Type 0} (step : Test → Heap → Plan → Result (Unit {0}) AllocError → Test → Type 0) (first : Test) where
  -- a run under a plan, with some allocator, that answered `Ok`
  abbrev Ran : Test → Plan → Test → Type 0
  Ran before plan after = (heap : Heap) × step before heap plan (Ok tt) after

  -- where no run under the second plan answers `Ok`, there was one run
  one_turn : ((before after : Test) → (heap : Heap) → ¬ (step before heap (Nth 2) (Ok tt) after)) → (rejected : ℕ) (last : Test)
      → RanUnder step first (each_request (rejected + 1)) last → rejected ≡ 0
  unfolding each_request RanUnder
  one_turn none zero last ran = refl
  one_turn none (suc more) last ran =
      let two : suc more + 1 ≡ suc (suc more) = omega arith in
      let runs = subst (λ turns. RanUnder step first (each_request turns) last) two ran in
      step_of Ran (Nth 1) (map Nth (range_with_len 2 (suc more))) first last runs (λ middle one rest. step_of Ran (Nth 2) (map Nth (range_with_len 3 more)) middle last rest (λ after second left. absurd (none middle after second.0 second.1)))

  pub one_run : ((before after : Test) → (heap : Heap) → ¬ (step before heap (Nth 2) (Ok tt) after)) → (r : Result ℕ AllocError)
      → IfOk r (λ rejected. (last : Test) × RanUnder step first (each_request (rejected + 1)) last) → IfOk r (λ rejected. rejected ≡ 0)
  one_run none (Ok rejected) ran = one_turn none rejected ran.0 ran.1
  one_run none (Err error) ran = tt

  -- where each run answers `Ok`, all plans were tried
  each_run : ((before after : Test) → (heap : Heap) → (plan : Plan) → (answer : Result (Unit {0}) AllocError) → step before heap plan answer after → answer ≡ Ok tt)
      → {error : AllocError} → EndedIn step first error → (last : Test) × RanUnder step first (each_request (2 ^ 64 - 1)) last
  unfolding EndedIn
  each_run each {error} (inl failed) = absurd (err_is_not_ok (each failed.1 failed.2 failed.3 (Nth (failed.0 + 1)) (Err error) failed.5))
  each_run each (inr ended) = ended

  pub all_runs : ((before after : Test) → (heap : Heap) → (plan : Plan) → (answer : Result (Unit {0}) AllocError) → step before heap plan answer after → answer ≡ Ok tt)
      → (r : Result ℕ AllocError) → IfErr r (EndedIn step first) → IfErr r (λ _. (last : Test) × RanUnder step first (each_request (2 ^ 64 - 1)) last)
  all_runs each (Ok rejected) ended = tt
  all_runs each (Err error) ended = each_run each ended
