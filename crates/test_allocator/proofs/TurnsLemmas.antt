-- Turns of a closure, one after another.
use Rattle.std.proofs.Common.{◌≡◌, ℕ, ◌+◌, ◌-◌, ◌^◌, Result, Ok, Err, inl, inr, refl, sym, subst, arith}
use Rattle.std.proofs.lemmas.Fn.{FoldsTo-push}
use Rattle.std.proofs.lemmas.List.FromFn.{map-range_with_len_more}
use Rattle.std.specs.declared.alloc.AllocError.{AllocError}
use Rattle.test_allocator.specs.declared.plan.Plan.{Plan}
use Rattle.test_allocator.specs.declared.plan.Plan.TheVariants.{Nth}
use Rattle.test_allocator.specs.Turns.{each_request, RanUnder, EndedIn}

module _ {Test Heap : Type 0} (step : Test → Heap → Plan → Result (Unit {0}) AllocError → Test → Type 0) (first : Test) where
  pub no_turn : RanUnder step first (each_request 0) first
  unfolding each_request RanUnder
  no_turn = refl

  -- one more turn, which returned `Ok`
  pub one_more_turn : (turns : ℕ) {before last : Test} {heap : Heap} → RanUnder step first (each_request turns) before → step before heap (Nth (turns + 1)) (Ok tt) last → RanUnder step first (each_request (turns + 1)) last
  unfolding each_request RanUnder
  one_more_turn turns {before} {last} {heap} ran stepped =
      let longer = sym (map-range_with_len_more Nth 1 turns (turns + 1) (omega arith)) in
      subst (λ plans. RanUnder step first plans last) longer (FoldsTo-push _ first (each_request turns) before (Nth (turns + 1)) last ran (heap, stepped))

  -- a run after `turns` others returned `Err`
  pub ended_by_a_run : (turns : ℕ) {before last : Test} {heap : Heap} {error : AllocError} → RanUnder step first (each_request turns) before → step before heap (Nth (turns + 1)) (Err error) last → EndedIn step first error
  unfolding EndedIn
  ended_by_a_run turns ran stepped = inl (turns, _, _, _, ran, stepped)

  -- no plan was left
  pub ended_after_all : (turns : ℕ) (error : AllocError) (last : Test) → turns ≡ 2 ^ 64 - 1 → RanUnder step first (each_request turns) last → EndedIn step first error
  unfolding EndedIn
  ended_after_all turns error last all ran = inr (last, subst (λ turns. RanUnder step first (each_request turns) last) all ran)
