-- What it means that a closure ran under one plan after another.
use Rattle.std.specs.Prelude.{ℕ, ◌+◌, ◌-◌, ◌^◌, ◌⊎◌, List, Result, Ok, Err, map}
use Rattle.std.specs.List.{FoldsTo, range_with_len}
use Rattle.std.specs.declared.alloc.AllocError.{AllocError}
use Rattle.test_allocator.specs.declared.plan.Plan.{Plan}
use Rattle.test_allocator.specs.declared.plan.Plan.TheVariants.{Nth}

-- the plans under which the first request fails, the second, and so on, as many as `turns`
unfoldable pub each_request : ℕ → List Plan
each_request turns = map Nth (range_with_len 1 turns)

-- one call for each of the plans, in their order and at some allocator, took the closure from `first` to `last`, and each returned `Ok`
unfoldable pub RanUnder : {Test Heap : Type 0} → (Test → Heap → Plan → Result (Unit {0}) AllocError → Test → Type 0) → Test → List Plan → Test → Type 0
RanUnder {Heap} step first plans last = FoldsTo (λ before plan after. (heap : Heap) × step before heap plan (Ok tt) after) first plans last

-- the runs ended in an error: that of a run after others that returned `Ok`, or the one after which no plan is left
unfoldable pub EndedIn : {Test Heap : Type 0} → (Test → Heap → Plan → Result (Unit {0}) AllocError → Test → Type 0) → Test → AllocError → Type 0
EndedIn {Test} {Heap} step first error =
    ((turns : ℕ) × (before last : Test) × (heap : Heap) × RanUnder step first (each_request turns) before × step before heap (Nth (turns + 1)) (Err error) last)
    ⊎ ((last : Test) × RanUnder step first (each_request (2 ^ 64 - 1)) last)
