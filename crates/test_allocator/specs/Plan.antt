-- Which requests fail under a plan.
use Rattle.std.specs.Prelude.{◌≡◌, ℕ, ⊤}
use Rattle.test_allocator.specs.declared.plan.Plan.{Plan}
use Rattle.test_allocator.specs.declared.plan.Plan.TheVariants.{Never, Always, Nth}

-- the request of this number fails under the plan; the first request has number 1
unfoldable pub Fails : Plan → ℕ → Type 0
Fails Never number = ⊥
Fails Always number = ⊤
Fails (Nth failed) number = failed ≡ number
