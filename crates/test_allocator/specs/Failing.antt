-- The allocator inside one whose requests fail as planned.
use Rattle.test_allocator.specs.declared.allocator.Failing.{Failing}

-- the allocator to which requests are passed on
abbrev pub allocator_of : {A : Type 0} → Failing A → A
allocator_of heap = heap.alloc
