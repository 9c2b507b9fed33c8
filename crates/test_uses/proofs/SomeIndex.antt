-- A test and a search that both return whether something occurs.
use Rattle.std.proofs.Common.{◌↔◌, Bool, IsTrue, Option, None, Some, MatchOption, refl}
use Rattle.std.proofs.lemmas.Bool.{false≢true}
use Rattle.std.specs.Option.{IsSome}

pub some_where_it_occurs : {A P Occurs : Type 0} {Q : A → Type 0} (test : Bool) (found : Option A) → (IsTrue test ↔ Occurs) → MatchOption found P Q → (P → ¬ Occurs) → ((x : A) → Q x → Occurs) → IsTrue test ↔ IsSome found
some_where_it_occurs test None says nowhere never always = (λ t. absurd (never nowhere (says.0 t)), λ some. absurd (false≢true some))
some_where_it_occurs test (Some x) says is never always = (λ _. refl, λ _. says.1 (always x is))
