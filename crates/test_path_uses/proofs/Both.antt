-- Facts that are carried on.
use Rattle.std.proofs.Common.{◌≡◌, ◌↔◌, Bool, Result, Ok, Err, Option, Some, None, subst, sym}
use Rattle.std.specs.Prelude.{IsTrue, IfOk, IfErr, IfSome, OnOk}

-- two facts that are equal to a third
pub both : {A B C : Type 0} → A ↔ B → B ↔ C → A ↔ C
both f g = (λ a. g.0 (f.0 a), λ c. f.1 (g.1 c))

module _ {X Y : Type 0} where
  -- what follows of each value of an `Ok`
  pub with_ok : {P Q : X → Type 0} (r : Result X Y) → IfOk r P → ((x : X) → P x → Q x) → IfOk r Q
  with_ok (Ok x) h f = f x h
  with_ok (Err y) h f = tt

  -- and of an `Ok` whatever its value
  pub with_on_ok : {P Q : Type 0} (r : Result X Y) → OnOk r P → (P → Q) → OnOk r Q
  with_on_ok (Ok x) h f = f h
  with_on_ok (Err y) h f = tt

  -- and of each of an `Err`
  pub with_err : {P Q : Y → Type 0} (r : Result X Y) → IfErr r P → ((y : Y) → P y → Q y) → IfErr r Q
  with_err (Ok x) h f = tt
  with_err (Err y) h f = f y h

-- a question that was answered so
pub answered : (Holds : Type 0) (r : Option Bool) (b : Bool) → r ≡ Some b → IsTrue b ↔ Holds → IfSome r (λ has. IsTrue has ↔ Holds)
answered Holds r b e h = subst (λ x. IfSome x (λ has. IsTrue has ↔ Holds)) (sym e) h

-- the same of one that is asked only under a condition
pub answered_if : (When Holds : Type 0) (r : Option Bool) (b : Bool) → r ≡ Some b → (When → IsTrue b ↔ Holds) → IfSome r (λ has. When → IsTrue has ↔ Holds)
answered_if When Holds r b e h = subst (λ x. IfSome x (λ has. When → IsTrue has ↔ Holds)) (sym e) h

pub not_answered_if : (When Holds : Type 0) (r : Option Bool) → r ≡ None → IfSome r (λ has. When → IsTrue has ↔ Holds)
not_answered_if When Holds r e = subst (λ x. IfSome x (λ has. When → IsTrue has ↔ Holds)) (sym e) tt

pub not_answered : (Holds : Type 0) (r : Option Bool) → r ≡ None → IfSome r (λ has. IsTrue has ↔ Holds)
not_answered Holds r e = subst (λ x. IfSome x (λ has. IsTrue has ↔ Holds)) (sym e) tt
