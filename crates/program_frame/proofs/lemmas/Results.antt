-- What holds of a result without a look at which it is.
use Rattle.std.proofs.Common.{Result, Ok, Err, IfOk, IfErr, OnOk, IsOk}
use Rattle.std.proofs.lemmas.Bool.{false≢true}

module _ {X E : Type 0} where
  -- what needs no value
  pub OnOk-from : {P : Type 0} (r : Result X E) → P → OnOk r P
  OnOk-from (Ok x) h = h
  OnOk-from (Err e) h = tt

  -- what holds of each value, and of each error
  pub IfOk-from : (r : Result X E) (P : X → Type 0) → ((x : X) → P x) → IfOk r P
  IfOk-from (Ok x) P h = h x
  IfOk-from (Err e) P h = tt

  pub IfErr-from : (r : Result X E) (P : E → Type 0) → ((e : E) → P e) → IfErr r P
  IfErr-from (Ok x) P h = tt
  IfErr-from (Err e) P h = h e

  -- an `Ok` has no error
  pub IfErr-from_ok : (r : Result X E) (P : E → Type 0) → IsOk r → IfErr r P
  IfErr-from_ok (Ok x) P is = tt
  IfErr-from_ok (Err e) P is = absurd (false≢true is)
