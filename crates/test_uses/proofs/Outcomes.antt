-- What follows about an `Option` or a `Result` from what each variant states.
use Rattle.std.specs.Result.{is_ok}
use Rattle.std.proofs.Common.{◌≡◌, ◌∙◌, ap, refl, true, false, IsTrue, Option, None, Some, IfSome, MatchOption, Result, Ok, Err, IfOk, IfErr, IsSomeAnd, IsOkAnd, IsErrAnd, MatchResult}

-- what follows of a value follows where there is one
pub where_some : {A : Type 0} (P : Type 0) {Q R : A → Type 0} → ((x : A) → Q x → R x) → (o : Option A) → MatchOption o P Q → IfSome o R
where_some P f None none = tt
where_some P f (Some x) some = f x some

pub where_ok : {A B : Type 0} {Q R : A → Type 0} → ((x : A) → Q x → R x) → (r : Result A B) → IfOk r Q → IfOk r R
where_ok f (Ok x) ok = f x ok
where_ok f (Err x) ok = tt

-- where it can't be `Ok`, and each error is this one
pub only_err : {A B : Type 0} (P : Type 0) {Q : B → Type 0} {error : B} → (r : Result A B) → MatchResult r (λ _. P) Q → ¬ P → ((x : B) → Q x → x ≡ error) → r ≡ Err error
only_err P (Ok x) ok none one = absurd (none ok)
only_err P (Err x) err none one = ap Err (one x err)

-- where there must be a value, and each is this one
pub only_some : {A : Type 0} (P : Type 0) {Q : A → Type 0} {value : A} → (o : Option A) → MatchOption o P Q → ¬ P → ((x : A) → Q x → x ≡ value) → o ≡ Some value
only_some P None none some one = absurd (some none)
only_some P (Some x) is some one = ap Some (one x is)

-- where it can't be `Ok`, what follows of an error follows where there is one
pub err_and : {A B : Type 0} {P : A → Type 0} {Q R : B → Type 0} → (r : Result A B) → IfOk r P → IfErr r Q → ((x : A) → P x → ⊥) → ((e : B) → Q e → R e) → IsErrAnd r R
err_and (Ok x) ok err none f = absurd (none x ok)
err_and (Err e) ok err none f = f e err

-- where no error is one of two kinds that each is, what follows of a value follows where there is one
pub ok_and : {A B : Type 0} {P R : A → Type 0} {Q S : B → Type 0} → (r : Result A B) → IfOk r P → IfErr r Q → IfErr r S → ((e : B) → Q e → S e → ⊥) → ((x : A) → P x → R x) → IsOkAnd r R
ok_and (Ok x) ok err also none f = f x ok
ok_and (Err e) ok err also none f = absurd (none e err also)

-- where it can't be `Ok`, and each error of two kinds is this one
pub err_is : {A B : Type 0} {P : A → Type 0} {Q S : B → Type 0} {error : B} → (r : Result A B) → IfOk r P → IfErr r Q → IfErr r S → ((x : A) → P x → ⊥) → ((e : B) → Q e → S e → e ≡ error) → r ≡ Err error
err_is (Ok x) ok err also none one = absurd (none x ok)
err_is (Err e) ok err also none one = ap Err (one e err also)

-- it is `Ok` exactly if W holds, which each value states, and no error of two kinds
pub ok_tells : {A B : Type 0} {P : A → Type 0} {Q S : B → Type 0} (W : Type 0) → (r : Result A B) → IfOk r P → IfErr r Q → IfErr r S → ((x : A) → P x → W) → ((e : B) → Q e → S e → W → ⊥) → (IsTrue (is_ok r) → W) × (W → IsTrue (is_ok r))
ok_tells W (Ok x) ok err also f g = (λ _. f x ok, λ _. refl)
ok_tells W (Err e) ok err also f g = (λ t. let no : ¬ (false ≡ true) = λ e. cc in absurd (no t), λ w. absurd (g e err also w))

-- a pair of these two
pub pair_of : {A B : Type 0} (pair : A × B) (a : A) (b : B) → (pair.0 ≡ a) × (pair.1 ≡ b) → pair ≡ (a, b)
pair_of pair a b same = ap (λ x. (x, pair.1)) same.0 ∙ ap (λ y. (a, y)) same.1

-- where there must be a result, no error of which is of two kinds, what follows of a value follows of its value
pub some_ok_and : {A B : Type 0} (N : Type 0) (P R : A → Type 0) (Q S : B → Type 0) → (o : Option (Result A B)) → MatchOption o N (λ r. MatchResult r P (λ e. Q e × S e)) → ¬ N → ((e : B) → Q e → S e → ⊥) → ((x : A) → P x → R x) → IsSomeAnd o (λ r. IsOkAnd r R)
some_ok_and N P R Q S None none some bad f = absurd (some none)
some_ok_and N P R Q S (Some (Ok x)) is some bad f = f x is
some_ok_and N P R Q S (Some (Err e)) is some bad f = absurd (bad e is.0 is.1)

-- a value would state what doesn't hold
pub none_is : {A : Type 0} (P : Type 0) → (o : Option A) → IfSome o (λ _. P) → ¬ P → o ≡ None
none_is P None some none = refl
none_is P (Some x) some none = absurd (none some)
