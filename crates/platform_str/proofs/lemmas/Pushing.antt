-- How far a text has been written into a buffer.
use Rattle.std.proofs.Common.{◌≡◌, ℕ, ◌+◌, ◌<◌, ◌^◌, List, [], ◌++◌, length, Result, Ok, Err, MatchResult, refl, sym, ap, ◌∙◌, subst, arith, append_assoc, append-nil, length-append}
use Rattle.std.specs.declared.fmt.Error.{Error}
pub use Rattle.platform_str.specs.BufferSink.{push_nothing, push_both}
use Rattle.platform_str.specs.BufferSink.{Pushes}
use Rattle.wtf8_core.specs.Truncated.{IsTruncated}
use Rattle.wtf8_core.proofs.lemmas.buffers.Truncated.{none_yet}

pub push_same : {a b : List ℕ} {old new : List ℕ} {n m : ℕ} → a ≡ b → Pushes a old n new m → Pushes b old n new m
push_same {a} {b} {old} {new} {n} {m} e p = subst (λ x. Pushes x old n new m) e p

-- what `push_truncated` says, of equal bytes
pub push_bytes : {old new bytes more : List ℕ} {n m : ℕ} → bytes ≡ more → ((text buffer : List ℕ) → IsTruncated text buffer old n → IsTruncated (text ++ bytes) buffer new m) → m ≡ n + length bytes
    → Pushes more old n new m
push_bytes {old} {new} {n = n} {m = m} e written len = subst (λ x. Pushes x old n new m) e (written, len)

-- what is pushed onto nothing is all that is there
pub pushed_all : {a old new : List ℕ} {k : ℕ} → Pushes a old 0 new k → IsTruncated a old new k
pushed_all {a} {old} {new} {k} p = p.0 [] old (none_yet old)

-- a buffer rejects nothing
pub never_rejected : {Took : Type 0} (r : Result (Unit {0}) Error) → MatchResult r (λ _. Took) (λ _. ⊥) → Took
never_rejected (Ok x) took = took
never_rejected (Err e) never = absurd never

pub pushed_whole : {text now old new last : List ℕ} {n k : ℕ} → Pushes text now n new k → now ≡ old → n ≡ 0 → last ≡ new → IsTruncated text old last k
pushed_whole {text} {now} {old} {new} {last} {n} {k} p e z l = subst (λ x. IsTruncated text old x k) (sym l) (pushed_all (subst (λ x. Pushes text x 0 new k) e (subst (λ m. Pushes text now m new k) z p)))

-- a prefix of `all` is written, and `left` is still to be written
abbrev pub PushesRest : List ℕ → ℕ → List ℕ → ℕ → List ℕ → List ℕ → Type 0
PushesRest old n new m left all = (done : List ℕ) × Pushes done old n new m × (done ++ left ≡ all)

pub nothing_pushed : (old : List ℕ) (n : ℕ) (all : List ℕ) → PushesRest old n old n all all
nothing_pushed old n all = ([], push_nothing old n, refl)

module _ {old now : List ℕ} {n m : ℕ} {left all : List ℕ} (so_far : PushesRest old n now m left all) where
  pub one_pushed : {new more rest : List ℕ} {k : ℕ} → Pushes more now m new k → left ≡ more ++ rest → PushesRest old n new k rest all
  one_pushed {new} {more} {rest} {k} p e = (so_far.0 ++ more, push_both so_far.1 p, append_assoc so_far.0 more rest ∙ ap (λ x. so_far.0 ++ x) (sym e) ∙ so_far.2)

  pub all_pushed : left ≡ [] → Pushes all old n now m
  all_pushed e = push_same (sym (append-nil so_far.0) ∙ ap (λ x. so_far.0 ++ x) (sym e) ∙ so_far.2) so_far.1

  -- there is a number for what is written with what comes next
  pub room_left : (more rest : List ℕ) → n + length all < 2 ^ 64 → left ≡ more ++ rest → m + length more < 2 ^ 64
  room_left more rest room e =
      omega (arith, room, so_far.1.1, ap length so_far.2, length-append so_far.0 left, ap length e, length-append more rest)
