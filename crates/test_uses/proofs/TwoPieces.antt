-- Two pieces that a sink takes, one after the other.
use Rattle.std.specs.{Result.IsErrAnd, Result.is_ok}
use Rattle.std.proofs.Common.{◌≡◌, ◌++◌, [], List, ℕ, Result, Ok, Err, MatchResult, IsTrue, OnErr, OnOk, append-nil, append_assoc, ap, ◌∙◌, subst, sym, true, false}
use Rattle.std.proofs.lemmas.Bool.{true≢false}
use Rattle.platform_str.specs.{Sinks.SinkRules, Sinks.Takes, VectorSink.AppendedPrefix}
use Rattle.wtf8_core.specs.Occurrence.{IsPrefix}

module _ {S : Type 0} (sink : SinkRules S) where
  -- if the first is taken, then both are, or neither
  pub second_taken : {E : Type 0} {s t : S} {a : List ℕ} (b : List ℕ) (u : S) → sink.took s a t → (r : Result (Unit {0}) E) → Takes sink t b r u → Takes sink s (a ++ b) r u
  second_taken {s = s} {t = t} {a = a} b u first (Ok x) second = sink.took_both s t u a b first second
  second_taken {s = s} {t = t} {a = a} b u first (Err x) never = subst (λ l. sink.rejects s (a ++ l) u) (append-nil b) (sink.rejects_after s t u a b [] first never)

  -- if the first is rejected, both are
  pub first_rejected : {T E : Type 0} {s : S} {a : List ℕ} (b : List ℕ) (Q : E → Type 0) (u : S) (r : Result T E) → IsErrAnd r Q → sink.rejects s a u → Takes sink s (a ++ b) r u
  first_rejected b Q u (Ok x) is_err never = absurd is_err
  first_rejected {s = s} {a = a} b Q u (Err x) is_err never = sink.rejects_after s s u [] a b (sink.took_nothing s) never

-- where no error is possible
pub no_error : {T E P : Type 0} → (r : Result T E) → MatchResult r (λ _. P) (λ _. ⊥) → P
no_error (Ok x) p = p
no_error (Err x) never = absurd never

pub on_ok : {T E : Type 0} (P : Type 0) (Q : E → Type 0) → (r : Result T E) → MatchResult r (λ _. P) Q → OnOk r P
on_ok P Q (Ok x) p = p
on_ok P Q (Err x) q = tt

pub where_ok : {T E F P : Type 0} (Q : E → Type 0) → (r : Result T E) → MatchResult r (λ _. F → P) Q → F → IsTrue (is_ok r) → P
where_ok Q (Ok x) p flush ok = p flush
where_ok Q (Err x) q flush ok = absurd (true≢false (sym ok))

pub on_err : {T E N : Type 0} (P : T → Type 0) (Q : Type 0) → (N → Q) → (r : Result T E) → MatchResult r P (λ _. N) → OnErr r Q
on_err P Q f (Ok x) p = tt
on_err P Q f (Err x) n = f n

-- a vector after an error has what it had, and no more than it would have
pub kept : {had text has : List ℕ} → AppendedPrefix had text has → IsPrefix had has
kept after = record { rest = after.appended; joined = after.kept }

pub nothing_else : {had text has : List ℕ} → AppendedPrefix had text has → IsPrefix has (had ++ text)
nothing_else {had} {has = has} after = record {
  rest = after.prefix.rest;
  joined = ap (λ x. had ++ x) after.prefix.joined ∙ sym (append_assoc had after.appended after.prefix.rest) ∙ ap (λ x. x ++ after.prefix.rest) (sym after.kept);
}
