-- How far a sink has taken bytes.
use Rattle.std.proofs.Common.{◌≡◌, ℕ, List, [], ◌++◌, Result, Ok, Err, refl, sym, ap, ◌∙◌, subst, append_assoc, append-nil}
use Rattle.std.specs.{Fmt.WritesStyledOnOk, Result.IsErrAnd, declared.fmt.Error.Error, declared.fmt.Formatter.Formatter}
use Rattle.std.proofs.lemmas.{Bool.true≢false, Result.err_from_is_err_and}
use Rattle.platform_str.specs.{FormatterSink.formatter_rules, Sinks.SinkRules, Sinks.Takes}

module _ {S : Type 0} (sink : SinkRules S) where
  -- from s to t a prefix of `all` was taken, and `left` is still to be taken
  abbrev pub TakesRest : S → S → List ℕ → List ℕ → Type 0
  TakesRest s t left all = (done : List ℕ) × sink.took s done t × (done ++ left ≡ all)

  pub nothing_taken : {s : S} {all : List ℕ} → TakesRest s s all all
  nothing_taken {s} = ([], sink.took_nothing s, refl)

  -- what is rejected, as the exit of a `?` returns it
  pub rejected : {T E : Type 0} {s : S} {text : List ℕ} (Q : E → Type 0) (u : S) (r : Result T E) → IsErrAnd r Q → sink.rejects s text u → Takes sink s text r u
  rejected Q u r is_err never = rw (err_from_is_err_and r is_err).1 never

  module _ {s t : S} {left all : List ℕ} (so_far : TakesRest s t left all) where
    pub one_taken : {u : S} {more rest : List ℕ} → sink.took t more u → left ≡ more ++ rest → TakesRest s u rest all
    one_taken {u} {more} {rest} next e = (so_far.0 ++ more, sink.took_both s t u so_far.0 more so_far.1 next, append_assoc so_far.0 more rest ∙ ap (λ x. so_far.0 ++ x) (sym e) ∙ so_far.2)

    pub all_taken : left ≡ [] → sink.took s all t
    all_taken e = subst (λ x. sink.took s x t) (sym (append-nil so_far.0) ∙ ap (λ x. so_far.0 ++ x) (sym e) ∙ so_far.2) so_far.1

    -- there is room for what comes next
    pub room_left : (more rest : List ℕ) → sink.has_room s all → left ≡ more ++ rest → sink.has_room t more
    room_left more rest room e = sink.room_before t more rest (sink.room_after s t so_far.0 (more ++ rest) so_far.1 (subst (sink.has_room s) (sym so_far.2 ∙ ap (λ x. so_far.0 ++ x) e) room))

    pub none_taken : {u : S} (more rest : List ℕ) → sink.rejects t more u → left ≡ more ++ rest → sink.rejects s all u
    none_taken {u} more rest never e = subst (λ x. sink.rejects s x u) (ap (λ x. so_far.0 ++ x) (sym e) ∙ so_far.2) (sink.rejects_after s t u so_far.0 more rest so_far.1 never)

  -- what is left is taken at once
  pub last_taken : {R : Type 0} {s t : S} {left all : List ℕ} (now : List ℕ) (u : S) → TakesRest s t left all → left ≡ now → (r : Result (Unit {0}) R) → Takes sink t now r u → Takes sink s all r u
  last_taken now u so_far e (Ok x) took = all_taken (one_taken so_far {u = u} {more = now} {rest = []} took (e ∙ sym (append-nil now))) refl
  last_taken now u so_far e (Err x) never = none_taken so_far now [] never (e ∙ sym (append-nil now))

module _ {W : Type 0} (took : W → List ℕ → W → Type 0) where
  -- what a formatter took is written
  pub written : {f g : Formatter W} {text : List ℕ} (r : Result (Unit {0}) Error) → Takes (formatter_rules took) f text r g → WritesStyledOnOk took f r text g
  written (Ok x) next flush ok = next flush
  written (Err e) next flush ok = absurd (true≢false (sym ok))
