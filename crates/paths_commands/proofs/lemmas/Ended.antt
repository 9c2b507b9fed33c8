-- A result that is ended, or taken away since it has its end.
use Rattle.std.proofs.Common.{◌≡◌, ◌≢◌, ◌⊎◌, ⊎_elim, inl, inr, ℕ, List, Result, Ok, Err, OnOk, [], ◌∷◌, ◌++◌, length, drop, take, refl, sym, ap, ◌∙◌, subst, append_assoc}
use Rattle.std.specs.Prelude.{IfErr, OnErr}
use Rattle.std.proofs.Math.Seq.{drop-append_seam, take-append_seam}
use Rattle.os_str_bytes.specs.Platform.{Ghosts}
use Rattle.path_rules.specs.declared.rules.Style.{Style}
use Rattle.list_programs.specs.Items.{Lacks}
use Rattle.list_programs.specs.ListOptions.{byte_of}
use Rattle.list_programs.specs.declared.fault.ItemFault.{ItemFault}
use Rattle.list_programs.specs.declared.fault.ItemFault.TheVariants.{Rejected, Memory}
use Rattle.list_programs.specs.declared.options.ItemEnd.{ItemEnd}
use Rattle.paths_commands.specs.Task.{IsAnswer, IsCutShort, IsMade, IsPathText, IsRejection, IsUnanswered}
use Rattle.paths_commands.specs.declared.fault.Rejection.{Rejection}
use Rattle.paths_commands.specs.declared.fault.Rejection.TheVariants.{ResultHas}
use Rattle.paths_commands.specs.declared.task.Task.{Task}
use Rattle.paths_commands.specs.declared.task.Task.TheVariants.{Components}
use Rattle.paths_commands.proofs.lemmas.Rejections.{unanswered_rejected}

module _ {E : Type 0} (p : Ghosts E) (style : Style) (end : ItemEnd) (task : Task) (path : List ℕ) where
  -- this was appended
  abbrev Appended : List ℕ → List ℕ → Type 0
  Appended old mid = (made : List ℕ) × (IsMade p style task path made × (mid ≡ old ++ made))

  -- components have no end of their own
  pub components_written : (old mid : List ℕ) → task ≡ Components → Appended old mid → (text : List ℕ) × (IsPathText p style end task path text × (mid ≡ old ++ text))
  components_written old mid is made =
      (made.0, (⊎_elim (λ components. inl components) (λ answer. absurd (subst (λ t. IsAnswer style t path made.0) is answer)) made.1.0, made.1.1))

  answered : (made : List ℕ) → task ≢ Components → IsMade p style task path made → IsAnswer style task path made
  answered made other is = ⊎_elim (λ components. absurd (other components.0)) (λ answer. answer) is

  from : (start : ℕ) (old mid made : List ℕ) → start ≡ length old → mid ≡ old ++ made → drop start mid ≡ made
  from start old mid made count is = ap (λ n. drop n mid) count ∙ ap (λ l. drop (length old) l) is ∙ drop-append_seam old made

  pub ended : (start : ℕ) (old mid new : List ℕ) → task ≢ Components → start ≡ length old → Appended old mid → Lacks (byte_of end) (drop start mid) → new ≡ mid ++ byte_of end ∷ []
      → (text : List ℕ) × (IsPathText p style end task path text × (new ≡ old ++ text))
  ended start old mid new other count made lacks is =
      let answer = made.0 in
      let whole = subst (Lacks (byte_of end)) (from start old mid answer count made.1.1) lacks in (
        answer ++ byte_of end ∷ [],
        (
          inr (inl (answer, (answered answer other made.1.0, (whole, refl)))),
          is ∙ ap (λ l. l ++ byte_of end ∷ []) made.1.1 ∙ append_assoc old answer (byte_of end ∷ []),
        ),
      )

  pub cut_short : (start : ℕ) (old mid : List ℕ) → task ≢ Components → start ≡ length old → Appended old mid → ¬ (Lacks (byte_of end) (drop start mid)) → IsCutShort p style end task path
  cut_short start old mid other count made has =
      (made.0, (answered made.0 other made.1.0, λ lacks. has (subst (Lacks (byte_of end)) (sym (from start old mid made.0 count made.1.1)) lacks)))

  pub taken : (start : ℕ) (old mid new : List ℕ) → start ≡ length old → Appended old mid → new ≡ take start mid → new ≡ old
  taken start old mid new count made is = is ∙ ap (λ n. take n mid) count ∙ ap (λ l. take (length old) l) made.1.1 ∙ take-append_seam old made.0

  pub ended_on : {X Y : Type 0} (r : Result X Y) (start : ℕ) (old mid new : List ℕ) → task ≢ Components → start ≡ length old → Appended old mid → OnOk r (Lacks (byte_of end) (drop start mid)) → OnOk r (new ≡ mid ++ byte_of end ∷ [])
      → OnOk r ((text : List ℕ) × (IsPathText p style end task path text × (new ≡ old ++ text)))
  ended_on (Ok done) start old mid new other count made lacks is = ended start old mid new other count made lacks is
  ended_on (Err fault) start old mid new other count made lacks is = tt

  pub cut_on : {X : Type 0} (r : Result X (ItemFault Rejection)) (start : ℕ) (old mid : List ℕ) → task ≢ Components → start ≡ length old → Appended old mid
      → IfErr r (λ fault. (fault ≡ Memory) ⊎ ((fault ≡ Rejected (ResultHas end)) × (¬ (Lacks (byte_of end) (drop start mid)))))
      → IfErr r (λ fault. (fault ≡ Memory) ⊎ ((why : Rejection) × ((fault ≡ Rejected why) × IsRejection p style end task path why)))
  cut_on (Ok done) start old mid other count made has = tt
  cut_on (Err fault) start old mid other count made has =
      ⊎_elim (λ memory. inl memory) (λ cut. inr (ResultHas end, (cut.0, (refl, cut_short start old mid other count made cut.1)))) has

  pub taken_on : {X Y : Type 0} (r : Result X Y) (start : ℕ) (old mid new : List ℕ) → start ≡ length old → Appended old mid → OnErr r (new ≡ take start mid) → OnErr r (new ≡ old)
  taken_on (Ok done) start old mid new count made is = tt
  taken_on (Err fault) start old mid new count made is = taken start old mid new count made is

  -- a path without a result is rejected
  pub without_result : (fault : ItemFault Rejection) → (fault ≡ Memory) ⊎ ((why : Rejection) × ((fault ≡ Rejected why) × IsUnanswered p style task path why))
      → (fault ≡ Memory) ⊎ ((why : Rejection) × ((fault ≡ Rejected why) × IsRejection p style end task path why))
  without_result fault is = ⊎_elim (λ memory. inl memory) (λ none. inr (none.0, (none.1.0, unanswered_rejected p style end task path none.0 none.1.1))) is
