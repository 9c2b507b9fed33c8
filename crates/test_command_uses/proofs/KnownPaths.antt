-- Lists of which there is one path.
use Rattle.std.proofs.Common.{◌≡◌, ◌≢◌, ◌⊎◌, ⊎_elim, inl, inr, ℕ, ◌+◌, ◌≤◌, List, [], ◌∷◌, ◌++◌, length, sym, ap, ◌∙◌, subst, append-nil}
use Rattle.std.specs.List.{AllByRecursion}
use Rattle.std.specs.Borrow.{Bor}
use Rattle.std.specs.Prelude.{Bool}
use Rattle.path_building.specs.declared.base.Base.{Base}
use Rattle.os_str_bytes.specs.Platform.{Ghosts}
use Rattle.path_rules.specs.Compare as compare
use Rattle.path_rules.specs.declared.rules.Style.{Style}
use Rattle.list_programs.specs.Items.{Entry, Lacks, items_of, texts_of}
use Rattle.list_programs.specs.ListOptions.{byte_of}
use Rattle.list_programs.specs.ListRun.{IsOutput, start}
use Rattle.list_programs.specs.Reading.{Stops}
use Rattle.list_programs.specs.Rules.{IsEntry}
use Rattle.program_frame.specs.declared.fault.Failure.TheVariants.{Write}
use Rattle.list_programs.specs.declared.fault.ListFault.TheVariants.{Rejected, Run}
use Rattle.list_programs.specs.declared.options.ItemEnd.{ItemEnd}
use Rattle.paths_commands.specs.Task.{rules_of, IsAnswer, IsComponentsText, IsPathText, IsRejection, IsTaken, IsUnjoined}
use Rattle.paths_commands.specs.declared.fault.Rejection.{Rejection}
use Rattle.paths_commands.specs.declared.fault.Rejection.TheVariants.{NoString, NoNormalForm, NoRelativePath, NoAbsolutePath, NoJoin, NoJoinAt, NoComponent, NoStringThere, HasNul, ResultHas}
use Rattle.paths_commands.specs.declared.task.Task.{Task}
use Rattle.paths_commands.specs.declared.task.Task.TheVariants.{Components, JoinChecked, StartsWith}
use Rattle.test_command_uses.specs.OneFile.{lacking}
use Rattle.test_command_uses.proofs.KnownNames.{one_item, has_end, in_prefix}

-- the reason is why a path isn't joined to a base
abbrev pub IsOfJoin : Rejection → Type 0
IsOfJoin (NoString error) = ⊥
IsOfJoin NoNormalForm = ⊥
IsOfJoin NoRelativePath = ⊥
IsOfJoin (NoAbsolutePath error) = ⊥
IsOfJoin (NoJoin error) = Unit {0}
IsOfJoin (NoJoinAt error text) = Unit {0}
IsOfJoin (NoComponent index text) = ⊥
IsOfJoin (NoStringThere error) = ⊥
IsOfJoin HasNul = ⊥
IsOfJoin (ResultHas end) = ⊥

same_base : {base other : Base} {keeps kept : Bool} → JoinChecked base keeps ≡ JoinChecked other kept → base ≡ other
same_base e = cc

no_start : {base : Bor (List ℕ)} → Components ≡ StartsWith base → ⊥
no_start e = cc

one_start : {base other : Bor (List ℕ)} → StartsWith base ≡ StartsWith other → base ≡ other
one_start e = cc

module _ {E : Type 0} (p : Ghosts E) (style : Style) (task : Task) (end : ItemEnd) (max : ℕ) where
  -- what is written for one path
  known_text : (path output : List ℕ) → Lacks (byte_of end) path → path ≢ [] → IsOutput (rules_of p style task (lacking end max) end) path output → IsPathText p style end task path output
  known_text path output l some o =
      let one = one_item (rules_of p style task (lacking end max) end) o.entries path l some o.items in
      let entry = (subst (λ es. AllByRecursion (IsEntry (rules_of p style task (lacking end max) end)) es) one.1 o.are).0 in
      let is : output ≡ one.0 = o.written ∙ ap texts_of one.1 ∙ append-nil one.0 in
      subst (IsPathText p style end task path) (sym is) entry.text.1.1

  -- a path with a NUL isn't read
  pub known_whole : (path output : List ℕ) → Lacks (byte_of end) path → path ≢ [] → IsOutput (rules_of p style task (lacking end max) end) path output → Lacks 0 path
  known_whole path output l some o =
      let one = one_item (rules_of p style task (lacking end max) end) o.entries path l some o.items in
      (subst (λ es. AllByRecursion (IsEntry (rules_of p style task (lacking end max) end)) es) one.1 o.are).0.text.1.0

  pub known_answer : (path output : List ℕ) → task ≢ Components → IsTaken style task path → Lacks (byte_of end) path → path ≢ [] → IsOutput (rules_of p style task (lacking end max) end) path output → (answer : List ℕ) × (IsAnswer style task path answer × (Lacks (byte_of end) answer × (output ≡ answer ++ byte_of end ∷ [])))
  known_answer path output other taken l some o =
      ⊎_elim
      (λ components. absurd (other components.0))
      (λ more. ⊎_elim (λ answer. answer) (λ left. absurd (left.0.1.1 (taken left.0.0 left.0.1.0))) more)
      (known_text path output l some o)

  pub known_rejection : (path output : List ℕ) (number : ℕ) (why : Rejection) → Lacks (byte_of end) path → Stops (rules_of p style task (lacking end max) end) start path output (Rejected number why) → (number ≡ 1) × IsRejection p style end task path why
  known_rejection path output number why l s = by s.entries s.item s.rest s.joined s.ended s.because
    where
      by : (es : List Entry) (item rest : List ℕ) → path ≡ items_of (byte_of end) es ++ (item ++ rest) → ((rest ≡ []) × Unit {0}) ⊎ ((more : List ℕ) × (rest ≡ byte_of end ∷ more)) → (number ≡ 0 + length es + 1) × ((length item ≤ max) × IsRejection p style end task item why)
          → (number ≡ 1) × IsRejection p style end task path why
      by [] item rest j (inl none) f = (f.0, subst (λ x. IsRejection p style end task x why) (sym (j ∙ ap (λ x. item ++ x) none.0 ∙ append-nil item)) f.1.1)
      by [] item rest j (inr more) f = absurd (has_end (byte_of end) item more.0 (subst (Lacks (byte_of end)) (j ∙ ap (λ x. item ++ x) more.1) l))
      by (e ∷ es) item rest j ended f = absurd (has_end (byte_of end) e.0 (items_of (byte_of end) es ++ (item ++ rest)) (subst (Lacks (byte_of end)) (j ∙ in_prefix (byte_of end) e.0 (items_of (byte_of end) es) (item ++ rest)) l))

  -- a path that isn't joined to the base
  pub known_unjoined : (base : Base) (keeps : Bool) (path output : List ℕ) (number : ℕ) (why : Rejection) → task ≡ JoinChecked base keeps → IsOfJoin why → Lacks (byte_of end) path → Stops (rules_of p style task (lacking end max) end) start path output (Rejected number why)
      → (number ≡ 1) × IsUnjoined p style base path why
  known_unjoined base keeps path output number why is of_join l s = let r = known_rejection path output number why l s in (r.0, by why of_join r.1)
    where
      by : (given : Rejection) → IsOfJoin given → IsRejection p style end task path given → IsUnjoined p style base path given
      by (NoJoin error) of r = subst (λ b. IsUnjoined p style b path (NoJoin error)) (sym (same_base (sym is ∙ r.1.1.0))) r.1.1.1
      by (NoJoinAt error text) of r = subst (λ b. IsUnjoined p style b path (NoJoinAt error text)) (sym (same_base (sym is ∙ r.1.1.0))) r.1.1.1
      by (NoString error) of r = absurd of
      by NoNormalForm of r = absurd of
      by NoRelativePath of r = absurd of
      by (NoAbsolutePath error) of r = absurd of
      by (NoComponent index text) of r = absurd of
      by (NoStringThere error) of r = absurd of
      by HasNul of r = absurd of
      by (ResultHas byte) of r = absurd of

module _ {E : Type 0} (p : Ghosts E) (style : Style) (end : ItemEnd) (max : ℕ) where
  pub known_components : (path output : List ℕ) → Lacks (byte_of end) path → path ≢ [] → IsOutput (rules_of p style Components (lacking end max) end) path output → IsComponentsText p style path output
  known_components path output l some o =
      ⊎_elim
      (λ components. components.1)
      (λ more. ⊎_elim (λ answer. absurd answer.1.0) (λ left. absurd (no_start left.0.1.0)) more)
      (known_text p style Components end max path output l some o)

  -- what is written for a path if it begins with a base, and if it doesn't
  pub known_picked : (base : Bor (List ℕ)) (path output : List ℕ) → Lacks (byte_of end) path → path ≢ [] → IsOutput (rules_of p style (StartsWith base) (lacking end max) end) path output
      → (compare.StartsWith style path base.now × (output ≡ path ++ byte_of end ∷ [])) ⊎ ((¬ (compare.StartsWith style path base.now)) × (output ≡ []))
  known_picked base path output l some o =
      ⊎_elim
      (λ components. absurd (no_start (sym components.0)))
      (λ more. ⊎_elim
      (λ answer. inl (answer.1.0.0, answer.1.1.1 ∙ ap (λ a. a ++ byte_of end ∷ []) answer.1.0.1))
      (λ left. inr ((λ starts. left.0.1.1 (subst (λ b. compare.StartsWith style path b.now) (one_start left.0.1.0) starts)), left.1)) more)
      (known_text p style (StartsWith base) end max path output l some o)

-- a path that is rejected is no failed write
pub no_write : (number : ℕ) (why : Rejection) → ¬ (Rejected number why ≡ Run Write)
no_write number why e = cc
