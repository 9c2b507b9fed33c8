-- The names of an archive's entries, one after the other.
use Rattle.std.proofs.Common.{◌≡◌, ◌≢◌, ℕ, ◌+◌, List, [], ◌∷◌, ◌++◌, Option, Some, None, Result, Ok, Err, refl, sym, ap, ◌∙◌, subst, append_assoc, append-nil}
use Rattle.std.specs.Prelude.{MatchOption, ⊤}
use Rattle.os_str_bytes.specs.Platform.{Ghosts}
use Rattle.program_frame.specs.declared.fault.Failure.{Failure}
use Rattle.list_programs.specs.declared.fault.ListFault.{ListFault}
use Rattle.list_programs.specs.declared.fault.ListFault.TheVariants.{Run}
use Rattle.list_programs.specs.declared.options.ListOptions.{ListOptions}
use Rattle.list_programs.specs.ListOptions.{byte_of}
use Rattle.list_programs.specs.declared.program_fault.Fault.TheVariants.{List as OfList}
use Rattle.tar_names.specs.declared.fault.TarFault.{TarFault}
use Rattle.names_commands.specs.Program.{Fault, tar_outcome}
use Rattle.names_commands.specs.Tar.{AreWritten, IsItem, IsNoItem, IsTarOutput, earlier, ended, faulty, rejected, written}
use Rattle.names_commands.specs.declared.fault.Rejection.{Rejection}

-- nothing is rejected later
or_none : (first : Option (ListFault Rejection)) → earlier first None ≡ first
or_none None = refl
or_none (Some fault) = refl

-- what is rejected later isn't the first
or_later : (first : Option (ListFault Rejection)) (fault : ListFault Rejection) (later : Option (ListFault Rejection)) → earlier first (Some fault) ≡ earlier (earlier first (Some fault)) later
or_later None fault later = refl
or_later (Some own) fault later = refl

same_fault : {one other : ListFault Rejection} → Some one ≡ Some other → one ≡ other
same_fault e = cc

module _ {E : Type 0} (p : Ghosts E) (list : ListOptions) where
  -- no entry is rejected since the run can't go on
  pub never_run : {number : ℕ} {names : List (List ℕ)} {end : Option TarFault} {output : List ℕ} {first : Option (ListFault Rejection)} → AreWritten p list number names end output first → (why : Failure) → first ≢ Some (Run why)
  never_run ended why e = cc
  never_run faulty why e = let never = same_fault e in cc
  never_run (written item others) why e = never_run others why e
  never_run (rejected {number = number} {name = name} is others) why e = subst (IsNoItem p list number name) (same_fault e) is

  moved : (archive one other : List ℕ) (a b : Option (ListFault Rejection)) → one ≡ other → a ≡ b → IsTarOutput p list archive one a → IsTarOutput p list archive other b
  moved archive one other a b e f h = subst (IsTarOutput p list archive other) f (subst (λ x. IsTarOutput p list archive x a) e h)

  -- nothing comes after the last entry
  pub finished : (archive output : List ℕ) (first : Option (ListFault Rejection)) → IsTarOutput p list archive (output ++ []) (earlier first None) → IsTarOutput p list archive output first
  finished archive output first h = moved archive (output ++ []) output (earlier first None) first (append-nil output) (or_none first) h

  -- the archive ends at a fault
  pub broken_off : (archive output : List ℕ) (now first : Option (ListFault Rejection)) → now ≡ first → IsTarOutput p list archive (output ++ []) first → IsTarOutput p list archive output now
  broken_off archive output now first e h = moved archive (output ++ []) output first now (append-nil output) (sym e) h

  -- one entry more
  pub continued : (archive old new name : List ℕ) (number : ℕ) (names : List (List ℕ)) (end : Option TarFault) (output : List ℕ) (first one now later : Option (ListFault Rejection))
      → MatchOption one (IsItem p list name × (new ≡ old ++ (name ++ byte_of list.end ∷ []))) (λ fault. IsNoItem p list number name fault × (new ≡ old))
      → now ≡ earlier first one
      → ((lines : List ℕ) (others : Option (ListFault Rejection)) → AreWritten p list number (name ∷ names) end lines others → IsTarOutput p list archive (old ++ lines) (earlier first others))
      → AreWritten p list (number + 1) names end output later → IsTarOutput p list archive (new ++ output) (earlier now later)
  continued archive old new name number names end output first None now later item is all others =
      let piece = name ++ byte_of list.end ∷ [] in
      moved archive (old ++ (piece ++ output)) (new ++ output) (earlier first later) (earlier now later)
      (sym (append_assoc old piece output) ∙ ap (λ x. x ++ output) (sym item.1)) (ap (λ x. earlier x later) (sym (is ∙ or_none first))) (all (piece ++ output) later (written item.0 others))
  continued archive old new name number names end output first (Some fault) now later item is all others =
      moved archive (old ++ output) (new ++ output) (earlier first (Some fault)) (earlier now later)
      (ap (λ x. x ++ output) (sym item.1)) (or_later first fault later ∙ ap (λ x. earlier x later) (sym is)) (all output (Some fault) (rejected item.0 others))

  -- a failure isn't what ends a run over the names
  pub no_blame : {archive output : List ℕ} (first : Option (ListFault Rejection)) → IsTarOutput p list archive output first → (answer : Result ⊤ Fault) → answer ≡ tar_outcome first → (why : Failure) → answer ≢ Err (OfList (Run why))
  no_blame None it answer is why e = let never : Ok tt ≡ Err (OfList (Run why)) = sym is ∙ e in cc
  no_blame (Some fault) it answer is why e =
      let same : Err (OfList fault) ≡ Err (OfList (Run why)) = sym is ∙ e in
      let own : fault ≡ Run why = cc in
      never_run it.written why (ap Some own)
