-- The one path that a name is, and ignore files that are read one after the other.
use Rattle.std.proofs.Common.{◌≡◌, ◌↔◌, ◌+◌, inl, inr, ℕ, Bool, true, false, not, List, [], ◌∷◌, ◌++◌, length, refl, sym, ap, ◌∙◌, subst, append_assoc, append-nil, arith}
use Rattle.std.proofs.Math.Logic.{∥∥₁_elim}
use Rattle.std.proofs.Props.{props}
use Rattle.std.proofs.lemmas.List.{append_cancel_right, length-append}
use Rattle.std.specs.List.{AllByRecursion}
use Rattle.std.specs.Str.{IsUtf8}
use Rattle.os_ignore.specs.Ignores.{IsAddedTo}
use Rattle.os_ignore.specs.Verdicts.{IsVerdict, is_ignored}
use Rattle.os_ignore.specs.declared.file.File.{File}
use Rattle.os_ignore.specs.declared.verdict.Verdict.{Verdict}
use Rattle.os_ignore.proofs.lemmas.OneVerdict.{one_verdict}
use Rattle.platform_str.specs.FormatterSink.{text_after}
use Rattle.program_frame.specs.Files.{KnownFiles}
use Rattle.names_commands.specs.Ignoring.{AreAdded, AreRead, FileRead, IsFileIn, IsFirstUnread, IsIgnored, IsPath, WasRead, value_of, without_dot}
use Rattle.names_commands.specs.Program.{Fault, IsFaultOf, IsFaultOfOne}
use Rattle.names_commands.specs.declared.fault.CommandFault.TheVariants.{NoFile, Unread}
use Rattle.names_commands.proofs.lemmas.Picks.{pushed}

-- a name is one path
pub one_path : (name p q : List ℕ) (d e : Bool) → IsPath name p d → IsPath name q e → (p ≡ q) × (d ≡ e)
one_path name p q true true a b = (append_cancel_right p q (0x2F ∷ []) (sym a ∙ b), refl)
one_path name p q true false a b = absurd (b.1 p a)
one_path name p q false true a b = absurd (a.1 q b)
one_path name p q false false a b = (a.0 ∙ sym b.0, refl)

-- the name in a value that is UTF-8 is UTF-8
pub name_text : (value directory name : List ℕ) → IsFileIn value directory name → IsUtf8 value → IsUtf8 name
name_text value directory name (inl whole) u = subst IsUtf8 (sym whole.1.1) u
name_text value directory name (inr cut) u = text_after cut.0 name 0x3D (omega arith) (subst IsUtf8 cut.1.0.joined u)

one_has : (known : KnownFiles) (reads : List FileRead) (read : FileRead) → AllByRecursion (WasRead known) reads → WasRead known read → AllByRecursion (WasRead known) (reads ++ read ∷ [])
one_has known [] read a h = (h, tt)
one_has known (x ∷ reads) read a h = (a.0, one_has known reads read a.1 h)

module _ {A : Type 0} where
  pub its_verdict : (files : List (File A)) (name path : List ℕ) (is_dir : Bool) (verdict : Verdict) → IsPath (without_dot name) path is_dir → IsVerdict files path is_dir verdict → IsIgnored files name → is_ignored verdict ≡ true
  its_verdict files name path is_dir verdict is verdict_is i =
      let same = one_path (without_dot name) i.path path i.is_dir is_dir i.path_is is in
      let here = subst (λ p. IsVerdict files p is_dir i.verdict) same.0 (subst (λ d. IsVerdict files i.path d i.verdict) same.1 i.verdict_is) in
      ap is_ignored (one_verdict files path is_dir verdict i.verdict verdict_is here) ∙ i.ignored

  -- a name is shown where the verdict on its path is none that ignores it, although which steps led to that isn't known
  pub shown_where : (files : List (File A)) (name path : List ℕ) (is_dir : Bool) (verdict : Verdict) (ignored : Bool) → IsPath (without_dot name) path is_dir → ∥ IsVerdict files path is_dir verdict ∥₁ → ignored ≡ is_ignored verdict
      → (not ignored ≡ true) ↔ (¬ (IsIgnored files name))
  shown_where files name path is_dir verdict false is m e = (
    λ _ i. ∥∥₁_elim m (Prim.hlevel props) (λ v. let never : false ≡ true = e ∙ its_verdict files name path is_dir verdict is v i in cc),
    λ _. refl,
  )
  shown_where files name path is_dir verdict true is m e = (
    λ yes. absurd (cc),
    λ none. absurd (∥∥₁_elim m (Prim.hlevel props) (λ v. none (record { path = path; is_dir = is_dir; path_is = is; verdict = verdict; verdict_is = v; ignored = sym e }))),
  )

  -- with regard to case or without
  module _ (folds : Bool) where
    one_added : (reads : List FileRead) (read : FileRead) (old mid new : List (File A)) → AreAdded folds reads old mid → IsAddedTo folds read.directory read.content mid new → AreAdded folds (reads ++ read ∷ []) old new
    one_added [] read old mid new a i = (new, subst (λ x. IsAddedTo folds read.directory read.content x new) a i, refl)
    one_added (x ∷ reads) read old mid new a i = (a.0, a.1, one_added reads read a.0 mid new a.2 i)

    -- so many of the files were read, and the names of the others are left
    pub record AreReadSoFar (known : KnownFiles) (names left : List (List ℕ)) (number : ℕ) (files : List (File A)) : Type 0 where
      pub before : List (List ℕ)
      pub joined : names ≡ before ++ left
      pub number_is : number ≡ length before
      pub read : AreRead known folds before files

    pub none_read : (known : KnownFiles) (names : List (List ℕ)) (files : List (File A)) → files ≡ [] → AreReadSoFar known names names 0 files
    none_read known names files none = record { before = []; joined = refl; number_is = refl; read = record { reads = []; values_are = refl; have = tt; added = none } }

    pub one_read : (known : KnownFiles) (values left : List (List ℕ)) (number : ℕ) (read : FileRead) (old new : List (File A)) → AreReadSoFar known values (read.value ∷ left) number old → WasRead known read → IsAddedTo folds read.directory read.content old new → AreReadSoFar known values left (number + 1) new
    one_read known values left number read old new s was added = record {
      before = s.before ++ read.value ∷ [];
      joined = s.joined ∙ sym (append_assoc s.before (read.value ∷ []) left);
      number_is = ap (λ n. n + 1) s.number_is ∙ sym (length-append s.before (read.value ∷ []));
      read = record {
        reads = s.read.reads ++ read ∷ [];
        values_are = ap (λ x. x ++ read.value ∷ []) s.read.values_are ∙ sym (pushed value_of s.read.reads read);
        have = one_has known s.read.reads read s.read.have was;
        added = one_added s.read.reads read [] old new s.read.added added;
      };
    }

    pub all_read : (known : KnownFiles) (names : List (List ℕ)) (number : ℕ) (files : List (File A)) → AreReadSoFar known names [] number files → AreRead known folds names files
    all_read known names number files s = subst (λ x. AreRead known folds x files) (sym (s.joined ∙ append-nil s.before)) s.read

    first_unread : (known : KnownFiles) (names left : List (List ℕ)) (number : ℕ) (name : List ℕ) (files : List (File A)) → AreReadSoFar known names (name ∷ left) number files → IsFirstUnread A known folds names (number + 1) name
    first_unread known names left number name files s = record { before = s.before; after = left; joined = s.joined; number_is = ap (λ n. n + 1) s.number_is; files = files; read = s.read }

    pub unread : (known : KnownFiles) (names left : List (List ℕ)) (number : ℕ) (name : List ℕ) (files : List (File A)) (fault : Fault) → AreReadSoFar known names (name ∷ left) number files → IsFaultOfOne known (number + 1) name fault → IsFaultOf known A folds names fault
    unread known names left number name files fault s (inl memory) = inl memory
    unread known names left number name files fault s (inr (inl none)) = inr (NoFile (number + 1), (name, first_unread known names left number name files s, none.1), none.0)
    unread known names left number name files fault s (inr (inr failed)) = inr (Unread (number + 1), (name, first_unread known names left number name files s, failed.1), failed.0)
