-- Archives that have a fault at their first header.
use Rattle.std.proofs.Common.{◌≡◌, ◌≢◌, inl, inr, ⊎_elim, ℕ, Bool, true, false, List, [], ◌++◌, Option, Some, None, Result, length, take, refl, sym, ap, ◌∙◌, subst, arith}
use Rattle.std.proofs.Math.Seq.{take-append_seam}
use Rattle.std.specs.Prelude.{⊤}
use Rattle.std.specs.Io.KnownBytes.{Appends}
use Rattle.os_str_bytes.specs.Platform.{Ghosts}
use Rattle.tar_names.specs.declared.fault.TarFault.{TarFault}
use Rattle.tar_names.specs.declared.fault.TarFault.TheVariants.{CutOff, End, Sum, Kind, Size, Padding, Unused, Record, GnuRecord, Global, Empty, Twice, Hidden, Prefix, TooLong}
use Rattle.tar_names.specs.Fields.{after_spaces, digits_of, field}
use Rattle.tar_names.specs.Member.{BeginsWithHeader, IsCut, IsMember, IsMemberFault, IsSize, block_of, is_known, type_of}
use Rattle.tar_names.specs.Names.{AreNames, bad_member, bad_name, bad_said, ended, entry, filled, said, too_long}
use Rattle.program_frame.specs.declared.fault.Failure.TheVariants.{Memory, Read, Write}
use Rattle.list_programs.specs.declared.fault.ListFault.{ListFault}
use Rattle.list_programs.specs.declared.fault.ListFault.TheVariants.{Rejected}
use Rattle.list_programs.specs.declared.options.ListOptions.{ListOptions}
use Rattle.names_commands.specs.Program.{Fault, RunsTar, tar_outcome}
use Rattle.names_commands.specs.Tar.{AreWritten, faulty}
use Rattle.names_commands.specs.Tar as tar
use Rattle.names_commands.specs.declared.fault.Rejection.{Rejection}
use Rattle.names_commands.specs.declared.fault.Rejection.TheVariants.{BadArchive}
use Rattle.test_command_uses.specs.Archives.{BeginsSparse, LacksSize, RejectsFirst}

-- the archive begins with no member
abbrev HasNoMember : Option ℕ → List ℕ → Type 0
HasNoMember size archive = (header content rest : List ℕ) → ¬ (IsMember size archive header content rest)

-- then it has no names, and the fault of its first header
unread : {next : Option (List ℕ)} {size : Option ℕ} {extended : Bool} {archive : List ℕ} {names : List (List ℕ)} {end : Option TarFault} → AreNames next size extended archive names end → BeginsWithHeader archive → HasNoMember size archive
    → (names ≡ []) × ((fault : TarFault) × ((end ≡ Some fault) × IsMemberFault size archive fault))
unread (ended is) begins memberless = absurd (begins.some is.0.1)
unread (bad_member {fault = fault} is) begins memberless = (refl, (fault, (refl, is)))
unread (bad_said member is) begins memberless = absurd (memberless _ _ _ member)
unread (bad_name member is wrong) begins memberless = absurd (memberless _ _ _ member)
unread (too_long name member is named long) begins memberless = absurd (memberless _ _ _ member)
unread (filled name member is called short slash) begins memberless = absurd (memberless _ _ _ member)
unread (said member is others) begins memberless = absurd (memberless _ _ _ member)
unread (entry member is named short bare others) begins memberless = absurd (memberless _ _ _ member)

-- the header of a member is the first block
first_block : (size : Option ℕ) (archive header content padding rest : List ℕ) → IsCut size archive header content padding rest → header ≡ block_of archive
first_block size archive header content padding rest cut =
    let behind = content ++ (padding ++ rest) in
    sym (take-append_seam header behind) ∙ ap (λ n. take n (header ++ behind)) cut.block ∙ ap (take 512) (sym cut.joined)

not_known : (archive : List ℕ) → type_of (block_of archive) ≡ 0x53 → is_known (type_of (block_of archive)) ≡ true → ⊥
not_known archive is known = let never : false ≡ true = ap is_known (sym is) ∙ known in cc

unknown_cut : (size : Option ℕ) (archive header content padding rest : List ℕ) → type_of (block_of archive) ≡ 0x53 → IsCut size archive header content padding rest → ⊥
unknown_cut size archive header content padding rest is cut =
    not_known archive is (subst (λ h. is_known (type_of h) ≡ true) (first_block size archive header content padding rest cut) cut.known)

sparse_fault : (archive : List ℕ) (fault : TarFault) → BeginsSparse archive → IsMemberFault None archive fault → fault ≡ Kind
sparse_fault archive CutOff sparse (inl short) = absurd (omega (arith, short, sparse.0.header.long))
sparse_fault archive CutOff sparse (inr cut) = absurd (not_known archive sparse.1 cut.0.known)
sparse_fault archive End sparse is = absurd (sparse.0.header.some is.0.1)
sparse_fault archive Sum sparse is = absurd (is.1 sparse.0.sum)
sparse_fault archive Kind sparse is = refl
sparse_fault archive Size sparse is = absurd (not_known archive sparse.1 is.0.known)
sparse_fault archive Padding sparse is = absurd (unknown_cut None archive is.header is.content is.padding is.rest sparse.1 is.cut)
sparse_fault archive Unused sparse is = absurd (unknown_cut None archive is.header is.content is.padding is.rest sparse.1 is.cut)
sparse_fault archive Record sparse is = absurd is
sparse_fault archive GnuRecord sparse is = absurd is
sparse_fault archive Global sparse is = absurd is
sparse_fault archive Empty sparse is = absurd is
sparse_fault archive Twice sparse is = absurd is
sparse_fault archive Hidden sparse is = absurd is
sparse_fault archive Prefix sparse is = absurd is
sparse_fault archive TooLong sparse is = absurd is

-- a size has a digit
abbrev pub SizesHaveDigits : Type 0
SizesHaveDigits = (size : Option ℕ) (header : List ℕ) (n : ℕ) → IsSize size header n → digits_of 8 (after_spaces (field 124 12 header)) ≢ []

sizeless_cut : (archive header content padding rest : List ℕ) → SizesHaveDigits → LacksSize archive → IsCut None archive header content padding rest → ⊥
sizeless_cut archive header content padding rest digit lacks cut =
    digit None (block_of archive) (length content) (subst (λ h. IsSize None h (length content)) (first_block None archive header content padding rest cut) cut.sized) lacks.1

sizeless_fault : (archive : List ℕ) (fault : TarFault) → SizesHaveDigits → LacksSize archive → IsMemberFault None archive fault → fault ≡ Size
sizeless_fault archive CutOff digit lacks (inl short) = absurd (omega (arith, short, lacks.0.sum.header.long))
sizeless_fault archive CutOff digit lacks (inr cut) = absurd (digit None (block_of archive) cut.1.0 cut.1.1.0 lacks.1)
sizeless_fault archive End digit lacks is = absurd (lacks.0.sum.header.some is.0.1)
sizeless_fault archive Sum digit lacks is = absurd (is.1 lacks.0.sum.sum)
sizeless_fault archive Kind digit lacks is = let never : true ≡ false = sym lacks.0.known ∙ is.1 in cc
sizeless_fault archive Size digit lacks is = refl
sizeless_fault archive Padding digit lacks is = absurd (sizeless_cut archive is.header is.content is.padding is.rest digit lacks is.cut)
sizeless_fault archive Unused digit lacks is = absurd (sizeless_cut archive is.header is.content is.padding is.rest digit lacks is.cut)
sizeless_fault archive Record digit lacks is = absurd is
sizeless_fault archive GnuRecord digit lacks is = absurd is
sizeless_fault archive Global digit lacks is = absurd is
sizeless_fault archive Empty digit lacks is = absurd is
sizeless_fault archive Twice digit lacks is = absurd is
sizeless_fault archive Hidden digit lacks is = absurd is
sizeless_fault archive Prefix digit lacks is = absurd is
sizeless_fault archive TooLong digit lacks is = absurd is

-- so nothing is written of it, and its first entry is rejected
none_written : {E : Type 0} {p : Ghosts E} {list : ListOptions} {names : List (List ℕ)} {fault : TarFault} {output : List ℕ} {first : Option (ListFault Rejection)} → names ≡ [] → AreWritten p list 1 names (Some fault) output first
    → (output ≡ []) × (first ≡ Some (Rejected 1 (BadArchive fault)))
none_written e faulty = (refl, refl)
none_written e (tar.written item others) = cc
none_written e (tar.rejected item others) = cc

-- an archive that begins with a header but with no member, whose fault can only be this one
module _ {E : Type 0} (p : Ghosts E) (list : ListOptions) (archive : List ℕ) (only : TarFault) (begins : BeginsWithHeader archive) (memberless : HasNoMember None archive) (is : (fault : TarFault) → IsMemberFault None archive fault → fault ≡ only) where
  -- nothing of it is written, and its first entry is rejected
  written_first : (output : List ℕ) (first : Option (ListFault Rejection)) → tar.IsTarOutput p list archive output first → (output ≡ []) × (first ≡ Some (Rejected 1 (BadArchive only)))
  written_first output first it =
      let found = unread it.are begins memberless in
      let end : it.end ≡ Some only = found.1.1.0 ∙ ap Some (is found.1.0 found.1.1.1) in
      none_written found.0 (subst (λ end. AreWritten p list 1 it.names end output first) end it.written)

  rejected : (left old new : Option (List ℕ)) (answer : Result ⊤ Fault) → RunsTar p list (Some archive) left old new answer → RejectsFirst only old new answer
  rejected left old new answer (inl none) = ⊎_elim (λ e. inl (Memory, e)) (λ e. inl (Read, e)) none.0
  rejected left old new answer (inr runs) = ⊎_elim (λ ran. inr (ran.0 ∙ ap tar_outcome it.1, subst (Appends old new) it.0 ran.1)) (λ failed. inl (Write, failed.0)) runs.1.2.1
    where
      it : (runs.1.0 ≡ []) × (runs.1.1 ≡ Some (Rejected 1 (BadArchive only)))
      it = written_first runs.1.0 runs.1.1 runs.1.2.0

module _ {E : Type 0} (p : Ghosts E) (list : ListOptions) (archive : List ℕ) (left old new : Option (List ℕ)) (answer : Result ⊤ Fault) (runs : RunsTar p list (Some archive) left old new answer) where
  pub sparse_rejected : BeginsSparse archive → RejectsFirst Kind old new answer
  sparse_rejected sparse =
      rejected p list archive Kind sparse.0.header (λ header content rest m. unknown_cut None archive header content m.padding rest sparse.1 m.cut) (λ fault is. sparse_fault archive fault sparse is) left old new answer runs

  pub sizeless_rejected : SizesHaveDigits → LacksSize archive → RejectsFirst Size old new answer
  sizeless_rejected digit lacks =
      rejected p list archive Size lacks.0.sum.header (λ header content rest m. sizeless_cut archive header content m.padding rest digit lacks m.cut) (λ fault is. sizeless_fault archive fault digit lacks is) left old new answer runs
