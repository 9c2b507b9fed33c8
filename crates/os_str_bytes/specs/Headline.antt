-- The definitions that the headline's contract uses.
use Rattle.std.specs.Prelude.{◌≡◌, ◌↔◌, ◌<◌, ℕ, List, length, drop, Option, MatchOption, Result, MatchResult, IfOk}
use Rattle.wtf8_core.specs.{Boundary.IsBoundary, declared.fault.EncodingError.EncodingError}
use Rattle.os_str_ext.specs.Pieces.{Splits}
use Rattle.platform_str.specs.declared.platform.Platform.{Ghosts}
use Rattle.os_str_bytes.specs.{declared.raw_str.RawOsStr.RawOsStr, declared.cuts.Cuts.Cuts, Raw.raw_bytes, Raw.raw_vec_of, Cuts.AreBothParts, Cuts.IsPart}

-- the strings of the platform P are the bytes that are `formed`. `has_units` relates a string to its units, `listed` holds for the lists of units, and `faults` relates other bytes to their first fault. `safe` holds for IO-safe bytes. `lossy_is` relates a string to its lossy text, and `replaced` gives the number of bytes that one U+FFFD replaces there. `parts` holds for the units of a part.
pub record IsPlatform {E : Type 0} (P : Ghosts E) (formed : List ℕ → Type 0) (has_units : List ℕ → List ℕ → Type 0) (listed : List ℕ → Type 0) (faults : List ℕ → EncodingError → Type 0) (safe : List ℕ → Type 0) (lossy_is : List ℕ → List ℕ → Type 0) (replaced : List ℕ → ℕ → Type 0) (parts : List ℕ → Type 0) : Type 0 where
  pub well_formed : (b : List ℕ) → P.well_formed b ↔ formed b
  pub units : (b us : List ℕ) → (P.well_formed b × (us ≡ P.units b)) ↔ has_units b us
  pub unit_lists : (us : List ℕ) → P.is_unit_list us ↔ listed us
  pub first_fault : (b : List ℕ) (f : EncodingError) → P.first_fault b f ↔ faults b f
  pub io_safe : (b : List ℕ) → P.io_safe b ↔ safe b
  pub lossy : (b : List ℕ) → P.well_formed b → lossy_is b (P.lossy b)
  pub replaces : (b : List ℕ) (n : ℕ) → P.replaces b n ↔ replaced b n
  pub part_units : (us : List ℕ) → P.part_units us ↔ parts us

-- us are the bytes b themselves, and b is `formed`
abbrev pub AreItself : (List ℕ → Type 0) → List ℕ → List ℕ → Type 0
AreItself formed b us = formed b × (us ≡ b)

-- accepted bytes and lists of units correspond one to one: the units of each string are a list of units, and each list of units is that of exactly one string
pub record AreOneToOne (well_formed is_unit_list : List ℕ → Type 0) (units : List ℕ → List ℕ) : Type 0 where
  pub listed : (b : List ℕ) → well_formed b → is_unit_list (units b)
  pub some : (us : List ℕ) → is_unit_list us → (b : List ℕ) × (well_formed b × (units b ≡ us))
  pub once : (b c : List ℕ) → well_formed b → well_formed c → units b ≡ units c → b ≡ c

-- f is the first fault of b, which has no other, and b isn't a string
pub record IsOnlyFault (well_formed : List ℕ → Type 0) (first_fault : List ℕ → EncodingError → Type 0) (b : List ℕ) (f : EncodingError) : Type 0 where
  pub is : first_fault b f
  pub only : (g : EncodingError) → first_fault b g → g ≡ f
  pub refused : ¬ (well_formed b)

-- Ok exactly if b is a string, else Err with its only fault
abbrev pub AcceptsOrRefuses : {T : Type 0} → (List ℕ → Type 0) → (List ℕ → EncodingError → Type 0) → List ℕ → Result T EncodingError → Type 0
AcceptsOrRefuses well_formed first_fault b r = MatchResult r (λ _. well_formed b) (λ fault. IsOnlyFault well_formed first_fault b fault)

-- r is the pieces of s that Is names, None where p is empty
abbrev pub SplitsUnlessEmpty : (List ℕ → List ℕ) → (List ℕ → List ℕ → List (List ℕ) → Type 0) → List ℕ → List ℕ → Option (List (List ℕ)) → Type 0
SplitsUnlessEmpty units_of Is p s r = MatchOption r (length p ≡ 0) (λ pieces. (0 < length p) × Splits units_of Is p s pieces)

module _ {E A : Type 0} {P : Ghosts E} where
  -- each cut of s at index `at` returns the bytes before it and those from it on (those of a copy, unless an allocation fails)
  pub record AreCutsAt (s : RawOsStr E P) (at : ℕ) (cuts : Cuts E A P) : Type 0 where
    pub split_at : AreBothParts s at (raw_bytes cuts.split_at.0) (raw_bytes cuts.split_at.1)
    pub index : IsPart s 0 at (raw_bytes cuts.index.0) × IsPart s at (length (raw_bytes s)) (raw_bytes cuts.index.1)
    pub get_unchecked : IsPart s 0 at (raw_bytes cuts.get_unchecked.0) × IsPart s at (length (raw_bytes s)) (raw_bytes cuts.get_unchecked.1)
    pub split_off : IfOk cuts.split_off (λ parts. AreBothParts s at (raw_vec_of parts.0).items (raw_vec_of parts.1).items)
    pub truncate : IfOk cuts.truncate (λ prefix. AreBothParts s at (raw_vec_of prefix).items (drop at (raw_bytes s)))

  -- the cuts of s at index `at`, or None if s can't be cut there
  abbrev pub CutsAt : RawOsStr E P → ℕ → Option (Cuts E A P) → Type 0
  CutsAt s at r = MatchOption r (¬ (IsBoundary (raw_bytes s) at)) (λ cuts. AreCutsAt s at cuts)
