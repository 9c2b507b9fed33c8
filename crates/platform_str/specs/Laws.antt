-- What each platform proves of its strings: of all, of their parts without whole characters, and of lossy reading. What it proves of occurrences and of joins is `OccurrenceLaws` of wtf8_core.
use Rattle.std.specs.Prelude.{◌≡◌, ℕ, ◌<◌, ◌≤◌, List, ◌∷◌, ◌++◌, length, take, drop, slice_index}
use Rattle.std.specs.{List.All, List.flat_map, Str.IsUtf8, Str.IsValidUpTo}
use Rattle.wtf8_core.specs.{Byte.IsByte, Byte.IsContinuation, Covered.StartsWithNoCharacter, Covered.HasNoCharacter, PartUnits.unit_bytes, Boundary.IsBoundary, Lossy.replacement, declared.fault.EncodingError.EncodingError}
use Rattle.platform_str.specs.PlatformWords.{AreWideUnits}

-- one U+FFFD replaces the first n bytes, and what follows them is well formed
pub record IsReplaced (well_formed : List ℕ → Type 0) (lossy : List ℕ → List ℕ) (b : List ℕ) (n : ℕ) : Type 0 where
  pub some : 0 < n
  pub within : n ≤ length b
  pub after : well_formed (drop n b)
  pub lossy_is : lossy b ≡ replacement ++ lossy (drop n b)

-- the laws of a platform
pub record PlatformLaws (first_fault : List ℕ → EncodingError → Type 0) (well_formed : List ℕ → Type 0) (units : List ℕ → List ℕ) (is_unit_list io_safe : List ℕ → Type 0) (lossy : List ℕ → List ℕ) (replaces : List ℕ → ℕ → Type 0) : Type 0 where
  -- faults: rejected bytes aren't well formed, and have exactly one first fault
  pub faulty : (b : List ℕ) (f : EncodingError) → first_fault b f → ¬ (well_formed b)
  pub one_fault : (b : List ℕ) (f g : EncodingError) → first_fault b f → first_fault b g → f ≡ g
  -- encoding: each list of units has one encoding
  pub one_encoding : (b c : List ℕ) → well_formed b → well_formed c → units b ≡ units c → b ≡ c
  pub some_encoding : (us : List ℕ) → is_unit_list us → (b : List ℕ) × (well_formed b × (units b ≡ us))
  pub unit_list : (b : List ℕ) → well_formed b → is_unit_list (units b)
  -- texts: they are strings and IO-safe; IO-safe bytes are a string, and so is what follows a text at the start of a string
  pub text : (b : List ℕ) → IsUtf8 b → well_formed b
  pub text_io_safe : (b : List ℕ) → IsUtf8 b → io_safe b
  pub io_safe_string : (b : List ℕ) → io_safe b → well_formed b
  pub after_text : (b : List ℕ) (n : ℕ) → well_formed b → IsUtf8 (take n b) → well_formed (drop n b)
  pub three : (b c : List ℕ) (n : ℕ) → well_formed b → ¬ (io_safe b) → replaces c n → n ≡ 3
  -- cuts: at a boundary both parts are strings, and their units, joined, are the string's; before a byte that is no continuation what follows is a string
  pub cut_prefix : (b : List ℕ) (i : ℕ) → well_formed b → IsBoundary b i → well_formed (take i b)
  pub cut_suffix : (b : List ℕ) (i : ℕ) → well_formed b → IsBoundary b i → well_formed (drop i b)
  pub cut_lead : (b : List ℕ) (i : ℕ) → i < length b → well_formed b → ¬ (IsContinuation (slice_index b i)) → well_formed (drop i b)
  pub cut_units : (b : List ℕ) (i : ℕ) → well_formed b → IsBoundary b i → units b ≡ units (take i b) ++ units (drop i b)
  -- lossy texts: they are texts, a text is its own lossy text, a text at the start stays, and one U+FFFD replaces as many bytes as `replaces` says
  pub lossy_utf8 : (b : List ℕ) → well_formed b → IsUtf8 (lossy b)
  pub lossy_text : (b : List ℕ) → IsUtf8 b → lossy b ≡ b
  pub lossy_prefix : (b : List ℕ) (n : ℕ) → well_formed b → IsValidUpTo b n → lossy b ≡ take n b ++ lossy (drop n b)
  pub lossy_step : (b : List ℕ) (n : ℕ) → well_formed b → 0 < length b → StartsWithNoCharacter b → replaces b n → IsReplaced well_formed lossy b n

-- the laws of a platform's parts: each unit has its own bytes, `part_units` says what the units are, and a unit has at most 16 bits
pub record PartLaws (well_formed : List ℕ → Type 0) (units : List ℕ → List ℕ) (part_units : List ℕ → Type 0) : Type 0 where
  pub encoded : (b : List ℕ) → well_formed b → HasNoCharacter b → b ≡ flat_map unit_bytes (units b)
  pub are_units : (b : List ℕ) → well_formed b → HasNoCharacter b → part_units (units b)
  pub are_wide : (b : List ℕ) → well_formed b → HasNoCharacter b → AreWideUnits (units b)

-- u is the first unit of b and has n bytes, and what follows them is well formed and has the other units
pub record IsFirstUnit (well_formed : List ℕ → Type 0) (units : List ℕ → List ℕ) (b : List ℕ) (u n : ℕ) : Type 0 where
  pub some : 0 < n
  pub within : n ≤ length b
  pub after : well_formed (drop n b)
  pub units_are : units b ≡ u ∷ units (drop n b)

-- the laws of a platform's lossy reading: any bytes have exactly one, it is a string, and the reading of a string is the string itself
pub record ReadingLaws (well_formed : List ℕ → Type 0) (reads_as : List ℕ → List ℕ → Type 0) : Type 0 where
  pub reading_formed : (b c : List ℕ) → All IsByte b → reads_as b c → well_formed c
  pub reads_itself : (b : List ℕ) → well_formed b → reads_as b b
  pub one_reading : (b c d : List ℕ) → reads_as b c → reads_as b d → c ≡ d
  pub some_reading : (b : List ℕ) → All IsByte b → (c : List ℕ) × reads_as b c
