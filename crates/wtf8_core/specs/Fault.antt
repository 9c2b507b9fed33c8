-- The first fault of bytes that aren't WTF-8. RFC 3629, section 3, and WTF-8 don't say which it is; the order here is this project's own, as os_str_bytes 7.2.1 reads.
use Rattle.std.specs.Prelude.{◌≡◌, ◌≢◌, ℕ, ◌+◌, ◌*◌, ◌%◌, ◌<◌, ◌⊎◌, List, ◌∷◌, ◌++◌, length, []}
use Rattle.std.specs.{List.fold, List.AllByRecursion, Int.IsInRange}
use Rattle.wtf8_core.specs.{Byte.IsContinuation, Byte.IsLead, Byte.needed_continuations, Byte.lead_bits, Surrogate.IsHigh, Surrogate.IsLow, CodePoint.IsCodePoint, CodePoint.encode}
use Rattle.wtf8_core.specs.{Wtf8.Encodes, Wtf8.last_or, declared.fault.EncodingError.EncodingError}
use Rattle.wtf8_core.specs.declared.fault.EncodingError.TheVariants.{Byte, CodePoint, End, Utf8}

-- a lead and continuations after it
pub record IsSequenceStart (lead : ℕ) (after : List ℕ) : Type 0 where
  pub lead_is : IsLead lead
  pub continued : AllByRecursion IsContinuation after

-- a lead and exactly as many continuations after it as it needs
pub record IsWholeSequence (lead : ℕ) (after : List ℕ) : Type 0 where
  pub begun : IsSequenceStart lead after
  pub whole : length after ≡ needed_continuations lead

-- the low bits of the lead, and then six bits of each continuation
abbrev pub sequence_value : ℕ → List ℕ → ℕ
sequence_value lead after = fold (λ value x. value * 0x40 + x % 0x40) (lead_bits lead) after

-- a byte that begins nothing
pub record IsStray (refused : List ℕ) (x : ℕ) : Type 0 where
  pub is : refused ≡ x ∷ []
  pub stray : IsInRange 0x80 0xC1 x

-- a lead with fewer continuations than it needs
pub record IsIncomplete (refused : List ℕ) : Type 0 where
  pub lead : ℕ
  pub after : List ℕ
  pub is : refused ≡ lead ∷ after
  pub begun : IsSequenceStart lead after
  pub short : length after < needed_continuations lead

-- a lead with fewer continuations than it needs, and then a byte that is no continuation
pub record IsInterrupted (refused rest : List ℕ) (x : ℕ) : Type 0 where
  pub begun : IsIncomplete refused
  pub after : List ℕ
  pub next : rest ≡ x ∷ after
  pub breaks : IsContinuation x → ⊥

-- a whole sequence with this value that encodes no code point, or encodes a low surrogate after a high one
pub record IsBadSequence (last : ℕ) (refused : List ℕ) (value : ℕ) : Type 0 where
  pub lead : ℕ
  pub after : List ℕ
  pub is : refused ≡ lead ∷ after
  pub shape : IsWholeSequence lead after
  pub value_is : sequence_value lead after ≡ value
  pub bad : ((c : ℕ) → IsCodePoint c → encode c ≢ refused) ⊎ ((encode value ≡ refused) × IsLow value × IsHigh last)

-- these bytes, before this rest and after the code point `last`, are rejected with this fault
abbrev pub IsRefused : ℕ → List ℕ → List ℕ → EncodingError → Type 0
IsRefused last refused rest (Byte x) = IsStray refused x ⊎ IsInterrupted refused rest x
IsRefused last refused rest End = IsIncomplete refused × (rest ≡ [])
IsRefused last refused rest (CodePoint value) = IsBadSequence last refused value
IsRefused last refused rest (Utf8 valid_up_to error_len) = ⊥

-- the bytes begin with a part that is rejected with this fault
pub record BeginsFault (last : ℕ) (bytes : List ℕ) (fault : EncodingError) : Type 0 where
  pub refused : List ℕ
  pub rest : List ℕ
  pub is : bytes ≡ refused ++ rest
  pub refusal : IsRefused last refused rest fault

-- the bytes encode these code points up to their first fault; if there are none, 0, which is no high surrogate, counts as the last of them
pub record IsFirstFault (bytes cs : List ℕ) (fault : EncodingError) : Type 0 where
  pub before : List ℕ
  pub from : List ℕ
  pub joined : bytes ≡ before ++ from
  pub encoded : Encodes before cs
  pub begins : BeginsFault (last_or 0 cs) from fault

-- the first fault begins at index `valid_up_to`, and `refused_len` bytes are rejected with it
pub record IsFaultAt (bytes : List ℕ) (valid_up_to refused_len : ℕ) : Type 0 where
  pub code_points : List ℕ
  pub fault : EncodingError
  pub first : IsFirstFault bytes code_points fault
  pub valid_is : valid_up_to ≡ length first.before
  pub refused_is : refused_len ≡ length first.begins.refused
