-- The reader, step by step: the items that `CodePoints` still has to give. No contract of another crate names these; `AreItems` says what the items are.
use Rattle.std.specs.Prelude.{ℕ, zero, suc, ◌≡◌, ◌+◌, ◌*◌, ◌%◌, Bool, false, nat_lt, ◌&&◌, ◌||◌, if◌then◌else◌, List, [], ◌∷◌, drop, Result, Ok, Err}
use Rattle.wtf8_core.specs.{Byte.is_continuation, Byte.needed_continuations, Byte.lead_bits, Surrogate.is_high, Surrogate.is_low, declared.fault.EncodingError.EncodingError}
use Rattle.wtf8_core.specs.declared.fault.EncodingError.TheVariants.{Byte, CodePoint, End}

-- the value with the bits of n continuations appended, or the fault if one of them is missing
unfoldable pub with_continuations : ℕ → ℕ → List ℕ → Result ℕ EncodingError
with_continuations value zero bytes = Ok value
with_continuations value (suc n) [] = Err End
with_continuations value (suc n) (x ∷ bytes) =
    if is_continuation x then with_continuations (value * 0x40 + x % 0x40) n bytes else Err (Byte x)

-- the least value of a form with n continuations
abbrev pub least_value : ℕ → ℕ
least_value n = if nat_lt n 2 then 0x80 else (if nat_lt n 3 then 0x800 else 0x1_0000)

-- what a shape of n continuations with this value is, after a high surrogate or not
unfoldable pub checked_value : Bool → ℕ → ℕ → Result ℕ EncodingError
checked_value after_high n value =
    if nat_lt value (least_value n) || nat_lt 0x10_FFFF value || (after_high && is_low value)
    then Err (CodePoint value) else Ok value

-- the same for the value of an `Ok`; a fault stays
unfoldable pub and_then_checked : Bool → ℕ → Result ℕ EncodingError → Result ℕ EncodingError
and_then_checked after_high n (Ok value) = checked_value after_high n value
and_then_checked after_high n (Err fault) = Err fault

-- how many continuations the bytes begin with, at most n
unfoldable pub continuations : ℕ → List ℕ → ℕ
continuations zero bytes = 0
continuations (suc n) [] = 0
continuations (suc n) (x ∷ bytes) = if is_continuation x then suc (continuations n bytes) else 0

-- how many bytes after the first byte b belong to its item
unfoldable pub after_item : ℕ → List ℕ → ℕ
after_item b bytes = if nat_lt b 0xC2 then 0 else continuations (needed_continuations b) bytes

-- the code point or the fault with which the bytes begin
unfoldable pub first_item : Bool → ℕ → List ℕ → Result ℕ EncodingError
first_item after_high b bytes =
    if nat_lt b 0x80 then Ok b
    else (if nat_lt b 0xC2 then Err (Byte b)
    else and_then_checked after_high (needed_continuations b) (with_continuations (lead_bits b) (needed_continuations b) bytes))

-- the item with which the bytes begin, and the bytes after it
abbrev pub first_split : Bool → List ℕ → Result ℕ EncodingError × List ℕ
first_split after_high [] = (Err End, [])
first_split after_high (b ∷ bytes) = (first_item after_high b bytes, drop (after_item b bytes) bytes)

-- the item and the bytes after it within a sequence that needs n continuations and lacks m of them, with the value so far
unfoldable pub split_within : Bool → ℕ → ℕ → ℕ → List ℕ → Result ℕ EncodingError × List ℕ
split_within after_high n m value bytes = (and_then_checked after_high n (with_continuations value m bytes), drop (continuations m bytes) bytes)

-- an item and the items after it; those after a fault are read as if no high surrogate came before them
abbrev pub then_items : Result ℕ EncodingError → (Bool → List (Result ℕ EncodingError)) → List (Result ℕ EncodingError)
then_items (Ok c) after = Ok c ∷ after (is_high c)
then_items (Err fault) after = Err fault ∷ after false

-- the items of the bytes after the first n
unfoldable pub items_skipping : ℕ → Bool → List ℕ → List (Result ℕ EncodingError)
items_skipping n after_high [] = []
items_skipping (suc n) after_high (b ∷ bytes) = items_skipping n after_high bytes
items_skipping zero after_high (b ∷ bytes) = then_items (first_item after_high b bytes) (λ h. items_skipping (after_item b bytes) h bytes)

-- an item and the items of the bytes after it
abbrev pub items_from : Result ℕ EncodingError × List ℕ → List (Result ℕ EncodingError)
items_from split = then_items split.0 (λ h. items_skipping 0 h split.1)

-- whether an item is a high surrogate
abbrev pub is_high_item : Result ℕ EncodingError → Bool
is_high_item (Ok c) = is_high c
is_high_item (Err fault) = false

-- the item with which the bytes begin, and the bytes after it
pub record IsFirstItem (after_high : Bool) (bytes : List ℕ) (item : Result ℕ EncodingError) (rest : List ℕ) : Type 0 where
  pub first : ℕ
  pub after : List ℕ
  pub is : bytes ≡ first ∷ after
  pub item_is : first_item after_high first after ≡ item
  pub rest_is : rest ≡ drop (after_item first after) after

-- the items of the bytes, after a high surrogate or not
abbrev pub items_after : Bool → List ℕ → List (Result ℕ EncodingError)
items_after after_high bytes = items_skipping 0 after_high bytes
