-- A prefix of bytes that encodes code points: what vectors find. No contract of another crate names it.
use Rattle.std.specs.Prelude.{Bool, ◌≡◌, ℕ, ◌-◌, ◌≤◌, List, ◌∷◌, ◌++◌, length, take, drop}
use Rattle.std.specs.{List.AllByRecursion, Char.IsScalar}
use Rattle.wtf8_core.specs.{Surrogate.is_high, Neighbours.EachMayFollow, declared.vectors.Encoding.Encoding, Wtf8.Encodes, Wtf8.last_or, declared.vectors.Encoding.TheVariants.Utf8}

-- the bytes before the rest encode code points; `after_high` is whether the last of these is a high surrogate
pub record IsReadUpTo (bytes : List ℕ) (after_high : Bool) (rest : List ℕ) : Type 0 where
  pub code_points : List ℕ
  pub prefix : List ℕ
  pub joined : bytes ≡ prefix ++ rest
  pub encoded : Encodes prefix code_points
  pub high_is : is_high (last_or 0 code_points) ≡ after_high

-- the bytes with four zeros before them
abbrev pub with_zeros_before : List ℕ → List ℕ
with_zeros_before bytes = 0 ∷ 0 ∷ 0 ∷ 0 ∷ bytes

-- the first n bytes encode code points, which in UTF-8 are scalar values
pub record IsEncodedPrefix (encoding : Encoding) (bytes : List ℕ) (n : ℕ) : Type 0 where
  pub within : n ≤ length bytes
  pub code_points : List ℕ
  pub encoded : Encodes (take n bytes) code_points
  pub plain : encoding ≡ Utf8 → AllByRecursion IsScalar code_points

-- a prefix encodes code points, and each byte after it and before index n may follow those before it
pub record KeepsPattern (encoding : Encoding) (bytes : List ℕ) (n : ℕ) : Type 0 where
  pub from : ℕ
  pub prefix : IsEncodedPrefix encoding bytes from
  pub order : from ≤ n
  pub pattern : EachMayFollow encoding (n - from) (drop from (with_zeros_before bytes))
