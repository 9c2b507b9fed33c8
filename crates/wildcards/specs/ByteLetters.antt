-- Bytes as letters of their own.
use Rattle.std.specs.Prelude.{ℕ, List}
use Rattle.std.proofs.Common.{refl}
use Rattle.wildcards.specs.Reading.{LetterLaws}

-- any bytes are read
abbrev pub AnyBytes : List ℕ → Type 0
AnyBytes s = Unit {0}

-- each byte is its own letter
abbrev pub itself : List ℕ → List ℕ
itself s = s

pub byte_laws : LetterLaws AnyBytes itself
byte_laws = record {
  ascii = λ s h. (tt, refl);
  once = λ s t f g e. e;
  cut = λ s t b l f. (tt, (tt, refl));
  from = λ s t b l f. tt;
  found = λ s us vs b l f e. record { prefix = us; suffix = vs; joined = e; letters_before = refl; letters_after = refl };
}
