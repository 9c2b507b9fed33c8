-- Which bytes separate the parts of a path (POSIX 4.13; "Naming Files, Paths, and Namespaces").
use Rattle.std.specs.Prelude.{◌≡◌, ◌<◌, ℕ, Bool, true, false, nat_eq, ◌||◌, List, [], ◌∷◌, ◌++◌, slice_index}
use Rattle.std.specs.List.{All}
use Rattle.path_rules.specs.declared.rules.Rules.{Rules}
use Rattle.path_rules.specs.declared.rules.Rules.TheVariants.{Slash, Either, Verbatim}

-- the byte separates
abbrev pub separates : Rules → ℕ → Bool
separates Slash b = nat_eq b 0x2F
separates Either b = nat_eq b 0x2F || nat_eq b 0x5C
separates Verbatim b = nat_eq b 0x5C

-- s is a field, none of whose bytes passes the test, and the rest, which is empty or begins with a byte that passes
abbrev pub EdgeBy : (ℕ → Bool) → List ℕ → Type 0
EdgeBy test [] = Unit {0}
EdgeBy test (b ∷ s) = test b ≡ true

pub record IsFieldBy (test : ℕ → Bool) (s field rest : List ℕ) : Type 0 where
  pub joined : s ≡ field ++ rest
  pub plain : All (λ b. test b ≡ false) field
  pub edge : EdgeBy test rest

-- no byte of s separates
abbrev pub IsPlain : Rules → List ℕ → Type 0
IsPlain r s = All (λ b. separates r b ≡ false) s

-- no byte of s before index n separates
abbrev pub IsPlainBelow : Rules → List ℕ → ℕ → Type 0
IsPlainBelow r s n = (i : ℕ) → i < n → separates r (slice_index s i) ≡ false

-- s is what comes before a separator, the separator, and what comes after it
pub record IsCut (r : Rules) (s before after : List ℕ) : Type 0 where
  pub separator : ℕ
  pub joined : s ≡ before ++ separator ∷ after
  pub parts : separates r separator ≡ true

-- s is empty or begins with a separator
abbrev pub Edge : Rules → List ℕ → Type 0
Edge r s = EdgeBy (separates r) s

-- s is the field, in which no byte separates, and the rest, which is empty or begins with a separator
abbrev pub IsField : Rules → List ℕ → List ℕ → List ℕ → Type 0
IsField r s field rest = IsFieldBy (separates r) s field rest

-- t is s, or s up to a separator
pub record IsUpTo (r : Rules) (s t : List ℕ) : Type 0 where
  pub more : List ℕ
  pub joined : s ≡ t ++ more
  pub edge : Edge r more
