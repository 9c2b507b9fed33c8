-- Which files there are.
use Rattle.std.specs.Prelude.{ℕ, List}

-- what is known of files: that one of this name has these bytes, that none has this name, and that one of this name can't be read
pub record KnownFiles : Type 1 where
  pub has : List ℕ → List ℕ → Type 0
  pub lacks : List ℕ → Type 0
  pub fails : List ℕ → Type 0

-- nothing is known of them
abbrev pub any_files : KnownFiles
any_files = record {
  has = λ name bytes. Unit {0};
  lacks = λ name. Unit {0};
  fails = λ name. Unit {0};
}
