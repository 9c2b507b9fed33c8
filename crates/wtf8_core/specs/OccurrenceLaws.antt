-- Laws of a platform's strings when they are cut and joined, for any rule for well-formed bytes and any units of bytes (this project's own).
use Rattle.std.specs.Prelude.{◌≡◌, ℕ, ◌<◌, List, ◌++◌, length}
use Rattle.std.specs.Str.{IsUtf8}

-- s is cut around p, where the units before p are us
pub record IsCutAround (well_formed : List ℕ → Type 0) (units : List ℕ → List ℕ) (p s us : List ℕ) : Type 0 where
  pub prefix : List ℕ
  pub suffix : List ℕ
  pub joined : s ≡ prefix ++ (p ++ suffix)
  pub formed : well_formed prefix
  pub units_are : units prefix ≡ us

-- the laws of occurrences and of joins
pub record OccurrenceLaws (well_formed : List ℕ → Type 0) (units : List ℕ → List ℕ) : Type 0 where
  -- texts are strings, and strings with equal units are equal
  pub texts : (p : List ℕ) → IsUtf8 p → well_formed p
  pub once : (v w : List ℕ) → well_formed v → well_formed w → units v ≡ units w → v ≡ w
  -- if a string begins with a string, what follows is a string, and its units are those of both joined; if a string ends with a string, what comes before is a string
  pub prefixes : (x y : List ℕ) → well_formed x → well_formed (x ++ y) → well_formed y × (units (x ++ y) ≡ units x ++ units y)
  pub ends : (x y : List ℕ) → well_formed y → well_formed (x ++ y) → well_formed x
  -- of a text that isn't empty: what comes before it is a string, and where its units occur, its bytes occur
  pub before_text : (p x y : List ℕ) → IsUtf8 p → 0 < length p → well_formed (x ++ (p ++ y)) → well_formed x
  pub units_occur : (p s us vs : List ℕ) → IsUtf8 p → 0 < length p → well_formed s → units s ≡ us ++ (units p ++ vs) → IsCutAround well_formed units p s us
  -- some string has the units of two strings joined; if the units of a string begin with those of another, some string has the units that follow
  pub some_join : (x y : List ℕ) → well_formed x → well_formed y → (w : List ℕ) × (well_formed w × (units w ≡ units x ++ units y))
  pub some_rest : (x s us : List ℕ) → well_formed x → well_formed s → units s ≡ units x ++ us → (y : List ℕ) × (well_formed y × (units y ≡ us))
