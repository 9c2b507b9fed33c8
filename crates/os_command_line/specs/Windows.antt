-- How a Windows program reads its command line (Microsoft, "Parsing C command-line arguments", as the C runtime of 2015 and later does). Lists are of 16-bit units.
use Rattle.std.specs.Prelude.{◌≡◌, ◌≢◌, ◌⊎◌, ℕ, ◌+◌, ◌*◌, nat_eq, Bool, true, false, not, ◌||◌, List, [], ◌∷◌, ◌++◌, replicate}
use Rattle.std.specs.List.{AllByRecursion}

-- `\` and `"`
abbrev pub backslash : ℕ
backslash = 0x5C

abbrev pub quote : ℕ
quote = 0x22

-- a space or a tab
abbrev pub IsBlank : ℕ → Type 0
IsBlank u = (u ≡ 0x20) ⊎ (u ≡ 0x09)

abbrev pub is_blank : ℕ → Bool
is_blank u = nat_eq u 0x20 || nat_eq u 0x09

-- n backslashes
abbrev pub backslashes : ℕ → List ℕ
backslashes n = replicate n backslash

-- a unit that means itself, also after backslashes: no backslash, no quotation mark, and outside quotation marks no blank
pub record IsLiteral (inside : Bool) (u : ℕ) : Type 0 where
  pub no_backslash : u ≢ backslash
  pub no_quote : u ≢ quote
  pub no_blank : inside ≡ false → ¬ (IsBlank u)

-- an argument ends before this: at the end of the line, or outside quotation marks before a blank
abbrev pub Ends : Bool → List ℕ → Type 0
Ends inside [] = Unit {0}
Ends true (u ∷ us) = ⊥
Ends false (u ∷ us) = IsBlank u

-- the first unit is no quotation mark
abbrev pub StartsWithNoQuote : List ℕ → Type 0
StartsWithNoQuote [] = Unit {0}
StartsWithNoQuote (u ∷ us) = u ≢ quote

-- an argument begins here
abbrev pub Begins : List ℕ → Type 0
Begins [] = ⊥
Begins (u ∷ us) = ¬ (IsBlank u)

-- From here, inside quotation marks or not, the text is read as the rest of an argument, up to `after`.
-- Backslashes before no quotation mark mean themselves.
-- 2n + 1 backslashes and a quotation mark are n backslashes and the mark.
-- 2n backslashes and a mark are n backslashes, and the mark opens or closes a quoted part.
-- Inside such a part, 2n backslashes and two marks are n backslashes and one mark, and the part goes on.
pub data Reads (after : List ℕ) : Bool → List ℕ → List ℕ → Type 0 where
  ends : (inside : Bool) (n : ℕ) → Ends inside after → Reads after inside (backslashes n ++ after) (backslashes n)
  literal : (inside : Bool) (n u : ℕ) (text argument : List ℕ) → IsLiteral inside u → Reads after inside text argument → Reads after inside (backslashes n ++ u ∷ text) (backslashes n ++ u ∷ argument)
  escaped : (inside : Bool) (n : ℕ) (text argument : List ℕ) → Reads after inside text argument → Reads after inside (backslashes (2 * n + 1) ++ quote ∷ text) (backslashes n ++ quote ∷ argument)
  opens : (n : ℕ) (text argument : List ℕ) → Reads after true text argument → Reads after false (backslashes (2 * n) ++ quote ∷ text) (backslashes n ++ argument)
  closes : (n : ℕ) (text argument : List ℕ) → StartsWithNoQuote text → Reads after false text argument → Reads after true (backslashes (2 * n) ++ quote ∷ text) (backslashes n ++ argument)
  doubled : (n : ℕ) (text argument : List ℕ) → Reads after true text argument → Reads after true (backslashes (2 * n) ++ quote ∷ quote ∷ text) (backslashes n ++ quote ∷ argument)

-- after blanks the line begins with this argument, and `rest` comes after it
pub record IsNext (line argument rest : List ℕ) : Type 0 where
  pub blanks : List ℕ
  pub text : List ℕ
  pub joined : line ≡ blanks ++ text
  pub are_blanks : AllByRecursion IsBlank blanks
  pub begins : Begins text
  pub reads : Reads rest false text argument

-- the line is these arguments
abbrev pub AreArguments : List ℕ → List (List ℕ) → Type 0
AreArguments line [] = AllByRecursion IsBlank line
AreArguments line (argument ∷ arguments) = (rest : List ℕ) × IsNext line argument rest × AreArguments rest arguments

-- The program's name, which comes first, is read otherwise: a quotation mark always opens or closes a part, and no backslash escapes anything.
pub data ReadsName (after : List ℕ) : Bool → List ℕ → List ℕ → Type 0 where
  name_ends : (inside : Bool) → Ends inside after → ReadsName after inside after []
  name_quote : (inside : Bool) (text name : List ℕ) → ReadsName after (not inside) text name → ReadsName after inside (quote ∷ text) name
  name_unit : (inside : Bool) (u : ℕ) (text name : List ℕ) → u ≢ quote → (inside ≡ false → ¬ (IsBlank u)) → ReadsName after inside text name → ReadsName after inside (u ∷ text) (u ∷ name)

-- the line is this program's name and these arguments
unfoldable pub IsCommandLine : List ℕ → List ℕ → List (List ℕ) → Type 0
IsCommandLine line name arguments = (rest : List ℕ) × ReadsName rest false line name × AreArguments rest arguments

-- whatever ends an argument, the text before it is read as this one
abbrev pub IsTextOf : List ℕ → List ℕ → Type 0
IsTextOf text argument = (after : List ℕ) → Ends false after → Begins (text ++ after) × Reads after false (text ++ after) argument

-- the argument isn't empty, and no blank and no quotation mark is in it
pub record IsPlain (argument : List ℕ) : Type 0 where
  pub some : argument ≢ []
  pub no_blank : AllByRecursion (λ u. ¬ (IsBlank u)) argument
  pub no_quote : AllByRecursion (λ u. u ≢ quote) argument
