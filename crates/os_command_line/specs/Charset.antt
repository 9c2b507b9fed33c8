-- Characters of a charset, each the list of its bytes, of charsets in which tab, newline, space, `"`, `$` and `'` are part of no longer character: UTF-8, GBK, GB18030, Big5, Shift-JIS, the EUCs and each charset of one byte.
use Rattle.std.specs.Prelude.{◌≡◌, ℕ, ◌<◌, ◌≤◌, nat_eq, Bool, false, ◌||◌, ◌&&◌, if◌then◌else◌, List, [], ◌∷◌, ◌++◌, map}
use Rattle.std.specs.List.{AllByRecursion}

-- a tab, a newline, a space, `"`, `$` or `'`
abbrev pub is_kept : ℕ → Bool
is_kept b = nat_eq b 0x09 || (nat_eq b 0x0A || (nat_eq b 0x20 || (nat_eq b 0x22 || (nat_eq b 0x24 || nat_eq b 0x27))))

-- these bytes may follow this one in a character: none of them is kept, and one below 80 (hexadecimal) follows one from 80 on
abbrev pub MayFollow : ℕ → List ℕ → Type 0
MayFollow before [] = Unit {0}
MayFollow before (b ∷ bs) = (is_kept b ≡ false) × (b < 0x80 → 0x80 ≤ before) × MayFollow b bs

-- a character of such a charset: any byte, or several, the first from 80 on
pub data IsCharacter : List ℕ → Type 0 where
  byte : (b : ℕ) → IsCharacter (b ∷ [])
  longer : (lead : ℕ) (bytes : List ℕ) → 0x80 ≤ lead → MayFollow lead bytes → IsCharacter (lead ∷ bytes)

-- the bytes of characters
abbrev pub joined : List (List ℕ) → List ℕ
joined [] = []
joined (c ∷ cs) = c ++ joined cs

-- the text is these characters
pub record AreCharacters (text : List ℕ) (cs : List (List ℕ)) : Type 0 where
  pub is_joined : joined cs ≡ text
  pub are_characters : AllByRecursion IsCharacter cs

-- a charset, which divides each text into such characters; a byte that begins none may be one alone
abbrev pub IsCharset : (List ℕ → List (List ℕ)) → Type 0
IsCharset characters = (text : List ℕ) → AreCharacters text (characters text)

-- each byte as a character
abbrev pub single_bytes : List ℕ → List (List ℕ)
single_bytes text = map (λ b. b ∷ []) text

-- whether the character is one byte that passes a test
abbrev pub is_one : (ℕ → Bool) → List ℕ → Bool
is_one test [] = false
is_one test (b ∷ []) = test b
is_one test (b ∷ c ∷ bytes) = false

-- whether the character is this byte
abbrev pub is_byte : ℕ → List ℕ → Bool
is_byte k c = is_one (λ b. nat_eq b k) c

-- the characters of a charset of one or two bytes, such as GBK, Big5 or Shift-JIS: a lead byte and a trail byte are one, any other byte is one alone
abbrev pub double_byte : (ℕ → Bool) → (ℕ → Bool) → List ℕ → List (List ℕ)
double_byte leads trails [] = []
double_byte leads trails (b ∷ []) = (b ∷ []) ∷ []
double_byte leads trails (b ∷ c ∷ bs) = if leads b && trails c then (b ∷ c ∷ []) ∷ double_byte leads trails bs else (b ∷ []) ∷ double_byte leads trails (c ∷ bs)
