-- Names that Windows keeps for itself ("Naming Files, Paths, and Namespaces"; CPython 3.13's `ntpath.isreserved`, of one name).
use Rattle.std.specs.Prelude.{◌≡◌, ◌≢◌, ◌⊎◌, ℕ, Bool, true, false, nat_eq, nat_lt, nat_le, ◌&&◌, ◌||◌, List, [], ◌∷◌, ◌++◌}
use Rattle.std.specs.List.{All, list_any}
use Rattle.path_rules.specs.Separators.{IsFieldBy}
use Rattle.path_rules.specs.Prefix.{upper}
use Rattle.path_rules.specs.Name.{dot_dot}

-- a control character, or one of `" * / : < > ? \ |`
abbrev pub is_reserved_byte : ℕ → Bool
is_reserved_byte b = nat_lt b 0x20 || nat_eq b 0x22 || nat_eq b 0x2A || nat_eq b 0x2F || nat_eq b 0x3A || nat_eq b 0x3C || nat_eq b 0x3E || nat_eq b 0x3F || nat_eq b 0x5C || nat_eq b 0x7C

-- the last byte is a dot or a space; `.` and `..` are no such names
abbrev pub is_dot_or_space : ℕ → Bool
is_dot_or_space b = nat_eq b 0x2E || nat_eq b 0x20

pub record EndsReserved (name : List ℕ) : Type 0 where
  pub before : List ℕ
  pub last : ℕ
  pub joined : name ≡ before ++ last ∷ []
  pub is : is_dot_or_space last ≡ true
  pub not_dot : name ≢ 0x2E ∷ []
  pub not_dot_dot : name ≢ dot_dot

-- letters in upper or lower case
abbrev pub is_word : ℕ → ℕ → ℕ → ℕ → ℕ → ℕ → Bool
is_word a b c x y z = nat_eq (upper a) x && nat_eq (upper b) y && nat_eq (upper c) z

-- CON, PRN, AUX, NUL
abbrev pub is_device_word : ℕ → ℕ → ℕ → Bool
is_device_word a b c = is_word a b c 0x43 0x4F 0x4E || is_word a b c 0x50 0x52 0x4E || is_word a b c 0x41 0x55 0x58 || is_word a b c 0x4E 0x55 0x4C

-- COM, LPT
abbrev pub is_port_word : ℕ → ℕ → ℕ → Bool
is_port_word a b c = is_word a b c 0x43 0x4F 0x4D || is_word a b c 0x4C 0x50 0x54

-- ¹, ², ³
abbrev pub is_superscript : ℕ → ℕ → Bool
is_superscript d e = nat_eq d 0xC2 && (nat_eq e 0xB9 || nat_eq e 0xB2 || nat_eq e 0xB3)

-- OUT$, or IN$ with a dotless i
abbrev pub is_out : ℕ → ℕ → ℕ → ℕ → Bool
is_out d e f g = is_word d e f 0x4F 0x55 0x54 && nat_eq g 0x24 || nat_eq d 0xC4 && nat_eq e 0xB1 && nat_eq (upper f) 0x4E && nat_eq g 0x24

-- a device: CON, PRN, AUX, NUL, CONIN$, CONOUT$, or COM or LPT with a digit from 1 to 9 or one of ¹ ² ³; CPython takes a dotless i for an I
abbrev pub is_device : List ℕ → Bool
is_device [] = false
is_device (a ∷ []) = false
is_device (a ∷ b ∷ []) = false
is_device (a ∷ b ∷ c ∷ []) = is_device_word a b c
is_device (a ∷ b ∷ c ∷ d ∷ []) = is_port_word a b c && nat_le 0x31 d && nat_le d 0x39
is_device (a ∷ b ∷ c ∷ d ∷ e ∷ []) = is_port_word a b c && is_superscript d e
is_device (a ∷ b ∷ c ∷ d ∷ e ∷ f ∷ []) = is_word a b c 0x43 0x4F 0x4E && is_word d e f 0x49 0x4E 0x24
is_device (a ∷ b ∷ c ∷ d ∷ e ∷ f ∷ g ∷ []) = is_word a b c 0x43 0x4F 0x4E && is_out d e f g
is_device (a ∷ b ∷ c ∷ d ∷ e ∷ f ∷ g ∷ h ∷ s) = false

-- the field without the spaces at its end
pub record IsTightBase (field base : List ℕ) : Type 0 where
  pub spaces : List ℕ
  pub joined : field ≡ base ++ spaces
  pub blank : All (λ b. b ≡ 0x20) spaces
  pub tight : (before : List ℕ) → base ≢ before ++ 0x20 ∷ []

-- what comes before the first dot, without the spaces at its end
pub record IsBase (name base : List ℕ) : Type 0 where
  pub field : List ℕ
  pub rest : List ℕ
  pub first : IsFieldBy (λ b. nat_eq b 0x2E) name field rest
  pub is : IsTightBase field base

abbrev pub HasDeviceBase : List ℕ → Type 0
HasDeviceBase name = (base : List ℕ) × (IsBase name base × (is_device base ≡ true))

-- the name is reserved
abbrev pub IsReserved : List ℕ → Type 0
IsReserved name = EndsReserved name ⊎ ((list_any is_reserved_byte name ≡ true) ⊎ HasDeviceBase name)
