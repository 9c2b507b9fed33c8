-- A path from components (std's `PathBuf: FromIterator`): each is pushed in turn.
use Rattle.std.specs.Prelude.{◌≡◌, ℕ, List, [], ◌∷◌}
use Rattle.path_rules.specs.declared.rules.Style.{Style}
use Rattle.path_rules.specs.StyleRules.{main_separator}
use Rattle.path_rules.specs.Component.{Item, Prefix, RootDir, CurDir, ParentDir, Normal}
use Rattle.path_building.specs.Join.{IsJoin}

-- the bytes of a component: a root is the separator that is written, a prefix is as it is written
abbrev pub string_of : Style → Item → List ℕ
string_of w (Prefix s) = s
string_of w RootDir = main_separator w ∷ []
string_of w CurDir = 0x2E ∷ []
string_of w ParentDir = 0x2E ∷ 0x2E ∷ []
string_of w (Normal s) = s

-- the first is joined to the path, and each further one to what comes of that
abbrev pub ArePushed : Style → List ℕ → List Item → List ℕ → Type 0
ArePushed w path [] made = made ≡ path
ArePushed w path (x ∷ xs) made = (next : List ℕ) × (IsJoin w path (string_of w x) next × ArePushed w next xs made)
