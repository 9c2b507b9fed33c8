-- Which paths a line matches (gitignore, "PATTERN FORMAT").
use Rattle.std.specs.Prelude.{◌≡◌, ◌<◌, ◌||◌, ℕ, Bool, true, false, map, length, List, ◌++◌}
use Rattle.std.specs.Char.{to_ascii_lowercase}
use Rattle.wildcards.specs.declared.options.Options.{Options}
use Rattle.wildcards.specs.declared.part.Part.{Part}
use Rattle.wildcards.specs.declared.piece.Piece.{Piece}
use Rattle.wildcards.specs.declared.separators.Separators.TheVariants.{Slash}
use Rattle.wildcards.specs.Match.{Matches}
use Rattle.os_ignore.specs.declared.line.Line.{Line}
use Rattle.os_ignore.specs.Components.{IsLastComponent}

-- what an anchored line matches is the whole path, and another one the last component
abbrev pub IsTarget : Bool → List ℕ → List ℕ → Type 0
IsTarget true path target = target ≡ path
IsTarget false path target = IsLastComponent path target

-- slashes alone separate components, and a dot at the start of one is matched as any byte
abbrev pub by_slashes : Options
by_slashes = record { separators = Slash; literal_leading_dot = false }

-- the text begins with the literal, without regard to case if the file folds, and this is the rest
abbrev pub IsAfter : Bool → List ℕ → List ℕ → List ℕ → Type 0
IsAfter false literal text rest = text ≡ literal ++ rest
IsAfter true literal text rest = (front : List ℕ) × (text ≡ front ++ rest) × (map to_ascii_lowercase front ≡ literal)

module _ {A : Type 0} where
  -- the text is a literal start, and a rest that the pattern matches
  pub record MatchesText (folds : Bool) (literal : List ℕ) (pattern : List (Piece (Part A))) (text : List ℕ) : Type 0 where
    pub rest : List ℕ
    pub joined : IsAfter folds literal text rest
    pub matches : Matches by_slashes pattern rest

  -- the line matches the path, which may be a directory. A line with a slash, at its end or elsewhere, doesn't match the empty path, which is the directory of its file: git's dir.c requires a path that is longer (match_pathname), and takes the top for no directory (resolve_dtype)
  pub record LineMatches (line : Line A) (path : List ℕ) (is_dir : Bool) : Type 0 where
    pub below : (line.anchored || line.directories) ≡ true → 0 < length path
    pub directories : line.directories ≡ true → is_dir ≡ true
    pub target : List ℕ
    pub target_is : IsTarget line.anchored path target
    pub matches : MatchesText line.folds line.literal.items line.pattern.items target
