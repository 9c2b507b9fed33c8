-- Tags of lines: a line is matched only with paths that have its tag. Only private contracts name this.
use Rattle.std.specs.Prelude.{◌≡◌, ◌<◌, ◌≤◌, ◌+◌, ◌*◌, ◌%◌, ℕ, Bool, true, map, List, [], ◌∷◌, length, slice_index}
use Rattle.std.specs.List.{HoldsAt}
use Rattle.std.specs.Char.{to_ascii_lowercase}
use Rattle.wildcards.specs.declared.part.Part.{Part}
use Rattle.wildcards.specs.declared.piece.Piece.{Piece}
use Rattle.os_ignore.specs.declared.line.Line.{Line}
use Rattle.os_ignore.specs.Components.{IsPlain, IsCut, IsLastComponent}
use Rattle.os_ignore.specs.Matching.{IsTarget, MatchesText, LineMatches}

-- a byte for bytes that follow others with this one
abbrev pub tag_after : ℕ → List ℕ → ℕ
tag_after tag [] = tag
tag_after tag (b ∷ bs) = tag_after ((tag * 31 % 256 + b) % 256) bs

-- a byte for a text, the same for a capital letter of ASCII as for its small one
abbrev pub tag_of : List ℕ → ℕ
tag_of text = tag_after 0 (map to_ascii_lowercase text)

-- the path has the tag: 0, or that of its last component, of what follows that one's last dot, or of its first component
pub data HasTag (path : List ℕ) (tag : ℕ) : Type 0 where
  any : tag ≡ 0 → HasTag path tag
  last : (name : List ℕ) → IsLastComponent path name → tag ≡ tag_of name → HasTag path tag
  dot : (front back : List ℕ) → IsCut 0x2E path front back → IsPlain 0x2E back → IsPlain 0x2F back → tag ≡ tag_of back → HasTag path tag
  first : (front back : List ℕ) → IsCut 0x2F path front back → IsPlain 0x2F front → tag ≡ tag_of front → HasTag path tag

-- the tag of what follows the component's last dot, if it has one
abbrev pub IsDotTag : List ℕ → ℕ → Type 0
IsDotTag name tag = (front back : List ℕ) → IsCut 0x2E name front back → IsPlain 0x2E back → tag ≡ tag_of back

-- the tag of the path's first component, if it has more than one
abbrev pub IsFirstTag : List ℕ → ℕ → Type 0
IsFirstTag path tag = (front back : List ℕ) → IsCut 0x2F path front back → IsPlain 0x2F front → tag ≡ tag_of front

-- the text has no slash, and this follows its last dot
pub record IsExtension (text extension : List ℕ) : Type 0 where
  pub front : List ℕ
  pub cut : IsCut 0x2E text front extension
  pub no_dot : IsPlain 0x2E extension
  pub no_slash : IsPlain 0x2F text

module _ {A : Type 0} where
  -- a line with this literal and pattern matches no path that lacks the tag
  abbrev pub IsTagOf : Bool → Bool → List ℕ → List (Piece (Part A)) → ℕ → Type 0
  IsTagOf folds anchored literal pattern tag = (path target : List ℕ) → IsTarget anchored path target → MatchesText folds literal pattern target → (HasTag path tag → ⊥) → ⊥

  -- the line matches none
  abbrev pub IsTag : Line A → ℕ → Type 0
  IsTag line tag = IsTagOf line.folds line.anchored line.literal.items line.pattern.items tag

  -- the tags are those of the lines
  abbrev pub AreTags : List (Line A) → List ℕ → Type 0
  AreTags lines tags = (k : ℕ) → k < length lines → HoldsAt (λ line. IsTag line (slice_index tags k)) lines k

  -- no line from `low` on whose tag passes the test matches the path
  abbrev pub NoneTagged : (ℕ → Bool) → List ℕ → Bool → List (Line A) → List ℕ → ℕ → Type 0
  NoneTagged test path is_dir lines tags low = (k : ℕ) → low ≤ k → k < length lines → test (slice_index tags k) ≡ true → HoldsAt (λ line. LineMatches line path is_dir → ⊥) lines k

  -- the line at this index, from `low` on, is the last whose tag passes the test and that matches the path
  pub record IsLastTagged (test : ℕ → Bool) (path : List ℕ) (is_dir : Bool) (lines : List (Line A)) (tags : List ℕ) (low at : ℕ) : Type 0 where
    pub from : low ≤ at
    pub within : at < length lines
    pub matches : HoldsAt (λ line. LineMatches line path is_dir) lines at
    pub none_after : NoneTagged test path is_dir lines tags (at + 1)
