-- What the exports for paths return: parts of a path, by their indices.
use Rattle.std.specs.Prelude.{◌≡◌, ◌⊎◌, ◌≤◌, ℕ, zero, suc, List, length, drop}
use Rattle.path_rules.specs.declared.rules.Style.{Style}
use Rattle.path_rules.specs.declared.rules.Style.TheVariants.{Unix, Windows}
use Rattle.path_rules.specs.Parent.{IsParent, HasNoParent}
use Rattle.path_rules.specs.Prefix.{Kind, IsPrefixOf, IsPrefixed}
use Rattle.path_rules.specs.Name.{IsStem, IsExtension, HasNoExtension}
use Rattle.osbytes_c.specs.declared.paths.part_list.Part.{Part}
use Rattle.osbytes_c.specs.declared.span.Span.{Span}
use Rattle.osbytes_c.specs.declared.paths.spans.Sought.{Sought}
use Rattle.osbytes_c.specs.declared.paths.spans.Sought.TheVariants.{Parent, Prefix, FileName, Stem, Extension}
use Rattle.osbytes_c.specs.PathParts.{AreParts, IsLastName, HasNoLastName}
use Rattle.osbytes_c.specs.Steps.{part}
use Rattle.osbytes_c.specs.PartBuffers.{PartsTruncated}

-- whose paths those of the platform with this number are: 1 Windows, and the others Unix
abbrev pub style_on : ℕ → Style
style_on (suc zero) = Windows
style_on platform = Unix

-- the components are written into the array, truncated to the array's length, and the number is how many there are
abbrev pub WritesParts : Style → List ℕ → List Part → List Part → ℕ → Type 0
WritesParts style path old new count = (parts : List Part) × (AreParts style path parts × PartsTruncated parts old new count)

-- the span is in the path
abbrev pub IsWithin : List ℕ → Span → Type 0
IsWithin path span = (span.start ≤ span.end) × (span.end ≤ length path)

-- the parent of the path, from its start on
abbrev pub IsParentSpan : Style → List ℕ → Span → Type 0
IsParentSpan style path span = (span.start ≡ 0) × IsParent style path (part path span.start span.end)

-- the prefix of the path, from its start on
pub record IsPrefixSpan (style : Style) (path : List ℕ) (span : Span) : Type 0 where
  pub windows : style ≡ Windows
  pub start : span.start ≡ 0
  pub kind : Kind
  pub is : IsPrefixOf path kind (drop span.end path)

-- the last component, which is a name
abbrev pub IsNameSpan : Style → List ℕ → Span → Type 0
IsNameSpan style path span = IsLastName style path (record { kind = 5; start = span.start; end = span.end })

-- the stem of that name, from its start on
pub record IsStemSpan (style : Style) (path : List ℕ) (span : Span) : Type 0 where
  pub name : Span
  pub is_name : IsNameSpan style path name
  pub start : span.start ≡ name.start
  pub stem : IsStem (part path name.start name.end) (part path span.start span.end)

-- the extension of that name, up to its end
pub record IsExtensionSpan (style : Style) (path : List ℕ) (span : Span) : Type 0 where
  pub name : Span
  pub is_name : IsNameSpan style path name
  pub end : span.end ≡ name.end
  pub stem : List ℕ
  pub extension : IsExtension (part path name.start name.end) stem (part path span.start span.end)

-- there is no such name, or it has no extension
abbrev pub HasNoExtensionSpan : Style → List ℕ → Type 0
HasNoExtensionSpan style path =
    HasNoLastName style path ⊎ ((name : Span) × (IsNameSpan style path name × HasNoExtension (part path name.start name.end)))

-- the span is this part of the path
abbrev pub IsPartSpan : Sought → Style → List ℕ → Span → Type 0
IsPartSpan Parent style path span = IsParentSpan style path span
IsPartSpan Prefix style path span = IsPrefixSpan style path span
IsPartSpan FileName style path span = IsNameSpan style path span
IsPartSpan Stem style path span = IsStemSpan style path span
IsPartSpan Extension style path span = IsExtensionSpan style path span

-- the path has no such part
abbrev pub HasNoPart : Sought → Style → List ℕ → Type 0
HasNoPart Parent style path = HasNoParent style path
HasNoPart Prefix style path = ¬ (IsPrefixed style path)
HasNoPart FileName style path = HasNoLastName style path
HasNoPart Stem style path = HasNoLastName style path
HasNoPart Extension style path = HasNoExtensionSpan style path
