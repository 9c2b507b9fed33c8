-- What `{}` writes of a string, and how it is filled to a width (like std's `Display` of an `OsStr` on Unix).
use Rattle.std.specs.Prelude.{ℕ, ◌-◌, ◌/◌, List, ◌++◌, Option, Some, None}
use Rattle.std.specs.{Option.unwrap_or, Char.encode_utf8, List.repeat, Fmt.char_count, declared.fmt.Alignment.Alignment, declared.fmt.Alignment.TheVariants.Left, declared.fmt.Alignment.TheVariants.Right, declared.fmt.Alignment.TheVariants.Center}
use Rattle.platform_str.specs.{declared.platform.Platform.Ghosts, declared.display.OsStrDisplay.OsStrDisplay, Strings.bytes}

module _ {E : Type 0} {P : Ghosts E} where
  -- the bytes of the string that is shown
  abbrev pub shown_bytes : OsStrDisplay E P → List ℕ
  shown_bytes shown = bytes shown.string

-- how much of the padding comes before the text: none if no alignment is given
abbrev pub fill_before : Option Alignment → ℕ → ℕ
fill_before None padding = 0
fill_before (Some Left) padding = 0
fill_before (Some Center) padding = padding / 2
fill_before (Some Right) padding = padding

-- the text, filled to a width with the fill character
abbrev pub filled : ℕ → Option Alignment → Option ℕ → List ℕ → List ℕ
filled fill align width text =
    let padding = unwrap_or width 0 - char_count text in
    let before = fill_before align padding in
    repeat before (encode_utf8 fill) ++ (text ++ repeat (padding - before) (encode_utf8 fill))
