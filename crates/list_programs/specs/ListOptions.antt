-- How a list is written: names ended by NUL, as `find -print0` and `xargs -0` have them, or lines, each ended by a newline (POSIX, "Definitions", Line).
use Rattle.std.specs.Prelude.{◌≡◌, ℕ, List}
use Rattle.list_programs.specs.Arguments.{HasOption}
use Rattle.list_programs.specs.declared.arguments.Given.{Given}
use Rattle.list_programs.specs.declared.options.ItemEnd.{ItemEnd}
use Rattle.list_programs.specs.declared.options.ItemEnd.TheVariants.{Nul, Newline}
use Rattle.list_programs.specs.declared.options.LastItem.{LastItem}
use Rattle.list_programs.specs.declared.options.LastItem.TheVariants.{MustEnd, MayLackEnd}
use Rattle.list_programs.specs.declared.options.ListOptions.{ListOptions}

-- the byte that ends an item
abbrev pub byte_of : ItemEnd → ℕ
byte_of Nul = 0
byte_of Newline = 0x0A

-- the last item may lack it
abbrev pub MayLack : LastItem → Type 0
MayLack MustEnd = ⊥
MayLack MayLackEnd = Unit {0}

module _ {O : Type 0} where
  -- a newline ends each item if the option for lines is given, and otherwise NUL
  abbrev pub IsEnd : O → List (Given O) → ItemEnd → Type 0
  IsEnd lines given Nul = ¬ (HasOption lines given)
  IsEnd lines given Newline = HasOption lines given

  -- the last item may lack its end exactly if the option for that is given
  abbrev pub IsLast : O → List (Given O) → LastItem → Type 0
  IsLast unterminated given MustEnd = ¬ (HasOption unterminated given)
  IsLast unterminated given MayLackEnd = HasOption unterminated given

  -- these are stated, with this limit, by options and operands, where these are the options for lines and for a last item without its end
  pub record AreStated (lines unterminated : O) (max : ℕ) (given : List (Given O)) (options : ListOptions) : Type 0 where
    pub end : IsEnd lines given options.end
    pub last : IsLast unterminated given options.last
    pub limit : options.max ≡ max
