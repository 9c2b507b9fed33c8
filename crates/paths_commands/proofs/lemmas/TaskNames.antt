-- Names of tasks: different names are different words.
use Rattle.std.proofs.Common.{◌≡◌, ◌∙◌, ℕ, ◌+◌, List, get_or, refl, sym, ap, arith}
use Rattle.paths_commands.specs.Task.{name_word}
use Rattle.paths_commands.specs.declared.command.Name.{Name as DeclaredName}
use Rattle.paths_commands.specs.declared.command.Name.TheVariants.{Components, Common, Parent, Name, Stem, Extension, WithExtension, Normalize, Clean, StartsWith, Join, Relative, Absolute, Convert}

-- the sum of the first letter, the fourth and the sixth
abbrev sum_of : List ℕ → ℕ
sum_of word = get_or word 0 0 + get_or word 3 0 + get_or word 5 0

abbrev letters : DeclaredName → ℕ
letters Components = 321
letters Common = 318
letters Parent = 329
letters Name = 211
letters Stem = 224
letters Extension = 317
letters WithExtension = 324
letters Normalize = 327
letters Clean = 196
letters StartsWith = 344
letters Join = 216
letters Relative = 316
letters Absolute = 325
letters Convert = 331

letters_are : (name : DeclaredName) → letters name ≡ sum_of (name_word name)
letters_are Components = refl
letters_are Common = refl
letters_are Parent = refl
letters_are Name = refl
letters_are Stem = refl
letters_are Extension = refl
letters_are WithExtension = refl
letters_are Normalize = refl
letters_are Clean = refl
letters_are StartsWith = refl
letters_are Join = refl
letters_are Relative = refl
letters_are Absolute = refl
letters_are Convert = refl

same_letters : (name other : DeclaredName) → name_word name ≡ name_word other → letters name ≡ letters other
same_letters name other e = letters_are name ∙ ap sum_of e ∙ sym (letters_are other)

pub same_name : (name other : DeclaredName) → name_word name ≡ name_word other → name ≡ other
same_name Components Components e = refl
same_name Common Common e = refl
same_name Parent Parent e = refl
same_name Name Name e = refl
same_name Stem Stem e = refl
same_name Extension Extension e = refl
same_name WithExtension WithExtension e = refl
same_name Normalize Normalize e = refl
same_name Clean Clean e = refl
same_name StartsWith StartsWith e = refl
same_name Join Join e = refl
same_name Relative Relative e = refl
same_name Absolute Absolute e = refl
same_name Convert Convert e = refl
same_name Components other e = let sums = same_letters Components other e in absurd (omega arith)
same_name Common other e = let sums = same_letters Common other e in absurd (omega arith)
same_name Parent other e = let sums = same_letters Parent other e in absurd (omega arith)
same_name Name other e = let sums = same_letters Name other e in absurd (omega arith)
same_name Stem other e = let sums = same_letters Stem other e in absurd (omega arith)
same_name Extension other e = let sums = same_letters Extension other e in absurd (omega arith)
same_name WithExtension other e = let sums = same_letters WithExtension other e in absurd (omega arith)
same_name Normalize other e = let sums = same_letters Normalize other e in absurd (omega arith)
same_name Clean other e = let sums = same_letters Clean other e in absurd (omega arith)
same_name StartsWith other e = let sums = same_letters StartsWith other e in absurd (omega arith)
same_name Join other e = let sums = same_letters Join other e in absurd (omega arith)
same_name Relative other e = let sums = same_letters Relative other e in absurd (omega arith)
same_name Absolute other e = let sums = same_letters Absolute other e in absurd (omega arith)
same_name Convert other e = let sums = same_letters Convert other e in absurd (omega arith)
