-- Names of platforms: different platforms have different words.
use Rattle.std.proofs.Common.{◌≡◌, ◌∙◌, ℕ, get_or, refl, sym, ap, arith}
use Rattle.program_frame.specs.Os.{os_word}
use Rattle.program_frame.specs.declared.os.Os.{Os}
use Rattle.program_frame.specs.declared.os.Os.TheVariants.{Unix, Windows, Wasm}

-- the second letter
abbrev letter : Os → ℕ
letter Unix = 0x6E
letter Windows = 0x69
letter Wasm = 0x61

letter_is : (os : Os) → letter os ≡ get_or (os_word os) 1 0
letter_is Unix = refl
letter_is Windows = refl
letter_is Wasm = refl

same_letter : (os other : Os) → letter os ≡ letter other → os ≡ other
same_letter Unix Unix e = refl
same_letter Unix Windows e = absurd (omega (arith, e))
same_letter Unix Wasm e = absurd (omega (arith, e))
same_letter Windows Unix e = absurd (omega (arith, e))
same_letter Windows Windows e = refl
same_letter Windows Wasm e = absurd (omega (arith, e))
same_letter Wasm Unix e = absurd (omega (arith, e))
same_letter Wasm Windows e = absurd (omega (arith, e))
same_letter Wasm Wasm e = refl

pub same_os : (os other : Os) → os_word os ≡ os_word other → os ≡ other
same_os os other e = same_letter os other (letter_is os ∙ ap (λ w. get_or w 1 0) e ∙ sym (letter_is other))
