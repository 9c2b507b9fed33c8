-- The first letter of a string: a character, or a unit where no character is first.
use Rattle.std.proofs.Common.{◌≡◌, ℕ, ◌+◌, ◌<◌, List, ◌∷◌, ◌++◌, length, take, drop, sym, ap, ◌∙◌, subst, arith, length-drop, take-append-drop}
use Rattle.wtf8_core.specs.Boundary.{IsBoundary}
use Rattle.wtf8_core.specs.Character.{WholeCharacter}
use Rattle.wtf8_core.specs.OccurrenceLaws.{OccurrenceLaws}
use Rattle.platform_str.specs.Laws.{IsFirstUnit}
use Rattle.os_str_ext.specs.Symbols.{symbols_of, unit_symbol}
use Rattle.std.proofs.Common.{inr, map}
use Rattle.std.proofs.lemmas.List.{take_at}
use Rattle.std.specs.Char.{IsScalar, encode_utf8}
use Rattle.wtf8_core.specs.CodePoint.{encode}
use Rattle.wtf8_core.proofs.lemmas.characters.AtIndices.{character_fits, begins_at}
use Rattle.os_str_ext.specs.Characters.{IsOneCharacter}
use Rattle.glob_patterns.specs.Letters.{letters_of, symbol_letter}
use Rattle.wildcards.specs.Reading.{IsFirstLetter}
use Rattle.wtf8_core.proofs.lemmas.occurrence.Indices.{no_units}
use Rattle.os_str_ext.proofs.lemmas.SymbolSteps.{symbols_by_character}

module _ (well_formed : List ℕ → Type 0) (units : List ℕ → List ℕ) (occurrence : OccurrenceLaws well_formed units)
    (cut_suffix : (b : List ℕ) (i : ℕ) → well_formed b → IsBoundary b i → well_formed (drop i b)) where
  -- the first letter of a string that begins with a character
  pub character_first : (s rest : List ℕ) (n c : ℕ) → well_formed s → WholeCharacter s 0 n → IsScalar c → take n s ≡ encode_utf8 c → rest ≡ drop n s → IsFirstLetter well_formed (letters_of units) s c rest
  character_first s rest n c formed whole scalar is e =
      let fits = character_fits s 0 n whole in
      let joined : s ≡ encode_utf8 c ++ drop n s = sym (take-append-drop n s) ∙ ap (λ z. z ++ drop n s) is in
      subst (IsFirstLetter well_formed (letters_of units) s c) (sym e) (record {
        letters_are = ap (map symbol_letter) (symbols_by_character s (drop n s) c scalar joined units (no_units well_formed units occurrence));
        formed_after = cut_suffix s n formed (record { is = inr (inr (inr (0, whole))) });
        shorter = omega (arith, fits, length-drop n s);
      })

  -- of one that begins with none
  pub unit_first : (s rest : List ℕ) (u n : ℕ) → 0 < length s → symbols_of units s ≡ unit_symbol u ∷ symbols_of units (drop n s) → IsFirstUnit well_formed units s u n → rest ≡ drop n s → IsFirstLetter well_formed (letters_of units) s (0x11_0000 + u) rest
  unit_first s rest u n some symbols first e =
      subst (IsFirstLetter well_formed (letters_of units) s (0x11_0000 + u)) (sym e) (record {
        letters_are = ap (map symbol_letter) symbols;
        formed_after = first.after;
        shorter = let a = first.some in let b = first.within in omega (arith, length-drop n s);
      })

-- a whole character is the form of one
pub is_one : (s : List ℕ) (n : ℕ) → WholeCharacter s 0 (0 + n) → IsOneCharacter (take n s)
is_one s n w =
    let size : length (encode w.char) ≡ n = let e = w.end in omega arith in
    record {
      char = w.char;
      scalar = w.scalar;
      is = ap (take n) (begins_at s 0 (0 + n) w) ∙ take_at (encode w.char) w.occurs.after n size;
    }
