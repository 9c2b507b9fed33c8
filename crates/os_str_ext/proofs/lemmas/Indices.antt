-- Boundaries and whole characters, as the tests of them find them.
use Rattle.os_str_ext.proofs.Common.{◌≡◌, ℕ, ◌+◌, ◌-◌, ◌<◌, true, false, List, ◌++◌, length, take, drop, get_or, Option, Some, None, inr, refl, sym, ap, ◌∙◌, subst, arith, ⊎_elim, false≢true, is_some, WholeCharacter, IsBoundary, IsFirstChar, form_ascii, whole_at}
use Rattle.std.proofs.lemmas.List.{drop_more}
use Rattle.wtf8_core.specs.Character.{IsCharacterAt}
use Rattle.wtf8_core.proofs.Common.{encode_ascii, low_scalar}
use Rattle.os_str_ext.specs.Characters.{IsCharacterBefore}

pub none_from_test : (s : List ℕ) (i : ℕ) (r : Option ℕ) → is_some r ≡ false → IsCharacterAt s i r → (j : ℕ) → WholeCharacter s i j → ⊥
none_from_test s i None e h = h
none_from_test s i (Some n) e h = absurd (false≢true (sym e))

-- an index inside a string at which no character starts is a boundary exactly if one ends there
pub boundary_by_end : (s : List ℕ) (i : ℕ) (r : Option ℕ) → IsCharacterBefore s i r → is_some r ≡ true → IsBoundary s i
boundary_by_end s i None h e = absurd (false≢true e)
boundary_by_end s i (Some n) h e = record { is = inr (inr (inr (i - n, h.1))) }

pub end_by_boundary : (s : List ℕ) (i : ℕ) (r : Option ℕ) → IsCharacterBefore s i r → 0 < i → i < length s → ((j : ℕ) → WholeCharacter s i j → ⊥) → IsBoundary s i → is_some r ≡ true
end_by_boundary s i None h low high starts b =
    ⊎_elim (λ e. absurd (omega arith)) (⊎_elim (λ e. absurd (omega arith)) (⊎_elim (λ w. absurd (starts w.0 w.1)) (λ w. absurd (h w.0 w.1)))) b.is
end_by_boundary s i (Some n) h low high starts b = refl

-- an ASCII byte is a whole character, so that the indices before and after it are boundaries
pub ascii_at : (s : List ℕ) (i : ℕ) → i < length s → get_or s i 0 < 0x80 → WholeCharacter s i (i + 1)
ascii_at s i h low =
    let b = get_or s i 0 in
    let f = form_ascii b low in
    subst (λ x. WholeCharacter s i (i + length x)) f (whole_at s i b (drop (i + 1) s) (omega (arith, h)) (low_scalar b (omega (arith, low))) (drop_more s i 0 h ∙ ap (λ x. x ++ drop (i + 1) s) (sym f)))

pub ascii_first : (s : List ℕ) → 0 < length s → get_or s 0 0 < 0x80 → IsFirstChar s (get_or s 0 0) 1
ascii_first s some low = (ascii_at s 0 some low, ap (take 1) (drop_more s 0 0 some) ∙ sym (encode_ascii (get_or s 0 0) low))
