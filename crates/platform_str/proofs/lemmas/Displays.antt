-- Texts that are filled.
use Rattle.platform_str.proofs.Common.{nat_tests, common_steps}
use Rattle.std.proofs.Common.{◌≡◌, ℕ, ◌+◌, ◌-◌, List, [], ◌∷◌, ◌++◌, length, cond, Option, Some, refl, sym, ap, ◌∙◌, arith}
use Rattle.std.specs.{Char.encode_utf8, List.repeat, Fmt.is_char_start, Fmt.char_count, List.FoldsTo, List.concat, declared.fmt.Alignment.Alignment}
use Rattle.platform_str.specs.{Display.fill_before, Display.filled, declared.writeable.Shortfall.Shortfall}

pub count_none : (text : List ℕ) → length text ≡ 0 → char_count text ≡ 0
unfolding char_count
count_none [] e = refl
count_none (x ∷ text) e = absurd (omega arith)

pub count_more : (x : ℕ) (text : List ℕ) → char_count (x ∷ text) ≡ cond (is_char_start x) 1 0 + char_count text
unfolding char_count
count_more x text = refl

pub count_append : (a b : List ℕ) → char_count (a ++ b) ≡ char_count a + char_count b
unfolding char_count
count_append [] b = omega arith
count_append (x ∷ a) b = ap (λ n. cond (is_char_start x) 1 0 + n) (count_append a b) ∙ omega arith

-- what is left up to a width after several writes
pub left_after : (before after : Shortfall) (parts : List (List ℕ)) → FoldsTo (λ b text a. a.left ≡ b.left - char_count text) before parts after → after.left ≡ before.left - char_count (concat parts)
unfolding char_count
left_after before after [] same = let e = ap (λ s. s.left) (sym same) in omega (arith, e)
left_after before after (text ∷ parts) steps =
    let next = left_after steps.0 after parts steps.2 in
    omega (arith, next, steps.1, count_append text (concat parts))

-- the text with so much padding
abbrev by_padding : ℕ → Option Alignment → List ℕ → ℕ → List ℕ
by_padding fill align text padding = repeat (fill_before align padding) (encode_utf8 fill) ++ (text ++ repeat (padding - fill_before align padding) (encode_utf8 fill))

-- what is written piece by piece, if a width is given
pub filled_by : (fill later : ℕ) (align : Option Alignment) (width : Option ℕ) (asked padding before : ℕ) (text : List ℕ) → later ≡ fill → width ≡ Some asked → padding ≡ asked - char_count text → before ≡ fill_before align padding
    → repeat before (encode_utf8 fill) ++ (text ++ repeat (padding - before) (encode_utf8 later)) ≡ filled fill align width text
filled_by fill later align width asked padding before text l w p b = grind (arith, nat_tests, common_steps)
