use Rattle.std.proofs.Common.{◌≡◌, ◌<◌, [], ◌∷◌, drop, get_or, subst, sym, ap, ◌∙◌, arith}
use Rattle.std.proofs.Math.Utf8.{low_scalar}
use Rattle.std.proofs.lemmas.Bool.Decides.{nat_tests}
use Rattle.std.proofs.lemmas.List.{drop_all, drop_more}
use Rattle.std.proofs.lemmas.Str.{IsUtf8-encode, encode_ascii}
use Rattle.std.specs.Str.{IsUtf8}
use Rattle.osbytes_c.proofs.strings.is_ascii_byte.Goals as goal

pub returns-in-len1 : goal.returns-in-len1
returns-in-len1 c = λ is.
    let s = c.args.bytes.now in
    let b = get_or s 0 0 in
    let ascii : b < 128 = grind (arith, nat_tests, is) in
    let none : drop 1 s ≡ [] = drop_all 1 s (omega (arith, c.in-len1.len_below)) in
    let only : s ≡ b ∷ [] = drop_more s 0 0 (omega (arith, c.in-len1.len_at_least)) ∙ ap (λ rest. b ∷ rest) none in
    subst IsUtf8 (encode_ascii b ascii ∙ sym only) (IsUtf8-encode b (low_scalar b (omega (arith, ascii))))
