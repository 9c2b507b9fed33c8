-- The order of bytes is that of the code points that they encode.
use Rattle.wtf8_core.proofs.Common.{◌≡◌, ⊎_elim, ℕ, ◌<◌, List, [], ◌∷◌, ◌++◌, refl, sym, ap, ◌∙◌, arith, slice_cmp, nat_list_cmp_total, flat_map, cases_order, nat_tests, encode, Encodes}
use Rattle.std.specs.{Ordering.nat_cmp, Ordering.ordering_then, Ordering.ordering_reverse, Cmp.nat_cmp_is, declared.cmp.Ordering.Ordering, declared.cmp.Ordering.TheVariants.Less, declared.cmp.Ordering.TheVariants.Equal, declared.cmp.Ordering.TheVariants.Greater}

-- the lexicographic order
abbrev Cmp : List ℕ → List ℕ → Ordering
Cmp = slice_cmp nat_cmp

-- a smaller number is less, and equal ones are equal
cmp_less : (x y : ℕ) → x < y → nat_cmp x y ≡ Less
cmp_less x y h = sym (nat_cmp_is x y Less h)

cmp_equal : (x y : ℕ) → x ≡ y → nat_cmp x y ≡ Equal
cmp_equal x y h = sym (nat_cmp_is x y Equal h)

-- the form of a smaller code point is less, whatever comes after it
form_less : (c d : ℕ) (xs ys : List ℕ) → c < d → Cmp (encode c ++ xs) (encode d ++ ys) ≡ Less
unfolding encode
form_less c d xs ys h = grind (arith, nat_tests, cmp_less, cmp_equal)

-- no form is empty
empty_less : (d : ℕ) (ys : List ℕ) → Cmp [] (encode d ++ ys) ≡ Less
unfolding encode
empty_less d ys = grind (arith, nat_tests)

-- after equal prefixes the rest decides
same_prefix : (zs xs ys : List ℕ) → Cmp (zs ++ xs) (zs ++ ys) ≡ Cmp xs ys
same_prefix [] xs ys = refl
same_prefix (z ∷ zs) xs ys = ap (λ o. ordering_then o (Cmp (zs ++ xs) (zs ++ ys))) (cmp_equal z z refl) ∙ same_prefix zs xs ys

reversed : (xs ys : List ℕ) → Cmp ys xs ≡ Less → Cmp xs ys ≡ Greater
reversed xs ys e = nat_list_cmp_total.antisymm xs ys ∙ ap ordering_reverse e

-- forms are in the order of their code points
order_of_forms : (cs ds : List ℕ) → Cmp (flat_map encode cs) (flat_map encode ds) ≡ Cmp cs ds
order_of_forms [] [] = refl
order_of_forms [] (d ∷ ds) = empty_less d (flat_map encode ds)
order_of_forms (c ∷ cs) [] = reversed (encode c ++ flat_map encode cs) [] (empty_less c (flat_map encode cs))
order_of_forms (c ∷ cs) (d ∷ ds) =
    let x = flat_map encode cs in
    let y = flat_map encode ds in
    let first = λ (o : Ordering). ordering_then o (Cmp cs ds) in
    ⊎_elim
    (λ e. ap (λ n. Cmp (encode c ++ x) (encode n ++ y)) (sym e) ∙ same_prefix (encode c) x y ∙ order_of_forms cs ds ∙ sym (ap first (cmp_equal c d e)))
    (⊎_elim (λ h. form_less c d x y h ∙ sym (ap first (cmp_less c d h))) (λ h. reversed (encode c ++ x) (encode d ++ y) (form_less d c y x h) ∙ ap first (nat_cmp_is c d Greater h)))
    (cases_order c d)

-- and so are the bytes that encode them
pub order_of_encoded : (b a cs ds : List ℕ) → Encodes b cs → Encodes a ds → Cmp b a ≡ Cmp cs ds
order_of_encoded b a cs ds s t = ap (λ x. Cmp x a) s.joined ∙ ap (Cmp (flat_map encode cs)) t.joined ∙ order_of_forms cs ds
