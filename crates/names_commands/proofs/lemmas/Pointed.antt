-- The pattern that is at fault is one of the patterns.
use Rattle.std.proofs.Common.{◌≡◌, ◌<◌, ℕ, List, ◌∷◌, ◌++◌, map, length, get_or, sym, ap, ◌∙◌, arith}
use Rattle.std.proofs.lemmas.List.{length-append, length-map, get_or-map, get_or_at}

-- there are more texts than come before one
pub is_within : {X Y : Type 0} (f : X → Y) (xs : List X) (before : List Y) (y : Y) (after : List Y) (index : ℕ) → map f xs ≡ before ++ y ∷ after → index ≡ length before → index < length xs
is_within f xs before y after index e i =
    let all = sym (length-map xs f) ∙ ap length e ∙ length-append before (y ∷ after) in
    omega (arith, all, i)

-- the text at the index is the one that so many come before
pub is_at : {X Y : Type 0} (f : X → Y) (xs : List X) (before : List Y) (y : Y) (after : List Y) (index : ℕ) (x : X) → map f xs ≡ before ++ y ∷ after → index ≡ length before → x ≡ get_or xs index x → f x ≡ y
is_at f xs before y after index x e i at =
    ap f at
    ∙ sym (get_or-map f xs index x y (is_within f xs before y after index e i))
    ∙ ap (λ texts. get_or texts index y) e
    ∙ get_or_at before y after y index (sym i)
