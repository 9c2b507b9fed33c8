-- Normal forms are their own normal forms, and components have at most one.
use Rattle.std.proofs.Common.{◌≡◌, ℕ, List, ◌∷◌, refl, ap}
use Rattle.path_rules.specs.Component.{Item, Normal}
use Rattle.path_building.specs.Normal.{LeadsTo, nowhere, prefix, bare_root, root, start, here, name, up}

after_name : {s t : List ℕ} {xs ys : List Item} → LeadsTo (Normal s ∷ xs) (Normal t ∷ ys) → LeadsTo xs ys
after_name (name h) = h

pub again : {xs ys : List Item} → LeadsTo xs ys → LeadsTo ys ys
again nowhere = nowhere
again prefix = prefix
again bare_root = bare_root
again root = root
again start = start
again (here h) = again h
again (name h) = name (again h)
again (up h) = after_name (again h)

pub one_form : {xs ys zs : List Item} → LeadsTo xs ys → LeadsTo xs zs → ys ≡ zs
one_form nowhere nowhere = refl
one_form prefix prefix = refl
one_form bare_root bare_root = refl
one_form root root = refl
one_form start start = refl
one_form start (here h) = elim h [ ]
one_form (here h) start = elim h [ ]
one_form (here h) (here k) = one_form h k
one_form (name {s} h) (name k) = ap (λ z. Normal s ∷ z) (one_form h k)
one_form (up h) (up k) = let same = one_form h k in cc
