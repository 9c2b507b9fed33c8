-- What is left of components, read one by one, is their normal form or their clean form.
use Rattle.std.proofs.Common.{◌≡◌, ℕ, Bool, true, false, List, [], ◌∷◌, ◌++◌, Some, None, reverse, refl, sym, ap, ◌∙◌, subst, append_assoc, append-nil}
use Rattle.std.proofs.lemmas.List.{reverse-reverse}
use Rattle.path_rules.specs.declared.rules.Rules.{Rules}
use Rattle.path_rules.specs.Component.{Item, Prefix, RootDir, CurDir, ParentDir, Normal, dot}
use Rattle.path_building.specs.Normal.{AreNames, LeadsTo, nowhere, prefix, bare_root, root, start, here, name, up}
use Rattle.path_building.specs.Cleaned as clean
use Rattle.path_building.specs.Cleaned.{CleansTo, StaysAfter}
use Rattle.path_building.specs.Spelled.{resolve, go_up, cleaned, IsSpelled, AreSpelled}
use Rattle.path_building.proofs.lemmas.Normals.{one_form}

-- a list in reverse before another
abbrev pub onto : List Item → List Item → List Item
onto [] d = d
onto (x ∷ xs) d = onto xs (x ∷ d)

pub onto_is : (xs d : List Item) → onto xs d ≡ reverse xs ++ d
onto_is [] d = refl
onto_is (x ∷ xs) d = onto_is xs (x ∷ d) ∙ sym (append_assoc (reverse xs) (x ∷ []) d) ∙ ap (λ z. z ++ d) (sym (onto_is xs (x ∷ [])))

-- the first is no name
abbrev pub IsTopForm : List Item → Type 0
IsTopForm [] = Unit {0}
IsTopForm (Prefix s ∷ xs) = Unit {0}
IsTopForm (RootDir ∷ xs) = Unit {0}
IsTopForm (CurDir ∷ xs) = Unit {0}
IsTopForm (ParentDir ∷ xs) = Unit {0}
IsTopForm (Normal s ∷ xs) = ⊥

IsSome : List Item → Type 0
IsSome [] = ⊥
IsSome (x ∷ xs) = Unit {0}

-- `.` in the middle: it is left out after something, and isn't there else
abbrev pub Grounded : Rules → List Item → Type 0
Grounded r [] = dot r ≡ None
Grounded r (x ∷ xs) = Unit {0}

tail_form : {x : Item} {d zs : List Item} → LeadsTo (x ∷ d) zs → (ys : List Item) × LeadsTo d ys
tail_form prefix = ([], nowhere)
tail_form bare_root = ([], nowhere)
tail_form (root {s}) = (Prefix s ∷ [], prefix)
tail_form start = ([], nowhere)
tail_form (here {y = y} {ys = ys} h) = (y ∷ ys, h)
tail_form (name {ys = ys} h) = (ys, h)
tail_form (up {s} {ys = ys} h) = (Normal s ∷ ys, h)

pub some_form : (xs d zs : List Item) → LeadsTo (onto xs d) zs → (ys : List Item) × LeadsTo d ys
some_form [] d zs h = (zs, h)
some_form (x ∷ xs) d zs h = tail_form (some_form xs (x ∷ d) zs h).1

pub taken : {d ys : List Item} → LeadsTo (ParentDir ∷ d) ys → (s : List ℕ) × LeadsTo d (Normal s ∷ ys)
taken (up {s} h) = (s, h)

not_top : (s : List ℕ) (rb ys : List Item) → IsTopForm rb → rb ≡ Normal s ∷ ys → ⊥
not_top s rb ys t e = subst IsTopForm e t

-- what is left of names at a root are names; else the first may be `..`
abbrev pub IsStack : Bool → List Item → Type 0
IsStack rooted [] = Unit {0}
IsStack rooted (Prefix s ∷ xs) = ⊥
IsStack rooted (RootDir ∷ xs) = ⊥
IsStack rooted (CurDir ∷ xs) = ⊥
IsStack rooted (ParentDir ∷ xs) = (rooted ≡ false) × IsStack rooted xs
IsStack rooted (Normal s ∷ xs) = IsStack rooted xs

abbrev pub Stays : Bool → List Item → Type 0
Stays true xs = (ys : List Item) × (xs ≡ RootDir ∷ ys)
Stays false xs = StaysAfter xs

module _ (r : Rules) where
  pub no_prefix : (s : List ℕ) → IsSpelled r (Prefix s) → ⊥
  no_prefix s h = let never : None ≡ Some (Prefix s) = h.names in cc

  pub no_root : IsSpelled r RootDir → ⊥
  no_root h = let never : None ≡ Some RootDir = h.names in cc

  pub no_dot : dot r ≡ None → IsSpelled r CurDir → ⊥
  no_dot d h = let never : None ≡ Some CurDir = sym d ∙ h.names in cc

module _ (r : Rules) (rb : List Item) (ground : Grounded r rb) where
  after_dot : (stack rb done : List Item) → Grounded r rb → IsSpelled r CurDir → LeadsTo done (stack ++ rb) → LeadsTo (CurDir ∷ done) (stack ++ rb)
  after_dot [] [] done g h l = absurd (no_dot r g h)
  after_dot [] (x ∷ rb) done g h l = here l
  after_dot (x ∷ stack) rb done g h l = here l

  pub resolve_leads : (stack xs done final : List Item) → AreSpelled r xs → AreNames stack → LeadsTo done (stack ++ rb) → resolve stack xs ≡ Some final → LeadsTo (onto xs done) (final ++ rb)
  resolve_leads stack [] done final h n l e = let same : stack ≡ final = cc in subst (λ z. LeadsTo done (z ++ rb)) same l
  resolve_leads stack (Normal s ∷ xs) done final h n l e = resolve_leads (Normal s ∷ stack) xs (Normal s ∷ done) final h.1 n (name l) e
  resolve_leads [] (ParentDir ∷ xs) done final h n l e = let never : None ≡ Some final = e in cc
  resolve_leads (Normal s ∷ stack) (ParentDir ∷ xs) done final h n l e = resolve_leads stack xs (ParentDir ∷ done) final h.1 n (up l) e
  resolve_leads (Prefix s ∷ stack) (ParentDir ∷ xs) done final h n l e = absurd n
  resolve_leads (RootDir ∷ stack) (ParentDir ∷ xs) done final h n l e = absurd n
  resolve_leads (CurDir ∷ stack) (ParentDir ∷ xs) done final h n l e = absurd n
  resolve_leads (ParentDir ∷ stack) (ParentDir ∷ xs) done final h n l e = absurd n
  resolve_leads stack (CurDir ∷ xs) done final h n l e = resolve_leads stack xs (CurDir ∷ done) final h.1 n (after_dot stack rb done ground h.0 l) e
  resolve_leads stack (Prefix s ∷ xs) done final h n l e = absurd (no_prefix r s h.0)
  resolve_leads stack (RootDir ∷ xs) done final h n l e = absurd (no_root r h.0)

  pub resolve_none : IsTopForm rb → (stack xs done zs : List Item) → AreSpelled r xs → AreNames stack → LeadsTo done (stack ++ rb) → resolve stack xs ≡ None → LeadsTo (onto xs done) zs → ⊥
  resolve_none t stack [] done zs h n l e k = let never : Some stack ≡ None = e in cc
  resolve_none t stack (Normal s ∷ xs) done zs h n l e k = resolve_none t (Normal s ∷ stack) xs (Normal s ∷ done) zs h.1 n (name l) e k
  resolve_none t [] (ParentDir ∷ xs) done zs h n l e k =
      let f = some_form xs (ParentDir ∷ done) zs k in
      let q = taken f.1 in not_top q.0 rb f.0 t (one_form l q.1)
  resolve_none t (Normal s ∷ stack) (ParentDir ∷ xs) done zs h n l e k = resolve_none t stack xs (ParentDir ∷ done) zs h.1 n (up l) e k
  resolve_none t (Prefix s ∷ stack) (ParentDir ∷ xs) done zs h n l e k = n
  resolve_none t (RootDir ∷ stack) (ParentDir ∷ xs) done zs h n l e k = n
  resolve_none t (CurDir ∷ stack) (ParentDir ∷ xs) done zs h n l e k = n
  resolve_none t (ParentDir ∷ stack) (ParentDir ∷ xs) done zs h n l e k = n
  resolve_none t stack (CurDir ∷ xs) done zs h n l e k = resolve_none t stack xs (CurDir ∷ done) zs h.1 n (after_dot stack rb done ground h.0 l) e k
  resolve_none t stack (Prefix s ∷ xs) done zs h n l e k = no_prefix r s h.0
  resolve_none t stack (RootDir ∷ xs) done zs h n l e k = no_root r h.0

module _ (r : Rules) (rb : List Item) where
  -- what is left is spelled as it was
  pub resolve_spelled : (stack xs final : List Item) → AreSpelled r xs → AreSpelled r stack → resolve stack xs ≡ Some final → AreSpelled r final
  resolve_spelled stack [] final h n e = let same : stack ≡ final = cc in subst (AreSpelled r) same n
  resolve_spelled stack (Normal s ∷ xs) final h n e = resolve_spelled (Normal s ∷ stack) xs final h.1 (h.0, n) e
  resolve_spelled [] (ParentDir ∷ xs) final h n e = let never : None ≡ Some final = e in cc
  resolve_spelled (x ∷ stack) (ParentDir ∷ xs) final h n e = resolve_spelled stack xs final h.1 n.1 e
  resolve_spelled stack (CurDir ∷ xs) final h n e = resolve_spelled stack xs final h.1 n e
  resolve_spelled stack (Prefix s ∷ xs) final h n e = absurd (no_prefix r s h.0)
  resolve_spelled stack (RootDir ∷ xs) final h n e = absurd (no_root r h.0)

  go_up_stack : (rooted : Bool) (stack : List Item) → IsStack rooted stack → IsStack rooted (go_up rooted stack)
  go_up_stack true [] n = n
  go_up_stack false [] n = (refl, n)
  go_up_stack rooted (Prefix s ∷ stack) n = absurd n
  go_up_stack rooted (RootDir ∷ stack) n = absurd n
  go_up_stack rooted (CurDir ∷ stack) n = absurd n
  go_up_stack true (ParentDir ∷ stack) n = n
  go_up_stack false (ParentDir ∷ stack) n = (refl, n)
  go_up_stack rooted (Normal s ∷ stack) n = n

  go_up_cleans : (rooted : Bool) (stack done : List Item) → Stays rooted rb → IsStack rooted stack → CleansTo done (stack ++ rb) → CleansTo (ParentDir ∷ done) (go_up rooted stack ++ rb)
  go_up_cleans true [] done t n l = subst (CleansTo (ParentDir ∷ done)) (sym t.1) (clean.at_root (subst (CleansTo done) t.1 l))
  go_up_cleans false [] done t n l = clean.out l t
  go_up_cleans rooted (Prefix s ∷ stack) done t n l = absurd n
  go_up_cleans rooted (RootDir ∷ stack) done t n l = absurd n
  go_up_cleans rooted (CurDir ∷ stack) done t n l = absurd n
  go_up_cleans true (ParentDir ∷ stack) done t n l = let never : true ≡ false = n.0 in cc
  go_up_cleans false (ParentDir ∷ stack) done t n l = clean.out l tt
  go_up_cleans rooted (Normal s ∷ stack) done t n l = clean.up l

  pub cleaned_cleans : (rooted : Bool) → Stays rooted rb → (stack xs done : List Item) → AreSpelled r xs → IsStack rooted stack → CleansTo done (stack ++ rb) → CleansTo (onto xs done) (cleaned rooted stack xs ++ rb)
  cleaned_cleans rooted t stack [] done h n l = l
  cleaned_cleans rooted t stack (Normal s ∷ xs) done h n l = cleaned_cleans rooted t (Normal s ∷ stack) xs (Normal s ∷ done) h.1 n (clean.name l)
  cleaned_cleans rooted t stack (ParentDir ∷ xs) done h n l = cleaned_cleans rooted t (go_up rooted stack) xs (ParentDir ∷ done) h.1 (go_up_stack rooted stack n) (go_up_cleans rooted stack done t n l)
  cleaned_cleans rooted t stack (CurDir ∷ xs) done h n l = cleaned_cleans rooted t stack xs (CurDir ∷ done) h.1 n (clean.here l)
  cleaned_cleans rooted t stack (Prefix s ∷ xs) done h n l = absurd (no_prefix r s h.0)
  cleaned_cleans rooted t stack (RootDir ∷ xs) done h n l = absurd (no_root r h.0)

  go_up_spelled : (rooted : Bool) (stack : List Item) → IsSpelled r ParentDir → AreSpelled r stack → AreSpelled r (go_up rooted stack)
  go_up_spelled true [] p n = n
  go_up_spelled false [] p n = (p, n)
  go_up_spelled true (Prefix s ∷ stack) p n = n
  go_up_spelled false (Prefix s ∷ stack) p n = (p, n)
  go_up_spelled true (RootDir ∷ stack) p n = n
  go_up_spelled false (RootDir ∷ stack) p n = (p, n)
  go_up_spelled true (CurDir ∷ stack) p n = n
  go_up_spelled false (CurDir ∷ stack) p n = (p, n)
  go_up_spelled true (ParentDir ∷ stack) p n = n
  go_up_spelled false (ParentDir ∷ stack) p n = (p, n)
  go_up_spelled rooted (Normal s ∷ stack) p n = n.1

  pub cleaned_spelled : (rooted : Bool) (stack xs : List Item) → AreSpelled r xs → AreSpelled r stack → AreSpelled r (cleaned rooted stack xs)
  cleaned_spelled rooted stack [] h n = n
  cleaned_spelled rooted stack (Normal s ∷ xs) h n = cleaned_spelled rooted (Normal s ∷ stack) xs h.1 (h.0, n)
  cleaned_spelled rooted stack (ParentDir ∷ xs) h n = cleaned_spelled rooted (go_up rooted stack) xs h.1 (go_up_spelled rooted stack h.0 n)
  cleaned_spelled rooted stack (CurDir ∷ xs) h n = cleaned_spelled rooted stack xs h.1 n
  cleaned_spelled rooted stack (Prefix s ∷ xs) h n = absurd (no_prefix r s h.0)
  cleaned_spelled rooted stack (RootDir ∷ xs) h n = absurd (no_root r h.0)

onto_spelled : (r : Rules) (xs d : List Item) → AreSpelled r xs → AreSpelled r d → AreSpelled r (onto xs d)
onto_spelled r [] d h k = k
onto_spelled r (x ∷ xs) d h k = onto_spelled r xs (x ∷ d) h.1 (h.0, k)

pub from_reverse : (r : Rules) (xs : List Item) → AreSpelled r (reverse xs) → AreSpelled r xs
from_reverse r xs h = subst (AreSpelled r) (onto_is (reverse xs) [] ∙ append-nil (reverse (reverse xs)) ∙ reverse-reverse xs) (onto_spelled r (reverse xs) [] h tt)
