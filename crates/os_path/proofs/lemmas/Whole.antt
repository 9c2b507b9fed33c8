-- The components of a well-formed string are well-formed strings.
use Rattle.std.proofs.Common.{◌≡◌, ◌⊎◌, inl, inr, ◌<◌, ◌≤◌, ℕ, Bool, true, false, ◌&&◌, nat_eq, if◌then◌else◌, List, [], ◌∷◌, ◌++◌, refl, sym, ◌∙◌, subst, arith, append-nil, eqb-true, lit<}
use Rattle.std.proofs.lemmas.List.{append_cancel_right}
use Rattle.std.proofs.lemmas.Bool.{cases_lt}
use Rattle.path_rules.specs.declared.rules.Rules.{Rules}
use Rattle.path_rules.specs.declared.rules.Rules.TheVariants as rules
use Rattle.path_rules.specs.declared.rules.Style as whose
use Rattle.path_rules.specs.declared.rules.Style.TheVariants as style
use Rattle.path_rules.specs.declared.head.Start.{Start}
use Rattle.path_rules.specs.declared.head.Start.TheVariants.{Root, Dot, Nothing}
use Rattle.path_rules.specs.Separators.{separates, Edge}
use Rattle.path_rules.specs.Component.{Item, components_in}
use Rattle.path_rules.specs.Heads.{start_items}
use Rattle.path_rules.specs.Prefix.{rules_of}
use Rattle.path_rules.specs.Components.{start_of, after_start, plain_components, root_of, after_root, AreWindowsComponents, prefixed, bare, AreComponents}
use Rattle.path_rules.proofs.lemmas.Edges.{edge_after}
use Rattle.os_path.specs.Formed.{AreFormed}
use Rattle.os_path.proofs.lemmas.Parts.{IsCutAtAscii, body_formed}
use Rattle.path_rules.proofs.lemmas.Ascii.{ascii_separators}

module _ (formed : List ℕ → Type 0) (cut : IsCutAtAscii formed) where
  pub joined_formed : (xs ys : List Item) → AreFormed formed xs → AreFormed formed ys → AreFormed formed (xs ++ ys)
  joined_formed [] ys f g = g
  joined_formed (x ∷ xs) ys f g = (f.0, joined_formed xs ys f.1 g)

  start_formed : (st : Start) → AreFormed formed (start_items st)
  start_formed Root = (tt, tt)
  start_formed Dot = (tt, tt)
  start_formed Nothing = tt

  nothing : (p q w : Bool) → p ≡ false → q ≡ false → (if p then Root else (if q && w then Dot else Nothing)) ≡ Nothing
  nothing true q w e f = let never : false ≡ true = sym e in cc
  nothing false true w e f = let never : false ≡ true = sym f in cc
  nothing false false w e f = refl

  alone : (p q : Bool) → p ≡ false → q ≡ false → (if p then Root else (if q then Dot else Nothing)) ≡ Nothing
  alone true q e f = let never : false ≡ true = sym e in cc
  alone false true e f = let never : false ≡ true = sym f in cc
  alone false false e f = refl

  is_false : (v : Bool) → (v ≡ true → ⊥) → v ≡ false
  is_false true h = absurd (h refl)
  is_false false h = refl

  module _ (r : Rules) where
    no_start : (b : ℕ) (u : List ℕ) → 0x80 ≤ b → start_of r (b ∷ u) ≡ Nothing
    no_start b [] high =
        alone (separates r b) (nat_eq b 0x2E) (is_false (separates r b) (λ e. let low = ascii_separators r b e in omega arith)) (is_false (nat_eq b 0x2E) (λ e. let s : b ≡ 0x2E = eqb-true b 0x2E e in omega arith))
    no_start b (c ∷ u) high =
        nothing (separates r b) (nat_eq b 0x2E) (separates r c) (is_false (separates r b) (λ e. let low = ascii_separators r b e in omega arith)) (is_false (nat_eq b 0x2E) (λ e. let s : b ≡ 0x2E = eqb-true b 0x2E e in omega arith))

    after_any : (st : Start) (b : ℕ) (u : List ℕ) → formed (b ∷ u) → formed u → formed (after_start st (b ∷ u))
    after_any Nothing b u f g = f
    after_any Root b u f g = g
    after_any Dot b u f g = g

    after_formed : (s : List ℕ) → formed s → AreFormed formed (components_in r (after_start (start_of r s) s))
    after_formed [] f = tt
    after_formed (b ∷ u) f = body_formed formed cut r (ascii_separators r) (after_start (start_of r (b ∷ u)) (b ∷ u)) (cases (cases_lt b 0x80))
      where
        cases : ((b < 0x80) ⊎ (0x80 ≤ b)) → formed (after_start (start_of r (b ∷ u)) (b ∷ u))
        cases (inl low) = after_any (start_of r (b ∷ u)) b u f (cut [] u b low f).after
        cases (inr high) = subst (λ st. formed (after_start st (b ∷ u))) (sym (no_start b u high)) f

    pub plain_formed : (s : List ℕ) → formed s → AreFormed formed (plain_components r s)
    plain_formed s f = joined_formed (start_items (start_of r s)) (components_in r (after_start (start_of r s) s)) (start_formed (start_of r s)) (after_formed s f)

  -- both sides of a prefix's end
  record Sides (raw rest : List ℕ) : Type 0 where
    before : formed raw
    after : (r : Rules) → AreFormed formed (components_in r (after_root rest))

  choice : (b : Bool) (r : Rules) (x y : List ℕ) → formed x → formed y → AreFormed formed (components_in r (if b then x else y))
  choice true r x y f g = body_formed formed cut r (ascii_separators r) x f
  choice false r x y f g = body_formed formed cut r (ascii_separators r) y g

  drive_sides : (rest : List ℕ) (r : Rules) → formed rest → AreFormed formed (components_in r (after_root rest))
  drive_sides [] r f = tt
  drive_sides (c ∷ u) r f = cases (separates rules.Either c) refl
    where
      cases : (v : Bool) → separates rules.Either c ≡ v → AreFormed formed (components_in r (if separates rules.Either c then u else c ∷ u))
      cases true e = choice (separates rules.Either c) r u (c ∷ u) (cut [] u c (ascii_separators rules.Either c e) f).after f
      cases false e = subst (λ v. AreFormed formed (components_in r (if v then u else c ∷ u))) (sym e) (body_formed formed cut r (ascii_separators r) (c ∷ u) f)

  sides : (s raw rest : List ℕ) → s ≡ raw ++ rest → formed s → Edge rules.Either rest ⊎ ((letter : ℕ) × (s ≡ letter ∷ 0x3A ∷ rest)) → Sides raw rest
  sides s raw [] j f (inl e) = record { before = subst formed (j ∙ append-nil raw) f; after = λ r. tt }
  sides s raw (c ∷ u) j f (inl e) =
      let both = cut raw u c (ascii_separators rules.Either c e) (subst formed j f) in
      record { before = both.before; after = λ r. choice (separates rules.Either c) r u (c ∷ u) both.after both.from }
  sides s raw rest j f (inr d) =
      let both = cut (d.0 ∷ []) rest 0x3A (lit< tt) (subst formed d.1 f) in
      let same : raw ≡ d.0 ∷ 0x3A ∷ [] = append_cancel_right raw (d.0 ∷ 0x3A ∷ []) rest (sym j ∙ d.1) in
      record { before = subst formed (sym same) both.up_to; after = λ r. drive_sides rest r both.after }

  windows_formed : (s : List ℕ) (items : List Item) → AreWindowsComponents s items → formed s → AreFormed formed items
  windows_formed s items (bare a) f = subst (AreFormed formed) (sym a.are) (plain_formed rules.Either s f)
  windows_formed s items (prefixed a) f =
      let both = sides s a.raw a.rest a.joined f (edge_after s a.kind a.rest a.prefix) in
      subst (AreFormed formed) (sym a.are)
      (both.before, joined_formed (start_items (root_of a.kind a.rest)) (components_in (rules_of a.kind) (after_root a.rest)) (start_formed (root_of a.kind a.rest)) (both.after (rules_of a.kind)))

  pub all_formed : (w : whose.Style) (s : List ℕ) (items : List Item) → AreComponents w s items → formed s → AreFormed formed items
  all_formed style.Unix s items h f = subst (AreFormed formed) (sym h) (plain_formed rules.Slash s f)
  all_formed style.Windows s items h f = windows_formed s items h f
