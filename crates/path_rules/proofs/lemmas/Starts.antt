-- With what a path starts, and with what its prefixes start.
use Rattle.std.proofs.Common.{◌≡◌, ◌≢◌, ◌⊎◌, inl, inr, ◌+◌, ◌≤◌, ◌<◌, ℕ, Bool, true, false, ◌&&◌, nat_eq, if◌then◌else◌, List, [], ◌∷◌, ◌++◌, length, refl, sym, ap, ◌∙◌, subst, arith, append_assoc, eqb-true}
use Rattle.path_rules.specs.declared.rules.Rules.{Rules}
use Rattle.path_rules.specs.declared.head.Start.{Start}
use Rattle.path_rules.specs.declared.head.Start.TheVariants.{Root, Dot, Nothing}
use Rattle.path_rules.specs.Separators.{separates, Edge, IsCut, IsUpTo}
use Rattle.path_rules.specs.Component.{components_in}
use Rattle.path_rules.specs.Heads.{start_items}
use Rattle.path_rules.specs.Components.{start_of, after_start, plain_components}
use Rattle.path_rules.specs.Cut.{IsAsciiCut, at_start, after_ascii}
use Rattle.path_rules.proofs.lemmas.Ascii.{ascii_separators, edge_cut}
use Rattle.path_rules.proofs.lemmas.Bodies.{cut_items}

choice : Bool → Bool → Bool → Start
choice p q w = if p then Root else (if q && w then Dot else Nothing)

alone : Bool → Bool → Start
alone p q = if p then Root else (if q then Dot else Nothing)

-- before an edge a first byte starts a path as it does alone
same_choice : (p q w : Bool) → w ≡ true → choice p q w ≡ alone p q
unfolding choice alone
same_choice true q w e = refl
same_choice false true w e = ap (λ x. if x then Dot else Nothing) e
same_choice false false w e = refl

-- no more than one byte
abbrev pub Tiny : List ℕ → Type 0
Tiny [] = Unit {0}
Tiny (b ∷ []) = Unit {0}
Tiny (b ∷ c ∷ s) = ⊥

module _ (r : Rules) where
  two_bytes : (b c : ℕ) (s : List ℕ) → start_of r (b ∷ c ∷ s) ≡ choice (separates r b) (nat_eq b 0x2E) (separates r c)
  unfolding choice
  two_bytes b c s = refl

  one_byte : (b : ℕ) → start_of r (b ∷ []) ≡ alone (separates r b) (nat_eq b 0x2E)
  unfolding alone
  one_byte b = refl

  -- a path that isn't empty starts as it does up to an edge
  pub same_start : (b : ℕ) (t more : List ℕ) → Edge r more → start_of r (b ∷ (t ++ more)) ≡ start_of r (b ∷ t)
  same_start b [] [] h = refl
  same_start b [] (c ∷ more) h = two_bytes b c more ∙ same_choice (separates r b) (nat_eq b 0x2E) (separates r c) h ∙ sym (one_byte b)
  same_start b (c ∷ t) more h = refl

  pub with_root : (b : ℕ) (t : List ℕ) → separates r b ≡ true → start_of r (b ∷ t) ≡ Root
  with_root b [] e = ap (λ x. if x then Root else (if nat_eq b 0x2E then Dot else Nothing)) e
  with_root b (c ∷ t) e = ap (λ x. if x then Root else (if nat_eq b 0x2E && separates r c then Dot else Nothing)) e

  no_start : (p q : Bool) → p ≡ false → (if p then Root else (if q then Dot else Nothing)) ≡ Root → ⊥
  no_start true q e h = cc
  no_start false true e h = cc
  no_start false false e h = cc

  pub is_root : (b : ℕ) (s : List ℕ) → start_of r (b ∷ s) ≡ Root → separates r b ≡ false → ⊥
  is_root b [] h e = no_start (separates r b) (nat_eq b 0x2E) e h
  is_root b (c ∷ s) h e = no_start (separates r b) (nat_eq b 0x2E && separates r c) e h

  root_stays : (b : ℕ) (s t : List ℕ) → start_of r (b ∷ s) ≡ Root → start_of r (b ∷ t) ≡ Root
  root_stays b s t h = cases (separates r b) refl
    where
      cases : (p : Bool) → separates r b ≡ p → start_of r (b ∷ t) ≡ Root
      cases true e = with_root b t e
      cases false e = absurd (is_root b s h e)

  dot_choice : (p q w : Bool) → choice p q w ≡ Dot → alone p q ≡ Dot
  unfolding choice alone
  dot_choice true q w h = let never : Root ≡ Dot = h in cc
  dot_choice false true w h = refl
  dot_choice false false w h = let never : Nothing ≡ Dot = h in cc

  dot_stays : (b : ℕ) (s : List ℕ) → start_of r (b ∷ s) ≡ Dot → start_of r (b ∷ []) ≡ Dot
  dot_stays b [] h = h
  dot_stays b (c ∷ s) h = one_byte b ∙ dot_choice (separates r b) (nat_eq b 0x2E) (separates r c) (sym (two_bytes b c s) ∙ h)

  -- the first byte of a path with a root, and of one that starts with `.`, is ASCII
  root_ascii : (b : ℕ) (s : List ℕ) → start_of r (b ∷ s) ≡ Root → b < 0x80
  root_ascii b s h = cases (separates r b) refl
    where
      cases : (p : Bool) → separates r b ≡ p → b < 0x80
      cases true e = ascii_separators r b e
      cases false e = absurd (is_root b s h e)

  dot_tested : (p q : Bool) → alone p q ≡ Dot → q ≡ true
  unfolding alone
  dot_tested true q h = let never : Root ≡ Dot = h in cc
  dot_tested false true h = refl
  dot_tested false false h = let never : Nothing ≡ Dot = h in cc

  dot_ascii : (b : ℕ) (s : List ℕ) → start_of r (b ∷ s) ≡ Dot → b < 0x80
  dot_ascii b s h =
      let test : nat_eq b 0x2E ≡ true = dot_tested (separates r b) (nat_eq b 0x2E) (sym (one_byte b) ∙ dot_stays b s h) in
      let is : b ≡ 0x2E = eqb-true b 0x2E test in omega arith

  -- a part at the start of the path that has its start, and this body
  pub record HasBody (s body t : List ℕ) : Type 0 where
    pub before : List ℕ
    pub more : List ℕ
    pub cut : Tiny before ⊎ Edge r more
    pub beside : IsAsciiCut before more
    pub joined : s ≡ before ++ more
    pub long : length before + length body ≡ length s + length t
    pub front : List ℕ
    pub tail : before ≡ front ++ t
    pub items : plain_components r before ≡ start_items (start_of r s) ++ components_in r t
    pub kept : after_start (start_of r before) before ≡ t

  pub items_at : (before : List ℕ) (st : Start) → start_of r before ≡ st → plain_components r before ≡ start_items st ++ components_in r (after_start st before)
  items_at before st e = ap (λ x. start_items x ++ components_in r (after_start x before)) e

  abbrev pub Ends : List ℕ → List ℕ → Type 0
  Ends s t = (t ≡ []) ⊎ IsUpTo r s t

  -- the same with one byte before the body
  with_first : (b : ℕ) (u t more : List ℕ) (st : Start) → u ≡ t ++ more → after_start st (b ∷ t) ≡ t → start_of r (b ∷ u) ≡ st → start_of r (b ∷ t) ≡ st → (Tiny (b ∷ t) ⊎ Edge r more) → IsAsciiCut (b ∷ t) more → HasBody (b ∷ u) u t
  with_first b u t more st j k e f g beside = record {
    before = b ∷ t;
    more = more;
    front = b ∷ [];
    tail = refl;
    cut = g;
    beside = beside;
    joined = ap (λ x. b ∷ x) j;
    long = omega arith;
    items = items_at (b ∷ t) st f ∙ ap (λ x. start_items st ++ components_in r x) k ∙ ap (λ x. start_items x ++ components_in r t) (sym e);
    kept = ap (λ x. after_start x (b ∷ t)) f ∙ k;
  }

  pub bodies : (st : Start) (s : List ℕ) → st ≡ start_of r s → (t : List ℕ) → Ends (after_start st s) t → HasBody s (after_start st s) t
  bodies Nothing s e t (inl n) = record {
    before = t;
    more = s;
    front = [];
    tail = refl;
    cut = inl (subst Tiny (sym n) tt);
    beside = at_start n;
    joined = sym (ap (λ x. x ++ s) n);
    long = omega arith;
    items = ap (plain_components r) n ∙ sym (ap (λ x. start_items x ++ components_in r t) (sym e) ∙ ap (components_in r) n);
    kept = ap (λ x. after_start (start_of r x) x) n ∙ sym n;
  }
  bodies Nothing s e [] (inr f) = record {
    before = [];
    more = s;
    front = [];
    tail = refl;
    cut = inl tt;
    beside = at_start refl;
    joined = refl;
    long = omega arith;
    items = ap (λ x. start_items x ++ components_in r []) e;
    kept = refl;
  }
  bodies Nothing s e (b ∷ t) (inr f) = record {
    before = b ∷ t;
    more = f.more;
    front = [];
    tail = refl;
    cut = inr f.edge;
    beside = edge_cut r (b ∷ t) f.more f.edge;
    joined = f.joined;
    long = omega arith;
    items =
        let same : start_of r (b ∷ t) ≡ Nothing = sym (same_start b t f.more f.edge) ∙ ap (start_of r) (sym f.joined) ∙ sym e in
        items_at (b ∷ t) Nothing same ∙ ap (λ x. start_items x ++ components_in r (b ∷ t)) e;
    kept =
        let same : start_of r (b ∷ t) ≡ Nothing = sym (same_start b t f.more f.edge) ∙ ap (start_of r) (sym f.joined) ∙ sym e in
        ap (λ x. after_start x (b ∷ t)) same;
  }
  bodies Root [] e t h = let never : Root ≡ Nothing = e in cc
  bodies Root (b ∷ u) e t (inl n) = with_first b u t u Root (sym (ap (λ x. x ++ u) n)) refl (sym e) (root_stays b u t (sym e)) (inl (subst (λ x. Tiny (b ∷ x)) (sym n) tt)) (after_ascii [] b (ap (λ x. b ∷ x) n) (root_ascii b u (sym e)))
  bodies Root (b ∷ u) e t (inr f) = with_first b u t f.more Root f.joined refl (sym e) (root_stays b u t (sym e)) (inr f.edge) (edge_cut r (b ∷ t) f.more f.edge)
  bodies Dot [] e t h = let never : Dot ≡ Nothing = e in cc
  bodies Dot (b ∷ u) e t (inl n) =
      with_first b u t u Dot (sym (ap (λ x. x ++ u) n)) refl (sym e) (ap (λ x. start_of r (b ∷ x)) n ∙ dot_stays b u (sym e)) (inl (subst (λ x. Tiny (b ∷ x)) (sym n) tt)) (after_ascii [] b (ap (λ x. b ∷ x) n) (dot_ascii b u (sym e)))
  bodies Dot (b ∷ u) e t (inr f) =
      with_first b u t f.more Dot f.joined refl (sym e) (sym (same_start b t f.more f.edge) ∙ ap (λ x. start_of r (b ∷ x)) (sym f.joined) ∙ sym e) (inr f.edge) (edge_cut r (b ∷ t) f.more f.edge)

after_short : (st : Start) (s : List ℕ) → length (after_start st s) ≤ length s
after_short Nothing s = omega arith
after_short Root [] = omega arith
after_short Root (b ∷ s) = omega arith
after_short Dot [] = omega arith
after_short Dot (b ∷ s) = omega arith

pub body_short : (s body : List ℕ) (st : Start) → body ≡ after_start st s → length body ≤ length s
body_short s body st e = let h = after_short st s in omega (arith, ap length e)

-- a path that isn't empty, and a relative one after a separator
module _ (r : Rules) (c : ℕ) (sep : separates r c ≡ true) where
  join_after : (st : Start) (s t : List ℕ) → s ≢ [] → st ≡ start_of r s → after_start st (s ++ c ∷ t) ≡ after_start st s ++ c ∷ t
  join_after Nothing s t h e = refl
  join_after Root [] t h e = absurd (h refl)
  join_after Root (b ∷ s) t h e = refl
  join_after Dot [] t h e = absurd (h refl)
  join_after Dot (b ∷ s) t h e = refl

  join_start : (s t : List ℕ) → s ≢ [] → start_of r (s ++ c ∷ t) ≡ start_of r s
  join_start [] t h = absurd (h refl)
  join_start (b ∷ s) t h = same_start r b s (c ∷ t) sep

  pub join_items : (s t : List ℕ) → s ≢ [] → start_of r t ≡ Nothing → plain_components r (s ++ c ∷ t) ≡ plain_components r s ++ plain_components r t
  join_items s t h rel =
      let st = start_of r s in
      let cut : IsCut r (after_start st s ++ c ∷ t) (after_start st s) t = record { separator = c; joined = refl; parts = sep } in
      ap (λ x. start_items x ++ components_in r (after_start x (s ++ c ∷ t))) (join_start s t h)
      ∙ ap (λ x. start_items st ++ components_in r x) (join_after st s t h refl)
      ∙ ap (λ x. start_items st ++ x) (cut_items r (after_start st s ++ c ∷ t) (after_start st s) t cut)
      ∙ sym (append_assoc (start_items st) (components_in r (after_start st s)) (components_in r t))
      ∙ ap (λ x. plain_components r s ++ x) (sym (items_at r t Nothing rel))
