-- Paths whose first part names a component.
use Rattle.std.proofs.Common.{◌≡◌, ◌≢◌, ◌⊎◌, inl, inr, ℕ, Bool, true, false, ◌&&◌, nat_eq, if◌then◌else◌, List, [], ◌∷◌, ◌++◌, Option, Some, None, refl, sym, ap, ◌∙◌, subst, eqb-true}
use Rattle.std.proofs.lemmas.List.Elements.{All-cons, All-nil}
use Rattle.std.specs.List.{All, AllByRecursion, filter_map, slice_split, cons_option}
use Rattle.path_rules.specs.declared.rules.Rules.{Rules}
use Rattle.path_rules.specs.declared.rules.Rules.TheVariants as rules
use Rattle.path_rules.specs.declared.head.Start.{Start}
use Rattle.path_rules.specs.declared.head.Start.TheVariants.{Root, Dot, Nothing}
use Rattle.path_rules.specs.Separators.{separates, Edge, IsField}
use Rattle.path_rules.specs.Component.{Item, Prefix, RootDir, CurDir, ParentDir, Normal, named, dot, components_in}
use Rattle.path_rules.specs.Heads.{start_items}
use Rattle.path_rules.specs.Prefix.{rules_of}
use Rattle.path_rules.specs.Components.{start_of, after_start, plain_components, root_of, after_root, AreComponents, bare, prefixed}
use Rattle.path_rules.specs.declared.rules.Style as whose
use Rattle.path_rules.specs.declared.rules.Style.TheVariants as style
use Rattle.path_rules.specs.Compare.{IsNoPrefix}
use Rattle.path_rules.proofs.lemmas.Starts.{with_root}
use Rattle.path_rules.proofs.lemmas.Tails.{field_items}
use Rattle.path_rules.specs.Body.{BeginsNamed}
use Rattle.path_rules.specs.Root.{BeginsWithSeparator}

module _ (r : Rules) where
  -- each path has a field at its start
  pub field_of : (s : List ℕ) → (f : List ℕ) × ((rest : List ℕ) × IsField r s f rest)
  field_of [] = ([], ([], record { joined = refl; plain = All-nil (λ b. separates r b ≡ false); edge = tt }))
  field_of (b ∷ s) = cases (separates r b) refl (field_of s)
    where
      cases : (v : Bool) → separates r b ≡ v → (f : List ℕ) × ((rest : List ℕ) × IsField r s f rest) → (f : List ℕ) × ((rest : List ℕ) × IsField r (b ∷ s) f rest)
      cases true e q = ([], (b ∷ s, record { joined = refl; plain = All-nil (λ c. separates r c ≡ false); edge = e }))
      cases false e q = let k = q.1.1 in (b ∷ q.0, (q.1.0, record { joined = ap (λ x. b ∷ x) k.joined; plain = All-cons (λ c. separates r c ≡ false) b (q.0) e k.plain; edge = k.edge }))

  pub no_separator_first : (s : List ℕ) → BeginsNamed r s → ¬ (BeginsWithSeparator r s)
  no_separator_first [] h e = e
  no_separator_first (b ∷ u) h e = h [] (b ∷ u) (λ n. cc) (record { joined = refl; plain = All-nil (λ c. separates r c ≡ false); edge = e }) refl

  one : (b : ℕ) → separates r b ≡ false → All (λ c. separates r c ≡ false) (b ∷ [])
  one b e = All-cons (λ c. separates r c ≡ false) b [] e (All-nil (λ c. separates r c ≡ false))

  no_prefix_named : (p s : List ℕ) → named r p ≡ Some (Prefix s) → ⊥
  no_prefix_named [] s e = cc
  no_prefix_named (a ∷ []) s e = cases r (nat_eq a 0x2E) e
    where
      cases : (q : Rules) (v : Bool) → (if v then dot q else Some (Normal (a ∷ []))) ≡ Some (Prefix s) → ⊥
      cases rules.Slash true f = cc
      cases rules.Either true f = cc
      cases rules.Verbatim true f = cc
      cases q false f = cc
  no_prefix_named (a ∷ b ∷ []) s e = cases (nat_eq a 0x2E && nat_eq b 0x2E) e
    where
      cases : (v : Bool) → (if v then Some ParentDir else Some (Normal (a ∷ b ∷ []))) ≡ Some (Prefix s) → ⊥
      cases true f = cc
      cases false f = cc
  no_prefix_named (a ∷ b ∷ c ∷ t) s e = cc

  pub no_prefix_parts : (ps : List (List ℕ)) → AllByRecursion IsNoPrefix (filter_map (named r) ps)
  no_prefix_parts [] = tt
  no_prefix_parts (p ∷ ps) = cases (named r p) refl (no_prefix_parts ps)
    where
      cases : (o : Option Item) → named r p ≡ o → AllByRecursion IsNoPrefix (filter_map (named r) ps) → AllByRecursion IsNoPrefix (cons_option o (filter_map (named r) ps))
      cases None e h = h
      cases (Some (Prefix s)) e h = absurd (no_prefix_named p s e)
      cases (Some RootDir) e h = (tt, h)
      cases (Some CurDir) e h = (tt, h)
      cases (Some ParentDir) e h = (tt, h)
      cases (Some (Normal s)) e h = (tt, h)

  -- without a prefix no component is one
  pub no_prefix_items : (s : List ℕ) → AllByRecursion IsNoPrefix (plain_components r s)
  no_prefix_items s = cases (start_of r s) (after_start (start_of r s) s)
    where
      cases : (st : Start) (body : List ℕ) → AllByRecursion IsNoPrefix (start_items st ++ components_in r body)
      cases Root body = (tt, no_prefix_parts (slice_split (separates r) body))
      cases Dot body = (tt, no_prefix_parts (slice_split (separates r) body))
      cases Nothing body = no_prefix_parts (slice_split (separates r) body)

  module _ (no_dot : dot r ≡ None) where
    -- what begins with a name starts with neither a root nor `.`
    pub begins_plain : (s : List ℕ) → BeginsNamed r s → start_of r s ≡ Nothing
    begins_plain [] h = refl
    begins_plain (b ∷ []) h = at (separates r b) refl
      where
        dotted : (v : Bool) → nat_eq b 0x2E ≡ v → separates r b ≡ false → start_of r (b ∷ []) ≡ Nothing
        dotted true f e = absurd (h (b ∷ []) [] (λ n. cc) (record { joined = refl; plain = one b e; edge = tt }) (ap (λ x. if x then dot r else Some (Normal (b ∷ []))) f ∙ no_dot))
        dotted false f e = ap (λ x. if x then Root else (if nat_eq b 0x2E then Dot else Nothing)) e ∙ ap (λ x. if x then Dot else Nothing) f

        at : (v : Bool) → separates r b ≡ v → start_of r (b ∷ []) ≡ Nothing
        at true e = absurd (h [] (b ∷ []) (λ n. cc) (record { joined = refl; plain = All-nil (λ c. separates r c ≡ false); edge = e }) refl)
        at false e = dotted (nat_eq b 0x2E) refl e
    begins_plain (b ∷ c ∷ s) h = at (separates r b) refl
      where
        dotted : (v u : Bool) → nat_eq b 0x2E ≡ v → separates r c ≡ u → separates r b ≡ false → start_of r (b ∷ c ∷ s) ≡ Nothing
        dotted true true f k e = absurd (h (b ∷ []) (c ∷ s) (λ n. cc) (record { joined = refl; plain = one b e; edge = k }) (ap (λ x. if x then dot r else Some (Normal (b ∷ []))) f ∙ no_dot))
        dotted true false f k e = ap (λ x. if x then Root else (if nat_eq b 0x2E && separates r c then Dot else Nothing)) e ∙ ap (λ x. if x && separates r c then Dot else Nothing) f ∙ ap (λ x. if x then Dot else Nothing) k
        dotted false u f k e = ap (λ x. if x then Root else (if nat_eq b 0x2E && separates r c then Dot else Nothing)) e ∙ ap (λ x. if x && separates r c then Dot else Nothing) f

        at : (v : Bool) → separates r b ≡ v → start_of r (b ∷ c ∷ s) ≡ Nothing
        at true e = absurd (h [] (b ∷ c ∷ s) (λ n. cc) (record { joined = refl; plain = All-nil (λ c. separates r c ≡ false); edge = e }) refl)
        at false e = dotted (nat_eq b 0x2E) (separates r c) refl refl e

    pub plain_begun : (s : List ℕ) → BeginsNamed r s → plain_components r s ≡ components_in r s
    plain_begun s h = ap (λ x. start_items x ++ components_in r (after_start x s)) (begins_plain s h)

    -- a part that names nothing is empty or `.`
    unnamed : (p : List ℕ) → named r p ≡ None → (p ≡ []) ⊎ (p ≡ 0x2E ∷ [])
    unnamed [] e = inl refl
    unnamed (a ∷ []) e = cases (nat_eq a 0x2E) refl e
      where
        cases : (v : Bool) → nat_eq a 0x2E ≡ v → (if v then dot r else Some (Normal (a ∷ []))) ≡ None → (a ∷ [] ≡ []) ⊎ (a ∷ [] ≡ 0x2E ∷ [])
        cases true f g = inr (ap (λ x. x ∷ []) (eqb-true a 0x2E f))
        cases false f g = let never : Some (Normal (a ∷ [])) ≡ None = g in cc
    unnamed (a ∷ b ∷ []) e = cases (nat_eq a 0x2E && nat_eq b 0x2E) e
      where
        cases : (v : Bool) → (if v then Some ParentDir else Some (Normal (a ∷ b ∷ []))) ≡ None → (a ∷ b ∷ [] ≡ []) ⊎ (a ∷ b ∷ [] ≡ 0x2E ∷ [])
        cases true f = let never : Some ParentDir ≡ None = f in cc
        cases false f = let never : Some (Normal (a ∷ b ∷ [])) ≡ None = f in cc
    unnamed (a ∷ b ∷ c ∷ s) e = let never : Some (Normal (a ∷ b ∷ c ∷ s)) ≡ None = e in cc

    starts_dotted : (s rest : List ℕ) → s ≡ 0x2E ∷ rest → Edge r rest → start_of r s ≡ Nothing → ⊥
    starts_dotted s [] j e n = let at : start_of r (0x2E ∷ []) ≡ Nothing = ap (start_of r) (sym j) ∙ n in cases r at
      where
        cases : (q : Rules) → start_of q (0x2E ∷ []) ≡ Nothing → ⊥
        cases rules.Slash f = cc
        cases rules.Either f = cc
        cases rules.Verbatim f = cc
    starts_dotted s (c ∷ t) j e n = let at : start_of r (0x2E ∷ c ∷ t) ≡ Nothing = ap (start_of r) (sym j) ∙ n in cases r (separates r c) e at
      where
        cases : (q : Rules) (v : Bool) → v ≡ true → (if separates q 0x2E then Root else (if v then Dot else Nothing)) ≡ Nothing → ⊥
        cases rules.Slash true g f = cc
        cases rules.Either true g f = cc
        cases rules.Verbatim true g f = cc
        cases q false g f = cc

    starts_rooted : (s : List ℕ) → BeginsWithSeparator r s → start_of r s ≡ Nothing → ⊥
    starts_rooted [] e n = e
    starts_rooted (b ∷ s) e n = let never : Root ≡ Nothing = sym (with_root r b s e) ∙ n in cc

    edge_begins : (s : List ℕ) → s ≢ [] → Edge r s → BeginsWithSeparator r s
    edge_begins [] n e = n refl
    edge_begins (b ∷ s) n e = e

    some_first : (s : List ℕ) → s ≢ [] → start_of r s ≡ Nothing → components_in r s ≡ [] → ⊥
    some_first s some n e = cases (named r ((field_of s).0)) refl
      where
        f : IsField r s ((field_of s).0) ((field_of s).1.0)
        f = (field_of s).1.1

        by_part : (named r ((field_of s).0) ≡ None) → ((field_of s).0 ≡ []) ⊎ ((field_of s).0 ≡ 0x2E ∷ []) → ⊥
        by_part g (inl k) =
            let j : s ≡ (field_of s).1.0 = f.joined ∙ ap (λ x. x ++ (field_of s).1.0) k in
            starts_rooted s (edge_begins s some (subst (Edge r) (sym j) f.edge)) n
        by_part g (inr k) = starts_dotted s ((field_of s).1.0) (f.joined ∙ ap (λ x. x ++ (field_of s).1.0) k) f.edge n

        cases : (o : Option Item) → named r ((field_of s).0) ≡ o → ⊥
        cases (Some x) g = let never : x ∷ components_in r ((field_of s).1.0) ≡ [] = sym (field_items r s ((field_of s).0) ((field_of s).1.0) x f (sym g)) ∙ e in cc
        cases None g = by_part g (unnamed ((field_of s).0) g)

    pub some_plain : (s : List ℕ) → [] ≡ plain_components r s → s ≡ []
    some_plain [] e = refl
    some_plain (b ∷ s) e = absurd (cases (start_of r (b ∷ s)) refl)
      where
        cases : (st : Start) → start_of r (b ∷ s) ≡ st → ⊥
        cases Root g = let never : [] ≡ RootDir ∷ components_in r s = e ∙ ap (λ x. start_items x ++ components_in r (after_start x (b ∷ s))) g in cc
        cases Dot g = let never : [] ≡ CurDir ∷ components_in r s = e ∙ ap (λ x. start_items x ++ components_in r (after_start x (b ∷ s))) g in cc
        cases Nothing g = some_first (b ∷ s) (λ z. cc) g (sym (e ∙ ap (λ x. start_items x ++ components_in r (after_start x (b ∷ s))) g))

-- a path that isn't empty has a component
pub some_component : (w : whose.Style) (s : List ℕ) → AreComponents w s [] → s ≡ []
some_component style.Unix s a = some_plain rules.Slash refl s a
some_component style.Windows s (bare a) = some_plain rules.Either refl s a.are
some_component style.Windows s (prefixed a) = let never : [] ≡ Prefix a.raw ∷ (start_items (root_of a.kind a.rest) ++ components_in (rules_of a.kind) (after_root a.rest)) = a.are in cc
