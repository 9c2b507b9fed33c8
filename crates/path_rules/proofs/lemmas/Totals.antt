-- A path that goes on after an edge keeps having a prefix.
use Rattle.std.proofs.Common.{◌≡◌, ◌⊎◌, inl, inr, ℕ, Bool, true, false, List, [], ◌∷◌, ◌++◌, refl, sym, ap, ◌∙◌, subst, arith, append_assoc}
use Rattle.std.proofs.lemmas.List.Elements.{All-cons}
use Rattle.path_rules.specs.declared.rules.Rules.{Rules}
use Rattle.path_rules.specs.declared.rules.Rules.TheVariants as rules
use Rattle.path_rules.specs.Separators.{separates, Edge, IsField}
use Rattle.path_rules.specs.Prefix.{Kind, Verbatim, VerbatimUnc, VerbatimDisk, Device, Disk, Lead, VerbatimLead, DeviceLead, DoubleLead, DriveLead, NoLead, VerbatimLeads, UncLead, DiskLead, NameLead, upper, lead_of, verbatim_lead, IsUnc, IsShare, IsVerbatim, IsVerbatimBy, IsPrefixBy, IsPrefixOf}
use Rattle.path_rules.proofs.lemmas.Starts.{Tiny}
use Rattle.path_rules.proofs.lemmas.Keeps.{Shape, shape, two_bytes}

-- some kind and some rest
Some2 : (Kind → List ℕ → Type 0) → Type 0
Some2 P = (k : Kind) × ((rest : List ℕ) × P k rest)

pub some_field : (r : Rules) (s : List ℕ) → (f : List ℕ) × ((t : List ℕ) × IsField r s f t)
some_field r [] = ([], ([], record { joined = refl; plain = λ k d l. absurd (omega arith); edge = tt }))
some_field r (b ∷ s) = cases (separates r b) refl (some_field r s)
  where
    cases : (v : Bool) → separates r b ≡ v → (f : List ℕ) × ((t : List ℕ) × IsField r s f t) → (f : List ℕ) × ((t : List ℕ) × IsField r (b ∷ s) f t)
    cases true e q = ([], (b ∷ s, record { joined = refl; plain = λ k d l. absurd (omega arith); edge = e }))
    cases false e q =
        (b ∷ q.0, (q.1.0, record { joined = ap (λ x. b ∷ x) q.1.1.joined; plain = All-cons (λ c. separates r c ≡ false) b q.0 e q.1.1.plain; edge = q.1.1.edge }))

some_share : (after : List ℕ) → (share : List ℕ) × ((rest : List ℕ) × IsShare after share rest)
some_share [] = ([], ([], (refl, refl)))
some_share (c ∷ more) = from (some_field rules.Verbatim more)
  where
    from : (f : List ℕ) × ((t : List ℕ) × IsField rules.Verbatim more f t) → (share : List ℕ) × ((rest : List ℕ) × IsShare (c ∷ more) share rest)
    from ([], q) = ([], (c ∷ more, (q.0, (q.1, refl))))
    from (b ∷ f, q) = (b ∷ f, (q.0, q.1))

some_by : (l : VerbatimLeads) (u : List ℕ) → Some2 (IsVerbatimBy l u)
unfolding Some2
some_by (UncLead m) u =
    let f = some_field rules.Verbatim m in
    let s = some_share f.1.0 in
    (VerbatimUnc f.0 s.0, (s.1.0, record { server = f.0; after = f.1.0; share = s.0; is = refl; first = f.1.1; second = s.1.1 }))
some_by (DiskLead letter m) u = (VerbatimDisk (upper letter), (m, (refl, refl)))
some_by NameLead u = let f = some_field rules.Verbatim u in (Verbatim f.0, (f.1.0, record { name = f.0; is = refl; field = f.1.1 }))

some_verbatim : (u : List ℕ) → Some2 (IsVerbatim u)
unfolding Some2
some_verbatim u =
    let f = some_field rules.Either u in
    let q = some_by (verbatim_lead f.0 f.1.0) u in
    (q.0, (q.1.0, record { part = f.0; after = f.1.0; first = f.1.1; is = q.1.1 }))

-- what begins with `\\?\` has a prefix
pub verbatim_some : (u : List ℕ) → (k : Kind) × ((rest : List ℕ) × IsVerbatim u k rest)
unfolding Some2
verbatim_some u = some_verbatim u

longer_edge : (rest more : List ℕ) → Edge rules.Either rest → Edge rules.Either more → Edge rules.Either (rest ++ more)
longer_edge [] more h k = k
longer_edge (c ∷ rest) more h k = h

module _ (f more : List ℕ) (edge : Edge rules.Either more) where
  extend_by : (l : Lead) (k : Kind) (rest : List ℕ) → Shape f l → IsPrefixBy l k rest → Some2 (IsPrefixOf (f ++ more))
  unfolding Some2
  extend_by (VerbatimLead u) k rest s h =
      let q = some_verbatim (u ++ more) in
      let same : f ++ more ≡ s.before ++ (u ++ more) = ap (λ x. x ++ more) s.joined ∙ append_assoc s.before u more in
      (q.0, (q.1.0, subst (λ x. IsPrefixBy (lead_of x) q.0 q.1.0) (sym same) (subst (λ l. IsPrefixBy l q.0 q.1.0) (sym (s.stays (u ++ more))) q.1.1)))
  extend_by (DeviceLead u) k rest s h =
      let g = some_field rules.Either (u ++ more) in
      let same : f ++ more ≡ s.before ++ (u ++ more) = ap (λ x. x ++ more) s.joined ∙ append_assoc s.before u more in
      (Device g.0, (g.1.0, subst (λ x. IsPrefixBy (lead_of x) (Device g.0) g.1.0) (sym same) (subst (λ l. IsPrefixBy l (Device g.0) g.1.0) (sym (s.stays (u ++ more))) (record { name = g.0; is = refl; field = g.1.1 }))))
  extend_by (DriveLead letter u) k rest s h =
      let same : f ++ more ≡ s.before ++ (u ++ more) = ap (λ x. x ++ more) s.joined ∙ append_assoc s.before u more in
      (Disk (upper letter), (u ++ more, subst (λ x. IsPrefixBy (lead_of x) (Disk (upper letter)) (u ++ more)) (sym same) (subst (λ l. IsPrefixBy l (Disk (upper letter)) (u ++ more)) (sym (s.stays (u ++ more))) (refl, refl))))
  extend_by (DoubleLead u) k rest s h =
      let two = two_bytes h.server h.more h.separator h.some_server in
      let x = two.0 in
      let y = two.1.0 in
      let v = two.1.1.0 in
      let now : u ≡ x ∷ y ∷ v = h.first.joined ∙ two.1.1.1 in
      let later : u ++ more ≡ x ∷ y ∷ (v ++ more) = ap (λ z. z ++ more) now in
      let longer : IsUnc (u ++ more) k (rest ++ more) = record {
        server = h.server;
        separator = h.separator;
        more = h.more ++ more;
        share = h.share;
        is = h.is;
        first = record { joined = ap (λ z. z ++ more) h.first.joined ∙ append_assoc h.server (h.separator ∷ h.more) more; plain = h.first.plain; edge = h.first.edge };
        second = record { joined = ap (λ z. z ++ more) h.second.joined ∙ append_assoc h.share rest more; plain = h.second.plain; edge = longer_edge rest more h.second.edge edge };
        some_server = h.some_server;
        some_share = h.some_share;
      } in
      let same : f ++ more ≡ s.a ∷ s.b ∷ (x ∷ y ∷ (v ++ more)) = ap (λ z. z ++ more) s.joined ∙ ap (λ z. s.a ∷ s.b ∷ z) later in
      (k, (rest ++ more, subst (λ z. IsPrefixBy (lead_of z) k (rest ++ more)) (sym same) (subst (λ l. IsPrefixBy l k (rest ++ more)) (sym (s.stays x y v (v ++ more) now)) (subst (λ z. IsUnc z k (rest ++ more)) later longer))))
  extend_by NoLead k rest s h = absurd h

-- what has no prefix has none up to a separator, nor in its first byte
tiny_none : (f : List ℕ) → Tiny f → (k : Kind) (rest : List ℕ) → ¬ (IsPrefixOf f k rest)
tiny_none [] t k rest h = h
tiny_none (b ∷ []) t k rest h = h
tiny_none (b ∷ c ∷ f) t k rest h = t

pub none_by_cut : (s f more : List ℕ) → s ≡ f ++ more → (Tiny f ⊎ Edge rules.Either more) → ((k : Kind) (rest : List ℕ) → ¬ (IsPrefixOf s k rest)) → (k : Kind) (rest : List ℕ) → ¬ (IsPrefixOf f k rest)
unfolding Some2
none_by_cut s f more e (inl t) none = tiny_none f t
none_by_cut s f more e (inr edge) none = λ k rest h.
    let q = extend_by f more edge (lead_of f) k rest (shape f) h in
    none q.0 q.1.0 (subst (λ x. IsPrefixOf x q.0 q.1.0) (sym e) q.1.1)
