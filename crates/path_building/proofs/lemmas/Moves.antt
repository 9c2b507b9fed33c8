-- A prefix stays before anything that begins with a separator, unless it is a share that grows.
use Rattle.std.proofs.Common.{◌≡◌, ◌≢◌, ◌⊎◌, inl, inr, ℕ, Bool, true, false, ◌&&◌, nat_eq, if◌then◌else◌, List, [], ◌∷◌, ◌++◌, refl, sym, ap, ◌∙◌, subst, append_assoc, append-nil, eqb-true}
use Rattle.path_rules.specs.declared.rules.Rules.{Rules}
use Rattle.path_rules.specs.declared.rules.Rules.TheVariants as rules
use Rattle.path_rules.specs.Separators.{Edge, IsField}
use Rattle.path_rules.specs.Prefix.{Kind, Verbatim, VerbatimUnc, VerbatimDisk, Device, Unc, Disk, Lead, VerbatimLead, DeviceLead, DoubleLead, DriveLead, NoLead, VerbatimLeads, UncLead, DiskLead, NameLead, is_letter, upper, lead_of, verbatim_lead, IsUnc, IsShare, IsVerbatimUnc, IsNamed, IsVerbatim, IsVerbatimBy, IsPrefixBy, IsPrefixOf}
use Rattle.path_building.specs.Base.{unc}
use Rattle.path_rules.proofs.lemmas.Edges.{either_edge}
use Rattle.path_rules.proofs.lemmas.Keeps.{Kept, KeptShare, longer, name_stays, unc_stays, disk_stays, Shape, shape, Fixed, two_bytes}

-- empty, or what comes after the first byte begins with a separator
abbrev pub IsDoubled : List ℕ → Type 0
IsDoubled [] = Unit {0}
IsDoubled (c ∷ t) = Edge rules.Verbatim t

-- what may come after a prefix in place of the rest; after one alone nothing, unless it is whole
pub record MayFollow (Whole : Type 0) (rest t : List ℕ) : Type 0 where
  pub edge : Edge rules.Verbatim t
  pub none : rest ≡ [] → (t ≡ []) ⊎ Whole

abbrev pub Fits : Kind → List ℕ → List ℕ → Type 0
Fits (Verbatim name) rest t = MayFollow (name ≢ unc) rest t
Fits (VerbatimUnc server share) rest t = MayFollow (share ≢ []) rest t × (share ≡ [] → IsDoubled t)
Fits (VerbatimDisk letter) rest t = MayFollow (Unit {0}) rest t
Fits (Device name) rest t = Edge rules.Verbatim t
Fits (Unc server share) rest t = Edge rules.Verbatim t
Fits (Disk letter) rest t = Unit {0}

move_named : (r : Rules) (N : List ℕ → Kind) (u : List ℕ) (k : Kind) (rest t : List ℕ) → Edge r t → IsNamed r N u k rest → Kept (IsNamed r N) u k rest t
move_named r N u k rest t e h = record {
  before = h.name;
  joined = h.field.joined;
  kept = record { name = h.name; is = h.is; field = record { joined = refl; plain = h.field.plain; edge = e } };
}

move_unc : (u : List ℕ) (k : Kind) (rest t : List ℕ) → Edge rules.Either t → (h : IsUnc u k rest) → Kept IsUnc u k rest t
move_unc u k rest t e h = record {
  before = h.server ++ h.separator ∷ h.share;
  joined = h.first.joined ∙ ap (λ x. h.server ++ h.separator ∷ x) h.second.joined ∙ sym (append_assoc h.server (h.separator ∷ h.share) rest);
  kept = record {
    server = h.server;
    separator = h.separator;
    more = h.share ++ t;
    share = h.share;
    is = h.is;
    first = record { joined = append_assoc h.server (h.separator ∷ h.share) t; plain = h.first.plain; edge = h.first.edge };
    second = record { joined = refl; plain = h.second.plain; edge = e };
    some_server = h.some_server;
    some_share = h.some_share;
  };
}

move_share : (after share rest t : List ℕ) → MayFollow (share ≢ []) rest t → (share ≡ [] → IsDoubled t) → Edge rules.Verbatim after → IsShare after share rest → KeptShare after share rest t
move_share [] share rest [] m d edge h = record { before = []; joined = sym h.1; kept = (h.0, refl); edge = tt }
move_share [] share rest (b ∷ t) m d edge h = elim (m.none h.1) [
  | inl e ↦ cc
  | inr n ↦ absurd (n h.0)
]
move_share (c ∷ after) [] rest [] m d edge h = record { before = []; joined = sym h.1.1; kept = (refl, refl); edge = tt }
move_share (c ∷ after) [] rest (b ∷ t) m d edge h = record {
  before = [];
  joined = sym h.1.1;
  kept = (t, (record { joined = refl; plain = h.1.0.plain; edge = d refl }, refl));
  edge = m.edge;
}
move_share (c ∷ after) (b ∷ share) rest t m d edge h = record {
  before = c ∷ b ∷ share;
  joined = ap (λ x. c ∷ x) h.joined;
  kept = record { joined = refl; plain = h.plain; edge = m.edge };
  edge = edge;
}

move_verbatim_unc : (u : List ℕ) (k : Kind) (rest t : List ℕ) → Fits k rest t → IsVerbatimUnc u k rest → Kept IsVerbatimUnc u k rest t
move_verbatim_unc u k rest t fits h =
    let f : Fits (VerbatimUnc h.server h.share) rest t = subst (λ x. Fits x rest t) h.is fits in
    let s = move_share h.after h.share rest t f.0 f.1 h.first.edge h.second in
    record {
      before = h.server ++ s.before;
      joined = h.first.joined ∙ ap (λ x. h.server ++ x) s.joined ∙ sym (append_assoc h.server s.before rest);
      kept = record {
        server = h.server;
        after = s.before ++ t;
        share = h.share;
        is = h.is;
        first = record { joined = append_assoc h.server s.before t; plain = h.first.plain; edge = s.edge };
        second = s.kept;
      };
    }

-- a name that isn't `UNC` alone stays one whatever follows
name_whole : (part other : List ℕ) → part ≢ unc → verbatim_lead part [] ≡ NameLead → verbatim_lead part other ≡ NameLead
name_whole [] other n e = refl
name_whole (a ∷ []) other n e = refl
name_whole (a ∷ b ∷ []) other n e = cases (is_letter a && nat_eq b 0x3A) e
  where
    cases : (v : Bool) → (if v then DiskLead a [] else NameLead) ≡ NameLead → (if v then DiskLead a other else NameLead) ≡ NameLead
    cases true f = let never : DiskLead a [] ≡ NameLead = f in cc
    cases false f = refl
name_whole (a ∷ b ∷ c ∷ []) [] n e = refl
name_whole (a ∷ b ∷ c ∷ []) (d ∷ other) n e = cases (nat_eq a 0x55) (nat_eq b 0x4E) (nat_eq c 0x43) refl refl refl
  where
    cases : (p q v : Bool) → nat_eq a 0x55 ≡ p → nat_eq b 0x4E ≡ q → nat_eq c 0x43 ≡ v → (if p && q && v then UncLead other else NameLead) ≡ NameLead
    cases true true true f g h = absurd (n (ap (λ z. z ∷ b ∷ c ∷ []) (eqb-true a 0x55 f) ∙ ap (λ z. 0x55 ∷ z ∷ c ∷ []) (eqb-true b 0x4E g) ∙ ap (λ z. 0x55 ∷ 0x4E ∷ z ∷ []) (eqb-true c 0x43 h)))
    cases true true false f g h = refl
    cases true false v f g h = refl
    cases false q v f g h = refl
name_whole (a ∷ b ∷ c ∷ d ∷ part) other n e = refl

name_stays_or : (part after other : List ℕ) → (after ≡ [] → (other ≡ []) ⊎ (part ≢ unc)) → verbatim_lead part after ≡ NameLead → verbatim_lead part other ≡ NameLead
name_stays_or part (d ∷ after) other f e = name_stays part (d ∷ after) other (λ z. cc) e
name_stays_or part [] other f e = elim (f refl) [
  | inl z ↦ name_stays part [] other (λ k. z) e
  | inr n ↦ name_whole part other n e
]

move_verbatim : (v : VerbatimLeads) (u part after : List ℕ) (k : Kind) (rest t : List ℕ) → Fits k rest t → IsField rules.Either u part after → verbatim_lead part after ≡ v → IsVerbatimBy v u k rest → Kept IsVerbatim u k rest t
move_verbatim (UncLead m) u part after k rest t fits f l h =
    let s = unc_stays part after m [] l in
    let q = move_verbatim_unc m k rest t fits h in
    let d = s.0 in
    record {
      before = part ++ d ∷ q.before;
      joined = f.joined ∙ ap (λ x. part ++ x) (s.1.0 ∙ ap (λ x. d ∷ x) q.joined) ∙ sym (append_assoc part (d ∷ q.before) rest);
      kept = record {
        part = part;
        after = d ∷ (q.before ++ t);
        first = record { joined = append_assoc part (d ∷ q.before) t; plain = f.plain; edge = subst (Edge rules.Either) s.1.0 f.edge };
        is = subst (λ x. IsVerbatimBy x ((part ++ d ∷ q.before) ++ t) k t) (sym (s.1.1 (q.before ++ t))) q.kept;
      };
    }
move_verbatim (DiskLead letter m) u part after k rest t fits f l h =
    let s = disk_stays part after m letter l in
    let may : MayFollow (Unit {0}) rest t = subst (λ x. Fits x rest t) h.0 fits in
    record {
      before = part;
      joined = f.joined ∙ ap (λ x. part ++ x) (s.0 ∙ sym h.1);
      kept = record {
        part = part;
        after = t;
        first = record { joined = refl; plain = f.plain; edge = either_edge t may.edge };
        is = subst (λ x. IsVerbatimBy x (part ++ t) k t) (sym (s.1 t)) (h.0, refl);
      };
    }
move_verbatim NameLead u part after k rest t fits f l h =
    let may : MayFollow (h.name ≢ unc) rest t = subst (λ x. Fits x rest t) h.is fits in
    let n = longer part after h.name rest (sym f.joined ∙ h.field.joined) f.plain h.field.edge in
    let whole : h.name ++ t ≡ part ++ (n.between ++ t) = ap (λ x. x ++ t) n.longer ∙ append_assoc part n.between t in
    let empty : after ≡ [] → (n.between ++ t ≡ []) ⊎ (part ≢ unc) = λ z. both_empty h.name n.between may n.longer (sym n.remains ∙ z) in
    record {
      before = h.name;
      joined = h.field.joined;
      kept = record {
        part = part;
        after = n.between ++ t;
        first = record { joined = whole; plain = f.plain; edge = edge_between n.between n.remains f.edge may.edge };
        is = subst (λ x. IsVerbatimBy x (h.name ++ t) k t) (sym (name_stays_or part after (n.between ++ t) empty l)) (record { name = h.name; is = h.is; field = record { joined = refl; plain = h.field.plain; edge = may.edge } });
      };
    }
  where
    both_empty : (name b : List ℕ) → MayFollow (name ≢ unc) rest t → name ≡ part ++ b → b ++ rest ≡ [] → (b ++ t ≡ []) ⊎ (part ≢ unc)
    both_empty name [] m j z = elim (m.none z) [
      | inl e ↦ inl e
      | inr n ↦ inr (λ u. n (j ∙ append-nil part ∙ u))
    ]
    both_empty name (c ∷ b) m j z = cc

    edge_between : (b : List ℕ) → after ≡ b ++ rest → Edge rules.Either after → Edge rules.Verbatim t → Edge rules.Either (b ++ t)
    edge_between [] z h v = either_edge t v
    edge_between (c ∷ b) z h v = subst (Edge rules.Either) z h

module _ (s : List ℕ) (k : Kind) (rest t : List ℕ) (fits : Fits k rest t) where
  from_fixed : (Led : List ℕ → Lead) (P : List ℕ → Kind → List ℕ → Type 0) → ((w : List ℕ) → P w k t → IsPrefixBy (Led w) k t) → (u : List ℕ) → Fixed Led s u → Kept P u k rest t → Kept IsPrefixOf s k rest t
  from_fixed Led P give u f q = record {
    before = f.before ++ q.before;
    joined = f.joined ∙ ap (λ x. f.before ++ x) q.joined ∙ sym (append_assoc f.before q.before rest);
    kept = subst (λ x. IsPrefixBy (lead_of x) k t) (sym (append_assoc f.before q.before t)) (subst (λ l. IsPrefixBy l k t) (sym (f.stays (q.before ++ t))) (give (q.before ++ t) q.kept));
  }

  move_by : (l : Lead) → Shape s l → IsPrefixBy l k rest → Kept IsPrefixOf s k rest t
  unfolding move_unc
  move_by (VerbatimLead u) f h = from_fixed VerbatimLead IsVerbatim (λ w p. p) u f (move_verbatim (verbatim_lead h.part h.after) u h.part h.after k rest t fits h.first refl h.is)
  move_by (DeviceLead u) f h =
      let e : Edge rules.Verbatim t = subst (λ x. Fits x rest t) h.is fits in
      from_fixed DeviceLead (IsNamed rules.Either Device) (λ w p. p) u f (move_named rules.Either Device u k rest t (either_edge t e) h)
  move_by (DriveLead letter u) f h =
      from_fixed (DriveLead letter) (λ w j v. (j ≡ Disk (upper letter)) × (v ≡ w)) (λ w p. p) u f (record { before = []; joined = sym h.1; kept = (h.0, refl) })
  move_by (DoubleLead u) f h =
      let e : Edge rules.Verbatim t = subst (λ x. Fits x rest t) h.is fits in
      let q = move_unc u k rest t (either_edge t e) h in
      let two = two_bytes h.server h.share h.separator h.some_server in
      let x = two.0 in
      let y = two.1.0 in
      let v = two.1.1.0 in
      let begins : q.before ≡ x ∷ y ∷ v = two.1.1.1 in
      let now : u ≡ x ∷ y ∷ (v ++ rest) = q.joined ∙ ap (λ z. z ++ rest) begins in
      let later : q.before ++ t ≡ x ∷ y ∷ (v ++ t) = ap (λ z. z ++ t) begins in
      record {
        before = f.a ∷ f.b ∷ q.before;
        joined = f.joined ∙ ap (λ z. f.a ∷ f.b ∷ z) q.joined;
        kept = subst (λ z. IsPrefixBy (lead_of (f.a ∷ f.b ∷ z)) k t) (sym later) (subst (λ l. IsPrefixBy l k t) (sym (f.stays x y (v ++ rest) (v ++ t) now)) (subst (λ z. IsUnc z k t) later q.kept));
      }
  move_by NoLead f h = absurd h

-- a prefix stays where what follows it is replaced
pub prefix_moves : (s : List ℕ) (k : Kind) (rest t : List ℕ) → Fits k rest t → IsPrefixOf s k rest → Kept IsPrefixOf s k rest t
prefix_moves s k rest t fits h = move_by s k rest t fits (lead_of s) (shape s) h
