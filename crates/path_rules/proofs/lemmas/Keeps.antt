-- A prefix stays where the path is cut after it, and none comes by a cut before a separator.
use Rattle.std.proofs.Common.{◌≡◌, ◌≢◌, ℕ, Bool, true, false, ◌&&◌, ◌||◌, nat_eq, if◌then◌else◌, List, [], ◌∷◌, ◌++◌, refl, sym, ap, ◌∙◌, subst, append_assoc}
use Rattle.std.proofs.lemmas.List.Elements.{All-head, All-tail}
use Rattle.path_rules.specs.declared.rules.Rules.{Rules}
use Rattle.path_rules.specs.declared.rules.Rules.TheVariants as rules
use Rattle.path_rules.specs.Separators.{separates, IsPlain, Edge, IsField}
use Rattle.path_rules.specs.Prefix.{Kind, Device, Disk, Lead, VerbatimLead, DeviceLead, DoubleLead, DriveLead, NoLead, VerbatimLeads, UncLead, DiskLead, NameLead, is_letter, upper, double_lead, lead_of, verbatim_lead, IsUnc, IsShare, IsVerbatimUnc, IsNamed, IsVerbatim, IsVerbatimBy, IsPrefixBy, IsPrefixOf}
use Rattle.path_rules.proofs.lemmas.Edges.{either_edge}

-- what is relates the path, cut to t after it, and the kind
pub record Kept (P : List ℕ → Kind → List ℕ → Type 0) (u : List ℕ) (kind : Kind) (rest t : List ℕ) : Type 0 where
  pub before : List ℕ
  pub joined : u ≡ before ++ rest
  pub kept : P (before ++ t) kind t

pub edge_before : (r : Rules) (t more : List ℕ) → Edge r (t ++ more) → Edge r t
edge_before r [] more h = tt
edge_before r (c ∷ t) more h = h

cut_field : (r : Rules) (u f rest t more : List ℕ) → rest ≡ t ++ more → IsField r u f rest → IsField r (f ++ t) f t
cut_field r u f rest t more e h = record { joined = refl; plain = h.plain; edge = edge_before r t more (subst (Edge r) e h.edge) }

keep_named : (r : Rules) (N : List ℕ → Kind) (u : List ℕ) (k : Kind) (rest t more : List ℕ) → rest ≡ t ++ more → IsNamed r N u k rest → Kept (IsNamed r N) u k rest t
keep_named r N u k rest t more e h = record {
  before = h.name;
  joined = h.field.joined;
  kept = record { name = h.name; is = h.is; field = cut_field r u h.name rest t more e h.field };
}

keep_unc : (u : List ℕ) (k : Kind) (rest t more : List ℕ) → rest ≡ t ++ more → IsUnc u k rest → Kept IsUnc u k rest t
keep_unc u k rest t more e h = record {
  before = h.server ++ h.separator ∷ h.share;
  joined = h.first.joined ∙ ap (λ x. h.server ++ h.separator ∷ x) h.second.joined ∙ sym (append_assoc h.server (h.separator ∷ h.share) rest);
  kept = record {
    server = h.server;
    separator = h.separator;
    more = h.share ++ t;
    share = h.share;
    is = h.is;
    first = record { joined = append_assoc h.server (h.separator ∷ h.share) t; plain = h.first.plain; edge = h.first.edge };
    second = cut_field rules.Either h.more h.share rest t more e h.second;
    some_server = h.some_server;
    some_share = h.some_share;
  };
}

pub record KeptShare (after share rest t : List ℕ) : Type 0 where
  pub before : List ℕ
  pub joined : after ≡ before ++ rest
  pub kept : IsShare (before ++ t) share t
  pub edge : Edge rules.Verbatim (before ++ t)

keep_share : (after share rest t more : List ℕ) → rest ≡ t ++ more → Edge rules.Verbatim after → IsShare after share rest → KeptShare after share rest t
keep_share [] share rest [] more e edge h = record { before = []; joined = sym h.1; kept = (h.0, refl); edge = tt }
keep_share [] share rest (d ∷ t) more e edge h = let never : d ∷ (t ++ more) ≡ [] = sym e ∙ h.1 in cc
keep_share (c ∷ m) [] rest [] more e edge h = record { before = []; joined = sym h.1.1; kept = (refl, refl); edge = tt }
keep_share (c ∷ m) [] rest (d ∷ t) more e edge h =
    let whole : c ∷ m ≡ d ∷ (t ++ more) = sym h.1.1 ∙ e in
    let first : c ≡ d = cc in
    let later : m ≡ t ++ more = cc in
    let later_edge : Edge rules.Verbatim m = subst (Edge rules.Verbatim) (sym h.1.0.joined) h.1.0.edge in
    record {
      before = [];
      joined = sym h.1.1;
      kept = (t, (record { joined = refl; plain = h.1.0.plain; edge = edge_before rules.Verbatim t more (subst (Edge rules.Verbatim) later later_edge) }, refl));
      edge = subst (λ x. separates rules.Verbatim x ≡ true) first edge;
    }
keep_share (c ∷ m) (b ∷ share) rest t more e edge h = record {
  before = c ∷ b ∷ share;
  joined = ap (λ x. c ∷ x) h.joined;
  kept = cut_field rules.Verbatim m (b ∷ share) rest t more e h;
  edge = edge;
}

keep_verbatim_unc : (u : List ℕ) (k : Kind) (rest t more : List ℕ) → rest ≡ t ++ more → IsVerbatimUnc u k rest → Kept IsVerbatimUnc u k rest t
keep_verbatim_unc u k rest t more e h =
    let s = keep_share h.after h.share rest t more e h.first.edge h.second in
    record {
      before = h.server ++ s.before;
      joined = h.first.joined ∙ ap (λ x. h.server ++ x) s.joined ∙ sym (append_assoc h.server s.before rest);
      kept = record {
        server = h.server;
        after = s.before ++ t;
        share = h.share;
        is = h.is;
        first = record { joined = append_assoc h.server s.before t; plain = h.first.plain; edge = s.edge };
        second = s.kept;
      };
    }

-- a verbatim name goes at least up to the first separator of either kind
pub record Longer (part after name rest : List ℕ) : Type 0 where
  pub between : List ℕ
  pub longer : name ≡ part ++ between
  pub remains : after ≡ between ++ rest

either_plain : (b : ℕ) → separates rules.Either b ≡ false → separates rules.Verbatim b ≡ false
either_plain b e = or_false (nat_eq b 0x2F) (nat_eq b 0x5C) e
  where
    or_false : (p q : Bool) → (p || q) ≡ false → q ≡ false
    or_false true q f = let never : true ≡ false = f in cc
    or_false false q f = f

pub longer : (part after name rest : List ℕ) → part ++ after ≡ name ++ rest → IsPlain rules.Either part → Edge rules.Verbatim rest → Longer part after name rest
longer [] after name rest e p h = record { between = name; longer = refl; remains = e }
longer (a ∷ part) after [] rest e p h =
    let yes : separates rules.Verbatim a ≡ true = subst (Edge rules.Verbatim) (sym e) h in
    let no : separates rules.Verbatim a ≡ false = either_plain a (All-head (λ c. separates rules.Either c ≡ false) a part p) in
    let never : false ≡ true = sym no ∙ yes in cc
longer (a ∷ part) after (b ∷ name) rest e p h =
    let first : a ≡ b = cc in
    let later : part ++ after ≡ name ++ rest = cc in
    let l = longer part after name rest later (All-tail (λ c. separates rules.Either c ≡ false) a part p) h in
    let names : name ≡ part ++ l.between = l.longer in
    record { between = l.between; longer = ap (λ x. b ∷ x) names ∙ ap (λ x. x ∷ (part ++ l.between)) (sym first); remains = l.remains }

-- what isn't chosen
not_chosen : {X : Type 0} (b : Bool) (x y : X) → (if b then x else y) ≡ y → ((x ≡ y) → ⊥) → b ≡ false
not_chosen true x y e n = absurd (n e)
not_chosen false x y e n = refl

pub name_stays : (part after other : List ℕ) → (after ≡ [] → other ≡ []) → verbatim_lead part after ≡ NameLead → verbatim_lead part other ≡ NameLead
name_stays [] after other f e = refl
name_stays (a ∷ []) after other f e = refl
name_stays (a ∷ b ∷ []) after other f e =
    let no = not_chosen (is_letter a && nat_eq b 0x3A) (DiskLead a after) NameLead e (λ x. cc) in
    ap (λ x. if x then DiskLead a other else NameLead) no
name_stays (a ∷ b ∷ c ∷ []) [] other f e = ap (verbatim_lead (a ∷ b ∷ c ∷ [])) (f refl)
name_stays (a ∷ b ∷ c ∷ []) (d ∷ more) [] f e = refl
name_stays (a ∷ b ∷ c ∷ []) (d ∷ more) (g ∷ other) f e =
    let no = not_chosen (nat_eq a 0x55 && nat_eq b 0x4E && nat_eq c 0x43) (UncLead more) NameLead e (λ x. cc) in
    ap (λ x. if x then UncLead other else NameLead) no
name_stays (a ∷ b ∷ c ∷ d ∷ part) after other f e = refl

-- where the first part is followed by something, its lead is the same before anything else
pub unc_stays : (part after m other : List ℕ) → verbatim_lead part after ≡ UncLead m → (d : ℕ) × ((after ≡ d ∷ m) × ((w : List ℕ) → verbatim_lead part (d ∷ w) ≡ UncLead w))
unc_stays [] after m other e = let never : NameLead ≡ UncLead m = e in cc
unc_stays (a ∷ []) after m other e = let never : NameLead ≡ UncLead m = e in cc
unc_stays (a ∷ b ∷ []) after m other e = absurd (no (is_letter a && nat_eq b 0x3A) e)
  where
    no : (x : Bool) → (if x then DiskLead a after else NameLead) ≡ UncLead m → ⊥
    no true f = cc
    no false f = cc
unc_stays (a ∷ b ∷ c ∷ []) [] m other e = let never : NameLead ≡ UncLead m = e in cc
unc_stays (a ∷ b ∷ c ∷ []) (d ∷ more) m other e = (d, both (nat_eq a 0x55 && nat_eq b 0x4E && nat_eq c 0x43) e)
  where
    both : (x : Bool) → (if x then UncLead more else NameLead) ≡ UncLead m → (d ∷ more ≡ d ∷ m) × ((w : List ℕ) → (if x then UncLead w else NameLead) ≡ UncLead w)
    both true f = let same : more ≡ m = cc in (ap (λ y. d ∷ y) same, λ w. refl)
    both false f = let never : NameLead ≡ UncLead m = f in cc
unc_stays (a ∷ b ∷ c ∷ d ∷ part) after m other e = let never : NameLead ≡ UncLead m = e in cc

pub disk_stays : (part after m : List ℕ) (l : ℕ) → verbatim_lead part after ≡ DiskLead l m → (after ≡ m) × ((w : List ℕ) → verbatim_lead part w ≡ DiskLead l w)
disk_stays [] after m l e = let never : NameLead ≡ DiskLead l m = e in cc
disk_stays (a ∷ []) after m l e = let never : NameLead ≡ DiskLead l m = e in cc
disk_stays (a ∷ b ∷ []) after m l e = both (is_letter a && nat_eq b 0x3A) e
  where
    both : (x : Bool) → (if x then DiskLead a after else NameLead) ≡ DiskLead l m → (after ≡ m) × ((w : List ℕ) → (if x then DiskLead a w else NameLead) ≡ DiskLead l w)
    both true f = let same : a ≡ l = cc in let rests : after ≡ m = cc in (rests, λ w. ap (λ y. DiskLead y w) same)
    both false f = let never : NameLead ≡ DiskLead l m = f in cc
disk_stays (a ∷ b ∷ c ∷ []) [] m l e = let never : NameLead ≡ DiskLead l m = e in cc
disk_stays (a ∷ b ∷ c ∷ []) (d ∷ more) m l e = absurd (no (nat_eq a 0x55 && nat_eq b 0x4E && nat_eq c 0x43) e)
  where
    no : (x : Bool) → (if x then UncLead more else NameLead) ≡ DiskLead l m → ⊥
    no true f = cc
    no false f = cc
disk_stays (a ∷ b ∷ c ∷ d ∷ part) after m l e = let never : NameLead ≡ DiskLead l m = e in cc

keep_verbatim : (v : VerbatimLeads) (u part after : List ℕ) (k : Kind) (rest t more : List ℕ) → rest ≡ t ++ more → IsField rules.Either u part after → verbatim_lead part after ≡ v → IsVerbatimBy v u k rest → Kept IsVerbatim u k rest t
keep_verbatim (UncLead m) u part after k rest t more e f l h =
    let s = unc_stays part after m [] l in
    let q = keep_verbatim_unc m k rest t more e h in
    let d = s.0 in
    record {
      before = part ++ d ∷ q.before;
      joined = f.joined ∙ ap (λ x. part ++ x) (s.1.0 ∙ ap (λ x. d ∷ x) q.joined) ∙ sym (append_assoc part (d ∷ q.before) rest);
      kept = record {
        part = part;
        after = d ∷ (q.before ++ t);
        first = record { joined = append_assoc part (d ∷ q.before) t; plain = f.plain; edge = subst (Edge rules.Either) s.1.0 f.edge };
        is = subst (λ x. IsVerbatimBy x ((part ++ d ∷ q.before) ++ t) k t) (sym (s.1.1 (q.before ++ t))) q.kept;
      };
    }
keep_verbatim (DiskLead letter m) u part after k rest t more e f l h =
    let s = disk_stays part after m letter l in
    let same_rest : after ≡ rest = s.0 ∙ sym h.1 in
    record {
      before = part;
      joined = f.joined ∙ ap (λ x. part ++ x) same_rest;
      kept = record {
        part = part;
        after = t;
        first = record { joined = refl; plain = f.plain; edge = edge_before rules.Either t more (subst (Edge rules.Either) (same_rest ∙ e) f.edge) };
        is = subst (λ x. IsVerbatimBy x (part ++ t) k t) (sym (s.1 t)) (h.0, refl);
      };
    }
keep_verbatim NameLead u part after k rest t more e f l h =
    let n = longer part after h.name rest (sym f.joined ∙ h.field.joined) f.plain h.field.edge in
    let whole : h.name ++ t ≡ part ++ (n.between ++ t) = ap (λ x. x ++ t) n.longer ∙ append_assoc part n.between t in
    let empty : after ≡ [] → n.between ++ t ≡ [] = λ z. both_empty n.between rest t more e (sym n.remains ∙ z) in
    record {
      before = h.name;
      joined = h.field.joined;
      kept = record {
        part = part;
        after = n.between ++ t;
        first = record { joined = whole; plain = f.plain; edge = edge_between n.between rest t more e n.remains f.edge h.field.edge };
        is = subst (λ x. IsVerbatimBy x (h.name ++ t) k t) (sym (name_stays part after (n.between ++ t) empty l)) (record { name = h.name; is = h.is; field = cut_field rules.Verbatim u h.name rest t more e h.field });
      };
    }
  where
    both_empty : (b rest t more : List ℕ) → rest ≡ t ++ more → b ++ rest ≡ [] → b ++ t ≡ []
    both_empty [] rest [] more e z = refl
    both_empty [] rest (c ∷ t) more e z = let never : c ∷ (t ++ more) ≡ [] = sym e ∙ z in cc
    both_empty (c ∷ b) rest t more e z = cc

    edge_between : (b rest t more : List ℕ) → rest ≡ t ++ more → after ≡ b ++ rest → Edge rules.Either after → Edge rules.Verbatim rest → Edge rules.Either (b ++ t)
    edge_between [] rest t more e z h v = edge_before rules.Either t more (subst (Edge rules.Either) e (either_edge rest v))
    edge_between (c ∷ b) rest t more e z h v = subst (Edge rules.Either) z h

pub keep_after_verbatim : (u : List ℕ) (k : Kind) (rest t more : List ℕ) → rest ≡ t ++ more → IsVerbatim u k rest → Kept IsVerbatim u k rest t
keep_after_verbatim u k rest t more e h = keep_verbatim (verbatim_lead h.part h.after) u h.part h.after k rest t more e h.first refl h.is

-- how a path begins, by the tests of its first bytes
whole : Bool → Bool → Bool → Bool → ℕ → List ℕ → List ℕ → Lead
whole T V D L a w x = if T then (if V then VerbatimLead w else (if D then DeviceLead w else DoubleLead x)) else (if L then DriveLead a x else NoLead)

-- the path's first bytes, after which it begins so whatever comes
pub record Fixed (Led : List ℕ → Lead) (s u : List ℕ) : Type 0 where
  pub before : List ℕ
  pub joined : s ≡ before ++ u
  pub stays : (w : List ℕ) → lead_of (before ++ w) ≡ Led w

-- the same of two separators, and of two bytes more
pub record FixedDouble (s u : List ℕ) : Type 0 where
  pub a : ℕ
  pub b : ℕ
  pub joined : s ≡ a ∷ b ∷ u
  pub stays : (c d : ℕ) (v w : List ℕ) → u ≡ c ∷ d ∷ v → lead_of (a ∷ b ∷ c ∷ d ∷ w) ≡ DoubleLead (c ∷ d ∷ w)

abbrev pub Shape : List ℕ → Lead → Type 0
Shape s (VerbatimLead u) = Fixed VerbatimLead s u
Shape s (DeviceLead u) = Fixed DeviceLead s u
Shape s (DoubleLead u) = FixedDouble s u
Shape s (DriveLead l u) = Fixed (DriveLead l) s u
Shape s NoLead = Unit {0}

-- of a choice of two both are so, each where it is chosen
by_test : (P : Lead → Type 0) (b : Bool) (x y : Lead) → (b ≡ true → P x) → (b ≡ false → P y) → P (if b then x else y)
by_test P true x y p q = p refl
by_test P false x y p q = q refl

module _ (a b : ℕ) where
  T : Bool
  T = separates rules.Either a && separates rules.Either b

  L : Bool
  L = is_letter a && nat_eq b 0x3A

  led : (w : List ℕ) → lead_of (a ∷ b ∷ w) ≡ (if T then double_lead a b w else (if L then DriveLead a w else NoLead))
  unfolding T L
  led w = refl

  led_double : T ≡ true → (w : List ℕ) → lead_of (a ∷ b ∷ w) ≡ double_lead a b w
  led_double e w = led w ∙ ap (λ x. if x then double_lead a b w else (if L then DriveLead a w else NoLead)) e

  led_drive : T ≡ false → L ≡ true → (w : List ℕ) → lead_of (a ∷ b ∷ w) ≡ DriveLead a w
  led_drive e f w = led w ∙ ap (λ x. if x then double_lead a b w else (if L then DriveLead a w else NoLead)) e ∙ ap (λ x. if x then DriveLead a w else NoLead) f

  double_shape : T ≡ true → (u : List ℕ) → Shape (a ∷ b ∷ u) (double_lead a b u)
  double_shape e [] = record { a = a; b = b; joined = refl; stays = λ c d v w z. cc }
  double_shape e (c ∷ []) = record { a = a; b = b; joined = refl; stays = λ x d v w z. cc }
  double_shape e (c ∷ d ∷ u) =
      by_test (Shape (a ∷ b ∷ c ∷ d ∷ u)) V (VerbatimLead u) (if D then DeviceLead u else DoubleLead (c ∷ d ∷ u))
      (λ f. record { before = a ∷ b ∷ c ∷ d ∷ []; joined = refl; stays = λ w. led_double e (c ∷ d ∷ w) ∙ ap (λ x. if x then VerbatimLead w else (if D then DeviceLead w else DoubleLead (c ∷ d ∷ w))) f })
      (λ f. by_test (Shape (a ∷ b ∷ c ∷ d ∷ u)) D (DeviceLead u) (DoubleLead (c ∷ d ∷ u))
      (λ g. record { before = a ∷ b ∷ c ∷ d ∷ []; joined = refl; stays = λ w. led_double e (c ∷ d ∷ w) ∙ ap (λ x. if x then VerbatimLead w else (if D then DeviceLead w else DoubleLead (c ∷ d ∷ w))) f ∙ ap (λ x. if x then DeviceLead w else DoubleLead (c ∷ d ∷ w)) g })
      (λ g. record {
        a = a;
        b = b;
        joined = refl;
        stays = λ x y v w z.
            let first : c ≡ x = cc in
            let second : d ≡ y = cc in
            subst (λ k. lead_of (a ∷ b ∷ k) ≡ DoubleLead k) (ap (λ k. k ∷ d ∷ w) first ∙ ap (λ k. x ∷ k ∷ w) second)
            (led_double e (c ∷ d ∷ w) ∙ ap (λ k. if k then VerbatimLead w else (if D then DeviceLead w else DoubleLead (c ∷ d ∷ w))) f ∙ ap (λ k. if k then DeviceLead w else DoubleLead (c ∷ d ∷ w)) g);
      }))
    where
      V : Bool
      V = nat_eq a 0x5C && nat_eq b 0x5C && nat_eq c 0x3F && nat_eq d 0x5C

      D : Bool
      D = nat_eq c 0x2E && separates rules.Either d

  two_shape : (u : List ℕ) → Shape (a ∷ b ∷ u) (lead_of (a ∷ b ∷ u))
  two_shape u =
      subst (Shape (a ∷ b ∷ u)) (sym (led u))
      (by_test (Shape (a ∷ b ∷ u)) T (double_lead a b u) (if L then DriveLead a u else NoLead) (λ e. double_shape e u)
      (λ e. by_test (Shape (a ∷ b ∷ u)) L (DriveLead a u) NoLead (λ f. record { before = a ∷ b ∷ []; joined = refl; stays = led_drive e f }) (λ f. tt)))

pub shape : (s : List ℕ) → Shape s (lead_of s)
shape [] = tt
shape (a ∷ []) = tt
shape (a ∷ b ∷ u) = two_shape a b u

-- a list that has a server, a separator and a share has two bytes at least
pub two_bytes : (server share : List ℕ) (c : ℕ) → server ≢ [] → (x : ℕ) × ((y : ℕ) × ((v : List ℕ) × (server ++ c ∷ share ≡ x ∷ y ∷ v)))
two_bytes [] share c h = absurd (h refl)
two_bytes (x ∷ []) share c h = (x, (c, (share, refl)))
two_bytes (x ∷ y ∷ server) share c h = (x, (y, (server ++ c ∷ share, refl)))

module _ (s : List ℕ) (k : Kind) (rest t more : List ℕ) (e : rest ≡ t ++ more) where
  from_fixed : (Led : List ℕ → Lead) (P : List ℕ → Kind → List ℕ → Type 0) → ((w : List ℕ) → P w k t → IsPrefixBy (Led w) k t) → (u : List ℕ) → Fixed Led s u → Kept P u k rest t → Kept IsPrefixOf s k rest t
  from_fixed Led P give u f q = record {
    before = f.before ++ q.before;
    joined = f.joined ∙ ap (λ x. f.before ++ x) q.joined ∙ sym (append_assoc f.before q.before rest);
    kept = subst (λ x. IsPrefixBy (lead_of x) k t) (sym (append_assoc f.before q.before t)) (subst (λ l. IsPrefixBy l k t) (sym (f.stays (q.before ++ t))) (give (q.before ++ t) q.kept));
  }

  keep_by : (l : Lead) → Shape s l → IsPrefixBy l k rest → Kept IsPrefixOf s k rest t
  unfolding keep_unc
  keep_by (VerbatimLead u) f h = from_fixed VerbatimLead IsVerbatim (λ w p. p) u f (keep_after_verbatim u k rest t more e h)
  keep_by (DeviceLead u) f h = from_fixed DeviceLead (IsNamed rules.Either Device) (λ w p. p) u f (keep_named rules.Either Device u k rest t more e h)
  keep_by (DriveLead letter u) f h =
      from_fixed (DriveLead letter) (λ w j v. (j ≡ Disk (upper letter)) × (v ≡ w)) (λ w p. p) u f (record { before = []; joined = sym h.1; kept = (h.0, refl) })
  keep_by (DoubleLead u) f h =
      let q = keep_unc u k rest t more e h in
      let two = two_bytes h.server h.share h.separator h.some_server in
      let x = two.0 in
      let y = two.1.0 in
      let v = two.1.1.0 in
      let begins : q.before ≡ x ∷ y ∷ v = two.1.1.1 in
      let now : u ≡ x ∷ y ∷ (v ++ rest) = q.joined ∙ ap (λ z. z ++ rest) begins in
      let later : q.before ++ t ≡ x ∷ y ∷ (v ++ t) = ap (λ z. z ++ t) begins in
      record {
        before = f.a ∷ f.b ∷ q.before;
        joined = f.joined ∙ ap (λ z. f.a ∷ f.b ∷ z) q.joined;
        kept = subst (λ z. IsPrefixBy (lead_of (f.a ∷ f.b ∷ z)) k t) (sym later) (subst (λ l. IsPrefixBy l k t) (sym (f.stays x y (v ++ rest) (v ++ t) now)) (subst (λ z. IsUnc z k t) later q.kept));
      }
  keep_by NoLead f h = absurd h

pub prefix_stays : (s : List ℕ) (k : Kind) (rest t more : List ℕ) → rest ≡ t ++ more → IsPrefixOf s k rest → Kept IsPrefixOf s k rest t
prefix_stays s k rest t more e h = keep_by s k rest t more e (lead_of s) (shape s) h
