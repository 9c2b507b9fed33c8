-- Paths that differ in the spelling of their separators: their prefixes, and their components.
use Rattle.std.proofs.Common.{◌≡◌, ◌⊎◌, inl, inr, ℕ, Bool, true, false, ◌&&◌, ◌||◌, nat_eq, if◌then◌else◌, List, [], ◌∷◌, ◌++◌, length, map, reverse, refl, sym, ap, ◌∙◌, subst, arith, eqb-true}
use Rattle.std.specs.List.{All, slice_split, onto_first, filter_map}
use Rattle.std.proofs.lemmas.List.{reverse-append, map-append}
use Rattle.std.proofs.lemmas.List.Elements.{All-head, All-tail}
use Rattle.std.proofs.lemmas.List.Splits.{slice_split-cons_yes, slice_split-cons_no}
use Rattle.path_rules.specs.declared.rules.Rules.{Rules}
use Rattle.path_rules.specs.declared.rules.Rules.TheVariants as rules
use Rattle.path_rules.specs.declared.head.Start.{Start}
use Rattle.path_rules.specs.declared.head.Start.TheVariants.{Root, Dot, Nothing}
use Rattle.path_rules.specs.Separators.{separates, Edge, IsField}
use Rattle.path_rules.specs.Component.{Item, Prefix, RootDir, CurDir, ParentDir, Normal, named, components_in}
use Rattle.path_rules.specs.Heads.{prefix_items, start_items}
use Rattle.path_rules.specs.Components.{start_of, after_start, plain_components, implied_root, root_of, after_root}
use Rattle.path_rules.specs.Prefix.{Kind, Device, Lead, VerbatimLead, DeviceLead, DoubleLead, DriveLead, NoLead, is_letter, double_lead, lead_of, IsUnc, IsNamed, IsPrefixBy, IsPrefixOf, begins_verbatim}
use Rattle.path_building.specs.Cleaned as clean
use Rattle.path_building.specs.Cleaned.{CleansTo, StaysAfter, begins_as_verbatim, separated_by, one_spelling, spelled, DifferInSeparators}
use Rattle.path_building.specs.Spelled.{AreSpelled, cleaned_start}
use Rattle.path_building.proofs.lemmas.Resolving.{no_prefix}

-- one byte, or two that separate
abbrev Same : ℕ → ℕ → Type 0
Same a b = (a ≡ b) ⊎ ((separates rules.Either a ≡ true) × (separates rules.Either b ≡ true))

pub sep_same : (a b : ℕ) → Same a b → separates rules.Either a ≡ separates rules.Either b
sep_same a b (inl e) = ap (separates rules.Either) e
sep_same a b (inr h) = h.0 ∙ sym h.1

other_byte : (c x : ℕ) → separates rules.Either c ≡ false → separates rules.Either x ≡ true → nat_eq x c ≡ false
other_byte c x n e = cases (nat_eq x c) refl
  where
    cases : (v : Bool) → nat_eq x c ≡ v → nat_eq x c ≡ false
    cases true f =
        let is : x ≡ c = eqb-true x c f in
        let never : true ≡ false = sym e ∙ ap (separates rules.Either) is ∙ n in cc
    cases false f = f

byte_same : (c a b : ℕ) → separates rules.Either c ≡ false → Same a b → nat_eq a c ≡ nat_eq b c
byte_same c a b n (inl e) = ap (λ z. nat_eq z c) e
byte_same c a b n (inr h) = other_byte c a n h.0 ∙ sym (other_byte c b n h.1)

no_letter : (x : ℕ) → separates rules.Either x ≡ true → is_letter x ≡ false
no_letter x e = cases (nat_eq x 0x2F) refl e
  where
    cases : (v : Bool) → nat_eq x 0x2F ≡ v → (v || nat_eq x 0x5C) ≡ true → is_letter x ≡ false
    cases true f g = ap is_letter (eqb-true x 0x2F f)
    cases false f g = ap is_letter (eqb-true x 0x5C g)

letter_same : (a b : ℕ) → Same a b → is_letter a ≡ is_letter b
letter_same a b (inl e) = ap is_letter e
letter_same a b (inr h) = no_letter a h.0 ∙ sym (no_letter b h.1)

and_same : (p q v w : Bool) → p ≡ v → q ≡ w → (p && q) ≡ (v && w)
and_same p q v w e f = ap (λ z. z && q) e ∙ ap (λ z. v && z) f

pub turned : (s u : List ℕ) → DifferInSeparators s u → DifferInSeparators u s
turned [] [] h = tt
turned [] (b ∷ u) h = absurd h
turned (a ∷ s) [] h = absurd h
turned (a ∷ s) (b ∷ u) h = (elim h.0 [ inl e ↦ inl (sym e) | inr k ↦ inr (k.1, k.0) ], turned s u h.1)

-- how both begin
data AreLeads : Lead → Lead → Type 0 where
  devices : {s u : List ℕ} → DifferInSeparators s u → AreLeads (DeviceLead s) (DeviceLead u)
  doubles : {s u : List ℕ} → DifferInSeparators s u → AreLeads (DoubleLead s) (DoubleLead u)
  drives : {a : ℕ} {s u : List ℕ} → DifferInSeparators s u → AreLeads (DriveLead a s) (DriveLead a u)
  none : AreLeads NoLead NoLead

choose : (p q : Bool) → p ≡ q → (l m k n : Lead) → (p ≡ true → AreLeads l m) → (p ≡ false → AreLeads k n) → AreLeads (if p then l else k) (if q then m else n)
choose true true e l m k n f g = f refl
choose true false e l m k n f g = let never : true ≡ false = e in cc
choose false true e l m k n f g = let never : false ≡ true = e in cc
choose false false e l m k n f g = g refl

double_same : (a b c d : ℕ) (s u : List ℕ) → DifferInSeparators s u → begins_verbatim (a ∷ b ∷ s) ≡ false → begins_verbatim (c ∷ d ∷ u) ≡ false → AreLeads (double_lead a b s) (double_lead c d u)
double_same a b c d [] [] h v w = doubles h
double_same a b c d [] (y ∷ u) h v w = absurd h
double_same a b c d (x ∷ s) [] h v w = absurd h
double_same a b c d (x ∷ []) (y ∷ []) h v w = doubles h
double_same a b c d (x ∷ []) (y ∷ z ∷ u) h v w = absurd h.1
double_same a b c d (x ∷ y ∷ s) (z ∷ []) h v w = absurd h.1
double_same a b c d (x ∷ y ∷ s) (z ∷ t ∷ u) h v w =
    choose (nat_eq a 0x5C && nat_eq b 0x5C && nat_eq x 0x3F && nat_eq y 0x5C) (nat_eq c 0x5C && nat_eq d 0x5C && nat_eq z 0x3F && nat_eq t 0x5C) (v ∙ sym w) (VerbatimLead s) (VerbatimLead u) _ _
    (λ e. let never : true ≡ false = sym e ∙ v in cc)
    (λ _. choose (nat_eq x 0x2E && separates rules.Either y) (nat_eq z 0x2E && separates rules.Either t) (and_same _ _ _ _ (byte_same 0x2E x z refl h.0) (sep_same y t h.1.0)) (DeviceLead s) (DeviceLead u) (DoubleLead (x ∷ y ∷ s)) (DoubleLead (z ∷ t ∷ u))
    (λ _. devices h.1.1)
    (λ _. doubles h))

one_letter : (a b : ℕ) → Same a b → is_letter a ≡ true → a ≡ b
one_letter a b (inl e) l = e
one_letter a b (inr h) l = let never : true ≡ false = sym l ∙ no_letter a h.0 in cc

first_true : (p q : Bool) → (p && q) ≡ true → p ≡ true
first_true true q e = refl
first_true false q e = e

leads_same : (s u : List ℕ) → DifferInSeparators s u → begins_verbatim s ≡ false → begins_verbatim u ≡ false → AreLeads (lead_of s) (lead_of u)
leads_same [] [] h v w = none
leads_same [] (b ∷ u) h v w = absurd h
leads_same (a ∷ s) [] h v w = absurd h
leads_same (a ∷ []) (b ∷ []) h v w = none
leads_same (a ∷ []) (b ∷ c ∷ u) h v w = absurd h.1
leads_same (a ∷ b ∷ s) (c ∷ []) h v w = absurd h.1
leads_same (a ∷ b ∷ s) (c ∷ d ∷ u) h v w =
    choose (separates rules.Either a && separates rules.Either b) (separates rules.Either c && separates rules.Either d) (and_same _ _ _ _ (sep_same a c h.0) (sep_same b d h.1.0)) (double_lead a b s) (double_lead c d u) _ _
    (λ _. double_same a b c d s u h.1.1 v w)
    (λ _. choose (is_letter a && nat_eq b 0x3A) (is_letter c && nat_eq d 0x3A) (and_same _ _ _ _ (letter_same a c h.0) (byte_same 0x3A b d refl h.1.0)) (DriveLead a s) (DriveLead c u) NoLead NoLead
    (λ e. subst (λ z. AreLeads (DriveLead a s) (DriveLead z u)) (one_letter a c h.0 (first_true (is_letter a) (nat_eq b 0x3A) e)) (drives h.1.1))
    (λ _. none))

-- a field of both
edge_same : (s u : List ℕ) → DifferInSeparators s u → Edge rules.Either s → Edge rules.Either u
edge_same [] [] h e = tt
edge_same [] (b ∷ u) h e = absurd h
edge_same (a ∷ s) [] h e = absurd h
edge_same (a ∷ s) (b ∷ u) h e = sym (sep_same a b h.0) ∙ e

plain_byte : (a b : ℕ) → Same a b → separates rules.Either a ≡ false → a ≡ b
plain_byte a b (inl e) n = e
plain_byte a b (inr h) n = let never : true ≡ false = sym h.0 ∙ n in cc

after_field : (f t u : List ℕ) → All (λ b. separates rules.Either b ≡ false) f → DifferInSeparators (f ++ t) u → (r : List ℕ) × ((u ≡ f ++ r) × DifferInSeparators t r)
after_field [] t u p h = (u, (refl, h))
after_field (b ∷ f) t [] p h = absurd h
after_field (b ∷ f) t (c ∷ u) p h =
    let q = after_field f t u (All-tail (λ z. separates rules.Either z ≡ false) b f p) h.1 in
    let same : b ≡ c = plain_byte b c h.0 (All-head (λ z. separates rules.Either z ≡ false) b f p) in
    (q.0, (ap (λ z. c ∷ z) q.1.0 ∙ ap (λ z. z ∷ (f ++ q.0)) (sym same), q.1.1))

pub field_same : (s u f t : List ℕ) → DifferInSeparators s u → IsField rules.Either s f t → (r : List ℕ) × (IsField rules.Either u f r × DifferInSeparators t r)
field_same s u f t h k =
    let q = after_field f t u k.plain (subst (λ z. DifferInSeparators z u) k.joined h) in
    (q.0, (record { joined = q.1.0; plain = k.plain; edge = edge_same t q.0 q.1.1 k.edge }, q.1.1))

-- a prefix of both
abbrev Follows : (Kind → List ℕ → Type 0) → Kind → List ℕ → Type 0
Follows P kind rest = (r : List ℕ) × (P kind r × DifferInSeparators rest r)

device_same : (s u : List ℕ) → DifferInSeparators s u → (kind : Kind) (rest : List ℕ) → IsNamed rules.Either Device s kind rest → Follows (IsNamed rules.Either Device u) kind rest
device_same s u h kind rest k =
    let q = field_same s u k.name rest h k.field in
    (q.0, (record { name = k.name; is = k.is; field = q.1.0 }, q.1.1))

unc_from : (s u : List ℕ) (kind : Kind) (rest : List ℕ) → (k : IsUnc s kind rest) → (r : List ℕ) → IsField rules.Either u k.server r → DifferInSeparators (k.separator ∷ k.more) r → Follows (IsUnc u) kind rest
unc_from s u kind rest k [] f h = absurd h
unc_from s u kind rest k (c ∷ more) f h =
    let q = field_same k.more more k.share rest h.1 k.second in (
      q.0,
      (
        record {
          server = k.server;
          separator = c;
          more = more;
          share = k.share;
          is = k.is;
          first = f;
          second = q.1.0;
          some_server = k.some_server;
          some_share = k.some_share;
        },
        q.1.1,
      ),
    )

unc_same : (s u : List ℕ) → DifferInSeparators s u → (kind : Kind) (rest : List ℕ) → IsUnc s kind rest → Follows (IsUnc u) kind rest
unc_same s u h kind rest k =
    let q = field_same s u k.server (k.separator ∷ k.more) h k.first in unc_from s u kind rest k q.0 q.1.0 q.1.1

by_lead : {l m : Lead} → AreLeads l m → (kind : Kind) (rest : List ℕ) → IsPrefixBy l kind rest → Follows (IsPrefixBy m) kind rest
by_lead (devices {s} {u} h) kind rest p = device_same s u h kind rest p
by_lead (doubles {s} {u} h) kind rest p = unc_same s u h kind rest p
by_lead (drives {a} {s} {u} h) kind rest p = (u, ((p.0, refl), subst (λ z. DifferInSeparators z u) (sym p.1) h))
by_lead none kind rest p = absurd p

pub prefix_same : (s u : List ℕ) → DifferInSeparators s u → begins_verbatim s ≡ false → begins_verbatim u ≡ false → (kind : Kind) (rest : List ℕ) → IsPrefixOf s kind rest → Follows (IsPrefixOf u) kind rest
prefix_same s u h v w kind rest p = by_lead (leads_same s u h v w) kind rest p

-- the components of both
split_same : (s u : List ℕ) → DifferInSeparators s u → slice_split (separates rules.Either) s ≡ slice_split (separates rules.Either) u
split_same [] [] h = refl
split_same [] (c ∷ u) h = absurd h
split_same (b ∷ s) [] h = absurd h
split_same (b ∷ s) (c ∷ u) h = cases (separates rules.Either b) refl (split_same s u h.1)
  where
    cases : (v : Bool) → separates rules.Either b ≡ v → slice_split (separates rules.Either) s ≡ slice_split (separates rules.Either) u → slice_split (separates rules.Either) (b ∷ s) ≡ slice_split (separates rules.Either) (c ∷ u)
    cases true e f = slice_split-cons_yes (separates rules.Either) b s e ∙ ap (λ z. [] ∷ z) f ∙ sym (slice_split-cons_yes (separates rules.Either) c u (sym (sep_same b c h.0) ∙ e))
    cases false e f =
        slice_split-cons_no (separates rules.Either) b s e ∙ ap (onto_first b) f
        ∙ ap (λ z. onto_first z (slice_split (separates rules.Either) u)) (plain_byte b c h.0 e)
        ∙ sym (slice_split-cons_no (separates rules.Either) c u (sym (sep_same b c h.0) ∙ e))

pub body_same : (s u : List ℕ) → DifferInSeparators s u → components_in rules.Either s ≡ components_in rules.Either u
body_same s u h = ap (filter_map (named rules.Either)) (split_same s u h)

start_same : (s u : List ℕ) → DifferInSeparators s u → start_of rules.Either s ≡ start_of rules.Either u
start_same [] [] h = refl
start_same [] (c ∷ u) h = absurd h
start_same (b ∷ s) [] h = absurd h
start_same (b ∷ []) (c ∷ []) h =
    ap (λ z. if z then Root else (if nat_eq b 0x2E then Dot else Nothing)) (sep_same b c h.0)
    ∙ ap (λ z. if separates rules.Either c then Root else (if z then Dot else Nothing)) (byte_same 0x2E b c refl h.0)
start_same (b ∷ []) (c ∷ d ∷ u) h = absurd h.1
start_same (b ∷ d ∷ s) (c ∷ []) h = absurd h.1
start_same (b ∷ d ∷ s) (c ∷ e ∷ u) h =
    ap (λ z. if z then Root else (if nat_eq b 0x2E && separates rules.Either d then Dot else Nothing)) (sep_same b c h.0)
    ∙ ap (λ z. if separates rules.Either c then Root else (if z then Dot else Nothing)) (and_same _ _ _ _ (byte_same 0x2E b c refl h.0) (sep_same d e h.1.0))

after_start_same : (st : Start) (s u : List ℕ) → DifferInSeparators s u → DifferInSeparators (after_start st s) (after_start st u)
after_start_same Nothing s u h = h
after_start_same Root [] [] h = tt
after_start_same Root [] (c ∷ u) h = absurd h
after_start_same Root (b ∷ s) [] h = absurd h
after_start_same Root (b ∷ s) (c ∷ u) h = h.1
after_start_same Dot [] [] h = tt
after_start_same Dot [] (c ∷ u) h = absurd h
after_start_same Dot (b ∷ s) [] h = absurd h
after_start_same Dot (b ∷ s) (c ∷ u) h = h.1

pub plain_same : (s u : List ℕ) → DifferInSeparators s u → plain_components rules.Either s ≡ plain_components rules.Either u
plain_same s u h =
    let st = start_of rules.Either u in
    ap (λ z. start_items z ++ components_in rules.Either (after_start z s)) (start_same s u h)
    ∙ ap (λ z. start_items st ++ z) (body_same (after_start st s) (after_start st u) (after_start_same st s u h))

root_same : (kind : Kind) (s u : List ℕ) → DifferInSeparators s u → root_of kind s ≡ root_of kind u
root_same kind [] [] h = refl
root_same kind [] (c ∷ u) h = absurd h
root_same kind (b ∷ s) [] h = absurd h
root_same kind (b ∷ s) (c ∷ u) h = ap (λ z. if z then Root else implied_root kind) (sep_same b c h.0)

after_root_same : (s u : List ℕ) → DifferInSeparators s u → DifferInSeparators (after_root s) (after_root u)
after_root_same [] [] h = tt
after_root_same [] (c ∷ u) h = absurd h
after_root_same (b ∷ s) [] h = absurd h
after_root_same (b ∷ s) (c ∷ u) h = cases (separates rules.Either b) (separates rules.Either c) (sep_same b c h.0)
  where
    cases : (p q : Bool) → p ≡ q → DifferInSeparators (if p then s else b ∷ s) (if q then u else c ∷ u)
    cases true true e = h.1
    cases true false e = let never : true ≡ false = e in cc
    cases false true e = let never : false ≡ true = e in cc
    cases false false e = h

pub below_same : (kind : Kind) (s u : List ℕ) → DifferInSeparators s u → start_items (root_of kind s) ++ components_in rules.Either (after_root s) ≡ start_items (root_of kind u) ++ components_in rules.Either (after_root u)
below_same kind s u h =
    ap (λ z. start_items z ++ components_in rules.Either (after_root s)) (root_same kind s u h)
    ∙ ap (λ z. start_items (root_of kind u) ++ z) (body_same (after_root s) (after_root u) (after_root_same s u h))

-- before what follows in both
pub length_same : (s u : List ℕ) → DifferInSeparators s u → length s ≡ length u
length_same [] [] h = refl
length_same [] (c ∷ u) h = absurd h
length_same (b ∷ s) [] h = absurd h
length_same (b ∷ s) (c ∷ u) h = let e = length_same s u h.1 in omega (arith, e)

-- one spelling of both
separated_same : (c : ℕ) (s u : List ℕ) → DifferInSeparators s u → separated_by c s ≡ separated_by c u
separated_same c [] [] h = refl
separated_same c [] (b ∷ u) h = absurd h
separated_same c (a ∷ s) [] h = absurd h
separated_same c (a ∷ s) (b ∷ u) h = ap (λ z. z ∷ separated_by c s) (byte h.0) ∙ ap (λ z. (if separates rules.Either b then c else b) ∷ z) (separated_same c s u h.1)
  where
    byte : Same a b → (if separates rules.Either a then c else a) ≡ (if separates rules.Either b then c else b)
    byte (inl e) = ap (λ z. if separates rules.Either z then c else z) e
    byte (inr k) = ap (λ z. if z then c else a) k.0 ∙ sym (ap (λ z. if z then c else b) k.1)

begins_same : (s u : List ℕ) → DifferInSeparators s u → begins_as_verbatim s ≡ begins_as_verbatim u
begins_same [] [] h = refl
begins_same [] (b ∷ u) h = absurd h
begins_same (a ∷ s) [] h = absurd h
begins_same (a ∷ []) (b ∷ []) h = refl
begins_same (a ∷ []) (b ∷ d ∷ u) h = absurd h.1
begins_same (a ∷ c ∷ s) (b ∷ []) h = absurd h.1
begins_same (a ∷ c ∷ []) (b ∷ d ∷ []) h = refl
begins_same (a ∷ c ∷ []) (b ∷ d ∷ f ∷ u) h = absurd h.1.1
begins_same (a ∷ c ∷ e ∷ s) (b ∷ d ∷ []) h = absurd h.1.1
begins_same (a ∷ c ∷ e ∷ []) (b ∷ d ∷ f ∷ []) h = refl
begins_same (a ∷ c ∷ e ∷ []) (b ∷ d ∷ f ∷ i ∷ u) h = absurd h.1.1.1
begins_same (a ∷ c ∷ e ∷ g ∷ s) (b ∷ d ∷ f ∷ []) h = absurd h.1.1.1
begins_same (a ∷ c ∷ e ∷ g ∷ s) (b ∷ d ∷ f ∷ i ∷ u) h =
    and_same _ _ _ _ (and_same _ _ _ _ (and_same _ _ _ _ (sep_same a b h.0) (sep_same c d h.1.0)) (byte_same 0x3F e f refl h.1.1.0)) (sep_same g i h.1.1.1.0)

pub spelling_same : (s u : List ℕ) → DifferInSeparators s u → one_spelling s ≡ one_spelling u
spelling_same s u h = ap (λ z. separated_by (if z then 0x2F else 0x5C) s) (begins_same s u h) ∙ separated_same (if begins_as_verbatim u then 0x2F else 0x5C) s u h

-- a path and its spelling
separated_differs : (c : ℕ) → separates rules.Either c ≡ true → (s : List ℕ) → DifferInSeparators s (separated_by c s)
separated_differs c e [] = tt
separated_differs c e (b ∷ s) = (byte (separates rules.Either b) refl, separated_differs c e s)
  where
    byte : (v : Bool) → separates rules.Either b ≡ v → Same b (if v then c else b)
    byte true f = inr (f, e)
    byte false f = inl refl

pub spelling_differs : (s : List ℕ) → DifferInSeparators s (one_spelling s)
spelling_differs s = separated_differs (if begins_as_verbatim s then 0x2F else 0x5C) (cases (begins_as_verbatim s)) s
  where
    cases : (v : Bool) → separates rules.Either (if v then 0x2F else 0x5C) ≡ true
    cases true = refl
    cases false = refl

pub spelling_again : (s : List ℕ) → one_spelling (one_spelling s) ≡ one_spelling s
spelling_again s = spelling_same (one_spelling s) s (turned s (one_spelling s) (spelling_differs s))

written_backslash : (x : ℕ) → nat_eq (if separates rules.Either x then 0x5C else x) 0x5C ≡ separates rules.Either x
written_backslash x = cases (separates rules.Either x) refl
  where
    no : (p : Bool) → (p || nat_eq x 0x5C) ≡ false → nat_eq x 0x5C ≡ false
    no true f = let never : true ≡ false = f in cc
    no false f = f

    cases : (v : Bool) → separates rules.Either x ≡ v → nat_eq (if v then 0x5C else x) 0x5C ≡ v
    cases true e = refl
    cases false e = no (nat_eq x 0x2F) e

written_mark : (x : ℕ) → nat_eq (if separates rules.Either x then 0x5C else x) 0x3F ≡ nat_eq x 0x3F
written_mark x = cases (separates rules.Either x) refl
  where
    cases : (v : Bool) → separates rules.Either x ≡ v → nat_eq (if v then 0x5C else x) 0x3F ≡ nat_eq x 0x3F
    cases true e = sym (other_byte 0x3F x refl e)
    cases false e = refl

-- no spelling begins with `\\?\`
pub not_verbatim : (s : List ℕ) → begins_verbatim (one_spelling s) ≡ false
not_verbatim [] = refl
not_verbatim (a ∷ []) = refl
not_verbatim (a ∷ b ∷ []) = refl
not_verbatim (a ∷ b ∷ c ∷ []) = refl
not_verbatim (a ∷ b ∷ c ∷ d ∷ s) = cases (begins_as_verbatim (a ∷ b ∷ c ∷ d ∷ s)) refl
  where
    cases : (v : Bool) → begins_as_verbatim (a ∷ b ∷ c ∷ d ∷ s) ≡ v → begins_verbatim (separated_by (if v then 0x2F else 0x5C) (a ∷ b ∷ c ∷ d ∷ s)) ≡ false
    cases true e =
        let three = first_true (separates rules.Either a && separates rules.Either b && nat_eq c 0x3F) (separates rules.Either d) e in
        let two = first_true (separates rules.Either a && separates rules.Either b) (nat_eq c 0x3F) three in
        let first : separates rules.Either a ≡ true = first_true (separates rules.Either a) (separates rules.Either b) two in
        ap (λ z. nat_eq (if z then 0x2F else a) 0x5C && nat_eq (if separates rules.Either b then 0x2F else b) 0x5C && nat_eq (if separates rules.Either c then 0x2F else c) 0x3F && nat_eq (if separates rules.Either d then 0x2F else d) 0x5C) first
    cases false e = and_same _ _ _ _ (and_same _ _ _ _ (and_same _ _ _ _ (written_backslash a) (written_backslash b)) (written_mark c)) (written_backslash d) ∙ e

nothing_same : (r : List ℕ) → DifferInSeparators [] r → r ≡ []
nothing_same [] h = refl
nothing_same (c ∷ r) h = absurd h

-- a prefix alone, in its spelling
pub prefix_spelled : (s : List ℕ) (kind : Kind) → begins_verbatim s ≡ false → IsPrefixOf s kind [] → IsPrefixOf (one_spelling s) kind []
prefix_spelled s kind v p =
    let q = prefix_same s (one_spelling s) (spelling_differs s) v (not_verbatim s) kind [] p in
    subst (IsPrefixOf (one_spelling s) kind) (nothing_same q.0 q.1.1) q.1.0

-- components in one spelling
pub spelled_again : (x : Item) → spelled (spelled x) ≡ spelled x
spelled_again (Prefix s) = ap (λ z. Prefix z) (spelling_again s)
spelled_again RootDir = refl
spelled_again CurDir = refl
spelled_again ParentDir = refl
spelled_again (Normal s) = refl

pub all_again : (xs : List Item) → map spelled (map spelled xs) ≡ map spelled xs
all_again [] = refl
all_again (x ∷ xs) = ap (λ z. z ∷ map spelled (map spelled xs)) (spelled_again x) ∙ ap (λ z. spelled x ∷ z) (all_again xs)

pub names_stay : (r : Rules) (xs : List Item) → AreSpelled r xs → map spelled xs ≡ xs
names_stay r [] h = refl
names_stay r (Prefix s ∷ xs) h = absurd (no_prefix r s h.0)
names_stay r (RootDir ∷ xs) h = ap (λ z. RootDir ∷ z) (names_stay r xs h.1)
names_stay r (CurDir ∷ xs) h = ap (λ z. CurDir ∷ z) (names_stay r xs h.1)
names_stay r (ParentDir ∷ xs) h = ap (λ z. ParentDir ∷ z) (names_stay r xs h.1)
names_stay r (Normal s ∷ xs) h = ap (λ z. Normal s ∷ z) (names_stay r xs h.1)

start_stays : (st : Start) → map spelled (cleaned_start st) ≡ cleaned_start st
start_stays Root = refl
start_stays Dot = refl
start_stays Nothing = refl

pub items_spelled : (r : Rules) (p : List ℕ) (st : Start) (xs : List Item) → AreSpelled r xs → map spelled (prefix_items p ++ (cleaned_start st ++ xs)) ≡ map spelled (prefix_items p) ++ (cleaned_start st ++ xs)
items_spelled r p st xs h =
    map-append spelled (prefix_items p) (cleaned_start st ++ xs)
    ∙ ap (λ z. map spelled (prefix_items p) ++ z) (map-append spelled (cleaned_start st) xs ∙ ap (λ z. z ++ map spelled xs) (start_stays st) ∙ ap (λ z. cleaned_start st ++ z) (names_stay r xs h))

pub map_reverse : (xs : List Item) → map spelled (reverse xs) ≡ reverse (map spelled xs)
map_reverse [] = refl
map_reverse (x ∷ xs) =
    ap (map spelled) (reverse-append (x ∷ []) xs) ∙ map-append spelled (reverse xs) (x ∷ []) ∙ ap (λ z. z ++ spelled x ∷ []) (map_reverse xs) ∙ sym (reverse-append (spelled x ∷ []) (map spelled xs))

stays_spelled : (xs : List Item) → StaysAfter xs → StaysAfter (map spelled xs)
stays_spelled [] h = h
stays_spelled (Prefix s ∷ xs) h = h
stays_spelled (RootDir ∷ xs) h = h
stays_spelled (CurDir ∷ xs) h = h
stays_spelled (ParentDir ∷ xs) h = h
stays_spelled (Normal s ∷ xs) h = h

pub clean_spelled : {xs ys : List Item} → CleansTo xs ys → CleansTo (map spelled xs) (map spelled ys)
clean_spelled clean.nothing = clean.nothing
clean_spelled clean.prefix = clean.prefix
clean_spelled clean.bare_root = clean.bare_root
clean_spelled clean.root = clean.root
clean_spelled (clean.here h) = clean.here (clean_spelled h)
clean_spelled (clean.name h) = clean.name (clean_spelled h)
clean_spelled (clean.up h) = clean.up (clean_spelled h)
clean_spelled (clean.at_root h) = clean.at_root (clean_spelled h)
clean_spelled (clean.out {ys = ys} h s) = clean.out (clean_spelled h) (stays_spelled ys s)

pub both_spelled : (xs ys : List Item) → CleansTo (reverse xs) (reverse ys) → CleansTo (reverse (map spelled xs)) (reverse (map spelled ys))
both_spelled xs ys h = subst (CleansTo (reverse (map spelled xs))) (map_reverse ys) (subst (λ z. CleansTo z (map spelled (reverse ys))) (map_reverse xs) (clean_spelled h))
