-- What `absolute` returns on Windows is absolute: joining, cleaning and a separator at the end keep a path absolute.
use Rattle.std.proofs.Common.{◌≡◌, ◌⊎◌, inl, inr, ℕ, Bool, true, false, nat_eq, ◌&&◌, ◌||◌, if◌then◌else◌, Some, List, [], ◌∷◌, ◌++◌, get_or, map, reverse, refl, sym, ap, ◌∙◌, subst, append_assoc, append-nil, eqb-true}
use Rattle.std.proofs.lemmas.List.{append_cancel_right, reverse-append, reverse-reverse}
use Rattle.std.proofs.lemmas.List.Elements.{All-append, All-cons}
use Rattle.std.specs.List.{AllByRecursion}
use Rattle.path_rules.specs.declared.rules.Rules.TheVariants as rules
use Rattle.path_rules.specs.declared.rules.Rules.{Rules}
use Rattle.path_rules.specs.declared.rules.Style as whose
use Rattle.path_rules.specs.declared.rules.Style.TheVariants as style
use Rattle.path_rules.specs.declared.head.Start.TheVariants.{Root, Nothing}
use Rattle.path_rules.specs.Separators.{separates, IsField}
use Rattle.path_rules.specs.Component.{Item, Prefix, RootDir, CurDir, ParentDir, Normal, named, components_in}
use Rattle.path_rules.specs.Compare.{IsNoPrefix}
use Rattle.path_rules.specs.Components.{AreWindowsComponents, prefixed, bare, root_of, after_root}
use Rattle.path_rules.specs.Heads.{start_items}
use Rattle.path_rules.specs.Prefix.{Kind, Verbatim, VerbatimUnc, VerbatimDisk, Device, Unc, Disk, upper, is_letter, Lead, VerbatimLead, DeviceLead, DoubleLead, DriveLead, NoLead, lead_of, IsUnc, IsVerbatim, IsPrefixBy, IsPrefixOf, IsPrefixed, rules_of, begins_verbatim}
use Rattle.path_rules.specs.Reserved.{is_reserved_byte, IsReserved}
use Rattle.path_rules.specs.Root.{BeginsWithSeparator, HasRootAfter, IsAbsolute}
use Rattle.path_rules.proofs.lemmas.Begins.{no_prefix_items}
use Rattle.path_rules.proofs.lemmas.Edges.{drive_bytes}
use Rattle.path_rules.proofs.lemmas.Keeps.{Shape, shape, two_bytes}
use Rattle.path_rules.proofs.lemmas.OneList.{one_prefix}
use Rattle.path_rules.proofs.lemmas.Tails.{field_items}
use Rattle.path_rules.proofs.lemmas.Totals.{some_field, verbatim_some}
use Rattle.path_building.specs.Base.{LacksPart, IsFree, HasFreeNames}
use Rattle.path_building.specs.Beginning.{IsOddKind}
use Rattle.path_building.specs.Cleaned as clean
use Rattle.path_building.specs.Cleaned.{CleansTo, or_dot, one_spelling, spelled, IsCleanForm, IsCleanWritten, IsCleaned}
use Rattle.path_building.specs.FullPath.{IsDeviceKind, AreOneDrive, IsFullDirectory, IsCleanedBelow, IsPlaced, IsFullPath}
use Rattle.path_building.specs.Join.{IsVerbatimPath, IsJoin, replacing, resolving, at_root, after}
use Rattle.path_building.specs.Normalized.{AreVerbatim, BeginsWithColon}
use Rattle.path_building.specs.Resolved as resolve
use Rattle.path_building.specs.Resolved.{ResolvesTo, below_root, HasResolved}
use Rattle.path_building.specs.Trailing.{IsEndedAs}
use Rattle.path_building.proofs.lemmas.AsWritten.{prefix_alone}
use Rattle.path_building.proofs.lemmas.Beginnings.{odd_plain}
use Rattle.path_building.proofs.lemmas.CleanPrefixes.{either_by}
use Rattle.path_building.proofs.lemmas.Resolving.{no_root}
use Rattle.path_building.proofs.lemmas.ResolvedItems.{joined_resolved}
use Rattle.path_building.proofs.lemmas.Spelling.{body_spelled}
use Rattle.path_building.specs.Spelled.{AreSpelled}
use Rattle.path_building.proofs.lemmas.Spellings.{spelling_differs, not_verbatim, prefix_same}
use Rattle.path_building.proofs.lemmas.Bases.{verbatim_begins}
use Rattle.path_building.proofs.lemmas.FullResults.{full_rooted}
use Rattle.path_building.proofs.lemmas.Written.{no_lead, second_lead}

abbrev Full : List ℕ → Type 0
Full s = IsAbsolute style.Windows s

-- how an absolute path begins, where t follows it
abbrev FullLead : List ℕ → Lead → Type 0
FullLead t (VerbatimLead u) = Unit {0}
FullLead t (DeviceLead u) = Unit {0}
FullLead t (DoubleLead u) = (kind : Kind) × ((rest : List ℕ) × IsUnc u kind rest)
FullLead t (DriveLead letter u) = BeginsWithSeparator rules.Either (u ++ t)
FullLead t NoLead = ⊥

verbatim_root : (kind : Kind) (rest u : List ℕ) → IsVerbatim u kind rest → HasRootAfter kind rest
verbatim_root (Verbatim n) rest u h = tt
verbatim_root (VerbatimUnc s n) rest u h = tt
verbatim_root (VerbatimDisk l) rest u h = tt
verbatim_root (Device n) rest u h = tt
verbatim_root (Unc s n) rest u h = tt
verbatim_root (Disk l) rest u h = let d = drive_bytes (0x5C ∷ 0x5C ∷ 0x3F ∷ 0x5C ∷ u) l rest h in let never : false ≡ true = ap (λ z. nat_eq (get_or z 1 0) 0x3A) d.1 in cc

FullBy : Lead → Type 0
FullBy l = (kind : Kind) × ((rest : List ℕ) × (IsPrefixBy l kind rest × HasRootAfter kind rest))

from_verbatim : (u : List ℕ) → FullBy (VerbatimLead u)
unfolding FullBy
from_verbatim u = let q = verbatim_some u in (q.0, (q.1.0, (q.1.1, verbatim_root q.0 q.1.0 u q.1.1)))

from_device : (u : List ℕ) → FullBy (DeviceLead u)
unfolding FullBy
from_device u = let f = some_field rules.Either u in (Device f.0, (f.1.0, (record { name = f.0; is = refl; field = f.1.1 }, tt)))

from_unc : (u : List ℕ) (kind : Kind) (rest : List ℕ) → IsUnc u kind rest → FullBy (DoubleLead u)
unfolding FullBy
from_unc u kind rest h = (kind, (rest, (h, subst (λ k. HasRootAfter k rest) (sym h.is) tt)))

from_drive : (letter : ℕ) (u : List ℕ) → BeginsWithSeparator rules.Either u → FullBy (DriveLead letter u)
unfolding FullBy
from_drive letter u h = (Disk (upper letter), (u, ((refl, refl), h)))

by_lead : (s : List ℕ) (l : Lead) → lead_of s ≡ l → FullBy l → Full s
unfolding FullBy
by_lead s l e h = (h.0, (h.1.0, (subst (λ z. IsPrefixBy z h.0 h.1.0) (sym e) h.1.1.0, h.1.1.1)))

-- a server and a share, of which the share may go on
longer_unc : (u t : List ℕ) (kind : Kind) (rest : List ℕ) (h : IsUnc u kind rest) → (k : Kind) × ((r : List ℕ) × IsUnc (u ++ t) k r)
longer_unc u t kind (c ∷ rest) h = (
  kind,
  (
    (c ∷ rest) ++ t,
    record {
      server = h.server;
      separator = h.separator;
      more = h.more ++ t;
      share = h.share;
      is = h.is;
      first = record { joined = ap (λ z. z ++ t) h.first.joined ∙ append_assoc h.server (h.separator ∷ h.more) t; plain = h.first.plain; edge = h.first.edge };
      second = record { joined = ap (λ z. z ++ t) h.second.joined ∙ append_assoc h.share (c ∷ rest) t; plain = h.second.plain; edge = h.second.edge };
      some_server = h.some_server;
      some_share = h.some_share;
    },
  ),
)
longer_unc u t kind [] h =
    let f = some_field rules.Either t in
    let whole : h.more ≡ h.share = h.second.joined ∙ append-nil h.share in (
      Unc h.server (h.share ++ f.0),
      (
        f.1.0,
        record {
          server = h.server;
          separator = h.separator;
          more = h.more ++ t;
          share = h.share ++ f.0;
          is = refl;
          first = record { joined = ap (λ z. z ++ t) h.first.joined ∙ append_assoc h.server (h.separator ∷ h.more) t; plain = h.first.plain; edge = h.first.edge };
          second = record {
            joined = ap (λ z. z ++ t) whole ∙ ap (λ z. h.share ++ z) f.1.1.joined ∙ sym (append_assoc h.share f.0 f.1.0);
            plain = All-append (λ b. separates rules.Either b ≡ false) h.share f.0 h.second.plain f.1.1.plain;
            edge = f.1.1.edge;
          };
          some_server = h.some_server;
          some_share = λ e. h.some_share (no_front h.share f.0 e);
        },
      ),
    )
  where
    no_front : (a b : List ℕ) → a ++ b ≡ [] → a ≡ []
    no_front [] b e = refl
    no_front (x ∷ a) b e = cc

full_on : (s t : List ℕ) (l : Lead) → Shape s l → FullLead t l → Full (s ++ t)
full_on s t (VerbatimLead u) sh h = by_lead (s ++ t) (VerbatimLead (u ++ t)) (ap lead_of (ap (λ z. z ++ t) sh.joined ∙ append_assoc sh.before u t) ∙ sh.stays (u ++ t)) (from_verbatim (u ++ t))
full_on s t (DeviceLead u) sh h = by_lead (s ++ t) (DeviceLead (u ++ t)) (ap lead_of (ap (λ z. z ++ t) sh.joined ∙ append_assoc sh.before u t) ∙ sh.stays (u ++ t)) (from_device (u ++ t))
full_on s t (DriveLead letter u) sh h = by_lead (s ++ t) (DriveLead letter (u ++ t)) (ap lead_of (ap (λ z. z ++ t) sh.joined ∙ append_assoc sh.before u t) ∙ sh.stays (u ++ t)) (from_drive letter (u ++ t) h)
full_on s t (DoubleLead u) sh h =
    let k = h.1.1 in
    let two = two_bytes k.server k.more k.separator k.some_server in
    let x = two.0 in
    let y = two.1.0 in
    let v = two.1.1.0 in
    let now : u ≡ x ∷ y ∷ v = k.first.joined ∙ two.1.1.1 in
    let same : s ++ t ≡ sh.a ∷ sh.b ∷ (x ∷ y ∷ (v ++ t)) = ap (λ z. z ++ t) sh.joined ∙ ap (λ z. sh.a ∷ sh.b ∷ (z ++ t)) now in
    let longer = longer_unc u t h.0 h.1.0 k in
    by_lead (s ++ t) (DoubleLead (x ∷ y ∷ (v ++ t))) (ap lead_of same ∙ sh.stays x y v (v ++ t) now) (subst (λ z. FullBy (DoubleLead (z ++ t))) now (from_unc (u ++ t) longer.0 longer.1.0 longer.1.1))
full_on s t NoLead sh h = absurd h

to_lead : (t : List ℕ) (l : Lead) (kind : Kind) (rest : List ℕ) → IsPrefixBy l kind rest → HasRootAfter kind rest ⊎ (BeginsWithSeparator rules.Either t × (rest ≡ [])) → FullLead t l
to_lead t (VerbatimLead u) kind rest h r = tt
to_lead t (DeviceLead u) kind rest h r = tt
to_lead t (DoubleLead u) kind rest h r = (kind, (rest, h))
to_lead t (DriveLead letter u) kind rest h (inl r) = begun u (subst (BeginsWithSeparator rules.Either) h.1 (subst (λ k. HasRootAfter k rest) h.0 r))
  where
    begun : (s : List ℕ) → BeginsWithSeparator rules.Either s → BeginsWithSeparator rules.Either (s ++ t)
    begun [] b = absurd b
    begun (c ∷ s) b = b
to_lead t (DriveLead letter u) kind rest h (inr r) = subst (λ z. BeginsWithSeparator rules.Either (z ++ t)) (sym r.1 ∙ h.1) r.0
to_lead t NoLead kind rest h r = absurd h

-- an absolute path stays absolute whatever follows it, and a prefix is before a root
longer_full : (s t : List ℕ) → Full s → Full (s ++ t)
longer_full s t h = full_on s t (lead_of s) (shape s) (to_lead t (lead_of s) h.0 h.1.0 h.1.1.0 (inl h.1.1.1))

rooted_full : (s t : List ℕ) (kind : Kind) → IsPrefixOf s kind [] → BeginsWithSeparator rules.Either t → Full (s ++ t)
rooted_full s t kind h r = full_on s t (lead_of s) (shape s) (to_lead t (lead_of s) kind [] h (inr (r, refl)))

-- by components: a prefix that begins with `\\?\`, or a prefix and a root
abbrev BeginsFull : List Item → Type 0
BeginsFull (Prefix s ∷ RootDir ∷ xs) = Unit {0}
BeginsFull xs = ⊥

either_root : (kind : Kind) (rest : List ℕ) → rules_of kind ≡ rules.Either → HasRootAfter kind rest → root_of kind rest ≡ Root
either_root (Verbatim n) rest e h = let never : rules.Verbatim ≡ rules.Either = e in cc
either_root (VerbatimUnc s n) rest e h = let never : rules.Verbatim ≡ rules.Either = e in cc
either_root (VerbatimDisk l) rest e h = let never : rules.Verbatim ≡ rules.Either = e in cc
either_root (Device n) [] e h = refl
either_root (Device n) (b ∷ s) e h = cases (separates rules.Either b)
  where
    cases : (v : Bool) → (if v then Root else Root) ≡ Root
    cases true = refl
    cases false = refl
either_root (Unc m n) [] e h = refl
either_root (Unc m n) (b ∷ s) e h = cases (separates rules.Either b)
  where
    cases : (v : Bool) → (if v then Root else Root) ≡ Root
    cases true = refl
    cases false = refl
either_root (Disk l) [] e h = absurd h
either_root (Disk l) (b ∷ s) e h = ap (λ v. if v then Root else Nothing) h

items_full : (s : List ℕ) (items : List Item) → AreWindowsComponents s items → Full s → AreVerbatim items ⊎ BeginsFull items
items_full s items (bare a) h = absurd (a.none h.0 h.1.0 h.1.1.0)
items_full s items (prefixed a) h =
    subst (λ z. AreVerbatim z ⊎ BeginsFull z) (sym a.are) (cases (begins_verbatim a.raw) refl)
  where
    same : (h.0 ≡ a.kind) × (h.1.0 ≡ a.rest)
    same = one_prefix s h.0 a.kind h.1.0 a.rest h.1.1.0 a.prefix

    rooted : HasRootAfter a.kind a.rest
    rooted = subst (λ z. HasRootAfter z a.rest) same.0 (subst (HasRootAfter h.0) same.1 h.1.1.1)

    body : List Item
    body = components_in (rules_of a.kind) (after_root a.rest)

    cases : (v : Bool) → begins_verbatim a.raw ≡ v → AreVerbatim (Prefix a.raw ∷ (start_items (root_of a.kind a.rest) ++ body)) ⊎ BeginsFull (Prefix a.raw ∷ (start_items (root_of a.kind a.rest) ++ body))
    cases true e = inl e
    cases false e = inr (subst (λ z. BeginsFull (Prefix a.raw ∷ (start_items z ++ body))) (sym (either_root a.kind a.rest (either_by a.raw a.kind [] e (prefix_alone s a.raw a.kind a.rest a.joined a.prefix)) rooted)) tt)

-- and the other way round
no_root_first : (raw : List ℕ) (r : Rules) (xs : List Item) → AreSpelled r xs → BeginsFull (Prefix raw ∷ xs) → ⊥
no_root_first raw r [] sp b = b
no_root_first raw r (Prefix s ∷ xs) sp b = b
no_root_first raw r (RootDir ∷ xs) sp b = no_root r sp.0
no_root_first raw r (CurDir ∷ xs) sp b = b
no_root_first raw r (ParentDir ∷ xs) sp b = b
no_root_first raw r (Normal s ∷ xs) sp b = b

two_plain : (raw : List ℕ) (d : ℕ) → raw ≡ d ∷ 0x3A ∷ [] → begins_verbatim raw ≡ true → ⊥
two_plain raw d e h = let never : false ≡ true = sym (ap begins_verbatim e) ∙ h in cc

drive_root : (raw : List ℕ) (letter : ℕ) (rest : List ℕ) → BeginsFull (Prefix raw ∷ (start_items (root_of (Disk letter) rest) ++ components_in rules.Either (after_root rest))) → BeginsWithSeparator rules.Either rest
drive_root raw letter [] b = b
drive_root raw letter (c ∷ s) b = cases (separates rules.Either c) refl b
  where
    cases : (v : Bool) → separates rules.Either c ≡ v → BeginsFull (Prefix raw ∷ (start_items (if v then Root else Nothing) ++ components_in rules.Either (if v then s else c ∷ s))) → separates rules.Either c ≡ true
    cases true e b = e
    cases false e b = absurd (no_root_first raw rules.Either (components_in rules.Either (c ∷ s)) (body_spelled rules.Either (c ∷ s)) b)

begins_prefix : (xs : List Item) → AllByRecursion IsNoPrefix xs → AreVerbatim xs ⊎ BeginsFull xs → ⊥
begins_prefix [] n (inl h) = h
begins_prefix [] n (inr h) = h
begins_prefix (Prefix s ∷ xs) n h = n.0
begins_prefix (RootDir ∷ xs) n (inl h) = h
begins_prefix (RootDir ∷ xs) n (inr h) = h
begins_prefix (CurDir ∷ xs) n (inl h) = h
begins_prefix (CurDir ∷ xs) n (inr h) = h
begins_prefix (ParentDir ∷ xs) n (inl h) = h
begins_prefix (ParentDir ∷ xs) n (inr h) = h
begins_prefix (Normal s ∷ xs) n (inl h) = h
begins_prefix (Normal s ∷ xs) n (inr h) = h

full_items : (s : List ℕ) (items : List Item) → AreWindowsComponents s items → AreVerbatim items ⊎ BeginsFull items → Full s
full_items s items (bare a) h = absurd (begins_prefix items (subst (AllByRecursion IsNoPrefix) (sym a.are) (no_prefix_items rules.Either s)) h)
full_items s items (prefixed a) h = (a.kind, (a.rest, (a.prefix, by a.kind a.prefix (subst (λ z. AreVerbatim z ⊎ BeginsFull z) a.are h))))
  where
    by : (kind : Kind) → IsPrefixOf s kind a.rest → AreVerbatim (Prefix a.raw ∷ (start_items (root_of kind a.rest) ++ components_in (rules_of kind) (after_root a.rest))) ⊎ BeginsFull (Prefix a.raw ∷ (start_items (root_of kind a.rest) ++ components_in (rules_of kind) (after_root a.rest))) → HasRootAfter kind a.rest
    by (Verbatim n) p k = tt
    by (VerbatimUnc m n) p k = tt
    by (VerbatimDisk l) p k = tt
    by (Device n) p k = tt
    by (Unc m n) p k = tt
    by (Disk l) p (inl k) =
        let d = drive_bytes s l a.rest p in
        absurd (two_plain a.raw d.0 (append_cancel_right a.raw (d.0 ∷ 0x3A ∷ []) a.rest (sym a.joined ∙ d.1)) k)
    by (Disk l) p (inr k) = drive_root a.raw l a.rest k

-- lists that end so, as components from the last to the first
data EndsAs (end : List Item) : List Item → Type 0 where
  all : EndsAs end end
  later : {x : Item} {xs : List Item} → EndsAs end xs → EndsAs end (x ∷ xs)

ends_as : (end ws : List Item) → EndsAs end (ws ++ end)
ends_as end [] = all
ends_as end (w ∷ ws) = later (ends_as end ws)

front_of : {end xs : List Item} → EndsAs end xs → (ws : List Item) × (xs ≡ ws ++ end)
front_of all = ([], refl)
front_of (later {x} h) = let f = front_of h in (x ∷ f.0, ap (λ z. x ∷ z) f.1)

reversed : (first xs : List Item) → EndsAs (reverse first) (reverse (first ++ xs))
reversed first xs = subst (EndsAs (reverse first)) (sym (reverse-append first xs)) (ends_as (reverse first) (reverse xs))

-- and read forward again
forward : (first xs : List Item) → EndsAs (reverse first) (reverse xs) → (more : List Item) × (xs ≡ first ++ more)
forward first xs h =
    let f = front_of h in
    (reverse f.0, sym (reverse-reverse xs) ∙ ap reverse f.1 ∙ reverse-append f.0 (reverse first) ∙ ap (λ z. z ++ reverse f.0) (reverse-reverse first))

abbrev top : List ℕ → List Item
top s = RootDir ∷ Prefix s ∷ []

behind_root : (s t : List ℕ) (xs : List Item) → EndsAs (top s) (Normal t ∷ xs) → EndsAs (top s) xs
behind_root s t xs (later h) = h

clean_ends : {s : List ℕ} {xs ys : List Item} → CleansTo xs ys → EndsAs (top s) xs → EndsAs (top s) ys
clean_ends clean.nothing h = h
clean_ends clean.prefix h = h
clean_ends clean.bare_root h = h
clean_ends clean.root h = h
clean_ends (clean.here k) (later h) = clean_ends k h
clean_ends (clean.name k) (later h) = later (clean_ends k h)
clean_ends {s} (clean.up {s = t} {ys = ys} k) (later h) = behind_root s t ys (clean_ends k h)
clean_ends (clean.at_root k) (later h) = clean_ends k h
clean_ends (clean.out k u) (later h) = later (clean_ends k h)

clean_full : (items left : List Item) → CleansTo (reverse items) (reverse left) → BeginsFull items → BeginsFull (or_dot (map spelled left))
clean_full (Prefix s ∷ RootDir ∷ xs) left k b =
    let f = forward (Prefix s ∷ RootDir ∷ []) left (clean_ends k (reversed (Prefix s ∷ RootDir ∷ []) xs)) in
    subst (λ z. BeginsFull (or_dot (map spelled z))) (sym f.1) tt
clean_full [] left k b = absurd b
clean_full (Prefix s ∷ []) left k b = absurd b
clean_full (Prefix s ∷ Prefix t ∷ xs) left k b = absurd b
clean_full (Prefix s ∷ CurDir ∷ xs) left k b = absurd b
clean_full (Prefix s ∷ ParentDir ∷ xs) left k b = absurd b
clean_full (Prefix s ∷ Normal t ∷ xs) left k b = absurd b
clean_full (RootDir ∷ xs) left k b = absurd b
clean_full (CurDir ∷ xs) left k b = absurd b
clean_full (ParentDir ∷ xs) left k b = absurd b
clean_full (Normal s ∷ xs) left k b = absurd b

no_colon_first : (xs : List Item) → AreVerbatim xs ⊎ BeginsFull xs → ¬ (BeginsWithColon style.Windows xs)
no_colon_first [] h c = c
no_colon_first (Prefix s ∷ xs) h c = c
no_colon_first (RootDir ∷ xs) h c = c
no_colon_first (CurDir ∷ xs) h c = c
no_colon_first (ParentDir ∷ xs) h c = c
no_colon_first (Normal s ∷ xs) h c = begins_prefix (Normal s ∷ []) (tt, tt) (only h)
  where
    only : AreVerbatim (Normal s ∷ xs) ⊎ BeginsFull (Normal s ∷ xs) → AreVerbatim (Normal s ∷ []) ⊎ BeginsFull (Normal s ∷ [])
    only (inl k) = absurd k
    only (inr k) = absurd k

form_full : (items form : List Item) → IsCleanForm items form → AreVerbatim items ⊎ BeginsFull items → AreVerbatim form ⊎ BeginsFull form
form_full items form (inl h) b = inl (subst AreVerbatim (sym h.1) h.0)
form_full items form (inr h) (inl b) = absurd (h.0 b)
form_full items form (inr h) (inr b) = inr (subst BeginsFull (sym h.1.1.1) (clean_full items h.1.0 h.1.1.0 b))

written_full : (path answer : List ℕ) → Full path → IsCleanWritten style.Windows path answer → Full answer
written_full path answer h k =
    let form = form_full k.items k.clean k.form (items_full path k.items k.are h) in
    elim k.shielded [
      | inl c ↦ absurd (no_colon_first k.clean form c.0)
      | inr c ↦ full_items answer k.shown k.answers.0 (subst (λ z. AreVerbatim z ⊎ BeginsFull z) (sym c.1) form)
    ]

odd_root : (kind : Kind) (rest : List ℕ) → IsOddKind kind → HasRootAfter kind rest
odd_root (Verbatim n) rest o = tt
odd_root (VerbatimUnc s n) rest o = tt
odd_root (VerbatimDisk l) rest o = tt
odd_root (Device n) rest o = tt
odd_root (Unc s n) rest o = tt
odd_root (Disk l) rest o = absurd o

cleaned_full : (path answer : List ℕ) → Full path → IsCleaned style.Windows path answer → Full answer
cleaned_full path answer h (inr k) = written_full path answer h k.1
cleaned_full path answer h (inl k) = subst Full (sym k.1) (elim k.0 [
  | inl o ↦
      let q = prefix_same path (one_spelling path) (spelling_differs path) (odd_plain path k.0) (not_verbatim path) o.0 o.1.0 o.1.1.0 in
      (o.0, (q.0, (q.1.0, odd_root o.0 q.0 o.1.1.1)))
  | inr o ↦ absurd (o.0 h.0 h.1.0 h.1.1.0)
])

-- joined to an absolute path
behind_name : (s t : List ℕ) (xs : List Item) → EndsAs (Prefix s ∷ []) (Normal t ∷ xs) → EndsAs (Prefix s ∷ []) xs
behind_name s t xs (later h) = h

resolved_ends : {s : List ℕ} {bs xs ys : List Item} → ResolvesTo (Prefix s ∷ bs) xs ys → EndsAs (Prefix s ∷ []) ys
resolved_ends {s} {bs} resolve.nothing = reversed (Prefix s ∷ []) bs
resolved_ends {s} (resolve.root {s = t} e) = let same : s ≡ t = cc in subst (λ z. EndsAs (Prefix s ∷ []) (RootDir ∷ Prefix z ∷ [])) same (later all)
resolved_ends (resolve.here h) = resolved_ends h
resolved_ends (resolve.name h) = later (resolved_ends h)
resolved_ends {s} (resolve.up {s = t} {ys = ys} h) = behind_name s t ys (resolved_ends h)
resolved_ends (resolve.stays h n) = resolved_ends h

below_verbatim : (s : List ℕ) (xs : List Item) → begins_verbatim s ≡ true → AreVerbatim (below_root (Prefix s ∷ xs))
below_verbatim s [] e = e
below_verbatim s (Prefix t ∷ xs) e = e
below_verbatim s (RootDir ∷ xs) e = e
below_verbatim s (CurDir ∷ xs) e = e
below_verbatim s (ParentDir ∷ xs) e = e
below_verbatim s (Normal t ∷ xs) e = e

resolved_full : (base path joined : List ℕ) → IsVerbatimPath style.Windows base → HasResolved base path joined → Full joined
resolved_full base path joined v r = full_items joined (below_root r.left) r.are (inl (by r.resolved.base_are))
  where
    by : AreWindowsComponents base r.resolved.base_items → AreVerbatim (below_root r.left)
    by (bare a) = absurd (a.none v.0 v.1.0 v.1.1.0)
    by (prefixed a) =
        let kinds = (one_prefix base v.0 a.kind v.1.0 a.rest v.1.1.0 a.prefix).0 in
        let begins = verbatim_begins a.raw a.kind [] (prefix_alone base a.raw a.kind a.rest a.joined a.prefix) (ap rules_of (sym kinds) ∙ v.1.1.1) in
        let f = forward (Prefix a.raw ∷ []) r.left (resolved_ends (subst (λ z. ResolvesTo z (reverse r.resolved.items) (reverse r.left)) a.are r.resolved.form)) in
        subst (λ z. AreVerbatim (below_root z)) (sym f.1) (below_verbatim a.raw f.0 begins)

joined_full : (base path joined : List ℕ) → Full base → ¬ (LacksPart style.Windows base) → ¬ (IsPrefixed style.Windows path) → IsJoin style.Windows base path joined → Full joined
joined_full base path joined h w n (replacing p e) = absurd (n p)
joined_full base path joined h w n (resolving m v s r) = resolved_full base path joined v (joined_resolved base path joined v w n s (resolving m v s r))
joined_full base path joined h w n (at_root m v i) = subst Full (sym i.is) (elim i.prefix [
  | inl p ↦ rooted_full i.raw path p.0 (prefix_alone base i.raw p.0 p.1.0 p.1.1.1 p.1.1.0) i.root
  | inr p ↦ absurd (p.0 h.0 h.1.0 h.1.1.0)
])
joined_full base path joined h w n (after m o i) = subst Full (sym i.is) (longer_full base (i.between ++ path) h)

-- what follows a drive and is no root has no prefix, since no name has a colon
and_false : (p : Bool) → (p && false) ≡ false
and_false true = refl
and_false false = refl

or_true : (p : Bool) → (p || true) ≡ true
or_true true = refl
or_true false = refl

colon_reserved : (a : ℕ) (s : List ℕ) → IsReserved (a ∷ 0x3A ∷ s)
colon_reserved a s = inr (inl (or_true (is_reserved_byte a)))

colon_named : (a : ℕ) (s : List ℕ) → named rules.Either (a ∷ 0x3A ∷ s) ≡ Some (Normal (a ∷ 0x3A ∷ s))
colon_named a [] = ap (λ v. if v then Some ParentDir else Some (Normal (a ∷ 0x3A ∷ []))) (and_false (nat_eq a 0x2E))
colon_named a (c ∷ s) = refl

no_drive_first : (a : ℕ) (s : List ℕ) → separates rules.Either a ≡ false → ¬ (AllByRecursion IsFree (components_in rules.Either (a ∷ 0x3A ∷ s)))
no_drive_first a s e free =
    let f = some_field rules.Either s in
    let plain = All-cons (λ b. separates rules.Either b ≡ false) a (0x3A ∷ f.0) e (All-cons (λ b. separates rules.Either b ≡ false) 0x3A f.0 refl f.1.1.plain) in
    let field : IsField rules.Either (a ∷ 0x3A ∷ s) (a ∷ 0x3A ∷ f.0) f.1.0 = record { joined = ap (λ z. a ∷ 0x3A ∷ z) f.1.1.joined; plain = plain; edge = f.1.1.edge } in
    let items = field_items rules.Either (a ∷ 0x3A ∷ s) (a ∷ 0x3A ∷ f.0) f.1.0 (Normal (a ∷ 0x3A ∷ f.0)) field (sym (colon_named a f.0)) in
    (subst (AllByRecursion IsFree) items free).0 (colon_reserved a f.0)

after_drive : (a : ℕ) (s raw : List ℕ) (l : ℕ) → separates rules.Either a ≡ false → ¬ (AllByRecursion IsFree (Prefix raw ∷ (start_items (root_of (Disk l) (a ∷ 0x3A ∷ s)) ++ components_in rules.Either (after_root (a ∷ 0x3A ∷ s)))))
after_drive a s raw l e free = no_drive_first a s e (subst (λ v. AllByRecursion IsFree (start_items (if v then Root else Nothing) ++ components_in rules.Either (if v then 0x3A ∷ s else a ∷ 0x3A ∷ s))) e free.1)

no_second_drive : (path : List ℕ) (l a : ℕ) (s : List ℕ) → IsPrefixOf path (Disk l) (a ∷ 0x3A ∷ s) → separates rules.Either a ≡ false → ¬ (HasFreeNames style.Windows path)
no_second_drive path l a s h e free = by free.1.0
  where
    by : AreWindowsComponents path free.0 → ⊥
    by (bare b) = b.none (Disk l) (a ∷ 0x3A ∷ s) h
    by (prefixed p) =
        let same = one_prefix path p.kind (Disk l) p.rest (a ∷ 0x3A ∷ s) p.prefix h in
        let all = subst (AllByRecursion IsFree) p.are free.1.1 in
        after_drive a s p.raw l e
        (subst (λ k. AllByRecursion IsFree (Prefix p.raw ∷ (start_items (root_of k (a ∷ 0x3A ∷ s)) ++ components_in (rules_of k) (after_root (a ∷ 0x3A ∷ s))))) same.0
        (subst (λ z. AllByRecursion IsFree (Prefix p.raw ∷ (start_items (root_of p.kind z) ++ components_in (rules_of p.kind) (after_root z)))) same.1 all))

bare_rest : (path : List ℕ) (l : ℕ) (rest : List ℕ) → IsPrefixOf path (Disk l) rest → HasFreeNames style.Windows path → ¬ (Full path) → ¬ (IsPrefixed style.Windows rest)
bare_rest path l [] h free n p = p.1.1
bare_rest path l (a ∷ []) h free n p = p.1.1
bare_rest path l (a ∷ b ∷ s) h free n p = cases (separates rules.Either a) refl (nat_eq b 0x3A) refl
  where
    cases : (v : Bool) → separates rules.Either a ≡ v → (u : Bool) → nat_eq b 0x3A ≡ u → ⊥
    cases true e u f = n (Disk l, (a ∷ b ∷ s, (h, e)))
    cases false e true f = no_second_drive path l a s (subst (λ z. IsPrefixOf path (Disk l) (a ∷ z ∷ s)) (eqb-true b 0x3A f) h) e free
    cases false e false f = no_lead (a ∷ b ∷ s) (second_lead a b s e ∙ ap (λ z. if is_letter a && z then DriveLead a s else NoLead) f ∙ ap (λ z. if z then DriveLead a s else NoLead) (and_false (is_letter a))) p.0 p.1.0 p.1.1

is_disk : (kind other : Kind) → AreOneDrive kind other → (l : ℕ) × (kind ≡ Disk l)
is_disk (Verbatim n) other h = absurd h
is_disk (VerbatimUnc s n) other h = absurd h
is_disk (VerbatimDisk l) other h = absurd h
is_disk (Device n) other h = absurd h
is_disk (Unc s n) other h = absurd h
is_disk (Disk l) other h = (l, refl)

below_full : (rest directory mid : List ℕ) → IsFullDirectory style.Windows directory → ¬ (IsPrefixed style.Windows rest) → IsCleanedBelow rest directory mid → Full mid
below_full rest directory mid d n h = cleaned_full h.joined mid (joined_full directory rest h.joined d.0 d.1 n h.join) h.clean

placed_full : (path directory mid : List ℕ) → HasFreeNames style.Windows path → IsPlaced style.Windows path directory mid → Full mid
placed_full path directory mid free (inl h) = cleaned_full path mid h.0 h.1
placed_full path directory mid free (inr h) = elim h.1.1 [
  | inl b ↦
      let disk = is_disk b.kind b.drive.0 b.drive.1.1.1 in
      below_full b.rest directory mid h.1.0 (bare_rest path disk.0 b.rest (subst (λ k. IsPrefixOf path k b.rest) disk.1 b.prefix) free h.0) b.below
  | inr b ↦ below_full path directory mid h.1.0 b.0 b.1
]

ended_full : (like mid full : List ℕ) → Full mid → IsEndedAs style.Windows like mid full → Full full
ended_full like mid full h (inl e) = subst Full (sym e.1.is) (longer_full mid e.1.between h)
ended_full like mid full h (inr e) = subst Full (sym e.1) h

device_root : (kind : Kind) (rest : List ℕ) → IsDeviceKind kind → HasRootAfter kind rest
device_root (Verbatim n) rest d = tt
device_root (VerbatimUnc s n) rest d = tt
device_root (VerbatimDisk l) rest d = tt
device_root (Device n) rest d = tt
device_root (Unc s n) rest d = tt
device_root (Disk l) rest d = absurd d

pub full_absolute : (w : whose.Style) (path directory full : List ℕ) → IsFullPath w path directory full → IsAbsolute w full
full_absolute style.Unix path directory full h = full_rooted path directory full h
full_absolute style.Windows path directory full (inl h) = subst Full (sym h.1) (h.0.0, (h.0.1.0, (h.0.1.1.0, device_root h.0.0 h.0.1.0 h.0.1.1.1)))
full_absolute style.Windows path directory full (inr h) = ended_full path h.mid full (placed_full path directory h.mid h.placeable.free h.placed) h.end
