-- What follows a prefix begins with a separator, or the prefix is a drive.
use Rattle.std.proofs.Common.{◌≡◌, ◌⊎◌, inl, inr, ℕ, Bool, true, false, ◌&&◌, ◌||◌, nat_eq, if◌then◌else◌, List, [], ◌∷◌, refl, sym, ap, ◌∙◌, subst, eqb-true}
use Rattle.path_rules.specs.declared.rules.Rules.TheVariants as rules
use Rattle.path_rules.specs.Separators.{separates, Edge}
use Rattle.path_rules.specs.Prefix.{Kind, Verbatim, VerbatimUnc, VerbatimDisk, Device, Unc, Disk, upper, Lead, VerbatimLead, DeviceLead, DoubleLead, DriveLead, NoLead, VerbatimLeads, UncLead, DiskLead, NameLead, is_letter, double_lead, lead_of, verbatim_lead, IsShare, IsVerbatimBy, IsPrefixBy, IsPrefixOf}

-- both parts of a test
pub and_true : (p q : Bool) → (p && q) ≡ true → (p ≡ true) × (q ≡ true)
and_true true true e = (refl, refl)
and_true true false e = let never : false ≡ true = e in cc
and_true false q e = let never : false ≡ true = e in cc

-- of a choice of two both are so, each where it is chosen
pub chosen : {X : Type 0} (P : X → Type 0) (b : Bool) (x y : X) → (b ≡ true → P x) → P y → P (if b then x else y)
chosen P true x y p q = p refl
chosen P false x y p q = q

-- the drive's letter and its colon
Drives : List ℕ → Lead → Type 0
Drives s (VerbatimLead t) = Unit {0}
Drives s (DeviceLead t) = Unit {0}
Drives s (DoubleLead t) = Unit {0}
Drives s (DriveLead letter t) = s ≡ letter ∷ 0x3A ∷ t
Drives s NoLead = Unit {0}

double_drives : (a b : ℕ) (s t : List ℕ) → Drives s (double_lead a b t)
unfolding Drives
double_drives a b s [] = tt
double_drives a b s (c ∷ []) = tt
double_drives a b s (c ∷ d ∷ t) =
    chosen (Drives s) (nat_eq a 0x5C && nat_eq b 0x5C && nat_eq c 0x3F && nat_eq d 0x5C) (VerbatimLead t)
    (if nat_eq c 0x2E && separates rules.Either d then DeviceLead t else DoubleLead (c ∷ d ∷ t)) (λ e. tt)
    (chosen (Drives s) (nat_eq c 0x2E && separates rules.Either d) (DeviceLead t) (DoubleLead (c ∷ d ∷ t)) (λ e. tt) tt)

drives : (s : List ℕ) → Drives s (lead_of s)
unfolding Drives
drives [] = tt
drives (a ∷ []) = tt
drives (a ∷ b ∷ t) =
    chosen (Drives (a ∷ b ∷ t)) (separates rules.Either a && separates rules.Either b) (double_lead a b t)
    (if is_letter a && nat_eq b 0x3A then DriveLead a t else NoLead) (λ e. double_drives a b (a ∷ b ∷ t) t)
    (chosen (Drives (a ∷ b ∷ t)) (is_letter a && nat_eq b 0x3A) (DriveLead a t) NoLead
    (λ e. ap (λ x. a ∷ x ∷ t) (eqb-true b 0x3A ((and_true (is_letter a) (nat_eq b 0x3A) e).1))) tt)

-- after a verbatim drive comes an edge
Disks : VerbatimLeads → Type 0
Disks (UncLead t) = Unit {0}
Disks (DiskLead letter t) = Edge rules.Either t
Disks NameLead = Unit {0}

verbatim_disks : (part after : List ℕ) → Edge rules.Either after → Disks (verbatim_lead part after)
unfolding Disks
verbatim_disks [] after h = tt
verbatim_disks (a ∷ []) after h = tt
verbatim_disks (a ∷ b ∷ []) after h = chosen Disks (is_letter a && nat_eq b 0x3A) (DiskLead a after) NameLead (λ e. h) tt
verbatim_disks (a ∷ b ∷ c ∷ []) [] h = tt
verbatim_disks (a ∷ b ∷ c ∷ []) (d ∷ more) h = chosen Disks (nat_eq a 0x55 && nat_eq b 0x4E && nat_eq c 0x43) (UncLead more) NameLead (λ e. tt) tt
verbatim_disks (a ∷ b ∷ c ∷ d ∷ part) after h = tt

or_right : (p q : Bool) → q ≡ true → (p || q) ≡ true
or_right true q e = refl
or_right false q e = e

pub either_edge : (t : List ℕ) → Edge rules.Verbatim t → Edge rules.Either t
either_edge [] h = tt
either_edge (c ∷ t) h = or_right (nat_eq c 0x2F) (nat_eq c 0x5C) h

share_edge : (after share rest : List ℕ) → Edge rules.Verbatim after → IsShare after share rest → Edge rules.Verbatim rest
share_edge [] share rest e h = subst (Edge rules.Verbatim) (sym h.1) tt
share_edge (c ∷ more) [] rest e h = subst (Edge rules.Verbatim) (sym h.1.1) e
share_edge (c ∷ more) (b ∷ share) rest e h = h.edge

verbatim_edge : (l : VerbatimLeads) (s : List ℕ) (kind : Kind) (rest : List ℕ) → Disks l → IsVerbatimBy l s kind rest → Edge rules.Either rest
unfolding Disks
verbatim_edge (UncLead more) s kind rest d h = either_edge rest (share_edge h.after h.share rest h.first.edge h.second)
verbatim_edge (DiskLead letter more) s kind rest d h = subst (Edge rules.Either) (sym h.1) d
verbatim_edge NameLead s kind rest d h = either_edge rest h.field.edge

edge_by : (l : Lead) (s : List ℕ) (kind : Kind) (rest : List ℕ) → Drives s l → IsPrefixBy l kind rest → Edge rules.Either rest ⊎ ((letter : ℕ) × (s ≡ letter ∷ 0x3A ∷ rest))
unfolding Drives
edge_by (VerbatimLead t) s kind rest d h = inl (verbatim_edge (verbatim_lead h.part h.after) t kind rest (verbatim_disks h.part h.after h.first.edge) h.is)
edge_by (DeviceLead t) s kind rest d h = inl h.field.edge
edge_by (DoubleLead t) s kind rest d h = inl h.second.edge
edge_by (DriveLead letter t) s kind rest d h = inr (letter, d ∙ ap (λ x. letter ∷ 0x3A ∷ x) (sym h.1))
edge_by NoLead s kind rest d h = absurd h

pub edge_after : (s : List ℕ) (kind : Kind) (rest : List ℕ) → IsPrefixOf s kind rest → Edge rules.Either rest ⊎ ((letter : ℕ) × (s ≡ letter ∷ 0x3A ∷ rest))
edge_after s kind rest h = edge_by (lead_of s) s kind rest (drives s) h

-- the same, where a drive has no edge
disk_by : (l : Lead) (s : List ℕ) (kind : Kind) (rest : List ℕ) → IsPrefixBy l kind rest → Edge rules.Either rest ⊎ ((letter : ℕ) × (kind ≡ Disk letter))
disk_by (VerbatimLead t) s kind rest h = inl (verbatim_edge (verbatim_lead h.part h.after) t kind rest (verbatim_disks h.part h.after h.first.edge) h.is)
disk_by (DeviceLead t) s kind rest h = inl h.field.edge
disk_by (DoubleLead t) s kind rest h = inl h.second.edge
disk_by (DriveLead letter t) s kind rest h = inr (upper letter, h.0)
disk_by NoLead s kind rest h = absurd h

pub edge_or_disk : (s : List ℕ) (kind : Kind) (rest : List ℕ) → IsPrefixOf s kind rest → Edge rules.Either rest ⊎ ((letter : ℕ) × (kind ≡ Disk letter))
edge_or_disk s kind rest h = disk_by (lead_of s) s kind rest h

-- a drive is a letter and a colon
disk_verbatim : (l : VerbatimLeads) (s : List ℕ) (letter : ℕ) (rest : List ℕ) → IsVerbatimBy l s (Disk letter) rest → ⊥
disk_verbatim (UncLead more) s letter rest h = let never : Disk letter ≡ VerbatimUnc h.server h.share = h.is in cc
disk_verbatim (DiskLead d more) s letter rest h = let never : Disk letter ≡ VerbatimDisk (upper d) = h.0 in cc
disk_verbatim NameLead s letter rest h = let never : Disk letter ≡ Verbatim h.name = h.is in cc

drive_by : (l : Lead) (s : List ℕ) (letter : ℕ) (rest : List ℕ) → Drives s l → IsPrefixBy l (Disk letter) rest → (d : ℕ) × (s ≡ d ∷ 0x3A ∷ rest)
unfolding Drives
drive_by (VerbatimLead t) s letter rest d h = absurd (disk_verbatim (verbatim_lead h.part h.after) t letter rest h.is)
drive_by (DeviceLead t) s letter rest d h = let never : Disk letter ≡ Device h.name = h.is in cc
drive_by (DoubleLead t) s letter rest d h = let never : Disk letter ≡ Unc h.server h.share = h.is in cc
drive_by (DriveLead a t) s letter rest d h = (a, d ∙ ap (λ x. a ∷ 0x3A ∷ x) (sym h.1))
drive_by NoLead s letter rest d h = absurd h

pub drive_bytes : (s : List ℕ) (letter : ℕ) (rest : List ℕ) → IsPrefixOf s (Disk letter) rest → (d : ℕ) × (s ≡ d ∷ 0x3A ∷ rest)
drive_bytes s letter rest h = drive_by (lead_of s) s letter rest (drives s) h
