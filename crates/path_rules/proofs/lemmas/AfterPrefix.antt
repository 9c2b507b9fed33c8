-- What follows a prefix is the end of the path.
use Rattle.std.proofs.Common.{◌≡◌, ◌-◌, ◌<◌, ◌≤◌, ℕ, Bool, true, false, if◌then◌else◌, ◌&&◌, nat_eq, List, [], ◌∷◌, ◌++◌, length, take, refl, sym, ap, ◌∙◌, arith, append_assoc, length-append, ◌≢◌}
use Rattle.std.proofs.lemmas.List.{take_at, append_cancel_right}
use Rattle.path_rules.specs.declared.rules.Rules.TheVariants as rules
use Rattle.path_rules.specs.Separators.{separates, IsField, IsFieldBy}
use Rattle.path_rules.specs.Component.{Prefix}
use Rattle.path_rules.specs.Prefix.{Kind, Lead, VerbatimLead, DeviceLead, DoubleLead, DriveLead, NoLead, VerbatimLeads, UncLead, DiskLead, NameLead, is_letter, double_lead, lead_of, verbatim_lead, IsUnc, IsShare, IsVerbatimBy, IsPrefixBy, IsPrefixOf}
use Rattle.path_rules.specs.Heads.{prefix_items}
use Rattle.path_rules.specs.declared.head.Head.{Head}
use Rattle.path_rules.specs.HeadParts.{IsPrefixedHead}

-- t is the end of s
pub record IsEnd (s t : List ℕ) : Type 0 where
  pub before : List ℕ
  pub joined : s ≡ before ++ t

-- and not all of it
pub record IsProperEnd (s t : List ℕ) : Type 0 where
  pub before : List ℕ
  pub joined : s ≡ before ++ t
  pub some : 0 < length before

further : {s t u : List ℕ} → IsEnd s t → IsEnd t u → IsEnd s u
further {u = u} a b = record {
  before = a.before ++ b.before;
  joined = a.joined ∙ ap (λ x. a.before ++ x) b.joined ∙ sym (append_assoc a.before b.before u);
}

later : {s t u : List ℕ} → IsProperEnd s t → IsEnd t u → IsProperEnd s u
later {u = u} a b = record {
  before = a.before ++ b.before;
  joined = a.joined ∙ ap (λ x. a.before ++ x) b.joined ∙ sym (append_assoc a.before b.before u);
  some = let h : 0 < length a.before = a.some in omega (arith, length-append a.before b.before);
}

same : {s t : List ℕ} → t ≡ s → IsEnd s t
same e = record { before = []; joined = sym e }

after_one : (c : ℕ) (s : List ℕ) → IsEnd (c ∷ s) s
after_one c s = record { before = c ∷ []; joined = refl }

field : {test : ℕ → Bool} {s f t : List ℕ} → IsFieldBy test s f t → IsEnd s t
field {f = f} h = record { before = f; joined = h.joined }

-- of a choice of two both are so
either : {X : Type 0} (P : X → Type 0) (b : Bool) (x y : X) → P x → P y → P (if b then x else y)
either P true x y p q = p
either P false x y p q = q

-- what follows how a path begins
Leads : List ℕ → Lead → Type 0
Leads s (VerbatimLead t) = IsProperEnd s t
Leads s (DeviceLead t) = IsProperEnd s t
Leads s (DoubleLead t) = IsProperEnd s t
Leads s (DriveLead letter t) = IsProperEnd s t
Leads s NoLead = Unit {0}

double_leads : (a b : ℕ) (t : List ℕ) → Leads (a ∷ b ∷ t) (double_lead a b t)
unfolding Leads
double_leads a b [] = record { before = a ∷ b ∷ []; joined = refl; some = omega arith }
double_leads a b (c ∷ []) = record { before = a ∷ b ∷ []; joined = refl; some = omega arith }
double_leads a b (c ∷ d ∷ t) =
    let s : List ℕ = a ∷ b ∷ c ∷ d ∷ t in
    let four : IsProperEnd s t = record { before = a ∷ b ∷ c ∷ d ∷ []; joined = refl; some = omega arith } in
    let two : IsProperEnd s (c ∷ d ∷ t) = record { before = a ∷ b ∷ []; joined = refl; some = omega arith } in
    either (Leads s) (nat_eq a 0x5C && nat_eq b 0x5C && nat_eq c 0x3F && nat_eq d 0x5C) (VerbatimLead t)
    (if nat_eq c 0x2E && separates rules.Either d then DeviceLead t else DoubleLead (c ∷ d ∷ t)) four
    (either (Leads s) (nat_eq c 0x2E && separates rules.Either d) (DeviceLead t) (DoubleLead (c ∷ d ∷ t)) four two)

leads : (s : List ℕ) → Leads s (lead_of s)
unfolding Leads
leads [] = tt
leads (a ∷ []) = tt
leads (a ∷ b ∷ t) =
    let s : List ℕ = a ∷ b ∷ t in
    let two : IsProperEnd s t = record { before = a ∷ b ∷ []; joined = refl; some = omega arith } in
    either (Leads s) (separates rules.Either a && separates rules.Either b) (double_lead a b t)
    (if is_letter a && nat_eq b 0x3A then DriveLead a t else NoLead) (double_leads a b t)
    (either (Leads s) (is_letter a && nat_eq b 0x3A) (DriveLead a t) NoLead two tt)

VLeads : List ℕ → VerbatimLeads → Type 0
VLeads s (UncLead t) = IsEnd s t
VLeads s (DiskLead letter t) = IsEnd s t
VLeads s NameLead = Unit {0}

verbatim_leads : (part after s : List ℕ) → IsField rules.Either s part after → VLeads s (verbatim_lead part after)
unfolding VLeads
verbatim_leads [] after s h = tt
verbatim_leads (a ∷ []) after s h = tt
verbatim_leads (a ∷ b ∷ []) after s h = either (VLeads s) (is_letter a && nat_eq b 0x3A) (DiskLead a after) NameLead (field h) tt
verbatim_leads (a ∷ b ∷ c ∷ []) [] s h = tt
verbatim_leads (a ∷ b ∷ c ∷ []) (d ∷ more) s h =
    either (VLeads s) (nat_eq a 0x55 && nat_eq b 0x4E && nat_eq c 0x43) (UncLead more) NameLead (further (field h) (after_one d more)) tt
verbatim_leads (a ∷ b ∷ c ∷ d ∷ part) after s h = tt

unc_within : (s : List ℕ) (kind : Kind) (rest : List ℕ) → IsUnc s kind rest → IsEnd s rest
unc_within s kind rest h = further (further (field h.first) (after_one h.separator h.more)) (field h.second)

share_within : (after share rest : List ℕ) → IsShare after share rest → IsEnd after rest
share_within [] share rest h = same h.1
share_within (c ∷ more) [] rest (tail, f) = same f.1
share_within (c ∷ more) (b ∷ share) rest h = further (after_one c more) (field h)

verbatim_within : (l : VerbatimLeads) (s : List ℕ) (kind : Kind) (rest : List ℕ) → VLeads s l → IsVerbatimBy l s kind rest → IsEnd s rest
unfolding VLeads
verbatim_within (UncLead more) s kind rest w h = further w (further (field h.first) (share_within h.after h.share rest h.second))
verbatim_within (DiskLead letter more) s kind rest w h = further w (same h.1)
verbatim_within NameLead s kind rest w h = field h.field

prefix_after : (l : Lead) (s : List ℕ) (kind : Kind) (rest : List ℕ) → Leads s l → IsPrefixBy l kind rest → IsProperEnd s rest
unfolding Leads
prefix_after (VerbatimLead t) s kind rest w h = later w (verbatim_within (verbatim_lead h.part h.after) t kind rest (verbatim_leads h.part h.after t h.first) h.is)
prefix_after (DeviceLead t) s kind rest w h = later w (field h.field)
prefix_after (DoubleLead t) s kind rest w h = later w (unc_within t kind rest h)
prefix_after (DriveLead letter t) s kind rest w h = later w (same h.1)
prefix_after NoLead s kind rest w h = absurd h

pub after_prefix : (s : List ℕ) (kind : Kind) (rest : List ℕ) → IsPrefixOf s kind rest → IsProperEnd s rest
after_prefix s kind rest h = prefix_after (lead_of s) s kind rest (leads s) h

pub shorter : (s t : List ℕ) → IsProperEnd s t → length t ≤ length s
shorter s t b = omega (arith, length-append b.before t, ap length b.joined)

pub before_is : (s t : List ℕ) (b : IsProperEnd s t) → take (length s - length t) s ≡ b.before
before_is s t b = ap (take (length s - length t)) b.joined ∙ take_at b.before t (length s - length t) (omega (arith, length-append b.before t, ap length b.joined))

pub prefix_joined : (s t : List ℕ) (b : IsProperEnd s t) → s ≡ take (length s - length t) s ++ t
prefix_joined s t b = b.joined ∙ ap (λ x. x ++ t) (sym (before_is s t b))

pub some_prefix : (raw : List ℕ) → 0 < length raw → prefix_items raw ≡ Prefix raw ∷ []
some_prefix [] h = absurd (omega arith)
some_prefix (b ∷ s) h = refl

-- a prefix isn't empty
pub some_before : (path raw : List ℕ) (kind : Kind) (rest : List ℕ) → IsPrefixOf path kind rest → path ≡ raw ++ rest → raw ≢ []
some_before path raw kind rest h j e =
    let b = after_prefix path kind rest h in
    let same : b.before ≡ raw = append_cancel_right b.before raw rest (sym b.joined ∙ j) in
    let n : length b.before ≡ 0 = ap length (same ∙ e) in
    let some : 0 < length b.before = b.some in omega arith

pub some_of : (path : List ℕ) (head : Head) → IsPrefixedHead path head → head.prefix.now ≢ []
some_of path head h = some_before path head.prefix.now h.kind h.rest h.is h.joined
