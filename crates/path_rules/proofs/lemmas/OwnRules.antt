-- What separates in a path, by its prefix.
use Rattle.std.proofs.Common.{◌≡◌, ℕ, Bool, true, false, ◌&&◌, nat_eq, if◌then◌else◌, List, [], ◌∷◌, drop, refl, sym, ap, ◌∙◌, subst}
use Rattle.path_rules.specs.declared.rules.Rules.TheVariants as rules
use Rattle.path_rules.specs.declared.rules.Style.TheVariants as style
use Rattle.path_rules.specs.Separators.{separates}
use Rattle.path_rules.specs.StyleRules.{rules_of_path}
use Rattle.path_rules.specs.Prefix.{Kind, Lead, VerbatimLead, DeviceLead, DoubleLead, DriveLead, NoLead, VerbatimLeads, UncLead, DiskLead, NameLead, is_letter, double_lead, lead_of, verbatim_lead, IsVerbatimBy, IsPrefixBy, IsPrefixOf, rules_of, begins_verbatim}
use Rattle.path_rules.proofs.lemmas.Simple.{begun}
use Rattle.path_rules.proofs.lemmas.Totals.{verbatim_some}

verbatim_rules : (v : VerbatimLeads) (s : List ℕ) (kind : Kind) (rest : List ℕ) → IsVerbatimBy v s kind rest → rules_of kind ≡ rules.Verbatim
verbatim_rules (UncLead more) s kind rest h = ap rules_of h.is
verbatim_rules (DiskLead letter more) s kind rest h = ap rules_of h.0
verbatim_rules NameLead s kind rest h = ap rules_of h.is

-- how a path begins that doesn't begin with `\\?\`
IsOther : Lead → Type 0
IsOther l = (kind : Kind) (rest : List ℕ) → IsPrefixBy l kind rest → rules_of kind ≡ rules.Either

device_other : (s : List ℕ) → IsOther (DeviceLead s)
unfolding IsOther
device_other s kind rest h = ap rules_of h.is

double_other : (s : List ℕ) → IsOther (DoubleLead s)
unfolding IsOther
double_other s kind rest h = ap rules_of h.is

drive_other : (letter : ℕ) (s : List ℕ) → IsOther (DriveLead letter s)
unfolding IsOther
drive_other letter s kind rest h = ap rules_of h.0

no_other : IsOther NoLead
unfolding IsOther
no_other kind rest h = absurd h

chosen : (v : Bool) (x y : Lead) → IsOther x → IsOther y → IsOther (if v then x else y)
chosen true x y h k = h
chosen false x y h k = k

doubles : (a b : ℕ) (s : List ℕ) → begins_verbatim (a ∷ b ∷ s) ≡ false → IsOther (double_lead a b s)
doubles a b [] e = double_other []
doubles a b (c ∷ []) e = double_other (c ∷ [])
doubles a b (c ∷ d ∷ s) e =
    subst (λ v. IsOther (if v then VerbatimLead s else (if nat_eq c 0x2E && separates rules.Either d then DeviceLead s else DoubleLead (c ∷ d ∷ s)))) (sym e)
    (chosen (nat_eq c 0x2E && separates rules.Either d) (DeviceLead s) (DoubleLead (c ∷ d ∷ s)) (device_other s) (double_other (c ∷ d ∷ s)))

others : (s : List ℕ) → begins_verbatim s ≡ false → IsOther (lead_of s)
others [] e = no_other
others (a ∷ []) e = no_other
others (a ∷ b ∷ s) e =
    chosen (separates rules.Either a && separates rules.Either b) (double_lead a b s) (if is_letter a && nat_eq b 0x3A then DriveLead a s else NoLead) (doubles a b s e)
    (chosen (is_letter a && nat_eq b 0x3A) (DriveLead a s) NoLead (drive_other a s) no_other)

-- a path follows the rules of its prefix
pub prefixed_rules : (s : List ℕ) (kind : Kind) (rest : List ℕ) → IsPrefixOf s kind rest → rules_of kind ≡ rules_of_path style.Windows s
unfolding IsOther
prefixed_rules s kind rest h = cases (begins_verbatim s) refl
  where
    cases : (v : Bool) → begins_verbatim s ≡ v → rules_of kind ≡ (if begins_verbatim s then rules.Verbatim else rules.Either)
    cases true e =
        let p = subst (λ x. IsPrefixOf x kind rest) (begun s e) h in
        verbatim_rules (verbatim_lead p.part p.after) (drop 4 s) kind rest p.is ∙ sym (ap (λ x. if x then rules.Verbatim else rules.Either) e)
    cases false e = others s e kind rest h ∙ sym (ap (λ x. if x then rules.Verbatim else rules.Either) e)

-- and without one those of Windows
pub bare_rules : (s : List ℕ) → ((kind : Kind) (rest : List ℕ) → ¬ (IsPrefixOf s kind rest)) → rules_of_path style.Windows s ≡ rules.Either
bare_rules s none = cases (begins_verbatim s) refl
  where
    cases : (v : Bool) → begins_verbatim s ≡ v → (if begins_verbatim s then rules.Verbatim else rules.Either) ≡ rules.Either
    cases true e =
        let p = verbatim_some (drop 4 s) in
        absurd (none p.0 p.1.0 (subst (λ x. IsPrefixOf x p.0 p.1.0) (sym (begun s e)) p.1.1))
    cases false e = ap (λ x. if x then rules.Verbatim else rules.Either) e
