-- The parts of the prefix of a well-formed path are well formed: each is cut beside ASCII.
use Rattle.std.proofs.Common.{◌≡◌, ◌<◌, ℕ, Bool, true, false, ◌&&◌, nat_eq, if◌then◌else◌, List, [], ◌∷◌, ◌++◌, take, drop, refl, sym, subst, arith, eqb-true}
use Rattle.wtf8_core.specs.Boundary.{IsBoundary}
use Rattle.path_rules.specs.declared.rules.Rules.{Rules}
use Rattle.path_rules.specs.declared.rules.Rules.TheVariants as rules
use Rattle.path_rules.specs.Separators.{separates, Edge, IsField}
use Rattle.path_rules.specs.Cut.{IsAsciiCut, at_start, at_end, after_ascii}
use Rattle.path_rules.specs.Prefix.{Kind, Verbatim, Device, Lead, VerbatimLead, DeviceLead, DoubleLead, DriveLead, NoLead, VerbatimLeads, UncLead, DiskLead, NameLead, is_letter, double_lead, lead_of, verbatim_lead, IsUnc, IsShare, IsVerbatimUnc, IsNamed, IsVerbatimBy, IsPrefixBy, IsPrefixOf}
use Rattle.path_rules.proofs.lemmas.Ascii.{ascii_separators, edge_cut}
use Rattle.os_path.specs.Prefixes.{IsFormedKind}
use Rattle.os_path.proofs.lemmas.Cuts.{before_formed, after_formed}

-- both parts of a test
and_true : (p q : Bool) → (p && q) ≡ true → (p ≡ true) × (q ≡ true)
and_true true true e = (refl, refl)
and_true true false e = let never : false ≡ true = e in cc
and_true false q e = let never : false ≡ true = e in cc

-- of a choice of two both are so, each where it is chosen
chosen : {X : Type 0} (P : X → Type 0) (b : Bool) (x y : X) → (b ≡ true → P x) → P y → P (if b then x else y)
chosen P true x y p q = p refl
chosen P false x y p q = q

-- s ends in t, and is cut beside ASCII before it
record AsciiEnd (s t : List ℕ) : Type 0 where
  before : List ℕ
  joined : s ≡ before ++ t
  cut : IsAsciiCut before t

Led : List ℕ → Lead → Type 0
Led s (VerbatimLead t) = AsciiEnd s t
Led s (DeviceLead t) = AsciiEnd s t
Led s (DoubleLead t) = AsciiEnd s t
Led s (DriveLead letter t) = Unit {0}
Led s NoLead = Unit {0}

double_led : (a b : ℕ) (t : List ℕ) → separates rules.Either b ≡ true → Led (a ∷ b ∷ t) (double_lead a b t)
unfolding Led
double_led a b [] e = record { before = a ∷ b ∷ []; joined = refl; cut = at_end refl }
double_led a b (c ∷ []) e = record { before = a ∷ b ∷ []; joined = refl; cut = after_ascii (a ∷ []) b refl (ascii_separators rules.Either b e) }
double_led a b (c ∷ d ∷ t) e =
    let s : List ℕ = a ∷ b ∷ c ∷ d ∷ t in
    let four = λ (low : d < 0x80). let r : AsciiEnd s t = record { before = a ∷ b ∷ c ∷ d ∷ []; joined = refl; cut = after_ascii (a ∷ b ∷ c ∷ []) d refl low } in r in
    let two : AsciiEnd s (c ∷ d ∷ t) = record { before = a ∷ b ∷ []; joined = refl; cut = after_ascii (a ∷ []) b refl (ascii_separators rules.Either b e) } in
    chosen (Led s) (nat_eq a 0x5C && nat_eq b 0x5C && nat_eq c 0x3F && nat_eq d 0x5C) (VerbatimLead t)
    (if nat_eq c 0x2E && separates rules.Either d then DeviceLead t else DoubleLead (c ∷ d ∷ t))
    (λ f. let last : d ≡ 0x5C = eqb-true d 0x5C ((and_true (nat_eq a 0x5C && nat_eq b 0x5C && nat_eq c 0x3F) (nat_eq d 0x5C) f).1) in four (omega arith))
    (chosen (Led s) (nat_eq c 0x2E && separates rules.Either d) (DeviceLead t) (DoubleLead (c ∷ d ∷ t)) (λ f. four (ascii_separators rules.Either d ((and_true (nat_eq c 0x2E) (separates rules.Either d) f).1))) two)

led : (s : List ℕ) → Led s (lead_of s)
unfolding Led
led [] = tt
led (a ∷ []) = tt
led (a ∷ b ∷ t) =
    chosen (Led (a ∷ b ∷ t)) (separates rules.Either a && separates rules.Either b) (double_lead a b t)
    (if is_letter a && nat_eq b 0x3A then DriveLead a t else NoLead) (λ e. double_led a b t ((and_true (separates rules.Either a) (separates rules.Either b) e).1))
    (chosen (Led (a ∷ b ∷ t)) (is_letter a && nat_eq b 0x3A) (DriveLead a t) NoLead (λ e. tt) tt)

VerbatimLed : List ℕ → VerbatimLeads → Type 0
VerbatimLed s (UncLead t) = AsciiEnd s t
VerbatimLed s (DiskLead letter t) = Unit {0}
VerbatimLed s NameLead = Unit {0}

verbatim_led : (part after s : List ℕ) → IsField rules.Either s part after → VerbatimLed s (verbatim_lead part after)
unfolding VerbatimLed
verbatim_led [] after s h = tt
verbatim_led (a ∷ []) after s h = tt
verbatim_led (a ∷ b ∷ []) after s h = chosen (VerbatimLed s) (is_letter a && nat_eq b 0x3A) (DiskLead a after) NameLead (λ e. tt) tt
verbatim_led (a ∷ b ∷ c ∷ []) [] s h = tt
verbatim_led (a ∷ b ∷ c ∷ []) (d ∷ more) s h =
    chosen (VerbatimLed s) (nat_eq a 0x55 && nat_eq b 0x4E && nat_eq c 0x43) (UncLead more) NameLead
    (λ e. record { before = a ∷ b ∷ c ∷ d ∷ []; joined = h.joined; cut = after_ascii (a ∷ b ∷ c ∷ []) d refl (ascii_separators rules.Either d h.edge) }) tt
verbatim_led (a ∷ b ∷ c ∷ d ∷ part) after s h = tt

module _ (formed : List ℕ → Type 0) (cut_prefix : (b : List ℕ) (i : ℕ) → formed b → IsBoundary b i → formed (take i b)) (cut_suffix : (b : List ℕ) (i : ℕ) → formed b → IsBoundary b i → formed (drop i b)) where
  field_formed : (r : Rules) (s field rest : List ℕ) → IsField r s field rest → formed s → formed field × formed rest
  field_formed r s field rest h f =
      let c = edge_cut r field rest h.edge in
      (before_formed formed cut_prefix cut_suffix s field rest h.joined c f, after_formed formed cut_prefix cut_suffix s field rest h.joined c f)

  end_formed : (s t : List ℕ) → AsciiEnd s t → formed s → formed t
  end_formed s t e f = after_formed formed cut_prefix cut_suffix s e.before t e.joined e.cut f

  nothing_formed : (s : List ℕ) → formed s → formed []
  nothing_formed s f = before_formed formed cut_prefix cut_suffix s [] s refl (at_start refl) f

  -- after a separator
  after_separator : (r : Rules) (c : ℕ) (s : List ℕ) → separates r c ≡ true → formed (c ∷ s) → formed s
  after_separator r c s e f = after_formed formed cut_prefix cut_suffix (c ∷ s) (c ∷ []) s refl (after_ascii [] c refl (ascii_separators r c e)) f

  named_formed : (r : Rules) (Named : List ℕ → Kind) (s : List ℕ) (kind : Kind) (rest : List ℕ) → ((name : List ℕ) → formed name → IsFormedKind formed (Named name)) → IsNamed r Named s kind rest → formed s → IsFormedKind formed kind
  named_formed r Named s kind rest give h f = subst (IsFormedKind formed) (sym h.is) (give h.name ((field_formed r s h.name rest h.field f).0))

  unc_formed : (s : List ℕ) (kind : Kind) (rest : List ℕ) → IsUnc s kind rest → formed s → IsFormedKind formed kind
  unc_formed s kind rest h f =
      let one = field_formed rules.Either s h.server (h.separator ∷ h.more) h.first f in
      let two = field_formed rules.Either h.more h.share rest h.second (after_separator rules.Either h.separator h.more h.first.edge one.1) in
      subst (IsFormedKind formed) (sym h.is) (one.0, two.0)

  share_formed : (after share rest : List ℕ) → Edge rules.Verbatim after → IsShare after share rest → formed after → formed share
  share_formed [] share rest e h f = subst formed (sym h.0) f
  share_formed (c ∷ more) [] rest e h f = nothing_formed (c ∷ more) f
  share_formed (c ∷ more) (b ∷ share) rest e h f = (field_formed rules.Verbatim more (b ∷ share) rest h (after_separator rules.Verbatim c more e f)).0

  verbatim_unc_formed : (s : List ℕ) (kind : Kind) (rest : List ℕ) → IsVerbatimUnc s kind rest → formed s → IsFormedKind formed kind
  verbatim_unc_formed s kind rest h f =
      let one = field_formed rules.Verbatim s h.server h.after h.first f in
      subst (IsFormedKind formed) (sym h.is) (one.0, share_formed h.after h.share rest h.first.edge h.second one.1)

  verbatim_formed : (l : VerbatimLeads) (s : List ℕ) (kind : Kind) (rest : List ℕ) → VerbatimLed s l → IsVerbatimBy l s kind rest → formed s → IsFormedKind formed kind
  unfolding VerbatimLed
  verbatim_formed (UncLead more) s kind rest e h f = verbatim_unc_formed more kind rest h (end_formed s more e f)
  verbatim_formed (DiskLead letter more) s kind rest e h f = subst (IsFormedKind formed) (sym h.0) tt
  verbatim_formed NameLead s kind rest e h f = named_formed rules.Verbatim Verbatim s kind rest (λ name g. g) h f

  by_lead : (l : Lead) (s : List ℕ) (kind : Kind) (rest : List ℕ) → Led s l → IsPrefixBy l kind rest → formed s → IsFormedKind formed kind
  unfolding Led
  by_lead (VerbatimLead t) s kind rest e h f = verbatim_formed (verbatim_lead h.part h.after) t kind rest (verbatim_led h.part h.after t h.first) h.is (end_formed s t e f)
  by_lead (DeviceLead t) s kind rest e h f = named_formed rules.Either Device t kind rest (λ name g. g) h (end_formed s t e f)
  by_lead (DoubleLead t) s kind rest e h f = unc_formed t kind rest h (end_formed s t e f)
  by_lead (DriveLead letter t) s kind rest e h f = subst (IsFormedKind formed) (sym h.0) tt
  by_lead NoLead s kind rest e h f = absurd h

  pub kind_formed : (s : List ℕ) (kind : Kind) (rest : List ℕ) → IsPrefixOf s kind rest → formed s → IsFormedKind formed kind
  kind_formed s kind rest h f = by_lead (lead_of s) s kind rest (led s) h f
