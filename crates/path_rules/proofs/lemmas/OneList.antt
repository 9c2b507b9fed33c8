-- A Windows path has one prefix, and one list of components.
use Rattle.std.proofs.Common.{◌≡◌, ℕ, List, [], ◌∷◌, ◌++◌, refl, sym, ap, ◌∙◌, subst}
use Rattle.std.proofs.lemmas.List.{append_cancel_right}
use Rattle.path_rules.specs.declared.rules.Rules.{Rules}
use Rattle.path_rules.specs.declared.rules.Rules.TheVariants as rules
use Rattle.path_rules.specs.declared.rules.Style as whose
use Rattle.path_rules.specs.declared.rules.Style.TheVariants as style
use Rattle.path_rules.specs.Separators.{IsField}
use Rattle.path_rules.specs.Component.{Item, Prefix, components_in}
use Rattle.path_rules.specs.Prefix.{Kind, Verbatim, VerbatimUnc, Unc, Lead, VerbatimLead, DeviceLead, DoubleLead, DriveLead, NoLead, VerbatimLeads, UncLead, DiskLead, NameLead, lead_of, verbatim_lead, IsUnc, IsShare, IsVerbatimUnc, IsNamed, IsVerbatimBy, IsPrefixBy, IsPrefixOf, rules_of}
use Rattle.path_rules.specs.Heads.{start_items}
use Rattle.path_rules.specs.Components.{root_of, after_root, AreComponents, AreWindowsComponents, prefixed, bare}
use Rattle.path_rules.proofs.lemmas.Fields.{one_field}

-- the same kind before the same rest
Same : Kind → List ℕ → Kind → List ℕ → Type 0
Same k t l u = (k ≡ l) × (t ≡ u)

one_named : (r : Rules) (N : List ℕ → Kind) (s : List ℕ) (k l : Kind) (t u : List ℕ) → IsNamed r N s k t → IsNamed r N s l u → Same k t l u
unfolding Same
one_named r N s k l t u a b =
    let same = one_field r s a.name b.name t u a.field b.field in (a.is ∙ ap N same.0 ∙ sym b.is, same.1)

one_unc : (s : List ℕ) (k l : Kind) (t u : List ℕ) → IsUnc s k t → IsUnc s l u → Same k t l u
unfolding Same
one_unc s k l t u a b =
    let one = one_field rules.Either s a.server b.server (a.separator ∷ a.more) (b.separator ∷ b.more) a.first b.first in
    let pair : a.separator ∷ a.more ≡ b.separator ∷ b.more = one.1 in
    let mores : a.more ≡ b.more = cc in
    let two = one_field rules.Either b.more a.share b.share t u (subst (λ x. IsField rules.Either x a.share t) mores a.second) b.second in
    (a.is ∙ ap (λ x. Unc x a.share) one.0 ∙ ap (Unc b.server) two.0 ∙ sym b.is, two.1)

one_share : (after share other t u : List ℕ) → IsShare after share t → IsShare after other u → (share ≡ other) × (t ≡ u)
one_share [] share other t u a b = (a.0 ∙ sym b.0, a.1 ∙ sym b.1)
one_share (c ∷ more) [] [] t u a b = (refl, a.1.1 ∙ sym b.1.1)
one_share (c ∷ more) [] (d ∷ other) t u a b =
    let never : [] ≡ d ∷ other = (one_field rules.Verbatim more [] (d ∷ other) a.0 u a.1.0 b).0 in cc
one_share (c ∷ more) (d ∷ share) [] t u a b =
    let never : d ∷ share ≡ [] = (one_field rules.Verbatim more (d ∷ share) [] t b.0 a b.1.0).0 in cc
one_share (c ∷ more) (d ∷ share) (e ∷ other) t u a b = one_field rules.Verbatim more (d ∷ share) (e ∷ other) t u a b

one_verbatim_unc : (s : List ℕ) (k l : Kind) (t u : List ℕ) → IsVerbatimUnc s k t → IsVerbatimUnc s l u → Same k t l u
unfolding Same
one_verbatim_unc s k l t u a b =
    let one = one_field rules.Verbatim s a.server b.server a.after b.after a.first b.first in
    let two = one_share b.after a.share b.share t u (subst (λ x. IsShare x a.share t) one.1 a.second) b.second in
    (a.is ∙ ap (λ x. VerbatimUnc x a.share) one.0 ∙ ap (VerbatimUnc b.server) two.0 ∙ sym b.is, two.1)

one_verbatim : (v : VerbatimLeads) (s : List ℕ) (k l : Kind) (t u : List ℕ) → IsVerbatimBy v s k t → IsVerbatimBy v s l u → Same k t l u
unfolding Same
one_verbatim (UncLead more) s k l t u a b = one_verbatim_unc more k l t u a b
one_verbatim (DiskLead letter more) s k l t u a b = (a.0 ∙ sym b.0, a.1 ∙ sym b.1)
one_verbatim NameLead s k l t u a b = one_named rules.Verbatim Verbatim s k l t u a b

one_by : (d : Lead) (k l : Kind) (t u : List ℕ) → IsPrefixBy d k t → IsPrefixBy d l u → Same k t l u
unfolding Same
one_by (VerbatimLead s) k l t u a b =
    let same = one_field rules.Either s a.part b.part a.after b.after a.first b.first in
    one_verbatim (verbatim_lead b.part b.after) s k l t u (subst (λ x. IsVerbatimBy (verbatim_lead b.part x) s k t) same.1 (subst (λ x. IsVerbatimBy (verbatim_lead x a.after) s k t) same.0 a.is)) b.is
one_by (DeviceLead s) k l t u a b = one_named rules.Either _ s k l t u a b
one_by (DoubleLead s) k l t u a b = one_unc s k l t u a b
one_by (DriveLead letter s) k l t u a b = (a.0 ∙ sym b.0, a.1 ∙ sym b.1)
one_by NoLead k l t u a b = absurd a

pub one_prefix : (s : List ℕ) (k l : Kind) (t u : List ℕ) → IsPrefixOf s k t → IsPrefixOf s l u → (k ≡ l) × (t ≡ u)
unfolding Same
one_prefix s k l t u a b = one_by (lead_of s) k l t u a b

pub one_items : (s : List ℕ) (xs ys : List Item) → AreWindowsComponents s xs → AreWindowsComponents s ys → xs ≡ ys
one_items s xs ys (prefixed a) (prefixed b) =
    let same = one_prefix s a.kind b.kind a.rest b.rest a.prefix b.prefix in
    let raws : a.raw ≡ b.raw = append_cancel_right a.raw b.raw b.rest (ap (λ x. a.raw ++ x) (sym same.1) ∙ sym a.joined ∙ b.joined) in
    a.are ∙ ap (λ x. Prefix x ∷ (start_items (root_of a.kind a.rest) ++ components_in (rules_of a.kind) (after_root a.rest))) raws
    ∙ ap (λ x. Prefix b.raw ∷ (start_items (root_of x a.rest) ++ components_in (rules_of x) (after_root a.rest))) same.0
    ∙ ap (λ x. Prefix b.raw ∷ (start_items (root_of b.kind x) ++ components_in (rules_of b.kind) (after_root x))) same.1 ∙ sym b.are
one_items s xs ys (prefixed a) (bare b) = absurd (b.none a.kind a.rest a.prefix)
one_items s xs ys (bare a) (prefixed b) = absurd (a.none b.kind b.rest b.prefix)
one_items s xs ys (bare a) (bare b) = a.are ∙ sym b.are

pub one_components : (w : whose.Style) (s : List ℕ) (xs ys : List Item) → AreComponents w s xs → AreComponents w s ys → xs ≡ ys
one_components style.Unix s xs ys a b = a ∙ sym b
one_components style.Windows s xs ys a b = one_items s xs ys a b
