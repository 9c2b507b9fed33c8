-- The components of a path joined to a verbatim one.
use Rattle.std.proofs.Common.{◌≡◌, ◌≢◌, inl, inr, ℕ, true, false, List, [], ◌∷◌, ◌++◌, reverse, refl, sym, ap, ◌∙◌, subst, append-nil}
use Rattle.std.proofs.lemmas.List.{reverse-reverse}
use Rattle.path_rules.specs.declared.rules.Rules.TheVariants as rules
use Rattle.path_rules.specs.declared.rules.Style.TheVariants as style
use Rattle.path_rules.specs.declared.head.Start.{Start}
use Rattle.path_rules.specs.declared.head.Start.TheVariants.{Root, Dot, Nothing}
use Rattle.path_rules.specs.Component.{Item, Prefix, components_in}
use Rattle.path_rules.specs.Prefix.{Kind, Verbatim, VerbatimUnc, VerbatimDisk, Device, Unc, Disk, IsPrefixOf, rules_of, IsPrefixed}
use Rattle.path_rules.specs.Heads.{start_items}
use Rattle.path_rules.specs.Components.{AreWindowsComponents, ArePrefixed, AreBare, prefixed, bare, root_of, after_root, start_of, after_start}
use Rattle.path_building.specs.Resolved.{ResolvesTo, below_root, IsResolved, HasResolved}
use Rattle.path_building.specs.Join.{IsVerbatimPath, IsJoin, replacing, resolving, at_root, after}
use Rattle.path_building.specs.Base.{IsOpenKind, LacksPart}
use Rattle.path_building.specs.Written.{LacksShare, written}
use Rattle.path_building.specs.Spelled.{cleaned, AreSpelled, kept_names, start_below}
use Rattle.path_rules.proofs.lemmas.Edges.{edge_or_disk}
use Rattle.path_rules.proofs.lemmas.OneList.{one_prefix}
use Rattle.path_rules.proofs.lemmas.Parents.{no_dot}
use Rattle.path_building.proofs.lemmas.Spelling.{body_spelled}
use Rattle.path_building.proofs.lemmas.AsWritten.{prefix_alone}
use Rattle.path_building.proofs.lemmas.Written.{prefixed_written}
use Rattle.path_building.proofs.lemmas.Forms.{empty_rest}
use Rattle.path_building.proofs.lemmas.Bases.{alone_items, all_parts, before_root}
use Rattle.path_building.proofs.lemmas.Checks.{kind_spelled}
use Rattle.path_building.proofs.lemmas.Resolved.{one_resolved, above, resolves, below_is, left_spelled, after_some}

has_share : (kind : Kind) → ¬ (IsOpenKind kind) → ¬ (LacksShare kind)
has_share (Verbatim n) h l = l
has_share (VerbatimUnc s n) h l = h (inr l)
has_share (VerbatimDisk d) h l = l
has_share (Device n) h l = l
has_share (Unc s n) h l = l
has_share (Disk d) h l = l

start_none : (added st : Start) (names : List Item) → start_below added st names ≡ Nothing → names ≡ []
start_none Root st names e = let never : Root ≡ Nothing = e in cc
start_none Dot st [] e = refl
start_none Dot st (x ∷ xs) e = let never : Root ≡ Nothing = e in cc
start_none Nothing st [] e = refl
start_none Nothing st (x ∷ xs) e = let never : Root ≡ Nothing = e in cc

start_tight : (added st : Start) (names : List Item) → st ≢ Dot → start_below added st names ≢ Dot
start_tight Root st names n e = let never : Root ≡ Dot = e in cc
start_tight Dot st [] n e = n e
start_tight Dot st (x ∷ xs) n e = let never : Root ≡ Dot = e in cc
start_tight Nothing st [] n e = n e
start_tight Nothing st (x ∷ xs) n e = let never : Root ≡ Dot = e in cc

-- names below a whole verbatim prefix
module _ (p : List ℕ) (kind : Kind) (alone : IsPrefixOf p kind []) (verbatim : rules_of kind ≡ rules.Verbatim) (whole : ¬ (IsOpenKind kind)) where
  some_bytes : p ≢ []
  some_bytes e = subst (λ z. IsPrefixOf z kind []) e alone

  written_below : (st : Start) (names : List Item) → (st ≡ Nothing → names ≡ []) → st ≢ Dot → AreSpelled (rules_of kind) names → AreWindowsComponents (written 0x5C (Prefix p ∷ (start_items st ++ names))) (Prefix p ∷ (start_items st ++ names))
  written_below Root names none n sp =
      let s = p ++ 0x5C ∷ [] in
      let q = prefixed_written s p kind (0x5C ∷ []) false names refl (before_root p kind alone verbatim whole) (λ l. absurd (has_share kind whole l)) sp (λ v z. let never : Root ≡ Nothing = z in cc) in
      subst (λ z. AreWindowsComponents z (Prefix p ∷ (start_items Root ++ names))) (after_some (rules_of kind) p Root names some_bytes sp) (prefixed q)
  written_below Dot names none n sp = absurd (n refl)
  written_below Nothing names none n sp =
      subst (λ z. AreWindowsComponents (written 0x5C (Prefix p ∷ z)) (Prefix p ∷ z)) (sym (none refl))
      (subst (λ z. AreWindowsComponents z (Prefix p ∷ [])) (sym (append-nil p)) (alone_items p (kind, (alone, verbatim))))

-- by the components of both
from_items : (base path joined : List ℕ) (r : IsResolved base path joined) → IsVerbatimPath style.Windows base → ¬ (LacksPart style.Windows base) → ArePrefixed base r.resolved.base_items → AreBare path r.resolved.items → AreWindowsComponents joined (below_root r.left)
from_items base path joined r v n a b =
    let p = a.raw in
    let st = root_of a.kind a.rest in
    let bs = components_in (rules_of a.kind) (after_root a.rest) in
    let added = start_of rules.Either path in
    let body = after_start added path in
    let xs = components_in rules.Either body in
    let names = reverse (cleaned true (reverse (kept_names added bs)) xs) in
    let e : reverse names ≡ cleaned true (reverse (kept_names added bs)) xs = reverse-reverse (cleaned true (reverse (kept_names added bs)) xs) in
    let sp = body_spelled rules.Either body in
    let verbatim : rules_of a.kind ≡ rules.Verbatim = ap rules_of (one_prefix base a.kind v.0 a.rest v.1.0 a.prefix v.1.1.0).0 ∙ v.1.1.1 in
    let alone = prefix_alone base p a.kind a.rest a.joined a.prefix in
    let whole = all_parts base a.kind a.rest a.prefix n in
    let tight : st ≢ Dot = λ z. no_dot a.kind a.rest z in
    let none : st ≡ Nothing → bs ≡ [] = λ z. ap (λ t. components_in (rules_of a.kind) (after_root t)) (empty_rest a.kind a.rest verbatim (edge_or_disk base a.kind a.rest a.prefix) z) in
    let left = Prefix p ∷ (start_items (above added st) ++ names) in
    let form : ResolvesTo r.resolved.base_items (reverse r.resolved.items) (reverse left) =
    subst (λ z. ResolvesTo z (reverse r.resolved.items) (reverse left)) (sym a.are) (subst (λ z. ResolvesTo (Prefix p ∷ (start_items st ++ bs)) (reverse z) (reverse left)) (sym b.are) (resolves rules.Either p st bs added xs names sp e)) in
    let same : left ≡ r.left = sym (reverse-reverse left) ∙ ap reverse (one_resolved form r.resolved.form) ∙ reverse-reverse r.left in
    let spelled = left_spelled (rules_of a.kind) added bs xs names (body_spelled (rules_of a.kind) (after_root a.rest)) (kind_spelled a.kind xs sp) e in
    let start = start_below added st names in
    let below = written_below p a.kind alone verbatim whole start names (start_none added st names) (start_tight added st names tight) spelled in
    let is : Prefix p ∷ (start_items start ++ names) ≡ below_root r.left = sym (below_is rules.Either p st bs added xs names tight none sp e) ∙ ap below_root same in
    subst (λ z. AreWindowsComponents z (below_root r.left)) (sym r.is) (subst (λ z. AreWindowsComponents (written 0x5C z) z) is below)

has_resolved : (base path joined : List ℕ) → ¬ (IsPrefixed style.Windows path) → IsVerbatimPath style.Windows base → ¬ (LacksPart style.Windows base) → IsResolved base path joined → HasResolved base path joined
has_resolved base path joined n v w r = record { left = r.left; resolved = r.resolved; are = by r.resolved.base_are r.resolved.are }
  where
    by : AreWindowsComponents base r.resolved.base_items → AreWindowsComponents path r.resolved.items → AreWindowsComponents joined (below_root r.left)
    by (bare a) b = absurd (a.none v.0 v.1.0 v.1.1.0)
    by (prefixed a) (prefixed b) = absurd (n (b.kind, (b.rest, b.prefix)))
    by (prefixed a) (bare b) = from_items base path joined r v w a b

pub joined_resolved : (base path joined : List ℕ) → IsVerbatimPath style.Windows base → ¬ (LacksPart style.Windows base) → ¬ (IsPrefixed style.Windows path) → path ≢ [] → IsJoin style.Windows base path joined → HasResolved base path joined
joined_resolved base path joined v w n some (replacing p e) = absurd (n p)
joined_resolved base path joined v w n some (resolving m b s r) = has_resolved base path joined n v w r
joined_resolved base path joined v w n some (at_root m b i) = absurd (b v)
joined_resolved base path joined v w n some (after m (inl e) i) = absurd (some e)
joined_resolved base path joined v w n some (after m (inr b) i) = absurd (b v)
