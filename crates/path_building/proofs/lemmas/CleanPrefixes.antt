-- What is written after a prefix in one spelling has these components.
use Rattle.std.proofs.Common.{◌≡◌, ◌≢◌, inr, ℕ, Bool, true, false, if◌then◌else◌, List, [], ◌∷◌, ◌++◌, map, refl, sym, ap, ◌∙◌, subst, append-nil}
use Rattle.path_rules.specs.declared.rules.Rules.TheVariants as rules
use Rattle.path_rules.specs.declared.rules.Style as whose
use Rattle.path_rules.specs.declared.rules.Style.TheVariants as style
use Rattle.path_rules.specs.declared.head.Start.{Start}
use Rattle.path_rules.specs.declared.head.Start.TheVariants.{Root, Dot, Nothing}
use Rattle.path_rules.specs.declared.head.Head.{Head}
use Rattle.path_rules.specs.StyleRules.{main_separator}
use Rattle.path_rules.specs.Component.{Item, Prefix}
use Rattle.path_rules.specs.Prefix.{Kind, Verbatim, VerbatimUnc, VerbatimDisk, Device, Unc, Disk, IsPrefixOf, rules_of, begins_verbatim}
use Rattle.path_rules.specs.Heads.{prefix_items, start_items}
use Rattle.path_rules.specs.HeadParts.{IsHead, bare_head, prefixed_head}
use Rattle.path_rules.specs.Components.{AreWindowsComponents, prefixed, root_of}
use Rattle.path_building.specs.Cleaned.{one_spelling, spelled}
use Rattle.path_building.specs.Written.{LacksShare, HasEmptyShare, IsPathOf}
use Rattle.path_building.specs.Spelled.{after_bytes, AreSpelled, MayStart}
use Rattle.path_rules.proofs.lemmas.OneList.{one_prefix}
use Rattle.path_rules.proofs.lemmas.OwnRules.{prefixed_rules}
use Rattle.path_rules.proofs.lemmas.Parents.{no_dot}
use Rattle.path_building.proofs.lemmas.Moves.{Fits, prefix_moves}
use Rattle.path_building.proofs.lemmas.AsWritten.{prefix_alone, as_written}
use Rattle.path_building.proofs.lemmas.Written.{no_root, prefixed_written}
use Rattle.path_building.proofs.lemmas.Spellings.{prefix_spelled}

-- a prefix after which both separators separate
pub either_by : (s : List ℕ) (kind : Kind) (rest : List ℕ) → begins_verbatim s ≡ false → IsPrefixOf s kind rest → rules_of kind ≡ rules.Either
either_by s kind rest v h = prefixed_rules s kind rest h ∙ ap (λ z. if z then rules.Verbatim else rules.Either) v

either_share : (kind : Kind) → rules_of kind ≡ rules.Either → ¬ (LacksShare kind)
either_share (Verbatim n) e l = l
either_share (VerbatimUnc s n) e l = let never : rules.Verbatim ≡ rules.Either = e in cc
either_share (VerbatimDisk d) e l = l
either_share (Device n) e l = l
either_share (Unc s n) e l = l
either_share (Disk d) e l = l

either_fits : (kind : Kind) → rules_of kind ≡ rules.Either → Fits kind [] (0x5C ∷ [])
either_fits (Verbatim n) e = let never : rules.Verbatim ≡ rules.Either = e in cc
either_fits (VerbatimUnc s n) e = let never : rules.Verbatim ≡ rules.Either = e in cc
either_fits (VerbatimDisk d) e = let never : rules.Verbatim ≡ rules.Either = e in cc
either_fits (Device n) e = refl
either_fits (Unc s n) e = refl
either_fits (Disk d) e = tt

module _ (p : List ℕ) (kind : Kind) (either : rules_of kind ≡ rules.Either) (alone : IsPrefixOf p kind []) (names : List Item) (sp : AreSpelled (rules_of kind) names) where
  never_names : (st : Start) → rules_of kind ≡ rules.Verbatim → st ≡ Nothing → names ≡ []
  never_names st v n = let never : rules.Either ≡ rules.Verbatim = sym either ∙ v in cc

  none_lacks : (b : Bool) → LacksShare kind → b ≡ true
  none_lacks b l = absurd (either_share kind either l)

  -- the same start as before
  restarted : (rest : List ℕ) (st : Start) → root_of kind rest ≡ st → AreWindowsComponents (p ++ after_bytes 0x5C st false names) (Prefix p ∷ (start_items st ++ names))
  restarted rest Root e =
      let m = prefix_moves p kind [] (0x5C ∷ []) (either_fits kind either) alone in
      let same : m.before ≡ p = sym (append-nil m.before) ∙ sym m.joined in
      prefixed (prefixed_written (p ++ 0x5C ∷ []) p kind (0x5C ∷ []) false names refl (subst (λ z. IsPrefixOf (z ++ 0x5C ∷ []) kind (0x5C ∷ [])) same m.kept) (none_lacks false) sp (never_names Root))
  restarted rest Dot e = absurd (no_dot kind rest e)
  restarted rest Nothing e =
      let start : root_of kind [] ≡ Nothing = no_root kind rest e in
      subst (λ z. AreWindowsComponents (p ++ after_bytes 0x5C z false names) (Prefix p ∷ (start_items z ++ names))) start
      (prefixed (prefixed_written p p kind [] false names (sym (append-nil p)) alone (none_lacks false) sp (never_names (root_of kind []))))

  none_shared : ¬ (HasEmptyShare p)
  none_shared h = either_share kind either (subst LacksShare (one_prefix p h.0 kind h.1.0 [] h.1.1.0 alone).0 h.1.1.1)

-- a prefix of one byte or more
spelled_path : (b : ℕ) (p : List ℕ) (kind : Kind) (rest : List ℕ) (st : Start) (names : List Item) → begins_verbatim (b ∷ p) ≡ false → IsPrefixOf (b ∷ p) kind [] → root_of kind rest ≡ st → AreSpelled (rules_of kind) names
    → IsPathOf style.Windows (map spelled (prefix_items (b ∷ p)) ++ (start_items st ++ names)) (one_spelling (b ∷ p) ++ after_bytes 0x5C st false names)
spelled_path b p kind rest st names v alone e sp =
    let either = either_by (b ∷ p) kind [] v alone in
    let q = one_spelling (b ∷ p) in
    let now = prefix_spelled (b ∷ p) kind v alone in
    let none = none_shared q kind either now names sp in (
      restarted q kind either now names sp rest st e,
      inr (λ o. o, as_written style.Windows (rules_of kind) q st false names sp (λ f. let never : false ≡ true = f in cc, λ h. absurd (none h))),
    )

from_some : (p : List ℕ) (kind : Kind) (rest : List ℕ) (st : Start) (names : List Item) → p ≢ [] → begins_verbatim p ≡ false → IsPrefixOf p kind [] → root_of kind rest ≡ st → AreSpelled (rules_of kind) names
    → IsPathOf style.Windows (map spelled (prefix_items p) ++ (start_items st ++ names)) (one_spelling p ++ after_bytes 0x5C st false names)
from_some [] kind rest st names n v alone e sp = absurd (n refl)
from_some (b ∷ p) kind rest st names n v alone e sp = spelled_path b p kind rest st names v alone e sp

pub spelled_path_of : (w : whose.Style) (path : List ℕ) (head : Head) (st : Start) (names : List Item) → IsHead w path head → head.prefix.now ≢ [] → begins_verbatim head.prefix.now ≡ false → MayStart w head st names → AreSpelled head.rules names
    → IsPathOf w (map spelled (prefix_items head.prefix.now) ++ (start_items st ++ names)) (one_spelling head.prefix.now ++ after_bytes (main_separator w) st false names)
spelled_path_of style.Unix path head st names h some v may sp = absurd (some h.prefix)
spelled_path_of style.Windows path head st names (bare_head h) some v may sp = absurd (some h.prefix)
spelled_path_of style.Windows path head st names (prefixed_head h) some v may sp =
    let start : root_of h.kind h.rest ≡ st = sym h.start ∙ sym (may.1 some) in
    from_some head.prefix.now h.kind h.rest st names some v (prefix_alone path head.prefix.now h.kind h.rest h.joined h.is) start (subst (λ z. AreSpelled z names) h.rules sp)

-- a path without a prefix is as it was
pub bare_spelled : (p : List ℕ) → p ≡ [] → map spelled (prefix_items p) ≡ prefix_items p
bare_spelled [] e = refl
bare_spelled (b ∷ p) e = cc
