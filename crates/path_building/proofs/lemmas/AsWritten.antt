-- What is written of a prefix, a start and names is these components as they are written.
use Rattle.std.proofs.Common.{◌≡◌, inl, inr, ℕ, Bool, true, false, List, [], ◌∷◌, ◌++◌, refl, sym, ◌∙◌, subst, append-nil}
use Rattle.std.proofs.lemmas.List.{append_cancel_right}
use Rattle.path_rules.specs.declared.rules.Rules.{Rules}
use Rattle.path_rules.specs.declared.rules.Style as whose
use Rattle.path_rules.specs.declared.rules.Style.TheVariants as style
use Rattle.path_rules.specs.declared.head.Start.{Start}
use Rattle.path_rules.specs.declared.head.Start.TheVariants.{Root, Dot, Nothing}
use Rattle.path_rules.specs.declared.head.Head.{Head}
use Rattle.path_rules.specs.StyleRules.{main_separator}
use Rattle.path_rules.specs.Component.{Item, Prefix, RootDir, CurDir, ParentDir, Normal}
use Rattle.path_rules.specs.Prefix.{Kind, IsPrefixOf}
use Rattle.path_rules.specs.Heads.{prefix_items, start_items}
use Rattle.path_rules.specs.HeadParts.{IsHead, bare_head, prefixed_head}
use Rattle.path_building.specs.Written.{LacksShare, HasEmptyShare, NamesAShare, written, IsWrittenOut}
use Rattle.path_building.specs.Spelled.{after_bytes, DoublesRoot, AreSpelled}
use Rattle.path_rules.proofs.lemmas.OneList.{one_prefix}
use Rattle.path_building.proofs.lemmas.Moves.{prefix_moves}
use Rattle.path_building.proofs.lemmas.Resolving.{no_prefix, no_root}
use Rattle.path_building.proofs.lemmas.Written.{fits_nothing}

-- a prefix is the prefix of itself alone, and has a share there as before
pub prefix_alone : (s raw : List ℕ) (kind : Kind) (rest : List ℕ) → s ≡ raw ++ rest → IsPrefixOf s kind rest → IsPrefixOf raw kind []
prefix_alone s raw kind rest j h =
    let m = prefix_moves s kind rest [] (fits_nothing kind rest) h in
    let same : m.before ≡ raw = append_cancel_right m.before raw rest (sym m.joined ∙ j) in
    subst (λ z. IsPrefixOf z kind []) (append-nil raw) (subst (λ z. IsPrefixOf (z ++ []) kind []) same m.kept)

share_alone : (s t : List ℕ) (kind : Kind) (rest left : List ℕ) → IsPrefixOf s kind rest → IsPrefixOf t kind left → HasEmptyShare s → HasEmptyShare t
share_alone s t kind rest left a b h =
    let same = one_prefix s h.0 kind h.1.0 rest h.1.1.0 a in (kind, (left, (b, subst LacksShare same.0 h.1.1.1)))

pub no_share : ¬ (HasEmptyShare [])
no_share h = h.1.1.0

pub doubles_alone : (w : whose.Style) (path : List ℕ) (head : Head) (doubled : Bool) → IsHead w path head → DoublesRoot w path doubled → DoublesRoot w head.prefix.now doubled
doubles_alone style.Unix path head doubled h d = d
doubles_alone style.Windows path head doubled (bare_head h) d = (
  λ e. let k = d.0 e in absurd (h.none k.0 k.1.0 k.1.1.0),
  λ k. absurd (no_share (subst HasEmptyShare h.prefix k)),
)
doubles_alone style.Windows path head doubled (prefixed_head h) d =
    let alone = prefix_alone path head.prefix.now h.kind h.rest h.joined h.is in (
      λ e. share_alone path head.prefix.now h.kind h.rest [] h.is alone (d.0 e),
      λ k. d.1 (share_alone head.prefix.now path h.kind [] h.rest alone h.is k),
    )

module _ (r : Rules) (c : ℕ) where
  bare_once : (st : Start) (names : List Item) → AreSpelled r names → after_bytes c st false names ≡ written c (start_items st ++ names)
  bare_once Root [] sp = refl
  bare_once Root (x ∷ xs) sp = refl
  bare_once Dot [] sp = refl
  bare_once Dot (x ∷ xs) sp = refl
  bare_once Nothing [] sp = refl
  bare_once Nothing (Prefix s ∷ xs) sp = absurd (no_prefix r s sp.0)
  bare_once Nothing (RootDir ∷ xs) sp = absurd (no_root r sp.0)
  bare_once Nothing (CurDir ∷ xs) sp = refl
  bare_once Nothing (ParentDir ∷ xs) sp = refl
  bare_once Nothing (Normal s ∷ xs) sp = refl

  pub after_once : (b : ℕ) (p : List ℕ) (st : Start) (names : List Item) → AreSpelled r names → (b ∷ p) ++ after_bytes c st false names ≡ written c (Prefix (b ∷ p) ∷ (start_items st ++ names))
  after_once b p Root [] sp = refl
  after_once b p Root (x ∷ xs) sp = refl
  after_once b p Dot [] sp = refl
  after_once b p Dot (x ∷ xs) sp = refl
  after_once b p Nothing [] sp = refl
  after_once b p Nothing (Prefix s ∷ xs) sp = absurd (no_prefix r s sp.0)
  after_once b p Nothing (RootDir ∷ xs) sp = absurd (no_root r sp.0)
  after_once b p Nothing (CurDir ∷ xs) sp = refl
  after_once b p Nothing (ParentDir ∷ xs) sp = refl
  after_once b p Nothing (Normal s ∷ xs) sp = refl

  once : (p : List ℕ) (st : Start) (names : List Item) → AreSpelled r names → p ++ after_bytes c st false names ≡ written c (prefix_items p ++ (start_items st ++ names))
  once [] st names sp = bare_once st names sp
  once (b ∷ p) st names sp = after_once b p st names sp

-- a name has no root before it but by the start
no_share_bare : (r : Rules) (st : Start) (names : List Item) → AreSpelled r names → ¬ (NamesAShare style.Windows (start_items st ++ names))
no_share_bare r Root names sp h = h
no_share_bare r Dot names sp h = h
no_share_bare r Nothing [] sp h = h
no_share_bare r Nothing (Prefix s ∷ xs) sp h = no_prefix r s sp.0
no_share_bare r Nothing (RootDir ∷ xs) sp h = h
no_share_bare r Nothing (CurDir ∷ xs) sp h = h
no_share_bare r Nothing (ParentDir ∷ xs) sp h = h
no_share_bare r Nothing (Normal s ∷ xs) sp h = h

share_after : (r : Rules) (p : List ℕ) (st : Start) (names : List Item) → AreSpelled r names → NamesAShare style.Windows (Prefix p ∷ (start_items st ++ names)) → HasEmptyShare p
share_after r p Root [] sp h = absurd h
share_after r p Root (x ∷ xs) sp h = h
share_after r p Dot names sp h = absurd h
share_after r p Nothing [] sp h = absurd h
share_after r p Nothing (Prefix s ∷ xs) sp h = absurd h
share_after r p Nothing (RootDir ∷ xs) sp h = absurd (no_root r sp.0)
share_after r p Nothing (CurDir ∷ xs) sp h = absurd h
share_after r p Nothing (ParentDir ∷ xs) sp h = absurd h
share_after r p Nothing (Normal s ∷ xs) sp h = absurd h

-- twice after a prefix without a share
twice : (r : Rules) (b : ℕ) (p : List ℕ) (st : Start) (names : List Item) → AreSpelled r names → HasEmptyShare (b ∷ p) → IsWrittenOut style.Windows (Prefix (b ∷ p) ∷ (start_items st ++ names)) ((b ∷ p) ++ after_bytes 0x5C st true names)
twice r b p Root [] sp h = inr (λ z. z, refl)
twice r b p Root (x ∷ xs) sp h = inl (h, refl)
twice r b p Dot [] sp h = inr (λ z. z, refl)
twice r b p Dot (x ∷ xs) sp h = inr (λ z. z, refl)
twice r b p Nothing [] sp h = inr (λ z. z, refl)
twice r b p Nothing (Prefix s ∷ xs) sp h = absurd (no_prefix r s sp.0)
twice r b p Nothing (RootDir ∷ xs) sp h = absurd (no_root r sp.0)
twice r b p Nothing (CurDir ∷ xs) sp h = inr (λ z. z, refl)
twice r b p Nothing (ParentDir ∷ xs) sp h = inr (λ z. z, refl)
twice r b p Nothing (Normal s ∷ xs) sp h = inr (λ z. z, refl)

windows_written : (r : Rules) (p : List ℕ) (st : Start) (doubled : Bool) (names : List Item) → AreSpelled r names → (doubled ≡ true → HasEmptyShare p) → (HasEmptyShare p → doubled ≡ true) → IsWrittenOut style.Windows (prefix_items p ++ (start_items st ++ names)) (p ++ after_bytes 0x5C st doubled names)
windows_written r [] st true names sp has back = absurd (no_share (has refl))
windows_written r [] st false names sp has back = inr (no_share_bare r st names sp, bare_once r 0x5C st names sp)
windows_written r (b ∷ p) st true names sp has back = twice r b p st names sp (has refl)
windows_written r (b ∷ p) st false names sp has back = inr (
  λ h. let never : false ≡ true = back (share_after r (b ∷ p) st names sp h) in cc,
  after_once r 0x5C b p st names sp,
)

pub as_written : (w : whose.Style) (r : Rules) (p : List ℕ) (st : Start) (doubled : Bool) (names : List Item) → AreSpelled r names → DoublesRoot w p doubled → IsWrittenOut w (prefix_items p ++ (start_items st ++ names)) (p ++ after_bytes (main_separator w) st doubled names)
as_written style.Unix r p st doubled names sp d = inr (λ h. h, subst (λ z. p ++ after_bytes 0x2F st z names ≡ written 0x2F (prefix_items p ++ (start_items st ++ names))) (sym d) (once r 0x2F p st names sp))
as_written style.Windows r p st doubled names sp d = windows_written r p st doubled names sp d.0 d.1
