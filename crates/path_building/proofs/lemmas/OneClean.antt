-- Windows paths that differ in the spelling of their separators have one clean form.
use Rattle.std.proofs.Common.{◌≡◌, inl, inr, ℕ, Bool, true, false, List, [], ◌∷◌, ◌++◌, length, map, reverse, refl, sym, ap, ◌∙◌, subst, arith, length-append}
use Rattle.std.proofs.lemmas.List.{reverse-reverse}
use Rattle.path_rules.specs.declared.rules.Rules.{Rules}
use Rattle.path_rules.specs.declared.rules.Rules.TheVariants as rules
use Rattle.path_rules.specs.declared.rules.Style as whose
use Rattle.path_rules.specs.declared.rules.Style.TheVariants as style
use Rattle.path_rules.specs.Component.{Item, Prefix, components_in}
use Rattle.path_rules.specs.Heads.{start_items}
use Rattle.path_rules.specs.Components.{AreWindowsComponents, prefixed, bare, root_of, after_root, start_of, after_start}
use Rattle.path_rules.specs.Prefix.{Kind, rules_of, begins_verbatim}
use Rattle.path_building.specs.Join.{IsVerbatimPath}
use Rattle.path_building.specs.Normalized.{AreVerbatim, IsShielded}
use Rattle.path_building.specs.Cleaned.{CleansTo, or_dot, spelled, IsCleanForm, IsCleanWritten, IsCleaned, DifferInSeparators}
use Rattle.path_building.specs.Written.{IsWrittenOut, IsWritten}
use Rattle.path_rules.proofs.lemmas.OneList.{one_prefix}
use Rattle.path_building.proofs.lemmas.Joins.{verbatim_begins}
use Rattle.path_building.proofs.lemmas.Again.{one_clean}
use Rattle.path_building.proofs.lemmas.Beginnings.{odd_same}
use Rattle.path_building.proofs.lemmas.CleanPrefixes.{either_by}
use Rattle.path_building.proofs.lemmas.Forms.{verbatim_no}
use Rattle.path_building.proofs.lemmas.Spelling.{body_spelled}
use Rattle.path_building.proofs.lemmas.Spellings.{turned, prefix_same, plain_same, below_same, length_same, spelling_same, both_spelled}

-- what comes before ends of one length
front_same : (x y s t : List ℕ) → DifferInSeparators (x ++ s) (y ++ t) → length s ≡ length t → DifferInSeparators x y
front_same [] [] s t h e = tt
front_same [] (b ∷ y) s t h e = let n = length_same s (b ∷ (y ++ t)) h in let m = length-append y t in absurd (omega (arith, n, m, e))
front_same (a ∷ x) [] s t h e = let n = length_same (a ∷ (x ++ s)) t h in let m = length-append x s in absurd (omega (arith, n, m, e))
front_same (a ∷ x) (b ∷ y) s t h e = (h.0, front_same x y s t h.1 e)

-- a path that doesn't begin with `\\?\`
not_begun : (s : List ℕ) → ¬ (IsVerbatimPath style.Windows s) → begins_verbatim s ≡ false
not_begun s n = cases (begins_verbatim s) refl
  where
    cases : (v : Bool) → begins_verbatim s ≡ v → begins_verbatim s ≡ false
    cases true e = absurd (n ((verbatim_begins s).0 e))
    cases false e = e

begins_on : (raw rest : List ℕ) → begins_verbatim raw ≡ true → begins_verbatim (raw ++ rest) ≡ true
begins_on [] rest e = let never : false ≡ true = e in cc
begins_on (a ∷ []) rest e = let never : false ≡ true = e in cc
begins_on (a ∷ b ∷ []) rest e = let never : false ≡ true = e in cc
begins_on (a ∷ b ∷ c ∷ []) rest e = let never : false ≡ true = e in cc
begins_on (a ∷ b ∷ c ∷ d ∷ s) rest e = e

other_items : (s : List ℕ) (items : List Item) → begins_verbatim s ≡ false → AreWindowsComponents s items → ¬ (AreVerbatim items)
other_items s items v (prefixed a) h =
    let begins : begins_verbatim s ≡ true = subst (λ z. begins_verbatim z ≡ true) (sym a.joined) (begins_on a.raw a.rest (subst AreVerbatim a.are h)) in
    let never : true ≡ false = sym begins ∙ v in cc
other_items s items v (bare a) h =
    let body = after_start (start_of rules.Either s) s in
    verbatim_no rules.Either [] (start_of rules.Either s) (components_in rules.Either body) refl (body_spelled rules.Either body) (subst AreVerbatim a.are h)

-- the components of both, in one spelling
below : Kind → Rules → List ℕ → List Item
below kind r rest = start_items (root_of kind rest) ++ components_in r (after_root rest)

items_same : (s u : List ℕ) (xs ys : List Item) → DifferInSeparators s u → begins_verbatim s ≡ false → begins_verbatim u ≡ false → AreWindowsComponents s xs → AreWindowsComponents u ys → map spelled xs ≡ map spelled ys
unfolding below
items_same s u xs ys d v w (prefixed a) (prefixed b) =
    let q = prefix_same s u d v w a.kind a.rest a.prefix in
    let one = one_prefix u a.kind b.kind q.0 b.rest q.1.0 b.prefix in
    let rests : DifferInSeparators a.rest b.rest = subst (DifferInSeparators a.rest) one.1 q.1.1 in
    let raws = front_same a.raw b.raw a.rest b.rest (subst (λ z. DifferInSeparators z (b.raw ++ b.rest)) a.joined (subst (DifferInSeparators s) b.joined d)) (length_same a.rest b.rest rests) in
    let either = either_by s a.kind a.rest v a.prefix in
    let tails : below a.kind (rules_of a.kind) a.rest ≡ below b.kind (rules_of b.kind) b.rest =
    ap (λ z. below a.kind z a.rest) either ∙ below_same a.kind a.rest b.rest rests ∙ ap (λ z. below a.kind z b.rest) (sym either) ∙ ap (λ z. below z (rules_of z) b.rest) one.0 in
    ap (map spelled) (a.are ∙ ap (λ z. Prefix a.raw ∷ z) tails) ∙ ap (λ z. Prefix z ∷ map spelled (below b.kind (rules_of b.kind) b.rest)) (spelling_same a.raw b.raw raws) ∙ sym (ap (map spelled) b.are)
items_same s u xs ys d v w (prefixed a) (bare b) = let q = prefix_same s u d v w a.kind a.rest a.prefix in absurd (b.none a.kind q.0 q.1.0)
items_same s u xs ys d v w (bare a) (prefixed b) = let q = prefix_same u s (turned s u d) w v b.kind b.rest b.prefix in absurd (a.none b.kind q.0 q.1.0)
items_same s u xs ys d v w (bare a) (bare b) = ap (map spelled) (a.are ∙ plain_same s u d ∙ sym b.are)

-- one clean form
left_same : (xs ys us vs : List Item) → map spelled xs ≡ map spelled ys → CleansTo (reverse xs) (reverse us) → CleansTo (reverse ys) (reverse vs) → map spelled us ≡ map spelled vs
left_same xs ys us vs e h k =
    let first : CleansTo (reverse (map spelled ys)) (reverse (map spelled us)) = subst (λ z. CleansTo (reverse z) (reverse (map spelled us))) e (both_spelled xs us h) in
    sym (reverse-reverse (map spelled us)) ∙ ap reverse (one_clean first (both_spelled ys vs k)) ∙ reverse-reverse (map spelled vs)

form_same : (xs ys us vs : List Item) → map spelled xs ≡ map spelled ys → ¬ (AreVerbatim xs) → ¬ (AreVerbatim ys) → IsCleanForm xs us → IsCleanForm ys vs → us ≡ vs
form_same xs ys us vs e n m (inl h) k = absurd (n h.0)
form_same xs ys us vs e n m (inr h) (inl k) = absurd (m k.0)
form_same xs ys us vs e n m (inr h) (inr k) = h.1.1.1 ∙ ap or_dot (left_same xs ys h.1.0 k.1.0 e h.1.1.0 k.1.1.0) ∙ sym k.1.1.1

-- shown and written in one way
pub shown_same : (w : whose.Style) (form one other : List Item) → IsShielded w form one → IsShielded w form other → one ≡ other
shown_same w form one other (inl h) (inl k) = h.1 ∙ sym k.1
shown_same w form one other (inl h) (inr k) = absurd (k.0 h.0)
shown_same w form one other (inr h) (inl k) = absurd (h.0 k.0)
shown_same w form one other (inr h) (inr k) = h.1 ∙ sym k.1

out_same : (w : whose.Style) (items : List Item) (one other : List ℕ) → IsWrittenOut w items one → IsWrittenOut w items other → one ≡ other
out_same w items one other (inl h) (inl k) = h.1 ∙ sym k.1
out_same w items one other (inl h) (inr k) = absurd (k.0 h.0)
out_same w items one other (inr h) (inl k) = absurd (h.0 k.0)
out_same w items one other (inr h) (inr k) = h.1 ∙ sym k.1

pub written_same : (w : whose.Style) (items : List Item) (one other : List ℕ) → IsWritten w items one → IsWritten w items other → one ≡ other
written_same w items one other (inl h) (inl k) = h.1 ∙ sym k.1
written_same w items one other (inl h) (inr k) = absurd (k.0 h.0)
written_same w items one other (inr h) (inl k) = absurd (h.0 k.0)
written_same w items one other (inr h) (inr k) = out_same w items one other h.1 k.1

one_written : (path other one two : List ℕ) → DifferInSeparators path other → begins_verbatim path ≡ false → begins_verbatim other ≡ false → IsCleanWritten style.Windows path one → IsCleanWritten style.Windows other two → one ≡ two
one_written path other one two d v w h k =
    let items = items_same path other h.items k.items d v w h.are k.are in
    let forms = form_same h.items k.items h.clean k.clean items (other_items path h.items v h.are) (other_items other k.items w k.are) h.form k.form in
    let shown = shown_same style.Windows k.clean h.shown k.shown (subst (λ z. IsShielded style.Windows z h.shown) forms h.shielded) k.shielded in
    written_same style.Windows k.shown one two (subst (λ z. IsWritten style.Windows z one) shown h.answers.1) k.answers.1

pub one_clean_path : (path other one two : List ℕ) → DifferInSeparators path other → ¬ (IsVerbatimPath style.Windows path) → ¬ (IsVerbatimPath style.Windows other) → IsCleaned style.Windows path one → IsCleaned style.Windows other two → one ≡ two
one_clean_path path other one two d n m h k = by (not_begun path n) (not_begun other m) h k
  where
    by : begins_verbatim path ≡ false → begins_verbatim other ≡ false → IsCleaned style.Windows path one → IsCleaned style.Windows other two → one ≡ two
    by v w (inl a) (inl b) = a.1 ∙ spelling_same path other d ∙ sym b.1
    by v w (inl a) (inr b) = absurd (b.0 (odd_same path other d v w a.0))
    by v w (inr a) (inl b) = absurd (a.0 (odd_same other path (turned path other d) w v b.0))
    by v w (inr a) (inr b) = one_written path other one two d v w a.1 b.1
