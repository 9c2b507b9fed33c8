-- A walk over components goes on, ends, or stops at a fault.
use Rattle.std.proofs.Common.{◌≡◌, ◌+◌, ◌≤◌, ℕ, true, List, [], ◌∷◌, ◌++◌, Some, None, length, reverse, sym, ap, ◌∙◌, arith, append_assoc, length-append}
use Rattle.std.specs.List.{AllByRecursion}
use Rattle.path_rules.specs.declared.rules.Rules.{Rules}
use Rattle.path_rules.specs.declared.rules.Style as whose
use Rattle.path_rules.specs.declared.head.Start.{Start}
use Rattle.path_rules.specs.declared.head.Start.TheVariants.{Root, Dot, Nothing}
use Rattle.path_rules.specs.Component.{Item, Prefix, RootDir, CurDir, ParentDir, Normal, components_in}
use Rattle.path_rules.specs.Heads.{start_items}
use Rattle.path_rules.proofs.lemmas.Lefts.{no_longer}
use Rattle.path_building.specs.Spelled.{resolve}
use Rattle.path_building.specs.Faults.{HasNoStream, IsFreeOn, IsFit}
use Rattle.path_building.specs.Walked.{Takes, IsWalkedTo}

-- what further components make of the names that the first lead to
resolve_on : (stack xs ys mid : List Item) → resolve stack xs ≡ Some mid → resolve stack (xs ++ ys) ≡ resolve mid ys
resolve_on stack [] ys mid e = let same : stack ≡ mid = cc in ap (λ z. resolve z ys) same
resolve_on stack (Normal s ∷ xs) ys mid e = resolve_on (Normal s ∷ stack) xs ys mid e
resolve_on [] (ParentDir ∷ xs) ys mid e = let never : None ≡ Some mid = e in cc
resolve_on (x ∷ stack) (ParentDir ∷ xs) ys mid e = resolve_on stack xs ys mid e
resolve_on stack (CurDir ∷ xs) ys mid e = resolve_on stack xs ys mid e
resolve_on stack (Prefix s ∷ xs) ys mid e = resolve_on stack xs ys mid e
resolve_on stack (RootDir ∷ xs) ys mid e = resolve_on stack xs ys mid e

all_on : (P : Item → Type 0) (xs : List Item) (x : Item) → AllByRecursion P xs → P x → AllByRecursion P (xs ++ x ∷ [])
all_on P [] x h p = (p, tt)
all_on P (y ∷ xs) x h p = (h.0, all_on P xs x h.1 p)

pub walked_on : (w : whose.Style) (items names new left : List Item) (x : Item) (index : ℕ) → IsWalkedTo w items names (x ∷ left) index → HasNoStream w x → IsFreeOn w x → Takes true (reverse names) x (reverse new) → IsWalkedTo w items new left (index + 1)
walked_on w items names new left x index h s f t = record {
  front = h.front ++ x ∷ [];
  joined = h.joined ∙ sym (append_assoc h.front (x ∷ []) left);
  at = let e : index ≡ length h.front = h.at in omega (arith, length-append h.front (x ∷ []));
  before = record {
    fit = all_on (IsFit w) h.front x h.before.fit (s, f);
    leads = resolve_on [] h.front (x ∷ []) (reverse names) h.before.leads ∙ t;
  };
}

-- the index stays small
pub index_fits : (w : whose.Style) (st : Start) (r : Rules) (body : List ℕ) (names left : List Item) (x : Item) (index : ℕ) → IsWalkedTo w (start_items st ++ components_in r body) names (x ∷ left) index → index + 1 ≤ 1 + length body
index_fits w st r body names left x index h =
    let e : index ≡ length h.front = h.at in
    let whole : length (start_items st) + length (components_in r body) ≡ length h.front + length (x ∷ left) = sym (length-append (start_items st) (components_in r body)) ∙ ap length h.joined ∙ length-append h.front (x ∷ left) in
    let few : length (components_in r body) ≤ length body = no_longer r body in
    let one : length (start_items st) ≤ 1 = short st in
    omega arith
  where
    short : (s : Start) → length (start_items s) ≤ 1
    short Root = omega arith
    short Dot = omega arith
    short Nothing = omega arith
