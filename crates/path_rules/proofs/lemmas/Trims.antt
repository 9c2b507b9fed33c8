-- Separators at the end are found from the last byte on.
use Rattle.std.proofs.Common.{◌≡◌, ◌≤◌, ◌<◌, ◌+◌, ◌-◌, ℕ, true, false, List, [], ◌∷◌, ◌++◌, length, take, drop, get_or, sym, ap, ◌∙◌, arith, take-append-drop, length-drop, length-append}
use Rattle.std.specs.List.{All}
use Rattle.std.proofs.lemmas.List.{get_or-take, get_or-drop, get_or_at, length-take-le}
use Rattle.std.proofs.lemmas.List.Elements.{All-from_get_or, All-head}
use Rattle.path_rules.specs.declared.rules.Rules.{Rules}
use Rattle.path_rules.specs.declared.rules.Style.{Style}
use Rattle.path_rules.specs.Separators.{separates, EdgeBy}
use Rattle.path_rules.specs.Component.{Item, Prefix, RootDir, CurDir, ParentDir, Normal}
use Rattle.path_rules.specs.Parent.{IsParent, HasNoParent, IsTop, IsBelow}
use Rattle.path_rules.specs.Cut.{at_start}
use Rattle.path_rules.specs.Trailing.{IsTrimmed}
use Rattle.path_rules.proofs.lemmas.Ascii.{edge_cut}

abbrev pub SeparatorsFrom : Rules → List ℕ → ℕ → Type 0
SeparatorsFrom r s i = (k : ℕ) → i ≤ k → k < length s → separates r (get_or s k 0) ≡ true

edge_of : (r : Rules) (s : List ℕ) → All (λ b. separates r b ≡ true) s → EdgeBy (separates r) s
edge_of r [] h = tt
edge_of r (b ∷ s) h = All-head (λ c. separates r c ≡ true) b s h

all_from : (r : Rules) (s : List ℕ) (i : ℕ) → SeparatorsFrom r s i → All (λ b. separates r b ≡ true) (drop i s)
all_from r s i h =
    All-from_get_or (λ b. separates r b ≡ true) (drop i s) 0 (λ k g. ap (separates r) (get_or-drop i s k 0) ∙ h (i + k) (omega arith) (omega (arith, length-drop i s)))

pub trimmed_at : (r : Rules) (s : List ℕ) (i : ℕ) → 0 < i → i ≤ length s → separates r (get_or s (i - 1) 0) ≡ false → SeparatorsFrom r s i → IsTrimmed r s (take i s)
trimmed_at r s i low l other h = record {
  separators = drop i s;
  joined = sym (take-append-drop i s);
  all = all_from r s i h;
  tight = λ e.
      let n : length (take i s) ≡ i = length-take-le i s l in
      let m : length e.before ≡ i - 1 = omega (arith, ap length e.joined, length-append e.before (e.last ∷ [])) in
      let last : get_or s (i - 1) 0 ≡ e.last = sym (get_or-take i s (i - 1) 0 (omega arith)) ∙ ap (λ x. get_or x (i - 1) 0) e.joined ∙ get_or_at e.before e.last [] 0 (i - 1) m in
      let never : false ≡ true = sym other ∙ ap (separates r) last ∙ e.is in cc;
  cut = edge_cut r (take i s) (drop i s) (edge_of r (drop i s) (all_from r s i h));
}

push_some : (before : List ℕ) (b : ℕ) → [] ≡ before ++ b ∷ [] → ⊥
push_some [] b e = cc
push_some (c ∷ before) b e = cc

pub trimmed_none : (r : Rules) (s none : List ℕ) → none ≡ [] → SeparatorsFrom r s 0 → IsTrimmed r s none
trimmed_none r s none e h = record {
  separators = s;
  joined = sym (ap (λ x. x ++ s) e);
  all = All-from_get_or (λ b. separates r b ≡ true) s 0 (λ k g. h k (omega arith) g);
  tight = λ f. push_some f.before f.last (sym e ∙ f.joined);
  cut = at_start e;
}

both : (x : Item) → IsTop x → IsBelow x → ⊥
both (Prefix s) t b = b
both RootDir t b = b
both CurDir t b = t
both ParentDir t b = t
both (Normal s) t b = t

pub no_top : (w : Style) (path parent : List ℕ) → IsParent w path parent → HasNoParent w path → ⊥
no_top w path parent p h = both p.last (h p.items p.last p.whole) p.below
