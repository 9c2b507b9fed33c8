-- The component at an index.
use Rattle.std.proofs.Common.{◌≡◌, ℕ, ◌+◌, ◌≤◌, List, [], ◌∷◌, ◌++◌, length, sym, ap, ◌∙◌, arith, append_assoc, append-nil, length-append}
use Rattle.path_rules.specs.Component.{Item}
use Rattle.paths_commands.specs.Task.{IsAt}

-- some components have been passed over, and so many are left before the index
pub record IsBefore (all rest : List Item) (index left : ℕ) : Type 0 where
  pub before : List Item
  pub joined : all ≡ before ++ rest
  pub counted : length before + left ≡ index

pub none_before : (all rest : List Item) (index : ℕ) → rest ≡ all → IsBefore all rest index index
none_before all rest index same = record { before = []; joined = sym same; counted = omega arith }

pub one_before : (all rest after : List Item) (item : Item) (index left fewer : ℕ) → rest ≡ item ∷ after → left ≡ fewer + 1 → IsBefore all rest index left → IsBefore all after index fewer
one_before all rest after item index left fewer steps less b = record {
  before = b.before ++ item ∷ [];
  joined = b.joined ∙ ap (λ x. b.before ++ x) steps ∙ sym (append_assoc b.before (item ∷ []) after);
  counted = omega (arith, less, b.counted, length-append b.before (item ∷ []));
}

pub at_index : (all rest after : List Item) (item : Item) (index left : ℕ) → rest ≡ item ∷ after → left ≡ 0 → IsBefore all rest index left → IsAt all index item
at_index all rest after item index left steps none b = (b.before, (after, (b.joined ∙ ap (λ x. b.before ++ x) steps, omega (arith, none, b.counted))))

pub past_end : (all rest : List Item) (index left : ℕ) → rest ≡ [] → IsBefore all rest index left → length all ≤ index
past_end all rest index left none b =
    let whole = ap length (b.joined ∙ ap (λ x. b.before ++ x) none ∙ append-nil b.before) in
    omega (arith, whole, b.counted)
