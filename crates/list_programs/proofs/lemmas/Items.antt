-- Bytes that are cut at the end of an item.
use Rattle.std.proofs.Common.{ℕ, List, [], ◌∷◌, ◌++◌, refl, subst}
use Rattle.list_programs.specs.Items.{Lacks, IsCutAt}

pub end_in : (end : ℕ) (prefix after : List ℕ) → ¬ (Lacks end (prefix ++ end ∷ after))
end_in end [] after h = h.0 refl
end_in end (x ∷ prefix) after h = end_in end prefix after h.1

-- a byte ends an item in them
pub has_end : (end : ℕ) (bytes prefix after : List ℕ) → IsCutAt end bytes prefix after → ¬ (Lacks end bytes)
has_end end bytes prefix after c h = end_in end prefix after (subst (Lacks end) c.joined h)
