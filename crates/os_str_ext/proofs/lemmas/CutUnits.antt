-- The units of a part that is cut out, with those before it and those after it.
use Rattle.os_str_ext.proofs.Common.{◌≡◌, ℕ, List, [], ◌++◌, length, take, drop, inl, inr, refl, ap, ◌∙◌, append_assoc, take-take, take-length, IsBoundary}
use Rattle.wtf8_core.proofs.lemmas.characters.Overlaps.{boundary_in_prefix}
use Rattle.os_str_ext.specs.Range.{FitsIn, IsPartInUnits}

-- at a boundary both parts are well formed, and their units, joined, are those of the whole
module _ (well_formed : List ℕ → Type 0) (units : List ℕ → List ℕ) (cut_prefix : (b : List ℕ) (i : ℕ) → well_formed b → IsBoundary b i → well_formed (take i b)) (cut_units : (b : List ℕ) (i : ℕ) → well_formed b → IsBoundary b i → units b ≡ units (take i b) ++ units (drop i b)) where
  pub part_in_units : (b : List ℕ) (i j : ℕ) → well_formed b → FitsIn b i j → IsPartInUnits units b i j (drop i (take j b))
  part_in_units b i j h f =
      cut_units b j h f.end
      ∙ ap (λ x. x ++ units (drop j b)) (cut_units (take j b) i (cut_prefix b j h f.end) (boundary_in_prefix b i j f.ordered f.start f.end))
      ∙ append_assoc (units (take i (take j b))) (units (drop i (take j b))) (units (drop j b))
      ∙ ap (λ x. units x ++ (units (drop i (take j b)) ++ units (drop j b))) (take-take i j b f.ordered)

  -- the whole is such a part
  pub whole_in_units : (b : List ℕ) → well_formed b → IsPartInUnits units b 0 (length b) b
  whole_in_units b h = cut_units b 0 h (record { is = inl refl }) ∙ ap (λ x. units [] ++ x) (cut_units b (length b) h (record { is = inr (inl refl) }) ∙ ap (λ x. units x ++ units (drop (length b) b)) (take-length b))
