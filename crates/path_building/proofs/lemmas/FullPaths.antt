-- What is known of absolute paths.
use Rattle.std.proofs.Common.{◌≡◌, inl, inr, ℕ, List, Option, Some, None, subst}
use Rattle.path_rules.specs.declared.rules.Style as whose
use Rattle.path_rules.specs.declared.rules.Style.TheVariants as style
use Rattle.path_rules.specs.Prefix.{Kind, IsPrefixOf}
use Rattle.path_building.specs.declared.full_paths.AbsoluteError.{AbsoluteError}
use Rattle.path_building.specs.declared.full_paths.AbsoluteError.TheVariants as error
use Rattle.path_building.specs.FullPath.{IsPlaceable, IsOnDrive, IsOnItsDrive, IsCleanedBelow, IsPlaceBelow, IsPlaceFault, IsAbsoluteFault}
use Rattle.path_rules.specs.Parsed.{IsFound}
use Rattle.path_rules.proofs.lemmas.OneList.{one_prefix}
use Rattle.path_rules.proofs.lemmas.Parsings.{is_found}

-- what follows a drive, or the whole path, is put below the directory
pub placed_below : (w : whose.Style) → w ≡ style.Windows → (path directory mid : List ℕ) (found : Option Kind) (rest : List ℕ) → ∥ IsFound w path found rest ∥₁ → IsOnItsDrive w path directory → IsCleanedBelow rest directory mid → IsPlaceBelow w path directory mid
placed_below style.Unix e path directory mid found rest m d h = let never : style.Unix ≡ style.Windows = e in cc
placed_below style.Windows e path directory mid found rest m d h = by found (is_found style.Windows path found rest m)
  where
    on_drive : (kind : Kind) → IsPrefixOf path kind rest → IsOnItsDrive style.Windows path directory → IsOnDrive style.Windows kind directory
    on_drive kind p (inl k) = subst (λ z. IsOnDrive style.Windows z directory) (one_prefix path k.0 kind k.1.0 rest k.1.1.0 p).0 k.1.1.1
    on_drive kind p (inr n) = absurd (n.0 kind rest p)

    by : (f : Option Kind) → IsFound style.Windows path f rest → IsPlaceBelow style.Windows path directory mid
    by None f = inr ((λ p. f.0 p.0 p.1.0 p.1.1), subst (λ z. IsCleanedBelow z directory mid) f.1 h)
    by (Some kind) f = inl (record { kind = kind; rest = rest; prefix = f; drive = on_drive kind f d; below = h })

pub placed_fault : (w : whose.Style) (path directory : List ℕ) (e : AbsoluteError) → IsPlaceable w path → IsPlaceFault w path directory e → IsAbsoluteFault w path directory e
placed_fault w path directory error.Empty p h = absurd h
placed_fault w path directory error.Prefix p h = absurd h
placed_fault w path directory error.Reserved p h = absurd h
placed_fault w path directory error.Directory p h = (p, h)
placed_fault w path directory error.Drive p h = (p, h)
placed_fault w path directory error.Memory p h = tt
