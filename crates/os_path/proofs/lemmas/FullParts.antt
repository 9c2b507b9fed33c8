-- An absolute path is well formed.
use Rattle.std.proofs.Common.{inl, inr, ◌≡◌, ◌⊎◌, ◌<◌, ℕ, List, [], ◌∷◌, take, drop, refl, sym, subst, lit<}
use Rattle.wtf8_core.specs.Boundary.{IsBoundary}
use Rattle.wtf8_core.specs.OccurrenceLaws.{OccurrenceLaws}
use Rattle.path_rules.specs.declared.rules.Style as whose
use Rattle.path_rules.specs.declared.rules.Style.TheVariants as style
use Rattle.path_rules.specs.Component.{Item, Prefix, RootDir, CurDir, ParentDir, Normal}
use Rattle.path_rules.specs.Prefix.{Kind, Verbatim, VerbatimUnc, VerbatimDisk, Device, Unc, Disk, IsPrefixOf}
use Rattle.path_rules.proofs.lemmas.Edges.{drive_bytes}
use Rattle.path_building.specs.Collected.{string_of, ArePushed}
use Rattle.path_building.specs.FullPath.{AreOneDrive, BeginsWithTwo, without_root, IsRespelled, IsCleanedBelow, IsOwnPlace, IsPlaceBelow, IsPlaced, IsFullPath}
use Rattle.path_building.specs.Join.{without_dot}
use Rattle.os_path.specs.Formed.{IsFormed, AreFormed}
use Rattle.os_path.proofs.lemmas.CheckedParts.{no_dot_formed}
use Rattle.os_path.proofs.lemmas.Cuts.{cuts}
use Rattle.os_path.proofs.lemmas.EndedParts.{end_formed}
use Rattle.os_path.proofs.lemmas.Joined.{around, nothing_formed, join_formed}
use Rattle.os_path.proofs.lemmas.NormalParts.{of_items, cleaned_formed}

module _ (formed : List ℕ → Type 0) where
  no_root_formed : (xs : List Item) → AreFormed formed xs → AreFormed formed (without_root xs)
  no_root_formed [] f = f
  no_root_formed (Prefix s ∷ xs) f = f
  no_root_formed (RootDir ∷ xs) f = f.1
  no_root_formed (CurDir ∷ xs) f = f
  no_root_formed (ParentDir ∷ xs) f = f
  no_root_formed (Normal s ∷ xs) f = f

-- a kind that is one drive with another is a drive
is_drive : (kind other : Kind) → AreOneDrive kind other → (letter : ℕ) × (kind ≡ Disk letter)
is_drive (Verbatim n) other h = absurd h
is_drive (VerbatimUnc s n) other h = absurd h
is_drive (VerbatimDisk l) other h = absurd h
is_drive (Device n) other h = absurd h
is_drive (Unc s n) other h = absurd h
is_drive (Disk l) other h = (l, refl)

module _ (formed : List ℕ → Type 0) (units : List ℕ → List ℕ) (laws : OccurrenceLaws formed units) (cut_prefix : (b : List ℕ) (i : ℕ) → formed b → IsBoundary b i → formed (take i b)) (cut_suffix : (b : List ℕ) (i : ℕ) → formed b → IsBoundary b i → formed (drop i b)) where
  one_byte : (c : ℕ) → c < 0x80 → formed (c ∷ [])
  one_byte c l = around formed units laws [] [] c l (nothing_formed formed units laws) (nothing_formed formed units laws)

  string_formed : (w : whose.Style) (x : Item) → IsFormed formed x → formed (string_of w x)
  string_formed w (Prefix s) f = f
  string_formed style.Unix RootDir f = one_byte 0x2F (lit< tt)
  string_formed style.Windows RootDir f = one_byte 0x5C (lit< tt)
  string_formed w CurDir f = one_byte 0x2E (lit< tt)
  string_formed w ParentDir f = around formed units laws [] (0x2E ∷ []) 0x2E (lit< tt) (nothing_formed formed units laws) (one_byte 0x2E (lit< tt))
  string_formed w (Normal s) f = f

  pushed_formed : (w : whose.Style) (xs : List Item) (path made : List ℕ) → ArePushed w path xs made → AreFormed formed xs → formed path → formed made
  pushed_formed w [] path made h fs f = subst formed (sym h) f
  pushed_formed w (x ∷ xs) path made (next, (j, more)) fs f =
      pushed_formed w xs next made more fs.1 (join_formed formed units laws (cuts formed cut_prefix cut_suffix) w path (string_of w x) next j f (string_formed w x fs.0))

  respelled_formed : (path mid : List ℕ) → IsRespelled path mid → formed path → formed mid
  respelled_formed path mid h f = by h.pushed
    where
      items : AreFormed formed h.items
      items = of_items formed units laws cut_prefix cut_suffix style.Unix path h.items h.are f

      two : formed (0x2F ∷ 0x2F ∷ [])
      two = around formed units laws [] (0x2F ∷ []) 0x2F (lit< tt) (nothing_formed formed units laws) (one_byte 0x2F (lit< tt))

      by : (BeginsWithTwo path × ArePushed style.Unix (0x2F ∷ 0x2F ∷ []) (without_root h.items) mid) ⊎ (¬ (BeginsWithTwo path) × ArePushed style.Unix [] h.items mid) → formed mid
      by (inl k) = pushed_formed style.Unix (without_root h.items) (0x2F ∷ 0x2F ∷ []) mid k.1 (no_root_formed formed h.items items) two
      by (inr k) = pushed_formed style.Unix h.items [] mid k.1 items (nothing_formed formed units laws)

  cleaned_below_formed : (rest directory mid : List ℕ) → IsCleanedBelow rest directory mid → formed rest → formed directory → formed mid
  cleaned_below_formed rest directory mid h f fd =
      cleaned_formed formed units laws cut_prefix cut_suffix style.Windows h.joined mid h.clean (join_formed formed units laws (cuts formed cut_prefix cut_suffix) style.Windows directory rest h.joined h.join fd f)

  after_drive : (path rest : List ℕ) (letter : ℕ) → IsPrefixOf path (Disk letter) rest → formed path → formed rest
  after_drive path rest letter p f =
      let d = drive_bytes path letter rest p in (cuts formed cut_prefix cut_suffix (d.0 ∷ []) rest 0x3A (lit< tt) (subst formed d.1 f)).after

  own_formed : (w : whose.Style) (path mid : List ℕ) → IsOwnPlace w path mid → formed path → formed mid
  own_formed style.Unix path mid h f = respelled_formed path mid h f
  own_formed style.Windows path mid h f = cleaned_formed formed units laws cut_prefix cut_suffix style.Windows path mid h f

  below_formed : (w : whose.Style) (path directory mid : List ℕ) → IsPlaceBelow w path directory mid → formed path → formed directory → formed mid
  below_formed style.Unix path directory mid h f fd =
      pushed_formed style.Unix (without_dot h.items) directory mid h.pushed (no_dot_formed formed h.items (of_items formed units laws cut_prefix cut_suffix style.Unix path h.items h.are f)) fd
  below_formed style.Windows path directory mid (inl h) f fd =
      let drive = is_drive h.kind h.drive.0 h.drive.1.1.1 in
      cleaned_below_formed h.rest directory mid h.below (after_drive path h.rest drive.0 (subst (λ z. IsPrefixOf path z h.rest) drive.1 h.prefix) f) fd
  below_formed style.Windows path directory mid (inr h) f fd = cleaned_below_formed path directory mid h.1 f fd

  placed_formed : (w : whose.Style) (path directory mid : List ℕ) → IsPlaced w path directory mid → formed path → formed directory → formed mid
  placed_formed w path directory mid (inl h) f fd = own_formed w path mid h.1 f
  placed_formed w path directory mid (inr h) f fd = below_formed w path directory mid h.1.1 f fd

  pub full_formed : (w : whose.Style) (path directory full : List ℕ) → IsFullPath w path directory full → formed path → formed directory → formed full
  full_formed w path directory full (inl h) f fd = subst formed (sym h.1) f
  full_formed w path directory full (inr h) f fd = end_formed formed units laws cut_prefix cut_suffix w path h.mid full h.end (placed_formed w path directory h.mid h.placed f fd)
