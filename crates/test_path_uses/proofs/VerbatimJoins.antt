-- What is joined to `\\?\C:\a`.
use Rattle.std.proofs.Common.{◌≡◌, ◌≢◌, inl, inr, ℕ, false, List, [], ◌∷◌, codes, refl, subst}
use Rattle.std.proofs.lemmas.List.Elements.{All-from_recursion}
use Rattle.path_rules.specs.declared.rules.Rules.TheVariants as rules
use Rattle.path_rules.specs.declared.rules.Style.TheVariants as style
use Rattle.path_rules.specs.Separators.{separates}
use Rattle.path_rules.specs.Component.{Item, Prefix, RootDir, ParentDir, Normal}
use Rattle.path_rules.specs.Components.{AreComponents, prefixed, bare}
use Rattle.path_rules.specs.Prefix.{VerbatimDisk, IsPrefixOf, IsPrefixed}
use Rattle.path_building.specs.Base.{IsOpenKind, LacksPart}
use Rattle.path_building.specs.Join.{IsVerbatimPath}
use Rattle.path_building.specs.Resolved.{nothing, name, up, below_root, AreResolved, HasResolved}
use Rattle.test_path_uses.proofs.Writings.{OnePrefix}

drive : IsPrefixOf (codes "\\\\?\\C:\\a") (VerbatimDisk 0x43) (codes "\\a")
drive = record {
  part = codes "C:";
  after = codes "\\a";
  first = record { joined = refl; plain = All-from_recursion (λ b. separates rules.Either b ≡ false) (codes "C:") (refl, (refl, tt)); edge = refl };
  is = (refl, refl);
}

pub verbatim : IsVerbatimPath style.Windows (codes "\\\\?\\C:\\a")
verbatim = (VerbatimDisk 0x43, (codes "\\a", (drive, refl)))

pub whole : OnePrefix → ¬ (LacksPart style.Windows (codes "\\\\?\\C:\\a"))
whole one (inl h) = subst IsOpenKind (one (codes "\\\\?\\C:\\a") h.0 (VerbatimDisk 0x43) h.1.0 (codes "\\a") h.1.1.0 drive).0 h.1.1.1
whole one (inr h) = h.0 (VerbatimDisk 0x43) (codes "\\a") drive

pub bare_path : ¬ (IsPrefixed style.Windows (codes "..\\b\\."))
bare_path p = p.1.1

pub some_path : codes "..\\b\\." ≢ []
some_path e = cc

abbrev left : List Item
left = Prefix (codes "\\\\?\\C:") ∷ RootDir ∷ Normal (codes "b") ∷ []

left_is : AreResolved (codes "\\\\?\\C:\\a") (codes "..\\b\\.") left
left_is = record {
  base_items = Prefix (codes "\\\\?\\C:") ∷ RootDir ∷ Normal (codes "a") ∷ [];
  items = ParentDir ∷ Normal (codes "b") ∷ [];
  base_are = prefixed (record { kind = VerbatimDisk 0x43; raw = codes "\\\\?\\C:"; rest = codes "\\a"; joined = refl; prefix = drive; are = refl });
  are = bare (record { none = λ k rest h. h; are = refl });
  form = name (up nothing);
}

abbrev pub OneResolved : Type 0
OneResolved = (base path : List ℕ) (one other : List Item) → AreResolved base path one → AreResolved base path other → one ≡ other

pub resolved_up : OneResolved → (joined : List ℕ) → HasResolved (codes "\\\\?\\C:\\a") (codes "..\\b\\.") joined → AreComponents style.Windows joined left
resolved_up one joined h =
    subst (λ z. AreComponents style.Windows joined (below_root z)) (one (codes "\\\\?\\C:\\a") (codes "..\\b\\.") h.left left h.resolved left_is) h.are

-- what these texts are joined to, from texts that are equal to them
pub these : {base path joined : List ℕ} → base ≡ codes "\\\\?\\C:\\a" → path ≡ codes "..\\b\\." → HasResolved base path joined → HasResolved (codes "\\\\?\\C:\\a") (codes "..\\b\\.") joined
these {base} {path} {joined} e f h = subst (λ z. HasResolved z (codes "..\\b\\.") joined) e (subst (λ z. HasResolved base z joined) f h)
