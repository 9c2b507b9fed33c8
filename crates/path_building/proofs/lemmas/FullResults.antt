-- What `absolute` returns on Unix begins with a root.
use Rattle.std.proofs.Common.{◌≡◌, inl, inr, ℕ, List, [], ◌∷◌, ◌++◌, refl, sym, ap, ◌∙◌, subst}
use Rattle.path_rules.specs.declared.rules.Rules.TheVariants as rules
use Rattle.path_rules.specs.declared.rules.Style.TheVariants as style
use Rattle.path_rules.specs.declared.head.Start.TheVariants.{Root}
use Rattle.path_rules.specs.Component.{Item, RootDir, components_in}
use Rattle.path_rules.specs.Components.{plain_components}
use Rattle.path_rules.specs.Root.{BeginsWithSeparator}
use Rattle.path_building.specs.Join.{IsJoin, replacing, resolving, at_root, after, without_dot}
use Rattle.path_building.specs.Collected.{ArePushed, string_of}
use Rattle.path_building.specs.Trailing.{IsEndedAs}
use Rattle.path_building.specs.FullPath.{without_root, IsRespelled, IsPlaced, IsFullPath}
use Rattle.path_rules.proofs.lemmas.Starts.{with_root, items_at}

abbrev Rooted : List ℕ → Type 0
Rooted s = BeginsWithSeparator rules.Slash s

rooted_on : (s t : List ℕ) → Rooted s → Rooted (s ++ t)
rooted_on [] t h = absurd h
rooted_on (b ∷ s) t h = h

-- joined to a path with a root, each path has one
joined_rooted : (base path joined : List ℕ) → Rooted base → IsJoin style.Unix base path joined → Rooted joined
joined_rooted base path joined h (replacing p e) = absurd p
joined_rooted base path joined h (resolving n v s r) = absurd v
joined_rooted base path joined h (at_root n v i) = subst Rooted (sym (i.is ∙ ap (λ z. z ++ path) i.prefix)) i.root
joined_rooted base path joined h (after n o i) = subst Rooted (sym i.is) (rooted_on base (i.between ++ path) h)

pushed_rooted : (base : List ℕ) (items : List Item) (made : List ℕ) → Rooted base → ArePushed style.Unix base items made → Rooted made
pushed_rooted base [] made h k = subst Rooted (sym k) h
pushed_rooted base (x ∷ xs) made h k = pushed_rooted k.0 xs made (joined_rooted base (string_of style.Unix x) k.0 h k.1.0) k.1.1

-- a root that is joined to nothing is a root
root_alone : (next : List ℕ) → IsJoin style.Unix [] (0x2F ∷ []) next → Rooted next
root_alone next (replacing p e) = absurd p
root_alone next (resolving n v s r) = absurd v
root_alone next (at_root n v i) = subst Rooted (sym (i.is ∙ ap (λ z. z ++ 0x2F ∷ []) i.prefix)) refl
root_alone next (after n o i) = absurd (i.relative refl)

root_first : (path : List ℕ) → Rooted path → (xs : List Item) × (plain_components rules.Slash path ≡ RootDir ∷ xs)
root_first [] h = absurd h
root_first (b ∷ s) h = (components_in rules.Slash s, items_at rules.Slash (b ∷ s) Root (with_root rules.Slash b s h))

respelled_rooted : (path mid : List ℕ) → Rooted path → IsRespelled path mid → Rooted mid
respelled_rooted path mid h r = elim r.pushed [
  | inl k ↦ pushed_rooted (0x2F ∷ 0x2F ∷ []) (without_root r.items) mid refl k.1
  | inr k ↦
      let first = root_first path h in
      let pushed = subst (λ z. ArePushed style.Unix [] z mid) (r.are ∙ first.1) k.1 in pushed_rooted pushed.0 first.0 mid (root_alone pushed.0 pushed.1.0) pushed.1.1
]

placed_rooted : (path directory mid : List ℕ) → IsPlaced style.Unix path directory mid → Rooted mid
placed_rooted path directory mid (inl h) = respelled_rooted path mid h.0 h.1
placed_rooted path directory mid (inr h) = pushed_rooted directory (without_dot h.1.1.items) mid h.1.0.0 h.1.1.pushed

ended_rooted : (like mid full : List ℕ) → Rooted mid → IsEndedAs style.Unix like mid full → Rooted full
ended_rooted like mid full h (inl e) = subst Rooted (sym e.1.is) (rooted_on mid e.1.between h)
ended_rooted like mid full h (inr e) = subst Rooted (sym e.1) h

pub full_rooted : (path directory full : List ℕ) → IsFullPath style.Unix path directory full → BeginsWithSeparator rules.Slash full
full_rooted path directory full (inl h) = absurd h.0
full_rooted path directory full (inr h) = ended_rooted path h.mid full (placed_rooted path directory h.mid h.placed) h.end
