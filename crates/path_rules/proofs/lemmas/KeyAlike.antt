-- Paths have the same keys exactly where their components are alike.
use Rattle.std.proofs.Common.{◌≡◌, ℕ, Bool, true, false, nat_eq, nat_le, if◌then◌else◌, List, [], ◌∷◌, ◌++◌, map, refl, sym, ap, ◌∙◌, subst}
use Rattle.std.specs.List.{AllByRecursion}
use Rattle.std.specs.Ordering.{is_eq}
use Rattle.std.specs.Cmp.{eq_by_cmp_equiv}
use Rattle.std.specs.Cmp.Lexicographic.{lists_total, nat_list_cmp_total}
use Rattle.path_rules.specs.KeyLaws.{same_keys}
use Rattle.path_rules.specs.declared.rules.Rules.TheVariants as rules
use Rattle.path_rules.specs.declared.rules.Style as whose
use Rattle.path_rules.specs.declared.rules.Style.TheVariants as style
use Rattle.path_rules.specs.Component.{Item, Prefix, RootDir, CurDir, ParentDir, Normal}
use Rattle.path_rules.specs.Components.{AreComponents, prefixed, bare, root_of, after_root}
use Rattle.path_rules.specs.Prefix.{Kind, Verbatim, VerbatimUnc, VerbatimDisk, Device, Unc, Disk, IsPrefixOf, rules_of}
use Rattle.path_rules.specs.Compare.{AreAlike, AreAllAlike, HaveAlikeComponents, IsNoPrefix}
use Rattle.path_rules.specs.Keys.{HasKeys, AreKeys, rank_of, letter_of, name_of, share_of, kind_keys, item_key, item_keys, keys_cmp}
use Rattle.path_rules.proofs.lemmas.Begins.{no_prefix_items}
use Rattle.path_rules.proofs.lemmas.KeyLists.{below_plain}
use Rattle.path_rules.proofs.lemmas.OneList.{one_prefix, one_components}
use Rattle.path_rules.proofs.lemmas.Alike.{all_itself, all_same}

-- a key tells its component
item_from : List ℕ → Item
item_from [] = RootDir
item_from (n ∷ s) = if nat_eq n 6 then RootDir else (if nat_eq n 7 then CurDir else (if nat_eq n 8 then ParentDir else (if nat_eq n 9 then Normal s else Prefix s)))

from_key : (x : Item) → item_from (item_key x) ≡ x
unfolding item_from
from_key (Prefix s) = refl
from_key RootDir = refl
from_key CurDir = refl
from_key ParentDir = refl
from_key (Normal s) = refl

from_keys : (xs : List Item) → map item_from (item_keys xs) ≡ xs
from_keys [] = refl
from_keys (x ∷ xs) = ap (λ z. z ∷ map item_from (item_keys xs)) (from_key x) ∙ ap (λ z. x ∷ z) (from_keys xs)

items_same : (xs ys : List Item) → item_keys xs ≡ item_keys ys → xs ≡ ys
items_same xs ys e = sym (from_keys xs) ∙ ap (map item_from) e ∙ from_keys ys

-- and the keys of a prefix its kind
kind_from : ℕ → List ℕ → ℕ → List ℕ → Kind
kind_from rank name letter share = if nat_eq rank 0 then Verbatim name else (if nat_eq rank 1 then VerbatimUnc name share else (if nat_eq rank 2 then VerbatimDisk letter else (if nat_eq rank 3 then Device name else (if nat_eq rank 4 then Unc name share else Disk letter))))

kind_back : (k : Kind) → kind_from (rank_of k) (name_of k) (letter_of k) (share_of k) ≡ k
unfolding kind_from
kind_back (Verbatim name) = refl
kind_back (VerbatimUnc server share) = refl
kind_back (VerbatimDisk letter) = refl
kind_back (Device name) = refl
kind_back (Unc server share) = refl
kind_back (Disk letter) = refl

head_same : {X : Type 0} (x y : X) (xs ys : List X) → x ∷ xs ≡ y ∷ ys → (x ≡ y) × (xs ≡ ys)
head_same x y xs ys e = (cc, cc)

kinds_same : (k l : Kind) (xs ys : List (List ℕ)) → kind_keys k ++ xs ≡ kind_keys l ++ ys → (k ≡ l) × (xs ≡ ys)
kinds_same k l xs ys e =
    let one = head_same (rank_of k ∷ name_of k) (rank_of l ∷ name_of l) ((letter_of k ∷ share_of k) ∷ xs) ((letter_of l ∷ share_of l) ∷ ys) e in
    let two = head_same (letter_of k ∷ share_of k) (letter_of l ∷ share_of l) xs ys (one.1) in
    let a = head_same (rank_of k) (rank_of l) (name_of k) (name_of l) (one.0) in
    let b = head_same (letter_of k) (letter_of l) (share_of k) (share_of l) (two.0) in (
      sym (kind_back k) ∙ ap (λ x. kind_from x (name_of k) (letter_of k) (share_of k)) (a.0) ∙ ap (λ x. kind_from (rank_of l) x (letter_of k) (share_of k)) (a.1)
          ∙ ap (λ x. kind_from (rank_of l) (name_of l) x (share_of k)) (b.0) ∙ ap (kind_from (rank_of l) (name_of l) (letter_of l)) (b.1) ∙ kind_back l,
      two.1,
    )

-- a prefix has lower keys than any other component
is_low : List ℕ → Bool
is_low [] = false
is_low (n ∷ s) = nat_le n 5

low_kind : (k : Kind) → is_low (rank_of k ∷ name_of k) ≡ true
unfolding is_low
low_kind (Verbatim name) = refl
low_kind (VerbatimUnc server share) = refl
low_kind (VerbatimDisk letter) = refl
low_kind (Device name) = refl
low_kind (Unc server share) = refl
low_kind (Disk letter) = refl

high_item : (x : Item) → is_low (item_key x) ≡ false
unfolding is_low
high_item (Prefix s) = refl
high_item RootDir = refl
high_item CurDir = refl
high_item ParentDir = refl
high_item (Normal s) = refl

apart : (k : Kind) (xs : List (List ℕ)) (ys : List Item) → kind_keys k ++ xs ≡ item_keys ys → ⊥
apart k xs [] e = cc
apart k xs (y ∷ ys) e =
    let first = (head_same (rank_of k ∷ name_of k) (item_key y) ((letter_of k ∷ share_of k) ∷ xs) (item_keys ys) e).0 in
    let never : true ≡ false = sym (low_kind k) ∙ ap is_low first ∙ high_item y in cc

-- the keys of components, with and without a prefix
data Keyed (items : List Item) (keys : List (List ℕ)) : Type 0 where
  plain : AllByRecursion IsNoPrefix items → keys ≡ item_keys items → Keyed items keys
  after : (raw : List ℕ) (xs : List Item) (kind : Kind) (rest : List ℕ) → items ≡ Prefix raw ∷ xs → AllByRecursion IsNoPrefix xs → IsPrefixOf raw kind rest → keys ≡ kind_keys kind ++ item_keys xs → Keyed items keys

plain_keyed : (items : List Item) (keys : List (List ℕ)) → AllByRecursion IsNoPrefix items → AreKeys items keys → keys ≡ item_keys items
plain_keyed [] keys n h = h
plain_keyed (Prefix s ∷ xs) keys n h = absurd n.0
plain_keyed (RootDir ∷ xs) keys n h = h
plain_keyed (CurDir ∷ xs) keys n h = h
plain_keyed (ParentDir ∷ xs) keys n h = h
plain_keyed (Normal s ∷ xs) keys n h = h

keyed : (w : whose.Style) (s : List ℕ) (items : List Item) (keys : List (List ℕ)) → AreComponents w s items → AreKeys items keys → Keyed items keys
keyed style.Unix s items keys a h = let n = subst (AllByRecursion IsNoPrefix) (sym a) (no_prefix_items rules.Slash s) in plain n (plain_keyed items keys n h)
keyed style.Windows s items keys (bare a) h = let n = subst (AllByRecursion IsNoPrefix) (sym a.are) (no_prefix_items rules.Either s) in plain n (plain_keyed items keys n h)
keyed style.Windows s items keys (prefixed a) h =
    let k = subst (λ x. AreKeys x keys) a.are h in
    after a.raw _ (k.0) (k.1.0) a.are (below_plain (rules_of a.kind) (root_of a.kind a.rest) (after_root a.rest)) (k.1.1.0) (k.1.1.1)

prefix_apart : (raw : List ℕ) (xs ys : List Item) → AllByRecursion IsNoPrefix ys → AreAllAlike (Prefix raw ∷ xs) ys → ⊥
prefix_apart raw xs [] n h = h
prefix_apart raw xs (Prefix s ∷ ys) n h = n.0
prefix_apart raw xs (RootDir ∷ ys) n h = h.0
prefix_apart raw xs (CurDir ∷ ys) n h = h.0
prefix_apart raw xs (ParentDir ∷ ys) n h = h.0
prefix_apart raw xs (Normal s ∷ ys) n h = h.0

apart_prefix : (raw : List ℕ) (xs ys : List Item) → AllByRecursion IsNoPrefix ys → AreAllAlike ys (Prefix raw ∷ xs) → ⊥
apart_prefix raw xs [] n h = h
apart_prefix raw xs (Prefix s ∷ ys) n h = n.0
apart_prefix raw xs (RootDir ∷ ys) n h = h.0
apart_prefix raw xs (CurDir ∷ ys) n h = h.0
apart_prefix raw xs (ParentDir ∷ ys) n h = h.0
apart_prefix raw xs (Normal s ∷ ys) n h = h.0

alike_from : (xs ys : List Item) (ks ls : List (List ℕ)) → Keyed xs ks → Keyed ys ls → ks ≡ ls → AreAllAlike xs ys
alike_from xs ys ks ls (plain n a) (plain m b) e = subst (AreAllAlike xs) (items_same xs ys (sym a ∙ e ∙ b)) (all_itself xs n)
alike_from xs ys ks ls (plain n a) (after raw us k rest i m p b) e = absurd (apart k (item_keys us) xs (sym b ∙ sym e ∙ a))
alike_from xs ys ks ls (after raw us k rest i n p a) (plain m b) e = absurd (apart k (item_keys us) ys (sym a ∙ e ∙ b))
alike_from xs ys ks ls (after raw us k rest i n p a) (after other vs l left j m q b) e =
    let same = kinds_same k l (item_keys us) (item_keys vs) (sym a ∙ e ∙ b) in
    let first : AreAlike (Prefix raw) (Prefix other) = record { kind = l; after_first = rest; after_second = left; first = subst (λ x. IsPrefixOf raw x rest) (same.0) p; second = q } in
    subst (λ z. AreAllAlike z ys) (sym i) (subst (AreAllAlike (Prefix raw ∷ us)) (sym j) (first, subst (AreAllAlike us) (items_same us vs (same.1)) (all_itself us n)))

keys_from : (xs ys : List Item) (ks ls : List (List ℕ)) → Keyed xs ks → Keyed ys ls → AreAllAlike xs ys → ks ≡ ls
keys_from xs ys ks ls (plain n a) (plain m b) h = a ∙ ap item_keys (all_same xs ys n h) ∙ sym b
keys_from xs ys ks ls (plain n a) (after raw us k rest i m p b) h = absurd (apart_prefix raw us xs n (subst (AreAllAlike xs) i h))
keys_from xs ys ks ls (after raw us k rest i n p a) (plain m b) h = absurd (prefix_apart raw us ys m (subst (λ z. AreAllAlike z ys) i h))
keys_from xs ys ks ls (after raw us k rest i n p a) (after other vs l left j m q b) h =
    let both : AreAllAlike (Prefix raw ∷ us) (Prefix other ∷ vs) = subst (AreAllAlike (Prefix raw ∷ us)) j (subst (λ z. AreAllAlike z ys) i h) in
    let f = both.0 in
    let kinds : k ≡ l = (one_prefix raw k f.kind rest f.after_first p f.first).0 ∙ (one_prefix other f.kind l f.after_second left f.second q).0 in
    a ∙ ap (λ z. kind_keys z ++ item_keys us) kinds ∙ ap (λ z. kind_keys l ++ item_keys z) (all_same us vs n both.1) ∙ sym b

pub keys_alike : (w : whose.Style) (s t : List ℕ) (ks ls : List (List ℕ)) → HasKeys w s ks → HasKeys w t ls → (ks ≡ ls → HaveAlikeComponents w s t) × (HaveAlikeComponents w s t → ks ≡ ls)
keys_alike w s t ks ls a b =
    let x = keyed w s a.items ks a.are a.keyed in
    let y = keyed w t b.items ls b.are b.keyed in (
      λ e. record { items = a.items; other_items = b.items; are = a.are; other_are = b.are; alike = alike_from a.items b.items ks ls x y e },
      λ h. keys_from a.items b.items ks ls x y
          (subst (λ z. AreAllAlike z b.items) (one_components w s h.items a.items h.are a.are) (subst (AreAllAlike h.items) (one_components w t h.other_items b.items h.other_are b.are) h.alike)),
    )

-- keys are equal exactly where they are ordered as equal
pub keys_equal : (xs ys : List (List ℕ)) → (is_eq (keys_cmp xs ys) ≡ true → xs ≡ ys) × (xs ≡ ys → is_eq (keys_cmp xs ys) ≡ true)
keys_equal xs ys = (same_keys xs ys, λ e. subst (λ z. is_eq (keys_cmp xs z) ≡ true) e (equal_itself xs))
  where
    equal_itself : (zs : List (List ℕ)) → is_eq (keys_cmp zs zs) ≡ true
    equal_itself zs = (eq_by_cmp_equiv (lists_total nat_list_cmp_total)).refl zs
