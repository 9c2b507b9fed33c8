-- Paths that begin alike are ordered as what is left of them is.
use Rattle.std.proofs.Common.{◌≡◌, ◌<◌, ◌≤◌, ◌+◌, ◌-◌, ⊎_elim, ℕ, List, [], ◌∷◌, ◌++◌, length, take, drop, get_or, refl, sym, ap, subst, arith, ◌∙◌, append_assoc}
use Rattle.std.proofs.lemmas.Bool.{cases_lt}
use Rattle.std.proofs.lemmas.Grind.{same_number_lists}
use Rattle.std.proofs.lemmas.List.{take-append-drop, map-append, get_or-take, length-take-le}
use Rattle.std.proofs.Math.Seq.{drop-append-add}
use Rattle.std.specs.Cmp.Lexicographic.{nat_list_cmp_total}
use Rattle.std.specs.Ordering.{ordering_then, ordering_reverse}
use Rattle.std.specs.declared.cmp.Ordering.{Ordering}
use Rattle.std.specs.declared.cmp.Ordering.TheVariants.{Less, Equal, Greater}
use Rattle.path_rules.specs.declared.head.Head.{Head}
use Rattle.path_rules.specs.declared.rules.Rules.{Rules}
use Rattle.path_rules.specs.Component.{Item, components_in}
use Rattle.path_rules.specs.Heads.{prefix_items, start_items, items_of}
use Rattle.path_rules.specs.Keys.{key_cmp, keys_cmp, item_key, item_keys}
use Rattle.path_rules.specs.Separators.{IsCut}
use Rattle.path_rules.specs.Shared.{SharesItems, StartAlike, AreAlikeBelow}
use Rattle.path_rules.proofs.lemmas.Bodies.{cut_items}

-- what is its own reverse
equal_itself : (o : Ordering) → o ≡ ordering_reverse o → o ≡ Equal
equal_itself Less h = let k : ◌≡◌ {A = Ordering} Less Greater = h in cc
equal_itself Equal h = refl
equal_itself Greater h = let k : ◌≡◌ {A = Ordering} Greater Less = h in cc

same_key : (k : List ℕ) → key_cmp k k ≡ Equal
same_key k = equal_itself (key_cmp k k) (nat_list_cmp_total.antisymm k k)

-- keys are ordered as those after the same ones
keys_after : (ks xs ys : List (List ℕ)) → keys_cmp (ks ++ xs) (ks ++ ys) ≡ keys_cmp xs ys
keys_after [] xs ys = refl
keys_after (k ∷ ks) xs ys = ap (λ o. ordering_then o (keys_cmp (ks ++ xs) (ks ++ ys))) (same_key k) ∙ keys_after ks xs ys

pub same_keys_cmp : (ks : List (List ℕ)) → keys_cmp ks ks ≡ Equal
same_keys_cmp [] = refl
same_keys_cmp (k ∷ ks) = ap (λ o. ordering_then o (keys_cmp ks ks)) (same_key k) ∙ same_keys_cmp ks

module _ (a b : Head) (alike : StartAlike a b) where
  -- the start and the components, without a prefix
  first_is : items_of a ≡ start_items a.start ++ components_in a.rules a.body.now
  first_is = ap (λ p. prefix_items p ++ (start_items a.start ++ components_in a.rules a.body.now)) alike.first

  second_is : items_of b ≡ start_items a.start ++ components_in a.rules b.body.now
  second_is =
      ap (λ p. prefix_items p ++ (start_items b.start ++ components_in b.rules b.body.now)) alike.second
      ∙ ap (λ s. start_items s ++ components_in b.rules b.body.now) alike.start
      ∙ ap (λ r. start_items a.start ++ components_in r b.body.now) alike.rules

  pub same_order : a.body.now ≡ b.body.now → keys_cmp (item_keys (items_of a)) (item_keys (items_of b)) ≡ Equal
  same_order e =
      ap (λ xs. keys_cmp (item_keys (items_of a)) (item_keys xs)) (second_is ∙ ap (λ s. start_items a.start ++ components_in a.rules s) (sym e) ∙ sym first_is)
      ∙ same_keys_cmp (item_keys (items_of a))

  module _ (x y : List ℕ) (s : SharesItems a.rules a.body.now b.body.now x y) where
    front : List Item
    front = start_items a.start ++ s.items

    first_keys : item_keys (items_of a) ≡ item_keys front ++ item_keys (components_in a.rules x)
    unfolding front
    first_keys =
        ap item_keys (first_is ∙ ap (λ z. start_items a.start ++ z) s.first ∙ sym (append_assoc (start_items a.start) s.items (components_in a.rules x)))
        ∙ map-append item_key front (components_in a.rules x)

    second_keys : item_keys (items_of b) ≡ item_keys front ++ item_keys (components_in a.rules y)
    unfolding front
    second_keys =
        ap item_keys (second_is ∙ ap (λ z. start_items a.start ++ z) s.second ∙ sym (append_assoc (start_items a.start) s.items (components_in a.rules y)))
        ∙ map-append item_key front (components_in a.rules y)

    pub left_order : keys_cmp (item_keys (items_of a)) (item_keys (items_of b)) ≡ keys_cmp (item_keys (components_in a.rules x)) (item_keys (components_in a.rules y))
    left_order =
        ap (λ ks. keys_cmp ks (item_keys (items_of b))) first_keys
        ∙ ap (keys_cmp (item_keys front ++ item_keys (components_in a.rules x))) second_keys
        ∙ keys_after (item_keys front) (item_keys (components_in a.rules x)) (item_keys (components_in a.rules y))

-- two lists that are alike up to i, and further
pub alike_further : (xs ys : List ℕ) (i n : ℕ) → AreAlikeBelow xs ys i → ((k : ℕ) → k < n → get_or xs (i + k) 0 ≡ get_or ys (i + k) 0) → AreAlikeBelow xs ys (i + n)
alike_further xs ys i n h more k l =
    ⊎_elim
    (h k)
    (λ above. (let e : i + (k - i) ≡ k = omega (arith, above) in subst (λ m. get_or xs m 0 ≡ get_or ys m 0) e (more (k - i) (omega (arith, l, above)))))
    (cases_lt k i)

pub alike_less : (xs ys : List ℕ) (i n : ℕ) → n ≤ i → AreAlikeBelow xs ys i → AreAlikeBelow xs ys n
alike_less xs ys i n l h k g = h k (omega arith)

pub alike_parts : (xs ys : List ℕ) (n : ℕ) → n ≤ length xs → n ≤ length ys → AreAlikeBelow xs ys n → take n xs ≡ take n ys
alike_parts xs ys n l m h =
    let first = length-take-le n xs l in
    let second = length-take-le n ys m in
    same_number_lists (take n xs) (take n ys) (first ∙ sym second)
    (λ k g. let below : k < n = omega arith in get_or-take n xs k 0 below ∙ h k below ∙ sym (get_or-take n ys k 0 below))

-- what comes from a separator on that two lists share
module _ (r : Rules) (a b before part : List ℕ) (len : ℕ) (same : take len a ≡ take len b) (c : IsCut r (take len a) before part) where
  whole_cut : (xs : List ℕ) → take len xs ≡ take len a → IsCut r xs before (part ++ drop len xs)
  whole_cut xs e = record {
    separator = c.separator;
    joined = sym (take-append-drop len xs) ∙ ap (λ z. z ++ drop len xs) (e ∙ c.joined) ∙ append_assoc before (c.separator ∷ part) (drop len xs);
    parts = c.parts;
  }

  module _ (from : ℕ) (at : from ≡ length before + 1) where
    after_cut : (xs : List ℕ) → take len xs ≡ take len a → drop from xs ≡ part ++ drop len xs
    unfolding whole_cut
    after_cut xs e =
        ap (λ n. drop n xs) at
        ∙ ap (drop (length before + 1)) ((whole_cut xs e).joined)
        ∙ drop-append-add before (c.separator ∷ (part ++ drop len xs)) 1

    pub cut_shared : SharesItems r a b (drop from a) (drop from b)
    cut_shared = record {
      items = components_in r before;
      first = cut_items r a before (part ++ drop len a) (whole_cut a refl) ∙ ap (λ z. components_in r before ++ components_in r z) (sym (after_cut a refl));
      second = cut_items r b before (part ++ drop len b) (whole_cut b (sym same)) ∙ ap (λ z. components_in r before ++ components_in r z) (sym (after_cut b (sym same)));
    }
