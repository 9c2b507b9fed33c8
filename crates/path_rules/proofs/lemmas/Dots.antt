-- The parts of a name around its dots.
use Rattle.std.proofs.Common.{◌≡◌, ◌≢◌, ◌<◌, ◌≤◌, ◌+◌, inl, inr, ℕ, zero, suc, nat_eq, true, false, List, [], ◌∷◌, ◌++◌, length, take, drop, get_or, refl, sym, ap, ◌∙◌, subst, arith, take-append-drop, length-append}
use Rattle.std.proofs.lemmas.List.{drop_more, get_or-take, get_or_at, length-take-le}
use Rattle.std.proofs.lemmas.List.Elements.{All-from_get_or, All-head, All-tail}
use Rattle.path_rules.specs.Name.{IsExtension, HasNoExtension, HasNoDot, HasNoLaterDot, IsNamePrefix, dot_dot, IsStem}
use Rattle.path_rules.proofs.lemmas.Cuts.{NoneFrom, plain_after}

abbrev pub NoDotFrom : List ℕ → ℕ → Type 0
NoDotFrom name i = NoneFrom (λ b. nat_eq b 0x2E) name i

-- no dot from 1 up to n
abbrev pub NoLaterDotBelow : List ℕ → ℕ → Type 0
NoLaterDotBelow name n = (k : ℕ) → 1 ≤ k → k < n → nat_eq (get_or name k 0) 0x2E ≡ false

-- the name is cut at its dot
joined_at : (name : List ℕ) (i : ℕ) → i < length name → get_or name i 0 ≡ 0x2E → name ≡ take i name ++ 0x2E ∷ drop (i + 1) name
joined_at name i l e =
    sym (take-append-drop i name) ∙ ap (λ x. take i name ++ x) (drop_more name i 0 l)
    ∙ ap (λ b. take i name ++ b ∷ drop (i + 1) name) e

some_at : (name : List ℕ) (i : ℕ) → 0 < i → i < length name → take i name ≢ []
some_at name i low l none = let h : length (take i name) ≡ i = length-take-le i name (omega arith) in absurd (omega (arith, ap length none))

pub extension_at : (name stem extension : List ℕ) (i j : ℕ) → j ≡ i + 1 → 0 < i → i < length name → stem ≡ take i name → extension ≡ drop j name → get_or name i 0 ≡ 0x2E → NoDotFrom name j → (name ≢ dot_dot) → IsExtension name stem extension
extension_at name stem extension i j next low l p late e dots other = let q : extension ≡ drop (i + 1) name = late ∙ ap (λ x. drop x name) next in let h : NoDotFrom name (i + 1) = subst (NoDotFrom name) next dots in record {
  joined = joined_at name i l e ∙ ap (λ x. x ++ 0x2E ∷ drop (i + 1) name) (sym p) ∙ ap (λ x. stem ++ 0x2E ∷ x) (sym q);
  some_stem = λ none. some_at name i low l (sym p ∙ none);
  no_dot = subst HasNoDot (sym q) (plain_after (λ b. nat_eq b 0x2E) name (i + 1) h);
  other = other;
}

some_length : (s : List ℕ) → s ≢ [] → 0 < length s
some_length [] h = absurd (h refl)
some_length (b ∷ s) h = omega arith

pub none_extension : (name : List ℕ) (n : ℕ) → n ≤ 1 → NoDotFrom name n → HasNoExtension name
none_extension name n low h stem extension e =
    let k = length stem in
    let some : 0 < k = some_length stem e.some_stem in
    let here : get_or name k 0 ≡ 0x2E = ap (λ x. get_or x k 0) e.joined ∙ get_or_at stem 0x2E extension 0 k refl in
    let inside : k < length name = omega (arith, ap length e.joined, length-append stem (0x2E ∷ extension)) in
    let no : nat_eq (get_or name k 0) 0x2E ≡ false = h k (omega arith) inside in
    let yes : nat_eq (get_or name k 0) 0x2E ≡ true = ap (λ b. nat_eq b 0x2E) here in
    let never : true ≡ false = sym yes ∙ no in cc

pub no_extension_of_dots : (name : List ℕ) → name ≡ dot_dot → HasNoExtension name
no_extension_of_dots name e stem extension h = h.other e

-- no dot in what comes before n, but for the first byte
later_none : (name : List ℕ) (n : ℕ) → n ≤ length name → NoLaterDotBelow name n → HasNoLaterDot (take n name)
later_none [] zero l h = tt
later_none [] (suc n) l h = absurd (omega arith)
later_none (b ∷ s) zero l h = tt
later_none (b ∷ s) (suc n) l h =
    All-from_get_or (λ c. nat_eq c 0x2E ≡ false) (take n s) 0 (λ k g.
    let m : length (take n s) ≡ n = length-take-le n s (omega arith) in
    ap (λ x. nat_eq x 0x2E) (get_or-take n s k 0 (omega arith)) ∙ h (suc k) (omega arith) (omega arith))

later_whole : (name : List ℕ) (n : ℕ) → length name ≤ n → NoLaterDotBelow name n → HasNoLaterDot name
later_whole [] n l h = tt
later_whole (b ∷ s) n l h = All-from_get_or (λ c. nat_eq c 0x2E ≡ false) s 0 (λ k g. h (suc k) (omega arith) (omega arith))

pub prefix_at : (name prefix : List ℕ) (i : ℕ) → 0 < i → i < length name → prefix ≡ take i name → get_or name i 0 ≡ 0x2E → NoLaterDotBelow name i → (name ≢ dot_dot) → IsNamePrefix name prefix
prefix_at name prefix i low l p e h other = inl (
  drop (i + 1) name,
  record {
    joined = joined_at name i l e ∙ ap (λ x. x ++ 0x2E ∷ drop (i + 1) name) (sym p);
    some_prefix = λ none. some_at name i low l (sym p ∙ none);
    no_dot = subst HasNoLaterDot (sym p) (later_none name i (omega arith) h);
    other = other;
  },
)

pub prefix_whole : (name : List ℕ) (n : ℕ) → length name ≤ n → NoLaterDotBelow name n → IsNamePrefix name name
prefix_whole name n l h = inr (refl, inl (later_whole name n l h))

pub prefix_of_dots : (name : List ℕ) → name ≡ dot_dot → IsNamePrefix name name
prefix_of_dots name e = inr (refl, inr e)

-- the last dot is one
dot_inside : (t f : List ℕ) → HasNoDot (t ++ 0x2E ∷ f) → ⊥
dot_inside [] f h = let never : true ≡ false = All-head (λ b. nat_eq b 0x2E ≡ false) 0x2E f h in cc
dot_inside (c ∷ t) f h = dot_inside t f (All-tail (λ b. nat_eq b 0x2E ≡ false) c (t ++ 0x2E ∷ f) h)

last_dot : (s t e f : List ℕ) → s ++ 0x2E ∷ e ≡ t ++ 0x2E ∷ f → HasNoDot e → HasNoDot f → (s ≡ t) × (e ≡ f)
last_dot [] [] e f h p q = (refl, cc)
last_dot [] (c ∷ t) e f h p q = let later : e ≡ t ++ 0x2E ∷ f = cc in absurd (dot_inside t f (subst HasNoDot later p))
last_dot (c ∷ s) [] e f h p q = let later : s ++ 0x2E ∷ e ≡ f = cc in absurd (dot_inside s e (subst HasNoDot (sym later) q))
last_dot (c ∷ s) (d ∷ t) e f h p q =
    let first : c ≡ d = cc in
    let later : s ++ 0x2E ∷ e ≡ t ++ 0x2E ∷ f = cc in
    let rest = last_dot s t e f later p q in
    let stems : s ≡ t = rest.0 in
    (cc, rest.1)

pub one_extension : (name s e t f : List ℕ) → IsExtension name s e → IsExtension name t f → (s ≡ t) × (e ≡ f)
one_extension name s e t f a b = last_dot s t e f (sym a.joined ∙ b.joined) a.no_dot b.no_dot

-- the stem of a name with an extension, a dot, and the extension
pub stem_joined : (name stem other extension : List ℕ) → IsStem name stem → IsExtension name other extension → name ≡ stem ++ 0x2E ∷ extension
stem_joined name stem other extension (inl h) e = e.joined ∙ ap (λ x. x ++ 0x2E ∷ extension) ((one_extension name other extension stem (h.0) e (h.1)).0)
stem_joined name stem other extension (inr h) e = absurd (h.0 other extension e)
