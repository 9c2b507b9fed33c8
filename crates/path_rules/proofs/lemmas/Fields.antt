-- A path has one field at its start.
use Rattle.std.proofs.Common.{◌≡◌, ◌-◌, ◌<◌, ◌≤◌, ◌==◌, Bool, take, drop, get_or, ◌⊎◌, inl, inr, ℕ, true, false, List, [], ◌∷◌, ◌++◌, length, refl, sym, ap, ◌∙◌, subst, arith, ◌≢◌}
use Rattle.std.proofs.lemmas.List.{nil_from_length, take_rest}
use Rattle.std.proofs.lemmas.Bool.Decides.{nat_tests}
use Rattle.std.proofs.lemmas.List.Elements.{All-head, All-tail}
use Rattle.std.specs.List.{All}
use Rattle.path_rules.specs.declared.rules.Rules.{Rules}
use Rattle.path_rules.specs.declared.rules.Rules.TheVariants as rules
use Rattle.path_rules.specs.Separators.{separates, EdgeBy, IsFieldBy, IsField}
use Rattle.path_rules.specs.Prefix.{Kind, IsUnc}

module _ (test : ℕ → Bool) where
  same_field : (f g t u : List ℕ) → f ++ t ≡ g ++ u → All (λ c. test c ≡ false) f → All (λ c. test c ≡ false) g → EdgeBy test t → EdgeBy test u → (f ≡ g) × (t ≡ u)
  same_field [] [] t u e p q h k = (refl, e)
  same_field [] (b ∷ g) t u e p q h k =
      let x : test b ≡ true = subst (EdgeBy test) e h in
      let y : test b ≡ false = All-head (λ c. test c ≡ false) b g q in
      let never : false ≡ true = sym y ∙ x in cc
  same_field (a ∷ f) [] t u e p q h k =
      let x : test a ≡ true = subst (EdgeBy test) (sym e) k in
      let y : test a ≡ false = All-head (λ c. test c ≡ false) a f p in
      let never : false ≡ true = sym y ∙ x in cc
  same_field (a ∷ f) (b ∷ g) t u e p q h k =
      let first : a ≡ b = cc in
      let more : f ++ t ≡ g ++ u = cc in
      let rest = same_field f g t u more (All-tail (λ c. test c ≡ false) a f p) (All-tail (λ c. test c ≡ false) b g q) h k in
      let fields : f ≡ g = rest.0 in
      (cc, rest.1)

  pub one_field_by : (s f g t u : List ℕ) → IsFieldBy test s f t → IsFieldBy test s g u → (f ≡ g) × (t ≡ u)
  one_field_by s f g t u a b = same_field f g t u (sym a.joined ∙ b.joined) a.plain b.plain a.edge b.edge

pub one_field : (r : Rules) (s f g t u : List ℕ) → IsField r s f t → IsField r s g u → (f ≡ g) × (t ≡ u)
one_field r s f g t u a b = one_field_by (separates r) s f g t u a b

-- no share without a separator after the server
pub no_separator : (s server : List ℕ) → IsField rules.Either s server [] → (kind : Kind) (rest : List ℕ) → ¬ (IsUnc s kind rest)
no_separator s server h kind rest u =
    let same : [] ≡ u.separator ∷ u.more = (one_field rules.Either s server u.server [] (u.separator ∷ u.more) h u.first).1 in cc

-- the server or the share is empty
pub nothing_named : (s server share more tail : List ℕ) (c : ℕ) → IsField rules.Either s server (c ∷ more) → IsField rules.Either more share tail → (server ≡ []) ⊎ (share ≡ []) → (kind : Kind) (rest : List ℕ) → ¬ (IsUnc s kind rest)
nothing_named s server share more tail c h k none kind rest u =
    let one = one_field rules.Either s server u.server (c ∷ more) (u.separator ∷ u.more) h u.first in
    let pair : c ∷ more ≡ u.separator ∷ u.more = one.1 in
    let mores : more ≡ u.more = cc in
    let two = one_field rules.Either u.more share u.share tail rest (subst (λ x. IsField rules.Either x share tail) mores k) u.second in
    elim none [ inl e ↦ u.some_server (sym one.0 ∙ e) | inr e ↦ u.some_share (sym two.0 ∙ e) ]

-- what `is_empty` tells
pub empty_from : (xs : List ℕ) (b : Bool) → b ≡ true → b ≡ (length xs == 0) → xs ≡ []
empty_from xs b e f = let z : length xs ≡ 0 = grind (arith, nat_tests) in nil_from_length xs z

-- what a pattern `[_, more @ ..]` tells
pub cons_of : (xs : List ℕ) → 1 ≤ length xs → xs ≡ get_or xs 0 0 ∷ take (length xs - 1) (drop 1 xs)
cons_of [] l = absurd (omega arith)
cons_of (x ∷ xs) l = ap (λ t. x ∷ t) (sym (take_rest (x ∷ xs) 1))

pub nil_of : (xs : List ℕ) → length xs < 1 → xs ≡ []
nil_of xs l = nil_from_length xs (omega arith)

pub some_from : (xs : List ℕ) (b : Bool) → b ≡ false → b ≡ (length xs == 0) → xs ≢ []
some_from xs b e f n = let yes : b ≡ true = f ∙ ap (λ x. length x == 0) n in let never : true ≡ false = sym yes ∙ e in cc
