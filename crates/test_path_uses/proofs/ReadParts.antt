-- Where the parts of a path end.
use Rattle.std.proofs.Common.{◌≡◌, ◌≢◌, ◌⊎◌, inl, inr, ◌<◌, ℕ, true, false, List, [], ◌∷◌, ◌++◌, Option, Some, None, MatchOption, refl, sym, ap, ◌∙◌, subst, arith, append-nil, drop}
use Rattle.std.specs.Prelude.{IfSome}
use Rattle.std.specs.List.{All, slice_split, onto_first, filter_map, cons_option}
use Rattle.std.proofs.lemmas.List.Elements.{All-head, All-tail, All-cons}
use Rattle.std.proofs.lemmas.List.Splits.{slice_split-cons_yes, slice_split-cons_no}
use Rattle.path_rules.specs.declared.rules.Rules.{Rules}
use Rattle.path_rules.specs.declared.rules.Style.{Style}
use Rattle.path_rules.specs.declared.rules.Style.TheVariants as style
use Rattle.path_rules.specs.Separators.{separates, IsPlain, Edge, IsField}
use Rattle.path_rules.specs.StyleRules.{rules_of_path}
use Rattle.path_rules.specs.Component.{Item, Normal, named, components_in}
use Rattle.path_rules.specs.Components.{after_root}
use Rattle.path_rules.specs.Body.{HasBody, HasBodyAfter, IsEndTrimmed}
use Rattle.path_rules.specs.Divided.{AtStart, IsDivided}
use Rattle.path_rules.specs.FirstPart.{IsFirstPart}
use Rattle.path_rules.specs.Trailing.{EndsWithSeparator}
use Rattle.path_rules.specs.Prefix.{Kind, IsPrefixOf}

-- a path has one body
one_body : (w : Style) (s : List ℕ) → ((k l : Kind) (t u : List ℕ) → IsPrefixOf s k t → IsPrefixOf s l u → (k ≡ l) × (t ≡ u)) → (r q : Rules) (body other : List ℕ) → HasBody w s r body → HasBody w s q other → body ≡ other
one_body style.Unix s one r q body other h k = h.is ∙ sym k.is
one_body style.Windows s one r q body other (inl h) (inl k) = h.is ∙ ap after_root (one h.kind k.kind h.rest k.rest h.prefix k.prefix).1 ∙ sym k.is
one_body style.Windows s one r q body other (inl h) (inr k) = absurd (k.0 h.kind h.rest h.prefix)
one_body style.Windows s one r q body other (inr h) (inl k) = absurd (h.0 k.kind k.rest k.prefix)
one_body style.Windows s one r q body other (inr h) (inr k) = h.1.is ∙ sym k.1.is

nothing_after : (left after : List ℕ) → [] ≡ left ++ after → after ≡ []
nothing_after [] after e = sym e
nothing_after (c ∷ left) after e = let never : [] ≡ c ∷ (left ++ after) = e in cc

-- where nothing follows the root all is kept
pub kept_whole : (w : Style) (path t : List ℕ) → ((k l : Kind) (x y : List ℕ) → IsPrefixOf path k x → IsPrefixOf path l y → (k ≡ l) × (x ≡ y)) → IsEndTrimmed w path t → (r : Rules) → HasBody w path r [] → t ≡ path
kept_whole w path t one e r has =
    let within = e.within in
    let none : within.body ≡ [] = one_body w path one within.rules r within.body [] within.has has in
    let after : e.after ≡ [] = nothing_after within.left e.after (sym none ∙ within.joined) in
    sym (append-nil t) ∙ ap (λ x. t ++ x) (sym after) ∙ sym e.joined

-- the first part of what begins with a name and a separator
module _ (r : Rules) where
  same_field : (f g t u : List ℕ) → f ++ t ≡ g ++ u → IsPlain r f → IsPlain r g → Edge r t → Edge r u → t ≡ u
  same_field [] [] t u e p q h k = e
  same_field [] (b ∷ g) t u e p q h k =
      let yes : separates r b ≡ true = subst (Edge r) e h in
      let never : false ≡ true = sym (All-head (λ c. separates r c ≡ false) b g q) ∙ yes in cc
  same_field (a ∷ f) [] t u e p q h k =
      let yes : separates r a ≡ true = subst (Edge r) (sym e) k in
      let never : false ≡ true = sym (All-head (λ c. separates r c ≡ false) a f p) ∙ yes in cc
  same_field (a ∷ f) (b ∷ g) t u e p q h k =
      let more : f ++ t ≡ g ++ u = cc in
      same_field f g t u more (All-tail (λ c. separates r c ≡ false) a f p) (All-tail (λ c. separates r c ≡ false) b g q) h k

  first_part : (name rest : List ℕ) (c : ℕ) → IsPlain r name → separates r c ≡ true → slice_split (separates r) (name ++ c ∷ rest) ≡ name ∷ slice_split (separates r) rest
  first_part [] rest c p s = slice_split-cons_yes (separates r) c rest s
  first_part (x ∷ name) rest c p s =
      slice_split-cons_no (separates r) x (name ++ c ∷ rest) (All-head (λ b. separates r b ≡ false) x name p)
      ∙ ap (onto_first x) (first_part name rest c (All-tail (λ b. separates r b ≡ false) x name p) s)

  begins_so : (name skipped left more before : List ℕ) (c last : ℕ) → skipped ++ left ≡ name ++ c ∷ more → IsPlain r name → skipped ≡ before ++ last ∷ [] → separates r last ≡ true → (rest : List ℕ) × (skipped ≡ name ++ c ∷ rest)
  begins_so [] [] left more [] c last e p j s = let never : [] ≡ last ∷ [] = j in cc
  begins_so [] [] left more (b ∷ before) c last e p j s = let never : [] ≡ b ∷ (before ++ last ∷ []) = j in cc
  begins_so [] (x ∷ skipped) left more before c last e p j s = let same : x ≡ c = cc in (skipped, ap (λ y. y ∷ skipped) same)
  begins_so (n ∷ name) [] left more [] c last e p j s = let never : [] ≡ last ∷ [] = j in cc
  begins_so (n ∷ name) [] left more (b ∷ before) c last e p j s = let never : [] ≡ b ∷ (before ++ last ∷ []) = j in cc
  begins_so (n ∷ name) (x ∷ skipped) left more [] c last e p j s =
      let first : x ≡ n = cc in
      let one : x ≡ last = cc in
      let never : false ≡ true = sym (All-head (λ b. separates r b ≡ false) n name p) ∙ ap (separates r) (sym first ∙ one) ∙ s in cc
  begins_so (n ∷ name) (x ∷ skipped) left more (b ∷ before) c last e p j s =
      let first : x ≡ n = cc in
      let later : skipped ++ left ≡ name ++ c ∷ more = cc in
      let tail : skipped ≡ before ++ last ∷ [] = cc in
      let q = begins_so name skipped left more before c last later (All-tail (λ b. separates r b ≡ false) n name p) tail s in
      (q.0, ap (λ y. y ∷ skipped) first ∙ ap (λ y. n ∷ y) q.1)

  pub rest_after : (body rest name more : List ℕ) (x item : Item) (c : ℕ) → IsFirstPart r body x rest → body ≡ name ++ c ∷ more → IsPlain r name → separates r c ≡ true → named r name ≡ Some item → rest ≡ more
  rest_after body rest name more x item c f j p s n = cases f.skipped.ends
    where
      cases : (f.skipped.skipped ≡ []) ⊎ EndsWithSeparator r f.skipped.skipped → rest ≡ more
      cases (inl none) =
          let left : f.left ≡ name ++ c ∷ more = sym (f.skipped.joined ∙ ap (λ y. y ++ f.left) none) ∙ j in
          let tails = same_field f.part name f.more (c ∷ more) (sym f.field.joined ∙ left) f.field.plain p f.field.edge s in
          f.is ∙ ap (drop 1) tails
      cases (inr d) =
          let q = begins_so name f.skipped.skipped f.left more d.before c d.last (sym f.skipped.joined ∙ j) p d.joined d.is in
          let items : components_in r f.skipped.skipped ≡ item ∷ components_in r q.0 =
          ap (components_in r) q.1 ∙ ap (filter_map (named r)) (first_part name q.0 c p s) ∙ ap (λ o. cons_option o (components_in r q.0)) n in
          let never : item ∷ components_in r q.0 ≡ [] = sym items ∙ f.skipped.nothing in cc

-- two names with a separator between them
pub two_names : (w : Style) (path first second : List ℕ) → IsDivided w (rules_of_path w path) AtStart [] (Normal first ∷ Normal second ∷ []) path
    → (separator : ℕ) × ((gap : List ℕ) × ((after : List ℕ) × ((path ≡ first ++ separator ∷ (gap ++ (second ++ after))) × (separates (rules_of_path w path) separator ≡ true))))
two_names w path first second d =
    let e = d.then in
    let g = e.stands in (
      g.separator,
      (
        g.more,
        (
          e.rest,
          (
            d.joined ∙ ap (λ x. x ++ (first ++ d.rest)) d.stands ∙ ap (λ x. first ++ x) (e.joined ∙ ap (λ x. x ++ (second ++ e.rest)) g.joined),
            g.is,
          ),
        ),
      ),
    )
