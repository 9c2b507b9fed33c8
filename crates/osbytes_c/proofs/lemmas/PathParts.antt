-- The components of what begins at an index, part by part.
use Rattle.std.proofs.Common.{◌≡◌, ℕ, Bool, true, false, nat_eq, if◌then◌else◌, ◌+◌, ◌≤◌, List, [], ◌∷◌, ◌++◌, Option, Some, None, length, refl, sym, ap, ◌∙◌, append-nil, append_assoc, length-append, subst, arith}
use Rattle.std.specs.List.{AllByRecursion, cons_option}
use Rattle.std.proofs.lemmas.List.{take_all}
use Rattle.std.proofs.lemmas.List.Splits.{slice_split_at, slice_split_none}
use Rattle.path_rules.specs.declared.rules.Rules.{Rules}
use Rattle.path_rules.specs.Separators.{separates, EdgeBy, IsField}
use Rattle.osbytes_c.specs.declared.paths.part_list.Part.{Part}
use Rattle.std.specs.Option.{option_map}
use Rattle.path_rules.specs.Component.{Item, named}
use Rattle.osbytes_c.specs.PathParts.{kind_number, IsNoName, part_of, prefix_parts, start_parts, part_named, parts_of, parts_in}
use Rattle.osbytes_c.specs.PartBuffers.{PartsTruncated, PushesPart}
use Rattle.path_rules.specs.declared.rules.Style.{Style}
use Rattle.path_rules.specs.declared.head.Head.{Head}
use Rattle.path_rules.specs.declared.head.Start.{Start}
use Rattle.path_rules.specs.declared.head.Start.TheVariants.{Root, Dot, Nothing}
use Rattle.path_rules.specs.HeadParts.{IsHead}
use Rattle.path_rules.proofs.lemmas.Strips.{body_at}

cons_append : {X : Type 0} (o : Option X) (xs : List X) → cons_option o xs ≡ cons_option o [] ++ xs
cons_append None xs = refl
cons_append (Some x) xs = refl

module _ (r : Rules) (at : ℕ) where
  -- the last part
  pub last_part : (s part rest : List ℕ) → rest ≡ [] → IsField r s part rest → parts_in r at s ≡ cons_option (part_named r at part) []
  last_part s part rest e f =
      let whole : s ≡ part = f.joined ∙ ap (λ x. part ++ x) e ∙ append-nil part in
      ap (λ x. parts_in r at x) whole ∙ ap (parts_of r at) (slice_split_none (separates r) part f.plain)

  -- a part before a separator
  pub first_part : (s part rest more : List ℕ) (b : ℕ) → rest ≡ b ∷ more → IsField r s part rest
      → parts_in r at s ≡ cons_option (part_named r at part) [] ++ parts_in r (at + (length part + 1)) more
  first_part s part rest more b e f =
      let whole : s ≡ part ++ b ∷ more = f.joined ∙ ap (λ x. part ++ x) e in
      ap (λ x. parts_in r at x) whole
      ∙ ap (parts_of r at) (slice_split_at (separates r) part b more f.plain (subst (EdgeBy (separates r)) e f.edge))
      ∙ cons_append (part_named r at part) (parts_in r (at + (length part + 1)) more)

-- what two calls append, one after the other
pub pushes_both : (a m o b n : List Part) (c d e : ℕ) → PushesPart a o c b d → PushesPart m b d n e → PushesPart (a ++ m) o c n e
pushes_both a m o b n c d e p q = λ parts buffer t.
    subst (λ x. PartsTruncated x buffer n e) (append_assoc parts a m) (q (parts ++ a) buffer (p parts buffer t))

pub none_written : (old : List Part) → PartsTruncated [] old old 0
none_written old = record { same_length = refl; count_is = refl; prefix = take_all (length old) [] (omega arith); after = refl }

-- the body is in the path
pub body_within : (w : Style) (path : List ℕ) (head : Head) → IsHead w path head → length head.body.now ≤ length path
body_within w path head h =
    let t = body_at w path head h in omega (arith, ap length t.joined, length-append t.before head.body.now)

-- the last component of a list of which none is a name
last_of : (before xs : List Part) (p : Part) → xs ≡ before ++ p ∷ [] → AllByRecursion IsNoName xs → IsNoName p
last_of [] xs p e h = (subst (AllByRecursion IsNoName) e h).0
last_of (b ∷ before) xs p e h = last_of before (before ++ p ∷ []) p refl ((subst (AllByRecursion IsNoName) e h).1)

no_names : (xs ys : List Part) → AllByRecursion IsNoName xs → AllByRecursion IsNoName ys → AllByRecursion IsNoName (xs ++ ys)
no_names [] ys h k = k
no_names (x ∷ xs) ys h k = (h.0, no_names xs ys h.1 k)

prefix_no_name : (b : Bool) (n : ℕ) → AllByRecursion IsNoName (if b then [] else part_of 1 0 n ∷ [])
prefix_no_name true n = tt
prefix_no_name false n = ((λ e. let never : 1 ≡ 5 = e in omega (arith, never)), tt)

start_no_name : (s : Start) (i j : ℕ) → AllByRecursion IsNoName (start_parts s i j)
start_no_name Root i j = ((λ e. let never : 2 ≡ 5 = e in omega (arith, never)), tt)
start_no_name Dot i j = ((λ e. let never : 3 ≡ 5 = e in omega (arith, never)), tt)
start_no_name Nothing i j = tt

-- before the body there is no name
pub none_in_head : (s : Start) (n i j : ℕ) (before : List Part) (p : Part) → (prefix_parts n ++ start_parts s i j) ++ [] ≡ before ++ p ∷ [] → IsNoName p
none_in_head s n i j before p e =
    last_of before (prefix_parts n ++ start_parts s i j) p (sym (append-nil (prefix_parts n ++ start_parts s i j)) ∙ e)
    (no_names (prefix_parts n) (start_parts s i j) (prefix_no_name (nat_eq n 0) n) (start_no_name s i j))

-- what bytes name that are a component
pub named_last : (r : Rules) (at : ℕ) (s : List ℕ) (x : Item) (k : ℕ) → Some x ≡ named r s → k ≡ kind_number x
    → cons_option (part_named r at s) [] ≡ part_of k at (at + length s) ∷ []
named_last r at s x k e f =
    sym (ap (λ o. cons_option (option_map (λ y. part_of (kind_number y) at (at + length s)) o) []) e)
    ∙ ap (λ j. part_of j at (at + length s) ∷ []) (sym f)
