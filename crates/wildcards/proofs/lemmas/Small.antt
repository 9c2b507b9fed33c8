-- What pieces match, their small forms match by small letters.
use Rattle.std.proofs.Common.{◌≡◌, ◌<◌, ◌≤◌, Bool, true, false, cond, nat_eq, nat_lt, ◌||◌, ℕ, List, [], ◌∷◌, ◌++◌, map, refl, sym, ap, ◌∙◌, subst, arith, append_assoc, append-nil, eq-eqb}
use Rattle.std.specs.Char.{to_ascii_lowercase}
use Rattle.std.specs.List.{AllByRecursion, slice_split, onto_first}
use Rattle.std.specs.Prelude.{Result, Ok, Err, IfOk}
use Rattle.std.proofs.lemmas.Bool.{eqb-true}
use Rattle.std.proofs.lemmas.Bool.Decides.{nat_tests}
use Rattle.std.proofs.lemmas.List.{map-append}
use Rattle.std.proofs.lemmas.Str.Ascii.{lowercase_is}
use Rattle.wildcards.specs.declared.options.Options.{Options}
use Rattle.wildcards.specs.declared.range.Range.{Range}
use Rattle.wildcards.specs.Ranges.{is_in, lies_in}
use Rattle.wildcards.specs.declared.separators.Separators.{Separators}
use Rattle.wildcards.specs.declared.separators.Separators.TheVariants as separators
use Rattle.wildcards.specs.declared.key.Kind.{Kind}
use Rattle.wildcards.specs.declared.part.Part.{Part}
use Rattle.wildcards.specs.declared.piece.Item.{Item}
use Rattle.wildcards.specs.declared.piece.Item.TheVariants.{Any, Literal, EitherCase, OneOf}
use Rattle.wildcards.specs.declared.piece.Piece.{Piece}
use Rattle.wildcards.specs.declared.piece.Piece.TheVariants.{Many, One}
use Rattle.wildcards.specs.Components.{components, separates, is_hidden}
use Rattle.wildcards.specs.Keys.{IsNeeded}
use Rattle.wildcards.specs.Match.{Fits, TakesLetter, TakesComponent, FitsPieces, FitsComponent, begins_with_dot, Matches}
use Rattle.wildcards.specs.Small.{AreAscii, IsPaired, ArePaired, IsSmallItem, IsSmallPart, IsNeededBy, HasOneSmall}
use Rattle.wildcards.specs.Wild.{Wild}

-- pieces are paired one by one
module _ {X Y : Type 0} (Is : X → Y → Type 0) where
  abbrev pub PairedSoFar : List (Piece X) → List (Piece Y) → List (Piece X) → Type 0
  PairedSoFar all made left = (rest : List (Piece Y)) → ArePaired Is left rest → ArePaired Is all (made ++ rest)

  pub none_paired : (all left : List (Piece X)) (made : List (Piece Y)) → left ≡ all → made ≡ [] → PairedSoFar all made left
  none_paired all left made e f rest h = subst (λ z. ArePaired Is all (z ++ rest)) (sym f) (subst (λ z. ArePaired Is z rest) e h)

  pub one_paired : (all left more : List (Piece X)) (made next : List (Piece Y)) (p : Piece X) (q : Piece Y) → left ≡ p ∷ more → next ≡ made ++ q ∷ [] → IsPaired Is p q → PairedSoFar all made left → PairedSoFar all next more
  one_paired all left more made next p q e f is so_far rest h =
      subst (ArePaired Is all) (sym (ap (λ z. z ++ rest) f ∙ append_assoc made (q ∷ []) rest)) (so_far (q ∷ rest) (subst (λ z. ArePaired Is z (q ∷ rest)) (sym e) (is, h)))

  pub all_paired : (all left : List (Piece X)) (made : List (Piece Y)) → left ≡ [] → PairedSoFar all made left → ArePaired Is all made
  all_paired all left made e so_far = subst (ArePaired Is all) (append-nil made) (so_far [] (subst (λ z. ArePaired Is z []) (sym e) tt))

both_parts : {A : Type 0} (P : A → Type 0) (xs ys : List A) → AllByRecursion P (xs ++ ys) → AllByRecursion P xs × AllByRecursion P ys
both_parts P [] ys h = (tt, h)
both_parts P (x ∷ xs) ys h = let both = both_parts P xs ys h.1 in ((h.0, both.0), both.1)

-- what is matched by pieces is matched, mapped, by those that they are paired with
module _ {X Y A B : Type 0} (Takes : A → Type 0) (FitsOne : X → A → Type 0) (AlsoTakes : B → Type 0) (AlsoFits : Y → B → Type 0) (f : A → B) (Good : A → Type 0) (Is : X → Y → Type 0)
    (takes : (a : A) → Good a → Takes a → AlsoTakes (f a)) (fits : (x : X) (y : Y) (a : A) → Is x y → Good a → FitsOne x a → AlsoFits y (f a)) where
  all_taken : (letters : List A) → AllByRecursion Good letters → AllByRecursion Takes letters → AllByRecursion AlsoTakes (map f letters)
  all_taken [] good h = tt
  all_taken (a ∷ letters) good h = (takes a good.0 h.0, all_taken letters good.1 h.1)

  carried : (ps : List (Piece X)) (qs : List (Piece Y)) (letters : List A) → ArePaired Is ps qs → AllByRecursion Good letters → Wild Takes FitsOne ps letters → Wild AlsoTakes AlsoFits qs (map f letters)
  carried [] [] letters h good m = ap (map f) m
  carried [] (q ∷ qs) letters h good m = absurd h
  carried (p ∷ ps) [] letters h good m = absurd h
  carried (Many ∷ ps) (Many ∷ qs) letters h good m =
      let both = both_parts Good m.skipped m.rest (subst (AllByRecursion Good) m.joined good) in
      record { skipped = map f m.skipped; rest = map f m.rest; joined = ap (map f) m.joined ∙ map-append f m.skipped m.rest; taken = all_taken m.skipped both.0 m.taken; after = carried ps qs m.rest h.1 both.1 m.after }
  carried (Many ∷ ps) (One y ∷ qs) letters h good m = absurd h.0
  carried (One x ∷ ps) (Many ∷ qs) letters h good m = absurd h.0
  carried (One x ∷ ps) (One y ∷ qs) letters h good m =
      let both = subst (AllByRecursion Good) m.joined good in
      record { letter = f m.letter; rest = map f m.rest; joined = ap (map f) m.joined; fits = fits x y m.letter h.0 both.0 m.fits; after = carried ps qs m.rest h.1 both.1 m.after }

-- one more range, which is one letter
pub one_range : (ranges left rest : List Range) (r : Range) (small : ℕ) → left ≡ r ∷ rest → r.first ≡ r.last → to_ascii_lowercase r.first ≡ small → (HasOneSmall left small → HasOneSmall ranges small) → HasOneSmall rest small → HasOneSmall ranges small
one_range ranges left rest r small e one own so_far h = so_far (subst (λ z. HasOneSmall z small) (sym e) here)
  where
    here : HasOneSmall (r ∷ rest) small
    here letter low is = by_first (lies_in r letter) refl (is_in rest letter) refl
      where
        by_first : (v : Bool) → lies_in r letter ≡ v → (w : Bool) → is_in rest letter ≡ w → to_ascii_lowercase letter ≡ small
        by_first v f true g = h letter low g
        by_first true f false g =
            let both : (r.first ≤ letter) × (letter ≤ r.last) = grind (arith, nat_tests) in
            let same : letter ≡ r.first = omega (arith, both.0, both.1, one) in
            ap to_ascii_lowercase same ∙ own
        by_first false f false g = let never : false ≡ true = sym g ∙ ap (λ z. z || is_in rest letter) (sym f) ∙ is in cc

-- neither a dot nor a separator has a case
module _ (c : ℕ) (low : c < 0x61) (outer : 0x41 ≤ c → 0x5A < c) where
  same_letter : (x : ℕ) → to_ascii_lowercase x ≡ c → x ≡ c
  same_letter x e = by_first (nat_lt x 0x41) refl
    where
      by_last : (v : Bool) → nat_lt 0x5A x ≡ v → 0x41 ≤ x → x ≡ c
      by_last true f m = let k : 0x5A < x = grind (arith, nat_tests) in let g = (lowercase_is x).2 k in omega arith
      by_last false f m = let k : x ≤ 0x5A = grind (arith, nat_tests) in let g = (lowercase_is x).0 (m, k) in absurd (omega arith)

      by_first : (v : Bool) → nat_lt x 0x41 ≡ v → x ≡ c
      by_first true f = let k : x < 0x41 = grind (arith, nat_tests) in let g = (lowercase_is x).1 k in omega arith
      by_first false f = let m : 0x41 ≤ x = grind (arith, nat_tests) in by_last (nat_lt 0x5A x) refl m

  letter_same : (x : ℕ) → x ≡ c → to_ascii_lowercase x ≡ c
  letter_same x e = by_first (nat_lt c 0x41) refl
    where
      by_first : (v : Bool) → nat_lt c 0x41 ≡ v → to_ascii_lowercase x ≡ c
      by_first true f = let k : x < 0x41 = grind (arith, nat_tests) in (lowercase_is x).1 k ∙ e
      by_first false f = let m : 0x41 ≤ c = grind (arith, nat_tests) in let o = outer m in let k : 0x5A < x = omega arith in (lowercase_is x).2 k ∙ e

  same_test : (x : ℕ) → nat_eq (to_ascii_lowercase x) c ≡ nat_eq x c
  same_test x = go (nat_eq x c) refl (nat_eq (to_ascii_lowercase x) c) refl
    where
      go : (v : Bool) → nat_eq x c ≡ v → (w : Bool) → nat_eq (to_ascii_lowercase x) c ≡ w → nat_eq (to_ascii_lowercase x) c ≡ nat_eq x c
      go true e true f = f ∙ sym e
      go false e false f = f ∙ sym e
      go true e false f = let never : false ≡ true = sym f ∙ eq-eqb (to_ascii_lowercase x) c (letter_same x (eqb-true x c e)) in cc
      go false e true f = let never : false ≡ true = sym e ∙ eq-eqb x c (same_letter x (eqb-true (to_ascii_lowercase x) c f)) in cc

dot_test : (x : ℕ) → nat_eq (to_ascii_lowercase x) 0x2E ≡ nat_eq x 0x2E
dot_test = same_test 0x2E (omega arith) (λ l. absurd (omega (arith, l)))

pub dot_only : (x : ℕ) → to_ascii_lowercase x ≡ 0x2E → x ≡ 0x2E
dot_only = same_letter 0x2E (omega arith) (λ l. absurd (omega (arith, l)))

separates_test : (s : Separators) (x : ℕ) → separates s (to_ascii_lowercase x) ≡ separates s x
separates_test separators.None x = refl
separates_test separators.Slash x = same_test 0x2F (omega arith) (λ l. absurd (omega (arith, l))) x
separates_test separators.SlashAndBackslash x =
    ap (λ v. v || nat_eq (to_ascii_lowercase x) 0x5C) (same_test 0x2F (omega arith) (λ l. absurd (omega (arith, l))) x)
    ∙ ap (λ v. nat_eq x 0x2F || v) (same_test 0x5C (omega arith) (λ l. omega arith) x)

-- components of small letters
onto_map : (f : ℕ → ℕ) (x : ℕ) (ps : List (List ℕ)) → onto_first (f x) (map (map f) ps) ≡ map (map f) (onto_first x ps)
onto_map f x [] = refl
onto_map f x (p ∷ ps) = refl

split_map : (test : ℕ → Bool) (f : ℕ → ℕ) → ((x : ℕ) → test (f x) ≡ test x) → (xs : List ℕ) → slice_split test (map f xs) ≡ map (map f) (slice_split test xs)
split_map test f same [] = refl
split_map test f same (x ∷ xs) = by_first (split_map test f same xs) (test x) (same x)
  where
    by_first : slice_split test (map f xs) ≡ map (map f) (slice_split test xs) → (v : Bool) → test (f x) ≡ v → cond (test (f x)) ([] ∷ slice_split test (map f xs)) (onto_first (f x) (slice_split test (map f xs))) ≡ map (map f) (cond v ([] ∷ slice_split test xs) (onto_first x (slice_split test xs)))
    by_first rest true e = ap (λ v. cond v ([] ∷ slice_split test (map f xs)) (onto_first (f x) (slice_split test (map f xs)))) e ∙ ap (λ z. [] ∷ z) rest
    by_first rest false e = ap (λ v. cond v ([] ∷ slice_split test (map f xs)) (onto_first (f x) (slice_split test (map f xs)))) e ∙ ap (onto_first (f x)) rest ∙ onto_map f x (slice_split test xs)

pub small_components : (s : Separators) (path : List ℕ) → components s (map to_ascii_lowercase path) ≡ map (map to_ascii_lowercase) (components s path)
small_components s path = split_map (separates s) to_ascii_lowercase (separates_test s) path

onto_all : (P : ℕ → Type 0) (x : ℕ) (ps : List (List ℕ)) → P x → AllByRecursion (AllByRecursion P) ps → AllByRecursion (AllByRecursion P) (onto_first x ps)
onto_all P x [] p h = ((p, tt), tt)
onto_all P x (q ∷ ps) p h = ((p, h.0), h.1)

split_all : (P : ℕ → Type 0) (test : ℕ → Bool) (xs : List ℕ) → AllByRecursion P xs → AllByRecursion (AllByRecursion P) (slice_split test xs)
split_all P test [] h = (tt, tt)
split_all P test (x ∷ xs) h = by_first (test x) (split_all P test xs h.1)
  where
    by_first : (v : Bool) → AllByRecursion (AllByRecursion P) (slice_split test xs) → AllByRecursion (AllByRecursion P) (cond v ([] ∷ slice_split test xs) (onto_first x (slice_split test xs)))
    by_first true rest = (tt, rest)
    by_first false rest = onto_all P x (slice_split test xs) h.0 rest

small_hidden : (dot : Bool) (component : List ℕ) → is_hidden dot (map to_ascii_lowercase component) ≡ is_hidden dot component
small_hidden false component = refl
small_hidden true [] = refl
small_hidden true (x ∷ component) = dot_test x

module _ {A : Type 0} where
  dot_kept : (ps qs : List (Piece (Item A))) → ArePaired IsSmallItem ps qs → begins_with_dot ps ≡ true → begins_with_dot qs ≡ true
  dot_kept [] qs h e = let never : false ≡ true = e in absurd cc
  dot_kept (Many ∷ ps) qs h e = let never : false ≡ true = e in absurd cc
  dot_kept (One x ∷ ps) [] h e = absurd h
  dot_kept (One x ∷ ps) (Many ∷ qs) h e = absurd h.0
  dot_kept (One Any ∷ ps) (One y ∷ qs) h e = let never : false ≡ true = e in absurd cc
  dot_kept (One (EitherCase small) ∷ ps) (One y ∷ qs) h e = let never : false ≡ true = e in absurd cc
  dot_kept (One (OneOf class) ∷ ps) (One y ∷ qs) h e = let never : false ≡ true = e in absurd cc
  dot_kept (One (Literal own) ∷ ps) (One y ∷ qs) h e =
      let same : y ≡ Literal 0x2E = h.0.dot (ap Literal (eqb-true own 0x2E e)) in
      ap (λ z. begins_with_dot (One z ∷ qs)) same

  small_fits : (dot : Bool) (part small : Part A) (component : List ℕ) → IsSmallPart part small → AreAscii component → FitsComponent dot part component → FitsComponent dot small (map to_ascii_lowercase component)
  small_fits dot part small component h ascii m = (
    carried TakesLetter Fits TakesLetter Fits to_ascii_lowercase (λ b. b < 0x80) IsSmallItem (λ a g t. tt) (λ x y a is g f. is.fits a g f) part.pieces.items small.pieces.items component h ascii m.0,
    λ e. dot_kept part.pieces.items small.pieces.items h (m.1 (sym (small_hidden dot component) ∙ e)),
  )

  -- a path of ASCII that pieces match
  small_matches : (o : Options) (pieces small : List (Piece (Part A))) (path : List ℕ) → ArePaired IsSmallPart pieces small → AreAscii path → Matches o pieces path → Matches o small (map to_ascii_lowercase path)
  small_matches o pieces small path h ascii m =
      let dot = o.literal_leading_dot in
      subst (Wild (TakesComponent dot) (FitsComponent dot) small) (sym (small_components o.separators path))
      (carried (TakesComponent dot) (FitsComponent dot) (TakesComponent dot) (FitsComponent dot) (map to_ascii_lowercase) AreAscii IsSmallPart (λ c g t. small_hidden dot c ∙ t) (λ x y c is g f. small_fits dot x y c is g f)
      pieces small (components o.separators path) h (split_all (λ b. b < 0x80) (separates o.separators) path ascii) m)

  -- the keys of the small form
  pub needed_small : (o : Options) (pieces small : List (Piece (Part A))) (k : Kind) (size : ℕ) (key : List ℕ) → ArePaired IsSmallPart pieces small → IsNeeded o small k size key → IsNeededBy true o pieces k size key
  needed_small o pieces small k size key h n = record { ascii = n.ascii; needed = λ path ascii m. n.needed (map to_ascii_lowercase path) (small_matches o pieces small path h ascii m) }

  pub needed_exact : (o : Options) (pieces : List (Piece (Part A))) (k : Kind) (size : ℕ) (key : List ℕ) → IsNeeded o pieces k size key → IsNeededBy false o pieces k size key
  needed_exact o pieces k size key n = record { ascii = n.ascii; needed = λ path looked m. n.needed path m }

pub ok_weaker : {T E : Type 0} (P Q : T → Type 0) (made : Result T E) → ((x : T) → P x → Q x) → IfOk made P → IfOk made Q
ok_weaker P Q (Ok x) f h = f x h
ok_weaker P Q (Err e) f h = tt
