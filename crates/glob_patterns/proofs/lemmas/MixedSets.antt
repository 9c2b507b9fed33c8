-- Patterns that each have their own options, read and matched one set after the other.
use Rattle.std.proofs.Common.{◌≡◌, ◌⊎◌, ◌↔◌, inl, inr, ⊎_elim, ◌<◌, ◌≤◌, ◌+◌, ℕ, zero, suc, Bool, true, false, List, [], ◌∷◌, ◌++◌, drop, map, length, eqb, refl, sym, ap, ◌∙◌, subst, arith, append_assoc, IsTrue}
use Rattle.std.specs.Prelude.{Result, Ok, Err, IfOk, MatchResult, slice_index_or}
use Rattle.std.specs.List.{AllByRecursion, Contains, dedup}
use Rattle.std.specs.List.Sorted.{IsPermutation, IsSorted}
use Rattle.std.specs.Ordering.{nat_cmp}
use Rattle.std.proofs.lemmas.List.Elements.{Contains-append_cases, Contains-append_left, Contains-append_right}
use Rattle.std.proofs.lemmas.List.Kept.{Contains-dedup_nat, Contains-from_dedup}
use Rattle.std.proofs.lemmas.List.Sorted.{Contains-permutation, IsPermutation-sym}
use Rattle.std.proofs.lemmas.Map.Keys.{IsStrictlyIncreasing-dedup}
use Rattle.wildcards.specs.declared.options.Options.{Options}
use Rattle.wildcards.specs.declared.pattern_set.PatternSet.{PatternSet}
use Rattle.wildcards.specs.declared.set.Pattern.{Pattern}
use Rattle.wildcards.specs.Reading.{LetterLaws}
use Rattle.wildcards.specs.Sets.{Has, IsHit, AreHits, MatchesChoice}
use Rattle.wildcards.proofs.lemmas.Found.{has_more, has_pushed}
use Rattle.glob_text.specs.declared.fault.PatternFault.{PatternFault}
use Rattle.glob_text.specs.Texts.{AreWrittenOut, IsMeaning, IsFault}
use Rattle.glob_text.proofs.lemmas.OneMeaning.{one_meaning}
use Rattle.glob_patterns.specs.Options.{options_of, syntax_of}
use Rattle.glob_patterns.specs.MixedSets.{AreMatchesOfGlobs, AreSetsOf, AreSetHits, ArePatternsAt, FoundInSets, Glob, HasMeaning, IsAt, IsFaultAt, IsFirstFaultAt, IsMatchOfGlobs, IsPatternAt, IsSetHit, MatchesText, way_of}

not_nil : {X : Type 0} {x : X} {xs : List X} → [] ≡ x ∷ xs → ⊥
not_nil e = cc

-- the patterns up to a place
module _ (Is : Glob → Type 0) where
  pub at_place : (gs : List Glob) (i : ℕ) (g : Glob) (rest : List Glob) → drop i gs ≡ g ∷ rest → Is g → IsAt Is gs i
  at_place [] zero g rest e k = absurd (not_nil e)
  at_place [] (suc i) g rest e k = absurd (not_nil e)
  at_place (h ∷ gs) zero g rest e k = subst Is (sym (head e)) k
    where
      head : h ∷ gs ≡ g ∷ rest → h ≡ g
      head e = cc
  at_place (h ∷ gs) (suc i) g rest e k = at_place gs i g rest e k

  pub past : (gs : List Glob) (n m : ℕ) → drop n gs ≡ [] → n ≤ m → IsAt Is gs m → ⊥
  past [] n m e l k = k
  past (g ∷ gs) zero m e l k = not_nil (sym e)
  past (g ∷ gs) (suc n) zero e l k = omega (arith, l)
  past (g ∷ gs) (suc n) (suc m) e l k = past gs n m e (omega (arith, l)) k

  abbrev pub AreBelow : List Glob → ℕ → Type 0
  AreBelow gs zero = Unit {0}
  AreBelow [] (suc n) = ⊥
  AreBelow (g ∷ gs) (suc n) = Is g × AreBelow gs n

  next_below : (gs : List Glob) (n : ℕ) (g : Glob) (rest : List Glob) → drop n gs ≡ g ∷ rest → AreBelow gs n → Is g → AreBelow gs (suc n)
  next_below [] zero g rest e h k = absurd (not_nil e)
  next_below [] (suc n) g rest e h k = absurd h
  next_below (f ∷ gs) zero g rest e h k = (at_place (f ∷ gs) zero g rest e k, tt)
  next_below (f ∷ gs) (suc n) g rest e h k = (h.0, next_below gs n g rest e h.1 k)

  pub one_below : (gs : List Glob) (n : ℕ) (g : Glob) (rest : List Glob) → drop n gs ≡ g ∷ rest → AreBelow gs n → Is g → AreBelow gs (n + 1)
  one_below gs n g rest e h k = let more : suc n ≡ n + 1 = omega arith in subst (AreBelow gs) more (next_below gs n g rest e h k)

  pub all_below : (gs : List Glob) (n : ℕ) → drop n gs ≡ [] → AreBelow gs n → AllByRecursion Is gs
  all_below [] n e h = tt
  all_below (g ∷ gs) zero e h = absurd (not_nil (sym e))
  all_below (g ∷ gs) (suc n) e h = (h.0, all_below gs n e h.1)

  all_at : (Q : Glob → Type 0) (gs : List Glob) (i : ℕ) → AllByRecursion Is gs → IsAt Q gs i → IsAt Is gs i
  all_at Q [] i h k = k
  all_at Q (g ∷ gs) zero h k = h.0
  all_at Q (g ∷ gs) (suc i) h k = all_at Q gs i h.1 k

pub below_too : (Is Are : Glob → Type 0) → ((g : Glob) → Is g → Are g) → (gs : List Glob) (n : ℕ) → AreBelow Is gs n → AreBelow Are gs n
below_too Is Are f gs zero h = tt
below_too Is Are f [] (suc n) h = absurd h
below_too Is Are f (g ∷ gs) (suc n) h = (f g h.0, below_too Is Are f gs n h.1)

none_at : (gs : List Glob) (i : ℕ) → IsAt (λ g. ⊥) gs i → ⊥
none_at [] i h = h
none_at (g ∷ gs) zero h = h
none_at (g ∷ gs) (suc i) h = none_at gs i h

either_at : (P Q : Glob → Type 0) (gs : List Glob) (i : ℕ) → IsAt (λ g. P g ⊎ Q g) gs i → IsAt P gs i ⊎ IsAt Q gs i
either_at P Q [] i h = absurd h
either_at P Q (g ∷ gs) zero h = h
either_at P Q (g ∷ gs) (suc i) h = either_at P Q gs i h

module _ {X : Type 0} where
  has_contains : (xs : List X) (i : X) → Has xs i → Contains xs i
  has_contains [] i h = absurd h
  has_contains (x ∷ xs) i (inl e) = (0, omega arith, sym e)
  has_contains (x ∷ xs) i (inr h) = let c = has_contains xs i h in let l = c.1 in (suc c.0, omega (arith, l), c.2)

  at_has : (xs : List X) (i : X) (k : ℕ) → k < length xs → slice_index_or xs k i ≡ i → Has xs i
  at_has [] i k l e = absurd (omega (arith, l))
  at_has (x ∷ xs) i zero l e = inl (sym e)
  at_has (x ∷ xs) i (suc k) l e = inr (at_has xs i k (omega (arith, l)) e)

  none_left : (xs : List X) → length xs ≡ 0 → xs ≡ []
  none_left [] e = refl
  none_left (x ∷ xs) e = absurd (omega (arith, e))

  nothing : (i : X) → Contains [] i → ⊥
  nothing i c = at_has [] i c.0 c.1 c.2

-- what sets find, one after the other
module _ {A : Type 0} (all : List (PatternSet A)) (path : List ℕ) where
  abbrev pub AreFoundSoFar : List (PatternSet A) → List ℕ → Type 0
  AreFoundSoFar left found = (i : ℕ) → IsSetHit all path i ↔ (Contains found i ⊎ IsSetHit left path i)

  pub none_found : (found : List ℕ) → found ≡ [] → AreFoundSoFar all found
  none_found found e i = (λ h. inr h, λ h. ⊎_elim (λ c. absurd (nothing i (subst (λ z. Contains z i) e c))) (λ k. k) h)

  pub set_found : (set : PatternSet A) (rest left : List (PatternSet A)) (found part new : List ℕ) → left ≡ set ∷ rest → AreFoundSoFar left found → AreHits set.options set.patterns.items path part → new ≡ found ++ part → AreFoundSoFar rest new
  set_found set rest left found part new e h hits n i =
      let before = subst (λ z. AreFoundSoFar z found) e h i in
      subst (λ z. IsSetHit all path i ↔ (Contains z i ⊎ IsSetHit rest path i)) (sym n) (
        λ hit. ⊎_elim (λ c. inl (Contains-append_left found part i c)) (λ k. ⊎_elim (λ own. inl (Contains-append_right found part i (has_contains part i (hits.complete i own)))) (λ more. inr more) k) (before.0 hit),
        λ k. before.1 (⊎_elim (λ c. ⊎_elim (λ a. inl a) (λ b. inr (inl (hits.sound i (at_has part i b.0 b.1 b.2)))) (Contains-append_cases found part i c)) (λ more. inr (inr more)) k),
      )

  pub all_found : (left : List (PatternSet A)) (found : List ℕ) → length left ≡ 0 → AreFoundSoFar left found → FoundInSets all path found
  all_found left found e h = record {
    sound = λ i c. (h i).1 (inl c);
    complete = λ i hit. ⊎_elim (λ c. c) (λ k. absurd (subst (λ z. IsSetHit z path i) (none_left left e) k)) ((h i).0 hit);
  }

  -- the sets that are left are those that may match
  abbrev pub AreLeft : List (PatternSet A) → Type 0
  AreLeft left = (i : ℕ) → IsSetHit all path i ↔ IsSetHit left path i

  pub set_passed : (set : PatternSet A) (rest left : List (PatternSet A)) (result : Bool) → left ≡ set ∷ rest → AreLeft left → IsTrue result ↔ ((i : ℕ) × IsHit set.options set.patterns.items path i) → result ≡ false → AreLeft rest
  set_passed set rest left result e h says fails i =
      let before = subst AreLeft e h i in
      let never : false ≡ true → ⊥ = λ f. cc in (
        λ hit. ⊎_elim (λ own. absurd (never (sym fails ∙ says.1 (i, own)))) (λ more. more) (before.0 hit),
        λ more. before.1 (inr more),
      )

  pub set_matched : (set : PatternSet A) (rest left : List (PatternSet A)) → left ≡ set ∷ rest → AreLeft left → ((i : ℕ) × IsHit set.options set.patterns.items path i) → (i : ℕ) × IsSetHit all path i
  set_matched set rest left e h hit = (hit.0, (h hit.0).1 (subst (λ z. IsSetHit z path hit.0) (sym e) (inl hit.1)))

  pub none_matched : (left : List (PatternSet A)) → length left ≡ 0 → AreLeft left → ((i : ℕ) × IsSetHit all path i) → ⊥
  none_matched left e h hit = subst (λ z. IsSetHit z path hit.0) (none_left left e) ((h hit.0).0 hit.1)

-- what is found, sorted, and each kept once
pub in_order : {A : Type 0} (sets : List (PatternSet A)) (path found sorted : List ℕ) → IsPermutation found sorted → IsSorted nat_cmp sorted → FoundInSets sets path found → AreSetHits sets path (dedup eqb sorted)
in_order sets path found sorted p s f = record {
  sound = λ i c. f.sound i (Contains-permutation sorted found i (IsPermutation-sym found sorted p) (Contains-from_dedup eqb sorted i c));
  complete = λ i hit. Contains-dedup_nat sorted i (Contains-permutation found sorted i p (f.complete i hit));
  ascends = IsStrictlyIncreasing-dedup sorted s;
}

module _ (formed : List ℕ → Type 0) (letters : List ℕ → List ℕ) where
  module _ {A : Type 0} where
    -- where a text is compiled, its pattern is that of a set
    pub of_way : {E : Type 0} (way : Options) (g : Glob) (r : Result (Result (Pattern A) PatternFault) E) → options_of g.0 ≡ way
        → IfOk r (λ read. MatchResult read (λ p. IsMeaning formed letters (syntax_of g.0) g.1 p.choices.items) (λ fault. IsFault formed letters (syntax_of g.0) g.1 fault))
        → IfOk r (λ read. MatchResult read (λ p. IsPatternAt formed letters way g p) (λ fault. IsFault formed letters (syntax_of g.0) g.1 fault))
    of_way way g (Ok (Ok p)) e h = inl (e, h)
    of_way way g (Ok (Err fault)) e h = h
    of_way way g (Err error) e h = tt

    -- the patterns of one set that were read, and what is left
    pub record AreReadSoFar (way : Options) (globs left : List Glob) (patterns : List (Pattern A)) : Type 0 where
      pub before : List Glob
      pub joined : globs ≡ before ++ left
      pub are : ArePatternsAt formed letters way before patterns

    more : (way : Options) (gs : List Glob) (ps : List (Pattern A)) (g : Glob) (p : Pattern A) → ArePatternsAt formed letters way gs ps → IsPatternAt formed letters way g p → ArePatternsAt formed letters way (gs ++ g ∷ []) (ps ++ p ∷ [])
    more way [] [] g p h k = (k, tt)
    more way [] (q ∷ ps) g p h k = absurd h
    more way (f ∷ gs) [] g p h k = absurd h
    more way (f ∷ gs) (q ∷ ps) g p h k = (h.0, more way gs ps g p h.1 k)

    pub none_read : (way : Options) (globs : List Glob) → AreReadSoFar way globs globs []
    none_read way globs = record { before = []; joined = refl; are = tt }

    pub one_read : (way : Options) (globs : List Glob) (g : Glob) (left from : List Glob) (ps new : List (Pattern A)) (p : Pattern A) → from ≡ g ∷ left → AreReadSoFar way globs from ps → IsPatternAt formed letters way g p → new ≡ ps ++ p ∷ [] → AreReadSoFar way globs left new
    one_read way globs g left from ps new p e h k n = record {
      before = h.before ++ g ∷ [];
      joined = h.joined ∙ ap (λ z. h.before ++ z) e ∙ sym (append_assoc h.before (g ∷ []) left);
      are = subst (ArePatternsAt formed letters way (h.before ++ g ∷ [])) (sym n) (more way h.before ps g p h.are k);
    }

    pub all_read : (way : Options) (globs left : List Glob) (ps : List (Pattern A)) → left ≡ [] → AreReadSoFar way globs left ps → ArePatternsAt formed letters way globs ps
    all_read way globs left ps e h = subst (λ z. ArePatternsAt formed letters way z ps) (sym (h.joined ∙ ap (λ z. h.before ++ z) e ∙ none h.before)) h.are
      where
        none : (gs : List Glob) → gs ++ [] ≡ gs
        none [] = refl
        none (g ∷ gs) = ap (λ z. g ∷ z) (none gs)

    -- the sets of the patterns up to a place
    pub record AreSetsSoFar (globs : List Glob) (n : ℕ) (ways : List Options) (sets : List (PatternSet A)) : Type 0 where
      pub each : AllByRecursion (λ set. ArePatternsAt formed letters set.options globs set.patterns.items) sets
      pub ways_are : map way_of sets ≡ ways
      pub below : AreBelow (λ glob. Has ways (options_of glob.0)) globs n

    pub no_sets : (globs : List Glob) → AreSetsSoFar globs 0 [] []
    no_sets globs = record { each = tt; ways_are = refl; below = tt }

    pub set_there : (globs : List Glob) (n : ℕ) (ways : List Options) (sets : List (PatternSet A)) (g : Glob) (rest : List Glob) → drop n globs ≡ g ∷ rest → AreSetsSoFar globs n ways sets → Has ways (options_of g.0) → AreSetsSoFar globs (n + 1) ways sets
    set_there globs n ways sets g rest e h k = record {
      each = h.each;
      ways_are = h.ways_are;
      below = one_below (λ glob. Has ways (options_of glob.0)) globs n g rest e h.below k;
    }

    each_and : (globs : List Glob) (sets : List (PatternSet A)) (set : PatternSet A) → AllByRecursion (λ set. ArePatternsAt formed letters set.options globs set.patterns.items) sets → ArePatternsAt formed letters set.options globs set.patterns.items
        → AllByRecursion (λ set. ArePatternsAt formed letters set.options globs set.patterns.items) (sets ++ set ∷ [])
    each_and globs [] set h k = (k, tt)
    each_and globs (s ∷ sets) set h k = (h.0, each_and globs sets set h.1 k)

    ways_and : (sets : List (PatternSet A)) (set : PatternSet A) → map way_of (sets ++ set ∷ []) ≡ map way_of sets ++ set.options ∷ []
    ways_and [] set = refl
    ways_and (s ∷ sets) set = ap (λ z. s.options ∷ z) (ways_and sets set)

    pub set_made : (globs : List Glob) (n : ℕ) (ways new_ways : List Options) (sets new_sets : List (PatternSet A)) (g : Glob) (rest : List Glob) (set : PatternSet A) → drop n globs ≡ g ∷ rest → AreSetsSoFar globs n ways sets
        → set.options ≡ options_of g.0 → ArePatternsAt formed letters (options_of g.0) globs set.patterns.items → new_sets ≡ sets ++ set ∷ [] → new_ways ≡ ways ++ options_of g.0 ∷ [] → AreSetsSoFar globs (n + 1) new_ways new_sets
    set_made globs n ways new_ways sets new_sets g rest set e h o p s w =
        let way = options_of g.0 in
        subst (λ z. AreSetsSoFar globs (n + 1) new_ways z) (sym s)
        (subst (λ z. AreSetsSoFar globs (n + 1) z (sets ++ set ∷ [])) (sym w) (record {
          each = each_and globs sets set h.each (subst (λ z. ArePatternsAt formed letters z globs set.patterns.items) (sym o) p);
          ways_are = ways_and sets set ∙ ap (λ z. z ++ set.options ∷ []) h.ways_are ∙ ap (λ z. ways ++ z ∷ []) o;
          below =
              one_below (λ glob. Has (ways ++ way ∷ []) (options_of glob.0)) globs n g rest e
              (below_too (λ glob. Has ways (options_of glob.0)) (λ glob. Has (ways ++ way ∷ []) (options_of glob.0)) (λ glob k. has_more ways way (options_of glob.0) k) globs n h.below)
              (has_pushed ways way);
        }))

    pub all_made : (globs : List Glob) (n : ℕ) (ways : List Options) (sets : List (PatternSet A)) → drop n globs ≡ [] → AreSetsSoFar globs n ways sets → AreSetsOf formed letters globs sets
    all_made globs n ways sets e h = record {
      each = h.each;
      all = all_below (λ glob. Has (map way_of sets) (options_of glob.0)) globs n e (subst (λ z. AreBelow (λ glob. Has z (options_of glob.0)) globs n) (sym h.ways_are) h.below);
    }

  module _ (A : Type 0) where
    pub first_of : (gs : List Glob) (n : ℕ) (fault : PatternFault) → AreBelow (HasMeaning formed letters A) gs n → IsFaultAt formed letters gs n fault → IsFirstFaultAt formed letters A gs n fault
    first_of [] n fault h k = k
    first_of (g ∷ gs) zero fault h k = k
    first_of (g ∷ gs) (suc n) fault h k = (h.0, first_of gs n fault h.1 k)

  -- a pattern matches where its text does
  module _ {A : Type 0} (laws : LetterLaws formed letters) (path : List ℕ) where
    written : (g : Glob) (p : Pattern A) (m : IsMeaning formed letters (syntax_of g.0) g.1 p.choices.items) → AreWrittenOut formed letters (syntax_of g.0) g.1 m.are.are.written_out
    written g p m = record { symbols = m.symbols; read = m.read; marks = m.are.marks; marks_are = m.are.read; cased = m.are.cased; are_cased = m.are.are_cased; are = m.are.are.are }

    text_match : (way : Options) (g : Glob) (p : Pattern A) → options_of g.0 ≡ way → IsMeaning formed letters (syntax_of g.0) g.1 p.choices.items → MatchesChoice way p.choices.items path → MatchesText formed letters path g
    text_match way g p e m h =
        let are = m.are.are in
        (are.written_out, (written g p m, (are.matched (options_of g.0) refl path).0 (subst (λ z. MatchesChoice z p.choices.items path) (sym e) h)))

    match_text : (way : Options) (g : Glob) (p : Pattern A) → options_of g.0 ≡ way → IsMeaning formed letters (syntax_of g.0) g.1 p.choices.items → MatchesText formed letters path g → MatchesChoice way p.choices.items path
    match_text way g p e m h =
        let are = m.are.are in
        let same = one_meaning formed letters laws (syntax_of g.0) g.1 h.0 are.written_out h.1.0 (written g p m) (options_of g.0) path in
        subst (λ z. MatchesChoice z p.choices.items path) e ((are.matched (options_of g.0) refl path).1 (same.0 h.1.1))

    sound_in : (way : Options) (gs : List Glob) (ps : List (Pattern A)) → ArePatternsAt formed letters way gs ps → (i : ℕ) → IsHit way ps path i → IsAt (MatchesText formed letters path) gs i
    sound_in way [] [] are i h = let l = h.0 in omega (arith, l)
    sound_in way [] (p ∷ ps) are i h = absurd are
    sound_in way (g ∷ gs) [] are i h = absurd are
    sound_in way (g ∷ gs) (p ∷ ps) are zero h = ⊎_elim (λ k. text_match way g p k.0 k.1 (h.1 p)) (λ k. absurd (subst (λ z. MatchesChoice way z path) k.1 (h.1 p))) are.0
    sound_in way (g ∷ gs) (p ∷ ps) are (suc i) h = sound_in way gs ps are.1 i (let l = h.0 in omega (arith, l), λ d. h.1 d)

    complete_in : (way : Options) (gs : List Glob) (ps : List (Pattern A)) → ArePatternsAt formed letters way gs ps → (i : ℕ) → IsAt (MatchesText formed letters path) gs i → IsAt (λ g. options_of g.0 ≡ way) gs i → IsHit way ps path i
    complete_in way [] ps are i h k = absurd h
    complete_in way (g ∷ gs) [] are i h k = absurd are
    complete_in way (g ∷ gs) (p ∷ ps) are zero h k = (omega arith, λ d. ⊎_elim (λ m. match_text way g p m.0 m.1 h) (λ m. absurd (m.0 k)) are.0)
    complete_in way (g ∷ gs) (p ∷ ps) are (suc i) h k = let more = complete_in way gs ps are.1 i h k in (let l = more.0 in omega (arith, l), λ d. more.1 d)

    sound_all : (gs : List Glob) (sets : List (PatternSet A)) → AllByRecursion (λ set. ArePatternsAt formed letters set.options gs set.patterns.items) sets → (i : ℕ) → IsSetHit sets path i → IsAt (MatchesText formed letters path) gs i
    sound_all gs [] each i h = absurd h
    sound_all gs (set ∷ sets) each i (inl h) = sound_in set.options gs set.patterns.items each.0 i h
    sound_all gs (set ∷ sets) each i (inr h) = sound_all gs sets each.1 i h

    complete_all : (gs : List Glob) (sets : List (PatternSet A)) → AllByRecursion (λ set. ArePatternsAt formed letters set.options gs set.patterns.items) sets → (i : ℕ) → IsAt (λ g. Has (map way_of sets) (options_of g.0)) gs i → IsAt (MatchesText formed letters path) gs i → IsSetHit sets path i
    complete_all gs [] each i has h = absurd (none_at gs i has)
    complete_all gs (set ∷ sets) each i has h =
        ⊎_elim (λ own. inl (complete_in set.options gs set.patterns.items each.0 i h own)) (λ more. inr (complete_all gs sets each.1 i more h))
        (either_at (λ g. options_of g.0 ≡ set.options) (λ g. Has (map way_of sets) (options_of g.0)) gs i has)

    complete_of : (gs : List Glob) (sets : List (PatternSet A)) → AreSetsOf formed letters gs sets → (i : ℕ) → IsAt (MatchesText formed letters path) gs i → IsSetHit sets path i
    complete_of gs sets are i h = complete_all gs sets are.each i (all_at (λ g. Has (map way_of sets) (options_of g.0)) (MatchesText formed letters path) gs i are.all h) h

    pub match_of_globs : (sets : List (PatternSet A)) (result : Bool) → IsTrue result ↔ ((i : ℕ) × IsSetHit sets path i) → IsMatchOfGlobs formed letters sets path result
    match_of_globs sets result both gs are = (
      λ r. let hit = both.0 r in (hit.0, sound_all gs sets are.each hit.0 hit.1),
      λ k. both.1 (k.0, complete_of gs sets are k.0 k.1),
    )

    pub matches_of_globs : (sets : List (PatternSet A)) (found : List ℕ) → AreSetHits sets path found → AreMatchesOfGlobs formed letters sets path found
    matches_of_globs sets found hits gs are = record {
      sound = λ i c. sound_all gs sets are.each i (hits.sound i c);
      complete = λ i h. hits.complete i (complete_of gs sets are i h);
    }
