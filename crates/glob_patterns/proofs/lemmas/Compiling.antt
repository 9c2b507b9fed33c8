-- The patterns of a set, compiled one after the other.
use Rattle.std.proofs.Common.{◌≡◌, ℕ, List, [], ◌∷◌, ◌++◌, length, refl, sym, ◌∙◌, arith, append_assoc}
use Rattle.std.specs.List.{AllByRecursion}
use Rattle.wildcards.specs.declared.set.Pattern.{Pattern}
use Rattle.glob_text.specs.declared.fault.PatternFault.{PatternFault}
use Rattle.glob_text.specs.declared.syntax.Syntax.{Syntax}
use Rattle.glob_text.specs.Texts.{IsMeaning, IsFault}
use Rattle.glob_patterns.specs.GlobSets.{AreMeanings, HasMeaning, IsFirstFault}

module _ (formed : List ℕ → Type 0) (letters : List ℕ → List ℕ) (o : Syntax) (A : Type 0) where
  -- the texts that were read have these patterns, and others are left
  pub record AreCompiledSoFar (texts left : List (List ℕ)) (patterns : List (Pattern A)) : Type 0 where
    pub before : List (List ℕ)
    pub joined : texts ≡ before ++ left
    pub are : AreMeanings formed letters o A before patterns

  more : (ts : List (List ℕ)) (ps : List (Pattern A)) (t : List ℕ) (p : Pattern A) → AreMeanings formed letters o A ts ps → IsMeaning formed letters o t p.choices.items → AreMeanings formed letters o A (ts ++ t ∷ []) (ps ++ p ∷ [])
  more [] [] t p h k = (k, tt)
  more [] (q ∷ ps) t p h k = absurd h
  more (s ∷ ts) [] t p h k = absurd h
  more (s ∷ ts) (q ∷ ps) t p h k = (h.0, more ts ps t p h.1 k)

  as_many : (ts : List (List ℕ)) (ps : List (Pattern A)) → AreMeanings formed letters o A ts ps → length ps ≡ length ts
  as_many [] [] h = refl
  as_many [] (q ∷ ps) h = absurd h
  as_many (s ∷ ts) [] h = absurd h
  as_many (s ∷ ts) (q ∷ ps) h = omega (arith, as_many ts ps h.1)

  fine : (ts : List (List ℕ)) (ps : List (Pattern A)) → AreMeanings formed letters o A ts ps → AllByRecursion (HasMeaning formed letters o A) ts
  fine [] [] h = tt
  fine [] (q ∷ ps) h = absurd h
  fine (s ∷ ts) [] h = absurd h
  fine (s ∷ ts) (q ∷ ps) h = ((q.choices.items, h.0), fine ts ps h.1)

  pub none_compiled : (texts : List (List ℕ)) → AreCompiledSoFar texts texts []
  none_compiled texts = record { before = []; joined = refl; are = tt }

  pub one_compiled : (texts : List (List ℕ)) (t : List ℕ) (left : List (List ℕ)) (ps : List (Pattern A)) (p : Pattern A) → AreCompiledSoFar texts (t ∷ left) ps → IsMeaning formed letters o t p.choices.items → AreCompiledSoFar texts left (ps ++ p ∷ [])
  one_compiled texts t left ps p h k = record {
    before = h.before ++ t ∷ [];
    joined = h.joined ∙ sym (append_assoc h.before (t ∷ []) left);
    are = more h.before ps t p h.are k;
  }

  pub not_compiled : (texts : List (List ℕ)) (t : List ℕ) (left : List (List ℕ)) (ps : List (Pattern A)) (fault : PatternFault) → AreCompiledSoFar texts (t ∷ left) ps → IsFault formed letters o t fault → IsFirstFault formed letters o A texts (length ps) fault
  not_compiled texts t left ps fault h k = record {
    before = h.before;
    text = t;
    after = left;
    joined = h.joined;
    index_is = as_many h.before ps h.are;
    fine = fine h.before ps h.are;
    is = k;
  }
