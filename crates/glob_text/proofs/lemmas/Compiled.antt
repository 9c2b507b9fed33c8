-- Choices, compiled one after the other.
use Rattle.std.proofs.Common.{◌≡◌, ℕ, Option, Some, None, List, [], ◌∷◌, ◌++◌, refl, sym, ap, ◌∙◌, subst, append_assoc, append-nil}
use Rattle.wildcards.specs.declared.pattern.Choice.{Choice}
use Rattle.wildcards.specs.declared.separators.Separators.{Separators}
use Rattle.glob_text.specs.Marks.{Mark}
use denote.Ref.{Bor}
use Rattle.std.specs.Option.{is_some}
use Rattle.glob_text.specs.Parts.{IsCompiled, AreCompiled}
use Rattle.glob_text.specs.PartSteps.{rest_of}

-- something is left where the marks of what is left are some
pub joined_is : (marks : List Mark) (o : Option (Bor (List ℕ))) → is_some o ≡ is_some (rest_of marks o)
joined_is marks None = refl
joined_is marks (Some rest) = refl

module _ {A : Type 0} (o : Separators) where
  one_compiled : (cs : List (List Mark)) (ps : List (Choice A)) (c : List Mark) (p : Choice A) → AreCompiled o cs ps → IsCompiled o c p.pieces.items → AreCompiled o (cs ++ c ∷ []) (ps ++ p ∷ [])
  one_compiled [] [] c p h i = (i, tt)
  one_compiled [] (q ∷ ps) c p h i = absurd h
  one_compiled (d ∷ cs) [] c p h i = absurd h
  one_compiled (d ∷ cs) (q ∷ ps) c p h i = (h.0, one_compiled cs ps c p h.1 i)

  -- the first choices are compiled
  pub record CompiledSoFar (choices : List (List Mark)) (compiled : List (Choice A)) (left : List (List Mark)) : Type 0 where
    pub done : List (List Mark)
    pub joined : choices ≡ done ++ left
    pub are : AreCompiled o done compiled

  pub none_compiled : (choices : List (List Mark)) → CompiledSoFar choices [] choices
  none_compiled choices = record { done = []; joined = refl; are = tt }

  pub one_more_compiled : (choices : List (List Mark)) (compiled : List (Choice A)) (c : List Mark) (rest : List (List Mark)) (p : Choice A) (more : List (Choice A)) → CompiledSoFar choices compiled (c ∷ rest) → IsCompiled o c p.pieces.items → more ≡ compiled ++ p ∷ [] → CompiledSoFar choices more rest
  one_more_compiled choices compiled c rest p more h i e = record {
    done = h.done ++ c ∷ [];
    joined = h.joined ∙ sym (append_assoc h.done (c ∷ []) rest);
    are = subst (AreCompiled o (h.done ++ c ∷ [])) (sym e) (one_compiled h.done compiled c p h.are i);
  }

  pub all_compiled : (choices : List (List Mark)) (compiled : List (Choice A)) (left : List (List Mark)) → CompiledSoFar choices compiled left → left ≡ [] → AreCompiled o choices compiled
  all_compiled choices compiled left h e = subst (λ z. AreCompiled o z compiled) (sym (h.joined ∙ ap (λ z. h.done ++ z) e ∙ append-nil h.done)) h.are
