-- Texts of names or arguments after another on a line, a space before each.
use Rattle.std.proofs.Common.{◌≡◌, ℕ, List, [], ◌∷◌, ◌++◌, map, sym, ap, ◌∙◌, subst, append_assoc, append-nil}
use Rattle.std.specs.List.{AllByRecursion}
use Rattle.std.proofs.lemmas.List.{map-append}
use Rattle.os_command_line.specs.declared.shell.error.ShellError.{ShellError}
use Rattle.os_command_line.specs.ShellWriting.{after_first, HasNoNul, IsFirstNameFault}
use Rattle.os_command_line.proofs.lemmas.Lists.{one_more}

after_last : (words : List (List ℕ)) (word : List ℕ) → after_first (words ++ word ∷ []) ≡ after_first words ++ 0x20 ∷ word
after_last [] word = ap (λ z. 0x20 ∷ z) (append-nil word)
after_last (first ∷ words) word = ap (λ z. 0x20 ∷ (first ++ z)) (after_last words word) ∙ ap (λ z. 0x20 ∷ z) (sym (append_assoc first (after_first words) (0x20 ∷ word)))

-- the texts of those before the rest were appended
pub record IsJoinedSoFar (text : List ℕ → List ℕ) (all rest : List (List ℕ)) (old line : List ℕ) : Type 0 where
  pub done : List (List ℕ)
  pub joined : all ≡ done ++ rest
  pub line_is : line ≡ old ++ after_first (map text done)
  pub no_nul : AllByRecursion HasNoNul done

module _ (text : List ℕ → List ℕ) (all rest : List (List ℕ)) (old line : List ℕ) (so_far : IsJoinedSoFar text all rest old line) where
  pub one_joined : (name : List ℕ) (after : List (List ℕ)) → rest ≡ name ∷ after → (mid new : List ℕ) → mid ≡ line ++ 0x20 ∷ [] → new ≡ mid ++ text name → HasNoNul name → IsJoinedSoFar text all after old new
  one_joined name after e mid new m w n =
      let texts = map text so_far.done in
      record {
        done = so_far.done ++ name ∷ [];
        joined = so_far.joined ∙ ap (λ z. so_far.done ++ z) e ∙ sym (append_assoc so_far.done (name ∷ []) after);
        line_is =
            w
            ∙ ap (λ z. z ++ text name) (m ∙ ap (λ z. z ++ 0x20 ∷ []) so_far.line_is)
            ∙ append_assoc (old ++ after_first texts) (0x20 ∷ []) (text name)
            ∙ append_assoc old (after_first texts) (0x20 ∷ text name)
            ∙ ap (λ z. old ++ z) (sym (after_last texts (text name)) ∙ ap after_first (sym (map-append text so_far.done (name ∷ []))));
        no_nul = one_more HasNoNul so_far.done name so_far.no_nul n;
      }

  module _ (e : rest ≡ []) where
    all_done : all ≡ so_far.done
    all_done = so_far.joined ∙ ap (λ z. so_far.done ++ z) e ∙ append-nil so_far.done

    pub all_joined : line ≡ old ++ after_first (map text all)
    all_joined = so_far.line_is ∙ ap (λ z. old ++ after_first (map text z)) (sym all_done)

    pub none_has_nul : AllByRecursion HasNoNul all
    none_has_nul = subst (AllByRecursion HasNoNul) (sym all_done) so_far.no_nul

-- after a first name
pub later_fault : (first : List ℕ) (names : List (List ℕ)) (fault : ShellError) → HasNoNul first → IsFirstNameFault names fault → IsFirstNameFault (first ∷ names) fault
later_fault first names fault n f = record { before = first ∷ f.before; name = f.name; after = f.after; joined = ap (λ z. first ∷ z) f.joined; none_before = (n, f.none_before); is = f.is }
