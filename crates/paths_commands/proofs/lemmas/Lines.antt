-- Lines of components, one after the other.
use Rattle.std.proofs.Common.{◌≡◌, ℕ, List, [], ◌∷◌, ◌++◌, refl, sym, ap, ◌∙◌, subst, append_assoc, append-nil}
use Rattle.os_quote.specs.Escape.{IsLineEscape}
use Rattle.os_str_bytes.specs.Platform.{Ghosts}
use Rattle.path_rules.specs.declared.rules.Style.{Style}
use Rattle.path_rules.specs.Component.{Item}
use Rattle.paths_commands.specs.Task.{AreLines, component_text}

module _ {E : Type 0} (p : Ghosts E) (style : Style) where
  -- so much has been written of the lines of all, where these are left
  pub record IsSoFar (all left : List Item) (old new : List ℕ) : Type 0 where
    pub done : List ℕ
    pub written : new ≡ old ++ done
    pub more : (rest : List ℕ) → AreLines p style left rest → AreLines p style all (done ++ rest)

  pub at_start : (all left : List Item) (old : List ℕ) → left ≡ all → IsSoFar all left old old
  at_start all left old same = subst (λ l. IsSoFar all l old old) (sym same) (record { done = []; written = sym (append-nil old); more = λ rest are. are })

  pub after_line : (all before left : List Item) (item : Item) (old mid new text : List ℕ) → before ≡ item ∷ left → IsSoFar all before old mid
      → text ≡ component_text style item → (line : List ℕ) × (IsLineEscape p.units text line × (new ≡ mid ++ (line ++ 0x0A ∷ []))) → IsSoFar all left old new
  after_line all before left item old mid new text steps so_far same pushed =
      let s = subst (λ l. IsSoFar all l old mid) steps so_far in
      let line = pushed.0 in record {
        done = s.done ++ (line ++ 0x0A ∷ []);
        written = pushed.1.1 ∙ ap (λ x. x ++ (line ++ 0x0A ∷ [])) s.written ∙ append_assoc old s.done (line ++ 0x0A ∷ []);
        more = λ rest are.
            subst (AreLines p style all) (sym (append_assoc s.done (line ++ 0x0A ∷ []) rest))
            (s.more ((line ++ 0x0A ∷ []) ++ rest) (line, (subst (λ t. IsLineEscape p.units t line) same pushed.1.0, (rest, (refl, are)))));
      }

  pub at_end : (all left : List Item) (old new : List ℕ) → left ≡ [] → IsSoFar all left old new → (lines : List ℕ) × (AreLines p style all lines × (new ≡ old ++ lines))
  at_end all left old new none so_far =
      let s = subst (λ l. IsSoFar all l old new) none so_far in
      (s.done, (subst (AreLines p style all) (append-nil s.done) (s.more [] refl), s.written))
