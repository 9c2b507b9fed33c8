-- Ends of a path's body, and the first component in it.
use Rattle.std.proofs.Common.{◌≡◌, ◌≢◌, ℕ, List, [], ◌∷◌, ◌++◌, Some, None, refl, sym, ap, ◌∙◌, subst, append-nil, append_assoc}
use Rattle.path_rules.specs.declared.rules.Rules.{Rules}
use Rattle.path_rules.specs.Separators.{IsPlain, IsCut, IsField}
use Rattle.path_rules.specs.Component.{Item, named, components_in}
use Rattle.path_rules.specs.Body.{BeginsNamed}
use Rattle.path_rules.specs.Taken.{IsTail}
use Rattle.path_rules.specs.Cut.{IsAsciiCut, at_start, at_end, before_ascii, after_ascii}
use Rattle.path_rules.proofs.lemmas.Ascii.{ascii_separators}
use Rattle.path_rules.proofs.lemmas.Bodies.{cut_items, one_item}
use Rattle.path_rules.proofs.lemmas.Fields.{one_field}

pub whole_tail : (s : List ℕ) → IsTail s s
whole_tail s = record { before = []; joined = refl; cut = at_start refl }

pub empty_tail : (s none : List ℕ) → none ≡ [] → IsTail s none
empty_tail s none n = record { before = s; joined = sym (ap (λ x. s ++ x) n ∙ append-nil s); cut = at_end n }

pub cuts : (p q t u : List ℕ) → t ≡ q ++ u → IsAsciiCut p t → IsAsciiCut q u → IsAsciiCut (p ++ q) u
cuts p q t u j a (at_start n) = subst (λ x. IsAsciiCut x u) (sym (ap (λ x. p ++ x) n ∙ append-nil p)) (subst (IsAsciiCut p) (j ∙ ap (λ x. x ++ u) n) a)
cuts p q t u j a (at_end n) = at_end n
cuts p q t u j a (before_ascii b rest e l) = before_ascii b rest e l
cuts p q t u j a (after_ascii start b e l) = after_ascii (p ++ start) b (ap (λ x. p ++ x) e ∙ sym (append_assoc p start (b ∷ []))) l

pub tail_again : (s t u : List ℕ) → IsTail s t → IsTail t u → IsTail s u
tail_again s t u a b = record {
  before = a.before ++ b.before;
  joined = a.joined ∙ ap (λ x. a.before ++ x) b.joined ∙ sym (append_assoc a.before b.before u);
  cut = cuts a.before b.before t u b.joined a.cut b.cut;
}

module _ (r : Rules) where
  pub cut_tail : (s part rest : List ℕ) → IsCut r s part rest → IsTail s rest
  cut_tail s part rest c = record {
    before = part ++ c.separator ∷ [];
    joined = c.joined ∙ sym (append_assoc part (c.separator ∷ []) rest);
    cut = after_ascii part c.separator refl (ascii_separators r c.separator c.parts);
  }

  named_field : (s p q t u : List ℕ) (x : Item) → IsField r s p t → Some x ≡ named r p → IsField r s q u → named r q ≢ None
  named_field s p q t u x a e b = λ none. let same = (one_field r s p q t u a b).0 in let never : Some x ≡ None = e ∙ ap (named r) same ∙ none in cc

  -- the first part names a component
  pub begins_alone : (s : List ℕ) (x : Item) → IsPlain r s → Some x ≡ named r s → BeginsNamed r s
  begins_alone s x h e = λ part rest some f. named_field s s part [] rest x (record { joined = sym (append-nil s); plain = h; edge = tt }) e f

  pub begins_cut : (s part rest : List ℕ) (x : Item) → IsCut r s part rest × IsPlain r part → Some x ≡ named r part → BeginsNamed r s
  begins_cut s part rest x (c, h) e = λ q tail some f. named_field s part q (c.separator ∷ rest) tail x (record { joined = c.joined; plain = h; edge = c.parts }) e f

  pub begins_empty : (none : List ℕ) → none ≡ [] → BeginsNamed r none
  begins_empty none n = λ part rest some f. absurd (some n)

  -- the first component, and what follows its part
  pub field_items : (s part rest : List ℕ) (x : Item) → IsField r s part rest → Some x ≡ named r part → components_in r s ≡ x ∷ components_in r rest
  field_items s part [] x f e = ap (components_in r) (f.joined ∙ append-nil part) ∙ one_item r part x f.plain e
  field_items s part (c ∷ u) x f e =
      cut_items r s part u (record { separator = c; joined = f.joined; parts = f.edge }) ∙ ap (λ z. z ++ components_in r u) (one_item r part x f.plain e)
      ∙ ap (λ z. x ∷ z) (sym (cut_items r (c ∷ u) [] u (record { separator = c; joined = refl; parts = f.edge })))

  pub nothing_in : (s part rest : List ℕ) → BeginsNamed r s → IsField r s part rest → None ≡ named r part → components_in r s ≡ []
  nothing_in [] part rest h f e = refl
  nothing_in (b ∷ s) part rest h f e = absurd (h part rest (λ n. cc) f (sym e))
