-- What comes before the first part that names a component.
use Rattle.std.proofs.Common.{◌≡◌, ◌⊎◌, inl, inr, ℕ, true, List, [], ◌∷◌, ◌++◌, Some, None, refl, sym, ap, ◌∙◌, append-nil, append_assoc}
use Rattle.path_rules.specs.declared.rules.Rules.{Rules}
use Rattle.path_rules.specs.Separators.{separates, IsPlain, IsCut}
use Rattle.path_rules.specs.Component.{Item, named, components_in}
use Rattle.path_rules.specs.Trailing.{EndsWithSeparator}
use Rattle.path_rules.specs.FirstPart.{IsSkipped, IsFirstPart}
use Rattle.path_rules.proofs.lemmas.Bodies.{cut_items, no_item}

module _ (r : Rules) where
  pub nothing_skipped : (body : List ℕ) → IsSkipped r body body
  nothing_skipped body = record { skipped = []; joined = refl; nothing = refl; ends = inl refl }

  -- a part more that names nothing
  pub skip_on : (skipped part : List ℕ) (c : ℕ) → separates r c ≡ true → components_in r skipped ≡ [] → (skipped ≡ []) ⊎ EndsWithSeparator r skipped → components_in r part ≡ [] → components_in r (skipped ++ (part ++ c ∷ [])) ≡ []
  skip_on skipped part c s e (inl n) f =
      ap (λ x. components_in r (x ++ (part ++ c ∷ []))) n ∙ cut_items r (part ++ c ∷ []) part [] (record { separator = c; joined = refl; parts = s }) ∙ append-nil (components_in r part) ∙ f
  skip_on skipped part c s e (inr d) f =
      let first : components_in r d.before ≡ [] = sym (append-nil (components_in r d.before)) ∙ sym (cut_items r skipped d.before [] (record { separator = d.last; joined = d.joined; parts = d.is })) ∙ e in
      let last : components_in r (part ++ c ∷ []) ≡ [] = cut_items r (part ++ c ∷ []) part [] (record { separator = c; joined = refl; parts = s }) ∙ append-nil (components_in r part) ∙ f in
      let whole : skipped ++ (part ++ c ∷ []) ≡ d.before ++ d.last ∷ (part ++ c ∷ []) = ap (λ x. x ++ (part ++ c ∷ [])) d.joined ∙ append_assoc d.before (d.last ∷ []) (part ++ c ∷ []) in
      cut_items r (skipped ++ (part ++ c ∷ [])) d.before (part ++ c ∷ []) (record { separator = d.last; joined = whole; parts = d.is }) ∙ ap (λ x. x ++ components_in r (part ++ c ∷ [])) first ∙ last

  pub one_skipped : (body left part rest : List ℕ) → IsSkipped r body left → IsCut r left part rest × IsPlain r part → None ≡ named r part → IsSkipped r body rest
  one_skipped body left part rest k (c, p) e = record {
    skipped = k.skipped ++ (part ++ c.separator ∷ []);
    joined = k.joined ∙ ap (λ x. k.skipped ++ x) (c.joined ∙ sym (append_assoc part (c.separator ∷ []) rest)) ∙ sym (append_assoc k.skipped (part ++ c.separator ∷ []) rest);
    nothing = skip_on k.skipped part c.separator c.parts k.nothing k.ends (no_item r part p e);
    ends = inr (record { before = k.skipped ++ part; last = c.separator; joined = sym (append_assoc k.skipped part (c.separator ∷ [])); is = c.parts });
  }

  pub last_first : (body left rest : List ℕ) (x : Item) → IsSkipped r body left → IsPlain r left → Some x ≡ named r left → rest ≡ [] → IsFirstPart r body x rest
  last_first body left rest x k p e n = record { left = left; skipped = k; part = left; more = []; field = record { joined = sym (append-nil left); plain = p; edge = tt }; names = sym e; is = n }

  pub cut_first : (body left part rest : List ℕ) (x : Item) → IsSkipped r body left → IsCut r left part rest × IsPlain r part → Some x ≡ named r part → IsFirstPart r body x rest
  cut_first body left part rest x k (c, p) e = record { left = left; skipped = k; part = part; more = c.separator ∷ rest; field = record { joined = c.joined; plain = p; edge = c.parts }; names = sym e; is = refl }
