-- Separators at the end of a path.
use Rattle.std.proofs.Common.{◌≡◌, inl, inr, ℕ, Bool, true, false, List, [], ◌∷◌, ◌++◌, if◌then◌else◌, refl, sym, ap, ◌∙◌, subst, append-nil, append_assoc}
use Rattle.std.proofs.lemmas.List.{same_from_push}
use Rattle.path_rules.specs.declared.rules.Rules.TheVariants as rules
use Rattle.path_rules.specs.declared.rules.Style.TheVariants as style
use Rattle.path_rules.specs.Prefix.{begins_verbatim}
use Rattle.std.specs.List.{All}
use Rattle.std.proofs.lemmas.List.Elements.{All-nil, All-head, All-tail}
use Rattle.path_rules.specs.Separators.{separates}
use Rattle.path_rules.specs.declared.rules.Style.{Style}
use Rattle.path_rules.specs.StyleRules.{rules_of_path}
use Rattle.path_rules.specs.Trailing.{EndsWithSeparator, IsRootAlone, TrimsTrailing}

module _ (w : Style) (path t : List ℕ) where
  pub trimmed_begins : TrimsTrailing w path t → (after : List ℕ) × ((path ≡ t ++ after) × All (λ b. separates (rules_of_path w path) b ≡ true) after)
  trimmed_begins (inl h) = ([], (sym h.1 ∙ sym (append-nil t), All-nil (λ b. separates (rules_of_path w path) b ≡ true)))
  trimmed_begins (inr h) = (h.1.separators, (h.1.joined, h.1.all))

  pub root_stays : TrimsTrailing w path t → IsRootAlone w path → t ≡ path
  root_stays (inl h) root = h.1
  root_stays (inr h) root = absurd (h.0 root)

  pub only_root : TrimsTrailing w path t → EndsWithSeparator (rules_of_path w path) t → IsRootAlone w path
  only_root (inl h) ends = h.0
  only_root (inr h) ends = absurd (h.1.tight ends)

-- separators that end with a byte
last_of : (P : ℕ → Type 0) (s : List ℕ) (c : ℕ) → All P (c ∷ s) → (before : List ℕ) × ((b : ℕ) × ((c ∷ s ≡ before ++ b ∷ []) × P b))
last_of P [] c h = ([], (c, (refl, All-head P c [] h)))
last_of P (d ∷ s) c h = let q = last_of P s d (All-tail P c (d ∷ s) h) in (c ∷ q.0, (q.1.0, (ap (λ x. c ∷ x) q.1.1.0, q.1.1.1)))

none_trimmed : (path t separators before : List ℕ) → path ≡ t ++ separators → All (λ b. separates rules.Verbatim b ≡ true) separators → path ≡ before ++ 0x2F ∷ [] → t ≡ path
none_trimmed path t [] before j h e = sym (j ∙ append-nil t)
none_trimmed path t (c ∷ s) before j h e =
    let q = last_of (λ b. separates rules.Verbatim b ≡ true) s c h in
    let whole : before ++ 0x2F ∷ [] ≡ (t ++ q.0) ++ q.1.0 ∷ [] = sym e ∙ j ∙ ap (λ x. t ++ x) q.1.1.0 ∙ sym (append_assoc t q.0 (q.1.0 ∷ [])) in
    let last : 0x2F ≡ q.1.0 = (same_from_push before (t ++ q.0) 0x2F q.1.0 whole).1 in
    let never : false ≡ true = subst (λ b. separates rules.Verbatim b ≡ true) (sym last) q.1.1.1 in cc

pub slash_kept : (path t before : List ℕ) → TrimsTrailing style.Windows path t → begins_verbatim path ≡ true → path ≡ before ++ 0x2F ∷ [] → t ≡ path
slash_kept path t before (inl h) v e = h.1
slash_kept path t before (inr h) v e =
    none_trimmed path t h.1.separators before h.1.joined (subst (λ x. All (λ b. separates (if x then rules.Verbatim else rules.Either) b ≡ true) h.1.separators) v h.1.all) e
