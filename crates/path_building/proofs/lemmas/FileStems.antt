-- A path with another stem of its last name.
use Rattle.std.proofs.Common.{◌≡◌, ◌++◌, ℕ, List, inl, refl, sym, ◌∙◌, ap, subst, drop, length}
use Rattle.std.proofs.lemmas.List.{drop_at}
use Rattle.path_rules.specs.declared.rules.Style.{Style}
use Rattle.path_rules.specs.Name.{IsStem}
use Rattle.path_building.specs.FileName.{IsNameEnd, IsNamed}
use Rattle.path_building.specs.FileStem.{IsStemSet}
use Rattle.path_building.proofs.lemmas.FileNames.{stem_prefix}

-- what comes after the stem of a name
stem_apart : (name stem : List ℕ) → IsStem name stem → name ≡ stem ++ drop (length stem) name
stem_apart name stem h =
    let s = stem_prefix name stem h in
    let after : drop (length stem) name ≡ s.0 = ap (drop (length stem)) s.1 ∙ drop_at stem s.0 (length stem) refl in
    s.1 ∙ ap (λ x. stem ++ x) (sym after)

pub stem_set : (w : Style) (path name own stem after new made : List ℕ) (end : ℕ) → IsNameEnd w path end name → IsStem name own → after ≡ drop (length own) name → new ≡ stem ++ after → IsNamed w path new made → IsStemSet w path stem made
stem_set w path name own stem after new made end h o a e n = inl (record {
  items = h.1.1.items;
  name = name;
  own = own;
  after = after;
  whole = h.1.1.whole;
  own_is = o;
  joined = stem_apart name own o ∙ ap (λ x. own ++ x) (sym a);
  named = subst (λ x. IsNamed w path x made) e n;
})
