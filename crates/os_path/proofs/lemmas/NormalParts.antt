-- What is left of well-formed components is well formed.
use Rattle.std.proofs.Common.{◌≡◌, inl, inr, ◌<◌, ℕ, Bool, true, false, if◌then◌else◌, List, [], ◌∷◌, ◌++◌, map, reverse, take, drop, refl, sym, ◌∙◌, subst, append_assoc, append-nil, lit<}
use Rattle.std.proofs.lemmas.List.{reverse-reverse}
use Rattle.wtf8_core.specs.Boundary.{IsBoundary}
use Rattle.wtf8_core.specs.OccurrenceLaws.{OccurrenceLaws}
use Rattle.path_rules.specs.declared.rules.Style.{Style}
use Rattle.path_rules.specs.Components.{AreComponents}
use Rattle.path_rules.specs.declared.rules.Rules.TheVariants as rules
use Rattle.path_rules.specs.Separators.{separates}
use Rattle.path_rules.specs.Component.{Item, Prefix, RootDir, CurDir, ParentDir, Normal}
use Rattle.path_rules.proofs.lemmas.Ascii.{ascii_separators}
use Rattle.path_building.specs.Normal.{LeadsTo, nowhere, prefix, bare_root, root, start, here, name, up}
use Rattle.path_building.specs.Normalized.{IsShielded, IsNormalForm, IsNormalized}
use Rattle.path_building.specs.Cleaned as clean
use Rattle.path_building.specs.Cleaned.{CleansTo, or_dot, begins_as_verbatim, separated_by, one_spelling, spelled, IsCleanForm, IsCleaned}
use Rattle.path_building.proofs.lemmas.Resolving.{onto, onto_is}
use Rattle.os_path.specs.Formed.{AreFormed}
use Rattle.os_path.proofs.lemmas.Cuts.{cuts}
use Rattle.os_path.proofs.lemmas.FromParts.{JoinsAtAscii, joins, from_items}
use Rattle.os_path.proofs.lemmas.Parts.{IsCutAtAscii}
use Rattle.os_path.proofs.lemmas.Whole.{all_formed}

module _ (formed : List ℕ → Type 0) where
  pub left_formed : {xs ys : List Item} → LeadsTo xs ys → AreFormed formed xs → AreFormed formed ys
  left_formed nowhere f = f
  left_formed prefix f = f
  left_formed bare_root f = f
  left_formed root f = f
  left_formed start f = f
  left_formed (here h) f = left_formed h f.1
  left_formed (name h) f = (f.0, left_formed h f.1)
  left_formed (up h) f = (left_formed h f.1).1

  pub clean_left : {xs ys : List Item} → CleansTo xs ys → AreFormed formed xs → AreFormed formed ys
  clean_left clean.nothing f = f
  clean_left clean.prefix f = f
  clean_left clean.bare_root f = f
  clean_left clean.root f = f
  clean_left (clean.here h) f = clean_left h f.1
  clean_left (clean.name h) f = (f.0, clean_left h f.1)
  clean_left (clean.up h) f = (clean_left h f.1).1
  clean_left (clean.at_root h) f = clean_left h f.1
  clean_left (clean.out h s) f = (f.0, clean_left h f.1)

  onto_formed : (xs d : List Item) → AreFormed formed xs → AreFormed formed d → AreFormed formed (onto xs d)
  onto_formed [] d f g = g
  onto_formed (x ∷ xs) d f g = onto_formed xs (x ∷ d) f.1 (f.0, g)

  pub reversed : (xs : List Item) → AreFormed formed xs → AreFormed formed (reverse xs)
  reversed xs f = subst (AreFormed formed) (onto_is xs [] ∙ append-nil (reverse xs)) (onto_formed xs [] f tt)

  pub from_reversed : (xs : List Item) → AreFormed formed (reverse xs) → AreFormed formed xs
  from_reversed xs f = subst (AreFormed formed) (reverse-reverse xs) (reversed (reverse xs) f)

  normal_formed : (items normal : List Item) → IsNormalForm items normal → AreFormed formed items → AreFormed formed normal
  normal_formed items normal (inl h) f = subst (AreFormed formed) (sym h.1) f
  normal_formed items normal (inr h) f = from_reversed normal (left_formed h.1 (reversed items f))

  or_dot_formed : (xs : List Item) → AreFormed formed xs → AreFormed formed (or_dot xs)
  or_dot_formed [] f = (tt, tt)
  or_dot_formed (x ∷ xs) f = f

  -- an ASCII byte in the place of each separator
  separated_formed : IsCutAtAscii formed → JoinsAtAscii formed → (c : ℕ) → c < 0x80 → (s first : List ℕ) → formed (first ++ s) → formed (first ++ separated_by c s)
  separated_formed cut join c low [] first f = f
  separated_formed cut join c low (b ∷ s) first f = cases (separates rules.Either b) refl (separated_formed cut join c low s (first ++ b ∷ [])) (separated_formed cut join c low s [])
    where
      cases : (v : Bool) → separates rules.Either b ≡ v → (formed ((first ++ b ∷ []) ++ s) → formed ((first ++ b ∷ []) ++ separated_by c s)) → (formed s → formed (separated_by c s)) → formed (first ++ (if v then c else b) ∷ separated_by c s)
      cases true e more next = let both = cut first s b (ascii_separators rules.Either b e) f in join first (separated_by c s) c low both.before (next both.after)
      cases false e more next = subst formed (append_assoc first (b ∷ []) (separated_by c s)) (more (subst formed (sym (append_assoc first (b ∷ []) s)) f))

  spelling_formed : IsCutAtAscii formed → JoinsAtAscii formed → (s : List ℕ) → formed s → formed (one_spelling s)
  spelling_formed cut join s f = by (begins_as_verbatim s)
    where
      by : (v : Bool) → formed (separated_by (if v then 0x2F else 0x5C) s)
      by true = separated_formed cut join 0x2F (lit< tt) s [] f
      by false = separated_formed cut join 0x5C (lit< tt) s [] f

  spelled_formed : ((s : List ℕ) → formed s → formed (one_spelling s)) → (xs : List Item) → AreFormed formed xs → AreFormed formed (map spelled xs)
  spelled_formed spell [] f = tt
  spelled_formed spell (Prefix s ∷ xs) f = (spell s f.0, spelled_formed spell xs f.1)
  spelled_formed spell (RootDir ∷ xs) f = (tt, spelled_formed spell xs f.1)
  spelled_formed spell (CurDir ∷ xs) f = (tt, spelled_formed spell xs f.1)
  spelled_formed spell (ParentDir ∷ xs) f = (tt, spelled_formed spell xs f.1)
  spelled_formed spell (Normal s ∷ xs) f = (f.0, spelled_formed spell xs f.1)

  clean_formed : ((s : List ℕ) → formed s → formed (one_spelling s)) → (items form : List Item) → IsCleanForm items form → AreFormed formed items → AreFormed formed form
  clean_formed spell items form (inl h) f = subst (AreFormed formed) (sym h.1) f
  clean_formed spell items form (inr h) f =
      subst (AreFormed formed) (sym h.1.1.1) (or_dot_formed (map spelled h.1.0) (spelled_formed spell h.1.0 (from_reversed h.1.0 (clean_left h.1.1.0 (reversed items f)))))

  shielded_formed : (w : Style) (xs shown : List Item) → IsShielded w xs shown → AreFormed formed xs → AreFormed formed shown
  shielded_formed w xs shown (inl h) f = subst (AreFormed formed) (sym h.1) (tt, f)
  shielded_formed w xs shown (inr h) f = subst (AreFormed formed) (sym h.1) f

module _ (formed : List ℕ → Type 0) (units : List ℕ → List ℕ) (laws : OccurrenceLaws formed units) (cut_prefix : (b : List ℕ) (i : ℕ) → formed b → IsBoundary b i → formed (take i b)) (cut_suffix : (b : List ℕ) (i : ℕ) → formed b → IsBoundary b i → formed (drop i b)) where
  pub of_items : (w : Style) (s : List ℕ) (items : List Item) → AreComponents w s items → formed s → AreFormed formed items
  of_items w s items h f = all_formed formed (cuts formed cut_prefix cut_suffix) w s items h f

  pub of_path : (w : Style) (s : List ℕ) (items : List Item) → AreComponents w s items → AreFormed formed items → formed s
  of_path w s items h f = from_items formed (joins formed units laws) laws.texts (cuts formed cut_prefix cut_suffix) w s items h f

  pub normalized_formed : (w : Style) (path answer : List ℕ) → IsNormalized w path answer → formed path → formed answer
  normalized_formed w path answer (inl h) f = subst formed (sym h.1) f
  normalized_formed w path answer (inr (even, h)) f =
      of_path w answer h.shown h.answers.0 (shielded_formed formed w h.normal h.shown h.shielded (normal_formed formed h.items h.normal h.form (of_items w path h.items h.are f)))

  pub cleaned_formed : (w : Style) (path answer : List ℕ) → IsCleaned w path answer → formed path → formed answer
  cleaned_formed w path answer (inl h) f = subst formed (sym h.1) (spelling_formed formed (cuts formed cut_prefix cut_suffix) (joins formed units laws) path f)
  cleaned_formed w path answer (inr (even, h)) f =
      of_path w answer h.shown h.answers.0 (shielded_formed formed w h.clean h.shown h.shielded (clean_formed formed (spelling_formed formed (cuts formed cut_prefix cut_suffix) (joins formed units laws)) h.items h.clean h.form (of_items w path h.items h.are f)))
