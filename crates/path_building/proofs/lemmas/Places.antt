-- Where paths lead to.
use Rattle.std.proofs.Common.{◌≡◌, ◌≢◌, ◌↔◌, inl, inr, ℕ, Bool, true, false, IsTrue, List, [], ◌∷◌, ◌++◌, ◌≤◌, get_or, length, map, reverse, arith, refl, sym, ap, ◌∙◌, subst, append_assoc}
use Rattle.std.proofs.lemmas.List.{reverse-reverse}
use Rattle.path_rules.specs.declared.rules.Style as whose
use Rattle.path_rules.specs.declared.rules.Style.{Style}
use Rattle.path_rules.specs.declared.rules.Style.TheVariants as style
use Rattle.path_rules.specs.declared.head.Start.{Start}
use Rattle.path_rules.specs.declared.head.Start.TheVariants.{Root, Dot, Nothing}
use Rattle.path_rules.specs.declared.head.Head.{Head}
use Rattle.path_rules.specs.StyleRules.{main_separator}
use Rattle.path_rules.specs.Component.{Item, Prefix, RootDir, CurDir, ParentDir, Normal, components_in}
use Rattle.path_rules.specs.Components.{AreComponents}
use Rattle.path_rules.specs.Heads.{prefix_items, start_items, items_of}
use Rattle.path_rules.specs.HeadParts.{IsHead}
use Rattle.path_rules.specs.Prefix.{begins_verbatim}
use Rattle.path_rules.specs.Compare.{AreAlike, AreAllAlike}
use Rattle.path_building.specs.Cleaned.{CleansTo}
use Rattle.path_building.specs.Normalized.{BeginsWithColon}
use Rattle.path_building.specs.Written.{joined_names, written, written_apart, NamesAShare, NamesAnObject, IsPathOf}
use Rattle.path_building.specs.Spelled.{cleaned, cleaned_start, after_bytes}
use Rattle.path_building.specs.Relative.{IsPlace, AreOnePlace, AreApart, up_from, BeginsAtTop, AreWritten, IsWhole}
use Rattle.path_building.proofs.lemmas.Again.{one_clean}
use Rattle.path_building.proofs.lemmas.Forms.{no_dot_after, kept_some, verbatim_yes, other_verbatim, cleaned_leads}
use Rattle.path_rules.proofs.lemmas.OneList.{one_components}

-- a path leads to one place
one_place : (w : Style) (s : List ℕ) (a b : List Item) → IsPlace w s a → IsPlace w s b → a ≡ b
one_place w s a b p q =
    let same : p.0 ≡ q.0 = one_components w s p.0 q.0 p.1.0 q.1.0 in
    let back : reverse a ≡ reverse b = one_clean p.1.1 (subst (λ z. CleansTo (reverse z) (reverse b)) (sym same) q.1.1) in
    sym (reverse-reverse a) ∙ ap reverse back ∙ reverse-reverse b

pub same_place : (w : Style) (s t : List ℕ) (a b : List Item) (r : Bool) → IsPlace w s a → IsPlace w t b → (IsTrue r ↔ AreAllAlike a b) → IsTrue r ↔ AreOnePlace w s t
same_place w s t a b r p q h = (
  λ e. (a, (b, (p, (q, h.0 e)))),
  λ o. h.1 (subst (λ z. AreAllAlike z b) (one_place w s o.0 a o.1.1.0 p) (subst (AreAllAlike o.0) (one_place w t o.1.0 b o.1.1.1.0 q) o.1.1.1.1)),
)

module _ (w : Style) (path : List ℕ) (head : Head) (are : AreComponents w path (items_of head)) (h : IsHead w path head) (rooted : Bool) (down : rooted ≡ true → head.start ≡ Root) (back : head.start ≡ Root → rooted ≡ true) (names : List Item) (e : reverse names ≡ cleaned rooted [] (components_in head.rules head.body.now)) where
  pub place_is : (all : List Item) → all ≡ (prefix_items head.prefix.now ++ cleaned_start head.start) ++ names → IsPlace w path all
  place_is all f =
      let same : prefix_items head.prefix.now ++ (cleaned_start head.start ++ names) ≡ all = sym (append_assoc (prefix_items head.prefix.now) (cleaned_start head.start) names) ∙ sym f in
      (items_of head, (are, subst (λ z. CleansTo (reverse (items_of head)) (reverse z)) same (cleaned_leads w path head are h rooted down back names e)))

  pub whole_verbatim : (r : List ℕ) → begins_verbatim head.prefix.now ≡ true → IsPathOf w (prefix_items head.prefix.now ++ (start_items head.start ++ names)) r → IsWhole w path r
  whole_verbatim r v answers = record {
    items = items_of head;
    shown = prefix_items head.prefix.now ++ (start_items head.start ++ names);
    are = are;
    form = inl (verbatim_yes head.prefix.now (start_items head.start ++ components_in head.rules head.body.now) v, subst (λ z. CleansTo (reverse (items_of head)) (reverse (prefix_items head.prefix.now ++ (z ++ names)))) (starts head.start (no_dot_after w path head h (kept_some w path head are h v))) (cleaned_leads w path head are h rooted down back names e));
    answers = answers;
  }
    where
      starts : (st : Start) → st ≢ Dot → cleaned_start st ≡ start_items st
      starts Root n = refl
      starts Dot n = absurd (n refl)
      starts Nothing n = refl

pub whole_other : (w : Style) (path : List ℕ) (head : Head) → AreComponents w path (items_of head) → IsHead w path head → (names : List Item) (r : List ℕ) → begins_verbatim head.prefix.now ≡ false → names ≡ components_in head.rules head.body.now → IsPathOf w (prefix_items head.prefix.now ++ (start_items head.start ++ names)) r → IsWhole w path r
whole_other w path head are h names r v same answers = record {
  items = items_of head;
  shown = items_of head;
  are = are;
  form = inr (other_verbatim w path head are h v, refl);
  answers = subst (λ z. IsPathOf w (prefix_items head.prefix.now ++ (start_items head.start ++ z)) r) same answers;
}

-- components below a prefix and a root are written with separators between them alone
pub below_top : (vs us : List Item) → ¬ (BeginsAtTop us) → ¬ (BeginsAtTop (up_from vs ++ us))
below_top [] us n h = n h
below_top (v ∷ vs) us n h = h

pub bare_names : (c : ℕ) (names : List Item) → ¬ (BeginsAtTop names) → (written c names ≡ joined_names c names) × (written_apart c names ≡ joined_names c names)
bare_names c [] n = (refl, refl)
bare_names c (Prefix s ∷ xs) n = absurd (n tt)
bare_names c (RootDir ∷ xs) n = absurd (n tt)
bare_names c (CurDir ∷ xs) n = (refl, refl)
bare_names c (ParentDir ∷ xs) n = (refl, refl)
bare_names c (Normal s ∷ xs) n = (refl, refl)

share_none : (w : whose.Style) (names : List Item) → ¬ (BeginsAtTop names) → ¬ (NamesAShare w names)
share_none style.Unix names n h = h
share_none style.Windows [] n h = h
share_none style.Windows (Prefix s ∷ xs) n h = n tt
share_none style.Windows (RootDir ∷ xs) n h = h
share_none style.Windows (CurDir ∷ xs) n h = h
share_none style.Windows (ParentDir ∷ xs) n h = h
share_none style.Windows (Normal s ∷ xs) n h = h

pub object_none : (w : whose.Style) (names : List Item) → ¬ (BeginsAtTop names) → ¬ (NamesAnObject w names)
object_none style.Unix names n h = h
object_none style.Windows [] n h = h
object_none style.Windows (Prefix s ∷ xs) n h = n tt
object_none style.Windows (RootDir ∷ xs) n h = n tt
object_none style.Windows (CurDir ∷ xs) n h = h
object_none style.Windows (ParentDir ∷ xs) n h = h
object_none style.Windows (Normal s ∷ xs) n h = h

after_dot : (c : ℕ) (names : List Item) → after_bytes c Dot false names ≡ written c (CurDir ∷ names)
after_dot c [] = refl
after_dot c (x ∷ xs) = refl

module _ (w : whose.Style) (names : List Item) (none path : List ℕ) (c : ℕ) (e : none ≡ []) (f : c ≡ main_separator w) where
  same_bytes : (st : Start) → path ≡ none ++ after_bytes c st false names → path ≡ after_bytes (main_separator w) st false names
  same_bytes st k = k ∙ ap (λ z. z ++ after_bytes c st false names) e ∙ ap (λ z. after_bytes z st false names) f

  pub names_alone : ¬ (BeginsAtTop names) → ¬ (BeginsWithColon w names) → path ≡ none ++ after_bytes c Nothing false names → AreWritten w names path
  names_alone n b k = (names, (inr (b, refl), inr (object_none w names n, inr (share_none w names n, same_bytes Nothing k ∙ sym (bare_names (main_separator w) names n).0))))

  pub names_dotted : BeginsWithColon w names → path ≡ none ++ after_bytes c Dot false names → AreWritten w names path
  names_dotted b k = (CurDir ∷ names, (inl (b, refl), inr (object_none w (CurDir ∷ names) (λ h. h), inr (share_none w (CurDir ∷ names) (λ h. h), same_bytes Dot k ∙ after_dot (main_separator w) names))))

-- what is left of lists whose first components aren't alike
pub unlike_heads : {X Y : Type 0} (f : X → Item) (g : Y → Item) (xs : List X) (ys : List Y) (d : X) (e : Y) → 1 ≤ length xs → 1 ≤ length ys → ¬ (AreAlike (f (get_or xs 0 d)) (g (get_or ys 0 e))) → AreApart (map f xs) (map g ys) (map f xs) (map g ys)
unlike_heads f g [] ys d e l m n = absurd (omega arith)
unlike_heads f g (x ∷ xs) [] d e l m n = absurd (omega arith)
unlike_heads f g (x ∷ xs) (y ∷ ys) d e l m n = inr (n, (refl, refl))
