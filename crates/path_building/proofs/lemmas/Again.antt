-- Normal forms and clean forms are their own, also where `.` comes before their first name.
use Rattle.std.proofs.Common.{◌≡◌, ◌↔◌, ◌⊎◌, inl, inr, ℕ, Bool, true, false, List, [], ◌∷◌, ◌++◌, map, reverse, refl, sym, ap, ◌∙◌, subst}
use Rattle.std.proofs.lemmas.List.{reverse-append}
use Rattle.path_rules.specs.declared.rules.Style.{Style}
use Rattle.path_rules.specs.Component.{Item, Prefix, RootDir, CurDir, ParentDir, Normal}
use Rattle.path_building.specs.Normal.{LeadsTo, nowhere, prefix, bare_root, root, start, here, name, up}
use Rattle.path_rules.specs.Prefix.{begins_verbatim}
use Rattle.path_building.specs.Normalized.{AreVerbatim, BeginsWithColon, IsNormalForm, IsNormalWritten, IsNormalized}
use Rattle.path_building.specs.Cleaned as clean
use Rattle.path_building.specs.Cleaned.{CleansTo, StaysAfter, or_dot, one_spelling, spelled, IsCleanForm, IsCleanWritten, IsCleaned}
use Rattle.path_building.proofs.lemmas.Normals.{again}
use Rattle.path_building.proofs.lemmas.Spellings.{all_again, both_spelled, spelling_again}
use Rattle.path_building.specs.Beginning.{BeginsOddly}
use Rattle.path_building.proofs.lemmas.Beginnings.{odd_spelled, odd_no_object}
use Rattle.path_building.proofs.lemmas.Objects.{no_object}
use Rattle.path_building.specs.Written.{BeginsAsObject}
use Rattle.path_rules.specs.declared.rules.Style.TheVariants as style

-- a list that ends in a name has a first item, and what follows it is empty or ends in that name
data Ends (s : List ℕ) : List Item → Type 0 where
  alone : Ends s (Normal s ∷ [])
  later : {x : Item} {xs : List Item} → Ends s xs → Ends s (x ∷ xs)

ends : (s : List ℕ) (ws : List Item) → Ends s (ws ++ Normal s ∷ [])
ends s [] = alone
ends s (w ∷ ws) = later (ends s ws)

first_last : (s : List ℕ) (xs : List Item) → Ends s (reverse (Normal s ∷ xs))
first_last s xs = subst (Ends s) (sym (reverse-append (Normal s ∷ []) xs)) (ends s (reverse xs))

no_end : (s : List ℕ) (xs : List Item) → xs ≡ [] → Ends s xs → ⊥
no_end s [] e h = elim h [ ]
no_end s (x ∷ xs) e h = cc

one_end : (s : List ℕ) (x : Item) → Ends s (x ∷ []) → x ≡ Normal s
one_end s x alone = refl
one_end s x (later h) = elim h [ ]

other_end : (s : List ℕ) (x y : Item) → Ends s (x ∷ y ∷ []) → y ≡ Normal s
other_end s x y (later h) = one_end s y h

after_name : {s t : List ℕ} {xs ys : List Item} → LeadsTo (Normal s ∷ xs) (Normal t ∷ ys) → LeadsTo xs ys
after_name (name h) = h

-- below its first name comes `.`
dot_below : {s : List ℕ} {xs ys : List Item} → LeadsTo xs ys → Ends s ys → LeadsTo (ys ++ CurDir ∷ []) (ys ++ CurDir ∷ [])
dot_below nowhere e = elim e [ ]
dot_below {s} (prefix {s = t}) e = let never = one_end s (Prefix t) e in cc
dot_below {s} bare_root e = let never = one_end s RootDir e in cc
dot_below {s} (root {s = t}) e = let never = other_end s RootDir (Prefix t) e in cc
dot_below {s} start e = let never = one_end s CurDir e in cc
dot_below (here h) e = dot_below h e
dot_below (name h) alone = name start
dot_below (name h) (later e) = name (dot_below h e)
dot_below (up h) e = after_name (dot_below h (later e))

dotted : (s : List ℕ) (xs : List Item) → LeadsTo (reverse (Normal s ∷ xs)) (reverse (Normal s ∷ xs)) → LeadsTo (reverse (CurDir ∷ Normal s ∷ xs)) (reverse (CurDir ∷ Normal s ∷ xs))
dotted s xs h =
    let e : reverse (CurDir ∷ Normal s ∷ xs) ≡ reverse (Normal s ∷ xs) ++ CurDir ∷ [] = reverse-append (CurDir ∷ []) (Normal s ∷ xs) in
    subst (λ z. LeadsTo z z) (sym e) (dot_below h (first_last s xs))

verbatim_or : (xs : List Item) → AreVerbatim xs ⊎ ¬ (AreVerbatim xs)
verbatim_or [] = inr (λ h. h)
verbatim_or (Prefix s ∷ xs) = cases (begins_verbatim s) refl
  where
    cases : (v : Bool) → begins_verbatim s ≡ v → AreVerbatim (Prefix s ∷ xs) ⊎ ¬ (AreVerbatim (Prefix s ∷ xs))
    cases true e = inl e
    cases false e = inr (λ h. let never : true ≡ false = sym h ∙ e in cc)
verbatim_or (RootDir ∷ xs) = inr (λ h. h)
verbatim_or (CurDir ∷ xs) = inr (λ h. h)
verbatim_or (ParentDir ∷ xs) = inr (λ h. h)
verbatim_or (Normal s ∷ xs) = inr (λ h. h)

normal_of : (xs : List Item) → LeadsTo (reverse xs) (reverse xs) → IsNormalForm xs xs
normal_of xs k = elim (verbatim_or xs) as (λ z. IsNormalForm xs xs) [ inl v ↦ inl (v, refl) | inr n ↦ inr (n, k) ]

normal_again : (items normal : List Item) → IsNormalForm items normal → IsNormalForm normal normal
normal_again items normal (inl h) = inl (subst AreVerbatim (sym h.1) h.0, refl)
normal_again items normal (inr h) = normal_of normal (again h.1)

-- with a `.` before its first name
shielded_again : (w : Style) (items normal : List Item) → IsNormalForm items normal → BeginsWithColon w normal → IsNormalForm (CurDir ∷ normal) (CurDir ∷ normal)
shielded_again w items [] f b = absurd b
shielded_again w items (Prefix s ∷ xs) f b = absurd b
shielded_again w items (RootDir ∷ xs) f b = absurd b
shielded_again w items (CurDir ∷ xs) f b = absurd b
shielded_again w items (ParentDir ∷ xs) f b = absurd b
shielded_again w items (Normal s ∷ xs) (inl h) b = absurd (subst AreVerbatim (sym h.1) h.0)
shielded_again w items (Normal s ∷ xs) (inr h) b = inr (λ v. v, dotted s xs (again h.1))

not_begun : (w : Style) (normal shown : List Item) → shown ≡ CurDir ∷ normal → ¬ (BeginsWithColon w shown)
not_begun w normal shown e b = subst (BeginsWithColon w) e b

written_again : (w : Style) (path answer : List ℕ) → IsNormalWritten w path answer → IsNormalWritten w answer answer
written_again w path answer h = elim h.shielded as (λ z. IsNormalWritten w answer answer) [
  | inl b ↦ record {
    items = h.shown;
    normal = h.shown;
    shown = h.shown;
    are = h.answers.0;
    form = subst (λ z. IsNormalForm z z) (sym b.1) (shielded_again w h.items h.normal h.form b.0);
    shielded = inr (not_begun w h.normal h.shown b.1, refl);
    answers = h.answers;
    even = h.even;
  }
  | inr n ↦ record {
    items = h.shown;
    normal = h.shown;
    shown = h.shown;
    are = h.answers.0;
    form = subst (λ z. IsNormalForm z z) (sym n.1) (normal_again h.items h.normal h.form);
    shielded = inr (subst (λ z. ¬ (BeginsWithColon w z)) (sym n.1) n.0, refl);
    answers = h.answers;
    even = h.even;
  }
]

pub normalized_again : (w : Style) (path answer : List ℕ) → IsNormalized w path answer → IsNormalized w answer answer
normalized_again w path answer (inl h) = inl (subst (BeginsOddly w) (sym h.1) h.0, refl)
normalized_again w path answer (inr h) = inr (h.1.even, written_again w path answer h.1)

-- clean forms
after_clean : {s t : List ℕ} {xs ys : List Item} → CleansTo (Normal s ∷ xs) (Normal t ∷ ys) → CleansTo xs ys
after_clean (clean.name h) = h

pub clean_again : {xs ys : List Item} → CleansTo xs ys → CleansTo ys ys
clean_again clean.nothing = clean.nothing
clean_again clean.prefix = clean.prefix
clean_again clean.bare_root = clean.bare_root
clean_again clean.root = clean.root
clean_again (clean.here h) = clean_again h
clean_again (clean.name h) = clean.name (clean_again h)
clean_again (clean.up h) = after_clean (clean_again h)
clean_again (clean.at_root h) = clean_again h
clean_again (clean.out h s) = clean.out (clean_again h) s

no_stay : (s : List ℕ) (ys zs : List Item) → Normal s ∷ ys ≡ zs → StaysAfter zs → ⊥
no_stay s ys zs e h = subst StaysAfter (sym e) h

no_stay_root : (ys zs : List Item) → RootDir ∷ ys ≡ zs → StaysAfter zs → ⊥
no_stay_root ys zs e h = subst StaysAfter (sym e) h

pub one_clean : {xs ys zs : List Item} → CleansTo xs ys → CleansTo xs zs → ys ≡ zs
one_clean clean.nothing clean.nothing = refl
one_clean clean.prefix clean.prefix = refl
one_clean clean.bare_root clean.bare_root = refl
one_clean clean.root clean.root = refl
one_clean (clean.here h) (clean.here k) = one_clean h k
one_clean (clean.name {s} h) (clean.name k) = ap (λ z. Normal s ∷ z) (one_clean h k)
one_clean (clean.up h) (clean.up k) = let same = one_clean h k in cc
one_clean (clean.up h) (clean.at_root k) = let same = one_clean h k in cc
one_clean (clean.up {s} {ys = ys} h) (clean.out {ys = zs} k t) = absurd (no_stay s ys zs (one_clean h k) t)
one_clean (clean.at_root h) (clean.up k) = let same = one_clean h k in cc
one_clean (clean.at_root h) (clean.at_root k) = one_clean h k
one_clean (clean.at_root {ys = ys} h) (clean.out {ys = zs} k t) = absurd (no_stay_root ys zs (one_clean h k) t)
one_clean (clean.out {ys = ys} h t) (clean.up {s} {ys = zs} k) = absurd (no_stay s zs ys (sym (one_clean h k)) t)
one_clean (clean.out {ys = ys} h t) (clean.at_root {ys = zs} k) = absurd (no_stay_root zs ys (sym (one_clean h k)) t)
one_clean (clean.out h t) (clean.out k u) = ap (λ z. ParentDir ∷ z) (one_clean h k)

clean_below : {s : List ℕ} {xs ys : List Item} → CleansTo xs ys → Ends s ys → CleansTo (ys ++ CurDir ∷ []) ys
clean_below clean.nothing e = elim e [ ]
clean_below {s} (clean.prefix {s = t}) e = let never = one_end s (Prefix t) e in cc
clean_below {s} clean.bare_root e = let never = one_end s RootDir e in cc
clean_below {s} (clean.root {s = t}) e = let never = other_end s RootDir (Prefix t) e in cc
clean_below (clean.here h) e = clean_below h e
clean_below (clean.name h) alone = clean.name (clean.here clean.nothing)
clean_below (clean.name h) (later e) = clean.name (clean_below h e)
clean_below (clean.up h) e = after_clean (clean_below h (later e))
clean_below (clean.at_root h) e = clean_below h e
clean_below (clean.out h t) (later e) = clean.out (clean_below h e) t

clean_of : (xs : List Item) → map spelled xs ≡ xs → CleansTo (reverse xs) (reverse xs) → IsCleanForm (or_dot xs) (or_dot xs)
clean_of [] e k = inr (λ v. v, ([], (clean.here clean.nothing, refl)))
clean_of (x ∷ xs) e k = elim (verbatim_or (x ∷ xs)) as (λ z. IsCleanForm (x ∷ xs) (x ∷ xs)) [ inl v ↦ inl (v, refl) | inr n ↦ inr (n, (x ∷ xs, (k, ap or_dot (sym e)))) ]

form_again : (items form : List Item) → IsCleanForm items form → IsCleanForm form form
form_again items form (inl h) = inl (subst AreVerbatim (sym h.1) h.0, refl)
form_again items form (inr h) = subst (λ z. IsCleanForm z z) (sym h.1.1.1) (clean_of (map spelled h.1.0) (all_again h.1.0) (both_spelled h.1.0 h.1.0 (clean_again h.1.1.0)))

clean_dotted : (w : Style) (left : List Item) → CleansTo (reverse left) (reverse left) → BeginsWithColon w (or_dot left) → CleansTo (reverse (CurDir ∷ or_dot left)) (reverse left)
clean_dotted w [] k b = absurd b
clean_dotted w (Prefix s ∷ xs) k b = absurd b
clean_dotted w (RootDir ∷ xs) k b = absurd b
clean_dotted w (CurDir ∷ xs) k b = absurd b
clean_dotted w (ParentDir ∷ xs) k b = absurd b
clean_dotted w (Normal s ∷ xs) k b =
    let e : reverse (CurDir ∷ Normal s ∷ xs) ≡ reverse (Normal s ∷ xs) ++ CurDir ∷ [] = reverse-append (CurDir ∷ []) (Normal s ∷ xs) in
    subst (λ z. CleansTo z (reverse (Normal s ∷ xs))) (sym e) (clean_below k (first_last s xs))

not_verbatim : (w : Style) (xs : List Item) → BeginsWithColon w xs → ¬ (AreVerbatim xs)
not_verbatim w [] b v = b
not_verbatim w (Prefix s ∷ xs) b v = b
not_verbatim w (RootDir ∷ xs) b v = b
not_verbatim w (CurDir ∷ xs) b v = b
not_verbatim w (ParentDir ∷ xs) b v = b
not_verbatim w (Normal s ∷ xs) b v = v

clean_shielded : (w : Style) (items form : List Item) → IsCleanForm items form → BeginsWithColon w form → IsCleanForm (CurDir ∷ form) form
clean_shielded w items form (inl h) b = absurd (not_verbatim w form b (subst AreVerbatim (sym h.1) h.0))
clean_shielded w items form (inr h) b =
    let left = map spelled h.1.0 in
    let e : form ≡ or_dot left = h.1.1.1 in
    let k : CleansTo (reverse left) (reverse left) = both_spelled h.1.0 h.1.0 (clean_again h.1.1.0) in
    inr (λ v. v, (left, (subst (λ z. CleansTo (reverse (CurDir ∷ z)) (reverse left)) (sym e) (clean_dotted w left k (subst (BeginsWithColon w) e b)), e ∙ ap or_dot (sym (all_again h.1.0)))))

clean_written_again : (w : Style) (path answer : List ℕ) → IsCleanWritten w path answer → IsCleanWritten w answer answer
clean_written_again w path answer h = elim h.shielded as (λ z. IsCleanWritten w answer answer) [
  | inl b ↦ record {
    items = h.shown;
    clean = h.clean;
    shown = h.shown;
    are = h.answers.0;
    form = subst (λ z. IsCleanForm z h.clean) (sym b.1) (clean_shielded w h.items h.clean h.form b.0);
    shielded = inl b;
    answers = h.answers;
    even = h.even;
  }
  | inr n ↦ record {
    items = h.shown;
    clean = h.clean;
    shown = h.shown;
    are = h.answers.0;
    form = subst (λ z. IsCleanForm z h.clean) (sym n.1) (form_again h.items h.clean h.form);
    shielded = inr n;
    answers = h.answers;
    even = h.even;
  }
]

pub cleaned_again : (w : Style) (path answer : List ℕ) → IsCleaned w path answer → IsCleaned w answer answer
cleaned_again w path answer (inl h) = inl (subst (BeginsOddly w) (sym h.1) (odd_spelled w path h.0), h.1 ∙ sym (spelling_again path) ∙ ap one_spelling (sym h.1))
cleaned_again w path answer (inr h) = inr (h.1.even, clean_written_again w path answer h.1)

-- both forms keep the kind of a path's beginning
pub normal_beginning : (w : Style) (path answer : List ℕ) → IsNormalized w path answer → BeginsOddly w path ↔ BeginsOddly w answer
normal_beginning w path answer (inl h) = (λ o. subst (BeginsOddly w) (sym h.1) o, λ o. h.0)
normal_beginning w path answer (inr h) = (λ o. absurd (h.0 o), λ o. absurd (h.1.even o))

pub clean_beginning : (w : Style) (path answer : List ℕ) → IsCleaned w path answer → BeginsOddly w path ↔ BeginsOddly w answer
clean_beginning w path answer (inl h) = (λ o. subst (BeginsOddly w) (sym h.1) (odd_spelled w path o), λ o. h.0)
clean_beginning w path answer (inr h) = (λ o. absurd (h.0 o), λ o. absurd (h.1.even o))

-- neither form begins as a path of the object manager
pub normal_no_object : (path answer : List ℕ) → IsNormalized style.Windows path answer → ¬ (BeginsAsObject answer)
normal_no_object path answer (inl h) b = odd_no_object path h.0 (subst BeginsAsObject h.1 b)
normal_no_object path answer (inr h) b = no_object h.1.shown answer h.1.answers b

pub clean_no_object : (path answer : List ℕ) → IsCleaned style.Windows path answer → ¬ (BeginsAsObject answer)
clean_no_object path answer (inl h) b = odd_no_object (one_spelling path) (odd_spelled style.Windows path h.0) (subst BeginsAsObject h.1 b)
clean_no_object path answer (inr h) b = no_object h.1.shown answer h.1.answers b
