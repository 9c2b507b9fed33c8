-- Where the last name of a path is.
use Rattle.std.proofs.Common.{◌≡◌, inl, inr, ◌≤◌, ◌+◌, ◌-◌, ◌≢◌, ℕ, Bool, true, false, nat_eq, ◌&&◌, if◌then◌else◌, List, [], ◌∷◌, ◌++◌, length, take, drop, Option, Some, None, sym, ap, ◌∙◌, subst, arith, append_assoc, append-nil, length-append, take-append-drop}
use Rattle.std.proofs.lemmas.List.{take_at, drop_at, same_from_push, length-take-le}
use Rattle.path_rules.specs.declared.rules.Rules.{Rules}
use Rattle.path_rules.specs.declared.rules.Rules.TheVariants as rules
use Rattle.path_rules.specs.declared.rules.Style as whose
use Rattle.path_rules.specs.declared.head.Head.{Head}
use Rattle.path_rules.specs.declared.head.Start.{Start}
use Rattle.path_rules.specs.declared.head.Start.TheVariants.{Root, Dot, Nothing}
use Rattle.path_rules.specs.Component.{Item, Prefix, RootDir, Normal, ParentDir, CurDir, dot, named, components_in}
use Rattle.path_rules.specs.Components.{AreComponents}
use Rattle.path_rules.specs.Heads.{items_of, prefix_items, start_items}
use Rattle.path_rules.specs.HeadParts.{IsHead, IsLastPart}
use Rattle.path_rules.specs.Cut.{IsAsciiCut}
use Rattle.path_rules.specs.Parent.{HasNoFileName}
use Rattle.path_building.specs.FileName.{IsNameEnd, IsStemExtended, IsNameExtended, dotted}
use Rattle.path_rules.specs.Name.{IsStem}
use Rattle.path_rules.proofs.lemmas.OneList.{one_components}
use Rattle.path_rules.proofs.lemmas.Parents.{Shorter, shorter_of}

-- a part that is a name is that name
chosen : (b : Bool) (x y : Option Item) (s t : List ℕ) → (x ≡ Some (Normal s) → t ≡ s) → (y ≡ Some (Normal s) → t ≡ s) → (if b then x else y) ≡ Some (Normal s) → t ≡ s
chosen true x y s t f g e = f e
chosen false x y s t f g e = g e

no_dot_name : (r : Rules) (s t : List ℕ) → dot r ≡ Some (Normal s) → t ≡ s
no_dot_name rules.Slash s t e = let never : None ≡ Some (Normal s) = e in cc
no_dot_name rules.Either s t e = let never : None ≡ Some (Normal s) = e in cc
no_dot_name rules.Verbatim s t e = let never : Some CurDir ≡ Some (Normal s) = e in cc

pub name_is : (r : Rules) (part s : List ℕ) → named r part ≡ Some (Normal s) → part ≡ s
name_is r [] s e = let never : None ≡ Some (Normal s) = e in cc
name_is r (a ∷ []) s e = chosen (nat_eq a 0x2E) (dot r) (Some (Normal (a ∷ []))) s (a ∷ []) (no_dot_name r s (a ∷ [])) (λ f. cc) e
name_is r (a ∷ b ∷ []) s e = chosen (nat_eq a 0x2E && nat_eq b 0x2E) (Some ParentDir) (Some (Normal (a ∷ b ∷ []))) s (a ∷ b ∷ []) (λ f. cc) (λ f. cc) e
name_is r (a ∷ b ∷ c ∷ t) s e = let same : Some (Normal (a ∷ b ∷ c ∷ t)) ≡ Some (Normal s) = e in cc

-- the path up to its last name
module _ (path : List ℕ) (head : Head) (left part : List ℕ) (last : IsLastPart head.rules head.body.now left part) (w : whose.Style) (is : IsHead w path head) where
  same_items : components_in head.rules head.body.now ≡ components_in head.rules left ++ []
  same_items = last.same ∙ sym (append-nil (components_in head.rules left))

  cut : Shorter w path head left []
  cut = shorter_of path head left [] (inr last.up_to) same_items w is

  pub end_inside : length path - length head.body.now + length left ≤ length path
  end_inside = let l = cut.long in let s = cut.short in omega (arith, ap length cut.joined, length-append cut.before cut.more)

  pub body_short : length head.body.now ≤ length path
  body_short = cut.short

  pub name_end : (name : List ℕ) → named head.rules part ≡ Some (Normal name) → IsNameEnd w path (length path - length head.body.now + length left) name
  name_end name e =
      let n = length path - length head.body.now + length left in
      let long : length cut.before ≡ n = let l = cut.long in let s = cut.short in omega arith in
      let before : take n path ≡ cut.before = ap (take n) cut.joined ∙ take_at cut.before cut.more n long in
      let after : drop n path ≡ cut.more = ap (drop n) cut.joined ∙ drop_at cut.before cut.more n long in
      let front = cut.front ++ last.front in
      let ends : cut.before ≡ front ++ name = cut.tail ∙ ap (λ x. cut.front ++ x) (last.joined ∙ ap (λ x. last.front ++ x) (name_is head.rules part name e)) ∙ sym (append_assoc cut.front last.front name) in
      let item : last.item ≡ Normal name = let same : Some last.item ≡ Some (Normal name) = sym last.names ∙ e in cc in
      let items : cut.items ≡ (cut.first ++ last.first) ++ Normal name ∷ [] = cut.listed ∙ ap (λ x. cut.first ++ x) (last.items ∙ ap (λ x. last.first ++ x ∷ []) item) ∙ sym (append_assoc cut.first last.first (Normal name ∷ [])) in (
        front,
        (
          before ∙ ends,
          record {
            joined = cut.joined ∙ ap (λ x. x ++ cut.more) ends ∙ append_assoc front name cut.more ∙ ap (λ x. front ++ (name ++ x)) (sym after);
            cut = subst (λ x. IsAsciiCut x (drop n path)) ends (subst (λ x. IsAsciiCut cut.before x) (sym after) cut.beside);
            items = cut.first ++ last.first;
            are = subst (λ x. AreComponents w x ((cut.first ++ last.first) ++ Normal name ∷ [])) ends (subst (AreComponents w cut.before) items cut.are);
            whole = subst (AreComponents w path) (append-nil cut.items ∙ items) cut.whole;
          },
        ),
      )

  pub no_name : ((name : List ℕ) → ¬ (named head.rules part ≡ Some (Normal name))) → HasNoFileName w path
  no_name h others before name are e =
      let all : others ≡ (cut.first ++ last.first) ++ last.item ∷ [] =
      one_components w path others (cut.items ++ []) are cut.whole ∙ append-nil cut.items ∙ cut.listed ∙ ap (λ x. cut.first ++ x) last.items ∙ sym (append_assoc cut.first last.first (last.item ∷ [])) in
      let same : Normal name ≡ last.item = (same_from_push before (cut.first ++ last.first) (Normal name) last.item (sym e ∙ all)).1 in
      h name (last.names ∙ ap Some (sym same))

-- a path whose body has no component
no_name_in_head : (p : List ℕ) (st : Start) (before : List Item) (name : List ℕ) → before ++ Normal name ∷ [] ≡ prefix_items p ++ (start_items st ++ []) → ⊥
no_name_in_head [] Nothing [] name e = cc
no_name_in_head [] Nothing (y ∷ before) name e = cc
no_name_in_head [] Root before name e = let same : Normal name ≡ RootDir = (same_from_push before [] (Normal name) RootDir e).1 in cc
no_name_in_head [] Dot before name e = let same : Normal name ≡ CurDir = (same_from_push before [] (Normal name) CurDir e).1 in cc
no_name_in_head (b ∷ p) Nothing before name e = let same : Normal name ≡ Prefix (b ∷ p) = (same_from_push before [] (Normal name) (Prefix (b ∷ p)) e).1 in cc
no_name_in_head (b ∷ p) Root before name e = let same : Normal name ≡ RootDir = (same_from_push before (Prefix (b ∷ p) ∷ []) (Normal name) RootDir e).1 in cc
no_name_in_head (b ∷ p) Dot before name e = let same : Normal name ≡ CurDir = (same_from_push before (Prefix (b ∷ p) ∷ []) (Normal name) CurDir e).1 in cc

pub no_body_name : (w : whose.Style) (path : List ℕ) (head : Head) → AreComponents w path (items_of head) → components_in head.rules head.body.now ≡ [] → HasNoFileName w path
no_body_name w path head h empty others before name are e =
    no_name_in_head head.prefix.now head.start before name (sym e ∙ one_components w path others (items_of head) are h ∙ ap (λ x. prefix_items head.prefix.now ++ (start_items head.start ++ x)) empty)

-- a stem begins its name
pub stem_prefix : (name stem : List ℕ) → IsStem name stem → (rest : List ℕ) × (name ≡ stem ++ rest)
stem_prefix name stem (inl h) = (0x2E ∷ h.0, h.1.joined)
stem_prefix name stem (inr h) = ([], sym h.1 ∙ sym (append-nil stem))

pub keep_stem : (path before name stem : List ℕ) (end : ℕ) → end ≤ length path → take end path ≡ before ++ name → IsStem name stem → take (end - (length name - length stem)) path ≡ before ++ stem
keep_stem path before name stem end inside e h =
    let s = stem_prefix name stem h in
    let n = end - (length name - length stem) in
    let whole : path ≡ (before ++ stem) ++ (s.0 ++ drop end path) =
    sym (take-append-drop end path) ∙ ap (λ x. x ++ drop end path) (e ∙ ap (λ x. before ++ x) s.1 ∙ sym (append_assoc before stem s.0))
    ∙ append_assoc (before ++ stem) s.0 (drop end path) in
    let full : length (take end path) ≡ end = length-take-le end path inside in
    let long : length (before ++ stem) ≡ n = omega (arith, ap length e, ap length s.1, length-append before name, length-append stem s.0, length-append before stem) in
    ap (take n) whole ∙ take_at (before ++ stem) (s.0 ++ drop end path) n long

-- the path with another extension
pub stem_extended : (w : whose.Style) (path name stem extension made : List ℕ) (end : ℕ) → end ≤ length path → IsNameEnd w path end name → IsStem name stem → made ≡ take (end - (length name - length stem)) path ++ dotted extension → IsStemExtended w path extension made
stem_extended w path name stem extension made end inside h s e = record {
  before = h.0;
  name = name;
  after = drop end path;
  stem = stem;
  at = h.1.1;
  stem_is = s;
  is = e ∙ ap (λ x. x ++ dotted extension) (keep_stem path h.0 name stem end inside h.1.0 s) ∙ append_assoc h.0 stem (dotted extension);
}

pub name_extended : (w : whose.Style) (path name extension made : List ℕ) (end : ℕ) → IsNameEnd w path end name → extension ≢ [] → made ≡ take end path ++ dotted extension → IsNameExtended w path extension made
name_extended w path name extension made end h some e = record {
  before = h.0;
  name = name;
  after = drop end path;
  at = h.1.1;
  is = inr (some, e ∙ ap (λ x. x ++ dotted extension) h.1.0 ∙ append_assoc h.0 name (dotted extension));
}
