-- A path up to what comes before its last component.
use Rattle.std.proofs.Common.{◌≡◌, ◌⊎◌, inl, inr, ◌≤◌, ◌+◌, ◌-◌, ℕ, Bool, true, false, if◌then◌else◌, List, [], ◌∷◌, ◌++◌, length, refl, sym, ap, ◌∙◌, subst, arith, append_assoc, append-nil, length-append, lit<}
use Rattle.std.proofs.lemmas.List.{same_from_push, append_cancel_right}
use Rattle.path_rules.specs.declared.rules.Rules.{Rules}
use Rattle.path_rules.specs.declared.rules.Rules.TheVariants as rules
use Rattle.path_rules.specs.declared.head.Start.{Start}
use Rattle.path_rules.specs.declared.head.Start.TheVariants.{Root, Dot, Nothing}
use Rattle.path_rules.specs.declared.head.Head.{Head}
use Rattle.path_rules.specs.Separators.{separates, Edge}
use Rattle.path_rules.specs.Component.{Item, Prefix, RootDir, CurDir, components_in}
use Rattle.path_rules.specs.Body.{HasBody, EndsTight}
use Rattle.path_rules.specs.Heads.{prefix_items, start_items, items_of}
use Rattle.path_rules.specs.Prefix.{Kind, Verbatim, VerbatimUnc, VerbatimDisk, Device, Unc, Disk, rules_of}
use Rattle.path_rules.specs.Components.{start_of, after_start, implied_root, root_of, after_root, plain_components, IsStartOf, prefixed, bare, AreComponents}
use Rattle.path_rules.specs.HeadParts.{IsUnixHead, IsBareHead, IsPrefixedHead, IsWindowsHead, bare_head, prefixed_head, IsHead}
use Rattle.path_rules.specs.Parent.{IsParent, IsTop}
use Rattle.path_rules.specs.Cut.{IsAsciiCut, at_start, at_end, after_ascii}
use Rattle.path_rules.proofs.lemmas.Ascii.{ascii_separators, edge_cut}
use Rattle.path_rules.proofs.lemmas.Edges.{edge_after}
use Rattle.path_rules.proofs.lemmas.Starts.{Tiny, bodies, body_short, Ends}
use Rattle.path_rules.proofs.lemmas.Keeps.{prefix_stays}
use Rattle.path_rules.proofs.lemmas.Totals.{none_by_cut}
use Rattle.path_rules.proofs.lemmas.OneList.{one_components}
use Rattle.path_rules.specs.declared.rules.Style as whose
use Rattle.path_rules.specs.declared.rules.Style.TheVariants as style

-- what follows a prefix, up to the end t of a part at the start of the body
record Cut (kind : Kind) (rest t : List ℕ) : Type 0 where
  before : List ℕ
  more : List ℕ
  joined : rest ≡ before ++ more
  root : root_of kind before ≡ root_of kind rest
  body : after_root before ≡ t
  front : List ℕ
  tail : before ≡ front ++ t
  long : length before + length (after_root rest) ≡ length rest + length t
  beside : (raw : List ℕ) → Edge rules.Either rest ⊎ ((d : ℕ) × (raw ≡ d ∷ 0x3A ∷ [])) → IsAsciiCut (raw ++ before) more

cut_root : (r : Rules) (kind : Kind) (rest t : List ℕ) → Ends r (after_root rest) t → Cut kind rest t
cut_root r kind [] t (inl n) = record { before = []; more = []; joined = refl; root = refl; body = sym n; front = []; tail = sym n; long = let l : length t ≡ 0 = ap length n in omega arith; beside = λ raw k. at_end refl }
cut_root r kind [] [] (inr f) = record { before = []; more = []; joined = refl; root = refl; body = refl; front = []; tail = refl; long = omega arith; beside = λ raw k. at_end refl }
cut_root r kind [] (c ∷ t) (inr f) = let never : [] ≡ c ∷ (t ++ f.more) = f.joined in cc
cut_root r kind (c ∷ u) t h = cases (separates rules.Either c) refl h
  where
    cases : (v : Bool) → separates rules.Either c ≡ v → Ends r (if separates rules.Either c then u else c ∷ u) t → Cut kind (c ∷ u) t
    cases true e g = rooted (subst (λ x. Ends r (if x then u else c ∷ u) t) e g)
      where
        at : (w : List ℕ) → after_root (c ∷ w) ≡ w
        at w = ap (λ x. if x then w else c ∷ w) e

        make : (more : List ℕ) → u ≡ t ++ more → ((raw : List ℕ) → IsAsciiCut (raw ++ c ∷ t) more) → Cut kind (c ∷ u) t
        make more j b = record { before = c ∷ t; more = more; joined = ap (λ x. c ∷ x) j; root = refl; body = at t; front = c ∷ []; tail = refl; long = omega (arith, ap length (at u)); beside = λ raw k. b raw }

        rooted : Ends r u t → Cut kind (c ∷ u) t
        rooted (inl n) = make u (sym (ap (λ x. x ++ u) n)) (λ raw. after_ascii raw c (ap (λ x. raw ++ c ∷ x) n) (ascii_separators rules.Either c e))
        rooted (inr f) = make f.more f.joined (λ raw. edge_cut r (raw ++ c ∷ t) f.more f.edge)
    cases false e g = plain t (subst (λ x. Ends r (if x then u else c ∷ u) t) e g)
      where
        here : after_root (c ∷ u) ≡ c ∷ u
        here = ap (λ x. if x then u else c ∷ u) e

        none : root_of kind (c ∷ u) ≡ implied_root kind
        none = ap (λ x. if x then Root else implied_root kind) e

        after_drive : (raw : List ℕ) → Edge rules.Either (c ∷ u) ⊎ ((d : ℕ) × (raw ≡ d ∷ 0x3A ∷ [])) → IsAsciiCut (raw ++ []) (c ∷ u)
        after_drive raw (inl k) = let never : true ≡ false = sym k ∙ e in cc
        after_drive raw (inr k) = after_ascii (k.0 ∷ []) 0x3A (append-nil raw ∙ k.1) (lit< tt)

        plain : (t : List ℕ) → Ends r (c ∷ u) t → Cut kind (c ∷ u) t
        plain t (inl n) = record { before = []; more = c ∷ u; joined = refl; root = sym none; body = sym n; front = []; tail = sym n; long = let l : length t ≡ 0 = ap length n in omega (arith, ap length here); beside = after_drive }
        plain [] (inr f) = record { before = []; more = c ∷ u; joined = refl; root = sym none; body = refl; front = []; tail = refl; long = omega (arith, ap length here); beside = after_drive }
        plain (d ∷ t) (inr f) =
            let first : c ≡ d = let j = f.joined in cc in
            let no : separates rules.Either d ≡ false = ap (separates rules.Either) (sym first) ∙ e in
            record {
              before = d ∷ t;
              more = f.more;
              joined = f.joined;
              root = ap (λ x. if x then Root else implied_root kind) no ∙ sym none;
              body = ap (λ x. if x then t else d ∷ t) no;
              front = [];
              tail = refl;
              long = omega (arith, ap length here);
              beside = λ raw k. edge_cut r (raw ++ d ∷ t) f.more f.edge;
            }

-- what is left of a prefix
pub raw_drive : (s raw rest : List ℕ) → s ≡ raw ++ rest → Edge rules.Either rest ⊎ ((letter : ℕ) × (s ≡ letter ∷ 0x3A ∷ rest)) → Edge rules.Either rest ⊎ ((d : ℕ) × (raw ≡ d ∷ 0x3A ∷ []))
raw_drive s raw rest j (inl e) = inl e
raw_drive s raw rest j (inr k) = inr (k.0, append_cancel_right raw (k.0 ∷ 0x3A ∷ []) rest (sym j ∙ k.1))

-- a part at the start of the path with its components but these last ones, and so many bytes
pub record Shorter (w : whose.Style) (path : List ℕ) (head : Head) (rest : List ℕ) (xs : List Item) : Type 0 where
  pub before : List ℕ
  pub more : List ℕ
  pub joined : path ≡ before ++ more
  pub beside : IsAsciiCut before more
  pub long : length before + length head.body.now ≡ length path + length rest
  pub short : length head.body.now ≤ length path
  pub front : List ℕ
  pub tail : before ≡ front ++ rest
  pub items : List Item
  pub first : List Item
  pub listed : items ≡ first ++ components_in head.rules rest
  pub are : AreComponents w before items
  pub whole : AreComponents w path (items ++ xs)
  pub has : HasBody w before head.rules rest

-- its parts, where the path has no prefix
record Plain (r : Rules) (path : List ℕ) (head : Head) (rest : List ℕ) (xs : List Item) : Type 0 where
  before : List ℕ
  more : List ℕ
  cut : Tiny before ⊎ Edge r more
  joined : path ≡ before ++ more
  beside : IsAsciiCut before more
  long : length before + length head.body.now ≡ length path + length rest
  short : length head.body.now ≤ length path
  front : List ℕ
  tail : before ≡ front ++ rest
  items : List Item
  first : List Item
  listed : items ≡ first ++ components_in head.rules rest
  are : items ≡ plain_components r before
  whole : items ++ xs ≡ plain_components r path
  kept : after_start (start_of r before) before ≡ rest

module _ (path : List ℕ) (head : Head) (rest : List ℕ) (xs : List Item) (ends : Ends head.rules head.body.now rest) (named : components_in head.rules head.body.now ≡ components_in head.rules rest ++ xs) where
  plain_shorter : (r : Rules) → head.rules ≡ r → IsStartOf r path head.start head.body.now → Plain r path head rest xs
  plain_shorter r k start =
      let st = head.start in
      let e = start.0 in
      let b = start.1 in
      let at : Ends r (after_start st path) rest = subst (λ y. Ends r y rest) b (subst (λ y. Ends y head.body.now rest) k ends) in
      let q = bodies r st path e rest at in
      let now : components_in r head.body.now ≡ components_in r rest ++ xs = subst (λ y. components_in y head.body.now ≡ components_in y rest ++ xs) k named in
      let s = start_of r path in
      record {
        before = q.before;
        more = q.more;
        cut = q.cut;
        joined = q.joined;
        beside = q.beside;
        long = let l = q.long in omega (arith, ap length b);
        short = body_short path head.body.now st b;
        front = q.front;
        tail = q.tail;
        first = start_items s;
        listed = ap (λ y. start_items s ++ components_in y rest) (sym k);
        items = start_items s ++ components_in r rest;
        are = sym q.items;
        kept = q.kept;
        whole =
            append_assoc (start_items s) (components_in r rest) xs ∙ ap (λ y. start_items s ++ y) (sym now)
            ∙ ap (λ y. start_items s ++ components_in r y) b ∙ ap (λ y. start_items s ++ components_in r (after_start y path)) e;
      }

  of_unix : IsUnixHead path head → Shorter style.Unix path head rest xs
  of_unix h =
      let q = plain_shorter rules.Slash h.rules h.start in
      record { before = q.before; more = q.more; joined = q.joined; beside = q.beside; long = q.long; short = q.short; front = q.front; tail = q.tail; items = q.items; first = q.first; listed = q.listed; are = q.are; whole = q.whole; has = record { rules = h.rules; is = sym q.kept } }

  of_bare : IsBareHead path head → Shorter style.Windows path head rest xs
  of_bare h =
      let q = plain_shorter rules.Either h.rules h.start in
      record {
        before = q.before;
        more = q.more;
        joined = q.joined;
        beside = q.beside;
        long = q.long;
        short = q.short;
        front = q.front;
        tail = q.tail;
        items = q.items;
        first = q.first;
        listed = q.listed;
        are = bare (record { none = none_by_cut path q.before q.more q.joined q.cut h.none; are = q.are });
        has = inr (none_by_cut path q.before q.more q.joined q.cut h.none, record { rules = h.rules; is = sym q.kept });
        whole = bare (record { none = h.none; are = q.whole });
      }

  of_prefixed : IsPrefixedHead path head → Shorter style.Windows path head rest xs
  of_prefixed h =
      let r = h.rules in
      let k = h.kind in
      let at : Ends (rules_of k) (after_root h.rest) rest = subst (λ y. Ends (rules_of k) y rest) h.body (subst (λ y. Ends y head.body.now rest) r ends) in
      let c = cut_root (rules_of k) k h.rest rest at in
      let p = prefix_stays path k h.rest c.before c.more c.joined h.is in
      let now : components_in (rules_of k) head.body.now ≡ components_in (rules_of k) rest ++ xs = subst (λ y. components_in y head.body.now ≡ components_in y rest ++ xs) r named in
      let roots = start_items (root_of k h.rest) in
      let sizes : length path ≡ length p.before + length h.rest = ap length p.joined ∙ length-append p.before h.rest in
      record {
        before = p.before ++ c.before;
        more = c.more;
        joined = p.joined ∙ ap (λ y. p.before ++ y) c.joined ∙ sym (append_assoc p.before c.before c.more);
        beside = c.beside p.before (raw_drive path p.before h.rest p.joined (edge_after path k h.rest h.is));
        long = let l = c.long in omega (arith, ap length h.body, length-append p.before c.before);
        short = let l = c.long in let j = ap length c.joined in omega (arith, ap length h.body, length-append c.before c.more, after_root_short h.rest);
        front = p.before ++ c.front;
        tail = ap (λ y. p.before ++ y) c.tail ∙ sym (append_assoc p.before c.front rest);
        items = Prefix p.before ∷ (roots ++ components_in (rules_of k) rest);
        first = Prefix p.before ∷ roots;
        listed = ap (λ y. Prefix p.before ∷ (roots ++ components_in y rest)) (sym r);
        has = inl (record { kind = k; rest = c.before; prefix = p.kept; rules = h.rules; is = sym c.body });
        are = prefixed (record {
          kind = k;
          raw = p.before;
          rest = c.before;
          joined = refl;
          prefix = p.kept;
          are =
              ap (λ y. Prefix p.before ∷ (start_items y ++ components_in (rules_of k) rest)) (sym c.root)
              ∙ ap (λ y. Prefix p.before ∷ (start_items (root_of k c.before) ++ components_in (rules_of k) y)) (sym c.body);
        });
        whole = prefixed (record {
          kind = k;
          raw = p.before;
          rest = h.rest;
          joined = p.joined;
          prefix = h.is;
          are =
              ap (λ y. Prefix p.before ∷ y) (append_assoc roots (components_in (rules_of k) rest) xs) ∙ ap (λ y. Prefix p.before ∷ (roots ++ y)) (sym now)
              ∙ ap (λ y. Prefix p.before ∷ (roots ++ components_in (rules_of k) y)) h.body;
        });
      }
    where
      chosen : (v : Bool) (c : ℕ) (u : List ℕ) → length (if v then u else c ∷ u) ≤ length (c ∷ u)
      chosen true c u = omega arith
      chosen false c u = omega arith

      after_root_short : (s : List ℕ) → length (after_root s) ≤ length s
      after_root_short [] = omega arith
      after_root_short (c ∷ u) = chosen (separates rules.Either c) c u

  of_windows : IsWindowsHead path head → Shorter style.Windows path head rest xs
  of_windows (bare_head h) = of_bare h
  of_windows (prefixed_head h) = of_prefixed h

  pub shorter_of : (w : whose.Style) → IsHead w path head → Shorter w path head rest xs
  shorter_of style.Unix h = of_unix h
  shorter_of style.Windows h = of_windows h

  pub inside : (w : whose.Style) → IsHead w path head → length path - length head.body.now + length rest ≤ length path
  inside w h = let f = shorter_of w h in let l = f.long in let s = f.short in omega (arith, ap length f.joined, length-append f.before f.more)

  pub body_inside : (w : whose.Style) → IsHead w path head → length head.body.now ≤ length path
  body_inside w h = (shorter_of w h).short

-- a path that is `.` alone
pub no_dot : (k : Kind) (rest : List ℕ) → root_of k rest ≡ Dot → ⊥
no_dot k [] e = implied k e
  where
    implied : (k : Kind) → implied_root k ≡ Dot → ⊥
    implied (Verbatim n) f = cc
    implied (VerbatimUnc n m) f = cc
    implied (VerbatimDisk l) f = cc
    implied (Device n) f = cc
    implied (Unc n m) f = cc
    implied (Disk l) f = cc
no_dot k (c ∷ u) e = chosen (separates rules.Either c) e
  where
    implied : (k : Kind) → implied_root k ≡ Dot → ⊥
    implied (Verbatim n) f = cc
    implied (VerbatimUnc n m) f = cc
    implied (VerbatimDisk l) f = cc
    implied (Device n) f = cc
    implied (Unc n m) f = cc
    implied (Disk l) f = cc

    chosen : (v : Bool) → (if v then Root else implied_root k) ≡ Dot → ⊥
    chosen true f = let never : Root ≡ Dot = f in cc
    chosen false f = implied k f

no_body : (r : Rules) (path body : List ℕ) (st : Start) → st ≡ Dot → IsStartOf r path st body → components_in r body ≡ [] → CurDir ∷ [] ≡ plain_components r path
no_body r path body st d start empty =
    let b : body ≡ after_start Dot path = start.1 ∙ ap (λ y. after_start y path) d in
    let e : Dot ≡ start_of r path = sym d ∙ start.0 in
    ap (λ y. CurDir ∷ y) (sym empty) ∙ ap (λ y. CurDir ∷ components_in r y) b ∙ ap (λ y. start_items y ++ components_in r (after_start y path)) e

pub nothing_of : (w : whose.Style) → AreComponents w [] []
nothing_of style.Unix = refl
nothing_of style.Windows = bare (record { none = λ k rest f. f; are = refl })

pub empty_tight : (w : whose.Style) (none : List ℕ) → none ≡ [] → EndsTight w none
empty_tight w none n = subst (EndsTight w) (sym n) (at w)
  where
    at : (w : whose.Style) → EndsTight w []
    at style.Unix = record { rules = rules.Slash; body = []; has = record { rules = refl; is = refl }; named = λ parts part some f. absurd (some refl) }
    at style.Windows = record { rules = rules.Either; body = []; has = inr (λ k rest f. f, record { rules = refl; is = refl }); named = λ parts part some f. absurd (some refl) }

dot_whole : (w : whose.Style) (path : List ℕ) (head : Head) → head.start ≡ Dot → components_in head.rules head.body.now ≡ [] → IsHead w path head → AreComponents w path (CurDir ∷ [])
dot_whole style.Unix path head d empty h = no_body rules.Slash path head.body.now head.start d h.start (subst (λ y. components_in y head.body.now ≡ []) h.rules empty)
dot_whole style.Windows path head d empty (prefixed_head h) = absurd (no_dot h.kind h.rest (sym h.start ∙ d))
dot_whole style.Windows path head d empty (bare_head h) =
    bare (record { none = h.none; are = no_body rules.Either path head.body.now head.start d h.start (subst (λ y. components_in y head.body.now ≡ []) h.rules empty) })

pub parent_of_dot : (w : whose.Style) (path none : List ℕ) (head : Head) → none ≡ [] → head.start ≡ Dot → components_in head.rules head.body.now ≡ [] → IsHead w path head → IsParent w path none
parent_of_dot w path none head n d empty h = record {
  after = path;
  joined = sym (ap (λ y. y ++ path) n);
  cut = at_start n;
  items = [];
  last = CurDir;
  are = subst (λ y. AreComponents w y []) (sym n) (nothing_of w);
  whole = dot_whole w path head d empty h;
  below = tt;
  tight = empty_tight w none n;
  within = inr (refl, refl);
}

-- a path of a prefix and a root alone, or of nothing
top_last : (p : List ℕ) (st : Start) (items : List Item) (last : Item) → (st ≡ Dot → ⊥) → items ++ last ∷ [] ≡ prefix_items p ++ (start_items st ++ []) → IsTop last
top_last p Dot items last n e = absurd (n refl)
top_last [] Root items last n e = let same = (same_from_push items [] last RootDir e).1 in subst IsTop (sym same) tt
top_last [] Nothing [] last n e = cc
top_last [] Nothing (y ∷ items) last n e = cc
top_last (b ∷ p) Root items last n e = let same = (same_from_push items (Prefix (b ∷ p) ∷ []) last RootDir e).1 in subst IsTop (sym same) tt
top_last (b ∷ p) Nothing items last n e = let same = (same_from_push items [] last (Prefix (b ∷ p)) e).1 in subst IsTop (sym same) tt

pub no_parent : (w : whose.Style) (path : List ℕ) (head : Head) → AreComponents w path (items_of head) → components_in head.rules head.body.now ≡ [] → (head.start ≡ Dot → ⊥) → (items : List Item) (last : Item) → AreComponents w path (items ++ last ∷ []) → IsTop last
no_parent w path head h empty n items last k =
    top_last head.prefix.now head.start items last n (one_components w path (items ++ last ∷ []) (items_of head) k h ∙ ap (λ y. prefix_items head.prefix.now ++ (start_items head.start ++ y)) empty)
