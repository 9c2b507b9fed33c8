-- What an iterator over a path's components has left.
use Rattle.std.proofs.Common.{◌≡◌, ◌≢◌, ◌↔◌, ◌⊎◌, inl, inr, ◌<◌, ◌≤◌, ◌+◌, ℕ, Bool, true, false, List, [], ◌∷◌, ◌++◌, Option, Some, None, length, refl, sym, ap, ◌∙◌, subst, arith, append-nil, append_assoc, length-append}
use Rattle.std.proofs.lemmas.List.{append_cancel_left, append_cancel_right}
use Rattle.std.proofs.lemmas.List.Elements.{All-append, All-cons}
use Rattle.path_rules.specs.declared.rules.Rules.{Rules}
use Rattle.path_rules.specs.declared.rules.Style as whose
use Rattle.path_rules.specs.declared.rules.Style.TheVariants as style
use Rattle.path_rules.specs.declared.head.Start.{Start}
use Rattle.path_rules.specs.declared.head.Start.TheVariants.{Root, Dot, Nothing}
use Rattle.path_rules.specs.declared.head.Head.{Head}
use Rattle.path_rules.specs.Separators.{separates, IsPlain, Edge, IsUpTo}
use Rattle.path_rules.specs.Component.{Item, Prefix, named, components_in}
use Rattle.path_rules.specs.Heads.{prefix_items, start_items, items_of}
use Rattle.path_rules.specs.Components.{after_start, root_of, after_root}
use Rattle.path_rules.specs.Prefix.{rules_of}
use Rattle.path_rules.specs.HeadParts.{IsHead, bare_head, prefixed_head}
use Rattle.path_rules.specs.Body.{BeginsNamed}
use Rattle.path_rules.specs.Taken.{IsTail}
use Rattle.path_rules.specs.Cut.{IsAsciiCut, at_start, at_end, before_ascii, after_ascii}
use Rattle.path_rules.specs.LeftParts.{IsInside, IsInBody, IsBodyLeft, ArePartsLeft, all_before, start_before, prefix_left, none_left, body_alone, AreLeftIn, AreLeftOf}
use Rattle.path_rules.proofs.lemmas.Ascii.{ascii_separators}
use Rattle.path_rules.proofs.lemmas.Bodies.{cut_items, one_item, no_item, first_item, no_first_item}
use Rattle.path_rules.proofs.lemmas.OneList.{one_prefix}
use Rattle.path_rules.proofs.lemmas.Strips.{body_at}
use Rattle.path_rules.proofs.lemmas.Tails.{cuts, whole_tail}
use Rattle.path_rules.proofs.lemmas.UpTo.{whole, up_to_again}

pub inside_tail : (s t u : List ℕ) → IsInside s t → IsTail t u → IsInside s u
inside_tail s t u i k =
    let same : i.before ++ t ≡ (i.before ++ k.before) ++ u = ap (λ x. i.before ++ x) k.joined ∙ sym (append_assoc i.before k.before u) in
    record {
      before = i.before ++ k.before;
      after = i.after;
      joined = i.joined ∙ ap (λ x. x ++ i.after) same;
      begins = cuts i.before k.before t u k.joined i.begins k.cut;
      ends = subst (λ x. IsAsciiCut x i.after) same i.ends;
    }

pub shorter_cut : (p t u more : List ℕ) → t ≡ u ++ more → IsAsciiCut p t → IsAsciiCut p u
shorter_cut p t [] more j a = at_end refl
shorter_cut p t (c ∷ u) more j (at_start n) = at_start n
shorter_cut p t (c ∷ u) more j (at_end n) = let never : [] ≡ c ∷ (u ++ more) = sym n ∙ j in cc
shorter_cut p t (c ∷ u) more j (before_ascii b rest e l) =
    let both : b ∷ rest ≡ c ∷ (u ++ more) = sym e ∙ j in
    let same : b ≡ c = cc in before_ascii c u refl (subst (λ x. x < 0x80) same l)
shorter_cut p t (c ∷ u) more j (after_ascii start b e l) = after_ascii start b e l

-- a cut before a part is one before what follows it, too
pub cut_longer : (b t a : List ℕ) → IsAsciiCut b t → IsAsciiCut (b ++ t) a → IsAsciiCut b (t ++ a)
cut_longer b [] a c d = subst (λ x. IsAsciiCut x a) (append-nil b) d
cut_longer b (x ∷ t) a (at_start n) d = at_start n
cut_longer b (x ∷ t) a (at_end n) d = let never : x ∷ t ≡ [] = n in cc
cut_longer b (x ∷ t) a (before_ascii c rest e l) d = before_ascii c (rest ++ a) (ap (λ y. y ++ a) e) l
cut_longer b (x ∷ t) a (after_ascii start c e l) d = after_ascii start c e l

-- what is inside the end of a path is inside the path, before the same bytes
unfoldable pub inside_whole : (path body part : List ℕ) → IsTail path body → IsInside body part → IsInside path part
inside_whole path body part k i = record {
  before = k.before ++ i.before;
  after = i.after;
  joined = k.joined ∙ ap (λ x. k.before ++ x) i.joined ∙ sym (append_assoc k.before (i.before ++ part) i.after) ∙ ap (λ x. x ++ i.after) (sym (append_assoc k.before i.before part));
  begins = shorter_cut (k.before ++ i.before) (part ++ i.after) part i.after refl
      (cuts k.before i.before body (part ++ i.after) (i.joined ∙ append_assoc i.before part i.after) k.cut (cut_longer i.before part i.after i.begins i.ends));
  ends = subst (λ x. IsAsciiCut x i.after) (sym (append_assoc k.before i.before part)) (cuts k.before (i.before ++ part) body i.after i.joined k.cut i.ends);
}

nothing_after : (u more : List ℕ) → u ++ more ≡ [] → more ≡ []
nothing_after [] more e = e
nothing_after (c ∷ u) more e = let never : c ∷ (u ++ more) ≡ [] = e in cc

pub tail_none : (t u : List ℕ) → IsTail t u → t ≡ [] → u ≡ []
tail_none t u k n = nothing_after k.before u (sym k.joined ∙ n)

module _ (r : Rules) where
  edge_ends : (p more after : List ℕ) → Edge r more → IsAsciiCut (p ++ more) after → IsAsciiCut p (more ++ after)
  edge_ends p [] after e a = subst (λ x. IsAsciiCut x after) (append-nil p) a
  edge_ends p (c ∷ more) after e a = before_ascii c (more ++ after) refl (ascii_separators r c e)

  some_more : (s t more : List ℕ) → s ≡ t ++ more → t ≢ [] → s ≢ []
  some_more s [] more j m n = m refl
  some_more s (c ∷ t) more j m n = let never : [] ≡ c ∷ (t ++ more) = sym n ∙ j in cc

  edge_more : (rest more : List ℕ) → Edge r more → Edge r rest → Edge r (rest ++ more)
  edge_more [] more e k = e
  edge_more (c ∷ rest) more e k = k

  -- what begins with a component does so up to an edge
  begins_field : (s t more : List ℕ) → s ≡ t ++ more → Edge r more → BeginsNamed r s → BeginsNamed r t
  begins_field s t more j e h = λ part rest some f. h part (rest ++ more) (some_more s t more j some) (record { joined = j ∙ ap (λ x. x ++ more) f.joined ∙ append_assoc part rest more; plain = f.plain; edge = edge_more rest more e f.edge })

  pub begins_front : (s t : List ℕ) → BeginsNamed r s → (t ≡ []) ⊎ IsUpTo r s t → BeginsNamed r t
  begins_front s t h (inl n) = λ part rest some f. absurd (some n)
  begins_front s t h (inr f) = begins_field s t f.more f.joined f.edge h

  pub none_up_to : (s t : List ℕ) → s ≡ [] → (t ≡ []) ⊎ IsUpTo r s t → t ≡ []
  none_up_to s t n (inl e) = e
  none_up_to s [] n (inr f) = refl
  none_up_to s (c ∷ t) n (inr f) = let never : [] ≡ c ∷ (t ++ f.more) = sym n ∙ f.joined in cc

  -- the components on both sides of an edge
  joined_items : (t a : List ℕ) → Edge r a ⊎ (t ≡ []) → components_in r (t ++ a) ≡ components_in r t ++ components_in r a
  joined_items t a (inr n) = subst (λ x. components_in r (x ++ a) ≡ components_in r x ++ components_in r a) (sym n) refl
  joined_items t [] (inl e) = ap (components_in r) (append-nil t) ∙ sym (append-nil (components_in r t))
  joined_items t (c ∷ a) (inl e) =
      cut_items r (t ++ c ∷ a) t a (record { separator = c; joined = refl; parts = e })
      ∙ ap (λ x. components_in r t ++ x) (sym (cut_items r (c ∷ a) [] a (record { separator = c; joined = refl; parts = e })))

  pub whole_in_body : (s : List ℕ) → IsInBody r s s []
  whole_in_body s = record { at = record { before = []; after = []; joined = sym (append-nil s); begins = at_start refl; ends = at_end refl }; items = refl; edge = inl tt }

  -- the first components of a part of the body are taken
  pub in_body_tail : (s t u : List ℕ) (behind : List Item) → IsInBody r s t behind → IsTail t u → IsInBody r s u behind
  unfolding inside_tail
  in_body_tail s t u behind b k = record { at = inside_tail s t u b.at k; items = b.items; edge = edges b.edge }
    where
      edges : Edge r b.at.after ⊎ (t ≡ []) → Edge r b.at.after ⊎ (u ≡ [])
      edges (inl e) = inl e
      edges (inr n) = inr (tail_none t u k n)

  -- or its last ones
  pub in_body_front : (s t u : List ℕ) (more behind : List Item) → IsInBody r s t behind → (u ≡ []) ⊎ IsUpTo r t u → components_in r t ≡ components_in r u ++ more → IsInBody r s u (more ++ behind)
  in_body_front s t u more behind b (inl n) e =
      let i = b.at in
      let front : i.before ++ u ≡ i.before = ap (λ x. i.before ++ x) n ∙ append-nil i.before in
      record {
        at = record {
          before = i.before;
          after = t ++ i.after;
          joined = i.joined ∙ append_assoc i.before t i.after ∙ ap (λ x. x ++ (t ++ i.after)) (sym front);
          begins = at_end n;
          ends = subst (λ x. IsAsciiCut x (t ++ i.after)) (sym front) (cut_longer i.before t i.after i.begins i.ends);
        };
        items = joined_items t i.after b.edge ∙ ap (λ x. x ++ components_in r i.after) (e ∙ ap (λ x. components_in r x ++ more) n) ∙ ap (λ x. more ++ x) b.items;
        edge = inr n;
      }
  in_body_front s t u more behind b (inr f) e =
      let i = b.at in
      let same : i.before ++ t ≡ (i.before ++ u) ++ f.more = ap (λ x. i.before ++ x) f.joined ∙ sym (append_assoc i.before u f.more) in
      let cut : components_in r f.more ≡ more = append_cancel_left (components_in r u) (components_in r f.more) more (sym (joined_items u f.more (inl f.edge)) ∙ sym (ap (components_in r) f.joined) ∙ e) in
      record {
        at = record {
          before = i.before;
          after = f.more ++ i.after;
          joined = i.joined ∙ ap (λ x. x ++ i.after) same ∙ append_assoc (i.before ++ u) f.more i.after;
          begins = shorter_cut i.before t u f.more f.joined i.begins;
          ends = edge_ends (i.before ++ u) f.more i.after f.edge (subst (λ x. IsAsciiCut x i.after) same i.ends);
        };
        items = joined_items f.more i.after (after_more b.edge) ∙ ap (λ x. x ++ components_in r i.after) cut ∙ ap (λ x. more ++ x) b.items;
        edge = edges b.edge;
      }
    where
      after_more : Edge r b.at.after ⊎ (t ≡ []) → Edge r b.at.after ⊎ (f.more ≡ [])
      after_more (inl k) = inl k
      after_more (inr n) = inr (nothing_after u f.more (sym f.joined ∙ n))

      edges : Edge r b.at.after ⊎ (t ≡ []) → Edge r (f.more ++ b.at.after) ⊎ (u ≡ [])
      edges (inl k) = inl (edge_more f.more b.at.after k f.edge)
      edges (inr n) = inr (none_up_to t u n (inr f))

  pub whole_left : (s : List ℕ) → IsBodyLeft r s s []
  whole_left s = record { ends = inr (whole r s); items = sym (append-nil (components_in r s)) }

  pub less_left : (s t u : List ℕ) (more behind : List Item) → IsBodyLeft r s t behind → (u ≡ []) ⊎ IsUpTo r t u → components_in r t ≡ components_in r u ++ more → IsBodyLeft r s u (more ++ behind)
  less_left s t u more behind b e i = record { ends = up_to_again r s t u b.ends e; items = b.items ∙ ap (λ x. x ++ behind) i ∙ append_assoc (components_in r u) more behind }

  left_in_body : (s t : List ℕ) (behind : List Item) → IsBodyLeft r s t behind → IsInBody r s t behind
  left_in_body s t behind b = subst (IsInBody r s t) (append-nil behind) (in_body_front s s t behind [] (whole_in_body s) b.ends b.items)

  none_plain : IsPlain r []
  none_plain = λ k d l. absurd (omega arith)

  -- no more components than bytes
  one_long : (seen : List ℕ) → IsPlain r seen → (o : Option Item) → named r seen ≡ o → length (components_in r seen) ≤ length seen
  one_long seen p None e = omega (arith, ap length (no_item r seen p (sym e)))
  one_long [] p (Some x) e = let never : None ≡ Some x = e in cc
  one_long (c ∷ seen) p (Some x) e = omega (arith, ap length (one_item r (c ∷ seen) x p (sym e)))

  cut_long : (seen t : List ℕ) (c : ℕ) → separates r c ≡ true → IsPlain r seen → length (components_in r t) ≤ length t → (o : Option Item) → named r seen ≡ o → length (components_in r (seen ++ c ∷ t)) ≤ length (seen ++ c ∷ t)
  cut_long seen t c s p l None e =
      omega (arith, l, ap length (no_first_item r (seen ++ c ∷ t) seen t (record { separator = c; joined = refl; parts = s }, p) (sym e)), length-append seen (c ∷ t))
  cut_long seen t c s p l (Some x) e =
      omega (arith, l, ap length (first_item r (seen ++ c ∷ t) seen t x (record { separator = c; joined = refl; parts = s }, p) (sym e)), length-append seen (c ∷ t))

  long_from : (rest seen : List ℕ) → IsPlain r seen → length (components_in r (seen ++ rest)) ≤ length (seen ++ rest)
  long_from [] seen p = subst (λ x. length (components_in r x) ≤ length x) (sym (append-nil seen)) (one_long seen p (named r seen) refl)
  long_from (c ∷ t) seen p = cases (separates r c) refl (long_from t [] none_plain) (long_from t (seen ++ c ∷ []))
    where
      cases : (v : Bool) → separates r c ≡ v → length (components_in r t) ≤ length t → (IsPlain r (seen ++ c ∷ []) → length (components_in r ((seen ++ c ∷ []) ++ t)) ≤ length ((seen ++ c ∷ []) ++ t)) → length (components_in r (seen ++ c ∷ t)) ≤ length (seen ++ c ∷ t)
      cases true s l on = cut_long seen t c s p l (named r seen) refl
      cases false s l on =
          subst (λ x. length (components_in r x) ≤ length x) (append_assoc seen (c ∷ []) t) (on (All-append (λ b. separates r b ≡ false) seen (c ∷ []) p (All-cons (λ b. separates r b ≡ false) c [] s none_plain)))

  pub no_longer : (s : List ℕ) → length (components_in r s) ≤ length s
  no_longer s = long_from s [] none_plain

prefix_one : (p : List ℕ) → length (prefix_items p) ≤ 1
prefix_one [] = omega arith
prefix_one (c ∷ p) = omega arith

start_one : (st : Start) → length (start_items st) ≤ 1
start_one Root = omega arith
start_one Dot = omega arith
start_one Nothing = omega arith

-- a path has one list of parts
pub record AreSameParts (g h : Head) : Type 0 where
  pub rules : g.rules ≡ h.rules
  pub prefix : g.prefix.now ≡ h.prefix.now
  pub start : g.start ≡ h.start
  pub body : g.body.now ≡ h.body.now

pub one_head : (w : whose.Style) (path : List ℕ) (g h : Head) → IsHead w path g → IsHead w path h → AreSameParts g h
one_head style.Unix path g h a b =
    let starts : g.start ≡ h.start = a.start.0 ∙ sym (b.start.0) in
    record { rules = a.rules ∙ sym b.rules; prefix = a.prefix ∙ sym b.prefix; start = starts; body = a.start.1 ∙ ap (λ x. after_start x path) starts ∙ sym (b.start.1) }
one_head style.Windows path g h (bare_head a) (bare_head b) =
    let starts : g.start ≡ h.start = a.start.0 ∙ sym (b.start.0) in
    record { rules = a.rules ∙ sym b.rules; prefix = a.prefix ∙ sym b.prefix; start = starts; body = a.start.1 ∙ ap (λ x. after_start x path) starts ∙ sym (b.start.1) }
one_head style.Windows path g h (bare_head a) (prefixed_head b) = absurd (a.none b.kind b.rest b.is)
one_head style.Windows path g h (prefixed_head a) (bare_head b) = absurd (b.none a.kind a.rest a.is)
one_head style.Windows path g h (prefixed_head a) (prefixed_head b) =
    let same = one_prefix path a.kind b.kind a.rest b.rest a.is b.is in
    record {
      rules = a.rules ∙ ap rules_of same.0 ∙ sym b.rules;
      prefix = append_cancel_right g.prefix.now h.prefix.now b.rest (ap (λ x. g.prefix.now ++ x) (sym same.1) ∙ sym a.joined ∙ b.joined);
      start = a.start ∙ ap (λ k. root_of k a.rest) same.0 ∙ ap (root_of b.kind) same.1 ∙ sym b.start;
      body = a.body ∙ ap after_root same.1 ∙ sym b.body;
    }

-- the components of a path are at most two more than its bytes
items_fit : (w : whose.Style) (path : List ℕ) (h : Head) → IsHead w path h → length (items_of h) ≤ length path + 2
items_fit w path h a =
    let t = body_at w path h a in
    let body = components_in h.rules h.body.now in
    omega (arith, no_longer h.rules h.body.now, prefix_one h.prefix.now, start_one h.start, length-append (prefix_items h.prefix.now) (start_items h.start ++ body), length-append (start_items h.start) body, ap length t.joined, length-append t.before h.body.now)

-- the last component of a body is the last of all
items_push : (left new : Head) (x : Item) → new.rules ≡ left.rules → new.prefix.now ≡ left.prefix.now → new.start ≡ left.start → components_in left.rules left.body.now ≡ components_in left.rules new.body.now ++ x ∷ [] → items_of left ≡ items_of new ++ x ∷ []
items_push left new x r p s i =
    let body = components_in left.rules new.body.now in
    ap (λ z. prefix_items left.prefix.now ++ (start_items left.start ++ z)) i ∙ ap (λ z. prefix_items left.prefix.now ++ z) (sym (append_assoc (start_items left.start) body (x ∷ [])))
    ∙ sym (append_assoc (prefix_items left.prefix.now) (start_items left.start ++ body) (x ∷ []))
    ∙ ap (λ z. (prefix_items z ++ (start_items left.start ++ body)) ++ x ∷ []) (sym p) ∙ ap (λ z. (prefix_items new.prefix.now ++ (start_items z ++ body)) ++ x ∷ []) (sym s)
    ∙ ap (λ z. (prefix_items new.prefix.now ++ (start_items new.start ++ components_in z new.body.now)) ++ x ∷ []) (sym r)

-- a start without a body is the last of all
start_push : (left new : Head) (x : Item) → new.prefix.now ≡ left.prefix.now → new.start ≡ Nothing → new.body.now ≡ [] → components_in left.rules left.body.now ≡ [] → start_items left.start ≡ x ∷ [] → items_of left ≡ items_of new ++ x ∷ []
start_push left new x p s b e k =
    let alone : items_of new ≡ prefix_items new.prefix.now =
    ap (λ z. prefix_items new.prefix.now ++ (start_items z ++ components_in new.rules new.body.now)) s ∙ ap (λ z. prefix_items new.prefix.now ++ components_in new.rules z) b ∙ append-nil (prefix_items new.prefix.now) in
    ap (λ z. prefix_items left.prefix.now ++ (start_items left.start ++ z)) e ∙ ap (λ z. prefix_items left.prefix.now ++ z) (append-nil (start_items left.start) ∙ k)
    ∙ ap (λ z. prefix_items z ++ x ∷ []) (sym p) ∙ ap (λ z. z ++ x ∷ []) (sym alone)

prefix_some : (q : List ℕ) → q ≢ [] → prefix_items q ≡ Prefix q ∷ []
prefix_some [] k = absurd (k refl)
prefix_some (c ∷ q) k = refl

-- no component is left
pub none_of : (h : Head) → h.prefix.now ≡ [] → h.start ≡ Nothing → components_in h.rules h.body.now ≡ [] → items_of h ≡ []
none_of h p s e = ap (λ z. prefix_items z ++ (start_items h.start ++ components_in h.rules h.body.now)) p ∙ ap (λ z. start_items z ++ components_in h.rules h.body.now) s ∙ e

-- a prefix alone is the last of all
prefix_push : (left new : Head) → new.prefix.now ≡ [] → new.start ≡ Nothing → new.body.now ≡ [] → left.prefix.now ≢ [] → left.start ≡ Nothing → components_in left.rules left.body.now ≡ [] → items_of left ≡ items_of new ++ Prefix left.prefix.now ∷ []
prefix_push left new p s b m t e =
    ap (λ z. z ++ (start_items left.start ++ components_in left.rules left.body.now)) (prefix_some left.prefix.now m) ∙ ap (λ z. Prefix left.prefix.now ∷ (start_items z ++ components_in left.rules left.body.now)) t
    ∙ ap (λ z. Prefix left.prefix.now ∷ z) e ∙ ap (λ z. z ++ Prefix left.prefix.now ∷ []) (sym (none_of new p s (ap (components_in new.rules) b)))

module _ (w : whose.Style) (path : List ℕ) where
  pub all_left : (left : Head) → IsHead w path left → AreLeftOf w path left false 0
  all_left left a = record { in_each = each; fits = omega (arith, items_fit w path left a) }
    where
      each : (h : Head) → IsHead w path h → AreLeftIn h left false 0
      each h b =
          let same = one_head w path left h a b in
          let items : items_of h ≡ items_of left =
          ap (λ x. prefix_items x ++ (start_items h.start ++ components_in h.rules h.body.now)) (sym same.prefix) ∙ ap (λ x. prefix_items left.prefix.now ++ (start_items x ++ components_in h.rules h.body.now)) (sym same.start)
          ∙ ap (λ x. prefix_items left.prefix.now ++ (start_items left.start ++ components_in x h.body.now)) (sym same.rules) ∙ ap (λ x. prefix_items left.prefix.now ++ (start_items left.start ++ components_in left.rules x)) (sym same.body) in
          record {
            rules = same.rules;
            front = [];
            behind = [];
            taken = refl;
            whole = items ∙ sym (append-nil (items_of left));
            parts = all_before refl refl same.prefix same.start (subst (λ x. IsBodyLeft h.rules h.body.now x []) (sym same.body) (whole_left h.rules h.body.now));
          }

  module _ (left new : Head) (begun : Bool) (count : ℕ) (old : AreLeftOf w path left begun count) (rules : new.rules ≡ left.rules) where
    -- one component is taken from the front
    one_taken : (now : Bool) (x : Item) → items_of left ≡ x ∷ items_of new → ((h : Head) → IsHead w path h → (front behind : List Item) → ArePartsLeft h left begun front behind → ArePartsLeft h new now (front ++ x ∷ []) behind) → AreLeftOf w path new now (count + 1)
    one_taken now x i cases = record {
      in_each = λ h a.
          let o = old.in_each h a in
          record {
            rules = rules ∙ o.rules;
            front = o.front ++ x ∷ [];
            behind = o.behind;
            taken = omega (arith, o.taken, length-append o.front (x ∷ []));
            whole = o.whole ∙ ap (λ z. o.front ++ (z ++ o.behind)) i ∙ sym (append_assoc o.front (x ∷ []) (items_of new ++ o.behind));
            parts = cases h a o.front o.behind o.parts;
          };
      fits = omega (arith, old.fits, ap length i);
    }

    -- or from the back
    one_back : (x : Item) → items_of left ≡ items_of new ++ x ∷ [] → ((h : Head) → left.rules ≡ h.rules → (front behind : List Item) → ArePartsLeft h left begun front behind → ArePartsLeft h new begun front (x ∷ behind)) → AreLeftOf w path new begun count
    one_back x i cases = record {
      in_each = λ h a.
          let o = old.in_each h a in
          record {
            rules = rules ∙ o.rules;
            front = o.front;
            behind = x ∷ o.behind;
            taken = o.taken;
            whole = o.whole ∙ ap (λ z. o.front ++ (z ++ o.behind)) i ∙ ap (λ z. o.front ++ z) (append_assoc (items_of new) (x ∷ []) o.behind);
            parts = cases h o.rules o.front o.behind o.parts;
          };
      fits = omega (arith, old.fits, ap length i, length-append (items_of new) (x ∷ []));
    }

    -- what comes before the body is taken from the front, or the first component in it
    pub taken_first : new.prefix.now ≡ [] → new.start ≡ Nothing → IsTail left.body.now new.body.now → (x : Item) → items_of left ≡ x ∷ items_of new → AreLeftOf w path new true (count + 1)
    taken_first p s t x i = one_taken true x i cases
      where
        from_body : (h : Head) (front behind : List Item) → IsInBody h.rules h.body.now left.body.now behind → ArePartsLeft h new true (front ++ x ∷ []) behind
        from_body h front behind b = body_alone refl p s (in_body_tail h.rules h.body.now left.body.now new.body.now behind b t)

        cases : (h : Head) → IsHead w path h → (front behind : List Item) → ArePartsLeft h left begun front behind → ArePartsLeft h new true (front ++ x ∷ []) behind
        cases h a front behind (all_before u f q v k) = from_body h front behind (left_in_body h.rules h.body.now left.body.now behind k)
        cases h a front behind (start_before u f m q v n k) = from_body h front behind (left_in_body h.rules h.body.now left.body.now behind k)
        cases h a front behind (prefix_left u f m q v e) = none_left p s (tail_none left.body.now new.body.now t e)
        cases h a front behind (none_left q v e) = none_left p s (tail_none left.body.now new.body.now t e)
        cases h a front behind (body_alone u q v b) = from_body h front behind b

    -- the prefix is taken from the front, and the start is still there
    pub taken_prefix : left.prefix.now ≢ [] → new.prefix.now ≡ [] → new.start ≡ left.start → new.start ≢ Nothing → new.body.now ≡ left.body.now → items_of left ≡ Prefix left.prefix.now ∷ items_of new → AreLeftOf w path new false (count + 1)
    taken_prefix m p s n b i = one_taken false (Prefix left.prefix.now) i cases
      where
        cases : (h : Head) → IsHead w path h → (front behind : List Item) → ArePartsLeft h left begun front behind → ArePartsLeft h new false (front ++ Prefix left.prefix.now ∷ []) behind
        cases h a front behind (all_before u f q t k) =
            start_before refl (ap (λ z. z ++ Prefix left.prefix.now ∷ []) f ∙ ap (λ z. Prefix z ∷ []) q) (λ z. m (q ∙ z)) p (s ∙ t) (λ z. n (s ∙ t ∙ z)) (subst (λ z. IsBodyLeft h.rules h.body.now z behind) (sym b) k)
        cases h a front behind (start_before u f o q t k v) = absurd (m q)
        cases h a front behind (prefix_left u f o q t e) = absurd (n (s ∙ t))
        cases h a front behind (none_left q t e) = absurd (m q)
        cases h a front behind (body_alone u q t e) = absurd (m q)

    -- the prefix is taken, whether a start is there or not
    pub taken_prefix_as : (v : Bool) → ((v ≡ true) ↔ (left.start ≡ Nothing)) → left.prefix.now ≢ [] → new.prefix.now ≡ [] → new.start ≡ left.start → new.body.now ≡ left.body.now → AreLeftOf w path new v (count + 1)
    taken_prefix_as v e m p s b = either v e
      where
        items : items_of left ≡ Prefix left.prefix.now ∷ items_of new
        items =
            ap (λ z. z ++ (start_items left.start ++ components_in left.rules left.body.now)) (prefix_some left.prefix.now m)
            ∙ ap (λ z. Prefix left.prefix.now ∷ (start_items z ++ components_in left.rules left.body.now)) (sym s) ∙ ap (λ z. Prefix left.prefix.now ∷ (start_items new.start ++ components_in z left.body.now)) (sym rules)
            ∙ ap (λ z. Prefix left.prefix.now ∷ (start_items new.start ++ components_in new.rules z)) (sym b) ∙ ap (λ z. Prefix left.prefix.now ∷ (prefix_items z ++ (start_items new.start ++ components_in new.rules new.body.now))) (sym p)

        either : (v : Bool) → ((v ≡ true) ↔ (left.start ≡ Nothing)) → AreLeftOf w path new v (count + 1)
        either true k = taken_first p (s ∙ k.0 refl) (subst (IsTail left.body.now) (sym b) (whole_tail left.body.now)) (Prefix left.prefix.now) items
        either false k = taken_prefix m p s (λ z. let never : false ≡ true = k.1 (sym s ∙ z) in cc) b items

    -- the last component in the body is taken
    pub taken_last : new.prefix.now ≡ left.prefix.now → new.start ≡ left.start → (new.body.now ≡ []) ⊎ IsUpTo left.rules left.body.now new.body.now → (x : Item) → components_in left.rules left.body.now ≡ components_in left.rules new.body.now ++ x ∷ [] → AreLeftOf w path new begun count
    taken_last p s e x i = one_back x (items_push left new x rules p s i) cases
      where
        ends : (h : Head) → left.rules ≡ h.rules → (new.body.now ≡ []) ⊎ IsUpTo h.rules left.body.now new.body.now
        ends h r = subst (λ y. (new.body.now ≡ []) ⊎ IsUpTo y left.body.now new.body.now) r e

        items : (h : Head) → left.rules ≡ h.rules → components_in h.rules left.body.now ≡ components_in h.rules new.body.now ++ x ∷ []
        items h r = subst (λ y. components_in y left.body.now ≡ components_in y new.body.now ++ x ∷ []) r i

        less : (h : Head) → left.rules ≡ h.rules → (behind : List Item) → IsBodyLeft h.rules h.body.now left.body.now behind → IsBodyLeft h.rules h.body.now new.body.now (x ∷ behind)
        less h r behind k = less_left h.rules h.body.now left.body.now new.body.now (x ∷ []) behind k (ends h r) (items h r)

        cases : (h : Head) → left.rules ≡ h.rules → (front behind : List Item) → ArePartsLeft h left begun front behind → ArePartsLeft h new begun front (x ∷ behind)
        cases h r front behind (all_before u f q t k) = all_before u f (p ∙ q) (s ∙ t) (less h r behind k)
        cases h r front behind (start_before u f m q t n k) = start_before u f m (p ∙ q) (s ∙ t) n (less h r behind k)
        cases h r front behind (prefix_left u f m q t k) = prefix_left u f m (p ∙ q) (s ∙ t) (none_up_to left.rules left.body.now new.body.now k e)
        cases h r front behind (none_left q t k) = none_left (p ∙ q) (s ∙ t) (none_up_to left.rules left.body.now new.body.now k e)
        cases h r front behind (body_alone u q t b) = body_alone u (p ∙ q) (s ∙ t) (in_body_front h.rules h.body.now left.body.now new.body.now (x ∷ []) behind b (ends h r) (items h r))

    -- the start is taken from the end
    pub taken_start : left.start ≢ Nothing → new.prefix.now ≡ left.prefix.now → new.start ≡ Nothing → new.body.now ≡ [] → (x : Item) → components_in left.rules left.body.now ≡ [] → start_items left.start ≡ x ∷ [] → AreLeftOf w path new begun count
    taken_start n p s e x none k = one_back x (start_push left new x p s e none k) cases
      where
        either : (h : Head) (front behind : List Item) (q : List ℕ) → new.prefix.now ≡ q → begun ≡ false → front ≡ [] → new.prefix.now ≡ h.prefix.now → ArePartsLeft h new begun front (x ∷ behind)
        either h front behind [] k u f same = none_left k s e
        either h front behind (c ∷ q) k u f same = prefix_left u f (λ z. let never : c ∷ q ≡ [] = sym k ∙ same ∙ z in cc) same s e

        cases : (h : Head) → left.rules ≡ h.rules → (front behind : List Item) → ArePartsLeft h left begun front behind → ArePartsLeft h new begun front (x ∷ behind)
        cases h r front behind (all_before u f q t k) = either h front behind new.prefix.now refl u f (p ∙ q)
        cases h r front behind (start_before u f m q t o k) = none_left (p ∙ q) s e
        cases h r front behind (prefix_left u f m q t k) = absurd (n t)
        cases h r front behind (none_left q t k) = absurd (n t)
        cases h r front behind (body_alone u q t k) = absurd (n t)

    -- the prefix is taken from the end
    pub taken_only : new.prefix.now ≡ [] → new.start ≡ Nothing → new.body.now ≡ [] → left.prefix.now ≢ [] → left.start ≡ Nothing → components_in left.rules left.body.now ≡ [] → AreLeftOf w path new begun count
    taken_only p s e m t none = one_back (Prefix left.prefix.now) (prefix_push left new p s e m t none) (λ h r front behind parts. none_left p s e)
