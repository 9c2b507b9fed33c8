-- The part of a path that has the components that are left.
use Rattle.std.proofs.Common.{◌≡◌, ◌≢◌, ◌⊎◌, ◌+◌, ◌-◌, ◌≤◌, ℕ, Bool, true, false, List, [], ◌∷◌, ◌++◌, length, take, drop, refl, sym, ap, ◌∙◌, subst, arith, append-nil, append_assoc, length-append, take-append-drop}
use Rattle.std.proofs.lemmas.List.{take_at, append_cancel_left, append_cancel_right, length-take-le}
use Rattle.path_rules.specs.declared.rules.Rules.TheVariants as rule
use Rattle.path_rules.specs.declared.rules.Style as whose
use Rattle.path_rules.specs.declared.rules.Style.TheVariants as style
use Rattle.path_rules.specs.declared.head.Start.{Start}
use Rattle.path_rules.specs.declared.head.Start.TheVariants.{Root, Dot, Nothing}
use Rattle.path_rules.specs.declared.head.Head.{Head}
use Rattle.path_rules.specs.Separators.{IsUpTo}
use Rattle.path_rules.specs.Component.{Item, Prefix, RootDir, components_in, EndsNamed}
use Rattle.path_rules.specs.Heads.{prefix_items, start_items, items_of}
use Rattle.path_rules.specs.Components.{AreComponents, after_root, plain_components}
use Rattle.path_rules.specs.HeadParts.{IsHead, bare_head, prefixed_head}
use Rattle.path_rules.specs.Prefix.{IsRawPrefix}
use Rattle.path_rules.specs.Body.{HasBody, HasBodyAfter, EndsTight, BeginsNamed}
use Rattle.path_rules.specs.Taken.{IsTail}
use Rattle.path_rules.specs.Cut.{IsAsciiCut}
use Rattle.path_rules.specs.Cut as cut
use Rattle.path_rules.specs.Left.{HasLeft, nothing, from_start, prefix_alone, after_prefix, in_body, IsLeft}
use Rattle.path_rules.specs.LeftParts.{IsInBody, IsBodyLeft, ArePartsLeft, all_before, start_before, prefix_left, none_left, body_alone, AreLeftIn}
use Rattle.path_rules.proofs.lemmas.Begins.{plain_begun}
use Rattle.path_rules.proofs.lemmas.Lefts.{inside_whole, in_body_tail, in_body_front, begins_front, none_up_to, tail_none, less_left, none_of, shorter_cut}
use Rattle.path_rules.proofs.lemmas.OneList.{one_components}
use Rattle.path_rules.proofs.lemmas.ParentBodies.{body_after}
use Rattle.path_rules.proofs.lemmas.Parents.{Shorter, shorter_of, inside}
use Rattle.path_rules.proofs.lemmas.Starts.{Ends}
use Rattle.path_rules.proofs.lemmas.Strips.{at_prefix, body_at, head_body, root_tail}

prefix_some : (p : List ℕ) → p ≢ [] → prefix_items p ≡ Prefix p ∷ []
prefix_some [] m = absurd (m refl)
prefix_some (c ∷ p) m = refl

-- the prefix comes before the body
prefix_first : (w : whose.Style) (path : List ℕ) (h : Head) → IsHead w path h → length h.prefix.now + length h.body.now ≤ length path
prefix_first style.Unix path h a =
    let t = body_at style.Unix path h a in omega (arith, ap length t.joined, length-append t.before h.body.now, ap length a.prefix)
prefix_first style.Windows path h (bare_head a) =
    let t = body_at style.Windows path h (bare_head a) in omega (arith, ap length t.joined, length-append t.before h.body.now, ap length a.prefix)
prefix_first style.Windows path h (prefixed_head a) =
    let t = root_tail a.rest in omega (arith, ap length a.joined, length-append h.prefix.now a.rest, ap length a.body, ap length (t.1), length-append (t.0) (after_root a.rest))

pub body_short : (w : whose.Style) (path : List ℕ) (h : Head) → IsHead w path h → length h.body.now ≤ length path
body_short w path h a = let t = prefix_first w path h a in omega arith

module _ (w : whose.Style) (path : List ℕ) (h left : Head) (a : IsHead w path h) (listed : AreComponents w path (items_of h)) (count : ℕ) where
  -- nothing is left
  left_nothing : (begun : Bool) (old : AreLeftIn h left begun count) (part : List ℕ) → part ≡ [] → items_of left ≡ [] → IsLeft w path count (items_of left) part
  left_nothing begun old part m none = record {
    front = old.front;
    behind = old.behind;
    whole = subst (AreComponents w path) old.whole listed;
    count = old.taken;
    before = [];
    after = path;
    joined = sym (ap (λ x. x ++ path) m);
    begins = cut.at_start refl;
    ends = cut.at_start m;
    has = nothing none m;
  }

  -- where the start is gone, the part of the body
  pub left_in_body : AreLeftIn h left true count → (t part : List ℕ) → components_in left.rules left.body.now ≡ components_in left.rules t → IsTail left.body.now t → BeginsNamed left.rules t → components_in left.rules t ≡ components_in left.rules part → (part ≡ []) ⊎ IsUpTo left.rules t part → EndsNamed left.rules part → IsLeft w path count (items_of left) part
  unfolding inside_whole
  left_in_body old t part i k b j e n = cases old.parts
    where
      cases : ArePartsLeft h left true old.front old.behind → IsLeft w path count (items_of left) part
      cases (all_before u f p s l) = let never : true ≡ false = u in cc
      cases (start_before u f m p s o l) = let never : true ≡ false = u in cc
      cases (prefix_left u f m p s l) = let never : true ≡ false = u in cc
      cases (none_left p s l) = left_nothing true old part (none_up_to left.rules t part (tail_none left.body.now t k l) e) (none_of left p s (ap (components_in left.rules) l))
      cases (body_alone u p s inside) =
          let behind = old.behind in
          let of_left = subst (λ r. IsInBody r h.body.now left.body.now behind) (sym old.rules) inside in
          let in_body_part = in_body_front left.rules h.body.now t part [] behind (in_body_tail left.rules h.body.now left.body.now t behind of_left k) e (j ∙ sym (append-nil (components_in left.rules part))) in
          let at = inside_whole path h.body.now part (body_at w path h a) in_body_part.at in
          let all : items_of left ≡ components_in left.rules left.body.now =
          ap (λ x. prefix_items x ++ (start_items left.start ++ components_in left.rules left.body.now)) p ∙ ap (λ x. start_items x ++ components_in left.rules left.body.now) s in
          record {
            front = old.front;
            behind = behind;
            whole = subst (AreComponents w path) old.whole listed;
            count = old.taken;
            before = at.before;
            after = in_body_part.at.after;
            joined = at.joined;
            begins = at.begins;
            ends = at.ends;
            has = in_body left.rules h.body.now in_body_part.at.before (subst (λ r. HasBody w path r h.body.now) (sym old.rules) (head_body w path h a)) in_body_part.at.joined (sym (all ∙ i ∙ j)) in_body_part.items (begins_front left.rules t part b e) n;
          }

  -- where the start and the body are gone, the prefix or nothing
  pub left_alone : AreLeftIn h left false count → (rest : List ℕ) → rest ≡ [] → components_in left.rules left.body.now ≡ components_in left.rules rest → left.start ≡ Nothing → IsLeft w path count (items_of left) left.prefix.now
  left_alone old rest n i s = cases old.parts
    where
      all : items_of left ≡ prefix_items left.prefix.now
      all =
          ap (λ x. prefix_items left.prefix.now ++ (start_items x ++ components_in left.rules left.body.now)) s
          ∙ ap (λ x. prefix_items left.prefix.now ++ x) (i ∙ ap (components_in left.rules) n) ∙ append-nil (prefix_items left.prefix.now)

      some : old.front ≡ [] → (p : List ℕ) → h.prefix.now ≡ p → p ≢ [] → items_of left ≡ prefix_items p → IsLeft w path count (items_of left) p
      some f p q m e =
          let t = at_prefix w path h a (λ z. m (sym q ∙ z)) in
          record {
            front = old.front;
            behind = old.behind;
            whole = subst (AreComponents w path) old.whole listed;
            count = old.taken;
            before = [];
            after = t.rest;
            joined = t.joined ∙ ap (λ x. x ++ t.rest) q;
            begins = cut.at_start refl;
            ends = subst (λ x. IsAsciiCut x t.rest) q t.cut;
            has = prefix_alone refl f t.prefixed (subst (IsRawPrefix w path) q t.raw) (e ∙ prefix_some p m);
          }

      either : old.front ≡ [] → (p : List ℕ) → h.prefix.now ≡ p → items_of left ≡ prefix_items p → IsLeft w path count (items_of left) p
      either f [] q e = left_nothing false old [] refl e
      either f (c ∷ p) q e = some f (c ∷ p) q (λ z. cc) e

      cases : ArePartsLeft h left false old.front old.behind → IsLeft w path count (items_of left) left.prefix.now
      cases (all_before u f p t l) = either f left.prefix.now (sym p) all
      cases (start_before u f m p t o l) = absurd (o (sym t ∙ s))
      cases (prefix_left u f m p t l) = either f left.prefix.now (sym p) all
      cases (none_left p t l) = left_nothing false old left.prefix.now p (all ∙ ap prefix_items p)
      cases (body_alone u p t l) = let never : false ≡ true = u in cc

  module _ (front behind : List Item) (whole : items_of h ≡ front ++ (items_of left ++ behind)) (taken : length front ≡ count) (rules : left.rules ≡ h.rules) (start : left.start ≡ h.start) (b : IsBodyLeft h.rules h.body.now left.body.now behind) (rest : List ℕ) (e : Ends left.rules left.body.now rest) (i : components_in left.rules left.body.now ≡ components_in left.rules rest) where
    less : IsBodyLeft h.rules h.body.now rest behind
    less =
        less_left h.rules h.body.now left.body.now rest [] behind b (subst (λ r. Ends r left.body.now rest) rules e)
        (subst (λ r. components_in r left.body.now ≡ components_in r rest) rules i ∙ sym (append-nil (components_in h.rules rest)))

    abbrev size : ℕ
    size = length path - length h.body.now + length rest

    f : Shorter w path h rest behind
    f = shorter_of path h rest behind less.ends less.items w a

    within : HasBodyAfter w path f.before f.more
    within = record { rules = h.rules; body = h.body.now; left = rest; has = head_body w path h a; has_left = f.has; joined = body_after path h rest behind less.ends w a f }

    long : length f.before ≡ size
    long = let l = f.long in let s = f.short in omega arith

    kept : take size path ≡ f.before
    kept = ap (take size) f.joined ∙ take_at f.before f.more size long

    pub kept_fits : size ≤ length path
    kept_fits = inside path h rest behind less.ends less.items w a

    pub prefix_fits : length h.prefix.now ≤ size
    prefix_fits = omega (arith, prefix_first w path h a)

    abbrev from_body : List Item
    from_body = start_items left.start ++ components_in left.rules left.body.now

    -- its components
    same : f.items ≡ prefix_items h.prefix.now ++ from_body
    same =
        append_cancel_right f.items (prefix_items h.prefix.now ++ from_body) behind
        (one_components w path (f.items ++ behind) (items_of h) f.whole listed
        ∙ ap (λ x. prefix_items h.prefix.now ++ (start_items h.start ++ x)) less.items
        ∙ ap (λ x. prefix_items h.prefix.now ++ x) (sym (append_assoc (start_items h.start) (components_in h.rules rest) behind))
        ∙ sym (append_assoc (prefix_items h.prefix.now) (start_items h.start ++ components_in h.rules rest) behind)
        ∙ ap (λ x. (prefix_items h.prefix.now ++ (start_items x ++ components_in h.rules rest)) ++ behind) (sym start)
        ∙ ap (λ r. (prefix_items h.prefix.now ++ (start_items left.start ++ components_in r rest)) ++ behind) (sym rules)
        ∙ ap (λ x. (prefix_items h.prefix.now ++ (start_items left.start ++ x)) ++ behind) (sym i))

    module _ (n : EndsNamed left.rules rest) where
      tight : EndsTight w f.before
      tight = record { rules = h.rules; body = rest; has = f.has; named = subst (λ r. EndsNamed r rest) rules n }

      -- all that is before the body
      pub left_at_start : front ≡ [] → left.prefix.now ≡ h.prefix.now → (part : List ℕ) → part ≡ take size path → IsLeft w path count (items_of left) part
      left_at_start none p part d =
          let is : part ≡ f.before = d ∙ kept in
          record {
            front = front;
            behind = behind;
            whole = subst (AreComponents w path) whole listed;
            count = taken;
            before = [];
            after = f.more;
            joined = f.joined ∙ ap (λ x. x ++ f.more) (sym is);
            begins = cut.at_start refl;
            ends = subst (λ x. IsAsciiCut x f.more) (sym is) f.beside;
            has = from_start refl none (subst (λ x. AreComponents w x (items_of left)) (sym is) (subst (AreComponents w f.before) (same ∙ ap (λ x. prefix_items x ++ from_body) (sym p)) f.are)) (subst (EndsTight w) (sym is) tight)
                (subst (λ x. HasBodyAfter w path x f.more) (sym is) within);
          }

      -- what follows the prefix
      pub left_at_root : front ≡ Prefix h.prefix.now ∷ [] → h.prefix.now ≢ [] → left.prefix.now ≡ [] → h.start ≢ Nothing → (part : List ℕ) → part ≡ drop (length h.prefix.now) (take size path) → IsLeft w path count (items_of left) part
      left_at_root one m p o part d =
          let size_of = length h.prefix.now in
          let t = at_prefix w path h a m in
          let back : part ≡ drop size_of f.before = d ∙ ap (drop size_of) kept in
          let fits : size_of ≤ length f.before = omega (arith, long, prefix_fits) in
          let split : f.before ≡ take size_of f.before ++ part = sym (take-append-drop size_of f.before) ∙ ap (λ x. take size_of f.before ++ x) (sym back) in
          let first : take size_of f.before ≡ h.prefix.now =
          sym (take_at (take size_of f.before) (part ++ f.more) size_of (length-take-le size_of f.before fits))
          ∙ ap (take size_of) (sym (append_assoc (take size_of f.before) part f.more) ∙ ap (λ x. x ++ f.more) (sym split) ∙ sym f.joined ∙ t.joined)
          ∙ take_at h.prefix.now t.rest size_of refl in
          let is : f.before ≡ h.prefix.now ++ part = split ∙ ap (λ x. x ++ part) first in
          let tail : t.rest ≡ part ++ f.more = append_cancel_left h.prefix.now t.rest (part ++ f.more) (sym t.joined ∙ f.joined ∙ ap (λ x. x ++ f.more) is ∙ append_assoc h.prefix.now part f.more) in
          let items : f.items ≡ Prefix h.prefix.now ∷ items_of left =
          same ∙ ap (λ x. x ++ from_body) (prefix_some h.prefix.now m) ∙ ap (λ x. Prefix h.prefix.now ∷ (prefix_items x ++ from_body)) (sym p) in
          let others = root_items left.start refl (λ z. o (sym start ∙ z)) (λ z. t.no_dot (sym start ∙ z)) in
          record {
            front = front;
            behind = behind;
            whole = subst (AreComponents w path) whole listed;
            count = taken;
            before = h.prefix.now;
            after = f.more;
            joined = f.joined ∙ ap (λ x. x ++ f.more) is;
            begins = shorter_cut h.prefix.now t.rest part f.more tail t.cut;
            ends = subst (λ x. IsAsciiCut x f.more) is f.beside;
            has = after_prefix one t.prefixed t.raw (subst (λ x. AreComponents w x (Prefix h.prefix.now ∷ items_of left)) is (subst (AreComponents w f.before) items f.are)) (subst (EndsTight w) is tight)
                (subst (λ x. HasBodyAfter w path x f.more) is within) (others.0) (others.1);
          }
        where
          root_items : (st : Start) → left.start ≡ st → ¬ (st ≡ Nothing) → ¬ (st ≡ Dot) → (others : List Item) × (items_of left ≡ RootDir ∷ others)
          root_items Nothing k x y = absurd (x refl)
          root_items Dot k x y = absurd (y refl)
          root_items Root k x y = (components_in left.rules left.body.now, ap (λ z. prefix_items z ++ from_body) p ∙ ap (λ z. start_items z ++ components_in left.rules left.body.now) k)

  module _ (old : AreLeftIn h left false count) (rest : List ℕ) (e : Ends left.rules left.body.now rest) (i : components_in left.rules left.body.now ≡ components_in left.rules rest) (more : ¬ ((rest ≡ []) × (left.start ≡ Nothing))) where
    pub part_fits : (length path - length h.body.now + length rest ≤ length path) × (length h.prefix.now ≤ length path - length h.body.now + length rest)
    part_fits = cases old.parts
      where
        cases : ArePartsLeft h left false old.front old.behind → (length path - length h.body.now + length rest ≤ length path) × (length h.prefix.now ≤ length path - length h.body.now + length rest)
        cases (all_before u f p s l) = (kept_fits old.front old.behind old.whole old.taken old.rules s l rest e i, prefix_fits old.front old.behind old.whole old.taken old.rules s l rest e i)
        cases (start_before u f m p s o l) = (kept_fits old.front old.behind old.whole old.taken old.rules s l rest e i, prefix_fits old.front old.behind old.whole old.taken old.rules s l rest e i)
        cases (prefix_left u f m p s l) = absurd (more (none_up_to left.rules left.body.now rest l e, s))
        cases (none_left p s l) = absurd (more (none_up_to left.rules left.body.now rest l e, s))
        cases (body_alone u p s l) = let never : false ≡ true = u in cc

    module _ (n : EndsNamed left.rules rest) where
      -- with a prefix all from the start on
      pub left_with_prefix : left.prefix.now ≢ [] → (part : List ℕ) → part ≡ take (length path - length h.body.now + length rest) path → IsLeft w path count (items_of left) part
      left_with_prefix m part d = cases old.parts
        where
          cases : ArePartsLeft h left false old.front old.behind → IsLeft w path count (items_of left) part
          cases (all_before u f p s l) = left_at_start old.front old.behind old.whole old.taken old.rules s l rest e i n f p part d
          cases (start_before u f o p s v l) = absurd (m p)
          cases (prefix_left u f o p s l) = absurd (more (none_up_to left.rules left.body.now rest l e, s))
          cases (none_left p s l) = absurd (m p)
          cases (body_alone u p s l) = let never : false ≡ true = u in cc

      -- else what follows the path's prefix
      pub left_after_prefix : left.prefix.now ≡ [] → (part : List ℕ) → part ≡ drop (length h.prefix.now) (take (length path - length h.body.now + length rest) path) → IsLeft w path count (items_of left) part
      left_after_prefix m part d = cases old.parts
        where
          cases : ArePartsLeft h left false old.front old.behind → IsLeft w path count (items_of left) part
          cases (all_before u f p s l) =
              left_at_start old.front old.behind old.whole old.taken old.rules s l rest e i n f p part (d ∙ ap (λ x. drop (length x) (take (length path - length h.body.now + length rest) path)) (sym p ∙ m))
          cases (start_before u f o p s v l) = left_at_root old.front old.behind old.whole old.taken old.rules s l rest e i n f o p v part d
          cases (prefix_left u f o p s l) = absurd (more (none_up_to left.rules left.body.now rest l e, s))
          cases (none_left p s l) = absurd (more (none_up_to left.rules left.body.now rest l e, s))
          cases (body_alone u p s l) = let never : false ≡ true = u in cc

-- on Unix the part has these components by itself
pub unix_left : (path : List ℕ) (taken : ℕ) (items : List Item) (part : List ℕ) → IsLeft style.Unix path taken items part → AreComponents style.Unix part items
unix_left path taken items part l = cases l.has
  where
    cases : HasLeft style.Unix path l.before part l.after l.front items l.behind → AreComponents style.Unix part items
    cases (nothing n m) = n ∙ ap (plain_components rule.Slash) (sym m)
    cases (from_start _ _ are _ _) = are
    cases (prefix_alone _ _ p _ _) = absurd p
    cases (after_prefix _ p _ _ _ _ _ _) = absurd p
    cases (in_body r _ _ has _ is _ begins _) =
        sym is ∙ ap (λ q. components_in q part) has.rules ∙ sym (plain_begun rule.Slash refl part (subst (λ q. BeginsNamed q part) has.rules begins))
