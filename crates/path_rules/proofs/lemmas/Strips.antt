-- The path after the components of a base.
use Rattle.std.proofs.Common.{◌≡◌, ◌≢◌, ◌⊎◌, inl, inr, ◌≤◌, ℕ, Bool, true, false, if◌then◌else◌, List, [], ◌∷◌, ◌++◌, length, take, drop, refl, sym, ap, ◌∙◌, subst, arith, append-nil, append_assoc, length-append, lit<}
use Rattle.std.proofs.lemmas.List.{take_at, append_cancel_left}
use Rattle.std.proofs.Math.Seq.{drop-append_seam}
use Rattle.path_rules.specs.declared.rules.Rules.TheVariants as rules
use Rattle.path_rules.specs.declared.rules.Style as whose
use Rattle.path_rules.specs.declared.rules.Style.TheVariants as style
use Rattle.path_rules.specs.declared.head.Start.{Start}
use Rattle.path_rules.specs.declared.head.Start.TheVariants.{Root, Dot, Nothing}
use Rattle.path_rules.specs.declared.head.Head.{Head}
use Rattle.path_rules.specs.Separators.{separates, Edge}
use Rattle.path_rules.specs.Component.{Item, Prefix, RootDir, components_in}
use Rattle.path_rules.specs.Heads.{prefix_items, start_items, items_of}
use Rattle.path_rules.specs.Components.{AreComponents, after_start, after_root}
use Rattle.path_rules.specs.HeadParts.{IsHead, bare_head, prefixed_head}
use Rattle.path_rules.specs.Prefix.{IsPrefixed, IsRawPrefix}
use Rattle.path_rules.specs.Compare.{AreAlike, StartsAlike, StartsWith, AreAllAlike}
use Rattle.path_rules.specs.Body.{HasBody, BeginsNamed, IsEndTrimmed}
use Rattle.path_rules.specs.Strip.{IsStripped, IsRestAfter, at_start, at_root, inside}
use Rattle.path_rules.specs.Taken.{IsTail, Takes, takes_prefix, takes_later, HaveTaken, taken_none, taken_prefix, taken_more, AreTaken, AreTakenSoFar}
use Rattle.path_rules.specs.Cut.{IsAsciiCut}
use Rattle.path_rules.specs.Cut as cut
use Rattle.path_rules.proofs.lemmas.Ascii.{edge_cut}
use Rattle.path_rules.proofs.lemmas.Alike.{step, starts_from, and_then}
use Rattle.path_rules.proofs.lemmas.Edges.{edge_after}
use Rattle.path_rules.proofs.lemmas.OneList.{one_components}
use Rattle.path_rules.proofs.lemmas.Parents.{shorter_of, no_dot, raw_drive}
use Rattle.path_rules.proofs.lemmas.Tails.{whole_tail, tail_again}

pub all_alike_push : (xs ys : List Item) (x y : Item) → AreAllAlike xs ys → AreAlike x y → AreAllAlike (xs ++ x ∷ []) (ys ++ y ∷ [])
all_alike_push [] [] x y h k = (k, tt)
all_alike_push [] (z ∷ ys) x y h k = absurd h
all_alike_push (z ∷ xs) [] x y h k = absurd h
all_alike_push (z ∷ xs) (u ∷ ys) x y h k = (h.0, all_alike_push xs ys x y h.1 k)

have_more : (h : Head) (taken : List Item) (g : Head) (x : Item) (k : Head) → HaveTaken h taken g → Takes g x k → HaveTaken h (taken ++ x ∷ []) k
have_more h taken g x k (taken_none e p s r b) (takes_prefix n f q t v d) =
    taken_prefix (subst (λ z. z ≢ []) p n) (ap (λ z. z ++ x ∷ []) e ∙ ap (λ z. z ∷ []) (f ∙ ap Prefix p)) q (t ∙ s) (v ∙ r) (d ∙ b)
have_more h taken g x k (taken_none e p s r b) (takes_later q t v d) = taken_more q t (v ∙ r) (subst (λ z. IsTail z k.body.now) b d)
have_more h taken g x k (taken_prefix m e p s r b) (takes_prefix n f q t v d) = absurd (n p)
have_more h taken g x k (taken_prefix m e p s r b) (takes_later q t v d) = taken_more q t (v ∙ r) (subst (λ z. IsTail z k.body.now) b d)
have_more h taken g x k (taken_more p s r b) (takes_prefix n f q t v d) = absurd (n p)
have_more h taken g x k (taken_more p s r b) (takes_later q t v d) = taken_more q t (v ∙ r) (tail_again h.body.now g.body.now k.body.now b d)

-- one component more
pub taken_on : (h : Head) (base : List Item) (g : Head) (wanted : List Item) (k : Head) (left : List Item) (x y : Item) → AreTakenSoFar h base g wanted
    → wanted ≡ y ∷ left → items_of g ≡ x ∷ items_of k → Takes g x k → AreAlike x y → AreTakenSoFar h base k left
taken_on h base g wanted k left x y a e f t like =
    let b = a.so_far in
    record {
      seen = a.seen ++ y ∷ [];
      joined = a.joined ∙ ap (λ z. a.seen ++ z) e ∙ sym (append_assoc a.seen (y ∷ []) left);
      so_far = record {
        taken = b.taken ++ x ∷ [];
        items = b.items ∙ ap (λ z. b.taken ++ z) f ∙ sym (append_assoc b.taken (x ∷ []) (items_of k));
        alike = all_alike_push b.taken a.seen x y b.alike like;
        have = have_more h b.taken g x k b.have t;
      };
      same = and_then a.same (step (items_of g) wanted (items_of k) left x y f e like);
    }

pub taken_all : (h : Head) (base : List Item) (g : Head) (wanted : List Item) → AreTakenSoFar h base g wanted → wanted ≡ [] → AreTaken h base g
taken_all h base g wanted a e = subst (λ z. AreTaken h z g) (sym (a.joined ∙ ap (λ z. a.seen ++ z) e ∙ append-nil a.seen)) a.so_far

-- what follows the start, and the body
after_tail : (st : Start) (s : List ℕ) → (front : List ℕ) × (s ≡ front ++ after_start st s)
after_tail Nothing s = ([], refl)
after_tail Root [] = ([], refl)
after_tail Root (b ∷ s) = (b ∷ [], refl)
after_tail Dot [] = ([], refl)
after_tail Dot (b ∷ s) = (b ∷ [], refl)

pub root_tail : (s : List ℕ) → (front : List ℕ) × (s ≡ front ++ after_root s)
root_tail [] = ([], refl)
root_tail (c ∷ u) = cases (separates rules.Either c)
  where
    cases : (v : Bool) → (front : List ℕ) × (c ∷ u ≡ front ++ (if v then u else c ∷ u))
    cases true = (c ∷ [], refl)
    cases false = ([], refl)

body_tail : (w : whose.Style) (path : List ℕ) (head : Head) → IsHead w path head → (front : List ℕ) × (path ≡ front ++ head.body.now)
body_tail style.Unix path head h = let t = after_tail head.start path in (t.0, t.1 ∙ ap (λ x. t.0 ++ x) (sym (h.start.1)))
body_tail style.Windows path head (bare_head h) = let t = after_tail head.start path in (t.0, t.1 ∙ ap (λ x. t.0 ++ x) (sym (h.start.1)))
body_tail style.Windows path head (prefixed_head h) =
    let t = root_tail h.rest in
    (head.prefix.now ++ t.0, h.joined ∙ ap (λ x. head.prefix.now ++ x) (t.1 ∙ ap (λ x. t.0 ++ x) (sym h.body)) ∙ sym (append_assoc head.prefix.now (t.0) head.body.now))

pub body_at : (w : whose.Style) (path : List ℕ) (head : Head) → IsHead w path head → IsTail path head.body.now
body_at w path head h =
    let f = shorter_of path head [] (components_in head.rules head.body.now) (inl refl) refl w h in
    let t = body_tail w path head h in
    let long : length (t.0) ≡ length f.before = let l = f.long in let a = ap length (t.1) in omega (arith, length-append (t.0) head.body.now) in
    let same : f.before ≡ t.0 = sym (ap (take (length f.before)) f.joined ∙ take_at f.before f.more (length f.before) refl) ∙ ap (take (length f.before)) (t.1) ∙ take_at (t.0) head.body.now (length f.before) long in
    let rest : f.more ≡ head.body.now = append_cancel_left f.before f.more head.body.now (sym f.joined ∙ t.1 ∙ ap (λ x. x ++ head.body.now) (sym same)) in
    record { before = f.before; joined = f.joined ∙ ap (λ x. f.before ++ x) rest; cut = subst (IsAsciiCut f.before) rest f.beside }

pub head_body : (w : whose.Style) (path : List ℕ) (head : Head) → IsHead w path head → HasBody w path head.rules head.body.now
head_body style.Unix path head h = record { rules = h.rules; is = h.start.1 ∙ ap (λ x. after_start x path) (h.start.0) }
head_body style.Windows path head (bare_head h) = inr (h.none, record { rules = h.rules; is = h.start.1 ∙ ap (λ x. after_start x path) (h.start.0) })
head_body style.Windows path head (prefixed_head h) = inl (record { kind = h.kind; rest = h.rest; prefix = h.is; rules = h.rules; is = h.body })

-- the parts of a path with a prefix
pub record AtPrefix (w : whose.Style) (whole : List ℕ) (head : Head) : Type 0 where
  pub rest : List ℕ
  pub joined : whole ≡ head.prefix.now ++ rest
  pub cut : IsAsciiCut head.prefix.now rest
  pub prefixed : IsPrefixed w whole
  pub raw : IsRawPrefix w whole head.prefix.now
  pub no_dot : ¬ (head.start ≡ Dot)

drive_cut : (raw rest : List ℕ) → Edge rules.Either rest ⊎ ((d : ℕ) × (raw ≡ d ∷ 0x3A ∷ [])) → IsAsciiCut raw rest
drive_cut raw rest (inl e) = edge_cut rules.Either raw rest e
drive_cut raw rest (inr k) = cut.after_ascii (k.0 ∷ []) 0x3A k.1 (lit< tt)

pub at_prefix : (w : whose.Style) (whole : List ℕ) (head : Head) → IsHead w whole head → head.prefix.now ≢ [] → AtPrefix w whole head
at_prefix style.Unix whole head h m = absurd (m h.prefix)
at_prefix style.Windows whole head (bare_head h) m = absurd (m h.prefix)
at_prefix style.Windows whole head (prefixed_head h) m = record {
  rest = h.rest;
  joined = h.joined;
  cut = drive_cut head.prefix.now h.rest (raw_drive whole head.prefix.now h.rest h.joined (edge_after whole h.kind h.rest h.is));
  prefixed = (h.kind, (h.rest, h.is));
  raw = inl (h.kind, (h.rest, (h.is, h.joined)));
  no_dot = λ d. no_dot h.kind h.rest (sym h.start ∙ d);
}

module _ (w : whose.Style) (path base whole : List ℕ) (trim : IsEndTrimmed w path whole) (head : Head) (h : IsHead w whole head) (listed : AreComponents w whole (items_of head)) (bs : List Item) (are : AreComponents w base bs) where
  pub not_stripped : ¬ (StartsAlike (items_of head) bs) → StartsWith w path base → ⊥
  not_stripped n s =
      let items : AreComponents w path (items_of head) = subst (AreComponents w path) (one_components w whole trim.items (items_of head) trim.are listed) trim.whole in
      n ((starts_from w path base (items_of head) bs items are).0 s)

  module _ (left : Head) (t : AreTaken head bs left) where
    made : (before rest : List ℕ) → whole ≡ before ++ rest → IsAsciiCut before rest → IsRestAfter w (before ++ rest) before rest t.taken (items_of left) → IsStripped w path base rest (items_of left)
    made before rest j c a = record {
      before = before;
      trimmed = subst (IsEndTrimmed w path) j trim;
      cut = c;
      items = t.taken;
      whole = subst (AreComponents w path) (one_components w whole trim.items (items_of head) trim.are listed ∙ t.items) trim.whole;
      base_items = bs;
      base_are = are;
      alike = t.alike;
      after = a;
    }

    pub stripped_whole : left.prefix.now ≢ [] → (more : List Item) × IsStripped w path base whole more
    stripped_whole n = (items_of left, cases t.have)
      where
        cases : HaveTaken head t.taken left → IsStripped w path base whole (items_of left)
        cases (taken_none e p s r k) = made [] whole refl (cut.at_start refl) (at_start refl e)
        cases (taken_prefix m e p s r k) = absurd (n p)
        cases (taken_more p s r k) = absurd (n p)

    same_rules : HaveTaken head t.taken left → head.rules ≡ left.rules
    same_rules (taken_none e p s r k) = sym r
    same_rules (taken_prefix m e p s r k) = sym r
    same_rules (taken_more p s r k) = sym r

    left_tail : HaveTaken head t.taken left → IsTail head.body.now left.body.now
    left_tail (taken_none e p s r k) = subst (IsTail head.body.now) (sym k) (whole_tail head.body.now)
    left_tail (taken_prefix m e p s r k) = subst (IsTail head.body.now) (sym k) (whole_tail head.body.now)
    left_tail (taken_more p s r k) = k

    pub stripped_inside : left.prefix.now ≡ [] → left.start ≡ Nothing → (rest : List ℕ) → components_in left.rules left.body.now ≡ components_in left.rules rest → IsTail left.body.now rest → BeginsNamed left.rules rest
        → (more : List Item) × IsStripped w path base rest more
    stripped_inside p s rest items k named =
        let tail = tail_again whole left.body.now rest (tail_again whole head.body.now left.body.now (body_at w whole head h) (left_tail t.have)) k in
        let all : items_of left ≡ components_in left.rules left.body.now =
        ap (λ x. prefix_items x ++ (start_items left.start ++ components_in left.rules left.body.now)) p ∙ ap (λ x. start_items x ++ components_in left.rules left.body.now) s in
        let has : HasBody w (tail.before ++ rest) left.rules head.body.now =
        subst (λ x. HasBody w x left.rules head.body.now) tail.joined (subst (λ x. HasBody w whole x head.body.now) (same_rules t.have) (head_body w whole head h)) in
        (items_of left, made tail.before rest tail.joined tail.cut (inside left.rules head.body.now has (sym (all ∙ items)) named))

    pub stripped_root : left.prefix.now ≡ [] → ¬ (left.start ≡ Nothing) → (rest : List ℕ) → rest ≡ drop (length head.prefix.now) whole → (more : List Item) × IsStripped w path base rest more
    stripped_root p n rest d = (items_of left, cases t.have)
      where
        root_items : (st : Start) → left.start ≡ st → ¬ (st ≡ Nothing) → ¬ (st ≡ Dot) → (others : List Item) × (items_of left ≡ RootDir ∷ others)
        root_items Nothing e a b = absurd (a refl)
        root_items Dot e a b = absurd (b refl)
        root_items Root e a b = (components_in left.rules left.body.now, ap (λ x. prefix_items x ++ (start_items left.start ++ components_in left.rules left.body.now)) p ∙ ap (λ x. start_items x ++ components_in left.rules left.body.now) e)

        cases : HaveTaken head t.taken left → IsStripped w path base rest (items_of left)
        cases (taken_none e q s r k) = let all : whole ≡ rest = sym (d ∙ ap (λ x. drop (length x) whole) (sym q ∙ p)) in made [] rest all (cut.at_start refl) (at_start refl e)
        cases (taken_prefix m e q s r k) =
            let a = at_prefix w whole head h m in
            let same : rest ≡ a.rest = d ∙ ap (drop (length head.prefix.now)) a.joined ∙ drop-append_seam head.prefix.now a.rest in
            let joined : whole ≡ head.prefix.now ++ rest = a.joined ∙ ap (λ x. head.prefix.now ++ x) (sym same) in
            let more = root_items left.start refl n (λ f. a.no_dot (sym s ∙ f)) in
            made head.prefix.now rest joined (subst (IsAsciiCut head.prefix.now) (sym same) a.cut)
            (at_root (subst (IsPrefixed w) joined a.prefixed) (subst (λ x. IsRawPrefix w x head.prefix.now) joined a.raw) e (more.0) (more.1))
        cases (taken_more q s r k) = absurd (n s)

pub prefix_inside : (w : whose.Style) (whole : List ℕ) (head : Head) → IsHead w whole head → length head.prefix.now ≤ length whole
prefix_inside style.Unix whole head h = let l = ap length h.prefix in omega arith
prefix_inside style.Windows whole head (bare_head h) = let l = ap length h.prefix in omega arith
prefix_inside style.Windows whole head (prefixed_head h) = let l = ap length h.joined in omega (arith, length-append head.prefix.now h.rest)
