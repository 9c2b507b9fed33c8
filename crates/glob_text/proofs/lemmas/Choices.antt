-- Marks whose braces are closed are written out as choices, which are found one more mark at a time.
use Rattle.std.proofs.Common.{◌≡◌, ◌⊎◌, inl, inr, ℕ, ◌+◌, nat_eq, true, false, List, [], ◌∷◌, ◌++◌, length, Option, Some, None, refl, sym, ap, ◌∙◌, subst, arith, append_assoc, append-nil}
use Rattle.std.proofs.Math.Dec.{eqb-suc-zero}
use Rattle.glob_text.proofs.lemmas.Braces.{at_close, some_same}
use Rattle.glob_text.specs.Marks.{Mark, literal, any, star, one_of, opens, comma, closes}
use Rattle.glob_text.specs.Braces.{depth_after, if_some, are_balanced}
use Rattle.glob_text.specs.Alternatives.{each, product, sequence, alternatives, is_itself, StandFor, nothing, one, group, first, next, AreChoices}

-- alternatives that aren't closed: the choices of those that are whole, and of what is before the brace
pub record Frame : Type 0 where
  pub found : List (List Mark)
  pub outer : List (List Mark)

-- the alternatives that are open, the innermost first, and the choices of what comes last
pub record State : Type 0 where
  pub frames : List Frame
  pub current : List (List Mark)

-- after a mark that is itself
abbrev after_itself : State → Mark → State
after_itself s m = record { frames = s.frames; current = each s.current m }

-- after a comma
abbrev comma_in : List Frame → List (List Mark) → State
comma_in [] current = record { frames = []; current = each current comma }
comma_in (f ∷ fs) current = record { frames = record { found = f.found ++ current; outer = f.outer } ∷ fs; current = [] ∷ [] }

-- after a `}`
abbrev close_in : List Frame → List (List Mark) → State
close_in [] current = record { frames = []; current = current }
close_in (f ∷ fs) current = record { frames = fs; current = product f.outer (f.found ++ current) }

-- after one more mark
abbrev advanced : State → Mark → State
advanced s (literal letter) = after_itself s (literal letter)
advanced s any = after_itself s any
advanced s (star again) = after_itself s (star again)
advanced s (one_of negated ranges) = after_itself s (one_of negated ranges)
advanced s (opens index) = record { frames = record { found = []; outer = s.current } ∷ s.frames; current = [] ∷ [] }
advanced s comma = comma_in s.frames s.current
advanced s (closes index) = close_in s.frames s.current

-- the whole alternatives of a group, each with the comma after it
abbrev pub AreWhole : List (List Mark) → List Mark → Type 0
AreWhole found ms = ((found ≡ []) × (ms ≡ [])) ⊎ ((ns : List Mark) × (ms ≡ ns ++ comma ∷ []) × StandFor alternatives ns found)

-- a group that is open
pub record IsInside (Outside : List Mark → Type 0) (found current : List (List Mark)) (ms : List Mark) : Type 0 where
  pub outside : List Mark
  pub index : ℕ
  pub whole : List Mark
  pub last : List Mark
  pub joined : ms ≡ outside ++ opens index ∷ (whole ++ last)
  pub outer : Outside outside
  pub found_is : AreWhole found whole
  pub current_is : StandFor (sequence true) last current

-- the choices are those of the marks so far
abbrev pub Reached : List Frame → List (List Mark) → List Mark → Type 0
Reached [] current ms = StandFor (sequence false) ms current
Reached (f ∷ fs) current ms = IsInside (Reached fs f.outer) f.found current ms

module _ (m : Mark) where
  itself : (fs : List Frame) (current : List (List Mark)) (ms : List Mark) → is_itself true m ≡ true → is_itself false m ≡ true → Reached fs current ms → Reached fs (each current m) (ms ++ m ∷ [])
  itself [] current ms i o r = one m o r
  itself (f ∷ fs) current ms i o r = record {
    outside = r.outside;
    index = r.index;
    whole = r.whole;
    last = r.last ++ m ∷ [];
    joined = ap (λ z. z ++ m ∷ []) r.joined ∙ append_assoc r.outside (opens r.index ∷ (r.whole ++ r.last)) (m ∷ []) ∙ ap (λ z. r.outside ++ opens r.index ∷ z) (append_assoc r.whole r.last (m ∷ []));
    outer = r.outer;
    found_is = r.found_is;
    current_is = one m i r.current_is;
  }

opened : (index : ℕ) (fs : List Frame) (current : List (List Mark)) (ms : List Mark) → Reached fs current ms → Reached (record { found = []; outer = current } ∷ fs) ([] ∷ []) (ms ++ opens index ∷ [])
opened index fs current ms r = record {
  outside = ms;
  index = index;
  whole = [];
  last = [];
  joined = refl;
  outer = r;
  found_is = inl (refl, refl);
  current_is = nothing;
}

one_whole : (found current : List (List Mark)) (whole last : List Mark) → AreWhole found whole → StandFor (sequence true) last current → StandFor alternatives (whole ++ last) (found ++ current)
one_whole found current whole last (inl h) c = rw (h.0, h.1) (first c)
one_whole found current whole last (inr h) c = subst (λ z. StandFor alternatives z (found ++ current)) (sym (ap (λ z. z ++ last) h.1 ∙ append_assoc h.0 (comma ∷ []) last)) (next h.2 c)

divided : (f : Frame) (fs : List Frame) (current : List (List Mark)) (ms : List Mark) → Reached (f ∷ fs) current ms → Reached (record { found = f.found ++ current; outer = f.outer } ∷ fs) ([] ∷ []) (ms ++ comma ∷ [])
divided f fs current ms r = record {
  outside = r.outside;
  index = r.index;
  whole = (r.whole ++ r.last) ++ comma ∷ [];
  last = [];
  joined = ap (λ z. z ++ comma ∷ []) r.joined ∙ append_assoc r.outside (opens r.index ∷ (r.whole ++ r.last)) (comma ∷ []) ∙ ap (λ z. r.outside ++ opens r.index ∷ z) (sym (append-nil ((r.whole ++ r.last) ++ comma ∷ [])));
  outer = r.outer;
  found_is = inr (r.whole ++ r.last, refl, one_whole f.found current r.whole r.last r.found_is r.current_is);
  current_is = nothing;
}

grouped : (i j : ℕ) (ns : List Mark) (ds : List (List Mark)) (fs : List Frame) (current : List (List Mark)) (ms : List Mark) → StandFor alternatives ns ds → Reached fs current ms → Reached fs (product current ds) (ms ++ opens i ∷ (ns ++ closes j ∷ []))
grouped i j ns ds [] current ms a r = group i j r a
grouped i j ns ds (f ∷ fs) current ms a r = record {
  outside = r.outside;
  index = r.index;
  whole = r.whole;
  last = r.last ++ opens i ∷ (ns ++ closes j ∷ []);
  joined = ap (λ z. z ++ opens i ∷ (ns ++ closes j ∷ [])) r.joined ∙ append_assoc r.outside (opens r.index ∷ (r.whole ++ r.last)) (opens i ∷ (ns ++ closes j ∷ [])) ∙ ap (λ z. r.outside ++ opens r.index ∷ z) (append_assoc r.whole r.last (opens i ∷ (ns ++ closes j ∷ [])));
  outer = r.outer;
  found_is = r.found_is;
  current_is = group i j r.current_is a;
}

closed : (index : ℕ) (f : Frame) (fs : List Frame) (current : List (List Mark)) (ms : List Mark) → Reached (f ∷ fs) current ms → Reached fs (product f.outer (f.found ++ current)) (ms ++ closes index ∷ [])
closed index f fs current ms r =
    subst (Reached fs (product f.outer (f.found ++ current)))
    (sym (ap (λ z. z ++ closes index ∷ []) r.joined ∙ append_assoc r.outside (opens r.index ∷ (r.whole ++ r.last)) (closes index ∷ [])))
    (grouped r.index index (r.whole ++ r.last) (f.found ++ current) fs f.outer r.outside (one_whole f.found current r.whole r.last r.found_is r.current_is) r.outer)

-- one more mark
reached_in : (m : Mark) (fs : List Frame) (current : List (List Mark)) (ms : List Mark) (d : ℕ) → depth_after (length fs) m ≡ Some d → Reached fs current ms → Reached (advanced (record { frames = fs; current = current }) m).frames (advanced (record { frames = fs; current = current }) m).current (ms ++ m ∷ [])
reached_in (literal letter) fs current ms d e r = itself (literal letter) fs current ms refl refl r
reached_in any fs current ms d e r = itself any fs current ms refl refl r
reached_in (star again) fs current ms d e r = itself (star again) fs current ms refl refl r
reached_in (one_of negated ranges) fs current ms d e r = itself (one_of negated ranges) fs current ms refl refl r
reached_in (opens index) fs current ms d e r = opened index fs current ms r
reached_in comma [] current ms d e r = one comma refl r
reached_in comma (f ∷ fs) current ms d e r = divided f fs current ms r
reached_in (closes index) [] current ms d e r = let never : None ≡ Some d = e in absurd cc
reached_in (closes index) (f ∷ fs) current ms d e r = closed index f fs current ms r

depth_in : (m : Mark) (fs : List Frame) (current : List (List Mark)) (d : ℕ) → depth_after (length fs) m ≡ Some d → length (advanced (record { frames = fs; current = current }) m).frames ≡ d
depth_in (literal letter) fs current d e = some_same e
depth_in any fs current d e = some_same e
depth_in (star again) fs current d e = some_same e
depth_in (one_of negated ranges) fs current d e = some_same e
depth_in (opens index) fs current d e = let k : length fs + 1 ≡ d = some_same e in omega (arith, k)
depth_in comma [] current d e = some_same e
depth_in comma (f ∷ fs) current d e = some_same e
depth_in (closes index) [] current d e = let never : None ≡ Some d = e in absurd cc
depth_in (closes index) (f ∷ fs) current d e = some_same (sym (at_close index (length fs)) ∙ e)

no_frames : (fs : List Frame) → nat_eq (length fs) 0 ≡ true → fs ≡ []
no_frames [] e = refl
no_frames (f ∷ fs) e = let never : false ≡ true = sym (eqb-suc-zero (length fs)) ∙ e in absurd cc

pub at_end : (fs : List Frame) (current : List (List Mark)) (ms : List Mark) → Reached fs current ms → are_balanced (length fs) [] ≡ true → AreChoices ms current
at_end fs current ms r e = subst (λ z. Reached z current ms) (no_frames fs e) r

none_after : (m : Mark) (depth : ℕ) (rest : List Mark) → are_balanced depth (m ∷ rest) ≡ true → depth_after depth m ≡ None → ⊥
none_after m depth rest e n = let never : false ≡ true = ap (λ z. if_some z (λ d. are_balanced d rest)) (sym n) ∙ e in absurd cc

pub some_after : (m : Mark) (depth : ℕ) (rest : List Mark) → are_balanced depth (m ∷ rest) ≡ true → (d : ℕ) × (depth_after depth m ≡ Some d) × (are_balanced d rest ≡ true)
some_after m depth rest e = go (depth_after depth m) refl
  where
    go : (o : Option ℕ) → depth_after depth m ≡ o → (d : ℕ) × (depth_after depth m ≡ Some d) × (are_balanced d rest ≡ true)
    go None n = absurd (none_after m depth rest e n)
    go (Some d) n = (d, n, ap (λ z. if_some z (λ d. are_balanced d rest)) (sym n) ∙ e)

-- marks that are left, whose braces are closed, lead to choices
some_behind : (rest : List Mark) (fs : List Frame) (current : List (List Mark)) (ms : List Mark) → Reached fs current ms → are_balanced (length fs) rest ≡ true → (choices : List (List Mark)) × AreChoices (ms ++ rest) choices
some_behind [] fs current ms r e = (current, subst (λ z. AreChoices z current) (sym (append-nil ms)) (at_end fs current ms r e))
some_behind (m ∷ rest) fs current ms r e =
    let after = some_after m (length fs) rest e in
    let next = advanced (record { frames = fs; current = current }) m in
    let balanced = subst (λ z. are_balanced z rest ≡ true) (sym (depth_in m fs current after.0 after.1)) after.2 in
    let h = some_behind rest next.frames next.current (ms ++ m ∷ []) (reached_in m fs current ms after.0 after.1 r) balanced in
    (h.0, subst (λ z. AreChoices z h.0) (append_assoc ms (m ∷ []) rest) h.1)

-- marks whose braces are closed are written out as choices
pub some_choices : (marks : List Mark) → are_balanced 0 marks ≡ true → (choices : List (List Mark)) × AreChoices marks choices
some_choices marks e = some_behind marks [] ([] ∷ []) [] nothing e
