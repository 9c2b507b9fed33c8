-- From the laws of occurrences alone: pieces, strips and trims in units.
use Rattle.wtf8_core.proofs.Common.{nat_tests, common_steps, ◌≡◌, ℕ, zero, suc, ◌<◌, List, [], ◌∷◌, ◌++◌, length, map, Option, Some, None, refl, sym, ap, ◌∙◌, subst, arith, append_assoc, append-nil, length-append, append_cancel_left, nil_from_length, repeat, IsUtf8, IsFirstIndex, IsLastIndex, IsPrefix, IsSuffix, IsUnitIndexOf, OccurrenceLaws}
use Rattle.wtf8_core.proofs.lemmas.{forms.Appending.append_same, occurrence.Indices.no_units, occurrence.Indices.nothing, occurrence.Indices.around, occurrence.Indices.least, occurrence.Indices.greatest, occurrence.Indices.nowhere, occurrence.Indices.nowhere_in_units, occurrence.Indices.none_first, occurrence.Indices.none_last, occurrence.Indices.no_units_first, occurrence.Indices.no_units_last}
use Rattle.os_str_ext.specs.Pieces.{SplitsAt, IsSplit, IsRSplit, IsStartTrim, IsEndTrim, IsTrim, StripsPrefix, StripsSuffix, SplitsOnce, SplitsInto.whole, SplitsInto.cut}

module _ (wf : List ℕ → Type 0) (units : List ℕ → List ℕ) (laws : OccurrenceLaws wf units) where
  -- one cut
  cut_by : (Is : List ℕ → List ℕ → ℕ → Type 0) (p s prefix suffix : List ℕ) → IsUtf8 p → 0 < length p → wf s → s ≡ prefix ++ (p ++ suffix) → IsUnitIndexOf Is wf units p s (length prefix) → SplitsAt Is (units p) (units s) (units prefix) (units suffix)
  cut_by Is p s prefix suffix t h w e l = grind (arith, nat_tests, common_steps, around, append_same)

  first_cut : (p s prefix suffix : List ℕ) → IsUtf8 p → 0 < length p → wf s → SplitsAt IsFirstIndex p s prefix suffix → SplitsAt IsFirstIndex (units p) (units s) (units prefix) (units suffix)
  first_cut p s prefix suffix t h w c = cut_by IsFirstIndex p s prefix suffix t h w c.joined (least wf units laws p s (length prefix) t h w c.found)

  last_cut : (p s prefix suffix : List ℕ) → IsUtf8 p → 0 < length p → wf s → SplitsAt IsLastIndex p s prefix suffix → SplitsAt IsLastIndex (units p) (units s) (units prefix) (units suffix)
  last_cut p s prefix suffix t h w c = cut_by IsLastIndex p s prefix suffix t h w c.joined (greatest wf units laws p s (length prefix) t h w c.found)

  -- a cut around the empty text
  none_cut : (Is : List ℕ → List ℕ → ℕ → Type 0) (s prefix suffix : List ℕ) → units s ≡ units prefix ++ units suffix → Is (units []) (units s) (length (units prefix)) → SplitsAt Is (units []) (units s) (units prefix) (units suffix)
  none_cut Is s prefix suffix e f = record { joined = e ∙ ap (λ z. units prefix ++ (z ++ units suffix)) (sym (no_units wf units laws)); found = f }

  first_cut_of_none : (s prefix suffix : List ℕ) → SplitsAt IsFirstIndex [] s prefix suffix → SplitsAt IsFirstIndex (units []) (units s) (units prefix) (units suffix)
  first_cut_of_none s prefix suffix c =
      let f : prefix ≡ [] = nil_from_length prefix (none_first wf units laws s (length prefix) c.found) in
      let e : units prefix ≡ [] = ap units f ∙ no_units wf units laws in
      let b : units s ≡ units suffix = ap units (c.joined ∙ ap (λ z. z ++ suffix) f) in
      none_cut IsFirstIndex s prefix suffix (b ∙ ap (λ z. z ++ units suffix) (sym e)) (subst (λ n. IsFirstIndex (units []) (units s) n) (sym (ap length e)) (no_units_first wf units laws (units s)))

  last_cut_of_none : (s prefix suffix : List ℕ) → SplitsAt IsLastIndex [] s prefix suffix → SplitsAt IsLastIndex (units []) (units s) (units prefix) (units suffix)
  last_cut_of_none s prefix suffix c =
      let n : length prefix ≡ length s = none_last wf units laws s (length prefix) c.found in
      let b : suffix ≡ [] = nil_from_length suffix (omega (arith, n, ap length c.joined, length-append prefix suffix)) in
      let f : s ≡ prefix = c.joined ∙ ap (λ z. prefix ++ z) b ∙ append-nil prefix in
      let e : units s ≡ units prefix ++ units suffix = ap units f ∙ sym (append-nil (units prefix)) ∙ ap (λ z. units prefix ++ z) (sym (ap units b ∙ no_units wf units laws)) in
      none_cut IsLastIndex s prefix suffix e (subst (λ n. IsLastIndex (units []) (units s) n) (ap (λ z. length (units z)) f) (no_units_last wf units laws (units s)))

  -- one cut, or none
  pub once_in_units : {T : Type 0} (of : T → List ℕ) (p s : List ℕ) (r : Option (T × T)) → IsUtf8 p → wf s → SplitsOnce IsFirstIndex of p s r → SplitsOnce IsFirstIndex (λ x. units (of x)) (units p) (units s) r
  once_in_units of p s None t w c = nowhere_in_units wf units laws p s t w c
  once_in_units of [] s (Some parts) t w c = first_cut_of_none s (of parts.0) (of parts.1) c
  once_in_units of (x ∷ p) s (Some parts) t w c = first_cut (x ∷ p) s (of parts.0) (of parts.1) t (omega arith) w c

  pub last_once_in_units : {T : Type 0} (of : T → List ℕ) (p s : List ℕ) (r : Option (T × T)) → IsUtf8 p → wf s → SplitsOnce IsLastIndex of p s r → SplitsOnce IsLastIndex (λ x. units (of x)) (units p) (units s) r
  last_once_in_units of p s None t w c = nowhere_in_units wf units laws p s t w c
  last_once_in_units of [] s (Some parts) t w c = last_cut_of_none s (of parts.0) (of parts.1) c
  last_once_in_units of (x ∷ p) s (Some parts) t w c = last_cut (x ∷ p) s (of parts.0) (of parts.1) t (omega arith) w c

  -- all cuts
  pub split_in_units : (p s : List ℕ) (pieces : List (List ℕ)) → IsUtf8 p → 0 < length p → wf s → IsSplit p s pieces → IsSplit (units p) (units s) (map units pieces)
  split_in_units p s pieces t h w (whole n) = whole (nowhere wf units laws p s t h w n)
  split_in_units p s pieces t h w (cut {piece} {rest} {pieces = more} c r) =
      cut (first_cut p s piece rest t h w c) (split_in_units p rest more t h (around wf units laws p s piece rest t h w c.joined).1 r)

  pub rsplit_in_units : (p s : List ℕ) (pieces : List (List ℕ)) → IsUtf8 p → 0 < length p → wf s → IsRSplit p s pieces → IsRSplit (units p) (units s) (map units pieces)
  rsplit_in_units p s pieces t h w (whole n) = whole (nowhere wf units laws p s t h w n)
  rsplit_in_units p s pieces t h w (cut {piece} {rest} {pieces = more} c r) =
      cut (last_cut p s rest piece t h w c) (rsplit_in_units p rest more t h (around wf units laws p s rest piece t h w c.joined).0 r)

  -- a text at the start: what follows it, and the units
  after_prefix_in_units : (p s rest : List ℕ) → IsUtf8 p → wf s → s ≡ p ++ rest → wf rest × (units s ≡ units p ++ units rest)
  after_prefix_in_units p s rest t w e = let u = laws.prefixes p rest (laws.texts p t) (subst wf e w) in (u.0, ap units e ∙ u.1)

  -- a text that isn't empty at the end: what comes before it, and the units
  before_end : (p s rest : List ℕ) → IsUtf8 p → wf s → s ≡ rest ++ p → wf rest × (units s ≡ units rest ++ units p)
  before_end p s rest t w e =
      let x = laws.ends rest p (laws.texts p t) (subst wf e w) in
      (x, ap units e ∙ (laws.prefixes rest p x (subst wf e w)).1)

  -- a text is a prefix in units exactly if it is one in bytes
  pub prefix_in_bytes : (p s : List ℕ) → IsUtf8 p → wf s → IsPrefix (units p) (units s) → IsPrefix p s
  prefix_in_bytes [] s t w f = record { rest = s; joined = refl }
  prefix_in_bytes (x ∷ p) s t w f =
      let m = laws.units_occur (x ∷ p) s [] f.rest t (omega arith) w f.joined in
      record { rest = m.suffix; joined = m.joined ∙ ap (λ z. z ++ ((x ∷ p) ++ m.suffix)) (nothing wf units laws m.prefix m.formed m.units_are) }

  pub prefix_alike : (p s : List ℕ) → IsUtf8 p → wf s → (IsPrefix p s → IsPrefix (units p) (units s)) × (IsPrefix (units p) (units s) → IsPrefix p s)
  prefix_alike p s t w = (λ f. record { rest = units f.rest; joined = (after_prefix_in_units p s f.rest t w f.joined).1 }, prefix_in_bytes p s t w)

  -- and a suffix
  pub suffix_in_bytes : (p s : List ℕ) → IsUtf8 p → wf s → IsSuffix (units p) (units s) → IsSuffix p s
  suffix_in_bytes [] s t w f = record { rest = s; joined = sym (append-nil s) }
  suffix_in_bytes (x ∷ p) s t w f =
      let q = x ∷ p in
      let m = laws.units_occur q s f.rest [] t (omega arith) w (f.joined ∙ ap (λ z. f.rest ++ z) (sym (append-nil (units q)))) in
      let a = around wf units laws q s m.prefix m.suffix t (omega arith) w m.joined in
      let e : units q ++ units m.suffix ≡ units q ++ [] = append_cancel_left (units m.prefix) (units q ++ units m.suffix) (units q ++ []) (sym a.2 ∙ f.joined ∙ ap (λ z. z ++ units q) (sym m.units_are) ∙ ap (λ z. units m.prefix ++ z) (sym (append-nil (units q)))) in
      let n : m.suffix ≡ [] = nothing wf units laws m.suffix a.1 (append_cancel_left (units q) (units m.suffix) [] e) in
      record { rest = m.prefix; joined = m.joined ∙ ap (λ z. m.prefix ++ (q ++ z)) n ∙ ap (λ z. m.prefix ++ z) (append-nil q) }

  pub suffix_alike : (p s : List ℕ) → IsUtf8 p → wf s → (IsSuffix p s → IsSuffix (units p) (units s)) × (IsSuffix (units p) (units s) → IsSuffix p s)
  suffix_alike p s t w = (λ f. record { rest = units f.rest; joined = (before_end p s f.rest t w f.joined).1 }, suffix_in_bytes p s t w)

  -- strips
  pub strip_prefix_in_units : {T : Type 0} (of : T → List ℕ) (p s : List ℕ) (r : Option T) → IsUtf8 p → wf s → StripsPrefix of p s r → StripsPrefix (λ x. units (of x)) (units p) (units s) r
  strip_prefix_in_units of p s None t w c = λ f. c (prefix_in_bytes p s t w f)
  strip_prefix_in_units of p s (Some rest) t w c = (after_prefix_in_units p s (of rest) t w c).1

  pub strip_suffix_in_units : {T : Type 0} (of : T → List ℕ) (p s : List ℕ) (r : Option T) → IsUtf8 p → wf s → StripsSuffix of p s r → StripsSuffix (λ x. units (of x)) (units p) (units s) r
  strip_suffix_in_units of p s None t w c = λ f. c (suffix_in_bytes p s t w f)
  strip_suffix_in_units of p s (Some rest) t w c = (before_end p s (of rest) t w c).1

  -- a text n times before a rest
  times_prefix : (n : ℕ) (p r : List ℕ) → IsUtf8 p → wf (repeat n p ++ r) → wf r × (units (repeat n p ++ r) ≡ repeat n (units p) ++ units r)
  times_prefix zero p r t w = (w, refl)
  times_prefix (suc n) p r t w =
      let e = append_assoc p (repeat n p) r in
      let u = after_prefix_in_units p (repeat (suc n) p ++ r) (repeat n p ++ r) t w e in
      let v = times_prefix n p r t u.0 in
      (v.0, u.1 ∙ ap (λ z. units p ++ z) v.1 ∙ sym (append_assoc (units p) (repeat n (units p)) (units r)))

  pub start_trim_in_units : (p s r : List ℕ) → IsUtf8 p → wf s → IsStartTrim p s r → IsStartTrim (units p) (units s) (units r)
  start_trim_in_units p s r t w k =
      let v = times_prefix k.count p r t (subst wf k.trimmed w) in
      record { count = k.count; trimmed = ap units k.trimmed ∙ v.1; done = λ f. k.done (prefix_in_bytes p r t v.0 f) }

  -- and after a prefix
  times_suffix : (n : ℕ) (p r : List ℕ) → IsUtf8 p → 0 < length p → wf (r ++ repeat n p) → wf r × (units (r ++ repeat n p) ≡ units r ++ repeat n (units p))
  times_suffix zero p r t h w = (subst wf (append-nil r) w, ap units (append-nil r) ∙ sym (append-nil (units r)))
  times_suffix (suc n) p r t h w =
      let q = around wf units laws p (r ++ (p ++ repeat n p)) r (repeat n p) t h w refl in
      let v = times_prefix n p [] t (subst wf (sym (append-nil (repeat n p))) q.1) in
      (q.0, q.2 ∙ ap (λ z. units r ++ (units p ++ z)) (ap units (sym (append-nil (repeat n p))) ∙ v.1 ∙ ap (λ z. repeat n (units p) ++ z) (no_units wf units laws) ∙ append-nil (repeat n (units p))))

  pub end_trim_in_units : (p s r : List ℕ) → IsUtf8 p → 0 < length p → wf s → IsEndTrim p s r → IsEndTrim (units p) (units s) (units r)
  end_trim_in_units p s r t h w k =
      let v = times_suffix k.count p r t h (subst wf k.trimmed w) in
      record { count = k.count; trimmed = ap units k.trimmed ∙ v.1; done = λ f. k.done (suffix_in_bytes p r t v.0 f) }

  pub trim_in_units : (p s r : List ℕ) → IsUtf8 p → 0 < length p → wf s → IsTrim p s r → IsTrim (units p) (units s) (units r)
  trim_in_units p s r t h w (m, (a, b)) =
      let v = times_prefix a.count p m t (subst wf a.trimmed w) in
      (units m, (start_trim_in_units p s m t w a, end_trim_in_units p m r t h v.0 b))
