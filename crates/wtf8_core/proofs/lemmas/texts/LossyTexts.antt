-- One fault, and lossy texts.
use Rattle.wtf8_core.proofs.Common.{◌≡◌, inl, inr, ⊎_elim, ℕ, ◌+◌, ◌<◌, ◌≤◌, true, false, List, [], ◌∷◌, ◌++◌, length, take, drop, map, Option, Some, None, refl, sym, ap, ◌∙◌, subst, arith, take-append-drop, MatchOption, unwrap_or, flat_map, IsUtf8, IsValidUpTo, all_scalars, utf8_lossy, utf8_error_len, utf8_invalid_len, take-length, cases_lt, cases_Bool, and_parts, cond-true, cond-false, map-append, flat_map-append, utf8_lossy_step, utf8_lossy-IsUtf8, utf8_valid_len-IsValidUpTo, is_surrogate, encode, Encodes, IsWtf8, IsProperPrefix, IsIllFormed, IsUtf8Fault, IsIllFormedPart, wtf8_lossy, replacement, IsLossyText, without_surrogate, scalar, ◌-◌, take-add, length-drop, take-take, drop-drop, drop-take, IsUtf8-append, Bool, not, ◌↔◌, IsTrue}
use Rattle.std.specs.Prelude.{is_some}
use Rattle.wtf8_core.specs.Lossy.IsLossyText.{text, replaced}
use Rattle.wtf8_core.proofs.lemmas.{characters.AtIndices.NoChar, characters.AtIndices.none_at, characters.AtIndices.scalar_no_surrogate, forms.ByStd.forms_encode, forms.ByStd.forms_prefix, forms.Cuts.encodes_parts, forms.Cuts.utf8_after, forms.Ranges.in_range, units.AsFunction.code_points_in-encoded, units.PrefixTests.never, chunks.PartUnits.begins_surrogate, texts.StdFaults.fault_is}

-- bytes with a fault are no text
pub no_text : (b : List ℕ) (n : ℕ) → IsValidUpTo b n → IsUtf8 b → ⊥
no_text b n v u = v.longest (length b) v.short (subst IsUtf8 (sym (take-length b)) u)

-- an answer is none exactly for a text
pub none_exactly : (b : List ℕ) (r : Option (ℕ × Option ℕ)) (none : Bool) → MatchOption r (IsUtf8 b) (λ f. IsUtf8Fault b f.0 f.1) → is_some r ≡ not none → IsTrue none ↔ IsUtf8 b
none_exactly b None true h e = (λ _. h, λ _. refl)
none_exactly b (Some f) false h e = never _ (no_text b f.0 h.valid)
none_exactly b r none h e = cc

-- bytes have one longest prefix that is UTF-8
pub one_valid : (b : List ℕ) (n m : ℕ) → IsValidUpTo b n → IsValidUpTo b m → n ≡ m
one_valid b n m v w = sym (utf8_valid_len-IsValidUpTo b n v) ∙ utf8_valid_len-IsValidUpTo b m w

-- bytes begin with one ill-formed part, as the shorter of two would be longer
not_less : (r : List ℕ) (k m : ℕ) → IsIllFormed r k → IsIllFormed r m → m ≤ k
not_less r k m i j = ⊎_elim (λ h. let s = i.some in absurd (i.longest m h j.within (j.prefix (omega arith)))) (λ h. h) (cases_lt k m)

pub one_part : (r : List ℕ) (k m : ℕ) → IsIllFormed r k → IsIllFormed r m → k ≡ m
one_part r k m i j = let a = not_less r k m i j in let b = not_less r m k j i in omega arith

-- the lengths of a fault are equal
same_len : (r : List ℕ) (l k : Option ℕ) → MatchOption l (IsProperPrefix r) (IsIllFormed r) → MatchOption k (IsProperPrefix r) (IsIllFormed r) → l ≡ k
same_len r None None p q = refl
same_len r None (Some k) p q = absurd (q.closed p)
same_len r (Some l) None p q = absurd (p.closed q)
same_len r (Some l) (Some k) p q = ap Some (one_part r l k p q)

-- bytes have one fault of UTF-8
pub one_utf8_fault : (b : List ℕ) (n m : ℕ) (l k : Option ℕ) → IsUtf8Fault b n l → IsUtf8Fault b m k → (n ≡ m) × (l ≡ k)
one_utf8_fault b n m l k f g =
    let e = one_valid b n m f.valid g.valid in
    (e, same_len (drop n b) l k f.part (subst (λ x. MatchOption k (IsProperPrefix (drop x b)) (IsIllFormed (drop x b))) (sym e) g.part))

-- the part's length, by std's answer
part_len : (r : List ℕ) (m : ℕ) (o : Option ℕ) → MatchOption o (IsProperPrefix r) (IsIllFormed r) → IsIllFormedPart r m → unwrap_or o (length r) ≡ m
part_len r m None p (inl q) = sym q.1
part_len r m None p (inr q) = absurd (q.closed p)
part_len r m (Some k) p (inl q) = absurd (p.closed q.0)
part_len r m (Some k) p (inr q) = one_part r k m p q

-- std's lossy text, by the definitions
pub lossy_step : (b : List ℕ) (n m : ℕ) → IsValidUpTo b n → IsIllFormedPart (drop n b) m → utf8_lossy b ≡ take n b ++ (replacement ++ utf8_lossy (drop (n + m) b))
lossy_step b n m v p =
    let e = utf8_valid_len-IsValidUpTo b n v in
    let l : utf8_invalid_len (drop n b) ≡ m = part_len (drop n b) m (utf8_error_len (drop n b)) (fault_is b n (utf8_error_len (drop n b)) v refl).part p in
    utf8_lossy_step b (λ f. omega arith)
    ∙ ap (λ k. take k b ++ (replacement ++ utf8_lossy (drop (k + utf8_invalid_len (drop k b)) b))) e
    ∙ ap (λ k. take n b ++ (replacement ++ utf8_lossy (drop (n + k) b))) l

-- there is one lossy text
pub lossy_text_is : (b t : List ℕ) → IsLossyText b t → utf8_lossy b ≡ t
lossy_text_is b t (text u) = utf8_lossy-IsUtf8 b u
lossy_text_is b t (replaced n m v p w) = lossy_step b n m v p ∙ ap (λ x. take n b ++ (replacement ++ x)) (lossy_text_is _ _ w)

-- scalars stay in lossy texts
pub kept : (ts : List ℕ) → all_scalars ts ≡ true → map without_surrogate ts ≡ ts
kept [] e = refl
kept (t ∷ ts) e =
    let p = and_parts (scalar t) _ e in
    let s : is_surrogate t ≡ false = ⊎_elim (λ q. absurd (scalar_no_surrogate t p.0 q)) (λ q. q) (cases_Bool (is_surrogate t)) in
    ap (λ x. x ∷ map without_surrogate ts) (cond-false (is_surrogate t) 0xFFFD t s) ∙ ap (λ l. t ∷ l) (kept ts p.1)

-- what follows a text at the start of WTF-8
pub after_text : (b cs : List ℕ) (n : ℕ) → Encodes b cs → (u : IsUtf8 (take n b)) → (others : List ℕ) × (cs ≡ u.0 ++ others) × Encodes (drop n b) others
after_text b cs n s u =
    let text = forms_encode u.0 ∙ u.1.1 in
    let f = forms_prefix u.0 cs (drop n b) (sym s.joined ∙ sym (take-append-drop n b) ∙ ap (λ x. x ++ drop n b) (sym text)) in
    (f.0, f.1, (encodes_parts b cs (take n b) (drop n b) s (record { prefix = u.0; suffix = f.0; cut = f.1; prefix_is = text; suffix_is = f.2 })).1)

-- a text at the start stays
pub wtf8_lossy_prefix : (b : List ℕ) (n : ℕ) → IsWtf8 b → IsUtf8 (take n b) → wtf8_lossy b ≡ take n b ++ wtf8_lossy (drop n b)
wtf8_lossy_prefix b n w u =
    let t = after_text b w.0 n w.1 u in
    let ws : List ℕ → List ℕ = λ l. flat_map encode (map without_surrogate l) in
    ap ws (code_points_in-encoded b w.0 w.1 ∙ t.1)
    ∙ ap (flat_map encode) (map-append without_surrogate u.0 t.0)
    ∙ flat_map-append encode (map without_surrogate u.0) (map without_surrogate t.0)
    ∙ ap (λ l. flat_map encode l ++ ws t.0) (kept u.0 u.1.0)
    ∙ ap (λ l. l ++ ws t.0) (forms_encode u.0 ∙ u.1.1)
    ∙ ap (λ l. take n b ++ ws l) (sym (code_points_in-encoded (drop n b) t.0 t.2))

-- the form of U+FFFD
pub form_fffd : encode 0xFFFD ≡ replacement
unfolding encode
form_fffd = refl

-- a surrogate at the start is replaced
pub record SurrogateFirst (b : List ℕ) : Type 0 where
  pub within : 3 ≤ length b
  pub rest : IsWtf8 (drop 3 b)
  pub lossy : wtf8_lossy b ≡ replacement ++ wtf8_lossy (drop 3 b)

-- bytes that begin with no character begin with a surrogate
pub surrogate_first : (b : List ℕ) → IsWtf8 b → 0 < length b → NoChar b → SurrogateFirst b
surrogate_first b w h k = by w.0 w.1
  where
    by : (cs : List ℕ) → Encodes b cs → SurrogateFirst b
    by [] s = let e = ap length s.joined in absurd (omega arith)
    by (c ∷ cs) s =
        let f = begins_surrogate b c cs s (none_at b 0 k) in
        record {
          within = f.within;
          rest = (cs, f.rest);
          lossy = ap (λ l. flat_map encode (map without_surrogate l)) (code_points_in-encoded b (c ∷ cs) s)
              ∙ ap (λ x. encode x ++ flat_map encode (map without_surrogate cs)) (cond-true (is_surrogate c) 0xFFFD c (in_range _ _ c f.surrogate))
              ∙ ap (λ x. x ++ flat_map encode (map without_surrogate cs)) form_fffd
              ∙ ap (λ l. replacement ++ flat_map encode (map without_surrogate l)) (sym (code_points_in-encoded (drop 3 b) cs f.rest));
        }

-- after a prefix that is UTF-8
module _ (b : List ℕ) (at : ℕ) (within : at ≤ length b) (prefix : IsUtf8 (take at b)) where
  pub text_after : IsUtf8 (drop at b) → IsUtf8 b
  text_after rest = subst IsUtf8 (take-append-drop at b) (IsUtf8-append (take at b) (drop at b) prefix rest)

  pub after_prefix : (n : ℕ) → IsUtf8 (take n (drop at b)) → IsUtf8 (take (at + n) b)
  after_prefix n more = subst IsUtf8 (sym (take-add at n b)) (IsUtf8-append (take at b) (take n (drop at b)) prefix more)

  pub fault_in_rest : (n : ℕ) (len : Option ℕ) → IsUtf8Fault (drop at b) n len → IsUtf8Fault b (at + n) len
  fault_in_rest n len w = record {
    valid = record {
      short = omega (arith, w.valid.short, length-drop at b);
      front = after_prefix n w.valid.front;
      longest = λ m l u.
          let past : at + (m - at) ≡ m = omega (arith, l) in
          w.valid.longest (m - at) (omega (arith, l)) (subst IsUtf8 (drop-take at (m - at) b) (utf8_after (take (at + (m - at)) b) at (subst (λ k. IsUtf8 (take k b)) (sym past) u) (subst IsUtf8 (sym (take-take at (at + (m - at)) b (omega arith))) prefix)));
    };
    part = subst (λ r. MatchOption len (IsProperPrefix r) (IsIllFormed r)) (drop-drop n at b) w.part;
  }
