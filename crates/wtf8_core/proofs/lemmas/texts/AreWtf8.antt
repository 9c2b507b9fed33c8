-- Texts are WTF-8, and what texts are.
use Rattle.wtf8_core.proofs.Common.{◌≡◌, inl, inr, ⊎_elim, ℕ, zero, suc, ◌+◌, ◌<◌, ◌≤◌, true, List, [], ◌∷◌, ◌++◌, length, take, drop, map, Option, Some, None, refl, sym, ap, ◌∙◌, subst, arith, length-drop, drop-drop, take-append-drop, append_assoc, encode_utf8, MatchOption, unwrap_or, All, AllByRecursion, flat_map, IsUtf8, IsValidUpTo, all_scalars, is_utf8, utf8_lossy, utf8_error_len, utf8_invalid_len, utf8_valid_len, valid_len_up_to, cases_lt, and_parts, cond_both, cases_Bool, false≢true, nat_tests, All-from_recursion, length-take, take_all, IsUtf8-append, IsUtf8-nil, IsUtf8-from_is_utf8, is_utf8-from_IsUtf8, utf8_lossy-IsUtf8, IsByte, IsCodePoint, encode, HasNoSurrogatePair, Encodes, IsWtf8, IsProperPrefix, IsIllFormed, IsUtf8Fault, IsIllFormedPart, wtf8_lossy, replacement, IsLossyText, without_surrogate, scalar}
use Rattle.wtf8_core.specs.Lossy.IsLossyText.{text, replaced}
use Rattle.wtf8_core.proofs.lemmas.{forms.Appending.all_flat_map, forms.Shapes.form_bytes, forms.ByStd.forms_encode, characters.AtIndices.NoChar, characters.AtIndices.scalar_point, units.AsFunction.code_points_in-encoded, units.AsFunction.has_lossy_text, texts.StdFaults.fault_is, texts.StdFaults.no_char, texts.LossyTexts.kept, texts.LossyTexts.lossy_step, texts.LossyTexts.lossy_text_is, texts.LossyTexts.after_text, texts.LossyTexts.one_valid}

-- scalars are code points, and paired-free
points_of_scalars : (cs : List ℕ) → all_scalars cs ≡ true → AllByRecursion IsCodePoint cs
points_of_scalars [] e = tt
points_of_scalars (c ∷ cs) e = let p = and_parts (scalar c) _ e in (scalar_point c p.0, points_of_scalars cs p.1)

paired_of_scalars : (cs : List ℕ) → all_scalars cs ≡ true → HasNoSurrogatePair cs
paired_of_scalars [] e = tt
paired_of_scalars (c ∷ []) e = (tt, tt)
paired_of_scalars (c ∷ d ∷ cs) e = let p = and_parts (scalar c) _ e in ((λ h l. grind (arith, nat_tests, p.0, h)), paired_of_scalars (d ∷ cs) p.1)

-- a text encodes its characters
pub text_encodes : (b : List ℕ) → (u : IsUtf8 b) → Encodes b u.0
text_encodes b u = record { code_points = points_of_scalars u.0 u.1.0; no_pair = paired_of_scalars u.0 u.1.0; joined = sym (forms_encode u.0 ∙ u.1.1) }

-- a text is WTF-8
pub wtf8_of_text : (b : List ℕ) → IsUtf8 b → IsWtf8 b
wtf8_of_text b u = (u.0, text_encodes b u)

-- a text is its own lossy text
pub wtf8_lossy_text : (b : List ℕ) → IsUtf8 b → wtf8_lossy b ≡ b
wtf8_lossy_text b u =
    ap (λ l. flat_map encode (map without_surrogate l)) (code_points_in-encoded b u.0 (text_encodes b u))
    ∙ ap (flat_map encode) (kept u.0 u.1.0) ∙ forms_encode u.0 ∙ u.1.1

-- the lossy text of any bytes is a text
pub lossy_is_utf8 : (b t : List ℕ) → IsLossyText b t → IsUtf8 t
unfolding encode_utf8
lossy_is_utf8 b t (text u) = u
lossy_is_utf8 b t (replaced n m v p w) = IsUtf8-append _ _ v.front (IsUtf8-append replacement _ (0xFFFD ∷ [], (refl, refl)) (lossy_is_utf8 _ _ w))

-- and so is that of WTF-8
lossy_scalars : (cs : List ℕ) → AllByRecursion IsCodePoint cs → all_scalars (map without_surrogate cs) ≡ true
lossy_scalars [] a = refl
lossy_scalars (c ∷ cs) a =
    let h : scalar (without_surrogate c) ≡ true = grind (arith, nat_tests, a.0) in
    rw (h, lossy_scalars cs a.1) refl

pub wtf8_lossy_is_utf8 : (b : List ℕ) → IsWtf8 b → IsUtf8 (wtf8_lossy b)
wtf8_lossy_is_utf8 b w =
    let l = has_lossy_text b w in
    let cs = map without_surrogate l.code_points in
    (cs, (lossy_scalars l.code_points l.encoded.code_points, sym (forms_encode cs) ∙ sym l.are))

-- forms are bytes, and so are WTF-8 and texts
pub wtf8_bytes : (b : List ℕ) → IsWtf8 b → All IsByte b
wtf8_bytes b w = subst (All IsByte) (sym w.1.joined) (all_flat_map IsCodePoint IsByte encode (λ c h. All-from_recursion IsByte (encode c) (form_bytes c h)) w.0 w.1.code_points)

pub text_bytes : (b : List ℕ) → IsUtf8 b → All IsByte b
text_bytes b u = wtf8_bytes b (wtf8_of_text b u)

-- what follows a text at the start
pub wtf8_after_text : (b : List ℕ) (n : ℕ) → IsWtf8 b → IsUtf8 (take n b) → IsWtf8 (drop n b)
wtf8_after_text b n w u = let t = after_text b w.0 n w.1 u in (t.0, t.2)

-- where no character begins, no text does, and the longest prefix that is one is empty
pub no_text_begins : (b : List ℕ) (n : ℕ) → NoChar b → IsUtf8 (take n b) → 0 < length (take n b) → ⊥
no_text_begins b n k u h = by u.0 u.1.0 (forms_encode u.0 ∙ u.1.1)
  where
    by : (cs : List ℕ) → all_scalars cs ≡ true → flat_map encode cs ≡ take n b → ⊥
    by [] s e = let l = ap length e in omega arith
    by (c ∷ cs) s e = k c (flat_map encode cs ++ drop n b) (and_parts (scalar c) _ s).0 (sym (take-append-drop n b) ∙ ap (λ x. x ++ drop n b) (sym e) ∙ append_assoc (encode c) (flat_map encode cs) (drop n b))

pub valid_none : (b : List ℕ) → 0 < length b → NoChar b → IsValidUpTo b 0
valid_none b h k = record { short = h; front = IsUtf8-nil; longest = λ m l u. no_text_begins b m k u (simp length-take (omega arith)) }

-- what std's answer says of the part
part_is : (r : List ℕ) (l : Option ℕ) → MatchOption l (IsProperPrefix r) (IsIllFormed r) → IsIllFormedPart r (unwrap_or l (length r))
part_is r None p = inl (p, refl)
part_is r (Some m) p = inr p

-- what a fault says of its part, where no character begins the bytes
pub part_at_start : (b : List ℕ) (n : ℕ) (l : Option ℕ) → 0 < length b → NoChar b → IsUtf8Fault b n l → MatchOption l (IsProperPrefix b) (IsIllFormed b)
part_at_start b n l h k f = subst (λ x. MatchOption l (IsProperPrefix (drop x b)) (IsIllFormed (drop x b))) (one_valid b n 0 f.valid (valid_none b h k)) f.part

-- std's lossy text where no character begins
pub record PartFirst (b : List ℕ) (m : ℕ) : Type 0 where
  pub some : 0 < m
  pub within : m ≤ length b
  pub lossy : utf8_lossy b ≡ replacement ++ utf8_lossy (drop m b)

-- where no character begins it is the first that is replaced
pub part_first : (b : List ℕ) (m : ℕ) → 0 < length b → NoChar b → IsIllFormedPart b m → PartFirst b m
part_first b m h k p = record {
  some = ⊎_elim (λ q. omega (arith, q.1)) (λ q. q.some) p;
  within = ⊎_elim (λ q. omega (arith, q.1)) (λ q. q.within) p;
  lossy = lossy_step b 0 m (valid_none b h k) p ∙ ap (λ n. replacement ++ utf8_lossy (drop n b)) (omega arith);
}

-- the maximal ill-formed part after the longest prefix, as std counts it
part_after : (b : List ℕ) (n : ℕ) → IsValidUpTo b n → IsIllFormedPart (drop n b) (utf8_invalid_len (drop n b))
part_after b n v = part_is (drop n b) (utf8_error_len (drop n b)) (fault_is b n (utf8_error_len (drop n b)) v refl).part

first_after : (b : List ℕ) (n : ℕ) → IsValidUpTo b n → PartFirst (drop n b) (utf8_invalid_len (drop n b))
first_after b n v = let s = v.short in part_first (drop n b) (utf8_invalid_len (drop n b)) (omega (arith, length-drop n b)) (no_char b n v) (part_after b n v)

-- and after the longest prefix
pub lossy_prefix : (b : List ℕ) (n : ℕ) → IsValidUpTo b n → utf8_lossy b ≡ take n b ++ utf8_lossy (drop n b)
lossy_prefix b n v =
    let m = utf8_invalid_len (drop n b) in
    lossy_step b n m v (part_after b n v)
    ∙ ap (λ x. take n b ++ (replacement ++ utf8_lossy x)) (sym (drop-drop m n b))
    ∙ ap (λ x. take n b ++ x) (sym (first_after b n v).lossy)

-- the longest prefix that is a text
record IsLongest (b : List ℕ) (n : ℕ) : Type 0 where
  prefix : IsUtf8 (take n b)
  longest : (k : ℕ) → n < k → IsUtf8 (take k b) → ⊥

-- of the prefixes of at most m bytes
longest_up_to : (b : List ℕ) (m : ℕ) → ((k : ℕ) → m < k → IsUtf8 (take k b) → ⊥) → IsLongest b (valid_len_up_to b m)
longest_up_to b zero h = record { prefix = IsUtf8-nil; longest = h }
longest_up_to b (suc m) h =
    cond_both (is_utf8 (take (suc m) b)) _ _ (IsLongest b)
    (λ e. record { prefix = IsUtf8-from_is_utf8 (take (suc m) b) e; longest = h })
    (λ e. longest_up_to b m (λ k l u. ⊎_elim
    (λ (o : suc m < k). h k o u)
    (λ (o : k ≤ suc m). let s : k ≡ suc m = omega arith in let t : is_utf8 (take (suc m) b) ≡ true = is_utf8-from_IsUtf8 _ (subst (λ x. IsUtf8 (take x b)) s u) in false≢true (sym e ∙ t))
    (cases_lt (suc m) k)))

-- there is one where the bytes are no text
pub valid_up_to : (b : List ℕ) → (IsUtf8 b → ⊥) → IsValidUpTo b (utf8_valid_len b)
unfolding utf8_valid_len
valid_up_to b h =
    let none : (k : ℕ) → length b < k → IsUtf8 (take k b) → ⊥ = λ k l u. h (subst IsUtf8 (take_all k b (omega arith)) u) in
    let l = longest_up_to b (length b) none in
    let s : valid_len_up_to b (length b) < length b = ⊎_elim (λ o. o) (λ o. absurd (h (subst IsUtf8 (take_all (valid_len_up_to b (length b)) b o) l.prefix))) (cases_lt (valid_len_up_to b (length b)) (length b)) in
    record { short = s; front = l.prefix; longest = l.longest }

-- the lossy text of bytes with a fault, by that of what follows
faulty_text : (b : List ℕ) (n : ℕ) → IsValidUpTo b n → ((m : ℕ) → 0 < m → IsLossyText (drop (n + m) b) (utf8_lossy (drop (n + m) b))) → IsLossyText b (utf8_lossy b)
faulty_text b n v h =
    let m = utf8_invalid_len (drop n b) in
    let p = part_after b n v in
    subst (IsLossyText b) (sym (lossy_step b n m v p)) (replaced n m v p (h m (first_after b n v).some))

-- the lossy text of fewer than n bytes
lossy_within : (n : ℕ) (b : List ℕ) → length b < n → IsLossyText b (utf8_lossy b)
lossy_within zero b h = absurd (omega arith)
lossy_within (suc n) b h = ⊎_elim
    (λ e. let u = IsUtf8-from_is_utf8 b e in subst (IsLossyText b) (sym (utf8_lossy-IsUtf8 b u)) (text u))
    (λ e. let v = valid_up_to b (λ u. false≢true (sym e ∙ is_utf8-from_IsUtf8 b u)) in
    faulty_text b (utf8_valid_len b) v (λ m k. lossy_within n (drop (utf8_valid_len b + m) b) (omega (arith, length-drop (utf8_valid_len b + m) b))))
    (cases_Bool (is_utf8 b))

-- each byte list has a lossy text, which is std's
pub lossy_text : (b : List ℕ) → IsLossyText b (utf8_lossy b)
lossy_text b = lossy_within (suc (length b)) b (omega arith)

pub std_is_utf8 : (b : List ℕ) → IsUtf8 (utf8_lossy b)
std_is_utf8 b = lossy_is_utf8 b (utf8_lossy b) (lossy_text b)

pub ruleset lossy_texts = (lossy_text, lossy_text_is, std_is_utf8, wtf8_lossy_is_utf8)
