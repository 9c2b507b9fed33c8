-- From windows to the bytes: which prefix they give.
use Rattle.wtf8_core.proofs.Common.{take_rest, take-length, nat_tests, common_steps, true, false, ◌≡◌, inl, inr, ◌⊎◌, ⊎_elim, ℕ, zero, suc, ◌+◌, ◌-◌, ◌<◌, ◌≤◌, List, [], ◌∷◌, ◌++◌, length, take, drop, get_or, refl, sym, ap, ◌∙◌, subst, arith, min, replicate, get_or-take, get_or-drop, get_or_append_left, get_or-append_right, get_or_past, length-append, length-take, length-take-le, length-drop, take_all, take-add, take-take, drop-drop, take-append-drop, cases_lt, and_from, AllByRecursion, IsScalar, low_scalar, scalars, IsUtf8, is_in_range, IsContinuation, is_high, Encodes, last_or, MayFollowAll, EachMayFollow, IsBetweenCodePoints, with_zeros_before, KeepsPattern, IsEncodedPrefix}
use Rattle.std.proofs.lemmas.List.{take_more, places}
use Rattle.wtf8_core.proofs.lemmas.{forms.Ranges.in_range, forms.Ranges.in_range-true, forms.Ranges.in_range-false, forms.Ranges.not_in_range, forms.Shapes.form_ascii, forms.ByStd.forms_encode, forms.Appending.all_joined, forms.Appending.encodes_joined, forms.Appending.encodes_more, forms.Cuts.all_parts, forms.Cuts.cut_before, forms.Cuts.encodes_parts, characters.Seams.scalars_are, texts.AreWtf8.text_encodes, vectors.PairBits.same_five, vectors.ScannedIsEncoded.IsBetweenCodePointsAt, vectors.ScannedIsEncoded.edge_of_forms, vectors.ScannedIsEncoded.steps, vectors.ScannedIsEncoded.whole}
use Rattle.wtf8_core.specs.{Neighbours.IsClosed, declared.vectors.Encoding.Encoding, declared.vectors.Encoding.TheVariants.Utf8, declared.vectors.Encoding.TheVariants.Wtf8}

-- where a prefix that encodes code points ends, the next code point begins
edge_at : (bytes cs : List ℕ) (n : ℕ) → n ≤ length bytes → Encodes (take n bytes) cs → IsBetweenCodePointsAt (last_or 0 cs) n (with_zeros_before bytes)
edge_at bytes cs n h s =
    let start : IsBetweenCodePoints 0 0 0 0 = record { closed = record { fourth = omega arith; third = omega arith; second = omega arith }; high = λ h. omega (arith, h.0); only_high = λ e. absurd (omega (arith, e)) } in
    let edge = edge_of_forms 0 0 0 0 0 cs (drop n bytes) start in
    subst (λ m. IsBetweenCodePointsAt (last_or 0 cs) m (with_zeros_before bytes)) (length-take-le n bytes h)
    (subst (λ l. IsBetweenCodePointsAt (last_or 0 cs) (length (take n bytes)) (with_zeros_before l)) (take-append-drop n bytes)
    (subst (λ f. IsBetweenCodePointsAt (last_or 0 cs) (length f) (with_zeros_before (f ++ drop n bytes))) (sym s.joined) edge))

-- the empty prefix, and one that is a text
pub no_prefix : (encoding : Encoding) (bytes : List ℕ) → IsEncodedPrefix encoding bytes 0
no_prefix encoding bytes = record { within = omega arith; code_points = []; encoded = record { code_points = tt; no_pair = tt; joined = refl }; plain = λ _. tt }

pub text_prefix : (encoding : Encoding) (bytes : List ℕ) (n : ℕ) → n ≤ length bytes → IsUtf8 (take n bytes) → IsEncodedPrefix encoding bytes n
text_prefix encoding bytes n h u = record { within = h; code_points = u.0; encoded = text_encodes (take n bytes) u; plain = λ _. scalars_are u.0 u.1.0 }

-- such a prefix keeps to the pattern
pub prefix_keeps : (encoding : Encoding) (bytes : List ℕ) (n : ℕ) → IsEncodedPrefix encoding bytes n → KeepsPattern encoding bytes n
prefix_keeps encoding bytes n f = record { from = n; prefix = f; order = omega arith; pattern = λ i h. absurd (omega (arith, h)) }

pub no_pattern : (encoding : Encoding) (bytes : List ℕ) → KeepsPattern encoding bytes 0
no_pattern encoding bytes = prefix_keeps encoding bytes 0 (no_prefix encoding bytes)

pub text_keeps : (bytes : List ℕ) (n : ℕ) → n ≤ length bytes → IsUtf8 (take n bytes) → KeepsPattern Utf8 bytes n
text_keeps bytes n h u = prefix_keeps Utf8 bytes n (text_prefix Utf8 bytes n h u)

-- and in UTF-8 it is a text
all_scalars : (cs : List ℕ) → AllByRecursion IsScalar cs → scalars cs ≡ true
all_scalars [] p = refl
all_scalars (c ∷ cs) p = and_from _ _ p.0 (all_scalars cs p.1)

pub prefix_is_utf8 : (encoding : Encoding) (bytes : List ℕ) (n : ℕ) → encoding ≡ Utf8 → IsEncodedPrefix encoding bytes n → IsUtf8 (take n bytes)
prefix_is_utf8 encoding bytes n e f = (f.code_points, (all_scalars f.code_points (f.plain e), sym (f.encoded.joined ∙ forms_encode f.code_points)))

pub text_of_prefix : (bytes : List ℕ) (n : ℕ) → IsEncodedPrefix Utf8 bytes n → IsUtf8 (take n bytes)
text_of_prefix bytes n f = prefix_is_utf8 Utf8 bytes n refl f

pub whole_text : (bytes : List ℕ) → IsEncodedPrefix Utf8 bytes (length bytes) → IsUtf8 bytes
whole_text bytes f = subst IsUtf8 (take-length bytes) (text_of_prefix bytes (length bytes) f)

-- bytes from index m on, with the four before them
four_before : (a b c d : ℕ) (l : List ℕ) (m : ℕ) → m ≤ length l
    → drop m (a ∷ b ∷ c ∷ d ∷ l) ≡ get_or (a ∷ b ∷ c ∷ d ∷ l) m 0 ∷ get_or (a ∷ b ∷ c ∷ d ∷ l) (suc m) 0 ∷ get_or (a ∷ b ∷ c ∷ d ∷ l) (suc (suc m)) 0 ∷ get_or (a ∷ b ∷ c ∷ d ∷ l) (suc (suc (suc m))) 0 ∷ drop m l
four_before a b c d l zero h = refl
four_before a b c d [] (suc m) h = absurd (omega (arith, h))
four_before a b c d (x ∷ l) (suc m) h = four_before b c d x l m (omega (arith, h))

-- a zero may follow where no form continues
zero_follows : (encoding : Encoding) (w x y z b : ℕ) → IsClosed x y z → b ≡ 0 → MayFollowAll encoding w x y z b
zero_follows encoding w x y z b closed is = grind (arith, nat_tests, common_steps)

module _ (encoding : Encoding) (bytes : List ℕ) where
  -- a prefix may be cut before a byte that begins a code point
  cut_prefix : (n m : ℕ) → n < m → IsEncodedPrefix encoding bytes m → (IsContinuation (get_or bytes n 0) → ⊥) → IsEncodedPrefix encoding bytes n
  cut_prefix n m l f ends = by (drop n t) (sym (take-append-drop n t)) (sym (get_or-drop n t 0 0))
    where
      t : List ℕ
      t = take m bytes

      prefix : take n t ≡ take n bytes
      prefix = take-take n m bytes (omega (arith, l))

      by : (r : List ℕ) → t ≡ take n t ++ r → get_or t (n + 0) 0 ≡ get_or r 0 0 → IsEncodedPrefix encoding bytes n
      by [] e d = absurd (omega (arith, l, f.within, length-take m bytes, ap length e, length-append (take n t) [], length-take n t))
      by (b ∷ y) e d =
          let z : n + 0 ≡ n = omega arith in
          let same : get_or bytes n 0 ≡ b = sym (get_or-take m bytes n 0 l) ∙ ap (λ i. get_or t i 0) (sym z) ∙ d in
          let w = cut_before f.code_points (take n t) b y (λ k. ends (subst IsContinuation (sym same) k)) (sym f.encoded.joined ∙ e) in
          record {
            within = omega (arith, l, f.within);
            code_points = w.prefix;
            encoded = subst (λ x. Encodes x w.prefix) prefix (encodes_parts t f.code_points (take n t) (b ∷ y) f.encoded w).0;
            plain = λ e. (all_parts IsScalar w.prefix w.suffix (subst (AllByRecursion IsScalar) w.cut (f.plain e))).0;
          }

  -- if bytes keep to the pattern past a byte that begins a code point, a prefix ends before it
  pub by_pattern : (n m : ℕ) → n ≤ length bytes → n < m → KeepsPattern encoding bytes m → (IsContinuation (get_or bytes n 0) → ⊥) → IsEncodedPrefix encoding bytes n
  by_pattern n m h l k ends = ⊎_elim (λ past. cut_prefix n k.from past k.prefix ends) from_prefix (cases_lt n k.from)
    where
      from_prefix : k.from ≤ n → IsEncodedPrefix encoding bytes n
      from_prefix le =
          let f = k.prefix in
          let bs = take (n - k.from) (drop k.from bytes) in
          let size : length bs ≡ n - k.from = length-take-le (n - k.from) (drop k.from bytes) (omega (arith, length-drop k.from bytes, h)) in
          let index : k.from + (n - k.from) ≡ n = omega (arith, le) in
          let rest : drop (n - k.from) (drop k.from bytes) ≡ drop n bytes = drop-drop (n - k.from) k.from bytes ∙ ap (λ i. drop i bytes) index in
          let around = four_before 0 0 0 0 bytes k.from f.within ∙ ap (λ x. get_or (with_zeros_before bytes) k.from 0 ∷ get_or (with_zeros_before bytes) (suc k.from) 0 ∷ get_or (with_zeros_before bytes) (suc (suc k.from)) 0 ∷ get_or (with_zeros_before bytes) (suc (suc (suc k.from))) 0 ∷ x) (sym (take-append-drop (n - k.from) (drop k.from bytes)) ∙ ap (λ x. bs ++ x) rest) in
          let first : get_or (drop n bytes) 0 0 ≡ get_or bytes n 0 = get_or-drop n bytes 0 0 ∙ (let z : n + 0 ≡ n = omega arith in ap (λ i. get_or bytes i 0) z) in
          let r = whole encoding _ (λ c. ends (subst IsContinuation first c)) (last_or 0 f.code_points) _ _ _ _ bs (edge_at bytes f.code_points k.from f.within f.encoded)
          (steps encoding _ _ _ _ bs (drop n bytes) (subst (EachMayFollow encoding (suc (length bs))) around (λ i j. k.pattern i (omega (arith, j, size, l, le))))) in
          record {
            within = h;
            code_points = f.code_points ++ r.code_points;
            encoded = subst (λ x. Encodes x (f.code_points ++ r.code_points)) (sym (take-add k.from (n - k.from) bytes) ∙ ap (λ i. take i bytes) index) (encodes_joined (take k.from bytes) bs f.code_points r.code_points f.encoded r.encoded r.free);
            plain = λ e. all_joined IsScalar f.code_points r.code_points (f.plain e) (r.plain e);
          }

  -- all bytes encode code points, if a zero after them keeps to it, too
  pub past_end : (end : ℕ) → length bytes < end → KeepsPattern encoding bytes end → IsEncodedPrefix encoding bytes (length bytes)
  past_end end h k = by_pattern (length bytes) end (omega arith) h k (λ z. omega (arith, z.0, get_or_past bytes (length bytes) 0 (omega arith)))

  -- ASCII after a prefix
  pub more_ascii : (n k : ℕ) → n + k ≤ length bytes → ((i : ℕ) → i < k → get_or bytes (n + i) 0 < 0x80) → IsEncodedPrefix encoding bytes n → IsEncodedPrefix encoding bytes (n + k)
  more_ascii n zero h low f = let z : n ≡ n + 0 = omega arith in subst (IsEncodedPrefix encoding bytes) z f
  more_ascii n (suc k) h low f =
      let a = get_or bytes (n + k) 0 in
      let u = low k (omega arith) in
      let z : n + k + 1 ≡ n + suc k = omega arith in
      let g = more_ascii n k (omega (arith, h)) (λ i l. low i (omega (arith, l))) f in
      record {
        within = h;
        code_points = g.code_points ++ a ∷ [];
        encoded = subst (λ x. Encodes x (g.code_points ++ a ∷ [])) (ap (λ x. take (n + k) bytes ++ x) (form_ascii a u) ∙ sym (take_more bytes (n + k) 0 (omega (arith, h))) ∙ ap (λ i. take i bytes) z) (encodes_more (take (n + k) bytes) g.code_points a g.encoded (omega (arith, u)) (λ _ l. omega (arith, l.0, u)));
        plain = λ e. all_joined IsScalar g.code_points (a ∷ []) (g.plain e) (low_scalar a (omega (arith, u)), tt);
      }

  -- if the byte before an index is ASCII, a prefix ends at that index
  pub prefix_after_ascii : (n : ℕ) → 0 < n → n ≤ length bytes → get_or bytes (n - 1) 0 < 0x80 → KeepsPattern encoding bytes n → IsEncodedPrefix encoding bytes n
  prefix_after_ascii n some h u k =
      let z : n - 1 + 1 ≡ n = omega (arith, some) in
      subst (IsEncodedPrefix encoding bytes) z (more_ascii (n - 1) 1 (omega (arith, some, h)) (λ i l. let y : n - 1 ≡ n - 1 + i = omega (arith, l) in subst (λ m. get_or bytes m 0 < 0x80) y u) (by_pattern (n - 1) n (omega (arith, h)) (omega (arith, some)) k (λ c. omega (arith, c.0, u))))

  -- bytes encode code points up to their end, if they are ASCII from the last index on at which they keep to the pattern, or from the byte before it
  pub ascii_to_end : (at : ℕ) → at ≤ length bytes → length bytes - at < 64 → ((i : ℕ) → length bytes - 64 ≤ i → i < length bytes → get_or bytes i 0 < 0x80) → KeepsPattern encoding bytes at → IsEncodedPrefix encoding bytes (length bytes)
  ascii_to_end zero h short low k =
      let z : 0 + length bytes ≡ length bytes = omega arith in
      subst (IsEncodedPrefix encoding bytes) z (more_ascii 0 (length bytes) (omega arith) (λ i l. let y : i ≡ 0 + i = omega arith in subst (λ m. get_or bytes m 0 < 0x80) y (low i (omega (arith, short)) l)) (no_prefix encoding bytes))
  ascii_to_end (suc n) h short low k =
      let z : suc n + (length bytes - suc n) ≡ length bytes = omega (arith, h) in
      let before : suc n - 1 ≡ n = omega arith in
      let f = prefix_after_ascii (suc n) (omega arith) h (subst (λ m. get_or bytes m 0 < 0x80) (sym before) (low n (omega (arith, short, h)) (omega (arith, h)))) k in
      subst (IsEncodedPrefix encoding bytes) z (more_ascii (suc n) (length bytes - suc n) (omega (arith, h)) (λ i l. low (suc n + i) (omega (arith, short, h)) (omega (arith, l, h))) f)

  -- as many more as a window keeps, where the bytes are known to keep to the pattern up to an index within it
  module _ (at : ℕ) (window : List ℕ) (n : ℕ) (same : (i : ℕ) → i < 4 + n → get_or window i 0 ≡ get_or (with_zeros_before bytes) (at + i) 0) where
    in_window : (from i j : ℕ) → at + j ≡ from + i → j < 4 + n → get_or window j 0 ≡ get_or (drop from (with_zeros_before bytes)) i 0
    in_window from i j e h = same j h ∙ ap (λ m. get_or (with_zeros_before bytes) m 0) e ∙ sym (get_or-drop from (with_zeros_before bytes) i 0)

    pub more : (to : ℕ) → at ≤ to → to ≤ at + n → EachMayFollow encoding n window → KeepsPattern encoding bytes to → KeepsPattern encoding bytes (at + n)
    more to low high pattern k = record {
      from = k.from;
      prefix = k.prefix;
      order = omega (arith, k.order, high);
      pattern = λ i h. ⊎_elim (k.pattern i) (λ l. let j = k.from + i - at in
          same_five (MayFollowAll encoding)
          (in_window k.from i j (omega (arith, l, k.order, low)) (omega (arith, h, l, k.order, low)))
          (in_window k.from (suc i) (suc j) (omega (arith, l, k.order, low)) (omega (arith, h, l, k.order, low)))
          (in_window k.from (suc (suc i)) (suc (suc j)) (omega (arith, l, k.order, low)) (omega (arith, h, l, k.order, low)))
          (in_window k.from (suc (suc (suc i))) (suc (suc (suc j))) (omega (arith, l, k.order, low)) (omega (arith, h, l, k.order, low)))
          (in_window k.from (suc (suc (suc (suc i)))) (suc (suc (suc (suc j)))) (omega (arith, l, k.order, low)) (omega (arith, h, l, k.order, low)))
          (pattern j (omega (arith, h, l, k.order, low)))) (cases_lt i (to - k.from));
    }

  -- the bytes from the first one on, after zeros
  pub first_step : (n : ℕ) → EachMayFollow encoding n (with_zeros_before bytes) → KeepsPattern encoding bytes n
  first_step n pattern = record { from = 0; prefix = no_prefix encoding bytes; order = omega arith; pattern = λ i h. pattern i (omega (arith, h)) }

  -- a window that starts with them, after zeros
  pub more_from_start : (window : List ℕ) (n : ℕ) → ((i : ℕ) → i < 4 + n → get_or window i 0 ≡ get_or (with_zeros_before bytes) i 0) → EachMayFollow encoding n window → KeepsPattern encoding bytes n
  more_from_start window n same pattern =
      let z : 0 + n ≡ n = omega arith in
      subst (KeepsPattern encoding bytes) z (more 0 window n (λ i h. let y : i ≡ 0 + i = omega arith in same i h ∙ ap (λ m. get_or (with_zeros_before bytes) m 0) y) 0 (omega arith) (omega arith) pattern (no_pattern encoding bytes))

  -- a window that is part of the bytes
  pub more_inside : (at : ℕ) (window : List ℕ) (n : ℕ) → 4 ≤ at → window ≡ drop (at - 4) bytes → EachMayFollow encoding n window → KeepsPattern encoding bytes at → KeepsPattern encoding bytes (at + n)
  more_inside at window n l is = more at window n (λ i _. let index : suc (suc (suc (suc ((at - 4) + i)))) ≡ at + i = omega (arith, l) in
      ap (λ x. get_or x i 0) is ∙ get_or-drop (at - 4) bytes i 0 ∙ ap (λ m. get_or (with_zeros_before bytes) m 0) index) at (omega arith) (omega arith)

  -- a window from index `to` on, or one that is their end, if fewer are left
  pub more_clamped : (to at : ℕ) (window : List ℕ) (n : ℕ) → 4 ≤ to → n + 4 ≤ length bytes → at ≡ min to (length bytes - n) → window ≡ drop (at - 4) bytes → EachMayFollow encoding n window
      → KeepsPattern encoding bytes (min to (length bytes)) → KeepsPattern encoding bytes (min (to + n) (length bytes))
  more_clamped to at window n from long is whole pattern k =
      let end : at + n ≡ min (to + n) (length bytes) = omega (arith, is, long) in
      subst (KeepsPattern encoding bytes) end (more at window n (λ i _. let index : suc (suc (suc (suc ((at - 4) + i)))) ≡ at + i = omega (arith, is, from, long) in
      ap (λ x. get_or x i 0) whole ∙ get_or-drop (at - 4) bytes i 0 ∙ ap (λ m. get_or (with_zeros_before bytes) m 0) index) (min to (length bytes)) (omega (arith, is)) (omega (arith, is, long)) pattern k)

  -- bytes encode code points up to their end, if they keep to the pattern and no form continues there
  pub closed_end : 3 ≤ length bytes → IsClosed (get_or bytes (length bytes - 3) 0) (get_or bytes (length bytes - 2) 0) (get_or bytes (length bytes - 1) 0) → KeepsPattern encoding bytes (length bytes) → IsEncodedPrefix encoding bytes (length bytes)
  closed_end long closed k = past_end (suc (length bytes)) (omega arith) kept
    where
      past : get_or bytes (length bytes) 0 ≡ 0
      past = get_or_past bytes (length bytes) 0 (omega arith)

      at_end : (i j : ℕ) → k.from + i ≡ suc (suc (suc (suc j))) → get_or (drop k.from (with_zeros_before bytes)) i 0 ≡ get_or bytes j 0
      at_end i j e = get_or-drop k.from (with_zeros_before bytes) i 0 ∙ ap (λ m. get_or (with_zeros_before bytes) m 0) e

      kept : KeepsPattern encoding bytes (suc (length bytes))
      kept = record {
        from = k.from;
        prefix = k.prefix;
        order = omega (arith, k.order);
        pattern = λ i h. ⊎_elim (k.pattern i) (λ l.
            let x = at_end (suc i) (length bytes - 3) (omega (arith, h, l, k.order, long)) in
            let y = at_end (suc (suc i)) (length bytes - 2) (omega (arith, h, l, k.order, long)) in
            let z = at_end (suc (suc (suc i))) (length bytes - 1) (omega (arith, h, l, k.order, long)) in
            let b = at_end (suc (suc (suc (suc i)))) (length bytes) (omega (arith, h, l, k.order, long)) ∙ past in
            zero_follows encoding _ _ _ _ _ (record { fourth = omega (arith, x, closed.fourth); third = omega (arith, y, closed.third); second = omega (arith, z, closed.second) }) b) (cases_lt i (length bytes - k.from));
      }

-- ASCII at the start is a text
pub ascii_is_utf8 : (bytes : List ℕ) (n : ℕ) → ((i : ℕ) → i < n → get_or bytes i 0 < 0x80) → n ≤ length bytes → IsUtf8 (take n bytes)
ascii_is_utf8 bytes n low h =
    let z : 0 + n ≡ n = omega arith in
    subst (λ m. IsUtf8 (take m bytes)) z (prefix_is_utf8 Utf8 bytes (0 + n) refl (more_ascii Utf8 bytes 0 n (omega (arith, h)) (λ i l. let y : i ≡ 0 + i = omega arith in subst (λ m. get_or bytes m 0 < 0x80) y (low i l)) (no_prefix Utf8 bytes)))

-- what holds of so many bytes from an index on, at an index among them
pub ascii_at : (bytes : List ℕ) (at n i : ℕ) → ((j : ℕ) → j < n → get_or bytes (at + j) 0 < 0x80) → at ≤ i → i < at + n → get_or bytes i 0 < 0x80
ascii_at bytes at n i low h l = let z : at + (i - at) ≡ i = omega (arith, h) in subst (λ m. get_or bytes m 0 < 0x80) z (low (i - at) (omega (arith, h, l)))

-- a window that was copied, with zeros around it
pub before_bytes : (bytes : List ℕ) (m : ℕ) → m < 4 → get_or (with_zeros_before bytes) m 0 ≡ 0
before_bytes bytes (suc (suc (suc (suc m)))) h = absurd (omega (arith, h))
before_bytes bytes m h = refl

-- zeros
pub zeros : (n i : ℕ) → ◌≡◌ {A = ℕ} (get_or (replicate n 0) i 0) 0
zeros (suc n) (suc i) = zeros n i
zeros n i = refl

-- what is copied from the first byte of a window on
pub from_start : (w bytes : List ℕ) → ((i : ℕ) → get_or w (0 + i) 0 ≡ get_or bytes i 0) → (i : ℕ) → get_or w i 0 ≡ get_or bytes i 0
from_start w bytes copy i = let index : 0 + i ≡ i = omega arith in ap (λ x. get_or w x 0) (sym index) ∙ copy i

-- a window with zeros before and after the bytes, from four before index `at` on
module _ (w bytes : List ℕ) (at b n : ℕ) (within : at ≤ length bytes) (few : b ≡ min at 4) (most : n ≡ min (length bytes - at) 64)
    (before : (i : ℕ) → i < 4 - b → get_or w i 0 ≡ 0) (copy : (i : ℕ) → get_or w (4 - b + i) 0 ≡ get_or (take (at + n - (at - b)) (drop (at - b) bytes)) i 0) where
  pub copied : (i : ℕ) → i < 68 → get_or w i 0 ≡ get_or (with_zeros_before bytes) (at + i) 0
  copied i h =
      ⊎_elim
      (λ l. before i l ∙ sym (before_bytes bytes (at + i) (omega (arith, few, l))))
      (λ l. let k = i - (4 - b) in
      let index : 4 - b + k ≡ i = omega (arith, l) in
      let target : suc (suc (suc (suc ((at - b) + k)))) ≡ at + i = omega (arith, few, l) in
      ap (λ x. get_or w x 0) (sym index) ∙ copy k ∙ ⊎_elim
      (λ m. get_or-take (at + n - (at - b)) (drop (at - b) bytes) k 0 (omega (arith, few, m)) ∙ get_or-drop (at - b) bytes k 0 ∙ ap (λ x. get_or (with_zeros_before bytes) x 0) target)
      (λ m. get_or_past (take (at + n - (at - b)) (drop (at - b) bytes)) k 0 (omega (arith, few, m, length-take (at + n - (at - b)) (drop (at - b) bytes))) ∙ sym (get_or_past (with_zeros_before bytes) (at + i) 0 (omega (arith, few, most, m, h, l, within))))
      (cases_lt k (n + b)))
      (cases_lt i (4 - b))

-- the same from the first byte on
pub zeros_before : (w bytes : List ℕ) → ((i : ℕ) → i < 4 → get_or w i 0 ≡ 0) → ((i : ℕ) → get_or w (4 + i) 0 ≡ get_or bytes i 0) → (i : ℕ) → get_or w i 0 ≡ get_or (with_zeros_before bytes) i 0
zeros_before w bytes before copy (suc (suc (suc (suc i)))) = let index : 4 + i ≡ suc (suc (suc (suc i))) = omega arith in ap (λ x. get_or w x 0) (sym index) ∙ copy i
zeros_before w bytes before copy i = before i (omega arith)

-- whether the code point at an edge is a high surrogate, by the bytes before it
edge_high : (p x y z : ℕ) → IsBetweenCodePoints p x y z → x ≡ 0xED → is_in_range 0xA0 0xAF y ≡ is_high p
edge_high p x y z edge e = grind (arith, nat_tests, common_steps, in_range-true, in_range, edge, not_in_range, in_range-false)

edge_not_high : (p x y z : ℕ) → IsBetweenCodePoints p x y z → (x ≡ 0xED → ⊥) → false ≡ is_high p
edge_not_high p x y z edge n = sym (not_in_range 0xD800 0xDBFF p (λ h. n (edge.high h).0))

module _ (bytes : List ℕ) (at : ℕ) (f : IsEncodedPrefix Wtf8 bytes at) where
  edge : IsBetweenCodePointsAt (last_or 0 f.code_points) at (with_zeros_before bytes)
  edge = edge_at bytes f.code_points at f.within f.encoded

  pub near_start : at < 3 → false ≡ is_high (last_or 0 f.code_points)
  near_start l = edge_not_high _ _ _ _ edge (λ e. let z = before_bytes bytes (suc at) (omega (arith, l)) in omega (arith, e, z))

  third_before : 3 ≤ at → get_or (with_zeros_before bytes) (suc at) 0 ≡ get_or bytes (at - 3) 0
  third_before l = let index : suc at ≡ suc (suc (suc (suc (at - 3)))) = omega (arith, l) in ap (λ n. get_or (with_zeros_before bytes) n 0) index

  second_before : 3 ≤ at → get_or (with_zeros_before bytes) (suc (suc at)) 0 ≡ get_or bytes (at - 2) 0
  second_before l = let index : suc (suc at) ≡ suc (suc (suc (suc (at - 2)))) = omega (arith, l) in ap (λ n. get_or (with_zeros_before bytes) n 0) index

  pub other_lead : 3 ≤ at → (get_or bytes (at - 3) 0 ≡ 0xED → ⊥) → false ≡ is_high (last_or 0 f.code_points)
  other_lead l n = edge_not_high _ _ _ _ edge (λ e. n (sym (third_before l) ∙ e))

  pub by_second : 3 ≤ at → get_or bytes (at - 3) 0 ≡ 0xED → is_in_range 0xA0 0xAF (get_or bytes (at - 2) 0) ≡ is_high (last_or 0 f.code_points)
  by_second l e = ap (λ y. is_in_range 0xA0 0xAF y) (sym (second_before l)) ∙ edge_high _ _ _ _ edge (third_before l ∙ e)

pub ruleset texts = (text_of_prefix, whole_text, text_keeps, no_pattern)

pub ruleset scanning = (no_pattern, first_step, no_prefix, more_inside, take_rest, near_start, other_lead, by_second)

pub ruleset ends = (past_end, ascii_to_end, closed_end)

pub ruleset first_ascii = (no_prefix, prefix_keeps, more_ascii)

pub ruleset copies = (places, take_rest)

pub ruleset whole_prefixes = (text_prefix, take-length)
