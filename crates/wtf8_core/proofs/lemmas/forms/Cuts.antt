-- Where strings of forms are cut.
use Rattle.wtf8_core.proofs.Common.{◌≡◌, inl, inr, ⊎_elim, ℕ, ◌+◌, ◌<◌, true, List, [], ◌∷◌, ◌++◌, length, take, drop, refl, sym, ap, ◌∙◌, subst, arith, length-append, length-drop, append_assoc, scalar, and_parts, cases_lt, drop_all, append-nil, take_at, drop_at, flat_map-append, IsCharBoundary-from_drop, IsCharBoundary-from_take, IsUtf8-drop, IsUtf8-nil, AllByRecursion, flat_map, IsUtf8, IsCharBoundary, all_scalars, IsContinuation, IsCodePoint, encode, HasNoSurrogatePair, Encodes, IsWtf8, WholeCharacter, IsBoundary}
use Rattle.wtf8_core.proofs.lemmas.{characters.AtIndices.whole_at, forms.Shapes.form_parts, forms.ByStd.forms_encode, forms.ByStd.forms_prefix, characters.Overlaps.boundary_within}

-- what holds of each element holds of those of both parts
pub all_parts : (P : ℕ → Type 0) (ds es : List ℕ) → AllByRecursion P (ds ++ es) → AllByRecursion P ds × AllByRecursion P es
all_parts P [] es a = (tt, a)
all_parts P (d ∷ ds) es a = let r = all_parts P ds es a.1 in ((a.0, r.0), r.1)

-- both parts of a paired-free list are paired-free
pub paired_prefix : (ds es : List ℕ) → HasNoSurrogatePair (ds ++ es) → HasNoSurrogatePair ds
paired_prefix [] es f = tt
paired_prefix (d ∷ []) es f = (tt, tt)
paired_prefix (d ∷ e ∷ ds) es f = (f.0, paired_prefix (e ∷ ds) es f.1)

pub paired_suffix : (ds es : List ℕ) → HasNoSurrogatePair (ds ++ es) → HasNoSurrogatePair es
paired_suffix [] es f = f
paired_suffix (d ∷ ds) es f = paired_suffix ds es f.1

-- a byte that is no continuation comes after all the continuations at the start
past : (ks rest xs : List ℕ) (b : ℕ) (y : List ℕ) → AllByRecursion IsContinuation ks → (IsContinuation b → ⊥) → ks ++ rest ≡ xs ++ (b ∷ y)
    → (zs : List ℕ) × (xs ≡ ks ++ zs) × (rest ≡ zs ++ (b ∷ y))
past [] rest xs b y a n e = (xs, refl, e)
past (k ∷ ks) rest [] b y a n e = let h : k ≡ b = cc in absurd (n (subst IsContinuation h a.0))
past (k ∷ ks) rest (x ∷ xs) b y a n e =
    let h : k ≡ x = cc in
    let t : ks ++ rest ≡ xs ++ (b ∷ y) = cc in
    let w = past ks rest xs b y a.1 n t in
    (w.0, ap (λ l. x ∷ l) w.1 ∙ ap (λ z. z ∷ (ks ++ w.0)) (sym h), w.2)

-- code points whose forms are x and then y
pub record AreCut (cs x y : List ℕ) : Type 0 where
  pub prefix : List ℕ
  pub suffix : List ℕ
  pub cut : cs ≡ prefix ++ suffix
  pub prefix_is : flat_map encode prefix ≡ x
  pub suffix_is : flat_map encode suffix ≡ y

-- one more code point at the start
one_more : (c : ℕ) (cs zs x y : List ℕ) → encode c ++ zs ≡ x → AreCut cs zs y → AreCut (c ∷ cs) x y
one_more c cs zs x y e r = record { prefix = c ∷ r.prefix; suffix = r.suffix; cut = ap (λ l. c ∷ l) r.cut; prefix_is = ap (λ z. encode c ++ z) r.prefix_is ∙ e; suffix_is = r.suffix_is }

-- forms may be cut before a byte that is no continuation
pub cut_before : (cs x : List ℕ) (b : ℕ) (y : List ℕ) → (IsContinuation b → ⊥) → flat_map encode cs ≡ x ++ (b ∷ y) → AreCut cs x (b ∷ y)
cut_before cs [] b y n e = record { prefix = []; suffix = cs; cut = refl; prefix_is = refl; suffix_is = e }
cut_before [] (x ∷ xs) b y n e = cc
cut_before (c ∷ cs) (x ∷ xs) b y n e =
    let s = form_parts c in
    let d : s.lead ∷ (s.after ++ flat_map encode cs) ≡ x ∷ (xs ++ (b ∷ y)) = ap (λ z. z ++ flat_map encode cs) (sym s.is) ∙ e in
    let h : s.lead ≡ x = cc in
    let t : s.after ++ flat_map encode cs ≡ xs ++ (b ∷ y) = cc in
    let w = past s.after (flat_map encode cs) xs b y s.continued n t in
    one_more c cs w.0 (x ∷ xs) (b ∷ y) (ap (λ z. z ++ w.0) s.is ∙ ap (λ z. z ∷ (s.after ++ w.0)) h ∙ ap (λ l. x ∷ l) (sym w.1)) (cut_before cs w.0 b y n w.2)

-- code points whose forms are x, then those of ps, then y
pub record AreFound (cs x y ps : List ℕ) : Type 0 where
  pub prefix : List ℕ
  pub suffix : List ℕ
  pub cut : cs ≡ prefix ++ (ps ++ suffix)
  pub prefix_is : flat_map encode prefix ≡ x
  pub suffix_is : flat_map encode suffix ≡ y

-- where the bytes of code points occur, the code points occur
pub bytes_found : (cs x y ps : List ℕ) → 0 < length ps → flat_map encode cs ≡ x ++ (flat_map encode ps ++ y) → AreFound cs x y ps
bytes_found cs x y [] h e = absurd (omega arith)
bytes_found cs x y (p ∷ ps) h e =
    let s = form_parts p in
    let d : flat_map encode cs ≡ x ++ (s.lead ∷ ((s.after ++ flat_map encode ps) ++ y)) = e ∙ ap (λ z. x ++ ((z ++ flat_map encode ps) ++ y)) s.is in
    let c = cut_before cs x s.lead ((s.after ++ flat_map encode ps) ++ y) s.begins d in
    let w = forms_prefix (p ∷ ps) c.suffix y (c.suffix_is ∙ ap (λ z. (z ++ flat_map encode ps) ++ y) (sym s.is)) in
    record { prefix = c.prefix; suffix = w.0; cut = c.cut ∙ ap (λ z. c.prefix ++ z) w.1; prefix_is = c.prefix_is; suffix_is = w.2 }

-- the same, by the index of the cut
at_index : (b cs x y : List ℕ) (i : ℕ) → b ≡ x ++ y → length x ≡ i → AreCut cs x y → AreCut cs (take i b) (drop i b)
at_index b cs x y i e l r = record { prefix = r.prefix; suffix = r.suffix; cut = r.cut; prefix_is = r.prefix_is ∙ sym (ap (take i) e ∙ take_at x y i l); suffix_is = r.suffix_is ∙ sym (ap (drop i) e ∙ drop_at x y i l) }

-- a whole character is one of the code points, so they are cut where it starts and where it ends
found : (b cs : List ℕ) (i j : ℕ) → b ≡ flat_map encode cs → (w : WholeCharacter b i j) → AreFound cs w.occurs.before w.occurs.after (w.char ∷ [])
found b cs i j e w =
    let h = w.occurs in
    bytes_found cs h.before h.after (w.char ∷ []) (omega arith) (sym e ∙ h.joined ∙ ap (λ x. h.before ++ (x ++ h.after)) (sym (append-nil (encode w.char))))

at_start : (b cs : List ℕ) (i j : ℕ) → b ≡ flat_map encode cs → WholeCharacter b i j → AreCut cs (take i b) (drop i b)
at_start b cs i j e w =
    let h = w.occurs in
    let f = found b cs i j e w in
    at_index b cs h.before (encode w.char ++ h.after) i h.joined h.index (record { prefix = f.prefix; suffix = w.char ∷ f.suffix; cut = f.cut; prefix_is = f.prefix_is; suffix_is = ap (λ x. encode w.char ++ x) f.suffix_is })

at_end : (b cs : List ℕ) (i j : ℕ) → b ≡ flat_map encode cs → WholeCharacter b i j → AreCut cs (take j b) (drop j b)
at_end b cs i j e w =
    let h = w.occurs in
    let f = found b cs i j e w in
    let whole = flat_map-append encode f.prefix (w.char ∷ []) ∙ ap (λ x. x ++ (encode w.char ++ [])) f.prefix_is ∙ ap (λ x. h.before ++ x) (append-nil (encode w.char)) in
    at_index b cs (h.before ++ encode w.char) h.after j (h.joined ∙ sym (append_assoc h.before (encode w.char) h.after)) (length-append h.before (encode w.char) ∙ ap (λ n. n + length (encode w.char)) h.index ∙ sym w.end)
    (record { prefix = f.prefix ++ w.char ∷ []; suffix = f.suffix; cut = f.cut ∙ sym (append_assoc f.prefix (w.char ∷ []) f.suffix); prefix_is = whole; suffix_is = f.suffix_is })

-- a boundary is between two code points
pub boundary_cut : (b cs : List ℕ) (i : ℕ) → b ≡ flat_map encode cs → IsBoundary b i → AreCut cs (take i b) (drop i b)
boundary_cut b cs i e k =
    ⊎_elim (λ z. at_index b cs [] b i refl (sym z) (record { prefix = []; suffix = cs; cut = refl; prefix_is = refl; suffix_is = sym e }))
    (⊎_elim (λ z. at_index b cs b [] i (sym (append-nil b)) (sym z) (record { prefix = cs; suffix = []; cut = sym (append-nil cs); prefix_is = sym e; suffix_is = refl }))
    (⊎_elim (λ s. at_start b cs i s.0 e s.1) (λ s. at_end b cs s.0 i e s.1)))
    k.is

-- both parts of a cut are encoded
pub encodes_parts : (b cs p q : List ℕ) → Encodes b cs → (w : AreCut cs p q) → Encodes p w.prefix × Encodes q w.suffix
encodes_parts b cs p q s w =
    let a = all_parts IsCodePoint w.prefix w.suffix (subst (AllByRecursion IsCodePoint) w.cut s.code_points) in
    let f = subst HasNoSurrogatePair w.cut s.no_pair in (
      record { code_points = a.0; no_pair = paired_prefix w.prefix w.suffix f; joined = sym w.prefix_is },
      record { code_points = a.1; no_pair = paired_suffix w.prefix w.suffix f; joined = sym w.suffix_is },
    )

-- at a boundary both parts of WTF-8 are WTF-8
pub wtf8_cut : (b : List ℕ) (i : ℕ) → IsWtf8 b → IsBoundary b i → IsWtf8 (take i b) × IsWtf8 (drop i b)
wtf8_cut b i s k =
    let w = boundary_cut b s.0 i s.1.joined k in
    let p = encodes_parts b s.0 _ _ s.1 w in
    ((w.prefix, p.0), (w.suffix, p.1))

-- both parts of a list of scalars are scalars
scalars_parts : (ds es : List ℕ) → all_scalars (ds ++ es) ≡ true → (all_scalars ds ≡ true) × (all_scalars es ≡ true)
scalars_parts [] es e = (refl, e)
scalars_parts (d ∷ ds) es e =
    let h = and_parts (scalar d) _ e in
    let r = scalars_parts ds es h.1 in
    (rw (h.0, r.0) refl, r.1)

-- of a text both parts are texts
pub utf8_cut : (b : List ℕ) (i : ℕ) → IsUtf8 b → IsBoundary b i → IsUtf8 (take i b) × IsUtf8 (drop i b)
utf8_cut b i u k =
    let w = boundary_cut b u.0 i (sym u.1.1 ∙ sym (forms_encode u.0)) k in
    let s = scalars_parts w.prefix w.suffix (ap all_scalars (sym w.cut) ∙ u.1.0) in (
      (w.prefix, (s.0, sym (forms_encode w.prefix) ∙ w.prefix_is)),
      (w.suffix, (s.1, sym (forms_encode w.suffix) ∙ w.suffix_is)),
    )

-- the index is one where a `str` may be cut
pub char_boundary : (b : List ℕ) (i : ℕ) → IsUtf8 b → IsBoundary b i → IsCharBoundary b i
char_boundary b i u k = IsCharBoundary-from_drop b i (boundary_within b i k) (utf8_cut b i u k).1

-- and each index where a `str` may be cut is a boundary
pub boundary_of_str : (b : List ℕ) (i : ℕ) → IsUtf8 b → IsCharBoundary b i → IsBoundary b i
boundary_of_str b i u k = let rest = IsUtf8-drop b i u k in by rest.0 rest.1.0 (forms_encode rest.0 ∙ rest.1.1)
  where
    by : (cs : List ℕ) → all_scalars cs ≡ true → flat_map encode cs ≡ drop i b → IsBoundary b i
    by [] s e = record { is = inr (inl (omega (arith, k.0, ap length e, length-drop i b))) }
    by (c ∷ cs) s e = record { is = inr (inr (inl (i + length (encode c), whole_at b i c (flat_map encode cs) k.0 (and_parts (scalar c) _ s).0 (sym e)))) }

-- what follows a text at the start of a text is a text
pub utf8_after : (b : List ℕ) (n : ℕ) → IsUtf8 b → IsUtf8 (take n b) → IsUtf8 (drop n b)
utf8_after b n u v = ⊎_elim (λ h. subst IsUtf8 (sym (drop_all n b (omega arith))) IsUtf8-nil) (λ l. IsUtf8-drop b n u (IsCharBoundary-from_take b n u l v)) (cases_lt (length b) n)
