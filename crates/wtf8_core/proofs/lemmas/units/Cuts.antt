-- Where the units of code points may be cut, and lists of code points joined.
use Rattle.wtf8_core.proofs.Common.{◌≡◌, ⊎_elim, ℕ, Bool, true, false, cond, List, [], ◌∷◌, ◌++◌, refl, sym, ap, ◌∙◌, subst, arith, cases_lt, AllByRecursion, flat_map, IsCodePoint, encode, encode_utf16, HasNoSurrogatePair, MayPrecede, last_or, units, Encodes, IsHigh, low_unit, paired, is_pair, code_points_of}
use Rattle.wtf8_core.proofs.lemmas.{forms.Cuts.all_parts, forms.Cuts.paired_prefix, forms.Cuts.paired_suffix, forms.Appending.all_joined, units.OneToOne.wide_single, units.OneToOne.wide_pair, units.OneToOne.wide_units, units.OneToOne.read_single, units.OneToOne.reads_units, units.OneToOne.may_precede, units.OneToOne.IsUnit, units.OneToOne.reading}

-- the parts of an encoded list are encoded
pub encodes_prefix : (cs ds : List ℕ) → AllByRecursion IsCodePoint (cs ++ ds) → HasNoSurrogatePair (cs ++ ds) → Encodes (flat_map encode cs) cs
encodes_prefix cs ds a f = record { code_points = (all_parts IsCodePoint cs ds a).0; no_pair = paired_prefix cs ds f; joined = refl }

pub encodes_suffix : (cs ds : List ℕ) → AllByRecursion IsCodePoint (cs ++ ds) → HasNoSurrogatePair (cs ++ ds) → Encodes (flat_map encode ds) ds
encodes_suffix cs ds a f = record { code_points = (all_parts IsCodePoint cs ds a).1; no_pair = paired_suffix cs ds f; joined = refl }

-- the last of a list, whatever came before it
other_before : (u v : ℕ) (xs ys : List ℕ) → (IsHigh v → ⊥) → MayPrecede (last_or u xs) ys → MayPrecede (last_or v xs) ys
other_before u v [] ys n m = may_precede v ys n
other_before u v (x ∷ xs) ys n m = m

-- the code points of units are cut where the units are, except within a pair
cut_units : (us vs : List ℕ) → MayPrecede (last_or 0 us) vs → code_points_of (us ++ vs) ≡ code_points_of us ++ code_points_of vs
unfolding code_points_of
cut_units [] vs m = refl
cut_units (u ∷ []) vs m = read_single u vs m
cut_units (u ∷ v ∷ us) vs m =
    either (is_pair u v) (paired u v ∷ code_points_of (us ++ vs)) (u ∷ code_points_of (v ∷ (us ++ vs))) (paired u v ∷ code_points_of us) (u ∷ code_points_of (v ∷ us)) (code_points_of vs)
    (λ e. ap (λ l. paired u v ∷ l) (cut_units us vs (other_before v 0 us vs (λ h. omega (arith, h.0)) m)))
    (λ e. ap (λ l. u ∷ l) (cut_units (v ∷ us) vs m))
  where
    either : (t : Bool) (a b c d r : List ℕ) → (t ≡ true → a ≡ c ++ r) → (t ≡ false → b ≡ d ++ r) → cond t a b ≡ cond t c d ++ r
    either true a b c d r f g = f refl
    either false a b c d r f g = g refl

-- units are 16-bit numbers
pub units_fit : (cs : List ℕ) → AllByRecursion IsCodePoint cs → AllByRecursion IsUnit (units cs)
units_fit [] a = tt
units_fit (c ∷ cs) a = all_joined IsUnit (encode_utf16 c) (units cs) (wide_units c a.0) (units_fit cs a.1)

-- code points whose units are us and then vs: those that us and vs are read as
pub record AreUnitsCut (cs us vs : List ℕ) : Type 0 where
  pub prefix : List ℕ
  pub suffix : List ℕ
  pub cut : cs ≡ prefix ++ suffix
  pub prefix_is : units prefix ≡ us
  pub suffix_is : units suffix ≡ vs
  pub prefix_reads : code_points_of us ≡ prefix
  pub suffix_reads : code_points_of vs ≡ suffix

-- units may be cut where they don't begin within a pair
pub cut_at_units : (cs us vs : List ℕ) → AllByRecursion IsCodePoint cs → HasNoSurrogatePair cs → units cs ≡ us ++ vs → MayPrecede (last_or 0 us) vs → AreUnitsCut cs us vs
cut_at_units cs us vs a f e m =
    let fit = all_parts IsUnit us vs (subst (AllByRecursion IsUnit) e (units_fit cs a)) in
    record {
      prefix = code_points_of us;
      suffix = code_points_of vs;
      cut = sym (reads_units cs a f) ∙ ap code_points_of e ∙ cut_units us vs m;
      prefix_is = sym (reading us fit.0).are;
      suffix_is = sym (reading vs fit.1).are;
      prefix_reads = refl;
      suffix_reads = refl;
    }

-- if the last code point is no high surrogate, the last unit is none
pub last_unit : (u : ℕ) (cs : List ℕ) → (IsHigh (last_or u cs) → ⊥) → IsHigh (last_or u (units cs)) → ⊥
last_unit u [] n h = n h
last_unit u (c ∷ cs) n h =
    ⊎_elim
    (λ l. last_unit c cs n (subst (λ z. IsHigh (last_or u (z ++ units cs))) (wide_single c l) h))
    (λ l. last_unit (low_unit c) cs (other c (low_unit c) cs (λ k. omega (arith, k.1)) n) (subst (λ z. IsHigh (last_or u (z ++ units cs))) (wide_pair c l) h))
    (cases_lt c 0x1_0000)
  where
    other : (u v : ℕ) (xs : List ℕ) → (IsHigh v → ⊥) → (IsHigh (last_or u xs) → ⊥) → IsHigh (last_or v xs) → ⊥
    other u v [] n m h = n h
    other u v (x ∷ xs) n m h = m h

-- a prefix of the units that may precede the units after it is a prefix of the code points
pub units_prefix : (cs ps vs : List ℕ) → AllByRecursion IsCodePoint cs → HasNoSurrogatePair cs → AllByRecursion IsCodePoint ps → HasNoSurrogatePair ps → MayPrecede (last_or 0 (units ps)) vs
    → units cs ≡ units ps ++ vs → (es : List ℕ) × (cs ≡ ps ++ es) × (units es ≡ vs)
units_prefix cs ps vs a f b g n e =
    let c = cut_at_units cs (units ps) vs a f e n in
    (c.suffix, c.cut ∙ ap (λ z. z ++ c.suffix) (sym c.prefix_reads ∙ reads_units ps b g), c.suffix_is)

-- the same at the end
pub units_suffix : (cs us ps : List ℕ) → AllByRecursion IsCodePoint cs → HasNoSurrogatePair cs → AllByRecursion IsCodePoint ps → HasNoSurrogatePair ps → MayPrecede (last_or 0 us) (units ps)
    → units cs ≡ us ++ units ps → (ds : List ℕ) × (cs ≡ ds ++ ps) × (units ds ≡ us)
units_suffix cs us ps a f b g n e =
    let c = cut_at_units cs us (units ps) a f e n in
    (c.prefix, c.cut ∙ ap (λ z. c.prefix ++ z) (sym c.suffix_reads ∙ reads_units ps b g), c.prefix_is)
