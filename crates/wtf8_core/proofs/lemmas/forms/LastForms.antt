-- The code point, and the units, with which a string ends; and forms at the start and the end of bytes.
use Rattle.wtf8_core.proofs.Common.{◌⊎◌, ⊎_elim, ◌≡◌, ℕ, ◌-◌, ◌<◌, List, [], ◌∷◌, ◌++◌, length, take, drop, refl, sym, ap, ◌∙◌, arith, append-nil, length-append, take-append-drop, drop-append_seam, take-append_seam, flat_map-append, flat_map, IsHigh, encode, encode_utf16, last_or, units, common_steps, nat_tests}
use Rattle.wtf8_core.proofs.lemmas.forms.{Shapes.form_bounds, ByStd.form_same, Cuts.bytes_found}

-- the last bytes of a list
pub at_end : (s x y : List ℕ) → s ≡ x ++ y → drop (length s - length y) s ≡ y
at_end s x y e = grind (arith, nat_tests, common_steps, length-append, drop-append_seam)

-- what three or four last bytes are, where bytes end with a form
pub form_at_end : (s last prefix : List ℕ) (n c : ℕ) → last ≡ drop (length s - n) s → length (encode c) ≡ n → s ≡ prefix ++ encode c → last ≡ encode c
form_at_end s last prefix n c e l f = e ∙ ap (λ k. drop (length s - k) s) (sym l) ∙ at_end s prefix (encode c) f

-- and what the three first bytes are, where bytes begin with a form
pub form_at_start : (s first rest : List ℕ) (c : ℕ) → first ≡ take 3 s → length (encode c) ≡ 3 → s ≡ encode c ++ rest → first ≡ encode c
form_at_start s first rest c e l f = e ∙ ap (λ k. take k s) (sym l) ∙ ap (take (length (encode c))) f ∙ take-append_seam (encode c) rest

-- both parts of a list joined
pub split_off : (s first rest x : List ℕ) → first ≡ take 3 s → rest ≡ drop 3 s → first ≡ x → s ≡ x ++ rest
split_off s first rest x e f g = sym (take-append-drop 3 s) ∙ ap (λ z. z ++ drop 3 s) (sym e ∙ g) ∙ ap (λ z. x ++ z) (sym f)

-- bytes shorter than a form don't begin or end with it
pub too_short : (s x y : List ℕ) (n : ℕ) → length s < n → (length x ≡ n) ⊎ (length y ≡ n) → s ≡ x ++ y → ⊥
too_short s x y n h l e = ⊎_elim (λ k. omega (arith, ap length e, length-append x y)) (λ k. omega (arith, ap length e, length-append x y)) l

-- one form is that of one code point
pub same_form : (c d : ℕ) → encode c ≡ encode d → c ≡ d
same_form c d e = (form_same c d [] [] (ap (λ z. z ++ []) e)).0

-- of two forms of one length at one end both are one
pub same_first : (s rest other : List ℕ) (c d : ℕ) → s ≡ encode c ++ rest → s ≡ encode d ++ other → c ≡ d
same_first s rest other c d e f = (form_same c d rest other (sym e ∙ f)).0

pub same_last : (s prefix other : List ℕ) (c d : ℕ) → s ≡ prefix ++ encode c → s ≡ other ++ encode d → length (encode c) ≡ length (encode d) → c ≡ d
same_last s prefix other c d e f l = same_form c d (sym (at_end s prefix (encode c) e) ∙ ap (λ k. drop (length s - k) s) l ∙ at_end s other (encode d) f)

-- no code points have no bytes
pub no_points : (ds : List ℕ) → flat_map encode ds ≡ [] → ds ≡ []
no_points [] e = refl
no_points (d ∷ ds) e = let b = form_bounds d in absurd (omega (arith, ap length e, length-append (encode d) (flat_map encode ds)))

-- where bytes end with a form, the code points end with its code point
pub last_point : (cs x : List ℕ) (c : ℕ) → flat_map encode cs ≡ x ++ encode c → (ds : List ℕ) × (cs ≡ ds ++ c ∷ []) × (flat_map encode ds ≡ x)
last_point cs x c e =
    let f = bytes_found cs x [] (c ∷ []) (omega arith) (e ∙ ap (λ z. x ++ z) (sym (append-nil (encode c)) ∙ sym (append-nil (encode c ++ [])))) in
    (f.prefix, f.cut ∙ ap (λ z. f.prefix ++ (c ∷ z)) (no_points f.suffix f.suffix_is), f.prefix_is)

-- the last code point, and where it is a high surrogate
pub at_last : (u c : ℕ) (cs : List ℕ) → (ds : List ℕ) × (c ∷ cs ≡ ds ++ last_or u (c ∷ cs) ∷ [])
at_last u c [] = ([], refl)
at_last u c (d ∷ cs) = let r = at_last c d cs in (c ∷ r.0, ap (λ l. c ∷ l) r.1)

pub split_at_last : (u : ℕ) (cs : List ℕ) → (IsHigh u → ⊥) → IsHigh (last_or u cs) → (ds : List ℕ) × (cs ≡ ds ++ last_or u cs ∷ [])
split_at_last u [] n h = absurd (n h)
split_at_last u (c ∷ cs) n h = at_last u c cs

-- the bytes and the units of code points and one more
pub forms_last : (ds : List ℕ) (c : ℕ) → flat_map encode (ds ++ c ∷ []) ≡ flat_map encode ds ++ encode c
forms_last ds c = flat_map-append encode ds (c ∷ []) ∙ ap (λ z. flat_map encode ds ++ z) (append-nil (encode c))

pub units_last : (ds : List ℕ) (c : ℕ) → units (ds ++ c ∷ []) ≡ units ds ++ encode_utf16 c
units_last ds c = flat_map-append encode_utf16 ds (c ∷ []) ∙ ap (λ z. units ds ++ z) (append-nil (encode_utf16 c))
