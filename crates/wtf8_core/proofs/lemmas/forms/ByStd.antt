-- Forms are what std's `encode_utf8` gives, also those of surrogates, so std's lemmas apply.
use Rattle.wtf8_core.proofs.Common.{◌≡◌, ℕ, List, [], ◌∷◌, ◌++◌, append_assoc, refl, sym, ap, ◌∙◌, encode_utf8, encode_utf8_all, flat_map, encode_same, cons_from_encodes, encode}

-- a form is std's, and so are forms
pub form_encode : (c : ℕ) → encode c ≡ encode_utf8 c
unfolding encode encode_utf8
form_encode c = refl

pub forms_encode : (cs : List ℕ) → flat_map encode cs ≡ encode_utf8_all cs
forms_encode [] = refl
forms_encode (c ∷ cs) = ap (λ x. x ++ flat_map encode cs) (form_encode c) ∙ ap (λ x. encode_utf8 c ++ x) (forms_encode cs)

-- a form at the start determines the code point and the rest
pub form_same : (c d : ℕ) (r t : List ℕ) → encode c ++ r ≡ encode d ++ t → (c ≡ d) × (r ≡ t)
form_same c d r t e = encode_same c d r t (ap (λ x. x ++ r) (sym (form_encode c)) ∙ e ∙ ap (λ x. x ++ t) (form_encode d))

-- if the forms of some code points are a prefix of others' forms, the code points are a prefix of theirs, too
pub forms_prefix : (ds cs r : List ℕ) → flat_map encode cs ≡ flat_map encode ds ++ r → (es : List ℕ) × (cs ≡ ds ++ es) × (flat_map encode es ≡ r)
forms_prefix [] cs r e = (cs, refl, e)
forms_prefix (d ∷ ds) cs r e =
    let w = cons_from_encodes cs (flat_map encode ds ++ r) d (sym (forms_encode cs) ∙ e ∙ append_assoc (encode d) (flat_map encode ds) r ∙ ap (λ x. x ++ (flat_map encode ds ++ r)) (form_encode d)) in
    let v = forms_prefix ds w.0 r (forms_encode w.0 ∙ w.2) in
    (v.0, w.1 ∙ ap (λ x. d ∷ x) v.1, v.2)
