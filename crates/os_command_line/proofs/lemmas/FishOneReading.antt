-- A text is read by fish, and a string by PowerShell, in one way.
use Rattle.std.proofs.Common.{◌≡◌, ℕ, Bool, true, false, ◌||◌, cond, eqb, List, [], ◌∷◌, ◌++◌, refl, sym, ap, ◌∙◌, subst, append-nil, inl, inr}
use Rattle.std.specs.Char.{encode_utf8}
use Rattle.std.specs.List.{flat_map}
use Rattle.std.specs.Str.{encode_utf8_all}
use Rattle.std.proofs.lemmas.Bool.{eqb-true, cases_Bool, true≢false}
use Rattle.std.proofs.lemmas.Str.{encodes_same}
use Rattle.os_command_line.specs.Charset.{single_bytes, is_one, is_byte}
use Rattle.os_command_line.specs.Fish.{is_escaped, is_gap, EndsWord, ReadsWord, IsFishText}
use Rattle.os_command_line.specs.Fish.ReadsWord.{ends, bare, bare_escaped, opens, closes, escaped, kept, itself}
use Rattle.os_command_line.specs.PowerShell.{is_single_quote, StartsWithNoQuote, ReadsString, IsStringOf, IsPowerShellText}
use Rattle.os_command_line.specs.PowerShell.ReadsString.{closes as string_closes, doubled as string_doubled, itself as string_itself}
use Rattle.os_command_line.specs.ShellWriting.{is_plain}
use Rattle.os_command_line.proofs.lemmas.CharsetBytes.{single_are}
use Rattle.os_command_line.proofs.lemmas.ShellOneReading.{or_false, or_true}

-- ---- fish

-- what is read from here, in single quotes or not
unfoldable fish_read : Bool → List (List ℕ) → List ℕ
fish_read inside [] = []
fish_read false (c ∷ []) = cond (is_byte 0x27 c) [] (cond (is_one is_plain c) c [])
fish_read false (c ∷ d ∷ text) = cond (is_byte 0x27 c) (fish_read true (d ∷ text)) (cond (is_byte 0x5C c) (d ++ fish_read false text) (cond (is_one is_plain c) (c ++ fish_read false (d ∷ text)) []))
fish_read true (c ∷ []) = cond (is_byte 0x27 c) [] c
fish_read true (c ∷ d ∷ text) =
    cond (is_byte 0x27 c) (fish_read false (d ∷ text)) (cond (is_byte 0x5C c) (cond (is_one is_escaped d) (d ++ fish_read true text) (0x5C ∷ (d ++ fish_read true text))) (c ++ fish_read true (d ∷ text)))

plain_other : (k : ℕ) → is_plain k ≡ false → (c : List ℕ) → is_one is_plain c ≡ true → is_byte k c ≡ false
plain_other k n [] p = refl
plain_other k n (b ∷ []) p = elim (cases_Bool (eqb b k)) [
  | inl e ↦ absurd (true≢false (sym p ∙ ap is_plain (eqb-true b k e) ∙ n))
  | inr e ↦ e
]
plain_other k n (b ∷ c ∷ bytes) p = refl

gap_other : (c : List ℕ) → is_one is_gap c ≡ true → (is_byte 0x27 c ≡ false) × (is_byte 0x5C c ≡ false) × (is_one is_plain c ≡ false)
gap_other [] h = absurd (true≢false (sym h))
gap_other (b ∷ []) h = elim (or_true (eqb b 0x20) (eqb b 0x09 || eqb b 0x0A) h) [
  | inl e ↦ subst (λ x. (eqb x 0x27 ≡ false) × (eqb x 0x5C ≡ false) × (is_plain x ≡ false)) (sym (eqb-true b 0x20 e)) (refl, refl, refl)
  | inr r ↦ elim (or_true (eqb b 0x09) (eqb b 0x0A) r) [
    | inl e ↦ subst (λ x. (eqb x 0x27 ≡ false) × (eqb x 0x5C ≡ false) × (is_plain x ≡ false)) (sym (eqb-true b 0x09 e)) (refl, refl, refl)
    | inr e ↦ subst (λ x. (eqb x 0x27 ≡ false) × (eqb x 0x5C ≡ false) × (is_plain x ≡ false)) (sym (eqb-true b 0x0A e)) (refl, refl, refl)
  ]
]
gap_other (b ∷ c ∷ bytes) h = absurd (true≢false (sym h))

neither : (c : List ℕ) → is_one is_escaped c ≡ false → (is_byte 0x27 c ≡ false) × (is_byte 0x5C c ≡ false)
neither [] h = (refl, refl)
neither (b ∷ []) h = or_false (eqb b 0x27) (eqb b 0x5C) h
neither (b ∷ c ∷ bytes) h = (refl, refl)

at_end : (after : List (List ℕ)) → EndsWord after → fish_read false after ≡ []
unfolding fish_read
at_end [] h = refl
at_end (c ∷ []) h = let n = gap_other c h in rw (n.0, n.2) refl
at_end (c ∷ d ∷ after) h = let n = gap_other c h in rw (n.0, n.1, n.2) refl

at_bare : (c : List ℕ) (text : List (List ℕ)) → is_one is_plain c ≡ true → fish_read false (c ∷ text) ≡ c ++ fish_read false text
unfolding fish_read
at_bare c [] p = rw (plain_other 0x27 refl c p, p) (sym (append-nil c))
at_bare c (d ∷ text) p = rw (plain_other 0x27 refl c p, plain_other 0x5C refl c p, p) refl

at_opening : (text : List (List ℕ)) → fish_read false ((0x27 ∷ []) ∷ text) ≡ fish_read true text
unfolding fish_read
at_opening [] = refl
at_opening (c ∷ text) = refl

at_closing : (text : List (List ℕ)) → fish_read true ((0x27 ∷ []) ∷ text) ≡ fish_read false text
unfolding fish_read
at_closing [] = refl
at_closing (c ∷ text) = refl

at_bare_escaped : (c : List ℕ) (text : List (List ℕ)) → fish_read false ((0x5C ∷ []) ∷ c ∷ text) ≡ c ++ fish_read false text
unfolding fish_read
at_bare_escaped c text = refl

at_escaped : (c : List ℕ) (text : List (List ℕ)) → is_one is_escaped c ≡ true → fish_read true ((0x5C ∷ []) ∷ c ∷ text) ≡ c ++ fish_read true text
unfolding fish_read
at_escaped c text h = rw h refl

at_kept : (c : List ℕ) (text : List (List ℕ)) → is_one is_escaped c ≡ false → fish_read true ((0x5C ∷ []) ∷ c ∷ text) ≡ 0x5C ∷ (c ++ fish_read true text)
unfolding fish_read
at_kept c text h = rw h refl

at_itself : (c : List ℕ) (text : List (List ℕ)) → is_one is_escaped c ≡ false → fish_read true (c ∷ text) ≡ c ++ fish_read true text
unfolding fish_read
at_itself c [] h = rw (neither c h).0 (sym (append-nil c))
at_itself c (d ∷ text) h = let p = neither c h in rw (p.0, p.1) refl

fish_is : (after : List (List ℕ)) (inside : Bool) (text : List (List ℕ)) (word : List ℕ) → ReadsWord after inside text word → fish_read inside text ≡ word
fish_is after _ _ _ (ends h) = at_end after h
fish_is after _ _ _ (bare c text word p r) = at_bare c text p ∙ ap (λ z. c ++ z) (fish_is after false text word r)
fish_is after _ _ _ (bare_escaped c text word p r) = at_bare_escaped c text ∙ ap (λ z. c ++ z) (fish_is after false text word r)
fish_is after _ _ _ (opens text word r) = at_opening text ∙ fish_is after true text word r
fish_is after _ _ _ (closes text word r) = at_closing text ∙ fish_is after false text word r
fish_is after _ _ _ (escaped c text word h r) = at_escaped c text h ∙ ap (λ z. c ++ z) (fish_is after true text word r)
fish_is after _ _ _ (kept c text word h r) = at_kept c text h ∙ ap (λ z. 0x5C ∷ (c ++ z)) (fish_is after true text word r)
fish_is after _ _ _ (itself c text word h r) = at_itself c text h ∙ ap (λ z. c ++ z) (fish_is after true text word r)

pub one_fish_name : (text a b : List ℕ) → IsFishText text a → IsFishText text b → a ≡ b
one_fish_name text a b p q =
    let cs = single_bytes (text ++ []) in
    let are = single_are (text ++ []) in
    let x = p.1 [] cs tt are in
    let y = q.1 [] cs tt are in
    sym (fish_is x.0 false cs a x.2) ∙ fish_is y.0 false cs b y.2

-- ---- PowerShell

-- what is read after a single quotation mark
unfoldable string_read : List ℕ → List ℕ
string_read [] = []
string_read (c ∷ []) = cond (is_single_quote c) [] (c ∷ [])
string_read (c ∷ d ∷ text) = cond (is_single_quote c) (cond (is_single_quote d) (d ∷ string_read text) []) (c ∷ string_read (d ∷ text))

at_mark : (q : ℕ) (after : List ℕ) → is_single_quote q ≡ true → StartsWithNoQuote after → string_read (q ∷ after) ≡ []
unfolding string_read
at_mark q [] h n = rw h refl
at_mark q (d ∷ text) h n = rw (h, n) refl

at_doubled : (p q : ℕ) (text : List ℕ) → is_single_quote p ≡ true → is_single_quote q ≡ true → string_read (p ∷ q ∷ text) ≡ q ∷ string_read text
unfolding string_read
at_doubled p q text h k = rw (h, k) refl

at_other : (c : ℕ) (text : List ℕ) → is_single_quote c ≡ false → string_read (c ∷ text) ≡ c ∷ string_read text
unfolding string_read
at_other c [] h = rw h refl
at_other c (d ∷ text) h = rw h refl

string_is : (after text meant : List ℕ) → ReadsString after text meant → string_read text ≡ meant
string_is after _ _ (string_closes q h n) = at_mark q after h n
string_is after _ _ (string_doubled p q text meant h k r) = at_doubled p q text h k ∙ ap (λ z. q ∷ z) (string_is after text meant r)
string_is after _ _ (string_itself c text meant h r) = at_other c text h ∙ ap (λ z. c ∷ z) (string_is after text meant r)

inner_is : (m n : ℕ) (a b : List ℕ) → m ∷ a ≡ n ∷ b → a ≡ b
inner_is m n a b e = cc

one_string : (text a b : List ℕ) → IsStringOf text a → IsStringOf text b → a ≡ b
one_string text a b p q =
    let same = inner_is p.mark q.mark p.inner q.inner (sym p.begins ∙ q.begins) in
    sym (string_is [] (p.inner ++ []) a (p.reads [] tt)) ∙ ap (λ z. string_read (z ++ [])) same ∙ string_is [] (q.inner ++ []) b (q.reads [] tt)

encoded_is : (cs : List ℕ) → encode_utf8_all cs ≡ flat_map encode_utf8 cs
encoded_is [] = refl
encoded_is (c ∷ cs) = ap (λ z. encode_utf8 c ++ z) (encoded_is cs)

pub one_powershell_name : (text a b : List ℕ) → IsPowerShellText text a → IsPowerShellText text b → a ≡ b
one_powershell_name text a b p q =
    let same : encode_utf8_all q.characters ≡ encode_utf8_all p.characters = encoded_is q.characters ∙ sym q.encoded ∙ p.encoded ∙ sym (encoded_is p.characters) in
    one_string p.characters a b p.is (subst (λ z. IsStringOf z b) (encodes_same q.characters p.characters same) q.is)
