-- Names in single quotation marks are read by PowerShell as these names.
use Rattle.std.proofs.Common.{◌≡◌, ◌≢◌, ℕ, ◌+◌, ◌*◌, ◌<◌, ◌≤◌, Bool, true, false, if◌then◌else◌, Option, None, Some, MatchOption, List, [], ◌∷◌, ◌++◌, length, refl, sym, ap, ◌∙◌, subst, arith, append_assoc, length-append}
use Rattle.std.specs.List.{AllByRecursion, flat_map}
use Rattle.std.specs.Char.{encode_utf8}
use Rattle.std.specs.Str.{IsUtf8, all_scalars, chars, encode_utf8_all}
use Rattle.memchr.specs.Find.{IsFirstByte, is_byte}
use Rattle.std.proofs.lemmas.Bool.{and_parts}
use Rattle.std.proofs.lemmas.Grind.{flat_map-append}
use Rattle.std.proofs.lemmas.List.{append_cancel_left}
use Rattle.std.proofs.lemmas.Str.{chars_past_char, chars-nil, encode_ascii, encodes-chars, scalars-chars}
use Rattle.os_command_line.specs.PowerShell.{HasNulAt, is_single_quote, StartsWithNoQuote, ReadsString, IsStringOf, IsPowerShellText, powershell_character, powershell_string}
use Rattle.os_command_line.specs.PowerShell.ReadsString.{closes, doubled, itself}
use Rattle.os_command_line.proofs.lemmas.ShellForms.{nul_found}

-- the characters that are written for one
abbrev twice : ℕ → List ℕ
twice c = if is_single_quote c then c ∷ c ∷ [] else c ∷ []

abbrev written : List ℕ → List ℕ
written cs = 0x27 ∷ (flat_map twice cs ++ 0x27 ∷ [])

one_read : (b : Bool) (c : ℕ) (cs rest after : List ℕ) → is_single_quote c ≡ b → ReadsString after (rest ++ after) cs → ReadsString after (((if b then c ∷ c ∷ [] else c ∷ []) ++ rest) ++ after) (c ∷ cs)
one_read true c cs rest after e r = doubled c c (rest ++ after) cs e e r
one_read false c cs rest after e r = itself c (rest ++ after) cs e r

reads : (cs after : List ℕ) → StartsWithNoQuote after → ReadsString after ((flat_map twice cs ++ 0x27 ∷ []) ++ after) cs
reads [] after h = closes 0x27 refl h
reads (c ∷ cs) after h = subst (λ z. ReadsString after (z ++ after) (c ∷ cs)) (sym (append_assoc (twice c) (flat_map twice cs) (0x27 ∷ []))) (one_read (is_single_quote c) c cs (flat_map twice cs ++ 0x27 ∷ []) after refl (reads cs after h))

is_string : (cs : List ℕ) → IsStringOf (written cs) cs
is_string cs = record { mark = 0x27; inner = flat_map twice cs ++ 0x27 ∷ []; begins = refl; is_mark = refl; reads = reads cs }

one_encoded : (b : Bool) (c : ℕ) (xs ys : List ℕ) → xs ≡ flat_map encode_utf8 ys → (if b then encode_utf8 c ++ encode_utf8 c else encode_utf8 c) ++ xs ≡ flat_map encode_utf8 ((if b then c ∷ c ∷ [] else c ∷ []) ++ ys)
one_encoded true c xs ys e = append_assoc (encode_utf8 c) (encode_utf8 c) xs ∙ ap (λ z. encode_utf8 c ++ (encode_utf8 c ++ z)) e
one_encoded false c xs ys e = ap (λ z. encode_utf8 c ++ z) e

encoded : (cs : List ℕ) → flat_map powershell_character cs ≡ flat_map encode_utf8 (flat_map twice cs)
encoded [] = refl
encoded (c ∷ cs) = one_encoded (is_single_quote c) c (flat_map powershell_character cs) (flat_map twice cs) (encoded cs)

marked : (xs ys : List ℕ) → xs ≡ flat_map encode_utf8 ys → 0x27 ∷ (xs ++ 0x27 ∷ []) ≡ flat_map encode_utf8 (0x27 ∷ (ys ++ 0x27 ∷ []))
marked xs ys e =
    let mark : encode_utf8 0x27 ≡ 0x27 ∷ [] = encode_ascii 0x27 (omega arith) in
    let all = flat_map-append encode_utf8 ys (0x27 ∷ []) ∙ ap (λ z. flat_map encode_utf8 ys ++ (z ++ [])) mark in
    ap (λ z. 0x27 ∷ (z ++ 0x27 ∷ [])) e ∙ ap (λ z. 0x27 ∷ z) (sym all) ∙ ap (λ z. z ++ flat_map encode_utf8 (ys ++ 0x27 ∷ [])) (sym mark)

pub is_powershell_text : (cs : List ℕ) → IsPowerShellText (powershell_string cs) cs
is_powershell_text cs = record {
  characters = written cs;
  encoded = marked (flat_map powershell_character cs) (flat_map twice cs) (encoded cs);
  is = is_string cs;
}

-- ---- the first NUL

pub nul_in : (name : List ℕ) (found : Option ℕ) → IsFirstByte (is_byte 0) name found → MatchOption found (AllByRecursion (λ b. b ≢ 0) name) (λ index. HasNulAt name index)
nul_in name None h = nul_found name None h
nul_in name (Some i) h = let f = nul_found name (Some i) h in record { before = f.before; after = f.after; joined = f.joined; none_before = f.none_before; index_is = f.index_is }

-- ---- character by character

-- what the text after a quotation mark says of these bytes
abbrev pub inner_text : List ℕ → List ℕ
inner_text text = flat_map powershell_character (chars text) ++ 0x27 ∷ []

pub one_more : (text following : List ℕ) (c : ℕ) → IsUtf8 text → text ≡ encode_utf8 c ++ following → inner_text text ≡ powershell_character c ++ inner_text following
one_more text following c u e = ap (λ cs. flat_map powershell_character cs ++ 0x27 ∷ []) (chars_past_char text following c u e) ∙ append_assoc (powershell_character c) (flat_map powershell_character (chars following)) (0x27 ∷ [])

pub no_more : (text : List ℕ) → text ≡ [] → inner_text text ≡ 0x27 ∷ []
no_more text e = ap inner_text e ∙ ap (λ cs. flat_map powershell_character cs ++ 0x27 ∷ []) chars-nil

pub quote_text : (c : ℕ) (encoded : List ℕ) → encoded ≡ encode_utf8 c → is_single_quote c ≡ true → powershell_character c ≡ encoded ++ encoded
quote_text c encoded e is = ap (λ b. if b then encode_utf8 c ++ encode_utf8 c else encode_utf8 c) is ∙ ap (λ x. x ++ x) (sym e)

pub other_text : (c : ℕ) (encoded : List ℕ) → encoded ≡ encode_utf8 c → is_single_quote c ≡ false → powershell_character c ≡ encoded
other_text c encoded e is = ap (λ b. if b then encode_utf8 c ++ encode_utf8 c else encode_utf8 c) is ∙ sym e

short_character : (b : Bool) (c : ℕ) → length (if b then encode_utf8 c ++ encode_utf8 c else encode_utf8 c) ≤ 2 * length (encode_utf8 c)
short_character true c = omega (arith, length-append (encode_utf8 c) (encode_utf8 c))
short_character false c = omega arith

character_fits : (c : ℕ) → length (powershell_character c) ≤ 2 * length (encode_utf8 c)
character_fits c = short_character (is_single_quote c) c

characters_fit : (cs : List ℕ) → length (flat_map powershell_character cs) ≤ 2 * length (encode_utf8_all cs)
characters_fit [] = omega arith
characters_fit (c ∷ cs) = omega (arith, character_fits c, characters_fit cs, length-append (powershell_character c) (flat_map powershell_character cs), length-append (encode_utf8 c) (encode_utf8_all cs))

-- a string is at most this long
pub string_len : (text : List ℕ) → IsUtf8 text → length (powershell_string (chars text)) ≤ 2 * length text + 2
string_len text u = omega (arith, characters_fit (chars text), ap length (encodes-chars text u), length-append (flat_map powershell_character (chars text)) (0x27 ∷ []))

-- what follows a character of a text is text
pub after_character : (text following : List ℕ) (c : ℕ) → IsUtf8 text → text ≡ encode_utf8 c ++ following → IsUtf8 following
after_character text following c u e =
    let cs = chars_past_char text following c u e in
    let are_scalars = and_parts _ _ (sym (ap all_scalars cs) ∙ scalars-chars text u) in
    (chars following, (are_scalars.1, append_cancel_left (encode_utf8 c) _ _ (sym (ap encode_utf8_all cs) ∙ encodes-chars text u ∙ e)))
