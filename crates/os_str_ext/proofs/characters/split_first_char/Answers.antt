use Rattle.os_str_ext.proofs.Common.{◌≡◌, ◌<◌, ◌∙◌, ◌+◌, ◌++◌, ℕ, List, ap, length, drop, subst, sym, arith, take-append-drop, encode_utf8, WholeCharacter, StartsWithNoCharacter, bytes, IsFirstChar}
use Rattle.os_str_ext.proofs.lemmas.{EdgeCharacters.first_edge, Indices.ascii_first}
use Rattle.os_str_ext.proofs.characters.split_first_char.Goals as goal

-- the character that is read, where the bytes are those of the string, and what follows it
read : {s t : List ℕ} {c d : ℕ} (n : ℕ) → s ≡ t → d ≡ c → IsFirstChar s c n → IsFirstChar t d n
read {s} {d = d} n same is first = subst (λ x. IsFirstChar x d n) same (subst (λ x. IsFirstChar s x n) (sym is) first)

cut : {t rest : List ℕ} (c n : ℕ) → IsFirstChar t c n → rest ≡ drop n t → t ≡ encode_utf8 c ++ rest
cut {t} c n first back = sym (take-append-drop n t) ∙ ap (λ x. x ++ drop n t) first.1 ∙ ap (λ x. encode_utf8 c ++ x) (sym back)

pub split_at-requires : goal.split_at-requires
split_at-requires g c =
    let some : 0 < length c.as_encoded_bytes-bytes.result.now = grind (arith) in
    first_edge _ _ (subst (λ s. WholeCharacter s 0 (0 + 1)) c.as_encoded_bytes-bytes.ensures.value (ascii_first _ some c.if-bytes-lt128.true).0)

pub returns-then-bytes-lt128-clause-bytes : goal.returns-then-bytes-lt128-clause-bytes
returns-then-bytes-lt128-clause-bytes g c =
    let some : 0 < length c.as_encoded_bytes-bytes.result.now = grind (arith) in
    cut _ 1 (read 1 c.as_encoded_bytes-bytes.ensures.value c.from.ensures (ascii_first _ some c.if-bytes-lt128.true)) c.split_at.ensures.back

pub returns-then-bytes-lt128-clause-units : goal.returns-then-bytes-lt128-clause-units
returns-then-bytes-lt128-clause-units g c =
    let units = g.E.Platform.units in
    let some : 0 < length c.as_encoded_bytes-bytes.result.now = grind (arith) in
    let first = read 1 c.as_encoded_bytes-bytes.ensures.value c.from.ensures (ascii_first _ some c.if-bytes-lt128.true) in
    c.split_at.ensures.units ∙ ap (λ x. units x ++ units (bytes c.split_at.result.1)) (c.split_at.ensures.front ∙ first.1)

pub returns-in_default-clause-bytes : goal.returns-in_default-clause-bytes
returns-in_default-clause-bytes g c = subst StartsWithNoCharacter c.as_encoded_bytes-bytes.ensures.value c.in_default.ensures

pub split_at-requires-2 : goal.split_at-requires-2
split_at-requires-2 g c = first_edge _ _ (subst (λ s. WholeCharacter s 0 (0 + c.in-Some.size)) c.as_encoded_bytes-bytes.ensures.value c.in-Some.ensures.0)

pub returns-clause-bytes : goal.returns-clause-bytes
returns-clause-bytes g c = cut _ _ (subst (λ s. IsFirstChar s c.in-Some.character c.in-Some.size) c.as_encoded_bytes-bytes.ensures.value c.in-Some.ensures) c.split_at-2.ensures.back

pub returns-clause-units : goal.returns-clause-units
returns-clause-units g c =
    let units = g.E.Platform.units in
    let first = subst (λ s. IsFirstChar s c.in-Some.character c.in-Some.size) c.as_encoded_bytes-bytes.ensures.value c.in-Some.ensures in
    c.split_at-2.ensures.units ∙ ap (λ x. units x ++ units (bytes c.split_at-2.result.1)) (c.split_at-2.ensures.front ∙ first.1)
