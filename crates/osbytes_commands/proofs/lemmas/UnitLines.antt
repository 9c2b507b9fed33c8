-- Bytes are the lines of one list of units or have a first bad line, which is one line, and never both.
use Rattle.std.proofs.Common.{◌≡◌, ℕ, ◌+◌, ◌/◌, ◌%◌, ◌<◌, ◌≤◌, List, [], ◌∷◌, ◌++◌, All, length, length-append, map, suc, refl, sym, ap, subst, ◌∙◌, arith, append_assoc, ⊎_elim}
use Rattle.std.proofs.lemmas.Bool.{cases_lt, lt-ltb, le-ltb}
use Rattle.std.proofs.lemmas.Grind.{flat_map-append}
use Rattle.std.proofs.lemmas.List.{append-nil, map-append}
use Rattle.std.proofs.lemmas.List.Elements.{All-push}
use Rattle.program_frame.specs.declared.os.Os.{Os}
use Rattle.program_frame.specs.declared.os.Os.TheVariants.{Unix, Windows, Wasm}
use Rattle.osbytes_commands.specs.Lines.{IsUnit, hex_digit, unit_line, unit_lines, AreUnitLines, BeginsWithUnitLine, IsFirstBadLine}

first_is_unit : (os : Os) (u : ℕ) (us : List ℕ) → All (IsUnit os) (u ∷ us) → IsUnit os u
first_is_unit os u us all = all 0 0 (omega arith)

rest_are_units : (os : Os) (u : ℕ) (us : List ℕ) → All (IsUnit os) (u ∷ us) → All (IsUnit os) us
rest_are_units os u us all = λ k d l. all (suc k) d (omega arith)

low_digit : (d : ℕ) → d < 10 → hex_digit d ≡ 48 + d
low_digit d h = rw (lt-ltb d 10 h) refl

high_digit : (d : ℕ) → 10 ≤ d → hex_digit d ≡ 87 + d
high_digit d h = rw (le-ltb d 10 h) refl

same_digit : (c d : ℕ) → hex_digit c ≡ hex_digit d → c ≡ d
same_digit c d e = ⊎_elim
    (λ h. ⊎_elim (λ k. let p = low_digit c h in let q = low_digit d k in omega arith) (λ k. let p = low_digit c h in let q = high_digit d k in omega arith) (cases_lt d 10))
    (λ h. ⊎_elim (λ k. let p = high_digit c h in let q = low_digit d k in omega arith) (λ k. let p = high_digit c h in let q = high_digit d k in omega arith) (cases_lt d 10))
    (cases_lt c 10)

same_byte : (u v : ℕ) → hex_digit (u / 16) ≡ hex_digit (v / 16) → hex_digit (u % 16) ≡ hex_digit (v % 16) → u ≡ v
same_byte u v e f = let p = same_digit (u / 16) (v / 16) e in let q = same_digit (u % 16) (v % 16) f in omega arith

leading_byte : (u v : ℕ) (xs ys : List ℕ) → unit_line Unix u ++ xs ≡ unit_line Unix v ++ ys → (u ≡ v) × (xs ≡ ys)
leading_byte u v xs ys e =
    let first : hex_digit (u / 16) ≡ hex_digit (v / 16) = cc in
    let second : hex_digit (u % 16) ≡ hex_digit (v % 16) = cc in
    (same_byte u v first second, cc)

-- a line that comes first decides its unit and what follows it
leading_line : (os : Os) (u v : ℕ) (xs ys : List ℕ) → unit_line os u ++ xs ≡ unit_line os v ++ ys → (u ≡ v) × (xs ≡ ys)
leading_line Unix u v xs ys e = leading_byte u v xs ys e
leading_line Wasm u v xs ys e = leading_byte u v xs ys e
leading_line Windows u v xs ys e =
    let first : hex_digit (u / 0x100 / 16) ≡ hex_digit (v / 0x100 / 16) = cc in
    let second : hex_digit (u / 0x100 % 16) ≡ hex_digit (v / 0x100 % 16) = cc in
    let third : hex_digit (u % 0x100 / 16) ≡ hex_digit (v % 0x100 / 16) = cc in
    let fourth : hex_digit (u % 0x100 % 16) ≡ hex_digit (v % 0x100 % 16) = cc in
    let high = same_byte (u / 0x100) (v / 0x100) first second in
    let low = same_byte (u % 0x100) (v % 0x100) third fourth in
    (omega arith, cc)

lines_after : (os : Os) (u : ℕ) (us xs : List ℕ) → unit_lines os (u ∷ us) ++ xs ≡ unit_line os u ++ (unit_lines os us ++ xs)
lines_after os u us xs = append_assoc (unit_line os u) (unit_lines os us) xs

-- the same lines before two bad lines
same_units : (os : Os) (us vs xs ys : List ℕ) → All (IsUnit os) us → All (IsUnit os) vs → ¬ (BeginsWithUnitLine os xs) → ¬ (BeginsWithUnitLine os ys)
    → unit_lines os us ++ xs ≡ unit_lines os vs ++ ys → (us ≡ vs) × (xs ≡ ys)
same_units os [] [] xs ys hu hv bad bad' e = (refl, e)
same_units os [] (v ∷ vs) xs ys hu hv bad bad' e = absurd (bad (v, first_is_unit os v vs hv, (unit_lines os vs ++ ys, e ∙ lines_after os v vs ys)))
same_units os (u ∷ us) [] xs ys hu hv bad bad' e = absurd (bad' (u, first_is_unit os u us hu, (unit_lines os us ++ xs, sym e ∙ lines_after os u us xs)))
same_units os (u ∷ us) (v ∷ vs) xs ys hu hv bad bad' e =
    let f = leading_line os u v (unit_lines os us ++ xs) (unit_lines os vs ++ ys) (sym (lines_after os u us xs) ∙ e ∙ lines_after os v vs ys) in
    let g = same_units os us vs xs ys (rest_are_units os u us hu) (rest_are_units os v vs hv) bad bad' f.1 in
    (ap (λ n. n ∷ us) f.0 ∙ ap (λ l. v ∷ l) g.0, g.1)

-- nothing begins with no line
no_line : (os : Os) → ¬ (BeginsWithUnitLine os [])
no_line Unix (u, h, (rest, e)) = cc
no_line Windows (u, h, (rest, e)) = cc
no_line Wasm (u, h, (rest, e)) = cc

pub one_list_of_lines : (os : Os) (bytes us vs : List ℕ) → AreUnitLines os bytes us → AreUnitLines os bytes vs → us ≡ vs
one_list_of_lines os bytes us vs h k =
    (same_units os us vs [] [] h.units k.units (no_line os) (no_line os) (append-nil (unit_lines os us) ∙ sym h.lines ∙ k.lines ∙ sym (append-nil (unit_lines os vs)))).0

pub one_bad_line : (os : Os) (bytes : List ℕ) (m n : ℕ) → IsFirstBadLine os bytes m → IsFirstBadLine os bytes n → m ≡ n
one_bad_line os bytes m n h k =
    let same = same_units os h.before k.before h.from k.from h.units k.units h.bad k.bad (sym h.joined ∙ k.joined) in
    h.number_is ∙ ap (λ us. length us + 1) same.0 ∙ sym k.number_is

pub no_bad_line : (os : Os) (bytes us : List ℕ) (n : ℕ) → AreUnitLines os bytes us → IsFirstBadLine os bytes n → ⊥
no_bad_line os bytes us n h k =
    let same = same_units os us k.before [] k.from h.units k.units (no_line os) k.bad (append-nil (unit_lines os us) ∙ sym h.lines ∙ k.joined) in
    k.some (sym same.1)

-- the lines of the units that were read, and then one more
pub one_more_line : {U : Type 0} (os : Os) (number : U → ℕ) (bytes : List ℕ) (units : List U) (unit : U) (rest after : List ℕ)
    → bytes ≡ unit_lines os (map number units) ++ rest → rest ≡ unit_line os (number unit) ++ after
    → bytes ≡ unit_lines os (map number (units ++ unit ∷ [])) ++ after
one_more_line os number bytes units unit rest after joined prefix =
    let lines = flat_map-append (unit_line os) (map number units) (number unit ∷ []) in
    let more : unit_lines os (map number (units ++ unit ∷ [])) ≡ unit_lines os (map number units) ++ (unit_line os (number unit) ++ []) =
    ap (unit_lines os) (map-append number units (unit ∷ [])) ∙ lines in
    joined ∙ ap (λ left. unit_lines os (map number units) ++ left) (prefix ∙ ap (λ line. line ++ after) (sym (append-nil (unit_line os (number unit)))))
    ∙ sym (append_assoc (unit_lines os (map number units)) (unit_line os (number unit) ++ []) after) ∙ ap (λ left. left ++ after) (sym more)

-- the numbers of the units that were read, and then of one more
pub one_more_unit : {U : Type 0} (os : Os) (number : U → ℕ) (units : List U) (unit : U)
    → All (IsUnit os) (map number units) → IsUnit os (number unit) → All (IsUnit os) (map number (units ++ unit ∷ []))
one_more_unit os number units unit all one =
    subst (All (IsUnit os)) (sym (map-append number units (unit ∷ []))) (All-push (IsUnit os) (map number units) (number unit) all one)

-- a line has some byte, so what comes after it is shorter
some_line : (os : Os) (u : ℕ) → 0 < length (unit_line os u)
some_line Unix u = omega arith
some_line Windows u = omega arith
some_line Wasm u = omega arith

pub shorter_after : (os : Os) (u : ℕ) (rest after : List ℕ) → rest ≡ unit_line os u ++ after → length after < length rest
shorter_after os u rest after e = omega (arith, ap length e, length-append (unit_line os u) after, some_line os u)
