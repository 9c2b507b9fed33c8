-- Names as words of fish are read as these names, in each charset that keeps the bytes on which quotes depend.
use Rattle.std.proofs.Common.{◌≡◌, ◌≢◌, ◌⊎◌, ℕ, ◌+◌, ◌*◌, ◌<◌, ◌≤◌, Bool, true, false, ◌||◌, if◌then◌else◌, eqb, ltb, List, [], ◌∷◌, ◌++◌, length, refl, sym, ap, ◌∙◌, subst, arith, append_assoc, append-nil, length-append, inl, inr}
use Rattle.std.specs.List.{AllByRecursion}
use Rattle.std.proofs.lemmas.Bool.{and_parts, cases_Bool, eqb-true, ne_eqb, true≢false}
use Rattle.std.proofs.lemmas.Bool.Decides.{nat_tests}
use Rattle.os_command_line.specs.Charset.{joined, AreCharacters, is_one, is_byte}
use Rattle.os_command_line.specs.Fish.{is_escaped, is_gap, EndsWord, EndsBefore, ReadsWord, IsFishText, fish_byte, fish_bytes, fish_quoted, fish_word}
use Rattle.os_command_line.specs.Fish.ReadsWord.{ends, bare, bare_escaped, opens, closes, escaped, itself}
use Rattle.os_command_line.specs.ShellSteps.{IsCutAtEscaped, ends_high, AreShown as ShownBytes}
use Rattle.os_command_line.specs.ShellWriting.{is_plain, are_plain, is_plain_name}
use Rattle.os_command_line.proofs.lemmas.CharsetCuts.{Parts, split, last, last_joined}
use Rattle.os_command_line.proofs.lemmas.CharsetQuotes.{HasNo, no_character, none_joined, first_is, at_quote}
use Rattle.os_command_line.proofs.lemmas.Lists.{all_joined, no_cons}
use Rattle.os_command_line.proofs.lemmas.ShellOneReading.{or_true, or_false}
use Rattle.os_command_line.proofs.lemmas.ShellRoundTrip.{plain_low}

gap_below : (b : ℕ) → is_gap b ≡ true → b < 0x80
gap_below b e = grind (arith, nat_tests)

ends_are : (after : List ℕ) (cs : List (List ℕ)) → EndsBefore after → AreCharacters after cs → EndsWord cs
ends_are [] cs e r = subst EndsWord (sym (none_joined cs r.are_characters r.is_joined)) tt
ends_are (b ∷ after) cs e r = let f = first_is b after cs (gap_below b e) r in subst EndsWord (sym f.is) e

-- the characters are read as the word, in single quotes or not, up to those of what comes after it
IsRead : Bool → List (List ℕ) → List ℕ → List ℕ → Type 0
IsRead inside cs word after = (rest : List (List ℕ)) × AreCharacters after rest × ReadsWord rest inside cs word

at_characters : (inside : Bool) (cs ds : List (List ℕ)) (word after : List ℕ) → cs ≡ ds → IsRead inside ds word after → IsRead inside cs word after
unfolding IsRead
at_characters inside cs ds word after e r = (r.0, r.1, subst (λ z. ReadsWord r.0 inside z word) (sym e) r.2)

-- bytes that a backslash doesn't escape
abbrev AreShown : List ℕ → Type 0
AreShown done = HasNo 0x27 done × HasNo 0x5C done

-- characters of such bytes
shown_run : (rest first cs : List (List ℕ)) (word : List ℕ) → AllByRecursion (λ c. is_byte 0x27 c ≡ false) first → AllByRecursion (λ c. is_byte 0x5C c ≡ false) first → ReadsWord rest true cs word → ReadsWord rest true (first ++ cs) (joined first ++ word)
shown_run rest [] cs word h k r = r
shown_run rest (c ∷ first) cs word h k r = subst (ReadsWord rest true (c ∷ (first ++ cs))) (sym (append_assoc c (joined first) word)) (itself c (first ++ cs) (joined first ++ word) (neither c h.0 k.0) (shown_run rest first cs word h.1 k.1 r))
  where
    neither : (c : List ℕ) → is_byte 0x27 c ≡ false → is_byte 0x5C c ≡ false → is_one is_escaped c ≡ false
    neither [] h k = refl
    neither (b ∷ []) h k = rw (h, k) refl
    neither (b ∷ x ∷ bytes) h k = refl

after_done : (done b : List ℕ) (k : ℕ) (cs : List (List ℕ)) (word after : List ℕ) → AreShown done → (p : Parts cs done k b) → IsRead true ((k ∷ []) ∷ p.rest) word after → IsRead true cs (done ++ word) after
unfolding IsRead
after_done done b k cs word after h p r =
    let e = p.first_are.is_joined in
    let s = subst AreShown (sym e) h in
    let run = shown_run r.0 p.first ((k ∷ []) ∷ p.rest) word (no_character 0x27 p.first s.0) (no_character 0x5C p.first s.1) r.2 in
    (r.0, r.1, subst (λ z. ReadsWord r.0 true z (done ++ word)) (sym p.parts) (subst (λ z. ReadsWord r.0 true (p.first ++ (k ∷ []) ∷ p.rest) (z ++ word)) e run))

at_once : (high : Bool) (b : ℕ) → is_escaped b ≡ true → high ≡ false → fish_byte high b ≡ 0x5C ∷ b ∷ []
at_once high b e h = rw (e, h) refl

again : (high : Bool) (b : ℕ) → is_escaped b ≡ true → high ≡ true → fish_byte high b ≡ 0x27 ∷ 0x5C ∷ b ∷ 0x27 ∷ []
again high b e h = rw (e, h) refl

as_it_is : (high : Bool) (b : ℕ) → is_escaped b ≡ false → fish_byte high b ≡ b ∷ []
as_it_is high b e = rw e refl

pub escaped_low : (b : ℕ) → is_escaped b ≡ true → b < 0x80
escaped_low b e = grind (arith, nat_tests)

not_high : (b : ℕ) → ltb 0x7F b ≡ false → b < 0x80
not_high b e = grind (arith, nat_tests)

low : (b : ℕ) → b < 0x80 → ltb 0x7F b ≡ false
low b e = grind (arith, nat_tests)

-- in single quotes, after some bytes
inside : (name done after : List ℕ) (cs : List (List ℕ)) → AreShown done → EndsBefore after → AreCharacters (done ++ (fish_bytes (ltb 0x7F (last 0 done)) name ++ 0x27 ∷ after)) cs → IsRead true cs (done ++ name) after
unfolding IsRead
inside [] done after cs h e r =
    let p = at_quote done after cs r in
    after_done done after 0x27 cs [] after h p (p.rest, p.rest_are, closes p.rest [] (ends (ends_are after p.rest e p.rest_are)))
inside (b ∷ name) done after cs h e r = elim (cases_Bool (is_escaped b)) [
  | inl x ↦
      let more = fish_bytes false name ++ 0x27 ∷ after in
      let next : fish_bytes (ltb 0x7F b) name ≡ fish_bytes false name = ap (λ z. fish_bytes z name) (low b (escaped_low b x)) in
      elim (cases_Bool (ltb 0x7F (last 0 done))) [
        | inl f ↦
            let t : done ++ (fish_bytes (ltb 0x7F (last 0 done)) (b ∷ name) ++ 0x27 ∷ after) ≡ done ++ 0x27 ∷ 0x5C ∷ b ∷ 0x27 ∷ more = rw (again (ltb 0x7F (last 0 done)) b x f, next) refl in
            let p = at_quote done (0x5C ∷ b ∷ 0x27 ∷ more) cs (subst (λ z. AreCharacters z cs) t r) in
            let u = first_is 0x5C (b ∷ 0x27 ∷ more) p.rest (omega arith) p.rest_are in
            let v = first_is b (0x27 ∷ more) u.rest (escaped_low b x) u.rest_are in
            let w = first_is 0x27 more v.rest (omega arith) v.rest_are in
            let i = inside name [] after w.rest (tt, tt) e w.rest_are in
            let read = closes ((0x5C ∷ []) ∷ (b ∷ []) ∷ (0x27 ∷ []) ∷ w.rest) (b ∷ name) (bare_escaped (b ∷ []) ((0x27 ∷ []) ∷ w.rest) name x (opens w.rest name i.2)) in
            let whole = u.is ∙ ap (λ z. (0x5C ∷ []) ∷ z) (v.is ∙ ap (λ z. (b ∷ []) ∷ z) w.is) in
            after_done done (0x5C ∷ b ∷ 0x27 ∷ more) 0x27 cs (b ∷ name) after h p (i.0, i.1, subst (λ z. ReadsWord i.0 true ((0x27 ∷ []) ∷ z) (b ∷ name)) (sym whole) read)
        | inr f ↦
            let t : done ++ (fish_bytes (ltb 0x7F (last 0 done)) (b ∷ name) ++ 0x27 ∷ after) ≡ done ++ 0x5C ∷ b ∷ more = rw (at_once (ltb 0x7F (last 0 done)) b x f, next) refl in
            let s = subst (λ z. AreCharacters z cs) t r in
            let p = split cs s.are_characters done 0 0x5C (b ∷ more) s.is_joined (omega arith, inr (not_high (last 0 done) f)) in
            let v = first_is b more p.rest (escaped_low b x) p.rest_are in
            let i = inside name [] after v.rest (tt, tt) e v.rest_are in
            let read = escaped (b ∷ []) v.rest name x i.2 in
            after_done done (b ∷ more) 0x5C cs (b ∷ name) after h p (i.0, i.1, subst (λ z. ReadsWord i.0 true ((0x5C ∷ []) ∷ z) (b ∷ name)) (sym v.is) read)
      ]
  | inr x ↦
      let n = or_false (eqb b 0x27) (eqb b 0x5C) x in
      let ended : last 0 (done ++ b ∷ []) ≡ b = last_joined 0 done (b ∷ []) in
      let t : done ++ (fish_bytes (ltb 0x7F (last 0 done)) (b ∷ name) ++ 0x27 ∷ after) ≡ (done ++ b ∷ []) ++ (fish_bytes (ltb 0x7F (last 0 (done ++ b ∷ []))) name ++ 0x27 ∷ after) =
      rw (as_it_is (ltb 0x7F (last 0 done)) b x, ended) (sym (append_assoc done (b ∷ []) (fish_bytes (ltb 0x7F b) name ++ 0x27 ∷ after))) in
      let shown : AreShown (done ++ b ∷ []) = (all_joined (λ z. eqb z 0x27 ≡ false) done (b ∷ []) h.0 (n.0, tt), all_joined (λ z. eqb z 0x5C ≡ false) done (b ∷ []) h.1 (n.1, tt)) in
      let i = inside name (done ++ b ∷ []) after cs shown e (subst (λ z. AreCharacters z cs) t r) in
      (i.0, i.1, subst (ReadsWord i.0 true cs) (append_assoc done (b ∷ []) name) i.2)
]

quoted_read : (name : List ℕ) → IsFishText (fish_quoted name) name
unfolding IsRead
quoted_read name = (no_cons, read)
  where
    read : (after : List ℕ) (cs : List (List ℕ)) → EndsBefore after → AreCharacters (fish_quoted name ++ after) cs → IsRead false cs name after
    read after cs e r =
        let t : fish_quoted name ++ after ≡ 0x27 ∷ (fish_bytes false name ++ 0x27 ∷ after) = ap (λ z. 0x27 ∷ z) (append_assoc (fish_bytes false name) (0x27 ∷ []) after) in
        let f = first_is 0x27 (fish_bytes false name ++ 0x27 ∷ after) cs (omega arith) (subst (λ z. AreCharacters z cs) t r) in
        let i = inside name [] after f.rest (tt, tt) e f.rest_are in
        at_characters false cs ((0x27 ∷ []) ∷ f.rest) name after f.is (i.0, i.1, opens f.rest name i.2)

bare_read : (name after : List ℕ) (cs : List (List ℕ)) → are_plain name ≡ true → EndsBefore after → AreCharacters (name ++ after) cs → IsRead false cs name after
unfolding IsRead
bare_read [] after cs p e r = (cs, r, ends (ends_are after cs e r))
bare_read (b ∷ bs) after cs p e r =
    let both = and_parts (is_plain b) (are_plain bs) p in
    let f = first_is b (bs ++ after) cs (plain_low b both.0) r in
    let i = bare_read bs after f.rest both.1 e f.rest_are in
    at_characters false cs ((b ∷ []) ∷ f.rest) (b ∷ bs) after f.is (i.0, i.1, bare (b ∷ []) f.rest bs both.0 i.2)

bare_name : (name : List ℕ) → is_plain_name name ≡ true → IsFishText name name
unfolding IsRead
bare_name [] e = absurd (true≢false (sym e))
bare_name (b ∷ bs) e = (no_cons, λ after cs h r. bare_read (b ∷ bs) after cs e h r)

by_name : (b : Bool) (name : List ℕ) → is_plain_name name ≡ b → IsFishText (if b then name else fish_quoted name) name
by_name true name e = bare_name name e
by_name false name e = quoted_read name

pub is_fish_text : (name : List ℕ) → IsFishText (fish_word name) name
is_fish_text name = by_name (is_plain_name name) name refl

-- ---- how it is written

word_by : (b : Bool) (name : List ℕ) → is_plain_name name ≡ b → fish_word name ≡ (if b then name else fish_quoted name)
word_by b name e = ap (λ x. if x then name else fish_quoted name) e

pub bare_word : (name : List ℕ) → is_plain_name name ≡ true → fish_word name ≡ name
bare_word name e = word_by true name e

pub quoted_name : (name : List ℕ) → is_plain_name name ≡ false → fish_word name ≡ fish_quoted name
quoted_name name e = word_by false name e

-- what comes after the first single quote
abbrev pub inner_text : List ℕ → List ℕ
inner_text name = fish_bytes false name ++ 0x27 ∷ []

shown_bytes : (high : Bool) (a b : List ℕ) → ShownBytes a → fish_bytes high (a ++ b) ≡ a ++ fish_bytes (ends_high high a) b
shown_bytes high [] b h = refl
shown_bytes high (x ∷ a) b h = ap (λ z. z ++ fish_bytes (ltb 0x7F x) (a ++ b)) (as_it_is high x h.0) ∙ ap (λ z. x ∷ z) (shown_bytes (ltb 0x7F x) a b h.1)

pub shown_text : (name : List ℕ) → ShownBytes name → inner_text name ≡ name ++ 0x27 ∷ []
shown_text name h = ap (λ z. z ++ 0x27 ∷ []) (ap (fish_bytes false) (sym (append-nil name)) ∙ shown_bytes false name [] h ∙ append-nil name)

pub cut_text : (name prefix after : List ℕ) (b : ℕ) → IsCutAtEscaped name prefix b after → inner_text name ≡ prefix ++ (fish_byte (ends_high false prefix) b ++ inner_text after)
cut_text name prefix after b k =
    let high = ends_high false prefix in
    let next = ap (λ z. fish_byte high b ++ fish_bytes z after) (low b (escaped_low b k.escaped)) in
    ap (λ z. z ++ 0x27 ∷ []) (ap (fish_bytes false) k.joined ∙ shown_bytes false prefix (b ∷ after) k.shown_before ∙ ap (λ z. prefix ++ z) next)
    ∙ append_assoc prefix (fish_byte high b ++ fish_bytes false after) (0x27 ∷ [])
    ∙ ap (λ z. prefix ++ z) (append_assoc (fish_byte high b) (fish_bytes false after) (0x27 ∷ []))

pub cut_shorter : (name prefix after : List ℕ) (b : ℕ) → IsCutAtEscaped name prefix b after → length after < length name
cut_shorter name prefix after b k = omega (arith, ap length k.joined, length-append prefix (b ∷ after))

last_decides : (high : Bool) (xs : List ℕ) (x : ℕ) → ends_high high (xs ++ x ∷ []) ≡ ltb 0x7F x
last_decides high [] x = refl
last_decides high (y ∷ xs) x = last_decides (ltb 0x7F y) xs x

pub last_high : (bytes before : List ℕ) (last : ℕ) → bytes ≡ before ++ last ∷ [] → ends_high false bytes ≡ ltb 0x7F last
last_high bytes before last e = ap (ends_high false) e ∙ last_decides false before last

pub escaped_quote : (high : Bool) (b : ℕ) → b ≡ 0x27 → fish_byte high b ≡ (if high then 0x27 ∷ 0x5C ∷ 0x27 ∷ 0x27 ∷ [] else 0x5C ∷ 0x27 ∷ [])
escaped_quote high b e = ap (fish_byte high) e

pub escaped_backslash : (high : Bool) (b : ℕ) → is_escaped b ≡ true → b ≢ 0x27 → fish_byte high b ≡ (if high then 0x27 ∷ 0x5C ∷ 0x5C ∷ 0x27 ∷ [] else 0x5C ∷ 0x5C ∷ [])
escaped_backslash high b e n = ap (fish_byte high) (is_backslash (or_true (eqb b 0x27) (eqb b 0x5C) e))
  where
    is_backslash : (eqb b 0x27 ≡ true) ⊎ (eqb b 0x5C ≡ true) → b ≡ 0x5C
    is_backslash (inl q) = absurd (n (eqb-true b 0x27 q))
    is_backslash (inr q) = eqb-true b 0x5C q

-- a byte is written in at most four, of which one needs another before it
byte_room : (high : Bool) (b : ℕ) → length (fish_byte high b) + (if ltb 0x7F b then 2 else 0) ≤ 3 + (if high then 2 else 0)
byte_room high b = elim (cases_Bool (is_escaped b)) [
  | inl e ↦ elim (cases_Bool high) [
    | inl h ↦ rw (low b (escaped_low b e), again high b e h, h) (omega arith)
    | inr h ↦ rw (low b (escaped_low b e), at_once high b e h, h) (omega arith)
  ]
  | inr e ↦ rw (as_it_is high b e) (elim (cases_Bool high) [ inl h ↦ rw h (room (ltb 0x7F b) 2) | inr h ↦ rw h (room (ltb 0x7F b) 0) ])
]
  where
    room : (x : Bool) (n : ℕ) → 1 + (if x then 2 else 0) ≤ 3 + n
    room true n = omega arith
    room false n = omega arith

bytes_room : (high : Bool) (name : List ℕ) → length (fish_bytes high name) ≤ 3 * length name + (if high then 2 else 0)
bytes_room high [] = omega arith
bytes_room high (b ∷ bs) = omega (arith, byte_room high b, bytes_room (ltb 0x7F b) bs, length-append (fish_byte high b) (fish_bytes (ltb 0x7F b) bs))

word_room : (b : Bool) (name : List ℕ) → length (if b then name else fish_quoted name) ≤ 3 * length name + 2
word_room true name = omega arith
word_room false name = omega (arith, bytes_room false name, length-append (fish_bytes false name) (0x27 ∷ []))

-- a word is at most this long
pub word_len : (name : List ℕ) → length (fish_word name) ≤ 3 * length name + 2
word_len name = word_room (is_plain_name name) name
