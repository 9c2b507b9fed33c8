-- Texts: the backslashes in them, and the items of their characters.
use Rattle.os_quote.proofs.Common.{text_escape, ◌≡◌, ◌≢◌, ⊎_elim, ℕ, zero, suc, ◌+◌, ◌<◌, Bool, true, false, List, [], ◌∷◌, ◌++◌, map, length, take, drop, get_or, refl, sym, ap, ◌∙◌, subst, arith, take-append-drop, length-append, IsScalar, encode_utf8, AllByRecursion, flat_map, IsUtf8, chars, all_scalars, encode_utf8_all, drop_more, take_at, drop_at, IsCharBoundary-from_take, IsUtf8-drop, encode_ascii, chars-append, chars_past_char, encodes-chars, scalars-chars, scalar, scalar_cases, NoneBefore, Passes, is_byte, form_encode, Item, backslash, item_text, item_texts, IsItem, hidden_item, character_item, is_any, HasNoBackslash, IsCutAtFirst, IsUnchanged, AreUnchanged, IsCutAtToken, token_of, item_bytes, flat_map-append, map-append}
use Rattle.std.proofs.lemmas.Bool.{and_parts, cases_eq, cases_Bool, lt-ltb, le-ltb, ne_eqb, eq-eqb, eqb-true}

-- the test of the search for a backslash
abbrev pub IsBackslashAt : List ℕ → ℕ → Type 0
IsBackslashAt t = Passes (is_byte backslash) t

none_from : (t : List ℕ) (n : ℕ) → ((k : ℕ) → k < n → ¬ (is_byte backslash (get_or t k 0) ≡ true)) → HasNoBackslash (take n t)
none_from [] zero h = tt
none_from (x ∷ t) (suc n) h = (λ e. h 0 (omega arith) (eq-eqb x backslash e), none_from t n (λ k lt. h (suc k) (omega arith)))
none_from t n h = tt

-- if it finds one, that is the first
pub first_backslash : (t : List ℕ) (i : ℕ) → NoneBefore (IsBackslashAt t) 0 (length t) i × IsBackslashAt t i → IsCutAtFirst t (take i t) (drop (i + 1) t)
first_backslash t i h = grind (arith, backslash, eqb-true, none_from, take-append-drop, drop_more)

-- what follows a text within a text is one
pub text_after : (x y : List ℕ) → IsUtf8 x → IsUtf8 (x ++ y) → IsUtf8 y
text_after x y u v =
    subst IsUtf8 (drop_at x y (length x) refl) (IsUtf8-drop (x ++ y) (length x) v (IsCharBoundary-from_take (x ++ y) (length x) v (omega (arith, length-append x y)) (subst IsUtf8 (sym (take_at x y (length x) refl)) u)))

-- the items of a text's characters
abbrev pub text_items : (ℕ → Bool) → List ℕ → List Item
text_items shows t = map (character_item shows) (chars t)

-- a character is at most 10_FFFF
pub scalar_below : (c : ℕ) → IsScalar c → c < 0x11_0000
scalar_below c h = ⊎_elim (λ l. omega (arith, l)) (λ p. p.1) (scalar_cases c h)

-- a character that isn't shown is an item, too
hidden_is_item : (shows : ℕ → Bool) (c : ℕ) → IsScalar c → shows c ≡ false → IsItem shows (hidden_item c) × (item_bytes (hidden_item c) ≡ encode_utf8 c)
hidden_is_item shows c h hidden = grind (arith, lt-ltb, form_encode, le-ltb, scalar_below)

module _ (shows : ℕ → Bool) where
  -- a character's item is one of the form's, and means the character
  pub character_is_item : (c : ℕ) → IsScalar c → IsItem shows (character_item shows c) × (item_bytes (character_item shows c) ≡ encode_utf8 c)
  character_is_item c h =
      ⊎_elim
      (λ (e : c ≡ backslash). let P : ℕ → Type 0 = λ x. IsItem shows (character_item shows x) × (item_bytes (character_item shows x) ≡ encode_utf8 x) in subst P (sym e) (tt, sym (encode_ascii backslash (omega arith))))
      (λ (n : c ≢ backslash). rw (ne_eqb c backslash n) (⊎_elim (λ (y : shows c ≡ true). rw y ((h, n), refl)) (λ (y : shows c ≡ false). rw y (hidden_is_item shows c h y)) (cases_Bool (shows c))))
      (cases_eq c backslash)

  characters_are_items : (cs : List ℕ) → all_scalars cs ≡ true → AllByRecursion (IsItem shows) (map (character_item shows) cs) × (flat_map item_bytes (map (character_item shows) cs) ≡ encode_utf8_all cs)
  characters_are_items [] s = (tt, refl)
  characters_are_items (c ∷ cs) s =
      let both = and_parts (scalar c) _ s in
      let i = character_is_item c both.0 in
      let more = characters_are_items cs both.1 in
      ((i.0, more.0), ap (λ x. x ++ flat_map item_bytes (map (character_item shows) cs)) i.1 ∙ ap (λ x. encode_utf8 c ++ x) more.1)

  pub text_is_items : (t : List ℕ) → IsUtf8 t → AllByRecursion (IsItem shows) (text_items shows t) × (flat_map item_bytes (text_items shows t) ≡ t)
  text_is_items t u = let r = characters_are_items (chars t) (scalars-chars t u) in (r.0, r.1 ∙ encodes-chars t u)

-- a text without a backslash is unchanged where each character is shown
prefix_of : (xs ys : List ℕ) → HasNoBackslash (xs ++ ys) → HasNoBackslash xs × HasNoBackslash ys
prefix_of [] ys h = (tt, h)
prefix_of (x ∷ xs) ys h = let more = prefix_of xs ys h.1 in ((h.0, more.0), more.1)

none_is_slash : (cs : List ℕ) → HasNoBackslash (encode_utf8_all cs) → AllByRecursion (IsUnchanged is_any) cs
none_is_slash [] h = tt
none_is_slash (c ∷ cs) h =
    let both = prefix_of (encode_utf8 c) (encode_utf8_all cs) h in
    ((λ e. (subst HasNoBackslash (ap encode_utf8 e ∙ encode_ascii backslash (omega arith)) both.0).0 refl, refl), none_is_slash cs both.1)

pub shown_unchanged : (t : List ℕ) → IsUtf8 t → HasNoBackslash t → AreUnchanged is_any t
shown_unchanged t u h = none_is_slash (chars t) (subst HasNoBackslash (sym (encodes-chars t u)) h)

module _ (shows : ℕ → Bool) where
  -- a text of which each character is unchanged is its own escape
  unchanged_texts : (cs : List ℕ) → AllByRecursion (IsUnchanged shows) cs → item_texts (map (character_item shows) cs) ≡ encode_utf8_all cs
  unchanged_texts [] a = refl
  unchanged_texts (c ∷ cs) a = rw (ne_eqb c backslash a.0.0, a.0.1) (ap (λ x. encode_utf8 c ++ x) (unchanged_texts cs a.1))

  pub unchanged_text : (t : List ℕ) → IsUtf8 t → AreUnchanged shows t → text_escape shows t ≡ t
  unchanged_text t u a = unchanged_texts (chars t) a ∙ encodes-chars t u

  -- a character that isn't is its token
  hidden_token : (c : ℕ) → ¬ (IsUnchanged shows c) → character_item shows c ≡ token_of c
  hidden_token c h =
      ⊎_elim
      (λ (e : c ≡ backslash). subst (λ x. character_item shows x ≡ token_of x) (sym e) refl)
      (λ n. rw (ne_eqb c backslash n) (⊎_elim (λ (y : shows c ≡ true). absurd (h (n, y))) (λ (y : shows c ≡ false). rw y refl) (cases_Bool (shows c))))
      (cases_eq c backslash)

  -- the escape of a text up to its first token, and after that
  pub cut_escape : {t prefix : List ℕ} {c : ℕ} {following : List ℕ} → IsUtf8 t → IsCutAtToken shows t prefix c following
      → text_escape shows t ≡ prefix ++ (item_text (token_of c) ++ text_escape shows following)
  cut_escape {t} {prefix} {c} {following} u k =
      let rest = encode_utf8 c ++ following in
      let text = text_after prefix rest k.prefix_text (subst IsUtf8 k.joined u) in
      ap (text_escape shows) k.joined
      ∙ ap (λ x. item_texts (map (character_item shows) x)) (chars-append prefix rest k.prefix_text ∙ ap (λ x. chars prefix ++ x) (chars_past_char rest following c text refl))
      ∙ ap item_texts (map-append (character_item shows) (chars prefix) (c ∷ chars following))
      ∙ flat_map-append item_text (text_items shows prefix) (map (character_item shows) (c ∷ chars following))
      ∙ ap (λ x. x ++ (item_text (character_item shows c) ++ text_escape shows following)) (unchanged_text prefix k.prefix_text k.unchanged)
      ∙ ap (λ i. prefix ++ (item_text i ++ text_escape shows following)) (hidden_token c k.hidden)
