-- What is read of words that are known.
use Rattle.std.proofs.Common.{◌≡◌, ◌≢◌, ◌⊎◌, inl, inr, ℕ, ◌+◌, Bool, true, false, List, [], ◌∷◌, ◌++◌, drop, Option, Some, None, Result, Ok, Err, refl, sym, ap, ◌∙◌, subst, arith}
use Rattle.std.proofs.lemmas.List.{drop-drop}
use Rattle.std.specs.Char.{encode_utf8, IsScalar}
use Rattle.std.specs.Str.{IsUtf8}
use Rattle.wtf8_core.specs.Covered.{StartsWithNoCharacter}
use Rattle.wtf8_core.specs.Occurrence.{IsPrefix, OccursNowhere}
use Rattle.os_args.specs.Word.{Kind, Long, LongBytes, Short, ShortBytes, Value, dash, dashes, equals, StartsWithDigit, StartsWithFraction, StartsAsNegative, IsReadAs, IsNamed}
use Rattle.os_args.specs.Reading.{Fault, UnexpectedValue, MissingValue, Reading, words_left, without_pending, without_word, after_dashes, having_read, IsReadIn, TakesWord, TakesValue, TakesOptionalValue}

-- what the laws of one outcome say
abbrev OneWord : Type 0
OneWord = (before : Reading) (one other : Result (Option Kind) Fault) (after left : Reading) → TakesWord before one after → TakesWord before other left → (one ≡ other) × (after ≡ left)

abbrev OneValue : Type 0
OneValue = (before : Reading) (one other : Result (List ℕ) Fault) (after left : Reading) → TakesValue before one after → TakesValue before other left → (one ≡ other) × (after ≡ left)

abbrev OneOptionalValue : Type 0
OneOptionalValue = (before : Reading) (one other : Option (List ℕ)) (after left : Reading) → TakesOptionalValue before one after → TakesOptionalValue before other left → (one ≡ other) × (after ≡ left)

-- nothing is read of these words, and negative numbers are values or not
abbrev unread : Bool → List (List ℕ) → Reading
unread numbers given = record { given = given; index = 0; pending = []; ended = false; numbers = numbers; last = None }

heads : {A : Type 0} {a b : A} {x y : List A} → a ∷ x ≡ b ∷ y → a ≡ b
heads e = cc

tails : {A : Type 0} {a b : A} {x y : List A} → a ∷ x ≡ b ∷ y → x ≡ y
tails e = cc

nil_back : (a b : List ℕ) → a ++ b ≡ [] → b ≡ []
nil_back [] b e = e
nil_back (x ∷ a) b e = let never = e in cc

some_value : (name value : List ℕ) → name ++ (equals ++ value) ≢ []
some_value name value e = let never = nil_back name (equals ++ value) e in cc

-- how words are read
first : (numbers : Bool) (given : List (List ℕ)) (word : List ℕ) (more : List (List ℕ)) (kind : Kind) (rest : List ℕ) → given ≡ word ∷ more → word ≢ dashes → IsReadAs numbers word kind rest
    → TakesWord (unread numbers given) (Ok (Some kind)) (having_read (unread numbers given) 1 kind rest)
first numbers given word more kind rest e n h = inr (record {
  none_pending = refl;
  between = unread numbers given;
  skips = inr (λ k. n (heads (sym e ∙ k.first)), refl);
  word = word;
  more = more;
  next = e;
  read = h;
  same = refl;
})

no_dashes : (text : List ℕ) → text ≢ [] → dashes ++ text ≢ dashes
no_dashes text n e = n (tails (tails e))

long_read : (name value : List ℕ) (kind : Kind) → IsNamed (name ++ (equals ++ value)) kind (equals ++ value) → IsReadAs false (dashes ++ (name ++ (equals ++ value))) kind (equals ++ value)
long_read name value kind h = inl (record { text = name ++ (equals ++ value); joined = refl; some = some_value name value; named = h })

-- the first two steps, of which each is known
word_and_value : OneWord → OneValue → (r : Reading) (before : Reading) (one : Result (Option Kind) Fault) (between : Reading) (other : Result (List ℕ) Fault) (after : Reading)
    → before ≡ r → TakesWord before one between → TakesValue between other after
    → (word : Result (Option Kind) Fault) (now : Reading) (value : Result (List ℕ) Fault) (left : Reading) → TakesWord r word now → TakesValue now value left
    → (one ≡ word) × (other ≡ value)
word_and_value once again r before one between other after e h k word now value left known then =
    let first_step = once r one word between now (subst (λ x. TakesWord x one between) e h) known in
    let second_step = again now other value after left (subst (λ x. TakesValue x other after) first_step.1 k) then in
    (first_step.0, second_step.0)

module _ (once : OneWord) (again : OneValue) (given : List (List ℕ)) (before : Reading) (one : Result (Option Kind) Fault) (between : Reading) (other : Result (List ℕ) Fault) (after : Reading)
    (new : before ≡ unread false given) (step : TakesWord before one between) (then : TakesValue between other after) where
  long : (name value : List ℕ) (more : List (List ℕ)) (kind : Kind) → IsNamed (name ++ (equals ++ value)) kind (equals ++ value) → given ≡ (dashes ++ (name ++ (equals ++ value))) ∷ more → (one ≡ Ok (Some kind)) × (other ≡ Ok value)
  long name value more kind h e =
      let now = having_read (unread false given) 1 kind (equals ++ value) in
      word_and_value once again (unread false given) before one between other after new step then (Ok (Some kind)) now (Ok value) (without_pending now)
      (first false given (dashes ++ (name ++ (equals ++ value))) more kind (equals ++ value) e (no_dashes (name ++ (equals ++ value)) (some_value name value)) (long_read name value kind h))
      (inl (record { some = λ x. let never = x in cc; is_value = inl refl; same = refl }))

  pub long_text : (name value : List ℕ) (more : List (List ℕ)) → IsUtf8 name → OccursNowhere equals name → given ≡ (dashes ++ (name ++ (equals ++ value))) ∷ more → (one ≡ Ok (Some (Long name))) × (other ≡ Ok value)
  long_text name value more u n e = long name value more (Long name) (u, record { joined = refl; no_equals = n; end = inr (record { rest = value; joined = refl }) }) e

  pub long_no_text : (name value : List ℕ) (more : List (List ℕ)) → ¬ (IsUtf8 name) → OccursNowhere equals name → given ≡ (dashes ++ (name ++ (equals ++ value))) ∷ more → (one ≡ Ok (Some (LongBytes name))) × (other ≡ Ok value)
  long_no_text name value more u n e = long name value more (LongBytes name) (u, record { joined = refl; no_equals = n; end = inr (record { rest = value; joined = refl }) }) e

  pub no_text : (rest word : List ℕ) (more : List (List ℕ)) → rest ≢ [] → StartsWithNoCharacter rest → ¬ (IsPrefix dash rest) → given ≡ (dash ++ rest) ∷ (word ∷ more) → (one ≡ Ok (Some (ShortBytes rest))) × (other ≡ Ok word)
  no_text rest word more some uncovered n e =
      let now = having_read (unread false given) 1 (ShortBytes rest) [] in
      word_and_value once again (unread false given) before one between other after new step then (Ok (Some (ShortBytes rest))) now (Ok word) (without_word now)
      (first false given (dash ++ rest) (word ∷ more) (ShortBytes rest) [] e (λ x. n (record { rest = []; joined = tails x }))
      (inr (inl (record { flags = rest; joined = refl; some = some; one_dash = n; no_number = λ x. let never = x in cc; flag = (refl, (some, (uncovered, refl))) }))))
      (inr (refl, record { more = more; next = ap (drop 1) e; same = refl }))

  pub none : given ≡ [] → (one ≡ Ok None) × (other ≡ Err (MissingValue None))
  none e =
      let now = unread false given in
      word_and_value once again now before one between other after new step then (Ok None) now (Err (MissingValue None)) now
      (record { none_pending = refl; skips = inr (λ k. let never = sym e ∙ k.first in cc, refl); none_left = e })
      (record { none_pending = refl; none_left = e; is_fault = refl; same = refl })

pub short : OneWord → OneOptionalValue → (given : List (List ℕ)) (before : Reading) (one : Result (Option Kind) Fault) (between : Reading) (other : Option (List ℕ)) (after : Reading)
    → before ≡ unread false given → TakesWord before one between → TakesOptionalValue between other after
    → (flag : ℕ) (value : List ℕ) (more : List (List ℕ)) → IsScalar flag → value ≢ [] → ¬ (IsPrefix equals value) → ¬ (IsPrefix dash (encode_utf8 flag ++ value))
    → given ≡ (dash ++ (encode_utf8 flag ++ value)) ∷ more → (one ≡ Ok (Some (Short flag))) × (other ≡ Some value)
short once again given before one between other after new step then flag value more scalar some n m e =
    let now = having_read (unread false given) 1 (Short flag) value in
    let flags = encode_utf8 flag ++ value in
    let known = first false given (dash ++ flags) more (Short flag) value e (λ x. m (record { rest = []; joined = tails x }))
    (inr (inl (record { flags = flags; joined = refl; some = λ x. some (nil_back (encode_utf8 flag) value x); one_dash = m; no_number = λ x. let never = x in cc; flag = (scalar, refl) }))) in
    let first_step = once (unread false given) one (Ok (Some (Short flag))) between now (subst (λ x. TakesWord x one between) new step) known in
    let second_step = again now other (Some value) after (without_pending now) (subst (λ x. TakesOptionalValue x other after) first_step.1 then) (record { some = some; is_value = inr (n, refl); same = refl }) in
    (first_step.0, second_step.0)

pub dashes_first : OneWord → (given : List (List ℕ)) (before : Reading) (one : Result (Option Kind) Fault) (after : Reading) → before ≡ unread false given → TakesWord before one after
    → (word : List ℕ) (more : List (List ℕ)) → given ≡ dashes ∷ (word ∷ more) → one ≡ Ok (Some (Value word))
dashes_first once given before one after new step word more e =
    let between = after_dashes (unread false given) in
    (once (unread false given) one (Ok (Some (Value word))) after (having_read between 2 (Value word) []) (subst (λ x. TakesWord x one after) new step)
    (inr (record {
      none_pending = refl;
      between = between;
      skips = inl (record { more = word ∷ more; first = e; not_ended = refl }, refl);
      word = word;
      more = more;
      next = ap (drop 1) e;
      read = (refl, refl);
      same = refl;
    }))).0

starts_number : (number : List ℕ) → number ≡ dash → StartsWithDigit number ⊎ StartsWithFraction number → ⊥
starts_number number e (inl h) = let same = heads (sym h.joined ∙ e) in let low = h.from in omega arith
starts_number number e (inr h) = let same = heads (sym h.joined ∙ e) in omega arith

pub negative : OneWord → (given : List (List ℕ)) (before : Reading) (one : Result (Option Kind) Fault) (after : Reading) → before ≡ unread true given → TakesWord before one after
    → (word : List ℕ) (more : List (List ℕ)) → StartsAsNegative word → given ≡ word ∷ more → one ≡ Ok (Some (Value word))
negative once given before one after new step word more h e =
    (once (unread true given) one (Ok (Some (Value word))) after (having_read (unread true given) 1 (Value word) []) (subst (λ x. TakesWord x one after) new step)
    (first true given word more (Value word) [] e (λ x. starts_number h.number (tails (sym h.joined ∙ x)) h.starts)
    (inr (inr (record { value = refl; whole = refl; operand = inr (inr (refl, h)) }))))).0

pub dropped : OneWord → (before : Reading) (one : Result (Option Kind) Fault) (after : Reading) → TakesWord before one after
    → (value : List ℕ) → before.pending ≡ equals ++ value → one ≡ Err (UnexpectedValue before.last value)
dropped once before one after step value e =
    (once before one (Err (UnexpectedValue before.last value)) after (without_pending before) step (record { value = value; pending = e; is_fault = refl; same = refl })).0

pub missing : OneWord → OneValue → (r : Reading) (one : Result (Option Kind) Fault) (between : Reading) (other : Result (List ℕ) Fault) (after : Reading) → TakesWord r one between → TakesValue between other after
    → (word : List ℕ) → r.pending ≡ [] → r.ended ≡ false → words_left r ≡ word ∷ [] → ¬ (IsPrefix dash word) → (one ≡ Ok (Some (Value word))) × (other ≡ Err (MissingValue r.last))
missing once again r one between other after step then word none ended next n =
    let now = having_read r (r.index + 1) (Value word) [] in
    let read : IsReadIn r.ended r.numbers word (Value word) [] = subst (λ x. IsReadIn x r.numbers word (Value word) []) (sym ended) (inr (inr (record { value = refl; whole = refl; operand = inr (inl n) }))) in
    word_and_value once again r r one between other after refl step then (Ok (Some (Value word))) now (Err (MissingValue r.last)) now
    (inr (record {
      none_pending = none;
      between = r;
      skips = inr (λ k. n (record { rest = dash; joined = heads (sym next ∙ k.first) }), refl);
      word = word;
      more = [];
      next = next;
      read = read;
      same = refl;
    }))
    (record { none_pending = refl; none_left = sym (drop-drop 1 r.index r.given) ∙ ap (drop 1) next; is_fault = refl; same = refl })
