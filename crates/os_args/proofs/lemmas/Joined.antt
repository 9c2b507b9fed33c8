-- What was taken of the words, joined again, is the words.
use Rattle.std.proofs.Common.{◌≡◌, ◌≢◌, ◌⊎◌, inl, inr, ℕ, ◌+◌, ◌<◌, ◌≤◌, Bool, true, false, List, [], ◌∷◌, ◌++◌, drop, length, Option, Some, None, Ok, Err, refl, sym, ap, ◌∙◌, subst, arith, append_assoc, append-nil, length-append}
use Rattle.std.proofs.Math.Seq.{drop-length}
use Rattle.std.proofs.lemmas.List.{drop-drop}
use Rattle.std.specs.Char.{encode_utf8}
use Rattle.std.specs.List.{flat_map}
use Rattle.os_str_ext.specs.Patterns.{char_has_bytes}
use Rattle.os_args.specs.Word.{Kind, Long, LongBytes, Short, ShortBytes, Value, dashes, equals, IsNamed, IsFlag, IsValueOf}
use Rattle.os_args.specs.Reading.{Fault, UnexpectedValue, Reading, words_left, SkipsDashes, IsReadIn, TakesFlag, TakesNext, TakesNone, TakesWhole, TakesWord, TakesPending, TakesRest}
use Rattle.os_args.specs.Joining.{Mark, Unmarked, Dash, Dashes, Equals, mark_bytes, Piece, Inner, Last, Separator, joined_to, before_words, pieces_joined, piece_texts, with_pending, all_left, weight, Step, Next, TookValue, TookOptionalValue, TookRest, IsStep, AreSteps, kind_text, fault_texts, step_texts, IsJoinedAgain}

-- these texts were taken, and what is left is `left`, of what was there
record Joins (all left ts : List (List ℕ)) : Type 0 where
  pub pieces : List Piece
  pub joined : pieces_joined pieces left ≡ all
  pub texts : piece_texts pieces ≡ ts

-- pieces one after the other
joined_append : (ps qs : List Piece) (left : List (List ℕ)) → pieces_joined (ps ++ qs) left ≡ pieces_joined ps (pieces_joined qs left)
joined_append [] qs left = refl
joined_append (p ∷ ps) qs left = ap (before_words p) (joined_append ps qs left)

texts_append : (ps qs : List Piece) → piece_texts (ps ++ qs) ≡ piece_texts ps ++ piece_texts qs
texts_append [] qs = refl
texts_append (Inner m t ∷ ps) qs = ap (λ x. t ∷ x) (texts_append ps qs)
texts_append (Last m t ∷ ps) qs = ap (λ x. t ∷ x) (texts_append ps qs)
texts_append (Separator ∷ ps) qs = texts_append ps qs

joins_none : (all left : List (List ℕ)) → left ≡ all → Joins all left []
joins_none all left e = record { pieces = []; joined = e; texts = refl }

joins_both : (all between left ts us : List (List ℕ)) → Joins all between ts → Joins between left us → Joins all left (ts ++ us)
joins_both all between left ts us a b = record {
  pieces = a.pieces ++ b.pieces;
  joined = joined_append a.pieces b.pieces left ∙ ap (pieces_joined a.pieces) b.joined ∙ a.joined;
  texts = texts_append a.pieces b.pieces ∙ ap (λ x. x ++ piece_texts b.pieces) a.texts ∙ ap (λ x. ts ++ x) b.texts;
}

-- of the word s a text is taken, and a rest is left, which is less
record TakesOff (s text rest : List ℕ) (words : List (List ℕ)) : Type 0 where
  joins : Joins (s ∷ words) (with_pending rest words) (text ∷ [])
  less : weight (with_pending rest words) < weight (s ∷ words)

taken : (m : Mark) (s t rest : List ℕ) (words : List (List ℕ)) → s ≡ mark_bytes m ++ (t ++ rest) → (rest ≡ []) ⊎ (0 < length (mark_bytes m ++ t)) → TakesOff s t rest words
taken m s t [] words e some = record {
  joins = record { pieces = Last m t ∷ []; joined = ap (λ x. x ∷ words) (ap (λ x. mark_bytes m ++ x) (sym (append-nil t)) ∙ sym e); texts = refl };
  less = omega arith;
}
taken m s t (b ∷ rest) words e (inl none) = let never = none in cc
taken m s t (b ∷ rest) words e (inr some) = record {
  joins = record { pieces = Inner m t ∷ []; joined = ap (λ x. x ∷ words) (append_assoc (mark_bytes m) t (b ∷ rest) ∙ sym e); texts = refl };
  less = omega (arith, some, ap length (e ∙ sym (append_assoc (mark_bytes m) t (b ∷ rest))), length-append (mark_bytes m ++ t) (b ∷ rest));
}

some_pending : (s : List ℕ) (words : List (List ℕ)) → s ≢ [] → with_pending s words ≡ s ∷ words
some_pending [] words n = absurd (n refl)
some_pending (b ∷ s) words n = refl

none_pending : (s : List ℕ) (words : List (List ℕ)) → s ≡ [] → with_pending s words ≡ words
none_pending s words e = ap (λ x. with_pending x words) e

-- all is left of the reading `before`, as a word and those after it
of_pending : (before : Reading) (left texts : List (List ℕ)) → before.pending ≢ [] → Joins (before.pending ∷ words_left before) left texts → Joins (all_left before) left texts
of_pending before left texts some h = subst (λ x. Joins x left texts) (sym (some_pending before.pending (words_left before) some)) h

of_words : (before : Reading) (left texts : List (List ℕ)) → before.pending ≡ [] → Joins (words_left before) left texts → Joins (all_left before) left texts
of_words before left texts none h = subst (λ x. Joins x left texts) (sym (none_pending before.pending (words_left before) none)) h

-- a flag
flag : (m : Mark) (s flags : List ℕ) (kind : Kind) (rest : List ℕ) (words : List (List ℕ)) → s ≡ mark_bytes m ++ flags → IsFlag flags kind rest → TakesOff s (kind_text kind) rest words
flag m s flags (Long n) rest words e h = absurd h
flag m s flags (LongBytes n) rest words e h = absurd h
flag m s flags (Short c) rest words e h = taken m s (encode_utf8 c) rest words (e ∙ ap (λ x. mark_bytes m ++ x) h.1) (inr (omega (arith, length-append (mark_bytes m) (encode_utf8 c), (char_has_bytes c).0 tt)))
flag m s flags (ShortBytes all) rest words e h = taken m s all rest words (e ∙ ap (λ x. mark_bytes m ++ x) (sym h.0 ∙ sym (append-nil all) ∙ ap (λ x. all ++ x) (sym h.1.1.1))) (inl h.1.1.1)
flag m s flags (Value v) rest words e h = absurd h

named : (s text : List ℕ) (kind : Kind) (rest : List ℕ) (words : List (List ℕ)) → s ≡ dashes ++ text → IsNamed text kind rest → TakesOff s (kind_text kind) rest words
named s text (Long n) rest words e h = taken Dashes s n rest words (e ∙ ap (λ x. dashes ++ x) h.1.joined) (inr (omega arith))
named s text (LongBytes n) rest words e h = taken Dashes s n rest words (e ∙ ap (λ x. dashes ++ x) h.1.joined) (inr (omega arith))
named s text (Short c) rest words e h = absurd h
named s text (ShortBytes all) rest words e h = absurd h
named s text (Value v) rest words e h = absurd h

whole : (s : List ℕ) (kind : Kind) (rest : List ℕ) (words : List (List ℕ)) → kind ≡ Value s → rest ≡ [] → TakesOff s (kind_text kind) rest words
whole s kind rest words k e = subst (λ x. TakesOff s (kind_text x) rest words) (sym k) (taken Unmarked s s rest words (sym (append-nil s) ∙ ap (λ x. s ++ x) (sym e)) (inl e))

word_read : (ended numbers : Bool) (s : List ℕ) (kind : Kind) (rest : List ℕ) (words : List (List ℕ)) → IsReadIn ended numbers s kind rest → TakesOff s (kind_text kind) rest words
word_read true numbers s kind rest words h = whole s kind rest words h.0 h.1
word_read false numbers s kind rest words (inl h) = named s h.text kind rest words h.joined h.named
word_read false numbers s kind rest words (inr (inl h)) = flag Dash s h.flags kind rest words h.joined h.flag
word_read false numbers s kind rest words (inr (inr h)) = whole s kind rest words h.value h.whole

-- after so many words and one more
one_more : (n : ℕ) (word : List ℕ) (words more : List (List ℕ)) → drop n words ≡ word ∷ more → drop (n + 1) words ≡ more
one_more n word words more e = sym (drop-drop 1 n words) ∙ ap (drop 1) e

-- `--` is skipped
skipped : (before between : Reading) → SkipsDashes before between → Joins (words_left before) (words_left between) []
skipped before between (inl h) = record {
  pieces = Separator ∷ [];
  joined = ap (λ x. dashes ∷ x) (ap words_left h.1 ∙ one_more before.index dashes before.given h.0.more h.0.first) ∙ sym h.0.first;
  texts = refl;
}
skipped before between (inr h) = joins_none (words_left before) (words_left between) (ap words_left h.1)

-- each step
value_left : (before after : Reading) (value : List ℕ) → before.pending ≢ [] → IsValueOf before.pending value → words_left after ≡ words_left before → after.pending ≡ [] → Joins (all_left before) (all_left after) (value ∷ [])
value_left before after value some (inl e) left none =
    of_pending before (all_left after) (value ∷ []) some
    (subst (λ ws. Joins (before.pending ∷ words_left before) (with_pending after.pending ws) (value ∷ [])) (sym left)
    (taken Equals before.pending value after.pending (words_left before) (e ∙ ap (λ x. equals ++ x) (sym (append-nil value) ∙ ap (λ x. value ++ x) (sym none))) (inl none)).joins)
value_left before after value some (inr h) left none =
    of_pending before (all_left after) (value ∷ []) some
    (subst (λ ws. Joins (before.pending ∷ words_left before) (with_pending after.pending ws) (value ∷ [])) (sym left)
    (taken Unmarked before.pending value after.pending (words_left before) (sym h.1 ∙ sym (append-nil value) ∙ ap (λ x. value ++ x) (sym none)) (inl none)).joins)

pending_taken : (before : Reading) (value : List ℕ) (after : Reading) → TakesPending before value after → Joins (all_left before) (all_left after) (value ∷ [])
pending_taken before value after h = value_left before after value h.some h.is_value (ap words_left h.same) (ap (λ (x : Reading). x.pending) h.same)

word_taken : (before : Reading) (value : List ℕ) (after : Reading) → before.pending ≡ [] → TakesWhole before value after → Joins (all_left before) (all_left after) (value ∷ [])
word_taken before value after none h =
    of_words before (all_left after) (value ∷ []) none
    (record {
      pieces = Last Unmarked value ∷ [];
      joined = ap (λ x. value ∷ x) (none_pending after.pending (words_left after) (ap (λ (x : Reading). x.pending) h.same ∙ none) ∙ ap words_left h.same ∙ one_more before.index value before.given h.more h.next) ∙ sym h.next;
      texts = refl;
    })

same_left : (before after : Reading) → after ≡ before → Joins (all_left before) (all_left after) []
same_left before after e = joins_none (all_left before) (all_left after) (ap all_left e)

flag_taken : (before : Reading) (kind : Kind) (after : Reading) → TakesFlag before kind after → Joins (all_left before) (all_left after) (kind_text kind ∷ [])
flag_taken before kind after h =
    of_pending before (all_left after) (kind_text kind ∷ []) h.some
    (subst (λ ws. Joins (before.pending ∷ words_left before) (with_pending after.pending ws) (kind_text kind ∷ [])) (sym (ap words_left h.same))
    (flag Unmarked before.pending before.pending kind after.pending (words_left before) refl h.flag).joins)

next_taken : (before : Reading) (kind : Kind) (after : Reading) → TakesNext before kind after → Joins (all_left before) (all_left after) (kind_text kind ∷ [])
next_taken before kind after h =
    let left : words_left after ≡ h.more = ap words_left h.same ∙ one_more h.between.index h.word h.between.given h.more h.next in
    let read : Joins (h.word ∷ h.more) (all_left after) (kind_text kind ∷ []) =
    subst (λ ws. Joins (h.word ∷ h.more) (with_pending after.pending ws) (kind_text kind ∷ [])) (sym left) (word_read h.between.ended h.between.numbers h.word kind after.pending h.more h.read).joins in
    of_words before (all_left after) (kind_text kind ∷ []) h.none_pending
    (joins_both (words_left before) (words_left h.between) (all_left after) [] (kind_text kind ∷ [])
    (skipped before h.between h.skips)
    (subst (λ x. Joins x (all_left after) (kind_text kind ∷ [])) (sym h.next) read))

same_pending : (before after : Reading) → SkipsDashes before after → after.pending ≡ before.pending
same_pending before after (inl h) = ap (λ (x : Reading). x.pending) h.1
same_pending before after (inr h) = ap (λ (x : Reading). x.pending) h.1

none_taken : (before after : Reading) → TakesNone before after → Joins (all_left before) (all_left after) []
none_taken before after h =
    of_words before (all_left after) [] h.none_pending
    (subst (λ x. Joins (words_left before) x []) (sym (none_pending after.pending (words_left after) (same_pending before after h.skips ∙ h.none_pending))) (skipped before after h.skips))

-- words as they are
abbrev unmarked_words : List (List ℕ) → List Piece
unmarked_words [] = []
unmarked_words (word ∷ words) = Last Unmarked word ∷ unmarked_words words

unmarked_joined : (words : List (List ℕ)) → pieces_joined (unmarked_words words) [] ≡ words
unmarked_joined [] = refl
unmarked_joined (word ∷ words) = ap (λ x. word ∷ x) (unmarked_joined words)

unmarked_texts : (words : List (List ℕ)) → piece_texts (unmarked_words words) ≡ words
unmarked_texts [] = refl
unmarked_texts (word ∷ words) = ap (λ x. word ∷ x) (unmarked_texts words)

words_taken : (before : Reading) (words : List (List ℕ)) (after : Reading) → TakesRest before (Ok words) after → Joins (all_left before) (all_left after) words
words_taken before words after h =
    of_words before (all_left after) words h.0
    (record {
      pieces = unmarked_words words;
      joined = ap (pieces_joined (unmarked_words words)) (none_pending after.pending (words_left after) (ap (λ (x : Reading). x.pending) h.1.1 ∙ h.0) ∙ ap words_left h.1.1 ∙ drop-length before.given) ∙ unmarked_joined words ∙ h.1.0;
      texts = unmarked_texts words;
    })

fault_left : (before after : Reading) (fault : Fault) (last : Option Kind) (value : List ℕ) → fault ≡ UnexpectedValue last value → Joins (all_left before) (all_left after) (value ∷ []) → Joins (all_left before) (all_left after) (fault_texts fault)
fault_left before after fault last value e h = subst (λ f. Joins (all_left before) (all_left after) (fault_texts f)) (sym e) h

some_equals : (s value : List ℕ) → s ≡ equals ++ value → s ≢ []
some_equals s value e n = let never = sym e ∙ n in cc

one_step : (before : Reading) (step : Step) (after : Reading) → IsStep before step after → Joins (all_left before) (all_left after) (step_texts step)
one_step before (Next (Ok (Some kind))) after (inl h) = flag_taken before kind after h
one_step before (Next (Ok (Some kind))) after (inr h) = next_taken before kind after h
one_step before (Next (Ok None)) after h = none_taken before after h
one_step before (Next (Err fault)) after h =
    fault_left before after fault before.last h.value h.is_fault
    (value_left before after h.value (some_equals before.pending h.value h.pending) (inl h.pending) (ap words_left h.same) (ap (λ (x : Reading). x.pending) h.same))
one_step before (TookValue (Ok value)) after (inl h) = pending_taken before value after h
one_step before (TookValue (Ok value)) after (inr h) = word_taken before value after h.0 h.1
one_step before (TookValue (Err fault)) after h =
    subst (λ f. Joins (all_left before) (all_left after) (fault_texts f)) (sym h.is_fault) (same_left before after h.same)
one_step before (TookOptionalValue (Some value)) after h = pending_taken before value after h
one_step before (TookOptionalValue None) after h = same_left before after h.1
one_step before (TookRest (Ok words)) after h = words_taken before words after h
one_step before (TookRest (Err fault)) after h =
    fault_left before after fault before.last h.value h.is_fault
    (value_left before after h.value h.some h.is_value (ap words_left h.same) (ap (λ (x : Reading). x.pending) h.same))

all_steps : (before : Reading) (steps : List Step) (after : Reading) → AreSteps before steps after → Joins (all_left before) (all_left after) (flat_map step_texts steps)
all_steps before [] after h = same_left before after h
all_steps before (step ∷ steps) after (between, (first, more)) =
    joins_both (all_left before) (all_left between) (all_left after) (step_texts step) (flat_map step_texts steps)
    (one_step before step between first)
    (all_steps between steps after more)

pub nothing_lost : (before : Reading) (steps : List Step) (after : Reading) → AreSteps before steps after → IsJoinedAgain before steps after
nothing_lost before steps after h =
    let j = all_steps before steps after h in
    record { pieces = j.pieces; joined = j.joined; texts = j.texts }

-- no step leaves more
joined_weight : (s : List ℕ) (words : List (List ℕ)) → weight words ≤ weight (joined_to s words)
joined_weight s [] = omega arith
joined_weight s (word ∷ words) = omega (arith, length-append s word)

piece_weight : (piece : Piece) (words : List (List ℕ)) → weight words ≤ weight (before_words piece words)
piece_weight (Inner m t) words = joined_weight (mark_bytes m ++ t) words
piece_weight (Last m t) words = omega arith
piece_weight Separator words = omega arith

pieces_weight : (pieces : List Piece) (words : List (List ℕ)) → weight words ≤ weight (pieces_joined pieces words)
pieces_weight [] words = omega arith
pieces_weight (p ∷ pieces) words = omega (arith, pieces_weight pieces words, piece_weight p (pieces_joined pieces words))

joins_weight : (all left texts : List (List ℕ)) → Joins all left texts → weight left ≤ weight all
joins_weight all left texts h = omega (arith, pieces_weight h.pieces left, ap weight h.joined)

pub never_more : (before : Reading) (step : Step) (after : Reading) → IsStep before step after → weight (all_left after) ≤ weight (all_left before)
never_more before step after h = joins_weight (all_left before) (all_left after) (step_texts step) (one_step before step after h)

-- what is read leaves less
pub less_left : (before : Reading) (kind : Kind) (after : Reading) → TakesWord before (Ok (Some kind)) after → weight (all_left after) < weight (all_left before)
less_left before kind after (inl h) =
    omega (
      arith,
      (flag Unmarked before.pending before.pending kind after.pending (words_left before) refl h.flag).less,
      ap (λ ws. weight (with_pending after.pending ws)) (ap words_left h.same),
      ap weight (some_pending before.pending (words_left before) h.some),
    )
less_left before kind after (inr h) =
    omega (
      arith,
      (word_read h.between.ended h.between.numbers h.word kind after.pending h.more h.read).less,
      ap (λ ws. weight (with_pending after.pending ws)) (ap words_left h.same ∙ one_more h.between.index h.word h.between.given h.more h.next),
      ap weight h.next,
      joins_weight (words_left before) (words_left h.between) [] (skipped before h.between h.skips),
      ap weight (none_pending before.pending (words_left before) h.none_pending),
    )
