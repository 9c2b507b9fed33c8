-- A step has one outcome, and leaves one reading.
use Rattle.std.proofs.Common.{◌≡◌, inl, inr, ℕ, ◌+◌, Bool, true, false, List, [], Option, Some, None, Result, Ok, Err, refl, sym, ap, ◌∙◌, subst}
use Rattle.os_args.specs.Word.{Kind, IsValueOf}
use Rattle.os_args.specs.Reading.{Fault, UnexpectedValue, Reading, words_left, having_read, SkipsDashes, IsReadIn, TakesFlag, TakesNext, TakesNone, TakesWhole, DropsValue, TakesWord, TakesPending, LacksValue, TakesValue, TakesOptionalValue, TakesRest}
use Rattle.os_args.proofs.lemmas.OneReading.{heads, tails, one_flag, one_reading}

one_skip : (r a b : Reading) → SkipsDashes r a → SkipsDashes r b → a ≡ b
one_skip r a b (inl h) (inl k) = h.1 ∙ sym k.1
one_skip r a b (inl h) (inr k) = absurd (k.0 h.0)
one_skip r a b (inr h) (inl k) = absurd (h.0 k.0)
one_skip r a b (inr h) (inr k) = h.1 ∙ sym k.1

one_read : (ended numbers : Bool) (s : List ℕ) (kind other : Kind) (rest left : List ℕ) → IsReadIn ended numbers s kind rest → IsReadIn ended numbers s other left → (kind ≡ other) × (rest ≡ left)
one_read true numbers s kind other rest left h k = (h.0 ∙ sym k.0, h.1 ∙ sym k.1)
one_read false numbers s kind other rest left h k = one_reading numbers s kind other rest left h k

flags : (r : Reading) (kind other : Kind) (a b : Reading) → TakesFlag r kind a → TakesFlag r other b → (kind ≡ other) × (a ≡ b)
flags r kind other a b h k =
    let both = one_flag r.pending kind other a.pending b.pending h.flag k.flag in
    (both.0, h.same ∙ ap (λ x. having_read r r.index x a.pending) both.0 ∙ ap (having_read r r.index other) both.1 ∙ sym k.same)

nexts : (r : Reading) (kind other : Kind) (a b : Reading) → TakesNext r kind a → TakesNext r other b → (kind ≡ other) × (a ≡ b)
nexts r kind other a b h k =
    let between : h.between ≡ k.between = one_skip r h.between k.between h.skips k.skips in
    let word : h.word ≡ k.word = heads (sym h.next ∙ ap words_left between ∙ k.next) in
    let read : IsReadIn k.between.ended k.between.numbers k.word kind a.pending =
    subst (λ w. IsReadIn k.between.ended k.between.numbers w kind a.pending) word
    (subst (λ (x : Reading). IsReadIn x.ended x.numbers h.word kind a.pending) between h.read) in
    let both = one_read k.between.ended k.between.numbers k.word kind other a.pending b.pending read k.read in (
      both.0,
      h.same
          ∙ ap (λ (x : Reading). having_read x (x.index + 1) kind a.pending) between
          ∙ ap (λ x. having_read k.between (k.between.index + 1) x a.pending) both.0
          ∙ ap (having_read k.between (k.between.index + 1) other) both.1
          ∙ sym k.same,
    )

-- an outcome without another
flag_drops : (r : Reading) (kind : Kind) (fault : Fault) (a b : Reading) → TakesFlag r kind a → DropsValue r fault b → ⊥
flag_drops r kind fault a b h k = h.no_equals (record { rest = k.value; joined = k.pending })

drops_some : (r : Reading) (fault : Fault) (b : Reading) → r.pending ≡ [] → DropsValue r fault b → ⊥
drops_some r fault b e k = let never = sym e ∙ k.pending in cc

next_none : (r : Reading) (kind : Kind) (a b : Reading) → TakesNext r kind a → TakesNone r b → ⊥
next_none r kind a b h k = let never = sym h.next ∙ ap words_left (one_skip r h.between b h.skips k.skips) ∙ k.none_left in cc

faults : (r : Reading) (fault other : Fault) (a b : Reading) → DropsValue r fault a → DropsValue r other b → (fault ≡ other) × (a ≡ b)
faults r fault other a b h k =
    (h.is_fault ∙ ap (UnexpectedValue r.last) (tails (sym h.pending ∙ k.pending)) ∙ sym k.is_fault, h.same ∙ sym k.same)

pub one_word : (before : Reading) (one other : Result (Option Kind) Fault) (after left : Reading) → TakesWord before one after → TakesWord before other left → (one ≡ other) × (after ≡ left)
one_word r (Ok (Some x)) (Ok (Some y)) a b (inl h) (inl k) = let both = flags r x y a b h k in (ap (λ z. Ok (Some z)) both.0, both.1)
one_word r (Ok (Some x)) (Ok (Some y)) a b (inl h) (inr k) = absurd (h.some k.none_pending)
one_word r (Ok (Some x)) (Ok (Some y)) a b (inr h) (inl k) = absurd (k.some h.none_pending)
one_word r (Ok (Some x)) (Ok (Some y)) a b (inr h) (inr k) = let both = nexts r x y a b h k in (ap (λ z. Ok (Some z)) both.0, both.1)
one_word r (Ok (Some x)) (Ok None) a b (inl h) k = absurd (h.some k.none_pending)
one_word r (Ok (Some x)) (Ok None) a b (inr h) k = absurd (next_none r x a b h k)
one_word r (Ok (Some x)) (Err f) a b (inl h) k = absurd (flag_drops r x f a b h k)
one_word r (Ok (Some x)) (Err f) a b (inr h) k = absurd (drops_some r f b h.none_pending k)
one_word r (Ok None) (Ok (Some y)) a b h (inl k) = absurd (k.some h.none_pending)
one_word r (Ok None) (Ok (Some y)) a b h (inr k) = absurd (next_none r y b a k h)
one_word r (Ok None) (Ok None) a b h k = (refl, one_skip r a b h.skips k.skips)
one_word r (Ok None) (Err f) a b h k = absurd (drops_some r f b h.none_pending k)
one_word r (Err e) (Ok (Some y)) a b h (inl k) = absurd (flag_drops r y e b a k h)
one_word r (Err e) (Ok (Some y)) a b h (inr k) = absurd (drops_some r e a k.none_pending h)
one_word r (Err e) (Ok None) a b h k = absurd (drops_some r e a k.none_pending h)
one_word r (Err e) (Err f) a b h k = let both = faults r e f a b h k in (ap Err both.0, both.1)

-- values
one_value_of : (s value other : List ℕ) → IsValueOf s value → IsValueOf s other → value ≡ other
one_value_of s value other (inl h) (inl k) = tails (sym h ∙ k)
one_value_of s value other (inl h) (inr k) = absurd (k.0 (record { rest = value; joined = h }))
one_value_of s value other (inr h) (inl k) = absurd (h.0 (record { rest = other; joined = k }))
one_value_of s value other (inr h) (inr k) = h.1 ∙ sym k.1

pendings : (r : Reading) (value other : List ℕ) (a b : Reading) → TakesPending r value a → TakesPending r other b → (value ≡ other) × (a ≡ b)
pendings r value other a b h k = (one_value_of r.pending value other h.is_value k.is_value, h.same ∙ sym k.same)

wholes : (r : Reading) (word other : List ℕ) (a b : Reading) → TakesWhole r word a → TakesWhole r other b → (word ≡ other) × (a ≡ b)
wholes r word other a b h k = (heads (sym h.next ∙ k.next), h.same ∙ sym k.same)

whole_lacks : (r : Reading) (word : List ℕ) (fault : Fault) (a b : Reading) → TakesWhole r word a → LacksValue r fault b → ⊥
whole_lacks r word fault a b h k = let never = sym h.next ∙ k.none_left in cc

pub one_value : (before : Reading) (one other : Result (List ℕ) Fault) (after left : Reading) → TakesValue before one after → TakesValue before other left → (one ≡ other) × (after ≡ left)
one_value r (Ok x) (Ok y) a b (inl h) (inl k) = let both = pendings r x y a b h k in (ap Ok both.0, both.1)
one_value r (Ok x) (Ok y) a b (inl h) (inr k) = absurd (h.some k.0)
one_value r (Ok x) (Ok y) a b (inr h) (inl k) = absurd (k.some h.0)
one_value r (Ok x) (Ok y) a b (inr h) (inr k) = let both = wholes r x y a b h.1 k.1 in (ap Ok both.0, both.1)
one_value r (Ok x) (Err f) a b (inl h) k = absurd (h.some k.none_pending)
one_value r (Ok x) (Err f) a b (inr h) k = absurd (whole_lacks r x f a b h.1 k)
one_value r (Err e) (Ok y) a b h (inl k) = absurd (k.some h.none_pending)
one_value r (Err e) (Ok y) a b h (inr k) = absurd (whole_lacks r y e b a k.1 h)
one_value r (Err e) (Err f) a b h k = (ap Err (h.is_fault ∙ sym k.is_fault), h.same ∙ sym k.same)

pub one_optional_value : (before : Reading) (one other : Option (List ℕ)) (after left : Reading) → TakesOptionalValue before one after → TakesOptionalValue before other left → (one ≡ other) × (after ≡ left)
one_optional_value r (Some x) (Some y) a b h k = let both = pendings r x y a b h k in (ap Some both.0, both.1)
one_optional_value r (Some x) None a b h k = absurd (h.some k.0)
one_optional_value r None (Some y) a b h k = absurd (k.some h.0)
one_optional_value r None None a b h k = (refl, h.1 ∙ sym k.1)

pub one_rest : (before : Reading) (one other : Result (List (List ℕ)) Fault) (after left : Reading) → TakesRest before one after → TakesRest before other left → (one ≡ other) × (after ≡ left)
one_rest r (Ok x) (Ok y) a b h k = (ap Ok (h.1.0 ∙ sym k.1.0), h.1.1 ∙ sym k.1.1)
one_rest r (Ok x) (Err f) a b h k = absurd (k.some h.0)
one_rest r (Err e) (Ok y) a b h k = absurd (h.some k.0)
one_rest r (Err e) (Err f) a b h k =
    (ap Err (h.is_fault ∙ ap (UnexpectedValue r.last) (one_value_of r.pending h.value k.value h.is_value k.is_value) ∙ sym k.is_fault), h.same ∙ sym k.same)
