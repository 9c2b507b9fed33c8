-- What is read of a word of a command line, and where its bytes are.
use Rattle.std.proofs.Common.{◌≡◌, ◌≢◌, inl, inr, ℕ, ◌+◌, Bool, List, [], ◌∷◌, ◌++◌, length, take, drop, Some, None, Ok, Err, refl, sym, ap, ◌∙◌, subst, append-nil, append_assoc, length-append, arith}
use Rattle.std.proofs.Math.Seq.{take-append_seam, drop-append_seam}
use Rattle.os_args.specs.Word.{Kind, Long, LongBytes, Short, ShortBytes, Value, dash, dashes, IsNamed, IsFlag, IsReadAs}
use Rattle.os_args.specs.Reading.{Fault, Reading, words_left, SkipsDashes, IsReadIn, TakesWord}
use Rattle.osbytes_c.specs.declared.options.OptionSpan.{OptionSpan}
use Rattle.osbytes_c.specs.Options.{IsOptionIn, kind_number, marks_of, text_of, unread, value_of}

-- a text and what is left after it
pub flag_joined : (flags : List ℕ) (kind : Kind) (rest : List ℕ) → IsFlag flags kind rest → flags ≡ text_of kind ++ rest
flag_joined flags (Long name) rest h = absurd h
flag_joined flags (LongBytes name) rest h = absurd h
flag_joined flags (Short c) rest h = h.1
flag_joined flags (ShortBytes all) rest h = sym (append-nil flags) ∙ ap (λ z. flags ++ z) (sym h.1.1.1) ∙ ap (λ z. z ++ rest) (sym h.0)
flag_joined flags (Value value) rest h = absurd h

named_joined : (s : List ℕ) (kind : Kind) (rest : List ℕ) → IsNamed s kind rest → (s ≡ text_of kind ++ rest) × (marks_of kind ≡ 2)
named_joined s (Long name) rest h = (h.1.joined, refl)
named_joined s (LongBytes name) rest h = (h.1.joined, refl)
named_joined s (Short c) rest h = absurd h
named_joined s (ShortBytes all) rest h = absurd h
named_joined s (Value value) rest h = absurd h

flag_marks : (flags : List ℕ) (kind : Kind) (rest : List ℕ) → IsFlag flags kind rest → marks_of kind ≡ 1
flag_marks flags (Long name) rest h = absurd h
flag_marks flags (LongBytes name) rest h = absurd h
flag_marks flags (Short c) rest h = refl
flag_marks flags (ShortBytes all) rest h = refl
flag_marks flags (Value value) rest h = absurd h

-- a word is its marks, a text and what is left
pub record IsMarked (word : List ℕ) (kind : Kind) (rest : List ℕ) : Type 0 where
  pub marks : List ℕ
  pub joined : word ≡ marks ++ (text_of kind ++ rest)
  pub many : marks_of kind ≡ length marks

pub word_joined : (numbers : Bool) (s : List ℕ) (kind : Kind) (rest : List ℕ) → IsReadAs numbers s kind rest → IsMarked s kind rest
word_joined numbers s kind rest (inl h) =
    let n = named_joined h.text kind rest h.named in
    record { marks = dashes; joined = h.joined ∙ ap (λ z. dashes ++ z) n.0; many = n.1 }
word_joined numbers s kind rest (inr (inl h)) = record {
  marks = dash;
  joined = h.joined ∙ ap (λ z. dash ++ z) (flag_joined h.flags kind rest h.flag);
  many = flag_marks h.flags kind rest h.flag;
}
word_joined numbers s kind rest (inr (inr h)) = record {
  marks = [];
  joined = sym (append-nil s) ∙ ap (λ z. s ++ z) (sym h.whole) ∙ ap (λ k. text_of k ++ rest) (sym h.value);
  many = ap marks_of h.value;
}

-- what is read, where it is
module _ (Reads : Kind → List ℕ → Type 0) (word marks : List ℕ) (kind : Kind) (rest : List ℕ) (span : OptionSpan) (reads : Reads kind rest) (joined : word ≡ marks ++ (text_of kind ++ rest)) where
  module _ (number : span.kind ≡ kind_number kind) (value : span.value ≡ value_of kind) (start : span.start ≡ length marks) (end : span.end ≡ span.start + length (text_of kind)) where
    both : word ≡ (marks ++ text_of kind) ++ rest
    both = joined ∙ sym (append_assoc marks (text_of kind) rest)

    upto : span.end ≡ length (marks ++ text_of kind)
    upto = end ∙ ap (λ k. k + length (text_of kind)) start ∙ sym (length-append marks (text_of kind))

    pub option_in : IsOptionIn Reads word span
    option_in = record {
      kind = kind;
      reads = subst (Reads kind) (sym (ap (λ k. drop k word) upto ∙ ap (drop (length (marks ++ text_of kind))) both ∙ drop-append_seam (marks ++ text_of kind) rest)) reads;
      number = number;
      value = value;
      text = ap (λ k. drop span.start (take k word)) upto ∙ ap (λ z. drop span.start (take (length (marks ++ text_of kind)) z)) both ∙ ap (drop span.start) (take-append_seam (marks ++ text_of kind) rest) ∙ ap (λ k. drop k (marks ++ text_of kind)) start ∙ drop-append_seam marks (text_of kind);
      ordered = omega (arith, end);
      within = omega (arith, upto, ap length both, length-append (marks ++ text_of kind) rest);
    }

-- the first step over one word
module _ (numbers : Bool) (word : List ℕ) (other : word ≢ dashes) where
  same_word : (more : List (List ℕ)) → word ∷ [] ≡ dashes ∷ more → ⊥
  same_word more e = other cc

  pub one_word : (kind : Kind) (after : Reading) → TakesWord (unread numbers (word ∷ [])) (Ok (Some kind)) after → IsReadAs numbers word kind after.pending
  one_word kind after (inl h) = absurd (h.some refl)
  one_word kind after (inr h) = cases h.skips
    where
      cases : SkipsDashes (unread numbers (word ∷ [])) h.between → IsReadAs numbers word kind after.pending
      cases (inl s) = absurd (same_word s.0.more s.0.first)
      cases (inr s) =
          let next : word ∷ [] ≡ h.word ∷ h.more = sym (ap words_left s.1) ∙ h.next in
          let is : h.word ≡ word = cc in
          let read : IsReadIn h.between.ended h.between.numbers word kind after.pending = subst (λ w. IsReadIn h.between.ended h.between.numbers w kind after.pending) is h.read in
          subst (λ (r : Reading). IsReadIn r.ended r.numbers word kind after.pending) s.1 read

  pub some_word : (after : Reading) → TakesWord (unread numbers (word ∷ [])) (Ok None) after → ⊥
  some_word after h = cases h.skips
    where
      cases : SkipsDashes (unread numbers (word ∷ [])) after → ⊥
      cases (inl s) = same_word s.0.more s.0.first
      cases (inr s) = let never : word ∷ [] ≡ [] = sym (ap words_left s.1) ∙ h.none_left in cc

  pub no_value : (fault : Fault) (after : Reading) → TakesWord (unread numbers (word ∷ [])) (Err fault) after → ⊥
  no_value fault after h = let never = h.pending in cc
