-- Steps, from what is known of their parts.
use Rattle.std.proofs.Common.{◌≡◌, inl, inr, ℕ, ◌+◌, true, false, List, [], ◌∷◌, Option, sym, ap, ◌∙◌}
use Rattle.os_args.specs.Word.{Kind, dashes}
use Rattle.os_args.specs.Reading.{Reading, words_left, without_word, last_option, SkipsDashes, IsReadIn, TakesNext, TakesWhole}

-- after `--` was skipped no other ends the options
pub no_dashes : (before after : Reading) (word : List ℕ) (more : List (List ℕ)) → SkipsDashes before after → words_left after ≡ word ∷ more → after.ended ≡ false → word ≡ dashes → ⊥
no_dashes before after word more (inl h) e f d = let never : true ≡ false = sym (ap (λ (x : Reading). x.ended) h.1) ∙ f in cc
no_dashes before after word more (inr h) e f d = h.0 (record {
  more = more;
  first = ap words_left (sym h.1) ∙ e ∙ ap (λ x. x ∷ more) d;
  not_ended = ap (λ (x : Reading). x.ended) (sym h.1) ∙ f;
})

pub takes_next : (before between : Reading) (word : List ℕ) (more : List (List ℕ)) (kind : Kind) (rest : List ℕ) (last : Option Kind) → before.pending ≡ [] → SkipsDashes before between → words_left between ≡ word ∷ more → IsReadIn between.ended between.numbers word kind rest → last ≡ last_option between.last kind
    → TakesNext before kind (record { given = between.given; index = between.index + 1; pending = rest; ended = between.ended; numbers = between.numbers; last = last })
takes_next before between word more kind rest last none skips next read e = record {
  none_pending = none;
  between = between;
  skips = skips;
  word = word;
  more = more;
  next = next;
  read = read;
  same = ap (λ l. record { given = between.given; index = between.index + 1; pending = rest; ended = between.ended; numbers = between.numbers; last = l }) e;
}

pub takes_whole : (before now : Reading) (word : List ℕ) (more : List (List ℕ)) → now ≡ before → words_left now ≡ word ∷ more → TakesWhole before word (without_word now)
takes_whole before now word more e h = record { more = more; next = ap words_left (sym e) ∙ h; same = ap without_word e }
