-- A list repeated once more than n times is the list repeated n times, with itself after that.
use Rattle.std.proofs.Common.{◌≡◌, ℕ, zero, suc, ◌+◌, List, ◌++◌, sym, ap, ◌∙◌, append_assoc, arith}
use Rattle.std.proofs.lemmas.List.{append-nil}
use Rattle.std.specs.List.{repeat}

at_the_end : (n : ℕ) (p : List ℕ) → p ++ repeat n p ≡ repeat n p ++ p
at_the_end zero p = append-nil p
at_the_end (suc n) p = ap (λ r. p ++ r) (at_the_end n p) ∙ sym (append_assoc p (repeat n p) p)

pub once_more : (n : ℕ) (p : List ℕ) → repeat (n + 1) p ≡ repeat n p ++ p
once_more n p = let one : n + 1 ≡ suc n = omega arith in ap (λ m. repeat m p) one ∙ at_the_end n p
