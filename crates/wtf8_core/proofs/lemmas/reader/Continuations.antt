-- Where the continuations of a lead stop, and what the reader makes of them.
use Rattle.wtf8_core.proofs.Common.{◌≡◌, ⊎_elim, ℕ, zero, suc, ◌+◌, ◌*◌, ◌%◌, ◌<◌, Bool, List, [], ◌∷◌, ◌++◌, length, refl, ap, ◌∙◌, arith, AllByRecursion, fold, IsContinuation, split_within}
use Rattle.wtf8_core.proofs.lemmas.{forms.Ranges.range_cases, reader.Reading.within-more}

-- why n continuations stop: they are all there, the bytes end, or a byte is none
pub data Stops (n : ℕ) : List ℕ → List ℕ → Type 0 where
  whole : {ks rest : List ℕ} → length ks ≡ n → Stops n ks rest
  ends : {ks : List ℕ} → length ks < n → Stops n ks []
  breaks : {ks : List ℕ} (x : ℕ) (rest : List ℕ) → length ks < n → (IsContinuation x → ⊥) → Stops n ks (x ∷ rest)

-- the continuations at the start, at most n
pub record Split (n : ℕ) (bs : List ℕ) : Type 0 where
  pub after : List ℕ
  pub rest : List ℕ
  pub is : bs ≡ after ++ rest
  pub continued : AllByRecursion IsContinuation after
  pub stops : Stops n after rest

one_more : (n x : ℕ) (ks rest : List ℕ) → Stops n ks rest → Stops (suc n) (x ∷ ks) rest
one_more n x ks rest (whole e) = whole (ap suc e)
one_more n x ks rest (ends h) = ends (omega arith)
one_more n x ks rest (breaks y t h k) = breaks y t (omega arith) k

pub split : (n : ℕ) (bs : List ℕ) → Split n bs
split zero bs = record { after = []; rest = bs; is = refl; continued = tt; stops = whole refl }
split (suc n) [] = record { after = []; rest = []; is = refl; continued = tt; stops = ends (omega arith) }
split (suc n) (x ∷ bs) =
    let s = split n bs in
    ⊎_elim (λ c. record { after = x ∷ s.after; rest = s.rest; is = ap (λ l. x ∷ l) s.is; continued = (c, s.continued); stops = one_more n x s.after s.rest s.stops })
    (λ k. record { after = []; rest = x ∷ bs; is = refl; continued = tt; stops = breaks x bs (omega arith) k })
    (range_cases 0x80 0xBF x)

-- six more bits
abbrev pub Join : ℕ → ℕ → ℕ
Join value x = value * 0x40 + x % 0x40

-- continuations are read one after the other
pub within_all : (h : Bool) (n m k v : ℕ) (ks rest : List ℕ) → AllByRecursion IsContinuation ks → k ≡ length ks + m → split_within h n k v (ks ++ rest) ≡ split_within h n m (fold Join v ks) rest
within_all h n m k v [] rest a e = ap (λ j. split_within h n j v rest) (omega arith)
within_all h n m k v (x ∷ ks) rest a e =
    let one : k ≡ suc (length ks + m) = omega arith in
    ap (λ j. split_within h n j v (x ∷ ks ++ rest)) one ∙ within-more h n (length ks + m) v x (ks ++ rest) a.0 ∙ within_all h n m (length ks + m) (Join v x) ks rest a.1 refl
