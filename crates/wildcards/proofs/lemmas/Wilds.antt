-- How matching continues, piece by piece, over letters of any kind.
use Rattle.std.proofs.Common.{◌≡◌, ◌⊎◌, ◌↔◌, inl, inr, ◌≤◌, List, [], ◌∷◌, ◌++◌, length, refl, sym, ap, ◌∙◌, subst, arith, append_assoc, length-append, append-nil}
use Rattle.std.specs.List.{AllByRecursion}
use Rattle.std.proofs.lemmas.List.{same_from_push}
use Rattle.wildcards.specs.declared.piece.Piece.{Piece}
use Rattle.wildcards.specs.declared.piece.Piece.TheVariants.{Many, One}
use Rattle.wildcards.specs.Wild.{Wild}
use Rattle.wildcards.specs.Steps.{GoesOn}

all_append : {A : Type 0} (T : A → Type 0) (xs ys : List A) → AllByRecursion T xs → AllByRecursion T ys → AllByRecursion T (xs ++ ys)
all_append T [] ys h k = k
all_append T (x ∷ xs) ys h k = (h.0, all_append T xs ys h.1 k)

-- what a wildcard takes, and what fits; a piece that fits a letter that the wildcard takes fits no other
module _ {X A : Type 0} (T : A → Type 0) (F : X → A → Type 0) (same : (x : X) (a b : A) → F x a → T a → F x b → T b) where
  pub empty_run : (qs : List (Piece X)) (rest : List A) → Wild T F qs rest → Wild T F (Many ∷ qs) rest
  empty_run qs rest m = record { skipped = []; rest = rest; joined = refl; taken = tt; after = m }

  pub one_place : (x : X) (ps : List (Piece X)) (a : A) (left : List A) → Wild T F (One x ∷ ps) (a ∷ left) → F x a × Wild T F ps left
  one_place x ps a left m =
      let j : a ∷ left ≡ m.letter ∷ m.rest = m.joined in
      let e : m.letter ≡ a = cc in
      let f : m.rest ≡ left = cc in
      (subst (F x) e m.fits, subst (Wild T F ps) f m.after)

  pub no_place : (x : X) (ps : List (Piece X)) → Wild T F (One x ∷ ps) [] → ⊥
  no_place x ps m = let j : [] ≡ m.letter ∷ m.rest = m.joined in cc

  pub longer_run : (ps : List (Piece X)) (front rest : List A) → AllByRecursion T front → Wild T F (Many ∷ ps) rest → Wild T F (Many ∷ ps) (front ++ rest)
  longer_run ps front rest t m = record {
    skipped = front ++ m.skipped;
    rest = m.rest;
    joined = ap (λ z. front ++ z) m.joined ∙ sym (append_assoc front m.skipped m.rest);
    taken = all_append T front m.skipped t m.taken;
    after = m.after;
  }

  pub run_many : (ps : List (Piece X)) (letters : List A) → Wild T F (Many ∷ Many ∷ ps) letters → Wild T F (Many ∷ ps) letters
  run_many ps letters m = subst (Wild T F (Many ∷ ps)) (sym m.joined) (longer_run ps m.skipped m.rest m.taken m.after)

  pub run_one : (x : X) (ps : List (Piece X)) (a : A) (left : List A) → F x a → Wild T F (Many ∷ One x ∷ ps) (a ∷ left) → Wild T F (Many ∷ ps) left
  run_one x ps a left y m = go m.skipped m.taken (m.joined ∙ ap (λ z. m.skipped ++ z) m.after.joined)
    where
      go : (s : List A) → AllByRecursion T s → a ∷ left ≡ s ++ m.after.letter ∷ m.after.rest → Wild T F (Many ∷ ps) left
      go [] t e = let f : m.after.rest ≡ left = cc in empty_run ps left (subst (Wild T F ps) f m.after.after)
      go (b ∷ s) t e =
          let f : left ≡ s ++ m.after.letter ∷ m.after.rest = cc in
          let g : b ≡ a = cc in
          let k : T m.after.letter = same x a m.after.letter y (subst T g t.0) m.after.fits in
          record {
            skipped = s ++ m.after.letter ∷ [];
            rest = m.after.rest;
            joined = f ∙ sym (append_assoc s (m.after.letter ∷ []) m.after.rest);
            taken = all_append T s (m.after.letter ∷ []) t.1 (k, tt);
            after = m.after.after;
          }

  pub run_cases : (qs : List (Piece X)) (a : A) (left : List A) → Wild T F (Many ∷ qs) (a ∷ left) → Wild T F qs (a ∷ left) ⊎ (T a × Wild T F (Many ∷ qs) left)
  run_cases qs a left m = go m.skipped m.taken m.joined
    where
      go : (s : List A) → AllByRecursion T s → a ∷ left ≡ s ++ m.rest → Wild T F qs (a ∷ left) ⊎ (T a × Wild T F (Many ∷ qs) left)
      go [] t e = inl (subst (Wild T F qs) (sym e) m.after)
      go (b ∷ s) t e =
          let f : left ≡ s ++ m.rest = cc in
          let g : b ≡ a = cc in
          inr (subst T g t.0, record { skipped = s; rest = m.rest; joined = f; taken = t.1; after = m.after })

  pub run_at_end : (qs : List (Piece X)) → Wild T F (Many ∷ qs) [] → Wild T F qs []
  run_at_end qs m = go m.skipped m.joined
    where
      go : (s : List A) → [] ≡ s ++ m.rest → Wild T F qs []
      go [] e = subst (Wild T F qs) (sym e) m.after
      go (b ∷ s) e = let never : [] ≡ b ∷ (s ++ m.rest) = e in absurd cc

  -- matching has come from ps and bs to qs and rest, with no wildcard between
  pub record SoFar (ps : List (Piece X)) (bs : List A) (qs : List (Piece X)) (rest : List A) : Type 0 where
    pub alike : Wild T F ps bs ↔ Wild T F qs rest
    pub after : Wild T F (Many ∷ ps) bs → Wild T F (Many ∷ qs) rest
    pub no_more : length qs ≤ length ps

  pub at_first : (ps : List (Piece X)) (bs : List A) → SoFar ps bs ps bs
  at_first ps bs = record { alike = (λ m. m, λ m. m); after = λ m. m; no_more = omega arith }

  module _ (ps : List (Piece X)) (bs : List A) (qs : List (Piece X)) (rest : List A) (so_far : SoFar ps bs qs rest) where
    pub all : qs ≡ [] → rest ≡ [] → Wild T F ps bs
    all e f = so_far.alike.1 (subst (λ t. Wild T F t rest) (sym e) f)

    pub left_over : qs ≡ [] → (rest ≡ [] → ⊥) → Wild T F ps bs → ⊥
    left_over e n m = n (subst (λ t. Wild T F t rest) e (so_far.alike.0 m))

    pub to_many : (more : List (Piece X)) → qs ≡ Many ∷ more → GoesOn T F ps bs more rest
    to_many more e = record {
      enough = λ m. so_far.alike.1 (subst (λ t. Wild T F t rest) (sym e) m);
      needed = λ m. run_many more rest (subst (λ t. Wild T F (Many ∷ t) rest) e (so_far.after m));
      fewer = let k : length (Many ∷ more) ≤ length ps = subst (λ t. length t ≤ length ps) e so_far.no_more in omega arith;
    }

    module _ (x : X) (more : List (Piece X)) (e : qs ≡ One x ∷ more) where
      pub ends : rest ≡ [] → Wild T F ps bs → ⊥
      ends f m = no_place x more (subst (Wild T F (One x ∷ more)) f (subst (λ t. Wild T F t rest) e (so_far.alike.0 m)))

      module _ (a : A) (left : List A) (f : rest ≡ a ∷ left) where
        at_one : SoFar ps bs (One x ∷ more) (a ∷ left)
        at_one = subst (λ r. SoFar ps bs (One x ∷ more) r) f (subst (λ t. SoFar ps bs t rest) e so_far)

        pub differs : (F x a → ⊥) → Wild T F ps bs → ⊥
        differs n m = n (one_place x more a left (at_one.alike.0 m)).0

        pub one_more : F x a → SoFar ps bs more left
        one_more y = record {
          alike = (λ m. (one_place x more a left (at_one.alike.0 m)).1, λ m. at_one.alike.1 (record { letter = a; rest = left; joined = refl; fits = y; after = m }));
          after = λ m. run_one x more a left y (at_one.after m);
          no_more = let h = at_one.no_more in omega arith;
        }

  -- after a wildcard matching has come to a later one, or to a later letter
  pub record After (ps : List (Piece X)) (bs : List A) (qs : List (Piece X)) (rest : List A) : Type 0 where
    pub alike : Wild T F (Many ∷ ps) bs ↔ Wild T F (Many ∷ qs) rest

  pub after_first : (ps : List (Piece X)) (bs : List A) → After ps bs ps bs
  after_first ps bs = record { alike = (λ m. m, λ m. m) }

  module _ (ps : List (Piece X)) (bs : List A) (qs : List (Piece X)) (rest : List A) (so_far : After ps bs qs rest) where
    pub all_after : Wild T F qs rest → Wild T F (Many ∷ ps) bs
    all_after m = so_far.alike.1 (empty_run qs rest m)

    pub skipped_after : (left : List A) → Wild T F (Many ∷ qs) rest ↔ Wild T F (Many ∷ qs) left → After ps bs qs left
    skipped_after left both = record { alike = (λ m. both.0 (so_far.alike.0 m), λ m. so_far.alike.1 (both.1 m)) }

    pub next_many : (more : List (Piece X)) (left : List A) → GoesOn T F qs rest more left → After ps bs more left
    next_many more left g = record { alike = (λ m. g.needed (so_far.alike.0 m), λ m. so_far.alike.1 (empty_run qs rest (g.enough m))) }

    module _ (never : Wild T F qs rest → ⊥) where
      pub none_after : rest ≡ [] → Wild T F (Many ∷ ps) bs → ⊥
      none_after e m = never (subst (Wild T F qs) (sym e) (run_at_end qs (subst (Wild T F (Many ∷ qs)) e (so_far.alike.0 m))))

      module _ (a : A) (left : List A) (e : rest ≡ a ∷ left) where
        later : Wild T F qs (a ∷ left) ⊎ (T a × Wild T F (Many ∷ qs) left) → T a × Wild T F (Many ∷ qs) left
        later (inl m) = absurd (never (subst (Wild T F qs) (sym e) m))
        later (inr m) = m

        pub next_place : T a → After ps bs qs left
        next_place t = record {
          alike = (
            λ m. (later (run_cases qs a left (subst (Wild T F (Many ∷ qs)) e (so_far.alike.0 m)))).1,
            λ m. so_far.alike.1 (subst (Wild T F (Many ∷ qs)) (sym e) (longer_run qs (a ∷ []) left (t, tt) m)),
          );
        }

        pub stopped : (T a → ⊥) → Wild T F (Many ∷ ps) bs → ⊥
        stopped n m = n (later (run_cases qs a left (subst (Wild T F (Many ∷ qs)) e (so_far.alike.0 m)))).0

  -- a part that begins at a wildcard
  pub from_many : (ps : List (Piece X)) (bs : List A) (qs : List (Piece X)) (rest : List A) → GoesOn T F ps bs qs rest → Wild T F ps bs ↔ Wild T F (Many ∷ qs) rest
  from_many ps bs qs rest g = (λ m. g.needed (empty_run ps bs m), g.enough)

-- the last piece fits the last letter, and those before it match the letters before it
module _ {X A : Type 0} (T : A → Type 0) (F : X → A → Type 0) where
  record LastFits (ps : List (Piece X)) (x : X) (letters : List A) : Type 0 where
    before : List A
    last : A
    joined : letters ≡ before ++ last ∷ []
    fits : F x last
    matched : Wild T F ps before

  last_fits : (ps : List (Piece X)) (x : X) (letters : List A) → Wild T F (ps ++ One x ∷ []) letters → LastFits ps x letters
  last_fits [] x letters m = record { before = []; last = m.letter; joined = m.joined ∙ ap (λ z. m.letter ∷ z) m.after; fits = m.fits; matched = refl }
  last_fits (Many ∷ ps) x letters m =
      let h = last_fits ps x m.rest m.after in
      record {
        before = m.skipped ++ h.before;
        last = h.last;
        joined = m.joined ∙ ap (λ z. m.skipped ++ z) h.joined ∙ sym (append_assoc m.skipped h.before (h.last ∷ []));
        fits = h.fits;
        matched = record { skipped = m.skipped; rest = h.before; joined = refl; taken = m.taken; after = h.matched };
      }
  last_fits (One y ∷ ps) x letters m =
      let h = last_fits ps x m.rest m.after in
      record {
        before = m.letter ∷ h.before;
        last = h.last;
        joined = m.joined ∙ ap (λ z. m.letter ∷ z) h.joined;
        fits = h.fits;
        matched = record { letter = m.letter; rest = h.before; joined = refl; fits = m.fits; after = h.matched };
      }

  one_longer : (ps : List (Piece X)) (x : X) (letters : List A) (a : A) → Wild T F ps letters → F x a → Wild T F (ps ++ One x ∷ []) (letters ++ a ∷ [])
  one_longer [] x letters a m f = record { letter = a; rest = []; joined = ap (λ z. z ++ a ∷ []) m; fits = f; after = refl }
  one_longer (Many ∷ ps) x letters a m f =
      record {
        skipped = m.skipped;
        rest = m.rest ++ a ∷ [];
        joined = ap (λ z. z ++ a ∷ []) m.joined ∙ append_assoc m.skipped m.rest (a ∷ []);
        taken = m.taken;
        after = one_longer ps x m.rest a m.after f;
      }
  one_longer (One y ∷ ps) x letters a m f =
      record { letter = m.letter; rest = m.rest ++ a ∷ []; joined = ap (λ z. z ++ a ∷ []) m.joined; fits = m.fits; after = one_longer ps x m.rest a m.after f }

  module _ (ps before : List (Piece X)) (x : X) (e : ps ≡ before ++ One x ∷ []) where
    pub none_last : (letters : List A) → letters ≡ [] → Wild T F ps letters → ⊥
    none_last letters f m =
        let h = last_fits before x letters (subst (λ z. Wild T F z letters) e m) in
        let n : 0 ≡ length (h.before ++ h.last ∷ []) = ap length (sym f ∙ h.joined) in
        absurd (omega (arith, length-append h.before (h.last ∷ [])))

    module _ (letters shorter : List A) (a : A) (f : letters ≡ shorter ++ a ∷ []) where
      pub last_one : Wild T F ps letters → F x a × Wild T F before shorter
      last_one m =
          let h = last_fits before x letters (subst (λ z. Wild T F z letters) e m) in
          let same = same_from_push h.before shorter h.last a (sym h.joined ∙ f) in
          (subst (F x) same.1 h.fits, subst (Wild T F before) same.0 h.matched)

      pub last_alike : F x a → Wild T F ps letters ↔ Wild T F before shorter
      last_alike y = (λ m. (last_one m).1, λ m. subst (λ z. Wild T F z letters) (sym e) (subst (Wild T F (before ++ One x ∷ [])) (sym f) (one_longer before x shorter a m y)))

-- a wildcard at the end takes all that it may take
module _ {X A : Type 0} (T : A → Type 0) (F : X → A → Type 0) (any : (a : A) → T a) where
  pub all_taken : (letters : List A) → AllByRecursion T letters
  all_taken [] = tt
  all_taken (a ∷ letters) = (any a, all_taken letters)

  pub takes_rest : (ps : List (Piece X)) (letters : List A) → ps ≡ [] → Wild T F (Many ∷ ps) letters
  takes_rest ps letters e = record { skipped = letters; rest = []; joined = sym (append-nil letters); taken = all_taken letters; after = subst (λ z. Wild T F z []) (sym e) refl }

-- after the first pieces the others match the rest
module _ {X A : Type 0} (T : A → Type 0) (F : X → A → Type 0) where
  pub record RestMatches (qs : List (Piece X)) (letters : List A) : Type 0 where
    pub before : List A
    pub after : List A
    pub joined : letters ≡ before ++ after
    pub matched : Wild T F qs after

  pub rest_matches : (ps qs : List (Piece X)) (letters : List A) → Wild T F (ps ++ qs) letters → RestMatches qs letters
  rest_matches [] qs letters m = record { before = []; after = letters; joined = refl; matched = m }
  rest_matches (Many ∷ ps) qs letters m =
      let h = rest_matches ps qs m.rest m.after in
      record { before = m.skipped ++ h.before; after = h.after; joined = m.joined ∙ ap (λ z. m.skipped ++ z) h.joined ∙ sym (append_assoc m.skipped h.before h.after); matched = h.matched }
  rest_matches (One x ∷ ps) qs letters m =
      let h = rest_matches ps qs m.rest m.after in
      record { before = m.letter ∷ h.before; after = h.after; joined = m.joined ∙ ap (λ z. m.letter ∷ z) h.joined; matched = h.matched }
