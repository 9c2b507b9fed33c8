-- A wildcard may skip what is before the first letter that fits the piece after it.
use Rattle.std.proofs.Common.{◌≡◌, ◌⊎◌, inl, inr, ◌<◌, ℕ, List, [], ◌∷◌, ◌++◌, length, refl, sym, ap, ◌∙◌, subst, arith, append_assoc, length-append, append-nil}
use Rattle.std.specs.List.{AllByRecursion}
use Rattle.wildcards.specs.declared.piece.Piece.{Piece}
use Rattle.wildcards.specs.declared.piece.Piece.TheVariants.{Many, One}
use Rattle.wildcards.specs.declared.piece.Item.{Item}
use Rattle.wildcards.specs.declared.piece.Item.TheVariants.{Literal}
use Rattle.wildcards.specs.Match.{Fits, TakesLetter}
use Rattle.wildcards.specs.Reading.{LetterLaws}
use Rattle.wildcards.specs.Steps.{StartsWith, IsFromByte, SkipsTo}
use Rattle.wildcards.specs.Wild.{Wild}
use Rattle.wildcards.proofs.lemmas.Fitting.{by_letters, letter_taken}
use Rattle.wildcards.proofs.lemmas.Readings.{no_letters, first_ascii}
use Rattle.wildcards.proofs.lemmas.Wilds.{run_cases, one_place, longer_run, all_taken}

-- none of them is this
abbrev pub HasNone : ℕ → List ℕ → Type 0
HasNone byte s = AllByRecursion (λ b. b ≡ byte → ⊥) s

-- none of these bytes comes before what is left
pub record NotYet (byte : ℕ) (text left : List ℕ) : Type 0 where
  pub before : List ℕ
  pub joined : text ≡ before ++ left
  pub none : HasNone byte before

pub none_yet : (byte : ℕ) (text : List ℕ) → NotYet byte text text
none_yet byte text = record { before = []; joined = refl; none = tt }

one_more : (byte : ℕ) (s : List ℕ) (b : ℕ) → HasNone byte s → (b ≡ byte → ⊥) → HasNone byte (s ++ b ∷ [])
one_more byte [] b h n = (n, tt)
one_more byte (x ∷ s) b h n = (h.0, one_more byte s b h.1 n)

module _ (byte : ℕ) (text left : List ℕ) (so_far : NotYet byte text left) where
  pub not_first : (b : ℕ) (rest : List ℕ) → left ≡ b ∷ rest → (b ≡ byte → ⊥) → NotYet byte text rest
  not_first b rest e n = record {
    before = so_far.before ++ b ∷ [];
    joined = so_far.joined ∙ ap (λ z. so_far.before ++ z) e ∙ sym (append_assoc so_far.before (b ∷ []) rest);
    none = one_more byte so_far.before b so_far.none n;
  }

  pub here : (b : ℕ) (rest : List ℕ) → left ≡ b ∷ rest → b ≡ byte → IsFromByte byte text left
  here b rest e f = record { before = so_far.before; joined = so_far.joined; none = so_far.none; starts = subst (StartsWith byte) (sym e) f }

  pub nowhere : left ≡ [] → IsFromByte byte text left
  nowhere e = record { before = so_far.before; joined = so_far.joined; none = so_far.none; starts = subst (StartsWith byte) (sym e) tt }

none_at : (byte : ℕ) (s t : List ℕ) → HasNone byte (s ++ byte ∷ t) → ⊥
none_at byte [] t h = h.0 refl
none_at byte (x ∷ s) t h = none_at byte s t h.1

module _ (formed : List ℕ → Type 0) (letters : List ℕ → List ℕ) (laws : LetterLaws formed letters) where
  -- what is no byte is no letter
  no_letter : (s : List ℕ) (byte : ℕ) → byte < 0x80 → formed s → HasNone byte s → HasNone byte (letters s)
  no_letter s byte low f h = go [] (letters s) refl
    where
      go : (us vs : List ℕ) → letters s ≡ us ++ vs → HasNone byte vs
      go us [] e = tt
      go us (v ∷ vs) e = (
        λ is.
            let at = laws.found s us vs byte low f (e ∙ ap (λ z. us ++ z ∷ vs) is) in
            none_at byte at.prefix at.suffix (subst (HasNone byte) at.joined h),
        go (us ++ v ∷ []) vs (e ∙ sym (append_assoc us (v ∷ []) vs)),
      )

  module _ {A : Type 0} (byte : ℕ) (more : List (Piece (Item A))) where
    abbrev after : List ℕ → Type 0
    after = Wild TakesLetter Fits (Many ∷ One (Literal byte) ∷ more)

    none_skipped : (front rest : List ℕ) → HasNone byte front → after (front ++ rest) → after rest
    none_skipped [] rest h m = m
    none_skipped (x ∷ front) rest h m = cases (run_cases TakesLetter Fits by_letters (One (Literal byte) ∷ more) x (front ++ rest) m) (none_skipped front rest h.1)
      where
        cases : Wild TakesLetter Fits (One (Literal byte) ∷ more) (x ∷ (front ++ rest)) ⊎ (TakesLetter x × after (front ++ rest)) → (after (front ++ rest) → after rest) → after rest
        cases (inl at) k = absurd (h.0 (sym (one_place TakesLetter Fits by_letters (Literal byte) more x (front ++ rest) at).0))
        cases (inr later) k = k later.1

    module _ (low : byte < 0x80) (text left : List ℕ) (f : formed text) (from : IsFromByte byte text left) where
      skips_front : (front : List ℕ) → HasNone byte front → letters text ≡ front ++ letters left → formed left → SkipsTo formed letters (One (Literal byte) ∷ more) text left
      skips_front front h e g = record {
        alike = (
          λ m. none_skipped front (letters left) h (subst after e m),
          λ m. subst after (sym e) (longer_run TakesLetter Fits by_letters (One (Literal byte) ∷ more) front (letters left) (all_taken TakesLetter (Fits {A = A}) letter_taken front) m),
        );
        formed_left = g;
        no_longer = omega (arith, ap length from.joined, length-append from.before left);
      }

      none_left : left ≡ [] → SkipsTo formed letters (One (Literal byte) ∷ more) text left
      none_left e =
          let all : text ≡ from.before = from.joined ∙ ap (λ z. from.before ++ z) e ∙ append-nil from.before in
          let nothing : letters left ≡ [] = ap letters e ∙ no_letters formed letters laws in
          skips_front (letters text) (no_letter text byte low f (subst (HasNone byte) (sym all) from.none)) (sym (ap (λ z. letters text ++ z) nothing ∙ append-nil (letters text))) (subst formed (sym e) (laws.ascii [] tt).0)

      some_left : (b : ℕ) (rest : List ℕ) → left ≡ b ∷ rest → b ≡ byte → SkipsTo formed letters (One (Literal byte) ∷ more) text left
      some_left b rest e is =
          let joined : text ≡ from.before ++ byte ∷ rest = from.joined ∙ ap (λ z. from.before ++ z) e ∙ ap (λ z. from.before ++ z ∷ rest) is in
          let begins : left ≡ byte ∷ rest = e ∙ ap (λ z. z ∷ rest) is in
          let cut = laws.cut from.before rest byte low (subst formed joined f) in
          let g : formed left = subst formed (sym begins) (laws.from from.before rest byte low (subst formed joined f)) in
          let first = first_ascii formed letters laws left rest byte low begins g in
          skips_front (letters from.before) (no_letter from.before byte low cut.0 from.none) (ap letters joined ∙ cut.1.1 ∙ ap (λ z. letters from.before ++ z) (sym first.1)) g

      skips : (bytes : List ℕ) → left ≡ bytes → StartsWith byte bytes → SkipsTo formed letters (One (Literal byte) ∷ more) text left
      skips [] e is = none_left e
      skips (b ∷ rest) e is = some_left b rest e is

      pub skips_to : SkipsTo formed letters (One (Literal byte) ∷ more) text left
      skips_to = skips left refl from.starts

  pub skips_nothing : {A : Type 0} (ps : List (Piece (Item A))) (text : List ℕ) → formed text → SkipsTo formed letters ps text text
  skips_nothing ps text f = record { alike = (λ m. m, λ m. m); formed_left = f; no_longer = omega arith }
