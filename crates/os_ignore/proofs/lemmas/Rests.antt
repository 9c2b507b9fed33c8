-- What is left of a text after what it begins with.
use Rattle.std.proofs.Common.{◌≡◌, ◌↔◌, ◌<◌, ◌||◌, ℕ, Bool, true, false, arith, Option, Some, None, take, drop, nat_eq, length, map, List, [], ◌∷◌, ◌++◌, refl, sym, ap, ◌∙◌, subst}
use Rattle.std.specs.Prelude.{MatchOption}
use Rattle.std.specs.Char.{to_ascii_lowercase}
use Rattle.std.specs.List.{insert}
use denote.Ref.{Bor}
use Rattle.std.proofs.lemmas.Bool.Decides.{nat_tests}
use Rattle.std.proofs.lemmas.List.{same_from_push, length-map}
use Rattle.wildcards.specs.declared.piece.Piece.{Piece}
use Rattle.wildcards.specs.declared.part.Part.{Part}
use Rattle.wildcards.specs.Match.{Matches}
use Rattle.os_ignore.specs.Components.{IsLastComponent}
use Rattle.os_ignore.specs.declared.file.File.{File}
use Rattle.os_ignore.specs.declared.line.Line.{Line}
use Rattle.os_ignore.specs.Matching.{IsTarget, IsAfter, LineMatches, by_slashes, MatchesText}
use Rattle.os_ignore.specs.Verdicts.{IsBelow, NoneMatches, IsLastMatch, FileIsSilent, FileDecides}

pub same_after : (xs ys zs : List ℕ) → xs ++ ys ≡ xs ++ zs → ys ≡ zs
same_after [] ys zs e = e
same_after (x ∷ xs) ys zs e = let f : xs ++ ys ≡ xs ++ zs = cc in same_after xs ys zs f

same_rest : (f g r s : List ℕ) → length f ≡ length g → f ++ r ≡ g ++ s → r ≡ s
same_rest [] [] r s n e = e
same_rest [] (y ∷ g) r s n e = absurd (omega arith)
same_rest (x ∷ f) [] r s n e = absurd (omega arith)
same_rest (x ∷ f) (y ∷ g) r s n e = let t : f ++ r ≡ g ++ s = cc in same_rest f g r s (omega arith) t

-- what comes after a literal is one text
pub one_after : (folds : Bool) (literal text r s : List ℕ) → IsAfter folds literal text r → IsAfter folds literal text s → r ≡ s
one_after false literal text r s h k = same_after literal r s (sym h ∙ k)
one_after true literal text r s h k =
    let f : length h.0 ≡ length literal = sym (length-map h.0 to_ascii_lowercase) ∙ ap length h.2 in
    let g : length k.0 ≡ length literal = sym (length-map k.0 to_ascii_lowercase) ∙ ap length k.2 in
    same_rest h.0 k.0 r s (f ∙ sym g) (sym h.1 ∙ k.1)

-- without regard to case, byte by byte
pub one_byte : (b x : ℕ) (literal text rest : List ℕ) → IsAfter true (b ∷ literal) (x ∷ text) rest → (to_ascii_lowercase x ≡ b) × IsAfter true literal text rest
one_byte b x literal text rest h = go h.0 h.1 h.2
  where
    go : (front : List ℕ) → x ∷ text ≡ front ++ rest → map to_ascii_lowercase front ≡ b ∷ literal → (to_ascii_lowercase x ≡ b) × IsAfter true literal text rest
    go [] e m = let never : [] ≡ b ∷ literal = m in absurd cc
    go (y ∷ front) e m =
        let first : x ≡ y = cc in
        let left : text ≡ front ++ rest = cc in
        let lists : to_ascii_lowercase y ∷ map to_ascii_lowercase front ≡ b ∷ literal = m in
        let byte : to_ascii_lowercase y ≡ b = cc in
        let more : map to_ascii_lowercase front ≡ literal = cc in
        (ap to_ascii_lowercase first ∙ byte, (front, left, more))

pub one_more_byte : (b x : ℕ) (literal text rest : List ℕ) → to_ascii_lowercase x ≡ b → IsAfter true literal text rest → IsAfter true (b ∷ literal) (x ∷ text) rest
one_more_byte b x literal text rest e h = (x ∷ h.0, ap (λ z. x ∷ z) h.1, ap (λ z. z ∷ map to_ascii_lowercase h.0) e ∙ ap (λ z. b ∷ z) h.2)

pub none_after : (b : ℕ) (literal rest : List ℕ) → IsAfter true (b ∷ literal) [] rest → ⊥
none_after b literal rest h = go h.0 h.1 h.2
  where
    go : (front : List ℕ) → [] ≡ front ++ rest → map to_ascii_lowercase front ≡ b ∷ literal → ⊥
    go [] e m = let never : [] ≡ b ∷ literal = m in absurd cc
    go (y ∷ front) e m = let never : [] ≡ y ∷ (front ++ rest) = e in absurd cc

module _ {A : Type 0} where
  pub text_matches : (folds : Bool) (literal : List ℕ) (pattern : List (Piece (Part A))) (text rest : List ℕ) → IsAfter folds literal text rest → Matches by_slashes pattern rest ↔ MatchesText folds literal pattern text
  text_matches folds literal pattern text rest e = (
    λ m. record { rest = rest; joined = e; matches = m },
    λ m. subst (Matches by_slashes pattern) (one_after folds literal text m.rest rest m.joined e) m.matches,
  )

pub not_below : (d p : List ℕ) → (d ≡ [] → ⊥) → ((rest : List ℕ) → p ≡ d ++ 0x2F ∷ rest → ⊥) → (rest : List ℕ) → IsBelow d p rest → ⊥
not_below [] p n h rest b = absurd (n refl)
not_below (x ∷ d) p n h rest b = h rest b

pub is_below : (d p : List ℕ) → (d ≡ [] → ⊥) → (rest : List ℕ) → p ≡ d ++ 0x2F ∷ rest → IsBelow d p rest
is_below [] p n rest e = absurd (n refl)
is_below (x ∷ d) p n rest e = e

pub one_rest : (d p r s : List ℕ) → IsBelow d p r → IsBelow d p s → r ≡ s
one_rest [] p r s b c = sym b ∙ c
one_rest (x ∷ d) p r s b c = let e : 0x2F ∷ r ≡ 0x2F ∷ s = same_after (x ∷ d) (0x2F ∷ r) (0x2F ∷ s) (sym b ∙ c) in cc

pub one_last : (path a b : List ℕ) → IsLastComponent path a → IsLastComponent path b → a ≡ b
one_last path a b k l = (same_from_push k.0 l.0 a b (sym k.1 ∙ l.1)).1

one_target : (anchored : Bool) (path a b : List ℕ) → IsTarget anchored path a → IsTarget anchored path b → a ≡ b
one_target true path a b k l = k ∙ sym l
one_target false path a b k l = one_last path a b k l

pub line_matches : {A : Type 0} (line : Line A) (path target : List ℕ) (is_dir : Bool) → ((line.anchored || line.directories) ≡ true → 0 < length path) → (line.directories ≡ true → is_dir ≡ true) → IsTarget line.anchored path target → MatchesText line.folds line.literal.items line.pattern.items target ↔ LineMatches line path is_dir
line_matches line path target is_dir b d t = (
  λ m. record { below = b; directories = d; target = target; target_is = t; matches = m },
  λ m. subst (MatchesText line.folds line.literal.items line.pattern.items) (one_target line.anchored path m.target target m.target_is t) m.matches,
)

pub not_empty : {X : Type 0} (xs : List X) → nat_eq (length xs) 0 ≡ false → xs ≡ [] → ⊥
not_empty [] e f = let never : true ≡ false = e in cc
not_empty (x ∷ xs) e f = cc

pub empty : {X : Type 0} (xs : List X) → nat_eq (length xs) 0 ≡ true → xs ≡ []
empty [] e = refl
empty (x ∷ xs) e = let never : length (x ∷ xs) ≡ 0 = grind (arith, nat_tests) in absurd (omega arith)

pub take_front : {X : Type 0} (front back : List X) → take (length front) (front ++ back) ≡ front
take_front [] back = refl
take_front (x ∷ front) back = ap (λ z. x ∷ z) (take_front front back)

pub drop_front : {X : Type 0} (front back : List X) → drop (length front) (front ++ back) ≡ back
drop_front [] back = refl
drop_front (x ∷ front) back = drop_front front back

pub silent : {A : Type 0} (path : List ℕ) (is_dir : Bool) (file : File A) (rest : List ℕ) → IsBelow file.directory.items path rest → NoneMatches rest is_dir file.lines.items → FileIsSilent path is_dir file
silent path is_dir file rest b n = λ other c. subst (λ z. NoneMatches z is_dir file.lines.items) (one_rest file.directory.items path rest other b c) n

module _ {A : Type 0} (path : List ℕ) (is_dir : Bool) (file : File A) (rest : List ℕ) (below : IsBelow file.directory.items path rest) where
  pub decided : (lines : List (Line A)) → lines ≡ file.lines.items → (o : Option (Bor (Line A))) → MatchOption o (NoneMatches rest is_dir lines) (λ line. IsLastMatch rest is_dir lines line.now) → MatchOption o (FileIsSilent path is_dir file) (λ line. FileDecides path is_dir file line.now)
  decided lines e None h = silent path is_dir file rest below (subst (NoneMatches rest is_dir) e h)
  decided lines e (Some line) h = record { rest = rest; below = below; last = subst (λ z. IsLastMatch rest is_dir z line.now) e h }

pub nil_parts : {X : Type 0} (xs ys : List X) (x : X) → [] ≡ xs ++ ys → xs ++ x ∷ ys ≡ x ∷ []
nil_parts [] [] x e = refl
nil_parts [] (y ∷ ys) x e = let never : [] ≡ y ∷ ys = e in absurd cc
nil_parts (z ∷ xs) ys x e = let never : [] ≡ z ∷ (xs ++ ys) = e in absurd cc

pub inserted : {X : Type 0} (all front back : List X) (x : X) → all ≡ front ++ back → insert all (length front) x ≡ front ++ x ∷ back
inserted all front back x e =
    ap (λ z. take (length front) z ++ x ∷ drop (length front) z) e
    ∙ ap (λ z. z ++ x ∷ drop (length front) (front ++ back)) (take_front front back)
    ∙ ap (λ z. front ++ x ∷ z) (drop_front front back)
