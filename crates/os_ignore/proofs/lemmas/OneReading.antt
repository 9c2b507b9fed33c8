-- A text is read in one way: its letters, its classes, its pieces and its parts.
use Rattle.std.proofs.Common.{◌≡◌, ℕ, nat_eq, Bool, true, false, nat_le, ◌&&◌, length, Option, Some, None, List, [], ◌∷◌, ◌++◌, suc, refl, sym, ap, ◌∙◌, subst}
use Rattle.std.specs.Prelude.{IsTrue}
use Rattle.std.specs.List.{AllZip}
use Rattle.wildcards.specs.declared.class.Class.{Class}
use Rattle.wildcards.specs.declared.part.Part.{Part}
use Rattle.wildcards.specs.declared.piece.Item.{Item}
use Rattle.wildcards.specs.declared.piece.Item.TheVariants as item
use Rattle.wildcards.specs.declared.piece.Piece.{Piece}
use Rattle.wildcards.specs.declared.piece.Piece.TheVariants.{Many, One}
use Rattle.wildcards.specs.Classes.{permitted}
use Rattle.wildcards.specs.Match.{TakesLetter, TakesComponent, Fits, FitsComponent, Matches}
use Rattle.wildcards.specs.Wild.{Wild}
use Rattle.os_ignore.specs.declared.letter.Letter.{Letter}
use Rattle.os_ignore.specs.declared.letter.Kind.{Kind}
use Rattle.os_ignore.specs.declared.letter.Kind.TheVariants.{Slash, Star, Question, Bracket, Literal}
use Rattle.os_ignore.specs.declared.class.Member.{Member}
use Rattle.os_ignore.specs.declared.class_text.Before.{Before}
use Rattle.os_ignore.specs.declared.class_text.Before.TheVariants.{First}
use Rattle.os_ignore.specs.declared.pattern.After.{After}
use Rattle.os_ignore.specs.declared.pattern.After.TheVariants as after
use Rattle.os_ignore.specs.Class.{permits}
use Rattle.os_ignore.specs.ClassText.{IsMember, IsClass, IsBrokenClass, broken, closed, member, member_at, negation}
use Rattle.os_ignore.specs.Letters.{BeginsWith, IsLetter, AreLetters, IsDangling, kind_of}
use Rattle.os_ignore.specs.Matching.{by_slashes}
use Rattle.os_ignore.specs.PatternText.{IsLiteral, PieceAt, IsPiece, EndsPart, NextGroup, IsPattern, IsBrokenHere, IsBrokenPart, IsBrokenPattern, is_deep, all_stars, is_joined, left_after, text_of}
use Rattle.wildcards.specs.Groups.{group}
use Rattle.wildcards.specs.Items.{Reads, concat_of}

-- what is read item by item, up to where no item begins
module _ {S O : Type 0} (Item : S → O → S → Type 0) where
  abbrev pub Stops : S → Type 0
  Stops s = (o : O) (e : S) → Item s o e → ⊥

  pub same_items : (Same : O → O → Type 0) → ((s : S) (o p : O) (e f : S) → Item s o e → Item s p f → (e ≡ f) × Same o p) → (s : S) (os ps : List O) (e f : S) → Reads Item s os e → Reads Item s ps f → Stops e → Stops f → (e ≡ f) × AllZip Same os ps
  same_items Same one s [] [] e f r q a b = (sym r ∙ q, tt)
  same_items Same one s [] (p ∷ ps) e f r q a b = absurd (a p q.0 (subst (λ z. Item z p q.0) r q.1))
  same_items Same one s (o ∷ os) [] e f r q a b = absurd (b o r.0 (subst (λ z. Item z o r.0) q r.1))
  same_items Same one s (o ∷ os) (p ∷ ps) e f r q a b =
      let h = one s o p r.0 q.0 r.1 q.1 in
      let rest = same_items Same one r.0 os ps e f r.2 (subst (λ z. Reads Item z ps f) (sym h.0) q.2) a b in
      (rest.0, (h.1, rest.1))

pub zip_equal : {X : Type 0} (xs ys : List X) → AllZip (λ x y. x ≡ y) xs ys → xs ≡ ys
zip_equal [] [] z = refl
zip_equal [] (y ∷ ys) z = absurd z
zip_equal (x ∷ xs) [] z = absurd z
zip_equal (x ∷ xs) (y ∷ ys) z = ap (λ w. w ∷ xs) z.0 ∙ ap (λ w. y ∷ w) (zip_equal xs ys z.1)

module _ {X : Type 0} (R : X → X → Type 0) where
  zip_append : (xs ys us vs : List X) → AllZip R xs ys → AllZip R us vs → AllZip R (xs ++ us) (ys ++ vs)
  zip_append [] [] us vs z w = w
  zip_append [] (y ∷ ys) us vs z w = absurd z
  zip_append (x ∷ xs) [] us vs z w = absurd z
  zip_append (x ∷ xs) (y ∷ ys) us vs z w = (z.0, zip_append xs ys us vs z.1 w)

  pub zip_concat : (xss yss : List (List X)) → AllZip (AllZip R) xss yss → AllZip R (concat_of xss) (concat_of yss)
  zip_concat [] [] z = tt
  zip_concat [] (ys ∷ yss) z = absurd z
  zip_concat (xs ∷ xss) [] z = absurd z
  zip_concat (xs ∷ xss) (ys ∷ yss) z = zip_append xs ys (concat_of xss) (concat_of yss) z.0 (zip_concat xss yss z.1)

-- letters
abbrev letter : Bool → ℕ → Letter
letter quoted byte = record { byte = byte; quoted = quoted }

one_letter : (text : List ℕ) (l m : Letter) (r q : List ℕ) → IsLetter text l r → IsLetter text m q → (r ≡ q) × (l ≡ m)
one_letter text l m r q h k = go l.quoted m.quoted l.byte m.byte h k
  where
    escape : (b c : ℕ) (r q : List ℕ) → 0x5C ∷ b ∷ r ≡ c ∷ q → nat_eq c 0x5C ≡ false → ⊥
    escape b c r q e n = let s : 0x5C ≡ c = cc in let never : true ≡ false = ap (λ z. nat_eq z 0x5C) s ∙ n in absurd cc

    go : (x y : Bool) (b c : ℕ) → BeginsWith x text b r → BeginsWith y text c q → (r ≡ q) × (letter x b ≡ letter y c)
    go true true b c h k =
        let e : 0x5C ∷ b ∷ r ≡ 0x5C ∷ c ∷ q = sym h ∙ k in
        let f : b ∷ r ≡ c ∷ q = cc in
        let g : b ≡ c = cc in
        let rest : r ≡ q = cc in
        (rest, ap (letter true) g)
    go false false b c h k =
        let e : b ∷ r ≡ c ∷ q = sym h.0 ∙ k.0 in
        let g : b ≡ c = cc in
        let rest : r ≡ q = cc in
        (rest, ap (letter false) g)
    go true false b c h k = absurd (escape b c r q (sym h ∙ k.0) k.1)
    go false true b c h k = absurd (escape c b q r (sym k ∙ h.0) h.1)

end_stops : Stops IsLetter []
end_stops l e h = go l.quoted h
  where
    go : (x : Bool) → BeginsWith x [] l.byte e → ⊥
    go true h = let never : [] ≡ 0x5C ∷ l.byte ∷ e = h in absurd cc
    go false h = let never : [] ≡ l.byte ∷ e = h.0 in absurd cc

backslash_stops : Stops IsLetter (0x5C ∷ [])
backslash_stops l e h = go l.quoted h
  where
    go : (x : Bool) → BeginsWith x (0x5C ∷ []) l.byte e → ⊥
    go true h = let k : 0x5C ∷ [] ≡ 0x5C ∷ l.byte ∷ e = h in let never : [] ≡ l.byte ∷ e = cc in absurd cc
    go false h = let k : 0x5C ∷ [] ≡ l.byte ∷ e = h.0 in let s : 0x5C ≡ l.byte = cc in let never : true ≡ false = ap (λ z. nat_eq z 0x5C) s ∙ h.1 in absurd cc

pub same_letters : (text : List ℕ) (ls ms : List Letter) → AreLetters text ls → AreLetters text ms → ls ≡ ms
same_letters text ls ms r q = zip_equal ls ms (same_items IsLetter (λ l m. l ≡ m) one_letter text ls ms [] [] r q end_stops end_stops).1

pub not_dangling : (text : List ℕ) (ls : List Letter) → AreLetters text ls → IsDangling text → ⊥
not_dangling text ls r d =
    absurd (never (same_items IsLetter (λ l m. l ≡ m) one_letter text ls d.0 [] (0x5C ∷ []) r d.1 end_stops backslash_stops).0)
  where
    never : ◌≡◌ {A = List ℕ} [] (0x5C ∷ []) → ⊥
    never e = absurd cc

-- classes
one_member : (s : Before × List Letter) (m n : Member) (e f : Before × List Letter) → IsMember s m e → IsMember s n f → (e ≡ f) × (m ≡ n)
one_member s m n e f h k =
    let same : member m e.0 e.1 ≡ member n f.0 f.1 = sym h ∙ k in
    let x : e.0 ≡ f.0 = cc in
    let y : e.1 ≡ f.1 = cc in
    let z : m ≡ n = cc in
    (ap (λ w. (w, e.1)) x ∙ ap (λ w. (f.0, w)) y, z)

closed_stops : (s : Before × List Letter) (rest : List Letter) → member_at s.0 s.1 ≡ closed rest → Stops IsMember s
closed_stops s rest c m e h = let never : closed rest ≡ member m e.0 e.1 = sym c ∙ h in absurd cc

broken_stops : (s : Before × List Letter) → member_at s.0 s.1 ≡ broken → Stops IsMember s
broken_stops s c m e h = let never : broken ≡ member m e.0 e.1 = sym c ∙ h in absurd cc

-- pieces that match the same
abbrev pub SamePiece : {X : Type 0} → (X → X → Type 0) → Piece X → Piece X → Type 0
SamePiece Same Many Many = Unit {0}
SamePiece Same Many (One y) = ⊥
SamePiece Same (One x) Many = ⊥
SamePiece Same (One x) (One y) = Same x y

pub same_one : {X : Type 0} (Same : X → X → Type 0) (p q : Piece X) (x y : X) → p ≡ One x → q ≡ One y → Same x y → SamePiece Same p q
same_one Same p q x y e f s = subst (λ z. SamePiece Same z q) (sym e) (subst (λ z. SamePiece Same (One x) z) (sym f) s)

same_many : {X : Type 0} (Same : X → X → Type 0) (p q : Piece X) → p ≡ Many → q ≡ Many → SamePiece Same p q
same_many Same p q e f = subst (λ z. SamePiece Same z q) (sym e) (subst (λ z. SamePiece Same Many z) (sym f) tt)

module _ {X L : Type 0} (Takes : L → Type 0) (Fit : X → L → Type 0) where
  pub wild_too : (ps qs : List (Piece X)) (ls : List L) → AllZip (SamePiece (λ x y. (l : L) → Fit x l → Fit y l)) ps qs → Wild Takes Fit ps ls → Wild Takes Fit qs ls
  wild_too [] [] ls z w = w
  wild_too [] (q ∷ qs) ls z w = absurd z
  wild_too (p ∷ ps) [] ls z w = absurd z
  wild_too (Many ∷ ps) (Many ∷ qs) ls z w = record { skipped = w.skipped; rest = w.rest; joined = w.joined; taken = w.taken; after = wild_too ps qs w.rest z.1 w.after }
  wild_too (Many ∷ ps) (One y ∷ qs) ls z w = absurd z.0
  wild_too (One x ∷ ps) (Many ∷ qs) ls z w = absurd z.0
  wild_too (One x ∷ ps) (One y ∷ qs) ls z w = record { letter = w.letter; rest = w.rest; joined = w.joined; fits = z.0 w.letter w.fits; after = wild_too ps qs w.rest z.1 w.after }

module _ {A : Type 0} (folds : Bool) where
  pub same_class : (text : List Letter) (c d : Class A) (r q : List Letter) → IsClass folds text c r → IsClass folds text d q → (r ≡ q) × ((b : ℕ) → permitted c b ≡ permitted d b)
  same_class text c d r q h k =
      let same = same_items IsMember (λ m n. m ≡ n) one_member (First, (negation text).1) h.members k.members h.left k.left h.read k.read (closed_stops h.left r h.ends) (closed_stops k.left q k.ends) in
      let members = zip_equal h.members k.members same.1 in
      let ends : closed r ≡ closed q = sym h.ends ∙ ap (λ z. member_at z.0 z.1) same.0 ∙ k.ends in
      let rest : r ≡ q = cc in
      (rest, λ b. h.compiled b ∙ ap (λ z. permits folds (negation text).0 z b) members ∙ sym (k.compiled b))

  pub not_broken : (text : List Letter) (c : Class A) (r : List Letter) → IsClass folds text c r → IsBrokenClass text → ⊥
  not_broken text c r h k =
      let same = same_items IsMember (λ m n. m ≡ n) one_member (First, (negation text).1) h.members k.members h.left k.left h.read k.read (closed_stops h.left r h.ends) (broken_stops k.left k.stops) in
      let never : closed r ≡ broken = sym h.ends ∙ ap (λ z. member_at z.0 z.1) same.0 ∙ k.stops in
      absurd cc

same_after : (text : List Letter) (a b : After) → EndsPart text a → EndsPart text b → (text_of (left_after a) ≡ text_of (left_after b)) × (is_joined a ≡ is_joined b)
same_after text after.End after.End s t = (refl, refl)
same_after text after.End (after.Slash quoted rest) s t = let never : [] ≡ letter quoted 0x2F ∷ rest.now = sym s ∙ t in absurd cc
same_after text (after.Slash quoted rest) after.End s t = let never : [] ≡ letter quoted 0x2F ∷ rest.now = sym t ∙ s in absurd cc
same_after text (after.Slash quoted rest) (after.Slash other more) s t =
    let e : letter quoted 0x2F ∷ rest.now ≡ letter other 0x2F ∷ more.now = sym s ∙ t in
    let f : letter quoted 0x2F ≡ letter other 0x2F = cc in
    let g : rest.now ≡ more.now = cc in
    (ap Some g, ap (λ z. is_joined (after.Slash z.quoted rest)) f)

not_here : (text : List Letter) (a : After) → IsBrokenHere text → EndsPart text a → ⊥
not_here [] a h s = h
not_here (l ∷ ls) after.End h s = let never : l ∷ ls ≡ [] = s in absurd cc
not_here (l ∷ ls) (after.Slash quoted rest) h s =
    let same : l ≡ letter quoted 0x2F = cc in
    let never : Slash ≡ Bracket = sym (ap kind_of same) ∙ h.0 in absurd cc

module _ (A : Type 0) (folds : Bool) where
  part_stops : (text : List Letter) (a : After) → EndsPart text a → Stops (IsPiece {A = A} folds) text
  part_stops [] a s p e h = h
  part_stops (l ∷ ls) after.End s p e h = let never : l ∷ ls ≡ [] = s in absurd cc
  part_stops (l ∷ ls) (after.Slash quoted rest) s p e h = let same : l ≡ letter quoted 0x2F = cc in h.0 (ap (λ z. z.byte) same)

  none_stops : Stops (NextGroup {A = A} folds) None
  none_stops g e h = h

  here_stops : (text : List Letter) → IsBrokenHere text → Stops (IsPiece {A = A} folds) text
  here_stops [] h p e k = k
  here_stops (l ∷ ls) h p e k = let class = subst (λ z. PieceAt folds z l ls p e) h.0 k.1 in not_broken folds ls class.0 e class.2 h.1

module _ {A : Type 0} where
  abbrev pub SameItem : Item A → Item A → Type 0
  SameItem x y = (letter : ℕ) → Fits x letter → Fits y letter

  abbrev pub SamePart : Part A → Part A → Type 0
  SamePart x y = (component : List ℕ) → FitsComponent false x component → FitsComponent false y component

module _ {A : Type 0} (folds : Bool) where
  one_piece : (text : List Letter) (p q : Piece (Item A)) (e f : List Letter) → IsPiece folds text p e → IsPiece folds text q f → (e ≡ f) × SamePiece SameItem p q
  one_piece [] p q e f h k = absurd h
  one_piece (l ∷ ls) p q e f h k = go (kind_of l) h.1 k.1
    where
      itself : (v : Bool) → IsLiteral v l p → IsLiteral v l q → SamePiece SameItem p q
      itself false x y = same_one SameItem p q (item.Literal l.byte) (item.Literal l.byte) x y (λ letter s. s)
      itself true x y = same_one SameItem p q x.0 y.0 x.1 y.1 (λ letter s. (y.2 letter).1 ((x.2 letter).0 s))

      go : (kind : Kind) → PieceAt folds kind l ls p e → PieceAt folds kind l ls q f → (e ≡ f) × SamePiece SameItem p q
      go Slash h k = (h.1 ∙ sym k.1, itself folds h.0 k.0)
      go Literal h k = (h.1 ∙ sym k.1, itself folds h.0 k.0)
      go Star h k = (h.1 ∙ sym k.1, same_many SameItem p q h.0 k.0)
      go Question h k = (h.1 ∙ sym k.1, same_one SameItem p q item.Any item.Any h.0 k.0 (λ letter s. s))
      go Bracket h k =
          let same = same_class folds ls h.0 k.0 e f h.2 k.2 in
          (same.0, same_one SameItem p q (item.OneOf h.0) (item.OneOf k.0) h.1 k.1 (λ letter s. subst IsTrue (same.1 letter) s))

  same_stars : (R : Item A → Item A → Type 0) (ps qs : List (Piece (Item A))) → AllZip (SamePiece R) ps qs → (all_stars ps ≡ all_stars qs) × (length ps ≡ length qs)
  same_stars R [] [] z = (refl, refl)
  same_stars R [] (q ∷ qs) z = absurd z
  same_stars R (p ∷ ps) [] z = absurd z
  same_stars R (Many ∷ ps) (Many ∷ qs) z = let h = same_stars R ps qs z.1 in (h.0, ap suc h.1)
  same_stars R (Many ∷ ps) (One y ∷ qs) z = absurd z.0
  same_stars R (One x ∷ ps) (Many ∷ qs) z = absurd z.0
  same_stars R (One x ∷ ps) (One y ∷ qs) z = let h = same_stars R ps qs z.1 in (refl, ap suc h.1)

  same_deep : (ps qs : List (Piece (Item A))) → AllZip (SamePiece SameItem) ps qs → is_deep ps ≡ is_deep qs
  same_deep ps qs z = let h = same_stars SameItem ps qs z in ap (λ n. nat_le 2 n && all_stars ps) h.1 ∙ ap (λ v. nat_le 2 (length qs) && v) h.0

  same_group : (deep joined : Bool) (x y : Part A) → SamePart x y → AllZip (SamePiece SamePart) (group deep joined x) (group deep joined y)
  same_group false joined x y s = (s, tt)
  same_group true true x y s = (tt, tt)
  same_group true false x y s = (tt, (s, tt))

  same_part : (x y : Part A) → AllZip (SamePiece SameItem) x.pieces.items y.pieces.items → SamePart x y
  same_part x y z component fit = (wild_too TakesLetter Fits x.pieces.items y.pieces.items component z fit.0, λ e. let never : false ≡ true = e in absurd cc)

  one_group : (text : Option (List Letter)) (g h : List (Piece (Part A))) (e f : Option (List Letter)) → NextGroup folds text g e → NextGroup folds text h f → (e ≡ f) × AllZip (SamePiece SamePart) g h
  one_group None g h e f a b = absurd a
  one_group (Some text) g h e f a b =
      let same = same_items (IsPiece folds) (SamePiece SameItem) one_piece text a.part.pieces.items b.part.pieces.items a.read.left b.read.left a.read.read b.read.read (part_stops A folds a.read.left a.after a.read.ends) (part_stops A folds b.read.left b.after b.read.ends) in
      let ends = same_after b.read.left a.after b.after (subst (λ z. EndsPart z a.after) same.0 a.read.ends) b.read.ends in
      let deep = same_deep a.part.pieces.items b.part.pieces.items same.1 in
      let own = same_group (is_deep a.part.pieces.items) (is_joined a.after) a.part b.part (same_part a.part b.part same.1) in
      let other : h ≡ group (is_deep a.part.pieces.items) (is_joined a.after) b.part =
      b.pieces_are ∙ ap (λ v. group v (is_joined b.after) b.part) (sym deep) ∙ ap (λ v. group (is_deep a.part.pieces.items) v b.part) (sym ends.1) in (
        a.left_is ∙ ends.0 ∙ sym b.left_is,
        subst (λ z. AllZip (SamePiece SamePart) z h) (sym a.pieces_are) (subst (λ z. AllZip (SamePiece SamePart) (group (is_deep a.part.pieces.items) (is_joined a.after) a.part) z) (sym other) own),
      )

  -- the pattern of a text matches the same, however it is compiled
  pub same_pattern : (text : List Letter) (p q : List (Piece (Part A))) → IsPattern folds text p → IsPattern folds text q → AllZip (SamePiece SamePart) p q
  same_pattern text p q h k =
      let same = same_items (NextGroup folds) (AllZip (SamePiece SamePart)) one_group (Some text) h.lists k.lists None None h.read k.read (none_stops A folds) (none_stops A folds) in
      subst (λ z. AllZip (SamePiece SamePart) z q) (sym h.joined) (subst (λ z. AllZip (SamePiece SamePart) (concat_of h.lists) z) (sym k.joined) (zip_concat (SamePiece SamePart) h.lists k.lists same.1))

  pub matches_too : (text : List Letter) (p q : List (Piece (Part A))) → IsPattern folds text p → IsPattern folds text q → (rest : List ℕ) → Matches by_slashes p rest → Matches by_slashes q rest
  matches_too text p q h k rest m = wild_too (TakesComponent false) (FitsComponent false) p q _ (same_pattern text p q h k) m

  broken_part_stops : (text : List Letter) → IsBrokenPart folds A text → Stops (NextGroup {A = A} folds) (Some text)
  broken_part_stops text k g e h =
      let same = same_items (IsPiece folds) (SamePiece SameItem) one_piece text h.part.pieces.items k.pieces h.read.left k.left h.read.read k.read (part_stops A folds h.read.left h.after h.read.ends) (here_stops A folds k.left k.broken) in
      not_here k.left h.after k.broken (subst (λ z. EndsPart z h.after) same.0 h.read.ends)

  -- a pattern has no broken class
  pub not_broken_pattern : (text : List Letter) (p : List (Piece (Part A))) → IsPattern folds text p → IsBrokenPattern folds A text → ⊥
  not_broken_pattern text p h k =
      let same = same_items (NextGroup folds) (AllZip (SamePiece SamePart)) one_group (Some text) h.lists k.groups None (Some k.left) h.read k.read (none_stops A folds) (broken_part_stops k.left k.broken) in
      let never : None ≡ Some k.left = same.0 in absurd cc
