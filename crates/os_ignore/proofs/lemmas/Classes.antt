-- The ranges of a class, and what its members permit.
use Rattle.std.proofs.Common.{◌≡◌, ◌<◌, ◌≤◌, ◌+◌, ◌-◌, max, min, nat_le, nat_lt, not, cond, ◌&&◌, ◌||◌, ℕ, Bool, true, false, Result, Ok, Err, List, [], ◌∷◌, ◌++◌, refl, sym, ap, ◌∙◌, arith}
use Rattle.std.specs.Char.{is_ascii_lowercase, to_ascii_lowercase, to_ascii_uppercase}
use Rattle.std.proofs.lemmas.Bool.Decides.{nat_tests}
use Rattle.std.proofs.lemmas.Str.Ascii.{lowercase_is, uppercase_is}
use Rattle.std.proofs.Math.Bool.{or_assoc}
use Rattle.std.specs.Prelude.{IfOk}
use Rattle.wildcards.specs.declared.class.Class.{Class}
use Rattle.wildcards.specs.declared.range.Range.{Range}
use Rattle.wildcards.specs.Classes.{permitted}
use Rattle.wildcards.specs.Ranges as ranges
use Rattle.os_ignore.specs.declared.letter.Letter.{Letter}
use Rattle.wildcards.specs.declared.class_name.ClassName.{ClassName}
use Rattle.wildcards.specs.declared.class_name.ClassName.TheVariants.{Alnum, Alpha, Blank, Cntrl, Digit, Graph, Lower, Print, Punct, Space, Upper, Xdigit}
use Rattle.os_ignore.specs.declared.class.Member.{Member}
use Rattle.os_ignore.specs.declared.class.Member.TheVariants.{Single, Range as From, Named}
use Rattle.os_ignore.specs.declared.class_text.Before.{Before}
use Rattle.os_ignore.specs.declared.class_text.Before.TheVariants.{First}
use Rattle.os_ignore.specs.Class.{is_named, is_upper, is_exactly, has_capital, is_member, is_in, permits}
use Rattle.wildcards.specs.ClassName.{smalls}
use Rattle.os_ignore.specs.ClassSteps.{name_ranges, small_range, exact_ranges, small_ranges, member_ranges, both_cases, all_cases}
use Rattle.os_ignore.specs.Letters.{folded}
use Rattle.os_ignore.specs.ClassText.{closed, member_at, negation, IsMember, AreMembers, IsClass}
use Rattle.wildcards.proofs.lemmas.Items.{more_items}

same_name : (name : ClassName) (b : ℕ) → ranges.is_in (name_ranges name) b ≡ is_named name b
same_name Alnum b = grind (arith, nat_tests)
same_name Alpha b = grind (arith, nat_tests)
same_name Blank b = grind (arith, nat_tests)
same_name Cntrl b = grind (arith, nat_tests)
same_name Digit b = grind (arith, nat_tests)
same_name Graph b = grind (arith, nat_tests)
same_name Lower b = grind (arith, nat_tests)
same_name Print b = grind (arith, nat_tests)
same_name Punct b = grind (arith, nat_tests)
same_name Space b = grind (arith, nat_tests)
same_name Upper b = grind (arith, nat_tests)
same_name Xdigit b = grind (arith, nat_tests)

in_both : (xs ys : List Range) (b : ℕ) → ranges.is_in (xs ++ ys) b ≡ ranges.is_in xs b || ranges.is_in ys b
in_both [] ys b = refl
in_both (x ∷ xs) ys b = ap (λ z. ranges.lies_in x b || z) (in_both xs ys b) ∙ sym (or_assoc (ranges.lies_in x b) (ranges.is_in xs b) (ranges.is_in ys b))

or_nothing : (v : Bool) → v || false ≡ v
or_nothing true = refl
or_nothing false = refl

same_exact : (m : Member) (b : ℕ) → ranges.is_in (exact_ranges m) b ≡ is_exactly m b
same_exact (Single c) b = grind (arith, nat_tests)
same_exact (From from to) b = grind (arith, nat_tests)
same_exact (Named name) b = same_name name b

le_same : (a b c d : ℕ) → (a ≤ b → c ≤ d) → (c ≤ d → a ≤ b) → nat_le a b ≡ nat_le c d
le_same a b c d f g = go (nat_le a b) (nat_le c d) refl refl
  where
    go : (v w : Bool) → nat_le a b ≡ v → nat_le c d ≡ w → v ≡ w
    go true true e h = refl
    go false false e h = refl
    go true false e h = let k : c ≤ d = f (grind (arith, nat_tests)) in let l : d < c = grind (arith, nat_tests) in absurd (omega arith)
    go false true e h = let k : a ≤ b = g (grind (arith, nat_tests)) in let l : b < a = grind (arith, nat_tests) in absurd (omega arith)

both_same : {a b c d : Bool} → a ≡ c → b ≡ d → a && b ≡ c && d
both_same {a} {b} {c} {d} e h = ap (λ z. z && b) e ∙ ap (λ z. c && z) h

-- a range without what is below or above it
no_lower : (lo b : ℕ) (v : Bool) → b < lo → nat_le lo b && v ≡ false
no_lower lo b v l = ap (λ z. z && v) (go (nat_le lo b) refl)
  where
    go : (w : Bool) → nat_le lo b ≡ w → w ≡ false
    go false e = refl
    go true e = let k : lo ≤ b = grind (arith, nat_tests) in absurd (omega arith)

no_higher : (b hi : ℕ) (v : Bool) → hi < b → v && nat_le b hi ≡ false
no_higher b hi v l = ap (λ z. v && z) (go (nat_le b hi) refl) ∙ none v
  where
    go : (w : Bool) → nat_le b hi ≡ w → w ≡ false
    go false e = refl
    go true e = let k : b ≤ hi = grind (arith, nat_tests) in absurd (omega arith)

    none : (v : Bool) → v && false ≡ false
    none true = refl
    none false = refl

-- where a byte is, by the letters
data Place (b : ℕ) : Type 0 where
  before : b < 0x41 → Place b
  capital : 0x41 ≤ b → b ≤ 0x5A → Place b
  between : 0x5A < b → b < 0x61 → Place b
  small : 0x61 ≤ b → b ≤ 0x7A → Place b
  after : 0x7A < b → Place b

place : (b : ℕ) → Place b
place b = go (nat_lt b 0x41) (nat_lt b 0x5B) (nat_lt b 0x61) (nat_lt b 0x7B) refl refl refl refl
  where
    go : (p q r s : Bool) → nat_lt b 0x41 ≡ p → nat_lt b 0x5B ≡ q → nat_lt b 0x61 ≡ r → nat_lt b 0x7B ≡ s → Place b
    go true q r s e f g h = before (grind (arith, nat_tests))
    go false true r s e f g h = capital (grind (arith, nat_tests)) (grind (arith, nat_tests))
    go false false true s e f g h = between (grind (arith, nat_tests)) (grind (arith, nat_tests))
    go false false false true e f g h = small (grind (arith, nat_tests)) (grind (arith, nat_tests))
    go false false false false e f g h = after (grind (arith, nat_tests))

is_small : (b : ℕ) → 0x61 ≤ b → b ≤ 0x7A → is_ascii_lowercase b ≡ true
is_small b l h = grind (arith, nat_tests)

small_between : (from to b : ℕ) → ranges.lies_in (small_range from to) b ≡ is_ascii_lowercase b && (nat_le from (to_ascii_uppercase b) && nat_le (to_ascii_uppercase b) to)
small_between from to b = go (place b)
  where
    low : b < 0x61 → ranges.lies_in (small_range from to) b ≡ is_ascii_lowercase b && (nat_le from (to_ascii_uppercase b) && nat_le (to_ascii_uppercase b) to)
    low l =
        let never : b < max from 0x41 + 0x20 = omega arith in
        let other : is_ascii_lowercase b ≡ false = no_lower 0x61 b (nat_le b 0x7A) l in
        no_lower (max from 0x41 + 0x20) b (nat_le b (min to 0x5A + 0x20)) never ∙ ap (λ z. z && (nat_le from (to_ascii_uppercase b) && nat_le (to_ascii_uppercase b) to)) (sym other)

    go : Place b → ranges.lies_in (small_range from to) b ≡ is_ascii_lowercase b && (nat_le from (to_ascii_uppercase b) && nat_le (to_ascii_uppercase b) to)
    go (before l) = low (omega arith)
    go (capital l h) = low (omega arith)
    go (between l h) = low h
    go (small l h) =
        let u : to_ascii_uppercase b + 32 ≡ b = (uppercase_is b).0 (l, h) in
        both_same (le_same (max from 0x41 + 0x20) b from (to_ascii_uppercase b) (λ k. omega arith) (λ k. omega arith)) (le_same b (min to 0x5A + 0x20) (to_ascii_uppercase b) to (λ k. omega arith) (λ k. omega arith))
        ∙ ap (λ z. z && (nat_le from (to_ascii_uppercase b) && nat_le (to_ascii_uppercase b) to)) (sym (is_small b l h))
    go (after l) =
        let never : min to 0x5A + 0x20 < b = omega arith in
        let other : is_ascii_lowercase b ≡ false = no_higher b 0x7A (nat_le 0x61 b) l in
        no_higher b (min to 0x5A + 0x20) (nat_le (max from 0x41 + 0x20) b) never ∙ ap (λ z. z && (nat_le from (to_ascii_uppercase b) && nat_le (to_ascii_uppercase b) to)) (sym other)

same_small : (m : Member) (b : ℕ) → ranges.is_in (small_ranges m) b ≡ has_capital m b
same_small (Single c) b = refl
same_small (From from to) b = or_nothing (ranges.lies_in (small_range from to) b) ∙ small_between from to b
same_small (Named name) b = go (is_upper name)
  where
    go : (v : Bool) → ranges.is_in (cond v (smalls ∷ []) []) b ≡ v && is_ascii_lowercase b
    go true = or_nothing (ranges.lies_in smalls b)
    go false = refl

same_member : (folds : Bool) (m : Member) (b : ℕ) → ranges.is_in (member_ranges folds m) b ≡ is_member folds m b
same_member false m b = same_exact m b
same_member true m b = in_both (exact_ranges m) (small_ranges m) b ∙ ap (λ z. z || ranges.is_in (small_ranges m) b) (same_exact m b) ∙ ap (λ z. is_exactly m b || z) (same_small m b)

-- a byte is in both cases of a range where its small letter is in the range
module _ (r : Range) (b : ℕ) where
  abbrev PartOne : Bool
  PartOne = nat_le r.first b && nat_le b (min r.last 0x40)

  abbrev PartTwo : Bool
  PartTwo = nat_le (max r.first 0x5B) b && nat_le b r.last

  abbrev PartThree : Bool
  PartThree = nat_le (max r.first 0x61 - 0x20) b && nat_le b (max (min r.last 0x7A) 0x20 - 0x20)

  three : (x y z : Bool) → PartOne ≡ x → PartTwo ≡ y → PartThree ≡ z → ranges.is_in (both_cases r) b ≡ x || (y || (z || false))
  three x y z e f g = ap (λ v. v || (PartTwo || (PartThree || false))) e ∙ ap (λ v. x || (v || (PartThree || false))) f ∙ ap (λ v. x || (y || (v || false))) g

  no_first : 0x40 < b → PartOne ≡ false
  no_first l = no_higher b (min r.last 0x40) (nat_le r.first b) (omega arith)

  no_second : b < 0x5B → PartTwo ≡ false
  no_second l = no_lower (max r.first 0x5B) b (nat_le b r.last) (omega arith)

  upper : 0x5A < b → PartTwo ≡ nat_le r.first b && nat_le b r.last
  upper l = both_same (le_same (max r.first 0x5B) b r.first b (λ k. omega arith) (λ k. omega arith)) refl

  no_third : 0x5A < b → PartThree ≡ false
  no_third l = no_higher b (max (min r.last 0x7A) 0x20 - 0x20) (nat_le (max r.first 0x61 - 0x20) b) (omega arith)

  above : 0x5A < b → to_ascii_lowercase b ≡ b
  above l = (lowercase_is b).2 l

  beyond : 0x5A < b → ranges.is_in (both_cases r) b ≡ ranges.lies_in r (to_ascii_lowercase b)
  beyond l = three false (nat_le r.first b && nat_le b r.last) false (no_first (omega arith)) (upper l) (no_third l) ∙ or_nothing (nat_le r.first b && nat_le b r.last) ∙ ap (ranges.lies_in r) (sym (above l))

  go : Place b → ranges.is_in (both_cases r) b ≡ ranges.lies_in r (to_ascii_lowercase b)
  go (before l) =
      let first : PartOne ≡ nat_le r.first b && nat_le b r.last = both_same refl (le_same b (min r.last 0x40) b r.last (λ k. omega arith) (λ k. omega arith)) in
      let third : PartThree ≡ false = no_lower (max r.first 0x61 - 0x20) b (nat_le b (max (min r.last 0x7A) 0x20 - 0x20)) (omega arith) in
      three (nat_le r.first b && nat_le b r.last) false false first (no_second (omega arith)) third ∙ or_nothing (nat_le r.first b && nat_le b r.last) ∙ ap (ranges.lies_in r) (sym ((lowercase_is b).1 l))
  go (capital l h) =
      let u : to_ascii_lowercase b ≡ b + 32 = (lowercase_is b).0 (l, h) in
      let third : PartThree ≡ nat_le r.first (b + 32) && nat_le (b + 32) r.last =
      both_same (le_same (max r.first 0x61 - 0x20) b r.first (b + 32) (λ k. omega arith) (λ k. omega arith)) (le_same b (max (min r.last 0x7A) 0x20 - 0x20) (b + 32) r.last (λ k. omega arith) (λ k. omega arith)) in
      three false false (nat_le r.first (b + 32) && nat_le (b + 32) r.last) (no_first (omega arith)) (no_second (omega arith)) third ∙ or_nothing (nat_le r.first (b + 32) && nat_le (b + 32) r.last) ∙ ap (ranges.lies_in r) (sym u)
  go (between l h) = beyond l
  go (small l h) = beyond (omega arith)
  go (after l) = beyond (omega arith)

  one_case : ranges.is_in (both_cases r) b ≡ ranges.lies_in r (to_ascii_lowercase b)
  one_case = go (place b)

same_cases : (rs : List Range) (b : ℕ) → ranges.is_in (all_cases rs) b ≡ ranges.is_in rs (to_ascii_lowercase b)
same_cases [] b = refl
same_cases (r ∷ rs) b = in_both (both_cases r) (all_cases rs) b ∙ ap (λ z. z || ranges.is_in (all_cases rs) b) (one_case r b) ∙ ap (λ z. ranges.lies_in r (to_ascii_lowercase b) || z) (same_cases rs b)

pub permits_cases : (negated : Bool) (rs : List Range) (b : ℕ) → ranges.permits negated (all_cases rs) b ≡ ranges.permits negated rs (to_ascii_lowercase b)
permits_cases false rs b = same_cases rs b
permits_cases true rs b = ap not (same_cases rs b)

module _ {A : Type 0} (negated : Bool) (rs : List Range) (folds : Bool) where
  abbrev pub IsClassOf : Class A → Type 0
  IsClassOf class = (letter : ℕ) → permitted class letter ≡ ranges.permits negated rs (folded folds letter)

  pub folded_class : {E : Type 0} (r : Result (Class A) E) (all : List Range) → folds ≡ true → all ≡ all_cases rs → IfOk r (λ class. (letter : ℕ) → permitted class letter ≡ ranges.permits negated all letter) → IfOk r (λ class. IsClassOf class)
  folded_class (Err e) all f s h = tt
  folded_class (Ok class) all f s h = λ letter. h letter ∙ ap (λ z. ranges.permits negated z letter) s ∙ permits_cases negated rs letter ∙ ap (λ z. ranges.permits negated rs (folded z letter)) (sym f)

  pub exact_class : {E : Type 0} (r : Result (Class A) E) → folds ≡ false → IfOk r (λ class. (letter : ℕ) → permitted class letter ≡ ranges.permits negated rs letter) → IfOk r (λ class. IsClassOf class)
  exact_class (Err e) f h = tt
  exact_class (Ok class) f h = λ letter. h letter ∙ ap (λ z. ranges.permits negated rs (folded z letter)) (sym f)

in_more : (folds : Bool) (ms : List Member) (m : Member) (b : ℕ) → is_in folds (ms ++ m ∷ []) b ≡ is_in folds ms b || is_member folds m b
in_more folds [] m b = or_nothing (is_member folds m b)
in_more folds (x ∷ ms) m b = ap (λ z. is_member folds x b || z) (in_more folds ms m b) ∙ sym (or_assoc (is_member folds x b) (is_in folds ms b) (is_member folds m b))

-- members have been read, and these are their ranges
pub record SoFar (folds : Bool) (text : List Letter) (rs : List Range) (left : Before × List Letter) : Type 0 where
  pub members : List Member
  pub read : AreMembers text members left
  pub same : (b : ℕ) → ranges.is_in rs b ≡ is_in folds members b

module _ (folds : Bool) (text : List Letter) where
  pub none_yet : (rs : List Range) (negated : Bool) (body : List Letter) → rs ≡ [] → (negated, body) ≡ negation text
      → SoFar folds text rs (First, body)
  none_yet rs negated body e f = record {
    members = [];
    read = ap (λ p. (First, p.1)) (sym f);
    same = λ b. ap (λ z. ranges.is_in z b) e;
  }

  pub one_more : (rs : List Range) (left : Before × List Letter) (m : Member) (rest : Before × List Letter) (all : List Range) → SoFar folds text rs left → IsMember left m rest → all ≡ rs ++ member_ranges folds m → SoFar folds text all rest
  one_more rs left m rest all s i e = record {
    members = s.members ++ m ∷ [];
    read = more_items IsMember _ _ _ _ _ s.read i;
    same = λ b.
        ap (λ z. ranges.is_in z b) e ∙ in_both rs (member_ranges folds m) b
        ∙ ap (λ z. z || ranges.is_in (member_ranges folds m) b) (s.same b)
        ∙ ap (λ z. is_in folds s.members b || z) (same_member folds m b)
        ∙ sym (in_more folds s.members m b);
  }

  -- what closes a class is read, and its ranges are compiled
  pub whole_class : {A : Type 0} (class : Class A) (negated : Bool) (rs : List Range) (left : Before × List Letter)
      (rest : List Letter) → SoFar folds text rs left → negated ≡ (negation text).0 → IsClassOf negated rs folds class
      → member_at left.0 left.1 ≡ closed rest → IsClass folds text class rest
  whole_class class negated rs left rest s n h e = record {
    members = s.members;
    left = left;
    read = s.read;
    ends = e;
    compiled = λ b. h b ∙ same negated b ∙ ap (λ z. permits folds z s.members b) n;
  }
    where
      same : (v : Bool) (b : ℕ) → ranges.permits v rs (folded folds b) ≡ permits folds v s.members b
      same false b = s.same (folded folds b)
      same true b = ap not (s.same (folded folds b))
