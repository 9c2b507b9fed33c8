-- What the searches of `memchr` find, in the words of `Occurrence`.
use Rattle.std.proofs.Common.{◌≡◌, ℕ, ◌+◌, List, ◌++◌, length, take, drop, Option, Some, None, sym, ap, subst, ◌∙◌, arith, length-append, take-append-drop}
use Rattle.std.proofs.lemmas.{List.length-take-le, List.drop_at, List.Prefix.at_from_reads, List.Prefix.at_reads}
use Rattle.memchr.specs.Find.{OccursAt as NeedleOccursAt, FindsNeedle, FindsLastNeedle}
use Rattle.wtf8_core.specs.Occurrence.{OccursAt, IsFirstIndex, IsLastIndex, Finds}
use Rattle.os_str_ext.specs.Pieces.{SplitsAt}

module _ (s p : List ℕ) where
  -- a needle occurs in the words of `memchr` where it does in the words of `Occurrence`, and the other way round
  pub occurs_from_needle : (i : ℕ) → NeedleOccursAt s p i → OccursAt p s i
  occurs_from_needle i o =
      let fits = o.fits in
      record {
        before = take i s;
        after = drop (i + length p) s;
        joined = sym (take-append-drop i s) ∙ ap (λ r. take i s ++ r) (at_from_reads 0 s p i o.fits o.reads);
        index = length-take-le i s (omega arith);
      }

  pub needle_from_occurs : (i : ℕ) → OccursAt p s i → NeedleOccursAt s p i
  needle_from_occurs i h =
      let rest : drop i s ≡ p ++ h.after = ap (drop i) h.joined ∙ drop_at h.before (p ++ h.after) i h.index in
      let size : length s ≡ length h.before + (length p + length h.after) = ap length h.joined ∙ length-append h.before (p ++ h.after) ∙ ap (λ n. length h.before + n) (length-append p h.after) in
      let index = h.index in
      record { fits = omega arith; reads = at_reads 0 s p i h.after rest }

  -- so what is found first is at the first index, and what is found last at the last
  pub first_index_of_needle : (r : Option ℕ) → FindsNeedle s p 0 r → Finds IsFirstIndex p s r
  first_index_of_needle None f = λ i h. let o = needle_from_occurs i h in let fits = o.fits in f i (omega arith) (omega arith) o
  first_index_of_needle (Some i) f = record {
    occurs = occurs_from_needle i f.1;
    least = λ k lt h. f.0.before k (omega arith) lt (needle_from_occurs k h);
  }

  pub last_index_of_needle : (r : Option ℕ) → FindsLastNeedle s p r → Finds IsLastIndex p s r
  last_index_of_needle None f = λ i h. let o = needle_from_occurs i h in let fits = o.fits in f i (omega arith) (omega arith) o
  last_index_of_needle (Some i) f = record {
    occurs = occurs_from_needle i f.1;
    greatest = λ k lt h. let o = needle_from_occurs k h in let fits = o.fits in f.0.after k (omega arith) (omega arith) o;
  }

-- the parts before and after what a search finds
pub parts_around : (Is : List ℕ → List ℕ → ℕ → Type 0) (p s prefix suffix : List ℕ) (i : ℕ) → Is p s i → OccursAt p s i → prefix ≡ take i s → suffix ≡ drop (i + length p) s → SplitsAt Is p s prefix suffix
parts_around Is p s prefix suffix i found h f b =
    let o = needle_from_occurs s p i h in
    let fits = o.fits in
    let size : length prefix ≡ i = ap length f ∙ length-take-le i s (omega arith) in
    record {
      joined = sym (take-append-drop i s) ∙ ap (λ r. r ++ drop i s) (sym f) ∙ ap (λ r. prefix ++ r) (at_from_reads 0 s p i o.fits o.reads ∙ ap (λ r. p ++ r) (sym b));
      found = subst (λ n. Is p s n) (sym size) found;
    }
