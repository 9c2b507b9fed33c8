-- A list that is written into a buffer from its start, as far as there is room.
use Rattle.wtf8_core.proofs.Common.{◌≡◌, ℕ, ◌+◌, ◌<◌, ◌≤◌, List, [], ◌∷◌, ◌++◌, length, take, set, refl, sym, ◌∙◌, arith, nat_tests, common_steps, take-append-add, drop-drop, length-append, length-take-le, length-drop, take_all, drop_all}
use Rattle.std.proofs.lemmas.{List.take_more_set, List.drop-set-lt, List.length-set, List.take-append-le, Slice.take-put_mid, Slice.drop-put_mid}
use borrow.Rule.Slice.PartMut.{put_mid}
use Rattle.wtf8_core.specs.Truncated.{IsTruncated}

pub none_yet : (old : List ℕ) → IsTruncated [] old old 0
none_yet old = record { same_length = refl; count_is = refl; prefix = take_all (length old) [] (omega arith); after = refl }

pub put_length : (at n : ℕ) (list part : List ℕ) → at + n ≤ length list → length part ≡ n → length (put_mid at n list part) ≡ length list
put_length at n list part within l = grind (arith, nat_tests, common_steps, length-append, length-take-le, length-drop)

module _ (done old new : List ℕ) (count : ℕ) (h : IsTruncated done old new count) where
  -- where there was room, all of it is there
  pub whole : count ≤ length new → take count new ≡ done
  whole fits = let n = h.count_is in let l = h.same_length in sym (sym (take_all (length old) done (omega arith)) ∙ h.prefix)

  -- one more item is written
  pub one_more : (x : ℕ) → count < length new → IsTruncated (done ++ x ∷ []) old (set new count x) (count + 1)
  one_more x room = grind (arith, nat_tests, common_steps, length-set, take_more_set, drop-set-lt, whole, length-append, take_all, drop-drop)

  -- a list is written after it
  pub all_written : (more part : List ℕ) (n : ℕ) → part ≡ more → n ≡ length more → count + n ≤ length new → IsTruncated (done ++ more) old (put_mid count n new part) (count + n)
  all_written more part n is k room = grind (arith, nat_tests, common_steps, length-append, put_length, take_all, whole, take-put_mid, drop-put_mid, drop-drop)

  -- a list is written up to the buffer's end
  pub prefix_written : (more part : List ℕ) (n : ℕ) → part ≡ take n more → count + n ≡ length new → n ≤ length more → IsTruncated (done ++ more) old (put_mid count n new part) (count + length more)
  prefix_written more part n is full within = grind (arith, nat_tests, common_steps, length-append, length-take-le, put_length, take-append-add, whole, take-put_mid, take_all, drop_all)

  -- or there is no room for any of it
  pub all_lost : (more : List ℕ) → length new ≤ count → IsTruncated (done ++ more) old new (count + length more)
  all_lost more full = grind (arith, nat_tests, common_steps, length-append, take-append-le, take_all, drop_all)

  pub one_lost : (x : ℕ) → length new ≤ count → IsTruncated (done ++ x ∷ []) old new (count + 1)
  one_lost x full = all_lost (x ∷ []) full
