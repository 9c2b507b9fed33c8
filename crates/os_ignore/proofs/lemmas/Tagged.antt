-- The last line that matches, among those that have the tags of a path.
use Rattle.std.proofs.Common.{◌≡◌, ◌⊎◌, inl, inr, ◌<◌, ◌≤◌, ◌+◌, nat_lt, slice_index, ℕ, Bool, true, false, get_or, Option, Some, None, List, ◌∷◌, ◌++◌, length, take, drop, refl, sym, ap, ◌∙◌, subst, arith, take-append-drop, length-drop}
use Rattle.std.specs.Prelude.{MatchOption}
use Rattle.std.specs.List.{All, HoldsAt}
use Rattle.std.proofs.lemmas.Bool.Decides.{nat_tests}
use Rattle.std.proofs.lemmas.List.{drop_more, get_or-drop, get_or-take, length-take-le}
use Rattle.std.proofs.lemmas.List.Elements.{recursion_from_All}
use Rattle.memchr.specs.Find.{is_byte3, Passes, Nowhere, NoneAfter}
use Rattle.os_ignore.specs.declared.line.Line.{Line}
use Rattle.os_ignore.specs.Components.{IsLastComponent}
use Rattle.os_ignore.specs.Matching.{LineMatches}
use Rattle.os_ignore.specs.Tags as tags
use Rattle.os_ignore.specs.Tags.{HasTag, AreTags, NoneTagged, IsLastTagged, IsDotTag, IsFirstTag, tag_of}
use Rattle.os_ignore.specs.Verdicts.{NoneMatches, IsLastMatch}
use Rattle.os_ignore.proofs.lemmas.Rests.{one_last}
use Rattle.os_ignore.proofs.lemmas.Lasts.{last_ends, plain_more}

one_of_three : (a b c x : ℕ) → (x ≡ a) ⊎ ((x ≡ b) ⊎ (x ≡ c)) → is_byte3 a b c x ≡ true
one_of_three a b c x (inl e) = grind (arith, nat_tests)
one_of_three a b c x (inr (inl e)) = grind (arith, nat_tests)
one_of_three a b c x (inr (inr e)) = grind (arith, nat_tests)

-- each tag of a path is sought
pub sought : (path name : List ℕ) (end dot first : ℕ) → IsLastComponent path name → end ≡ tag_of name → IsDotTag name dot → IsFirstTag path first → (tag : ℕ) → HasTag path tag → (is_byte3 0 end dot tag ≡ true) ⊎ (is_byte3 first first first tag ≡ true)
sought path name end dot first l le d f tag (tags.any e) = inl (one_of_three 0 end dot tag (inl e))
sought path name end dot first l le d f tag (tags.last other k e) = inl (one_of_three 0 end dot tag (inr (inl (e ∙ ap tag_of (one_last path other name k l) ∙ sym le))))
sought path name end dot first l le d f tag (tags.dot front back c p q e) =
    let all : path ≡ front ++ 0x2E ∷ back = c in
    let own = last_ends path name front (0x2E ∷ back) l all (plain_more 0x2F 0x2E back refl q) in
    inl (one_of_three 0 end dot tag (inr (inr (e ∙ sym (d own.0 back own.1 p)))))
sought path name end dot first l le d f tag (tags.first front back c p e) = inr (one_of_three first first first tag (inl (e ∙ sym (f front back c p))))

module _ {A : Type 0} (path : List ℕ) (is_dir : Bool) (lines : List (Line A)) (tags : List ℕ) where
  -- no line from `low` on matches
  abbrev pub NoneFrom : ℕ → Type 0
  NoneFrom low = (k : ℕ) → low ≤ k → k < length lines → HoldsAt (λ line. LineMatches line path is_dir → ⊥) lines k

  pub none_from : (s t : ℕ → Bool) → AreTags lines tags → ((tag : ℕ) → HasTag path tag → (s tag ≡ true) ⊎ (t tag ≡ true)) → (low : ℕ) → NoneTagged s path is_dir lines tags low → NoneTagged t path is_dir lines tags low → NoneFrom low
  none_from s t are covers low g h k l in' d m = are k in' d path m.target m.target_is m.matches (λ has. go (covers (get_or tags k 0) has))
    where
      go : (s (get_or tags k 0) ≡ true) ⊎ (t (get_or tags k 0) ≡ true) → ⊥
      go (inl e) = g k l in' e d m
      go (inr e) = h k l in' e d m

  pub fewer : (s : ℕ → Bool) (low high : ℕ) → low ≤ high → NoneTagged s path is_dir lines tags low → NoneTagged s path is_dir lines tags high
  fewer s low high l h k m in' e = h k (omega arith) in' e

  pub none_at_end : (s : ℕ → Bool) → length tags ≡ length lines → NoneTagged s path is_dir lines tags (length tags)
  none_at_end s e k l in' p = absurd (omega arith)

  module _ (s : ℕ → Bool) (end : ℕ) (within : end ≤ length tags) (h : NoneTagged s path is_dir lines tags end) where
    passes : (k : ℕ) → k < end → s (slice_index tags k) ≡ true → Passes s (take end tags) k
    passes k l e = ap s (get_or-take end tags k 0 l) ∙ e

    by_end : (k : ℕ) → k < length lines → s (slice_index tags k) ≡ true → (k < end → Passes s (take end tags) k → ⊥) → HoldsAt (λ line. LineMatches line path is_dir → ⊥) lines k
    by_end k in' e none = cases (nat_lt k end) refl
      where
        cases : (v : Bool) → nat_lt k end ≡ v → HoldsAt (λ line. LineMatches line path is_dir → ⊥) lines k
        cases true f = let l : k < end = grind (arith, nat_tests) in absurd (none l (passes k l e))
        cases false f = h k (grind (arith, nat_tests)) in' e

    pub nowhere : Nowhere (Passes s (take end tags)) 0 (length (take end tags)) → (low : ℕ) → NoneTagged s path is_dir lines tags low
    nowhere n low k l in' e = by_end k in' e (λ m p. n k (omega arith) (let size = length-take-le end tags within in omega arith) p)

    pub none_later : (at : ℕ) → NoneAfter (Passes s (take end tags)) 0 (length (take end tags)) at → NoneTagged s path is_dir lines tags (at + 1)
    none_later at n k l in' e = by_end k in' e (λ m p. n.after k l (let size = length-take-le end tags within in omega arith) p)

  pub none_there : (s : ℕ → Bool) (at : ℕ) → NoneTagged s path is_dir lines tags (at + 1) → HoldsAt (λ line. LineMatches line path is_dir → ⊥) lines at → NoneTagged s path is_dir lines tags at
  none_there s at h m k l in' e = cases (nat_lt at k) refl
    where
      cases : (v : Bool) → nat_lt at k ≡ v → HoldsAt (λ line. LineMatches line path is_dir → ⊥) lines k
      cases true f = h k (grind (arith, nat_tests)) in' e
      cases false f = let below : k ≤ at = grind (arith, nat_tests) in let same : at ≡ k = omega arith in subst (HoldsAt (λ line. LineMatches line path is_dir → ⊥) lines) same m

  none_in : (low : ℕ) → NoneFrom low → All (λ line. LineMatches line path is_dir → ⊥) (drop low lines)
  none_in low h k d l = subst (λ z. LineMatches z path is_dir → ⊥) (sym (get_or-drop low lines k d)) (h (low + k) (omega arith) (let e = length-drop low lines in omega arith) d)

  pub none_matches : NoneFrom 0 → NoneMatches path is_dir lines
  none_matches h = recursion_from_All (λ line. LineMatches line path is_dir → ⊥) lines (none_in 0 h)

  pub is_last : (at : ℕ) → at < length lines → HoldsAt (λ line. LineMatches line path is_dir) lines at → NoneFrom (at + 1) → HoldsAt (λ line. IsLastMatch path is_dir lines line) lines at
  is_last at l m h d = record {
    front = take at lines;
    back = drop (at + 1) lines;
    joined = sym (take-append-drop at lines) ∙ ap (λ z. take at lines ++ z) (drop_more lines at d l);
    matches = m d;
    none_after = recursion_from_All (λ line. LineMatches line path is_dir → ⊥) (drop (at + 1) lines) (none_in (at + 1) h);
  }

  module _ (s t : ℕ → Bool) (are : AreTags lines tags) (covers : (tag : ℕ) → HasTag path tag → (s tag ≡ true) ⊎ (t tag ≡ true)) where
    abbrev pub Found : ℕ → Type 0
    Found at = (at < length lines) × HoldsAt (λ line. IsLastMatch path is_dir lines line) lines at

    pub found_later : (at later : ℕ) → IsLastTagged s path is_dir lines tags 0 at → IsLastTagged t path is_dir lines tags (at + 1) later → Found later
    found_later at later a b = (b.within, is_last later b.within b.matches (none_from s t are covers (later + 1) (fewer s (at + 1) (later + 1) (let k = b.from in omega arith) a.none_after) b.none_after))

    pub found_first : (at : ℕ) → IsLastTagged s path is_dir lines tags 0 at → NoneTagged t path is_dir lines tags (at + 1) → Found at
    found_first at a b = (a.within, is_last at a.within a.matches (none_from s t are covers (at + 1) a.none_after b))

    pub found_second : (at : ℕ) → NoneTagged s path is_dir lines tags 0 → IsLastTagged t path is_dir lines tags 0 at → Found at
    found_second at a b = (b.within, is_last at b.within b.matches (none_from s t are covers (at + 1) (fewer s 0 (at + 1) (omega arith) a) b.none_after))

    pub found_none : NoneTagged s path is_dir lines tags 0 → NoneTagged t path is_dir lines tags 0 → NoneMatches path is_dir lines
    found_none a b = none_matches (none_from s t are covers 0 a b)

    pub found_last : (o : Option ℕ) → NoneTagged s path is_dir lines tags 0 → MatchOption o (NoneTagged t path is_dir lines tags 0) (λ at. IsLastTagged t path is_dir lines tags 0 at) → MatchOption o (NoneMatches path is_dir lines) (λ at. Found at)
    found_last None a b = found_none a b
    found_last (Some at) a b = found_second at a b
