-- A formatter as a sink.
use Rattle.std.specs.Prelude.{◌≡◌, ℕ, ◌+◌, ◌<◌, List, [], ◌∷◌, ◌++◌, length, drop, get_or}
use Rattle.std.specs.{Fmt.HasWrittenStyled, Fmt.IsFlush, List.concat, List.FoldsTo, Str.IsUtf8, declared.fmt.Formatter.Formatter}
use Rattle.std.proofs.Common.{refl, sym, ◌∙◌, ap, subst, arith, append_assoc, length-append}
use Rattle.std.proofs.Math.Seq.{get_or-append_seam}
use Rattle.std.proofs.lemmas.List.{take_at, drop_at}
use Rattle.std.proofs.lemmas.Str.{IsCharBoundary-after_ascii, IsCharBoundary-before_ascii, IsUtf8-drop, IsUtf8-take}
use Rattle.platform_str.specs.Sinks.{PieceRules, SinkRules}

pub joined_parts : (xs ys : List (List ℕ)) → concat (xs ++ ys) ≡ concat xs ++ concat ys
joined_parts [] ys = refl
joined_parts (x ∷ xs) ys = ap (λ l. x ++ l) (joined_parts xs ys) ∙ sym (append_assoc x (concat xs) (concat ys))

module _ {W : Type 0} (wrote : W → List ℕ → W → Type 0) where
  pub both_calls : (xs ys : List (List ℕ)) (s t u : W) → FoldsTo wrote s xs t → FoldsTo wrote t ys u → FoldsTo wrote s (xs ++ ys) u
  both_calls [] ys s t u e calls = subst (λ w. FoldsTo wrote w ys u) (sym e) calls
  both_calls (x ∷ xs) ys s t u first calls = (first.0, first.1, both_calls xs ys first.0 t u first.2 calls)

  pub both_written : (f g h : Formatter W) (a b : List ℕ) → HasWrittenStyled wrote f a g → HasWrittenStyled wrote g b h → HasWrittenStyled wrote f (a ++ b) h
  both_written f g h a b p q = record {
    wrote = record {
      parts = p.wrote.parts ++ q.wrote.parts;
      calls = both_calls p.wrote.parts q.wrote.parts _ _ _ p.wrote.calls q.wrote.calls;
      whole = joined_parts p.wrote.parts q.wrote.parts ∙ ap (λ x. x ++ concat q.wrote.parts) p.wrote.whole ∙ ap (λ x. a ++ x) q.wrote.whole;
    };
    spec = q.spec ∙ p.spec;
    flush = q.flush;
  }

  -- what it took is written; it may reject anything, and nothing is known of it after that, since `fmt::Write` states nothing of an error
  abbrev pub formatter_rules : SinkRules (Formatter W)
  formatter_rules = record {
    took = λ f text g. IsFlush f → HasWrittenStyled wrote f text g;
    has_room = λ f text. Unit {0};
    rejects = λ f text g. Unit {0};
    took_nothing = λ f flush. record { wrote = record { parts = []; calls = refl; whole = refl }; spec = refl; flush = flush };
    took_both = λ f g h a b first next flush. let p = first flush in both_written f g h a b p (next p.flush);
    room_before = λ f a b room. tt;
    room_after = λ f g a b took room. tt;
    rejects_after = λ f g h a b c took rejected. tt;
  }

-- a text is cut around an ASCII character between two texts
module _ (prefix after : List ℕ) (c : ℕ) (ascii : c < 0x80) (u : IsUtf8 (prefix ++ c ∷ after)) where
  within : length prefix < length (prefix ++ c ∷ after)
  within = omega (arith, length-append prefix (c ∷ after))

  at : get_or (prefix ++ c ∷ after) (length prefix) 0 < 128
  at = omega (arith, ascii, get_or-append_seam prefix c after 0)

  pub text_before : IsUtf8 prefix
  text_before = subst IsUtf8 (take_at prefix (c ∷ after) (length prefix) refl) (IsUtf8-take _ _ u (IsCharBoundary-before_ascii _ _ within at))

  pub text_after : IsUtf8 after
  text_after = subst IsUtf8 (drop_at (prefix ++ c ∷ []) after (length prefix + 1) (length-append prefix (c ∷ []))) (subst (λ x. IsUtf8 (drop (length prefix + 1) x)) (sym (append_assoc prefix (c ∷ []) after)) (IsUtf8-drop _ _ u (IsCharBoundary-after_ascii _ _ u within at)))

-- it accepts UTF-8
abbrev pub text_pieces : PieceRules
text_pieces = record { accepts = IsUtf8; text = λ piece u. u; before = text_before; after = text_after }
