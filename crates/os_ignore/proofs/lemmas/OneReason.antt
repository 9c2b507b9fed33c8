-- A line that is no pattern is none for one reason.
use Rattle.std.proofs.Common.{◌≡◌, ℕ, Bool, true, false, Option, Some, None, List, [], ◌∷◌, refl, sym, ap, ◌∙◌, subst}
use Rattle.os_ignore.specs.declared.letter.Letter.{Letter}
use Rattle.os_ignore.specs.declared.pattern.After.{After}
use Rattle.os_ignore.specs.declared.pattern.After.TheVariants as after
use Rattle.os_ignore.specs.declared.reason.NoPattern.{NoPattern}
use Rattle.os_ignore.specs.Files.{HasReason}
use Rattle.os_ignore.specs.Lines as lines
use Rattle.os_ignore.specs.Lines.{strip_first, after_literal, EndsQuoted, LettersSayNothing, SaysNothing}
use Rattle.os_ignore.specs.PatternText.{EndsPart, IsPiece, IsGroup, NextGroup, IsBrokenHere, IsBrokenPart, IsBrokenPattern, left_after, text_of}
use Rattle.os_ignore.proofs.lemmas.OneMeaning.{not_both, not_quoted, same_body, same_trimmed}
use Rattle.os_ignore.proofs.lemmas.OneReading.{same_letters, not_dangling}
use Rattle.os_ignore.proofs.lemmas.SameFiles.{one_text}
use Rattle.wildcards.specs.Items.{Reads}
use Rattle.wildcards.specs.declared.part.Part.{Part}
use Rattle.wildcards.specs.declared.piece.Item.{Item}
use Rattle.wildcards.specs.declared.piece.Piece.{Piece}

module _ (folds : Bool) (A : Type 0) where
  -- nothing is no broken pattern
  no_pieces : (pieces : List (Piece (Item A))) (left : List Letter) → Reads (IsPiece folds) [] pieces left → [] ≡ left
  no_pieces [] left r = r
  no_pieces (p ∷ ps) left r = absurd r.1

  not_here : (left : List Letter) → [] ≡ left → IsBrokenHere left → ⊥
  not_here [] e h = h
  not_here (l ∷ ls) e h = let never : [] ≡ l ∷ ls = e in absurd cc

  not_part : IsBrokenPart folds A [] → ⊥
  not_part h = not_here h.left (no_pieces h.pieces h.left h.read) h.broken

  ends_all : (left : List Letter) (a : After) → [] ≡ left → EndsPart left a → text_of (left_after a) ≡ None
  ends_all left after.End e h = refl
  ends_all left (after.Slash quoted rest) e h = let never : [] ≡ record { byte = 0x2F; quoted = quoted } ∷ rest.now = e ∙ h in absurd cc

  last_group : (pieces : List (Piece (Part A))) (state : Option (List Letter)) → IsGroup folds [] pieces state → state ≡ None
  last_group pieces state g = g.left_is ∙ ends_all g.read.left g.after (no_pieces g.part.pieces.items g.read.left g.read.read) g.read.ends

  none_after : (state : Option (List Letter)) (groups : List (List (Piece (Part A)))) (left : List Letter) → state ≡ None → Reads (NextGroup folds) state groups (Some left) → ⊥
  none_after state [] left e r = let never : None ≡ Some left = sym e ∙ r in absurd cc
  none_after None (g ∷ gs) left e r = r.1
  none_after (Some text) (g ∷ gs) left e r = let never : Some text ≡ None = e in absurd cc

  not_empty : (groups : List (List (Piece (Part A)))) (left : List Letter) → Reads (NextGroup folds) (Some []) groups (Some left) → IsBrokenPart folds A left → ⊥
  not_empty [] left r h = let same : [] ≡ left = cc in not_part (subst (IsBrokenPart folds A) (sym same) h)
  not_empty (g ∷ gs) left r h = none_after r.0 gs left (last_group g r.0 r.1) r.2

  not_nothing : (text : List Letter) → text ≡ [] → IsBrokenPattern folds A text → ⊥
  not_nothing text e h = let k = subst (IsBrokenPattern folds A) e h in not_empty k.groups k.left k.read k.broken

  -- letters that end with a slash that is quoted have no body
  no_body : (letters trimmed : List Letter) (t d : Bool) (body : List Letter) → lines.IsTrimmed letters trimmed → EndsQuoted (strip_first 0x21 trimmed).1 → lines.IsBody letters t d body → ⊥
  no_body letters trimmed t d body h q b =
      not_quoted (strip_first 0x21 b.trimmed).1 d body b.stripped (subst (λ z. EndsQuoted (strip_first 0x21 z).1) (same_trimmed letters trimmed b.trimmed h b.without_blanks) q)

  -- nothing is left of the letters, or a class in what is left isn't one
  not_both_bodies : (letters : List Letter) (t d u e : Bool) (b c : List Letter) → lines.IsBody letters t d b → (strip_first 0x2F b).1 ≡ [] → lines.IsBody letters u e c → IsBrokenPattern folds A (after_literal (strip_first 0x2F c).1) → ⊥
  not_both_bodies letters t d u e b c h f k g =
      let same = same_body letters t d u e b c h k in
      not_nothing (after_literal (strip_first 0x2F c).1) (ap (λ z. after_literal (strip_first 0x2F z).1) (sym same.1.1) ∙ ap after_literal f) g

  letters_reason : (letters : List Letter) (r s : NoPattern) → LettersSayNothing folds A letters r → LettersSayNothing folds A letters s → r ≡ s
  letters_reason letters r s (lines.quoted_slash h q e) (lines.quoted_slash k p f) = e ∙ sym f
  letters_reason letters r s (lines.quoted_slash h q e) (lines.empty k p f) = absurd (no_body letters _ _ _ _ h q k)
  letters_reason letters r s (lines.quoted_slash h q e) (lines.broken k p f) = absurd (no_body letters _ _ _ _ h q k)
  letters_reason letters r s (lines.empty h q e) (lines.quoted_slash k p f) = absurd (no_body letters _ _ _ _ k p h)
  letters_reason letters r s (lines.empty h q e) (lines.empty k p f) = e ∙ sym f
  letters_reason letters r s (lines.empty h q e) (lines.broken k p f) = absurd (not_both_bodies letters _ _ _ _ _ _ h q k p)
  letters_reason letters r s (lines.broken h q e) (lines.quoted_slash k p f) = absurd (no_body letters _ _ _ _ k p h)
  letters_reason letters r s (lines.broken h q e) (lines.empty k p f) = absurd (not_both_bodies letters _ _ _ _ _ _ k p h q)
  letters_reason letters r s (lines.broken h q e) (lines.broken k p f) = e ∙ sym f

  text_reason : (text : List ℕ) (r s : NoPattern) → SaysNothing folds A text r → SaysNothing folds A text s → r ≡ s
  text_reason text r s (lines.comment c e) (lines.comment d f) = e ∙ sym f
  text_reason text r s (lines.comment c e) (lines.dangling n d f) = let never : true ≡ false = sym c ∙ n in absurd cc
  text_reason text r s (lines.comment c e) (lines.letters n d f) = let never : true ≡ false = sym c ∙ n in absurd cc
  text_reason text r s (lines.dangling n d e) (lines.comment c f) = let never : true ≡ false = sym c ∙ n in absurd cc
  text_reason text r s (lines.dangling n d e) (lines.dangling m c f) = e ∙ sym f
  text_reason text r s (lines.dangling n d e) (lines.letters m k f) = absurd (not_dangling text _ k d)
  text_reason text r s (lines.letters n d e) (lines.comment c f) = let never : true ≡ false = sym c ∙ n in absurd cc
  text_reason text r s (lines.letters n d e) (lines.dangling m c f) = absurd (not_dangling text _ d c)
  text_reason text r s (lines.letters n d e) (lines.letters m k f) = letters_reason _ r s (subst (λ z. LettersSayNothing folds A z r) (same_letters text _ _ d k) e) f

-- a line is a pattern, or is none for one reason
pub one_reason : (A : Type 0) (line : List ℕ) (a b : Option NoPattern) → HasReason A line a → HasReason A line b → a ≡ b
one_reason A line None None h k = refl
one_reason A line None (Some s) h k = absurd (not_both false h.0 h.2 s h.3 (subst (λ z. SaysNothing false A z s) (one_text line k.0 h.0 k.1 h.1) k.2))
one_reason A line (Some r) None h k = absurd (not_both false k.0 k.2 r k.3 (subst (λ z. SaysNothing false A z r) (one_text line h.0 k.0 h.1 k.1) h.2))
one_reason A line (Some r) (Some s) h k = ap Some (text_reason false A k.0 r s (subst (λ z. SaysNothing false A z r) (one_text line h.0 k.0 h.1 k.1) h.2) k.2)
