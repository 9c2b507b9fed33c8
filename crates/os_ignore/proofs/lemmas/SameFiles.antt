-- Files that are read from the same text have the same verdicts.
use Rattle.std.proofs.Common.{◌≡◌, inl, inr, ◌+◌, ℕ, Bool, true, false, Result, Ok, Err, List, [], ◌∷◌, ◌++◌, length, refl, sym, ap, ◌∙◌, subst}
use Rattle.std.specs.List.{AllByRecursion, AllZip}
use Rattle.std.proofs.lemmas.List.{same_from_push}
use Rattle.os_ignore.specs.declared.file.File.{File}
use Rattle.os_ignore.specs.declared.line.Line.{Line}
use Rattle.os_ignore.specs.declared.reason.NoPattern.{NoPattern}
use Rattle.os_ignore.specs.declared.reason.NoPattern.TheVariants.{Empty}
use Rattle.os_ignore.specs.declared.verdict.Verdict.{Verdict}
use Rattle.os_ignore.specs.declared.verdict.Verdict.TheVariants.{Neither, Ignored, TakenIn}
use Rattle.os_ignore.specs.Components.{pieces}
use Rattle.os_ignore.specs.Files.{IsWithoutReturn, IsLineText, SaysLine, IsNextLine, NextLine, IsLineRead, AreLines, list_of, without_mark}
use Rattle.os_ignore.specs.Ignores.{IsFileAt, AreOfOneText, IsBlanked}
use Rattle.os_ignore.specs.Lines as lines
use Rattle.os_ignore.specs.Lines.{IsBody, SaysNothing}
use Rattle.os_ignore.specs.Matching.{LineMatches}
use Rattle.wildcards.specs.Items.{Reads, concat_of}
use Rattle.os_ignore.specs.Verdicts as rule
use Rattle.os_ignore.specs.Verdicts.{IsBelow, NoneMatches, IsLastMatch, FileIsSilent, Decides, IsOwn, AreShown, IsVerdict}
use Rattle.os_ignore.proofs.lemmas.OneMeaning.{one_meaning, not_both}
use Rattle.os_ignore.proofs.lemmas.OneReading.{same_items, zip_concat}
use Rattle.os_ignore.proofs.lemmas.OneVerdict.{one_verdict}

-- what is related to an element of a list, and to what comes after it
module _ {X : Type 0} (R : X → X → Type 0) where
  record Split (x : X) (back ys : List X) : Type 0 where
    before : List X
    y : X
    after : List X
    joined : ys ≡ before ++ y ∷ after
    same : R x y
    rest : AllZip R back after

  split : (front : List X) (x : X) (back ys : List X) → AllZip R (front ++ x ∷ back) ys → Split x back ys
  split [] x back [] z = absurd z
  split [] x back (y ∷ ys) z = record { before = []; y = y; after = ys; joined = refl; same = z.0; rest = z.1 }
  split (w ∷ front) x back [] z = absurd z
  split (w ∷ front) x back (y ∷ ys) z =
      let h = split front x back ys z.1 in
      record { before = y ∷ h.before; y = h.y; after = h.after; joined = ap (λ v. y ∷ v) h.joined; same = h.same; rest = h.rest }

  itself : ((x : X) → R x x) → (xs : List X) → AllZip R xs xs
  itself r [] = tt
  itself r (x ∷ xs) = (r x, itself r xs)

  between : ((x : X) → R x x) → (front : List X) (x y : X) (back : List X) → R x y → AllZip R (front ++ x ∷ back) (front ++ y ∷ back)
  between r [] x y back h = (h, itself r back)
  between r (w ∷ front) x y back h = (r w, between r front x y back h)

one_whole : (line w v : List ℕ) → IsWithoutReturn line w → IsWithoutReturn line v → w ≡ v
one_whole line w v (inl h) (inl k) = (same_from_push w v 0xD 0xD (sym h ∙ k)).0
one_whole line w v (inl h) (inr k) = absurd (k.1 w h)
one_whole line w v (inr h) (inl k) = absurd (h.1 v k)
one_whole line w v (inr h) (inr k) = h.0 ∙ sym k.0

pub one_text : (line t u : List ℕ) → IsLineText line t → IsLineText line u → t ≡ u
one_text line t u h k =
    let e : t ∷ h.more ≡ u ∷ k.more = sym h.first ∙ ap (pieces 0x0) (one_whole line h.whole k.whole h.without_return k.without_return) ∙ k.first in
    cc

no_last : {X : Type 0} (front : List X) (x : X) → [] ≡ front ++ x ∷ [] → ⊥
no_last [] x e = absurd cc
no_last (y ∷ front) x e = absurd cc

empty_text : IsLineText [] []
empty_text = record { whole = []; without_return = inr (refl, λ front e. no_last front 0xD e); more = []; first = refl }

empty_says : (folds : Bool) (A : Type 0) → SaysNothing folds A [] Empty
empty_says folds A = lines.letters {letters = []} refl refl (lines.empty {takes_in = false} {directories = false} {body = []} body refl refl)
  where
    body : IsBody [] false false []
    body = record {
      trimmed = [];
      without_blanks = record { blanks = []; joined = refl; blank = tt; no_more = λ front l e. absurd (no_last front l e) };
      taken = refl;
      stripped = (refl, λ front l e. absurd (no_last front l e));
    }

module _ {A : Type 0} where
  abbrev SameLine : Line A → Line A → Type 0
  SameLine a b = (a.number ≡ b.number) × ((a.takes_in ≡ b.takes_in) × ((path : List ℕ) (is_dir : Bool) → (LineMatches a path is_dir → LineMatches b path is_dir) × (LineMatches b path is_dir → LineMatches a path is_dir)))

  abbrev SameFile : File A → File A → Type 0
  SameFile f g = (f.number ≡ g.number) × ((f.directory.items ≡ g.directory.items) × AllZip SameLine f.lines.items g.lines.items)

  own_line : (a : Line A) → SameLine a a
  own_line a = (refl, (refl, λ path is_dir. (λ m. m, λ m. m)))

  own_file : (f : File A) → SameFile f f
  own_file f = (refl, (refl, itself SameLine own_line f.lines.items))

  -- the lines of a text
  same_said : (folds : Bool) (number : ℕ) (text : List ℕ) (o p : Result (Line A) NoPattern) → SaysLine folds number text o → SaysLine folds number text p → AllZip SameLine (list_of o) (list_of p)
  same_said folds number text (Err reason) (Err other) h k = tt
  same_said folds number text (Err reason) (Ok b) h k = absurd (not_both folds text b reason k.1 h)
  same_said folds number text (Ok a) (Err reason) h k = absurd (not_both folds text a reason h.1 k)
  same_said folds number text (Ok a) (Ok b) h k =
      let there = one_meaning folds text a b h.1 k.1 in
      let back = one_meaning folds text b a k.1 h.1 in
      ((h.0 ∙ sym k.0, (there.0, λ path is_dir. (there.1 path is_dir, back.1 path is_dir))), tt)

  one_read : (folds : Bool) (from : ℕ × List (List ℕ)) (xs bs : List (Line A)) (e f : ℕ × List (List ℕ)) → IsLineRead folds from xs e → IsLineRead folds from bs f → (e ≡ f) × AllZip SameLine xs bs
  one_read folds from xs bs e f h k = go from.1 h k
    where
      go : (ls : List (List ℕ)) → NextLine folds from.0 ls xs e → NextLine folds from.0 ls bs f → (e ≡ f) × AllZip SameLine xs bs
      go [] h k = absurd h
      go (line ∷ ls) h k =
          let text = one_text line h.text k.text h.read k.read in
          let same = same_said folds from.0 k.text h.says k.says (subst (λ z. SaysLine folds from.0 z h.says) text h.text_says) k.text_says in (
            h.left_is ∙ sym k.left_is,
            subst (λ z. AllZip SameLine z bs) (sym h.said_is) (subst (λ z. AllZip SameLine (list_of h.says) z) (sym k.said_is) same),
          )

  same_lines : (folds : Bool) (content : List ℕ) (xs bs : List (Line A)) → AreLines folds content xs → AreLines folds content bs → AllZip SameLine xs bs
  same_lines folds content xs bs h k =
      let same = same_items (IsLineRead folds) (AllZip SameLine) (one_read folds) (1, pieces 0xA (without_mark content)) h.read.lists k.read.lists (h.count, []) (k.count, []) h.read.read k.read.read (λ o e s. s) (λ o e s. s) in
      subst (λ z. AllZip SameLine z bs) (sym h.read.joined) (subst (λ z. AllZip SameLine (concat_of h.read.lists) z) (sym k.read.joined) (zip_concat SameLine h.read.lists k.read.lists same.1))

  one_content : (folds : Bool) (number : ℕ) (directory content : List ℕ) (f g : File A) → IsFileAt folds number directory content f → IsFileAt folds number directory content g → SameFile f g
  one_content folds number directory content f g h k = (h.number_is ∙ sym k.number_is, (h.directory_is ∙ sym k.directory_is, same_lines folds content f.lines.items g.lines.items h.lines k.lines))

  -- their verdicts
  module _ (path : List ℕ) (is_dir : Bool) where
    none_too : (xs bs : List (Line A)) → AllZip SameLine xs bs → NoneMatches path is_dir xs → NoneMatches path is_dir bs
    none_too [] [] z h = tt
    none_too [] (b ∷ bs) z h = absurd z
    none_too (a ∷ xs) [] z h = absurd z
    none_too (a ∷ xs) (b ∷ bs) z h = (λ m. h.0 ((z.0.1.1 path is_dir).1 m), none_too xs bs z.1 h.1)

    last_too : (xs bs : List (Line A)) (a : Line A) → AllZip SameLine xs bs → IsLastMatch path is_dir xs a → (b : Line A) × (IsLastMatch path is_dir bs b × SameLine a b)
    last_too xs bs a z m =
        let h = split SameLine m.front a m.back bs (subst (λ v. AllZip SameLine v bs) m.joined z) in (
          h.y,
          (record { front = h.before; back = h.after; joined = h.joined; matches = (h.same.1.1 path is_dir).0 m.matches; none_after = none_too m.back h.after h.rest m.none_after }, h.same),
        )

  silent_too : (path : List ℕ) (is_dir : Bool) (f g : File A) → SameFile f g → FileIsSilent path is_dir f → FileIsSilent path is_dir g
  silent_too path is_dir f g z s = λ rest b. none_too rest is_dir f.lines.items g.lines.items z.1.1 (s rest (subst (λ d. IsBelow d path rest) (sym z.1.0) b))

  all_silent : (path : List ℕ) (is_dir : Bool) (fs gs : List (File A)) → AllZip SameFile fs gs → AllByRecursion (FileIsSilent path is_dir) fs → AllByRecursion (FileIsSilent path is_dir) gs
  all_silent path is_dir [] [] z h = tt
  all_silent path is_dir [] (g ∷ gs) z h = absurd z
  all_silent path is_dir (f ∷ fs) [] z h = absurd z
  all_silent path is_dir (f ∷ fs) (g ∷ gs) z h = (silent_too path is_dir f g z.0 h.0, all_silent path is_dir fs gs z.1 h.1)

  module _ (fs gs : List (File A)) (z : AllZip SameFile fs gs) where
    decides_too : (path : List ℕ) (is_dir taken : Bool) (number line : ℕ) → Decides fs path is_dir taken number line → Decides gs path is_dir taken number line
    decides_too path is_dir taken number line d =
        let h = split SameFile d.front d.file d.back gs (subst (λ v. AllZip SameFile v gs) d.joined z) in
        let last = last_too d.decides.rest is_dir d.file.lines.items h.y.lines.items d.line h.same.1.1 d.decides.last in
        record {
          front = h.before;
          file = h.y;
          back = h.after;
          joined = h.joined;
          line = last.0;
          decides = record { rest = d.decides.rest; below = subst (λ v. IsBelow v path d.decides.rest) h.same.1.0 d.decides.below; last = last.1.0 };
          none_after = all_silent path is_dir d.back h.after h.rest d.none_after;
          taken = sym last.1.1.1.0 ∙ d.taken;
          numbers = (sym h.same.0 ∙ d.numbers.0, sym last.1.1.0 ∙ d.numbers.1);
        }

    own_too : (path : List ℕ) (is_dir : Bool) (v : Verdict) → IsOwn fs path is_dir v → IsOwn gs path is_dir v
    own_too path is_dir Neither h = all_silent path is_dir fs gs z h
    own_too path is_dir (Ignored file line) h = decides_too path is_dir false file line h
    own_too path is_dir (TakenIn file line) h = decides_too path is_dir true file line h

    shown_too : (path : List ℕ) (n : ℕ) → AreShown fs path n → AreShown gs path n
    shown_too path n h front back cut l = let s = h front back cut l in record { verdict = s.verdict; own = own_too front true s.verdict s.own; shown = s.shown }

    verdict_too : (path : List ℕ) (is_dir : Bool) (v : Verdict) → IsVerdict fs path is_dir v → IsVerdict gs path is_dir v
    verdict_too path is_dir v (rule.hidden h) = rule.hidden (record { front = h.front; back = h.back; above = h.above; own = own_too h.front true v h.own; ignored = h.ignored; first = shown_too path (length h.front) h.first })
    verdict_too path is_dir v (rule.own s h) = rule.own (shown_too path (length path) s) (own_too path is_dir v h)

    same_verdict : (path : List ℕ) (is_dir : Bool) (v w : Verdict) → IsVerdict fs path is_dir v → IsVerdict gs path is_dir w → v ≡ w
    same_verdict path is_dir v w h k = one_verdict gs path is_dir v w (verdict_too path is_dir v h) k

  texts : (fs gs : List (File A)) → AllZip AreOfOneText fs gs → AllZip SameFile fs gs
  texts [] [] z = tt
  texts [] (g ∷ gs) z = absurd z
  texts (f ∷ fs) [] z = absurd z
  texts (f ∷ fs) (g ∷ gs) z = (one_content z.0.folds z.0.number z.0.directory z.0.content f g z.0.file_is z.0.other_is, texts fs gs z.1)

  -- the verdict depends on the text alone
  pub by_text : (files : List (File A)) → (others : List (File A)) → AllZip AreOfOneText files others → (path : List ℕ) → (is_dir : Bool) → (v : Verdict) → (w : Verdict) → IsVerdict files path is_dir v → IsVerdict others path is_dir w → v ≡ w
  by_text files others z = same_verdict files others (texts files others z)

  -- an empty line in place of one that says nothing
  nothing : (folds : Bool) (number : ℕ) (o : Result (Line A) NoPattern) → SaysLine folds number [] o → list_of o ≡ []
  nothing folds number (Err reason) h = refl
  nothing folds number (Ok line) h = absurd (not_both folds [] line Empty h.1 (empty_says folds A))

  module _ (folds : Bool) (line text : List ℕ) (reason : NoPattern) (read : IsLineText line text) (says : SaysNothing folds A text reason) (back : List (List ℕ)) (count : ℕ) where
    not_end : (number : ℕ) (ls : List (List ℕ)) (l : List ℕ) → ◌≡◌ {A = ℕ × List (List ℕ)} (number, l ∷ ls) (count, []) → ⊥
    not_end number ls l e = let never : l ∷ ls ≡ [] = ap (λ z. z.1) e in absurd cc

    blank : (front : List (List ℕ)) (number : ℕ) (groups : List (List (Line A))) → Reads (IsLineRead folds) (number, front ++ [] ∷ back) groups (count, []) → Reads (IsLineRead folds) (number, front ++ line ∷ back) groups (count, [])
    blank [] number [] r = absurd (not_end number back [] r)
    blank (x ∷ front) number [] r = absurd (not_end number (front ++ [] ∷ back) x r)
    blank [] number (g ∷ gs) r =
        let h : IsNextLine folds number [] back g r.0 = r.1 in
        let none = nothing folds number h.says (subst (λ z. SaysLine folds number z h.says) (one_text [] h.text [] h.read empty_text) h.text_says) in
        (r.0, record { text = text; read = read; says = Err reason; text_says = says; said_is = h.said_is ∙ none; left_is = h.left_is }, r.2)
    blank (x ∷ front) number (g ∷ gs) r =
        let h : IsNextLine folds number x (front ++ [] ∷ back) g r.0 = r.1 in (
          (number + 1, front ++ line ∷ back),
          record { text = h.text; read = h.read; says = h.says; text_says = h.text_says; said_is = h.said_is; left_is = refl },
          blank front (number + 1) gs (subst (λ z. Reads (IsLineRead folds) z gs (count, [])) h.left_is r.2),
        )

  blanked : (folds : Bool) (content other : List ℕ) → IsBlanked folds A content other → (ls : List (Line A)) → AreLines folds other ls → AreLines folds content ls
  blanked folds content other b ls h = record {
    count = h.count;
    read = record {
      lists = h.read.lists;
      read = subst (λ z. Reads (IsLineRead folds) (1, z) h.read.lists (h.count, [])) (sym b.lines) (blank folds b.line b.text b.reason b.read b.says b.back h.count b.front 1 h.read.lists (subst (λ z. Reads (IsLineRead folds) (1, z) h.read.lists (h.count, [])) b.others h.read.read));
      joined = h.read.joined;
    };
  }

  -- a line that says nothing changes no verdict
  pub silent_line : (folds : Bool) → (content : List ℕ) → (other : List ℕ) → IsBlanked folds A content other → (number : ℕ) → (directory : List ℕ) → (file : File A) → (blank : File A) → IsFileAt folds number directory content file → IsFileAt folds number directory other blank → (front : List (File A)) → (back : List (File A)) → (path : List ℕ) → (is_dir : Bool) → (v : Verdict) → (w : Verdict) → IsVerdict (front ++ file ∷ back) path is_dir v → IsVerdict (front ++ blank ∷ back) path is_dir w → v ≡ w
  silent_line folds content other b number directory file blank h k front back =
      let same : SameFile file blank = (h.number_is ∙ sym k.number_is, (h.directory_is ∙ sym k.directory_is, same_lines folds content file.lines.items blank.lines.items h.lines (blanked folds content other b blank.lines.items k.lines))) in
      same_verdict (front ++ file ∷ back) (front ++ blank ∷ back) (between SameFile own_file front file blank back same)
