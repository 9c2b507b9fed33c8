use Rattle.std.proofs.Common.{◌≡◌, true, ◌∷◌, ◌++◌, ◌∙◌, ap, append_assoc, arith, length, map, rules, subst, sym}
use Rattle.glob_text.specs.Marks.{mark_of}
use Rattle.glob_text.specs.Merged.{is_letter, letters_of, AreLetters, last, more}
use Rattle.glob_text.proofs.merged.read_letters.Goals as goal

pub loop-mark-preserved : goal.loop-mark-preserved
loop-mark-preserved g c =
    let o = c.args.separators in
    let text = map mark_of c.args.text.now in
    let m = mark_of c.in-Some.mark.now in
    let own = c.loop-mark.ranges.items in
    let letter : is_letter o m ≡ true = search rules in
    let left = c.in-Some.ensures.cases.0 ∙ ap (λ z. c.in-Some.mark.now ∷ z) c.in-Some-split_first.ensures.cases.0 in
    let begins = ap (map mark_of) left ∙ ap (λ z. m ∷ (mark_of z ∷ map mark_of c.in-Some-split_first.after.now)) c.in-Comma.is in (
      λ ranges after h. subst (λ z. AreLetters o text z after) (sym (append_assoc own (letters_of m) ranges) ∙ ap (λ z. z ++ ranges) (sym c.in_ok-push_letters.ensures))
          (c.loop-mark.invariant.0 (letters_of m ++ ranges) after (subst (λ z. AreLetters o z (letters_of m ++ ranges) after) (sym begins) (more m letter h))),
      omega (arith, c.loop-mark.invariant.1, ap length left),
    )

pub returns-in-Close-clause-letters : goal.returns-in-Close-clause-letters
returns-in-Close-clause-letters g c =
    let o = c.args.separators in
    let text = map mark_of c.args.text.now in
    let m = mark_of c.in-Some.mark.now in
    let after = map mark_of c.in-Some-split_first.after.now in
    let letter : is_letter o m ≡ true = search rules in
    let left = c.in-Some.ensures.cases.0 ∙ ap (λ z. c.in-Some.mark.now ∷ z) c.in-Some-split_first.ensures.cases.0 in
    let begins = ap (map mark_of) left ∙ ap (λ z. m ∷ (mark_of z ∷ after)) c.in-Close.is in
    subst (λ z. AreLetters o text z after) (sym c.in_ok-push_letters.ensures)
    (c.loop-mark.invariant.0 (letters_of m) after (subst (λ z. AreLetters o z (letters_of m) after) (sym begins) (last m c.in-Close.field-0 after letter)))
