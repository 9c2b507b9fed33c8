use Rattle.std.proofs.Common.{◌≡◌, ◌∙◌, false, true, refl, sym}
use Rattle.std.proofs.lemmas.Bool.{eqb-true}
use Rattle.std.proofs.lemmas.List.{nil_from_length}
use Rattle.wildcards.specs.Match.{Fits, TakesLetter}
use Rattle.wildcards.proofs.lemmas.Fitting.{by_letters, letter_taken}
use Rattle.wildcards.proofs.lemmas.Wilds.{takes_rest, skipped_after, all_after, next_many, none_after, next_place}
use Rattle.wildcards.proofs.run.is_after_many.Goals as goal

pub returns-then-is_empty : goal.returns-then-is_empty
returns-then-is_empty g c =
    (λ e. c.loop-left.invariant.0.alike.1 (takes_rest TakesLetter Fits letter_taken _ _ (nil_from_length _ (eqb-true _ _ (sym c.is_empty.ensures ∙ c.if-is_empty.true)))), λ m. refl)

pub returns-in-All : goal.returns-in-All
returns-in-All g c = (λ e. all_after TakesLetter Fits by_letters _ _ _ _ (skipped_after TakesLetter Fits by_letters _ _ _ _ c.loop-left.invariant.0 _ c.from_first-from.ensures.alike) c.in-All.ensures, λ m. refl)

pub loop-left-preserved-in-Many : goal.loop-left-preserved-in-Many
loop-left-preserved-in-Many g c = (next_many TakesLetter Fits by_letters _ _ _ _ (skipped_after TakesLetter Fits by_letters _ _ _ _ c.loop-left.invariant.0 _ c.from_first-from.ensures.alike) _ _ c.in-Many.ensures.0, c.in-Many.ensures.1.1)

pub returns-in_default : goal.returns-in_default
returns-in_default g c =
    let no : ¬ (false ≡ true) = λ e. cc in
    (λ e. absurd (no e), λ m. absurd (none_after TakesLetter Fits by_letters _ _ _ _ (skipped_after TakesLetter Fits by_letters _ _ _ _ c.loop-left.invariant.0 _ c.from_first-from.ensures.alike) c.in-Differs.ensures c.in_default.ensures m))

pub loop-left-preserved : goal.loop-left-preserved
loop-left-preserved g c =
    let first = c.in-Some.ensures in
    (next_place TakesLetter Fits by_letters _ _ _ _ (skipped_after TakesLetter Fits by_letters _ _ _ _ c.loop-left.invariant.0 _ c.from_first-from.ensures.alike) c.in-Differs.ensures _ _ first.letters_are tt, first.formed_after)

pub loop-left-preserved-then-places-gt0 : goal.loop-left-preserved-then-places-gt0
loop-left-preserved-then-places-gt0 g c =
    let first = c.in-Some.ensures in
    (next_place TakesLetter Fits by_letters _ _ _ _ (skipped_after TakesLetter Fits by_letters _ _ _ _ c.loop-left.invariant.0 _ c.from_first-from.ensures.alike) c.in-Differs.ensures _ _ first.letters_are tt, first.formed_after)

pub returns-in-Some-is_after_many_by_flags : goal.returns-in-Some-is_after_many_by_flags
returns-in-Some-is_after_many_by_flags g c =
    let first = c.in-Some.ensures in
    let after = next_place TakesLetter Fits by_letters _ _ _ _ (skipped_after TakesLetter Fits by_letters _ _ _ _ c.loop-left.invariant.0 _ c.from_first-from.ensures.alike) c.in-Differs.ensures _ _ first.letters_are tt in
    let found = c.in-Some-is_after_many_by_flags.ensures in
    (λ e. after.alike.1 (found.0 e), λ m. found.1 (after.alike.0 m))
