use Rattle.std.proofs.Common.{◌≡◌, ◌≢◌, ◌<◌, ◌≤◌, ℕ, List, refl, subst, length, get_or}
use Rattle.std.proofs.lemmas.List.{get_or_default}
use Rattle.ucd_case.specs.CaseFolding.{fold_pairs, IsFoldPairs}
use Rattle.glob_text.proofs.lemmas.Folding.{alone_at, alone_past, not_alone}
use Rattle.glob_text.proofs.fold.is_alone.Goals as goal

pub returns-then-at-pairs : goal.returns-then-at-pairs
returns-then-at-pairs c =
    let table = c.fold_pairs-pairs.ensures.table in
    let meaning = subst IsFoldPairs table c.fold_pairs-pairs.ensures.meaning in
    let past = subst (λ z. length z ≤ c.first_pair-at.result) table c.if-at-pairs.true in
    (λ _. alone_past meaning c.args.letter c.first_pair-at.result c.first_pair-at.ensures past, λ _. refl)

pub returns-then-first-letter : goal.returns-then-first-letter
returns-then-first-letter c =
    let at = c.first_pair-at.result in
    let p = get_or fold_pairs at (0, 0) in
    let table = c.fold_pairs-pairs.ensures.table in
    let meaning = subst IsFoldPairs table c.fold_pairs-pairs.ensures.meaning in
    let within = subst (λ z. at < length z) table c.if-at-pairs.false in
    let same = subst (λ (z : List (ℕ × ℕ)). (get_or z at (0, 0)).0 ≡ c.args.letter) table c.if-first-letter.true in
    (λ never. absurd cc, λ h. absurd (not_alone meaning c.args.letter at p within (get_or_default fold_pairs at (0, 0) p within) same h))

pub returns : goal.returns
returns c =
    let at = c.first_pair-at.result in
    let p = get_or fold_pairs at (0, 0) in
    let table = c.fold_pairs-pairs.ensures.table in
    let meaning = subst IsFoldPairs table c.fold_pairs-pairs.ensures.meaning in
    let within = subst (λ z. at < length z) table c.if-at-pairs.false in
    let apart = subst (λ (z : List (ℕ × ℕ)). (get_or z at (0, 0)).0 ≢ c.args.letter) table c.if-first-letter.false in
    (λ _. alone_at meaning c.args.letter at p c.first_pair-at.ensures within (get_or_default fold_pairs at (0, 0) p within) apart, λ _. refl)
