use Rattle.std.proofs.Common.{◌≡◌, ◌<◌, ◌≤◌, ℕ, List, ◌∷◌, ◌++◌, [], sym, ◌∙◌, true, subst, length, get_or}
use Rattle.std.proofs.lemmas.List.{get_or_default}
use Rattle.ucd_case.specs.CaseFolding.{fold_pairs, IsFoldPairs}
use Rattle.wildcards.specs.Ranges.{lies_in}
use Rattle.wildcards.specs.ClassName.{range}
use Rattle.glob_text.proofs.lemmas.Folding.{added_below, all_added, none_added, none_more, one_added}
use Rattle.glob_text.proofs.fold.push_alike.Goals as goal

pub returns-then-letter-range : goal.returns-then-letter-range
returns-then-letter-range g c =
    let at = c.loop-at.at in
    let p = get_or fold_pairs at (0, 0) in
    let table = c.fold_pairs-pairs.ensures.table in
    let meaning = subst IsFoldPairs table c.fold_pairs-pairs.ensures.meaning in
    let within = subst (λ z. at < length z) table c.loop-at-test.true in
    let past = subst (λ (z : List (ℕ × ℕ)). c.args.range.last < (get_or z at (0, 0)).0) table c.if-letter-range.true in
    added_below meaning c.args.range c.args.folded.now.items c.loop-at.folded.items at p c.loop-at.invariant within (get_or_default fold_pairs at (0, 0) p within) past

pub loop-at-init : goal.loop-at-init
loop-at-init g c = none_added (subst IsFoldPairs c.fold_pairs-pairs.ensures.table c.fold_pairs-pairs.ensures.meaning) c.args.range c.args.folded.now.items c.first_pair-at.result c.first_pair-at.ensures

pub loop-at-preserved-then-is_within : goal.loop-at-preserved-then-is_within
loop-at-preserved-then-is_within g c =
    let at = c.loop-at.at in
    let p = get_or fold_pairs at (0, 0) in
    let table = c.fold_pairs-pairs.ensures.table in
    let meaning = subst IsFoldPairs table c.fold_pairs-pairs.ensures.meaning in
    let within = subst (λ z. at < length z) table c.loop-at-test.true in
    let inside = subst (λ (z : List (ℕ × ℕ)). lies_in c.args.range (get_or z at (0, 0)).1 ≡ true) table (sym c.is_within.ensures ∙ c.if-is_within.true) in
    none_more meaning c.args.range c.args.folded.now.items c.loop-at.folded.items at p c.loop-at.invariant within (get_or_default fold_pairs at (0, 0) p within) inside

pub loop-at-preserved : goal.loop-at-preserved
loop-at-preserved g c =
    let at = c.loop-at.at in
    let now = c.loop-at.folded.items in
    let p = get_or fold_pairs at (0, 0) in
    let table = c.fold_pairs-pairs.ensures.table in
    let meaning = subst IsFoldPairs table c.fold_pairs-pairs.ensures.meaning in
    let within = subst (λ z. at < length z) table c.loop-at-test.true in
    let below = subst (λ (z : List (ℕ × ℕ)). (get_or z at (0, 0)).0 ≤ c.args.range.last) table c.if-letter-range.false in
    let more = subst (λ (z : List (ℕ × ℕ)). c.push.new.self.items ≡ now ++ range (get_or z at (0, 0)).1 (get_or z at (0, 0)).1 ∷ []) table c.in_ok-push.ensures.items in
    one_added meaning c.args.range c.args.folded.now.items now _ at p c.loop-at.invariant within (get_or_default fold_pairs at (0, 0) p within) below more

pub returns : goal.returns
returns g c =
    let at = c.loop-at.at in
    let table = c.fold_pairs-pairs.ensures.table in
    let meaning = subst IsFoldPairs table c.fold_pairs-pairs.ensures.meaning in
    all_added meaning c.args.range c.args.folded.now.items c.loop-at.folded.items at c.loop-at.invariant (subst (λ z. length z ≤ at) table c.loop-at-test.false)
