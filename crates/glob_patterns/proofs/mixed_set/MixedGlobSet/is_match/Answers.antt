use Rattle.std.proofs.Common.{◌≡◌, ◌↔◌, ℕ, true, false, refl, subst}
use Rattle.platform_str.specs.Strings.{bytes}
use Rattle.glob_patterns.specs.Letters.{letters_of}
use Rattle.glob_patterns.specs.MixedSets.{IsSetHit}
use Rattle.glob_patterns.specs.Readings.{letter_laws}
use Rattle.glob_patterns.proofs.lemmas.MixedSets.{match_of_globs, none_matched, set_matched, set_passed}
use Rattle.glob_patterns.proofs.mixed_set.MixedGlobSet.is_match.Goals as goal

pub returns-then-is_match-clause-value : goal.returns-then-is_match-clause-value
returns-then-is_match-clause-value g c =
    let sets = c.args.self.now.sets.items in
    let letters = letters_of g.E.Platform.units in
    let raw = c.as_encoded_bytes-bytes.result.now in
    let hit = set_matched sets (letters raw) c.in-Some.set.now c.in-Some.rest.now c.loop-set.left.now c.in-Some.ensures.cases.0 c.loop-set.invariant (c.is_match.ensures.0 c.if-is_match.true) in
    (λ e. subst (λ z. (i : ℕ) × IsSetHit sets (letters z) i) c.as_encoded_bytes-bytes.ensures.value hit, λ k. refl)

pub returns-then-is_match-clause-texts : goal.returns-then-is_match-clause-texts
returns-then-is_match-clause-texts g c =
    let letters = letters_of g.E.Platform.units in
    let met = g.met.E.Platform in
    match_of_globs g.E.Platform.well_formed letters (letter_laws met.laws met.parts met.occurrence) (letters (bytes c.args.path)) c.args.self.now.sets.items true (returns-then-is_match-clause-value g c)

pub loop-set-preserved : goal.loop-set-preserved
loop-set-preserved g c =
    set_passed c.args.self.now.sets.items (letters_of g.E.Platform.units c.as_encoded_bytes-bytes.result.now) c.in-Some.set.now c.in-Some.rest.now c.loop-set.left.now c.is_match.result c.in-Some.ensures.cases.0 c.loop-set.invariant c.is_match.ensures c.if-is_match.false

pub returns-clause-value : goal.returns-clause-value
returns-clause-value g c =
    let sets = c.args.self.now.sets.items in
    let letters = letters_of g.E.Platform.units in
    let never : false ≡ true → ⊥ = λ f. cc in (
      λ e. absurd (never e),
      λ k. absurd (none_matched sets (letters (bytes c.args.path)) c.loop-set.left.now c.in_default.ensures.cases (subst (λ z. (i : ℕ) → IsSetHit sets (letters z) i ↔ IsSetHit c.loop-set.left.now (letters z) i) c.as_encoded_bytes-bytes.ensures.value c.loop-set.invariant) k),
    )

pub returns-clause-texts : goal.returns-clause-texts
returns-clause-texts g c =
    let letters = letters_of g.E.Platform.units in
    let met = g.met.E.Platform in
    match_of_globs g.E.Platform.well_formed letters (letter_laws met.laws met.parts met.occurrence) (letters (bytes c.args.path)) c.args.self.now.sets.items false (returns-clause-value g c)
