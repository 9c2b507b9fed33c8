use Rattle.std.proofs.Common.{rules, ◌≡◌, ◌<◌, ◌||◌, arith, length, nat_eq, true, false, sym, ap, ◌∙◌, subst}
use Rattle.std.proofs.lemmas.Bool.Decides.{nat_tests}
use Rattle.os_ignore.specs.Components.{IsLastComponent}
use Rattle.os_ignore.specs.Matching.{IsTarget, MatchesText}
use Rattle.os_ignore.proofs.lemmas.Rests.{line_matches}
use Rattle.os_ignore.proofs.line.Line.matches.Goals.{else-is_empty-via-then-is_empty+else-has_slash, else-is_empty-via-else-is_empty, else-self-via-then-self+else-not-is_dir, else-self-via-else-self, then-self-2, else-self-2}
use Rattle.os_ignore.proofs.line.Line.matches.Goals as goal

pub returns : goal.returns
returns g c =
    let line = c.args.self.now in
    let path = c.args.path.now in
    let text = c.if-self-2.matches_text.now in
    let below : (line.anchored || line.directories) ≡ true → 0 < length path = elim c.else-is_empty.branch [
      | else-is_empty-via-then-is_empty+else-has_slash w ↦ λ e. let never : false ≡ true = sym w.if-has_slash.false ∙ w.has_slash.ensures ∙ e in absurd cc
      | else-is_empty-via-else-is_empty w ↦ λ e. let some : nat_eq (length path) 0 ≡ false = sym c.is_empty.ensures ∙ w.if-is_empty.false in grind (arith, nat_tests)
    ] in
    let directories : line.directories ≡ true → c.args.is_dir ≡ true = elim c.else-self.branch [
      | else-self-via-then-self+else-not-is_dir w ↦ λ e. search rules
      | else-self-via-else-self w ↦ λ e. let never : true ≡ false = sym e ∙ w.if-self.false in absurd cc
    ] in
    let target : IsTarget line.anchored path text = elim c.if-self-2.branch [
      | then-self-2 w ↦ subst (λ z. IsTarget z path text) (sym w.if-self-2.true) (ap (λ z. z.now) w.matches_text-is)
      | else-self-2 w ↦ subst (λ z. IsTarget z path text) (sym w.if-self-2.false) (subst (λ z. IsLastComponent path z.now) (sym w.matches_text-is) c.requires)
    ] in
    let both = line_matches line path text c.args.is_dir below directories target in
    let here = subst (λ z. MatchesText line.folds z c.deref-2.result.now text) c.deref.ensures.value in
    let there = subst (λ z. MatchesText line.folds z c.deref-2.result.now text) (sym c.deref.ensures.value) in (
      λ e. both.0 (subst (λ z. MatchesText line.folds line.literal.items z text) c.deref-2.ensures.value (here (c.matches_text.ensures.0 e))),
      λ m. c.matches_text.ensures.1 (there (subst (λ z. MatchesText line.folds line.literal.items z text) (sym c.deref-2.ensures.value) (both.1 m))),
    )
