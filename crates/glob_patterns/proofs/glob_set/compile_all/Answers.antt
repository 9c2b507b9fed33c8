use Rattle.std.proofs.Common.{◌+◌, ◌∷◌, [], map, drop, length, ap, sym, subst, ◌∙◌, arith, length-append}
use Rattle.platform_str.specs.Strings.{bytes}
use Rattle.glob_text.specs.Texts.{IsMeaning, IsFault}
use Rattle.glob_patterns.specs.Letters.{letters_of}
use Rattle.glob_patterns.specs.Options.{syntax_of}
use Rattle.glob_patterns.specs.GlobSets.{IsFirstFault}
use Rattle.glob_patterns.proofs.lemmas.Compiling.{AreCompiledSoFar, one_compiled, not_compiled}
use Rattle.glob_patterns.proofs.glob_set.compile_all.Goals as goal

pub returns-in-Err : goal.returns-in-Err
returns-in-Err g c =
    let formed = g.E.Platform.well_formed in
    let letters = letters_of g.E.Platform.units in
    let o = syntax_of c.args.options in
    let texts = map bytes c.args.patterns.now in
    let so_far = subst (λ z. AreCompiledSoFar formed letters o _ texts z c.loop-pattern.compiled.items) c.in-Some.ensures.first c.loop-pattern.invariant.0 in
    let broken = rw c.in-Err.is at c.in_ok-choices.ensures in
    let fault = subst (λ z. IsFault formed letters z (bytes c.in-Some.pattern) c.in-Err.fault) c.syntax.ensures
    (subst (λ z. IsFault formed letters c.syntax.result z c.in-Err.fault) c.as_encoded_bytes-text.ensures.value broken) in
    subst (λ n. IsFirstFault formed letters o _ texts n c.in-Err.fault) c.loop-pattern.invariant.1
    (not_compiled formed letters o _ texts _ _ _ c.in-Err.fault so_far fault)

pub loop-pattern-preserved : goal.loop-pattern-preserved
loop-pattern-preserved g c =
    let formed = g.E.Platform.well_formed in
    let letters = letters_of g.E.Platform.units in
    let o = syntax_of c.args.options in
    let texts = map bytes c.args.patterns.now in
    let so_far = subst (λ z. AreCompiledSoFar formed letters o _ texts z c.loop-pattern.compiled.items) c.in-Some.ensures.first c.loop-pattern.invariant.0 in
    let read = rw c.in-Ok.is at c.in_ok-choices.ensures in
    let meaning = subst (λ z. IsMeaning formed letters z (bytes c.in-Some.pattern) c.in-Ok.choices.items) c.syntax.ensures
    (subst (λ z. IsMeaning formed letters c.syntax.result z c.in-Ok.choices.items) c.as_encoded_bytes-text.ensures.value read) in
    let items = c.in_ok-push-in-Ok.ensures.items in (
      subst (AreCompiledSoFar formed letters o _ texts (drop (c.loop-pattern.index + 1) texts)) (sym items)
          (one_compiled formed letters o _ texts _ _ _ (record { choices = c.in-Ok.choices }) so_far meaning),
      ap length items ∙ omega (arith, c.loop-pattern.invariant.1, length-append c.loop-pattern.compiled.items (record { choices = c.in-Ok.choices } ∷ [])),
    )
