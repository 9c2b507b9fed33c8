use Rattle.std.proofs.Common.{◌≡◌, ◌-◌, length, map, drop}
use Rattle.platform_str.specs.Strings.{bytes}
use Rattle.glob_patterns.specs.Letters.{letters_of}
use Rattle.glob_patterns.specs.Options.{syntax_of}
use Rattle.glob_patterns.proofs.lemmas.Compiling.{AreCompiledSoFar}
use Rattle.glob_patterns.proofs.glob_set.compile_all.Given as goal

abbrev pub invariant-loop-pattern : goal.invariant-loop-pattern
invariant-loop-pattern g l =
    AreCompiledSoFar g.E.Platform.well_formed (letters_of g.E.Platform.units) (syntax_of l.options) _ (map bytes l.fn.patterns) (drop l.index (map bytes l.fn.patterns)) l.compiled.items × (length l.compiled.items ≡ l.index)

abbrev pub decreases-loop-pattern : goal.decreases-loop-pattern
decreases-loop-pattern g l = length l.fn.patterns - l.index
