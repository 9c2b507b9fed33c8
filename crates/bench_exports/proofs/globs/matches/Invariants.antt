use Rattle.std.proofs.Common.{length}
use Rattle.platform_str.specs.PlatformWords.{itself}
use Rattle.wildcards.specs.Sets.{MatchesChoice}
use Rattle.glob_patterns.specs.Globs.{choices_of}
use Rattle.glob_patterns.specs.Letters.{letters_of}
use Rattle.glob_patterns.specs.Options.{options_of}
use Rattle.bench_exports.specs.Answers.{pieces_of}
use Rattle.bench_exports.proofs.lemmas.Counts.{IsCounted}
use Rattle.bench_exports.proofs.globs.matches.Given as goal

abbrev pub invariant-loop-len : goal.invariant-loop-len
invariant-loop-len l =
    IsCounted (λ string. MatchesChoice (options_of l.glob.options) (choices_of l.glob) (letters_of itself string)) (pieces_of l.lens l.raw) (length l.lens) l.left l.rest l.count

abbrev pub decreases-loop-len : goal.decreases-loop-len
decreases-loop-len l = length l.left
