use Rattle.std.proofs.Common.{◌<◌, ◌+◌, length, sym, ◌∙◌, arith}
use Rattle.std.proofs.lemmas.Bool.{false≢true}
use Rattle.std.proofs.lemmas.List.{length-take-le}
use Rattle.std.proofs.lemmas.List.Elements.{at_read}
use Rattle.memchr.specs.Find.{is_byte3}
use Rattle.os_ignore.specs.Matching.{LineMatches}
use Rattle.os_ignore.proofs.lemmas.Tagged.{fewer, none_later, none_there, nowhere}
use Rattle.os_ignore.proofs.verdict.last_tagged.Goals as goal

pub loop-at-init : goal.loop-at-init
loop-at-init g c =
    let count = c.requires.count in
    record { within = omega arith; none = λ k low in' passes. absurd (omega arith) }

pub returns-in_default : goal.returns-in_default
returns-in_default g c =
    let path = c.args.path.now in
    let lines = c.args.lines.now in
    let tags = c.args.tags.now in
    let test = is_byte3 c.args.wanted.0 c.args.wanted.1 c.args.wanted.2 in
    let none = rw c.split_at.ensures.front at c.in_default.ensures in
    let all = c.loop-at.invariant in
    nowhere path c.args.is_dir lines tags test c.loop-at.end all.within all.none none c.args.low

pub returns-then-at-low : goal.returns-then-at-low
returns-then-at-low g c =
    let path = c.args.path.now in
    let lines = c.args.lines.now in
    let tags = c.args.tags.now in
    let test = is_byte3 c.args.wanted.0 c.args.wanted.1 c.args.wanted.2 in
    let found = rw c.split_at.ensures.front at c.in-Some.ensures in
    let all = c.loop-at.invariant in
    let later = none_later path c.args.is_dir lines tags test c.loop-at.end all.within all.none c.in-Some.at found.0 in
    let below = c.if-at-low.true in
    fewer path c.args.is_dir lines tags test (c.in-Some.at + 1) c.args.low (omega arith) later

pub returns-then-matches : goal.returns-then-matches
returns-then-matches g c =
    let path = c.args.path.now in
    let lines = c.args.lines.now in
    let tags = c.args.tags.now in
    let test = is_byte3 c.args.wanted.0 c.args.wanted.1 c.args.wanted.2 in
    let found = rw c.split_at.ensures.front at c.in-Some.ensures in
    let high = found.0.high in
    let size = length-take-le c.loop-at.end tags c.loop-at.invariant.within in
    let count = c.requires.count in
    let within : c.in-Some.at < length lines = (let k = c.loop-at.invariant.within in omega arith) in
    record {
      from = c.if-at-low.false;
      within = within;
      matches = at_read lines (λ line. LineMatches line path c.args.is_dir) c.in-Some.at c.index-lines-at.result within c.index-lines-at.is (c.matches.ensures.0 c.if-matches.true);
      none_after = none_later path c.args.is_dir lines tags test c.loop-at.end c.loop-at.invariant.within c.loop-at.invariant.none c.in-Some.at found.0;
    }

pub loop-at-preserved : goal.loop-at-preserved
loop-at-preserved g c =
    let path = c.args.path.now in
    let lines = c.args.lines.now in
    let tags = c.args.tags.now in
    let test = is_byte3 c.args.wanted.0 c.args.wanted.1 c.args.wanted.2 in
    let found = rw c.split_at.ensures.front at c.in-Some.ensures in
    let high = found.0.high in
    let size = length-take-le c.loop-at.end tags c.loop-at.invariant.within in
    let count = c.requires.count in
    let le = c.loop-at.invariant.within in
    let within : c.in-Some.at < length lines = omega arith in
    let later = none_later path c.args.is_dir lines tags test c.loop-at.end le c.loop-at.invariant.none c.in-Some.at found.0 in
    record {
      within = omega arith;
      none = none_there path c.args.is_dir lines tags test c.in-Some.at later (at_read lines (λ line. LineMatches line path c.args.is_dir → ⊥) c.in-Some.at c.index-lines-at.result within c.index-lines-at.is (λ m. false≢true (sym c.if-matches.false ∙ c.matches.ensures.1 m)));
    }
