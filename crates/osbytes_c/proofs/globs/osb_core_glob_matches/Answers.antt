use Rattle.std.proofs.Common.{◌≡◌, ℕ, List, sym, subst}
use Rattle.glob_patterns.specs.declared.options.GlobOptions.{GlobOptions}
use Rattle.osbytes_c.specs.declared.globs.GlobFault.{GlobFault}
use Rattle.osbytes_c.specs.Answers.{IsWritten}
use Rattle.osbytes_c.specs.Globs.{AreMatchesReported, HasUnstring, IsGlobFault}
use Rattle.osbytes_c.specs.ItemLists.{Views}
use Rattle.osbytes_c.specs.Platforms.{formed_on, units_on}
use Rattle.osbytes_c.proofs.globs.osb_core_glob_matches.Goals as goal

-- what is so on the platform with a number, with the options that were read
named : {n m : ℕ} {o p : GlobOptions} (Is : ℕ → GlobOptions → Type 0) → m ≡ n → o ≡ p → Is n o → Is m p
named {n} {m} {o} {p} Is number options is = subst (λ k. Is k p) (sym number) (subst (Is n) options is)

module _ (patterns paths : Views) where
  abbrev Written : ℕ → List ℕ → List ℕ → ℕ → ℕ → GlobOptions → Type 0
  Written status old new count n o = IsWritten status (AreMatchesReported (formed_on n) (units_on n) o patterns paths) old new count

  abbrev Unstring : ℕ → GlobOptions → Type 0
  Unstring n o = HasUnstring (formed_on n) (units_on n) o patterns paths

  abbrev Faulty : GlobFault → ℕ → GlobOptions → Type 0
  Faulty fault n o = IsGlobFault (formed_on n) (units_on n) o patterns fault

pub returns-in-0-clause-written : goal.returns-in-0-clause-written
returns-in-0-clause-written c =
    let d = c.matches_on in named (Written c.args.patterns.now c.args.paths.now d.result c.args.matched.now d.new.matched d.new.count) c.in-0.is c.in-Some.ensures.options d.ensures.written

pub returns-in-1-clause-written : goal.returns-in-1-clause-written
returns-in-1-clause-written c =
    let d = c.matches_on-in-1 in named (Written c.args.patterns.now c.args.paths.now d.result c.args.matched.now d.new.matched d.new.count) c.in-1.is c.in-Some.ensures.options d.ensures.written

pub returns-in-2-clause-written : goal.returns-in-2-clause-written
returns-in-2-clause-written c =
    let d = c.matches_on-in-2 in named (Written c.args.patterns.now c.args.paths.now d.result c.args.matched.now d.new.matched d.new.count) c.in-2.is c.in-Some.ensures.options d.ensures.written

pub returns-in-0-clause-pattern : goal.returns-in-0-clause-pattern
returns-in-0-clause-pattern c = λ is. let d = c.matches_on in named (Faulty c.args.patterns.now c.args.paths.now d.new.fault) c.in-0.is c.in-Some.ensures.options (d.ensures.pattern is)

pub returns-in-1-clause-pattern : goal.returns-in-1-clause-pattern
returns-in-1-clause-pattern c = λ is. let d = c.matches_on-in-1 in named (Faulty c.args.patterns.now c.args.paths.now d.new.fault) c.in-1.is c.in-Some.ensures.options (d.ensures.pattern is)

pub returns-in-2-clause-pattern : goal.returns-in-2-clause-pattern
returns-in-2-clause-pattern c = λ is. let d = c.matches_on-in-2 in named (Faulty c.args.patterns.now c.args.paths.now d.new.fault) c.in-2.is c.in-Some.ensures.options (d.ensures.pattern is)

pub returns-in-0-clause-strings : goal.returns-in-0-clause-strings
returns-in-0-clause-strings c = λ is. named (Unstring c.args.patterns.now c.args.paths.now) c.in-0.is c.in-Some.ensures.options (c.matches_on.ensures.strings is)

pub returns-in-1-clause-strings : goal.returns-in-1-clause-strings
returns-in-1-clause-strings c = λ is. named (Unstring c.args.patterns.now c.args.paths.now) c.in-1.is c.in-Some.ensures.options (c.matches_on-in-1.ensures.strings is)

pub returns-in-2-clause-strings : goal.returns-in-2-clause-strings
returns-in-2-clause-strings c = λ is. named (Unstring c.args.patterns.now c.args.paths.now) c.in-2.is c.in-Some.ensures.options (c.matches_on-in-2.ensures.strings is)
