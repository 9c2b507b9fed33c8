-- What a set that is kept reports of a path.
use Rattle.std.proofs.Common.{◌≡◌, ℕ, List, sym, subst, true, false}
use Rattle.std.specs.Prelude.{Option, Some, None}
use Rattle.std.specs.Arc.{arc_value}
use Rattle.std.specs.declared.alloc.Global.{Global}
use Rattle.wildcards.specs.declared.options.Options.{Options}
use Rattle.wildcards.specs.declared.set.Pattern.{Pattern}
use Rattle.glob_patterns.specs.declared.options.GlobOptions.{GlobOptions}
use Rattle.osbytes_c.specs.declared.globs.GlobFault.{GlobFault}
use Rattle.osbytes_c.specs.declared.globs.sets.Globs.{Globs}
use Rattle.osbytes_c.specs.declared.globs.sets.PlatformGlobs.{PlatformGlobs}
use Rattle.osbytes_c.specs.declared.globs.sets.PlatformGlobs.TheVariants.{Unix, Windows, Wasm}
use Rattle.osbytes_c.specs.Globs.{AreCompiled, AreMatchesReported, AreNamesReported, IsGlobFault}
use Rattle.osbytes_c.specs.GlobSets.{AreReportedBy, AreReportedOn, IsAnswer, IsAnswerOf, IsMatchedBy, IsMade, IsSetOf}
use Rattle.osbytes_c.specs.ItemLists.{Views, HasOther}
use Rattle.osbytes_c.specs.Platforms.{formed_on, units_on}
use Rattle.osbytes_c.proofs.lemmas.Globs.{with_paths}
use Rattle.osbytes_c.proofs.lemmas.ItemLists.{has_no_other}

of_set : (platform : ℕ) (o : GlobOptions) (patterns : Views) (path : List ℕ) (s : PlatformGlobs) (answer : ℕ) → IsSetOf platform o patterns s → IsAnswerOf path s answer → IsMatchedBy platform o patterns path answer
of_set platform o patterns path (Unix s) answer made is = subst (λ n. IsMatchedBy n o patterns path answer) (sym made.0) (s.set.options, (s.set.patterns.items, (made.1, is)))
of_set platform o patterns path (Windows s) answer made is = subst (λ n. IsMatchedBy n o patterns path answer) (sym made.0) (s.set.options, (s.set.patterns.items, (made.1, is)))
of_set platform o patterns path (Wasm s) answer made is = subst (λ n. IsMatchedBy n o patterns path answer) (sym made.0) (s.set.options, (s.set.patterns.items, (made.1, is)))

pub matched_of : (platform : ℕ) (o : GlobOptions) (patterns : Views) (path : List ℕ) (kept : Option Globs) (answer : ℕ) → IsMade platform o patterns kept → IsAnswer path kept answer → IsMatchedBy platform o patterns path answer
matched_of platform o patterns path None answer made is = absurd made
matched_of platform o patterns path (Some globs) answer made is = of_set platform o patterns path (arc_value globs.set) answer made is

pub not_both : false ≡ true → ⊥
not_both e = cc

-- what such a set reports of a list is reported by the patterns that it is of
reported_of_set : (platform : ℕ) (o : GlobOptions) (patterns paths : Views) (s : PlatformGlobs) (answers : List ℕ) → IsSetOf platform o patterns s → AreReportedOn s paths answers
    → AreMatchesReported (formed_on platform) (units_on platform) o patterns paths answers
reported_of_set platform o patterns paths (Unix s) answers made reported =
    subst (λ n. AreMatchesReported (formed_on n) (units_on n) o patterns paths answers) (sym made.0) (with_paths (formed_on 0) (units_on 0) o patterns paths s.set.options s.set.patterns.items made.1 answers reported)
reported_of_set platform o patterns paths (Windows s) answers made reported =
    subst (λ n. AreMatchesReported (formed_on n) (units_on n) o patterns paths answers) (sym made.0) (with_paths (formed_on 1) (units_on 1) o patterns paths s.set.options s.set.patterns.items made.1 answers reported)
reported_of_set platform o patterns paths (Wasm s) answers made reported =
    subst (λ n. AreMatchesReported (formed_on n) (units_on n) o patterns paths answers) (sym made.0) (with_paths (formed_on 2) (units_on 2) o patterns paths s.set.options s.set.patterns.items made.1 answers reported)

pub reported_of_kept : (platform : ℕ) (o : GlobOptions) (patterns paths : Views) (kept : Option Globs) (answers : List ℕ) → IsMade platform o patterns kept → AreReportedBy kept paths answers
    → AreMatchesReported (formed_on platform) (units_on platform) o patterns paths answers
reported_of_kept platform o patterns paths None answers made reported = absurd made
reported_of_kept platform o patterns paths (Some globs) answers made reported = reported_of_set platform o patterns paths (arc_value globs.set) answers made reported

-- each item of these lists is a string
pub patterns_are_strings : {formed : List ℕ → Type 0} {units : List ℕ → List ℕ} {o : GlobOptions} {patterns : Views} {matching : Options} {compiled : List (Pattern Global)}
    → AreCompiled formed units o patterns matching compiled → ¬ (HasOther formed patterns)
patterns_are_strings {formed} {units} {o} {patterns} c = has_no_other formed patterns c.texts c.are_texts c.strings

pub paths_are_strings : {formed : List ℕ → Type 0} {units : List ℕ → List ℕ} {matching : Options} {compiled : List (Pattern Global)} {paths : Views} {answers : List ℕ}
    → AreNamesReported formed units matching compiled paths answers → ¬ (HasOther formed paths)
paths_are_strings {formed} {units} {matching} {compiled} {paths} t = has_no_other formed paths t.names t.are_names t.strings

pub fault_of_strings : {formed : List ℕ → Type 0} {units : List ℕ → List ℕ} {o : GlobOptions} {patterns : Views} {fault : GlobFault} → IsGlobFault formed units o patterns fault → ¬ (HasOther formed patterns)
fault_of_strings {formed} {units} {o} {patterns} f = has_no_other formed patterns f.texts f.are_texts f.strings
