-- What the pattern of a name matches.
use Rattle.std.proofs.Common.{◌≡◌, ◌↔◌, ℕ, Bool, List, refl, sym, ap, ◌∙◌, subst, IsTrue}
use Rattle.std.specs.Prelude.{Result, Ok, Err, IfOk, MatchResult}
use Rattle.std.specs.declared.vec.Vec.{Vec}
use Rattle.wildcards.specs.Reading.{LetterLaws}
use Rattle.wildcards.specs.declared.pattern.Choice.{Choice}
use Rattle.wildcards.specs.declared.separators.Separators.TheVariants.{Slash}
use Rattle.glob_text.specs.declared.fault.PatternFault.{PatternFault}
use Rattle.glob_text.specs.declared.syntax.Syntax.{Syntax}
use Rattle.glob_text.specs.Alternatives.{AreWithinLimits}
use Rattle.glob_text.specs.Escape.{IsPatternOf}
use Rattle.glob_text.specs.Marks.{Mark}
use Rattle.glob_text.specs.Meaning.{MatchesWrittenOut}
use Rattle.glob_text.specs.Texts.{AreWrittenOut, IsFault, IsMeaning}
use Rattle.glob_patterns.specs.declared.options.GlobOptions.{GlobOptions}
use Rattle.glob_patterns.specs.Letters.{letters_of}
use Rattle.glob_patterns.specs.Options.{usual_options, syntax_of, options_of}
use Rattle.glob_patterns.specs.TextMatch.{IsMatchOfText}

-- what a text stands for
written : {A : Type 0} (formed : List ℕ → Type 0) (letters : List ℕ → List ℕ) (o : Syntax) (text : List ℕ) (choices : List (Choice A)) (m : IsMeaning formed letters o text choices) → AreWrittenOut formed letters o text m.are.are.written_out
written formed letters o text choices m = record { symbols = m.symbols; read = m.read; marks = m.are.marks; marks_are = m.are.read; cased = m.are.cased; are_cased = m.are.are_cased; are = m.are.are.are }

module _ (formed : List ℕ → Type 0) (units : List ℕ → List ℕ) where
  -- a path matches where what the text stands for does
  abbrev pub IsMatchedByText : GlobOptions → List ℕ → List ℕ → Bool → Type 0
  IsMatchedByText o text path r = (cs : List (List Mark)) × (AreWrittenOut formed (letters_of units) (syntax_of o) text cs × (IsTrue r ↔ MatchesWrittenOut (options_of o) cs path))

  pub matched : {A : Type 0} (o its : GlobOptions) (text path : List ℕ) (choices : List (Choice A)) (r : Bool) → its ≡ o → IsMeaning formed (letters_of units) (syntax_of o) text choices → IsMatchOfText formed (letters_of units) its choices path r → IsMatchedByText o text path r
  matched o its text path choices r e m t =
      let n = subst (λ z. IsMeaning formed (letters_of units) (syntax_of z) text choices) (sym e) m in
      subst (λ z. IsMatchedByText z text path r) e (n.are.are.written_out, (written formed (letters_of units) (syntax_of its) text choices n, t text n))

  pub named : {A : Type 0} (laws : LetterLaws formed (letters_of units)) (o its : GlobOptions) (text name path : List ℕ) (choices : List (Choice A)) (r : Bool) → o ≡ usual_options Slash → its ≡ o → formed name → formed path → IsPatternOf formed (letters_of units) (syntax_of o) text (letters_of units name)
      → IsMeaning formed (letters_of units) (syntax_of o) text choices → IsMatchOfText formed (letters_of units) its choices (letters_of units path) r → IsTrue r ↔ (path ≡ name)
  named laws o its text name path choices r e f fn fp p m t =
      let usual = usual_options Slash in
      let q = subst (λ z. IsPatternOf formed (letters_of units) (syntax_of z) text (letters_of units name)) e p in
      let n = subst (λ z. IsMeaning formed (letters_of units) (syntax_of z) text choices) e m in
      let s = subst (λ z. IsMatchOfText formed (letters_of units) z choices (letters_of units path) r) (f ∙ e) t in
      let h = s text n in
      let k = q.alone refl tt (usual.literal_leading_dot) n.are.are.written_out (letters_of units path) (written formed (letters_of units) (syntax_of usual) text choices n) in
      (λ x. laws.once path name fp fn (k.0 (h.0 x)), λ x. h.1 (k.1 (ap (letters_of units) x)))

-- what a text is compiled to is within the limits
pub within_limits : {A : Type 0} (formed : List ℕ → Type 0) (letters : List ℕ → List ℕ) (o : Syntax) (text : List ℕ) (read : Result (Vec (Choice A) A) PatternFault)
    → MatchResult read (λ compiled. IsMeaning formed letters o text compiled.items) (λ fault. IsFault formed letters o text fault)
    → IfOk read (λ compiled. (cs : List (List Mark)) × (AreWrittenOut formed letters o text cs × AreWithinLimits cs))
within_limits formed letters o text (Ok compiled) m = (m.are.are.written_out, (written formed letters o text compiled.items m, m.are.are.limits))
within_limits formed letters o text (Err fault) m = tt
