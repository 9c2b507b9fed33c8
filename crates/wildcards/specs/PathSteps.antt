-- How far matching has come in a path: only private contracts name this.
use Rattle.std.specs.Prelude.{◌≡◌, ◌≤◌, ◌<◌, ◌+◌, ◌↔◌, ℕ, List, ◌∷◌, ◌++◌, length, Option}
use denote.Ref.{Bor}
use Rattle.wildcards.specs.declared.piece.Piece.{Piece}
use Rattle.wildcards.specs.declared.part.Part.{Part}
use Rattle.wildcards.specs.declared.options.Options.{Options}
use Rattle.wildcards.specs.declared.path.Step.{Step}
use Rattle.wildcards.specs.declared.path.Step.TheVariants as step
use Rattle.wildcards.specs.Components.{components}
use Rattle.wildcards.specs.Cuts.{left_components, left_size, IsLeftFormed}
use Rattle.wildcards.specs.Match.{FitsComponent, TakesComponent, MatchesParts}
use Rattle.wildcards.specs.Steps.{GoesOn}

module _ (formed : List ℕ → Type 0) (letters : List ℕ → List ℕ) {A : Type 0} where
  -- what the result of matching up to the first `**` means
  abbrev pub PathStepSays : Options → List (Piece (Part A)) → Option (Bor (List ℕ)) → Step A → Type 0
  PathStepSays o ps path step.All = MatchesParts o.literal_leading_dot ps (left_components letters o.separators path)
  PathStepSays o ps path step.Differs = ¬ (MatchesParts o.literal_leading_dot ps (left_components letters o.separators path))
  PathStepSays o ps path (step.Many qs rest) =
      GoesOn (TakesComponent o.literal_leading_dot) (FitsComponent o.literal_leading_dot) ps (left_components letters o.separators path) qs.now (left_components letters o.separators rest)
      × ((left_size rest ≤ left_size path) × IsLeftFormed formed rest)

  -- the part matches the first component, and this is left after it
  pub record FirstFits (o : Options) (part : Part A) (path : List ℕ) (more : Option (Bor (List ℕ))) : Type 0 where
    pub component : List ℕ
    pub parts : components o.separators (letters path) ≡ component ∷ left_components letters o.separators more
    pub fits : FitsComponent o.literal_leading_dot part component
    pub formed_left : IsLeftFormed formed more
    pub shorter : left_size more < length path + 1

  -- the part doesn't match the first component
  pub record FirstDiffers (o : Options) (part : Part A) (path : List ℕ) : Type 0 where
    pub component : List ℕ
    pub rest : List (List ℕ)
    pub parts : components o.separators (letters path) ≡ component ∷ rest
    pub differs : ¬ (FitsComponent o.literal_leading_dot part component)

  -- the pieces match the components after no others
  abbrev pub NeverMatches : Options → List (Piece (Part A)) → Option (Bor (List ℕ)) → Type 0
  NeverMatches o ps path = (before : List (Piece (Part A))) → ¬ (MatchesParts o.literal_leading_dot (before ++ ps) (left_components letters o.separators path))

  -- the last pieces match the last components, and what is left matches where all do, whatever comes before
  pub record AreLastComponentsMatched (o : Options) (ps : List (Piece (Part A))) (path : Option (Bor (List ℕ))) (left : List (Piece (Part A))) (from : Option (Bor (List ℕ))) : Type 0 where
    pub alike : (before : List (Piece (Part A))) → MatchesParts o.literal_leading_dot (before ++ ps) (left_components letters o.separators path) ↔ MatchesParts o.literal_leading_dot (before ++ left) (left_components letters o.separators from)
    pub formed_left : IsLeftFormed formed from
