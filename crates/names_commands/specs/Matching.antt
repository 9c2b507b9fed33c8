-- What is written for the names that are picked.
use Rattle.std.specs.Prelude.{◌≡◌, ◌⊎◌, ℕ, Bool, true, false, List, [], ◌∷◌, ◌++◌, length, Option, None, Some}
use Rattle.std.specs.List.{AllByRecursion}
use denote.Ref.{Bor}
use Rattle.os_str_bytes.specs.Platform.{Ghosts}
use Rattle.glob_patterns.specs.GlobSets.{AreMeanings}
use Rattle.glob_patterns.specs.Letters.{letters_of}
use Rattle.glob_patterns.specs.Options.{options_of, syntax_of}
use Rattle.glob_patterns.specs.declared.glob_set.GlobSet.{GlobSet}
use Rattle.glob_patterns.specs.declared.options.GlobOptions.{GlobOptions}
use Rattle.glob_text.specs.Marks.{Mark}
use Rattle.glob_text.specs.Meaning.{MatchesWrittenOut}
use Rattle.glob_text.specs.Texts as pattern
use Rattle.glob_text.specs.Texts.{IsFault}
use Rattle.glob_text.specs.declared.fault.PatternFault.{PatternFault}
use Rattle.wildcards.specs.Sets.{IsHit}
use Rattle.os_ignore.specs.declared.file.File.{File}
use Rattle.list_programs.specs.Items.{Lacks}
use Rattle.list_programs.specs.ListOptions.{MayLack, byte_of}
use Rattle.list_programs.specs.Rules.{ListRules}
use Rattle.list_programs.specs.declared.options.ItemEnd.{ItemEnd}
use Rattle.list_programs.specs.declared.options.ListOptions.{ListOptions}
use Rattle.names_commands.specs.declared.fault.Rejection.{Rejection}
use Rattle.names_commands.specs.declared.matching.Form.{Form}
use Rattle.names_commands.specs.declared.matching.Form.TheVariants.{Line, Name, Word}
use Rattle.names_commands.specs.Ignoring.{IsIgnored, IsInTree}
use Rattle.names_commands.specs.Names.{IsListRejection}
use Rattle.names_commands.specs.Task.{IsLine}
use Rattle.names_commands.specs.Words.{IsWordLine}

-- the name is one of these, and no line of the ignore files ignores it; or, inverted, it isn't so
abbrev pub IsSelected : {A : Type 0} → Bool → (List ℕ → Type 0) → List (File A) → List ℕ → Type 0
IsSelected false Chosen files name = Chosen name × (¬ (IsIgnored files name))
IsSelected true Chosen files name = ¬ (Chosen name × (¬ (IsIgnored files name)))

-- it is so, and the name is none of those that are left out in any case
abbrev pub IsPicked : {A : Type 0} → Bool → (List ℕ → Type 0) → (List ℕ → Type 0) → List (File A) → List ℕ → Type 0
IsPicked inverted Chosen Excluded files name = IsSelected inverted Chosen files name × (¬ (Excluded name))

-- on a platform that states this of its strings:
module _ {E : Type 0} (p : Ghosts E) where
  -- the name in this form: its escape on a line, itself with its end, or its word on a line
  abbrev pub IsInForm : Form → ItemEnd → List ℕ → List ℕ → Type 0
  IsInForm Line end name text = IsLine p name text
  IsInForm Name end name text = text ≡ name ++ byte_of end ∷ []
  IsInForm (Word form) end name text = IsWordLine form name text

  -- this is written for a name: the name in this form, if it is picked, and else nothing
  abbrev pub IsTextOfPicked : Form → ItemEnd → Bool → (List ℕ → Type 0) → List ℕ → List ℕ → Type 0
  IsTextOfPicked form end from_top Picked name text = p.well_formed name × (Lacks 0 name × (IsInTree from_top name × ((Picked name × IsInForm form end name text) ⊎ ((¬ (Picked name)) × (text ≡ [])))))

  -- what is done with each name of a list that is written so, where some are picked
  abbrev pub picking : Form → ListOptions → Bool → (List ℕ → Type 0) → ListRules Rejection
  picking form list from_top Picked = record {
    end = byte_of list.end;
    takes_unended = MayLack list.last;
    max = list.max;
    longest = list.max;
    is_text = IsTextOfPicked form list.end from_top Picked;
    rejects = IsListRejection p from_top;
    is_of_long = λ name. ⊥;
  }

  -- these are the patterns without alternatives that each text is written out as
  abbrev pub AreWrittenOut : GlobOptions → List (List ℕ) → List (List (List Mark)) → Type 0
  AreWrittenOut o [] written = written ≡ []
  AreWrittenOut o (text ∷ texts) [] = ⊥
  AreWrittenOut o (text ∷ texts) (w ∷ written) = pattern.AreWrittenOut p.well_formed (letters_of p.units) (syntax_of o) text w × AreWrittenOut o texts written

  -- one of them matches the name
  abbrev pub IsMatched : GlobOptions → List (List (List Mark)) → List ℕ → Type 0
  IsMatched o [] name = ⊥
  IsMatched o (w ∷ written) name = MatchesWrittenOut (options_of o) w (letters_of p.units name) ⊎ IsMatched o written name

  -- the text has no fault
  abbrev pub IsPattern : GlobOptions → List ℕ → Type 0
  IsPattern o text = (written : List (List Mark)) × pattern.AreWrittenOut p.well_formed (letters_of p.units) (syntax_of o) text written

  -- the first of the texts with a fault, whose index is the number of texts before it, and its first fault
  pub record IsFirstFault (o : GlobOptions) (texts : List (List ℕ)) (index : ℕ) (fault : PatternFault) : Type 0 where
    pub before : List (List ℕ)
    pub text : List ℕ
    pub after : List (List ℕ)
    pub joined : texts ≡ before ++ text ∷ after
    pub index_is : index ≡ length before
    pub fine : AllByRecursion (IsPattern o) before
    pub is : IsFault p.well_formed (letters_of p.units) (syntax_of o) text fault

  -- the set has the texts, compiled one by one
  abbrev pub IsSetOf : (A : Type 0) → GlobOptions → List (List ℕ) → GlobSet E A → Type 0
  IsSetOf A o texts set = (set.set.options ≡ options_of o) × AreMeanings p.well_formed (letters_of p.units) (syntax_of o) A texts set.set.patterns.items

  -- one of the patterns of a compiled set matches the name
  abbrev pub IsMatchedBy : {A : Type 0} → GlobSet E A → List ℕ → Type 0
  IsMatchedBy set name = (i : ℕ) × IsHit set.set.options set.set.patterns.items (letters_of p.units name) i

  -- the name is chosen: one of the patterns matches it, or none are stated, by arguments or files
  abbrev pub IsChosen : List (List ℕ) → GlobOptions → List (List (List Mark)) → List ℕ → Type 0
  IsChosen [] o written name = Unit {0}
  IsChosen (source ∷ sources) o written name = IsMatched o written name

  -- the same of a compiled set, if there is one
  abbrev pub IsChosenBy : {A : Type 0} → Option (Bor (GlobSet E A)) → List ℕ → Type 0
  IsChosenBy None name = Unit {0}
  IsChosenBy (Some set) name = IsMatchedBy set.now name

  -- the name is picked by a set, if there is one, and by ignore files, and another set doesn't leave it out
  abbrev pub IsPickedBy : {A : Type 0} → Bool → Option (Bor (GlobSet E A)) → GlobSet E A → List (File A) → List ℕ → Type 0
  IsPickedBy inverted globs excluded files = IsPicked inverted (IsChosenBy globs) (IsMatchedBy excluded) files

  -- what is written then, and what is done with each name
  abbrev pub IsTextOfMatched : {A : Type 0} → Form → ItemEnd → Bool → Bool → Option (Bor (GlobSet E A)) → GlobSet E A → List (File A) → List ℕ → List ℕ → Type 0
  IsTextOfMatched form end from_top inverted globs excluded files = IsTextOfPicked form end from_top (IsPickedBy inverted globs excluded files)

  abbrev pub matching : {A : Type 0} → Form → ListOptions → Bool → Bool → Option (Bor (GlobSet E A)) → GlobSet E A → List (File A) → ListRules Rejection
  matching form list from_top inverted globs excluded files = picking form list from_top (IsPickedBy inverted globs excluded files)
