-- A run over the names that are picked, where two conditions pick the same names.
use Rattle.std.proofs.Common.{◌≡◌, ◌≢◌, ◌↔◌, ◌⊎◌, ⊎_elim, inl, inr, ℕ, ◌+◌, ◌<◌, zero, suc, Bool, true, false, cond, not, List, [], ◌∷◌, ◌++◌, length, map, Option, Some, None, refl, sym, ap, ◌∙◌, subst, arith}
use denote.Ref.{Bor}
use Rattle.std.proofs.lemmas.List.{length-append}
use Rattle.std.specs.Prelude.{Result, Ok, Err, ⊤, MatchOption}
use Rattle.std.specs.List.{AllByRecursion}
use Rattle.os_str_bytes.specs.Platform.{Ghosts}
use Rattle.list_programs.specs.Items.{Entry}
use Rattle.list_programs.specs.ListRun.{IsBegun, IsOutput, IsRun, Runs, StopsOn, WritesBeginning, WritesOutput, WritesUpTo, start}
use Rattle.list_programs.specs.Reading.{State, Stops}
use Rattle.list_programs.specs.Rules.{ListRules, IsEntry, with_texts}
use Rattle.list_programs.specs.declared.fault.ListFault.{ListFault}
use Rattle.list_programs.specs.declared.options.ListOptions.{ListOptions}
use Rattle.list_programs.specs.declared.fault.ListFault.TheVariants.{Rejected, TooLong, Unended, TooMuch, Run}
use Rattle.names_commands.specs.declared.fault.Rejection.{Rejection}
use Rattle.names_commands.specs.declared.matching.Form.{Form}
use Rattle.glob_patterns.specs.Letters.{letters_of}
use Rattle.glob_patterns.specs.Options.{options_of, syntax_of}
use Rattle.glob_patterns.specs.GlobSets as sets
use Rattle.glob_patterns.specs.GlobSets.{AreMeanings, HasMeaning}
use Rattle.glob_patterns.specs.declared.glob_set.GlobSet.{GlobSet}
use Rattle.glob_patterns.specs.declared.options.GlobOptions.{GlobOptions}
use Rattle.glob_text.specs.Marks.{Mark}
use Rattle.glob_text.specs.Meaning.{MatchesWrittenOut}
use Rattle.glob_text.specs.Texts as pattern
use Rattle.glob_text.specs.Texts.{IsMeaning}
use Rattle.glob_text.specs.declared.fault.PatternFault.{PatternFault}
use Rattle.wildcards.specs.Sets.{IsHit}
use Rattle.wildcards.specs.declared.pattern.Choice.{Choice}
use Rattle.wildcards.specs.declared.set.Pattern.{Pattern}
use Rattle.list_programs.specs.declared.program_fault.Fault.TheVariants.{List as OfList}
use Rattle.os_ignore.specs.declared.file.File.{File}
use Rattle.program_frame.specs.Files.{KnownFiles}
use Rattle.names_commands.specs.FirstGlob.{IsFirst, IsFirstBy, IsFirstMatch}
use Rattle.names_commands.specs.Ignoring.{IsIgnored, needs_tree}
use Rattle.names_commands.specs.Matching.{picking, AreWrittenOut, IsChosen, IsChosenBy, IsFirstFault, IsMatched, IsMatchedBy, IsPattern, IsPicked, IsSelected, IsTextOfPicked}
use Rattle.names_commands.specs.Program.{Fault, RunsBut}

-- what may be written for a name may be written by other rules that permit as much:
module _ (list : ListRules Rejection) (Is Other : List ℕ → List ℕ → Type 0) (more : (name text : List ℕ) → Is name text → Other name text) where
  abbrev ours : ListRules Rejection
  ours = with_texts Is list

  abbrev theirs : ListRules Rejection
  theirs = with_texts Other list

  one_entry : (e : Entry) → IsEntry ours e → IsEntry theirs e
  one_entry e i = record { whole = i.whole; short = i.short; text = more e.0 e.1 i.text }

  all_entries : (es : List Entry) → AllByRecursion (IsEntry ours) es → AllByRecursion (IsEntry theirs) es
  all_entries [] a = tt
  all_entries (e ∷ es) a = (one_entry e a.0, all_entries es a.1)

  one_output : (input output : List ℕ) → IsOutput ours input output → IsOutput theirs input output
  one_output input output o = record { entries = o.entries; are = all_entries o.entries o.are; items = o.items; written = o.written }

  one_begun : (input output : List ℕ) → IsBegun ours input output → IsBegun theirs input output
  one_begun input output b = record { entries = b.entries; are = all_entries b.entries b.are; rest = b.rest; joined = b.joined; written = b.written }

  one_stop : (old : State) (bytes output : List ℕ) (fault : ListFault Rejection) → Stops ours old bytes output fault → Stops theirs old bytes output fault
  one_stop old bytes output fault s = record { entries = s.entries; are = all_entries s.entries s.are; item = s.item; rest = s.rest; joined = s.joined; whole = s.whole; ended = s.ended; because = s.because; written = s.written }

  stops_on : (input output : List ℕ) (fault : ListFault Rejection) → StopsOn ours input output fault → StopsOn theirs input output fault
  stops_on input output (Rejected n why) s = one_stop start input output (Rejected n why) s
  stops_on input output (TooLong n most) s = one_stop start input output (TooLong n most) s
  stops_on input output (Unended n end) s = one_stop start input output (Unended n end) s
  stops_on input output TooMuch s = (s.0, one_begun input output s.1)
  stops_on input output (Run why) s = one_begun input output s

  writes_output : (input old new : Option (List ℕ)) → WritesOutput ours input old new → WritesOutput theirs input old new
  writes_output None old new w = w
  writes_output (Some bytes) old new w = (w.0, (one_output bytes w.0 w.1.0, w.1.1))

  writes_up_to : (fault : ListFault Rejection) (input old new : Option (List ℕ)) → WritesUpTo ours fault input old new → WritesUpTo theirs fault input old new
  writes_up_to fault None old new w = w
  writes_up_to fault (Some bytes) old new w = (w.0, (stops_on bytes w.0 fault w.1.0, w.1.1))

  writes_beginning : (input old new : Option (List ℕ)) → WritesBeginning ours input old new → WritesBeginning theirs input old new
  writes_beginning None old new w = w
  writes_beginning (Some bytes) old new w = (w.0, (⊎_elim (λ b. inl (one_begun bytes w.0 b)) (λ o. inr (one_output bytes w.0 o)) w.1.0, w.1.1))

  one_run : (input left old new : Option (List ℕ)) (answer : Result ⊤ (ListFault Rejection)) → IsRun ours input left old new answer → IsRun theirs input left old new answer
  one_run input left old new (Ok done) r = record { all_read = r.all_read; written = writes_output input old new r.written; stopped = r.stopped; beginning = λ e. writes_beginning input old new (r.beginning e) }
  one_run input left old new (Err fault) r = record { all_read = r.all_read; written = r.written; stopped = λ other. writes_up_to fault input old new (r.stopped other); beginning = λ e. writes_beginning input old new (r.beginning e) }

  pub same_runs : {X : Type 0} (fault : ListFault Rejection → X) (input left old new : Option (List ℕ)) (answer : Result ⊤ X) → Runs ours fault input left old new answer → Runs theirs fault input left old new answer
  same_runs fault input left old new answer r = (r.0, (one_run input left old new r.0 r.1.0, r.1.1))

-- where two conditions pick the same names, the same is written
module _ {E : Type 0} (p : Ghosts E) (form : Form) (list : ListOptions) (from_top : Bool) (Picked Other : List ℕ → Type 0) (same : (name : List ℕ) → Picked name ↔ Other name) where
  abbrev pub Texts : (List ℕ → Type 0) → List ℕ → List ℕ → Type 0
  Texts These = IsTextOfPicked p form list.end from_top These

  one_text : (name text : List ℕ) → Texts Picked name text → Texts Other name text
  one_text name text t = (t.0, (t.1.0, (t.1.1.0, ⊎_elim (λ k. inl ((same name).0 k.0, k.1)) (λ k. inr (λ other. k.0 ((same name).1 other), k.1)) t.1.1.1)))

  same_picked : {X : Type 0} (fault : ListFault Rejection → X) (input left old new : Option (List ℕ)) (answer : Result ⊤ X) → Runs (picking p form list from_top Picked) fault input left old new answer → Runs (picking p form list from_top Other) fault input left old new answer
  same_picked = same_runs (picking p form list from_top Picked) (Texts Picked) (Texts Other) one_text

not_nil : {X : Type 0} {x : X} {xs : List X} → x ∷ xs ≡ [] → ⊥
not_nil e = cc

-- what there is where two lists have items is there where they have texts
pub where_stated : {X Y Z : Type 0} (f : X → List ℕ) (h : Y → List ℕ) (Is : Z → Type 0) (xs : List X) (ys : List Y) (held : Option Z) → MatchOption held ((xs ≡ []) × (ys ≡ [])) (λ it. ((xs ≢ []) ⊎ (ys ≢ [])) × Is it) → MatchOption held (map f xs ++ map h ys ≡ []) (λ it. (map f xs ++ map h ys ≢ []) × Is it)
where_stated f h Is [] [] None e = refl
where_stated f h Is [] (y ∷ ys) None e = absurd (not_nil e.1)
where_stated f h Is (x ∷ xs) ys None e = absurd (not_nil e.0)
where_stated f h Is [] [] (Some it) k = absurd (⊎_elim (λ n. n refl) (λ n. n refl) k.0)
where_stated f h Is [] (y ∷ ys) (Some it) k = (λ e. not_nil e, k.1)
where_stated f h Is (x ∷ xs) ys (Some it) k = (λ e. not_nil e, k.1)

-- where two conditions choose the same names, and two others leave the same names out:
module _ (Chosen Other Excluded Left : List ℕ → Type 0) (same : (name : List ℕ) → Chosen name ↔ Other name) (same_left : (name : List ℕ) → Excluded name ↔ Left name) where
  -- the same are selected
  selected_alike : {A : Type 0} (inverted : Bool) (files : List (File A)) (name : List ℕ) → IsSelected inverted Chosen files name ↔ IsSelected inverted Other files name
  selected_alike false files name = (λ k. ((same name).0 k.0, k.1), λ k. ((same name).1 k.0, k.1))
  selected_alike true files name = (λ k other. k ((same name).1 other.0, other.1), λ k other. k ((same name).0 other.0, other.1))

  -- and picked
  picked_alike : {A : Type 0} (inverted : Bool) (files : List (File A)) (name : List ℕ) → IsPicked inverted Chosen Excluded files name ↔ IsPicked inverted Other Left files name
  picked_alike inverted files name =
      let selected = selected_alike inverted files name in
      (λ k. (selected.0 k.0, λ left. k.1 ((same_left name).1 left)), λ k. (selected.1 k.0, λ left. k.1 ((same_left name).0 left)))

  pub same_but : {E : Type 0} (known : KnownFiles) (A : Type 0) (p : Ghosts E) (form : Form) (list : ListOptions) (inverted folds : Bool) (names : List (List ℕ)) (input left old new : Option (List ℕ)) (answer : Result ⊤ Fault)
      → RunsBut known A p form list inverted folds Chosen Excluded names input left old new answer → RunsBut known A p form list inverted folds Other Left names input left old new answer
  same_but known A p form list inverted folds names input left old new answer (inl fault) = inl fault
  same_but known A p form list inverted folds names input left old new answer (inr k) = inr (k.0, k.1, same_picked p form list (needs_tree names) (IsPicked inverted Chosen Excluded k.0) (IsPicked inverted Other Left k.0) (picked_alike inverted k.0) OfList input left old new answer k.2)

-- a name that is chosen is selected where the files don't ignore its text
pub selected_shown : {A : Type 0} (Chosen : List ℕ → Type 0) (files : List (File A)) (name text : List ℕ) (shown : Bool) → text ≡ name → Chosen name
    → ((shown ≡ true) ↔ (¬ (IsIgnored files text))) → ((shown ≡ true) ↔ IsSelected false Chosen files name)
selected_shown Chosen files name text shown t chosen said = (
  λ yes. (chosen, subst (λ n. ¬ (IsIgnored files n)) t (said.0 yes)),
  λ k. said.1 (subst (λ n. ¬ (IsIgnored files n)) (sym t) k.1),
)

-- a name is selected, inverted, where it doesn't match
pub selected_turned : {A : Type 0} (inverted : Bool) (Chosen : List ℕ → Type 0) (files : List (File A)) (name : List ℕ) (matches picks : Bool) → picks ≡ cond inverted (not matches) matches → ((matches ≡ true) ↔ IsSelected false Chosen files name) → ((picks ≡ true) ↔ IsSelected inverted Chosen files name)
selected_turned false Chosen files name matches picks e said = (λ yes. said.0 (sym e ∙ yes), λ k. e ∙ said.1 k)
selected_turned true Chosen files name true picks e said = (λ yes. let never : true ≡ false = sym yes ∙ e in absurd (cc), λ k. absurd (k (said.0 refl)))
selected_turned true Chosen files name false picks e said = (λ yes k. let never : false ≡ true = said.1 k in cc, λ k. e)

-- a selected name is picked where it isn't left out
pub picked_unless : {A : Type 0} (inverted : Bool) (Chosen Excluded : List ℕ → Type 0) (files : List (File A)) (name : List ℕ) (picks : Bool) → ((picks ≡ true) ↔ IsSelected inverted Chosen files name) → ¬ (Excluded name) → (picks ≡ true) ↔ IsPicked inverted Chosen Excluded files name
picked_unless inverted Chosen Excluded files name picks said other = (λ yes. (said.0 yes, other), λ k. said.1 k.0)

-- and where it is, it isn't picked
pub never_picked : {A : Type 0} (inverted : Bool) (Chosen Excluded : List ℕ → Type 0) (files : List (File A)) (name : List ℕ) → Excluded name → (false ≡ true) ↔ IsPicked inverted Chosen Excluded files name
never_picked inverted Chosen Excluded files name excluded = (λ yes. let never : false ≡ true = yes in absurd (cc), λ k. absurd (k.1 excluded))

module _ {E : Type 0} (p : Ghosts E) (o : GlobOptions) (name : List ℕ) where
  abbrev Fitting : List (List Mark) → Type 0
  Fitting w = MatchesWrittenOut (options_of o) w (letters_of p.units name)

  -- the first that matches is the same after one that doesn't
  one_later : (w : List (List Mark)) (written : List (List (List Mark))) (index : ℕ) → ¬ (Fitting w) → IsFirstMatch p o written name index → IsFirstMatch p o (w ∷ written) name (suc index)
  one_later w written index other f = record {
    before = w ∷ f.before;
    one = f.one;
    after = f.after;
    joined = ap (λ x. w ∷ x) f.joined;
    index_is = ap suc f.index_is;
    matches = f.matches;
    first = ⊎_elim other f.first;
  }

module _ {E A : Type 0} (p : Ghosts E) (o : GlobOptions) where
  abbrev AreCompiled : List (List ℕ) → List (Pattern A) → Type 0
  AreCompiled = AreMeanings p.well_formed (letters_of p.units) (syntax_of o) A

  one_written : (text : List ℕ) (choices : List (Choice A)) (m : IsMeaning p.well_formed (letters_of p.units) (syntax_of o) text choices) → pattern.AreWrittenOut p.well_formed (letters_of p.units) (syntax_of o) text m.are.are.written_out
  one_written text choices m = record { symbols = m.symbols; read = m.read; marks = m.are.marks; marks_are = m.are.read; cased = m.are.cased; are_cased = m.are.are_cased; are = m.are.are.are }

  -- the patterns without alternatives that texts stand for
  abbrev pub written_of : (texts : List (List ℕ)) (ps : List (Pattern A)) → AreCompiled texts ps → List (List (List Mark))
  written_of [] ps c = []
  written_of (t ∷ texts) [] c = absurd c
  written_of (t ∷ texts) (q ∷ ps) c = c.0.are.are.written_out ∷ written_of texts ps c.1

  pub are_written : (texts : List (List ℕ)) (ps : List (Pattern A)) (c : AreCompiled texts ps) → AreWrittenOut p o texts (written_of texts ps c)
  are_written [] ps c = refl
  are_written (t ∷ texts) [] c = absurd c
  are_written (t ∷ texts) (q ∷ ps) c = (one_written t q.choices.items c.0, are_written texts ps c.1)

  pub all_fine : (texts : List (List ℕ)) (ps : List (Pattern A)) → AreCompiled texts ps → AllByRecursion (IsPattern p o) texts
  all_fine [] ps c = tt
  all_fine (t ∷ texts) [] c = absurd c
  all_fine (t ∷ texts) (q ∷ ps) c = ((c.0.are.are.written_out, one_written t q.choices.items c.0), all_fine texts ps c.1)

  -- as many patterns are compiled as there are texts
  pub as_many : (texts : List (List ℕ)) (ps : List (Pattern A)) → AreCompiled texts ps → length texts ≡ length ps
  as_many [] [] c = refl
  as_many [] (q ∷ ps) c = absurd c
  as_many (t ∷ texts) [] c = absurd c
  as_many (t ∷ texts) (q ∷ ps) c = let more = as_many texts ps c.1 in omega (arith, more)

  -- a compiled pattern matches what its text does
  module _ (name : List ℕ) where
    abbrev Hits : List (Pattern A) → ℕ → Type 0
    Hits ps i = IsHit (options_of o) ps (letters_of p.units name) i

    hit_matches : (texts : List (List ℕ)) (ps : List (Pattern A)) (c : AreCompiled texts ps) (i : ℕ) → Hits ps i → IsMatched p o (written_of texts ps c) name
    hit_matches [] [] c i h = absurd (omega (arith, h.0))
    hit_matches [] (q ∷ ps) c i h = absurd c
    hit_matches (t ∷ texts) [] c i h = absurd c
    hit_matches (t ∷ texts) (q ∷ ps) c zero h = inl ((c.0.are.are.matched (options_of o) refl (letters_of p.units name)).0 (h.1 q))
    hit_matches (t ∷ texts) (q ∷ ps) c (suc i) h = inr (hit_matches texts ps c.1 i (omega (arith, h.0), h.1))

    matches_hit : (texts : List (List ℕ)) (ps : List (Pattern A)) (c : AreCompiled texts ps) → IsMatched p o (written_of texts ps c) name → (i : ℕ) × Hits ps i
    matches_hit [] ps c m = absurd m
    matches_hit (t ∷ texts) [] c m = absurd c
    matches_hit (t ∷ texts) (q ∷ ps) c (inl m) = (0, (omega arith, λ d. (c.0.are.are.matched (options_of o) refl (letters_of p.units name)).1 m))
    matches_hit (t ∷ texts) (q ∷ ps) c (inr m) =
        let more = matches_hit texts ps c.1 m in
        let below = more.1.0 in
        (suc more.0, (omega (arith, below), more.1.1))

    -- the first compiled pattern that matches is that of the first text that does
    first_hit : (texts : List (List ℕ)) (ps : List (Pattern A)) (c : AreCompiled texts ps) (index : ℕ) → Hits ps index → ((i : ℕ) → i < index → ¬ (Hits ps i)) → IsFirstMatch p o (written_of texts ps c) name index
    first_hit [] [] c index h none = absurd (omega (arith, h.0))
    first_hit [] (q ∷ ps) c index h none = absurd c
    first_hit (t ∷ texts) [] c index h none = absurd c
    first_hit (t ∷ texts) (q ∷ ps) c zero h none = record {
      before = [];
      one = c.0.are.are.written_out;
      after = written_of texts ps c.1;
      joined = refl;
      index_is = refl;
      matches = (c.0.are.are.matched (options_of o) refl (letters_of p.units name)).0 (h.1 q);
      first = λ m. m;
    }
    first_hit (t ∷ texts) (q ∷ ps) c (suc index) h none =
        let more = first_hit texts ps c.1 index (omega (arith, h.0), h.1) (λ i below hit. none (suc i) (omega (arith, below)) (omega (arith, hit.0), hit.1)) in
        let other : ¬ (Fitting p o name c.0.are.are.written_out) = λ m. none 0 (omega arith) (omega arith, λ d. (c.0.are.are.matched (options_of o) refl (letters_of p.units name)).1 m) in
        one_later p o name c.0.are.are.written_out (written_of texts ps c.1) index other more

  module _ (texts : List (List ℕ)) (set : GlobSet E A) (same : set.set.options ≡ options_of o) (c : AreCompiled texts set.set.patterns.items) where
    -- a compiled set matches what one of its texts does
    pub matched : (name : List ℕ) → IsMatchedBy p set name ↔ IsMatched p o (written_of texts set.set.patterns.items c) name
    matched name = (
      λ m. hit_matches name texts set.set.patterns.items c m.0 (subst (λ z. IsHit z set.set.patterns.items (letters_of p.units name) m.0) same m.1),
      λ m.
          let hit = matches_hit name texts set.set.patterns.items c m in
          (hit.0, subst (λ z. IsHit z set.set.patterns.items (letters_of p.units name) hit.0) (sym same) hit.1),
    )

    -- and the first that matches is that of its texts
    pub first_alike : (name : List ℕ) (first : Option ℕ) → IsFirstBy p set name first → IsFirst p o (written_of texts set.set.patterns.items c) name first
    first_alike name None f = λ m. f ((matched name).1 m)
    first_alike name (Some index) f = first_hit name texts set.set.patterns.items c index
        (subst (λ z. IsHit z set.set.patterns.items (letters_of p.units name) index) same f.hit)
        (λ i below hit. f.first i below (subst (λ z. IsHit z set.set.patterns.items (letters_of p.units name) i) (sym same) hit))

    -- so a set that there is where patterns are stated chooses what the texts do
    pub chosen : (sources : List (List ℕ)) (globs : Option (Bor (GlobSet E A))) → MatchOption globs (sources ≡ []) (λ held. (sources ≢ []) × (held.now ≡ set)) → (name : List ℕ) → IsChosenBy p globs name ↔ IsChosen p sources o (written_of texts set.set.patterns.items c) name
    chosen [] None held name = (λ _. tt, λ _. tt)
    chosen [] (Some h) held name = absurd (held.0 refl)
    chosen (source ∷ sources) None held name = absurd (not_nil held)
    chosen (source ∷ sources) (Some h) held name = (λ k. (matched name).0 (subst (λ z. IsMatchedBy p z name) held.1 k), λ k. subst (λ z. IsMatchedBy p z name) (sym held.1) ((matched name).1 k))

-- the first text without a meaning is the first at fault
module _ {E : Type 0} (A : Type 0) (p : Ghosts E) (o : GlobOptions) (texts : List (List ℕ)) where
  all_patterns : (ts : List (List ℕ)) → AllByRecursion (HasMeaning p.well_formed (letters_of p.units) (syntax_of o) A) ts → AllByRecursion (IsPattern p o) ts
  all_patterns [] a = tt
  all_patterns (t ∷ ts) a = ((a.0.1.are.are.written_out, one_written p o t a.0.0 a.0.1), all_patterns ts a.1)

  pub first_fault : (index : ℕ) (fault : PatternFault) → sets.IsFirstFault p.well_formed (letters_of p.units) (syntax_of o) A texts index fault → IsFirstFault p o texts index fault
  first_fault index fault f = record { before = f.before; text = f.text; after = f.after; joined = f.joined; index_is = f.index_is; fine = all_patterns f.before f.fine; is = f.is }

-- of two lists of patterns, the first at fault is in the first, or that one is fine and it is in the second
head_is : {X : Type 0} {x y : X} {xs ys : List X} → x ∷ xs ≡ y ∷ ys → x ≡ y
head_is e = cc

tail_is : {X : Type 0} {x y : X} {xs ys : List X} → x ∷ xs ≡ y ∷ ys → xs ≡ ys
tail_is e = cc

abbrev IsIn : {X : Type 0} → List X → List X → List X → X → List X → Type 0
IsIn {X} globs more before x after = ((rest : List X) × (globs ≡ before ++ x ∷ rest)) ⊎ ((front : List X) × ((before ≡ globs ++ front) × (more ≡ front ++ x ∷ after)))

is_in : {X : Type 0} (globs more before : List X) (x : X) (after : List X) → globs ++ more ≡ before ++ x ∷ after → IsIn globs more before x after
is_in [] more before x after e = inr (before, (refl, e))
is_in (g ∷ globs) more [] x after e = inl (globs, ap (λ y. y ∷ globs) (head_is e))
is_in (g ∷ globs) more (b ∷ before) x after e =
    ⊎_elim
    (λ k. inl (k.0, ap (λ y. y ∷ globs) (head_is e) ∙ ap (λ l. b ∷ l) k.1))
    (λ k. inr (k.0, (ap (λ y. y ∷ before) (sym (head_is e)) ∙ ap (λ l. g ∷ l) k.1.0, k.1.1)))
    (is_in globs more before x after (tail_is e))

both : {X : Type 0} (P : X → Type 0) (xs ys : List X) → AllByRecursion P (xs ++ ys) → AllByRecursion P xs × AllByRecursion P ys
both P [] ys a = (tt, a)
both P (x ∷ xs) ys a = let more = both P xs ys a.1 in ((a.0, more.0), more.1)

module _ {E : Type 0} (p : Ghosts E) (o : GlobOptions) (globs more : List (List ℕ)) (index : ℕ) (fault : PatternFault) (f : IsFirstFault p o (globs ++ more) index fault) where
  pub first_within : index < length globs → IsFirstFault p o globs index fault
  first_within below = by (is_in globs more f.before f.text f.after f.joined)
    where
      by : IsIn globs more f.before f.text f.after → IsFirstFault p o globs index fault
      by (inl k) = record { before = f.before; text = f.text; after = k.0; joined = k.1; index_is = f.index_is; fine = f.fine; is = f.is }
      by (inr k) =
          let all = ap length k.1.0 ∙ length-append globs k.0 in
          let at = f.index_is in
          absurd (omega (arith, below, all, at))

  pub first_past : (past : ℕ) → index ≡ length globs + past → AllByRecursion (IsPattern p o) globs × IsFirstFault p o more past fault
  first_past past is = by (is_in globs more f.before f.text f.after f.joined)
    where
      by : IsIn globs more f.before f.text f.after → AllByRecursion (IsPattern p o) globs × IsFirstFault p o more past fault
      by (inl k) =
          let all = ap length k.1 ∙ length-append f.before (f.text ∷ k.0) in
          let at = f.index_is in
          absurd (omega (arith, is, all, at))
      by (inr k) =
          let all = ap length k.1.0 ∙ length-append globs k.0 in
          let at = f.index_is in
          let fine = both (IsPattern p o) globs k.0 (subst (AllByRecursion (IsPattern p o)) k.1.0 f.fine) in
          (fine.0, record { before = k.0; text = f.text; after = f.after; joined = k.1.1; index_is = omega (arith, is, all, at); fine = fine.1; is = f.is })
