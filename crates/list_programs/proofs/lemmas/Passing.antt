-- Lists that differ in what may be written for their items.
use Rattle.std.proofs.Common.{⊎_elim, inl, inr, ℕ, ◌≤◌, List, [], ◌∷◌, Option, None, Some, Result, Ok, Err, arith}
use Rattle.std.specs.Prelude.{⊤}
use Rattle.std.specs.List.{AllByRecursion}
use Rattle.list_programs.specs.declared.fault.ListFault.{ListFault}
use Rattle.list_programs.specs.declared.fault.ListFault.TheVariants.{Rejected, TooLong, Unended, TooMuch, Run}
use Rattle.list_programs.specs.Items.{Entry}
use Rattle.list_programs.specs.Rules.{ListRules, IsEntry, passing, with_texts}
use Rattle.list_programs.specs.Reading.{State, HasBegun, Reads, Stops, IsUpTo}
use Rattle.list_programs.specs.ListRun.{IsOutput, IsBegun, IsRun, Runs, StopsOn, WritesOutput, WritesUpTo, WritesBeginning, HasRead, start}

module _ {F : Type 0} (list : ListRules F) (takes other : List ℕ → List ℕ → Type 0) (more : (item text : List ℕ) → takes item text → other item text) where
  abbrev ours : ListRules F
  ours = with_texts takes list

  abbrev theirs : ListRules F
  theirs = with_texts other list

  one_entry : (e : Entry) → IsEntry ours e → IsEntry theirs e
  one_entry e i = record { whole = i.whole; short = i.short; text = more e.0 e.1 i.text }

  all_entries : (es : List Entry) → AllByRecursion (IsEntry ours) es → AllByRecursion (IsEntry theirs) es
  all_entries [] a = tt
  all_entries (e ∷ es) a = (one_entry e a.0, all_entries es a.1)

  begun_with : (begun : List ℕ) → HasBegun ours begun → HasBegun theirs begun
  begun_with begun b = record { whole = b.whole; short = b.short }

  reads_with : (old : State) (bytes : List ℕ) (new : State) → Reads ours old bytes new → Reads theirs old bytes new
  reads_with old bytes new r = record { entries = r.entries; are = all_entries r.entries r.are; joined = r.joined; begun = begun_with new.begun r.begun; counted = r.counted; written = r.written }

  up_to_with : (old : State) (block rest : List ℕ) (new : State) → IsUpTo ours old block rest new → IsUpTo theirs old block rest new
  up_to_with old block rest new u = record { done = u.done; cut = u.cut; reads = reads_with old u.done new u.reads; room = u.room }

  has_read_with : (input left old new : Option (List ℕ)) (begun : List ℕ) (count total : ℕ) → HasRead ours input left old new begun count total → HasRead theirs input left old new begun count total
  has_read_with input left old new begun count total h = record {
    bytes = h.bytes;
    text = h.text;
    consumed = h.consumed;
    written = h.written;
    reads = reads_with start h.bytes (record { begun = begun; count = count; output = h.text }) h.reads;
    total_is = h.total_is;
  }

  output_with : (input output : List ℕ) → IsOutput ours input output → IsOutput theirs input output
  output_with input output o = record { entries = o.entries; are = all_entries o.entries o.are; items = o.items; written = o.written }

  begins_with : (input output : List ℕ) → IsBegun ours input output → IsBegun theirs input output
  begins_with input output b = record { entries = b.entries; are = all_entries b.entries b.are; rest = b.rest; joined = b.joined; written = b.written }

  stop_with : (old : State) (bytes output : List ℕ) (fault : ListFault F) → Stops ours old bytes output fault → Stops theirs old bytes output fault
  stop_with old bytes output fault s = record { entries = s.entries; are = all_entries s.entries s.are; item = s.item; rest = s.rest; joined = s.joined; whole = s.whole; ended = s.ended; because = s.because; written = s.written }

  stops_with : (input output : List ℕ) (fault : ListFault F) → StopsOn ours input output fault → StopsOn theirs input output fault
  stops_with input output (Rejected n why) s = stop_with start input output (Rejected n why) s
  stops_with input output (TooLong n most) s = stop_with start input output (TooLong n most) s
  stops_with input output (Unended n end) s = stop_with start input output (Unended n end) s
  stops_with input output TooMuch s = (s.0, begins_with input output s.1)
  stops_with input output (Run why) s = begins_with input output s

  writes_output_with : (input old new : Option (List ℕ)) → WritesOutput ours input old new → WritesOutput theirs input old new
  writes_output_with None old new w = w
  writes_output_with (Some bytes) old new w = (w.0, (output_with bytes w.0 w.1.0, w.1.1))

  writes_up_to_with : (fault : ListFault F) (input old new : Option (List ℕ)) → WritesUpTo ours fault input old new → WritesUpTo theirs fault input old new
  writes_up_to_with fault None old new w = w
  writes_up_to_with fault (Some bytes) old new w = (w.0, (stops_with bytes w.0 fault w.1.0, w.1.1))

  writes_beginning_with : (input old new : Option (List ℕ)) → WritesBeginning ours input old new → WritesBeginning theirs input old new
  writes_beginning_with None old new w = w
  writes_beginning_with (Some bytes) old new w = (w.0, (⊎_elim (λ b. inl (begins_with bytes w.0 b)) (λ o. inr (output_with bytes w.0 o)) w.1.0, w.1.1))

-- what is read while some items may have been passed over is read while more may have been
module _ {F : Type 0} (list : ListRules F) (count later : ℕ) (up : count ≤ later) where
  abbrev pub texts : ℕ → List ℕ → List ℕ → Type 0
  texts n = (passing n list).is_text

  later_text : (item text : List ℕ) → texts count item text → texts later item text
  later_text item text (inl t) = inl t
  later_text item text (inr over) = inr (omega (arith, over.0, up), over.1)

  pub later_begun : (begun : List ℕ) → HasBegun (passing count list) begun → HasBegun (passing later list) begun
  later_begun = begun_with list (texts count) (texts later) later_text

  pub later_up_to : (old : State) (block rest : List ℕ) (new : State) → IsUpTo (passing count list) old block rest new → IsUpTo (passing later list) old block rest new
  later_up_to = up_to_with list (texts count) (texts later) later_text

  pub later_has_read : (input left old new : Option (List ℕ)) (begun : List ℕ) (c total : ℕ) → HasRead (passing count list) input left old new begun c total → HasRead (passing later list) input left old new begun c total
  later_has_read = has_read_with list (texts count) (texts later) later_text

-- where no item has been passed over, each has its text
module _ {F : Type 0} (list : ListRules F) where
  abbrev over : List ℕ → List ℕ → Type 0
  over = (passing 0 list).is_text

  no_text : (item text : List ℕ) → over item text → list.is_text item text
  no_text item text (inl t) = t
  no_text item text (inr over) = absurd (omega (arith, over.0))

  pub none_output : (input old new : Option (List ℕ)) → WritesOutput (passing 0 list) input old new → WritesOutput list input old new
  none_output = writes_output_with list over list.is_text no_text

  pub none_up_to : (fault : ListFault F) (input old new : Option (List ℕ)) → WritesUpTo (passing 0 list) fault input old new → WritesUpTo list fault input old new
  none_up_to = writes_up_to_with list over list.is_text no_text

  pub none_beginning : (input old new : Option (List ℕ)) → WritesBeginning (passing 0 list) input old new → WritesBeginning list input old new
  none_beginning = writes_beginning_with list over list.is_text no_text

  none_run : (input left old new : Option (List ℕ)) (answer : Result ⊤ (ListFault F)) → IsRun (passing 0 list) input left old new answer → IsRun list input left old new answer
  none_run input left old new (Ok done) r = record { all_read = r.all_read; written = none_output input old new r.written; stopped = r.stopped; beginning = λ e. none_beginning input old new (r.beginning e) }
  none_run input left old new (Err fault) r = record { all_read = r.all_read; written = r.written; stopped = λ other. none_up_to fault input old new (r.stopped other); beginning = λ e. none_beginning input old new (r.beginning e) }

  pub none_runs : {X : Type 0} (fault : ListFault F → X) (input left old new : Option (List ℕ)) (answer : Result ⊤ X) → Runs (passing 0 list) fault input left old new answer → Runs list fault input left old new answer
  none_runs fault input left old new answer r = (r.0, (none_run input left old new r.0 r.1.0, r.1.1))
