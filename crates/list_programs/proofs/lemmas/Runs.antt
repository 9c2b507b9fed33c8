-- Blocks, one after the other, to the end of the input.
use Rattle.std.proofs.Common.{◌≡◌, ◌==◌, ◌||◌, Bool, not, inl, inr, ℕ, ◌+◌, ◌^◌, ◌≤◌, List, [], ◌∷◌, ◌++◌, Option, None, Some, IfSome, Result, Ok, Err, IfOk, IfErr, length, take, refl, sym, ap, ◌∙◌, subst, arith, append_assoc, append-nil, length-append}
use Rattle.std.proofs.KnownBytes.{Consumes-nil, Appends-nil, Consumes-trans, Appends-trans, Consumes-whole}
use Rattle.std.proofs.lemmas.Grind.{flat_map-append}
use Rattle.std.proofs.lemmas.Result.{IfErr-at_err}
use Rattle.std.proofs.Math.Dec.{eqb-suc-zero}
use Rattle.std.proofs.Math.Seq.{take-append-add}
use Rattle.std.specs.Io.KnownBytes.{Appends, Consumes, IsAtEnd}
use Rattle.program_frame.specs.declared.fault.Failure.{Failure}
use Rattle.program_frame.specs.declared.fault.Failure.TheVariants as failure
use Rattle.list_programs.specs.declared.fault.ListFault.{ListFault}
use Rattle.list_programs.specs.declared.fault.ListFault.TheVariants.{Rejected, TooLong, Unended, TooMuch, Run}
use Rattle.list_programs.specs.Items.{Entry, ended, text_of, items_of, texts_of}
use Rattle.list_programs.specs.Rules.{ListRules, IsFaultAt, IsRejected, IsEntry}
use Rattle.program_frame.specs.Written.{AppendsBeginning}
use Rattle.list_programs.specs.Reading.{State, Reads, Stops, IsEnded, Begins}
use Rattle.list_programs.specs.ListRun.{start, has_some, IsOutput, IsBegun, StopsOn, WritesOutput, WritesSome, WritesUpTo, WritesBeginning, HasRead, IsLast, Finishes}
use Rattle.list_programs.proofs.lemmas.Reading.{all-append, with_more_after}

-- what is known of the first bytes, whatever comes after them, is known of the input
pub known : (input left : Option (List ℕ)) (bytes : List ℕ) (P : List ℕ → Type 0) → Consumes input left bytes → ((more : List ℕ) → P (bytes ++ more)) → IfSome input P
known None left bytes P e f = tt
known (Some xs) None bytes P e f = absurd e
known (Some xs) (Some ys) bytes P e f = subst P (sym e) (f ys)

-- a beginning of what comes after other bytes
take_after : (xs ys : List ℕ) (n : ℕ) → xs ++ take n ys ≡ take (length xs + n) (xs ++ ys)
take_after xs ys n = sym (take-append-add xs ys n)

-- each item has at least the byte that ends it
few : (end : ℕ) (entries : List Entry) → length entries ≤ length (items_of end entries)
few end [] = omega arith
few end (e ∷ entries) = omega (arith, few end entries, length-append (e.0 ++ end ∷ []) (items_of end entries), length-append e.0 (end ∷ []))

-- results and faults differ
pub no_err : {X F : Type 0} {x : X} {fault : F} → ◌≡◌ {A = Result X F} (Ok x) (Err fault) → ⊥
no_err e = cc

same_run : {X F : Type 0} (fault : ListFault F) (why : Failure) → ◌≡◌ {A = Result X (ListFault F)} (Err fault) (Err (Run why)) → fault ≡ Run why
same_run fault why e = cc

-- the same fault in place of another value
pub other_err : (X Y : Type 0) {F : Type 0} (fault other : ListFault F) → ◌≡◌ {A = Result X (ListFault F)} (Err fault) (Err other) → ◌≡◌ {A = Result Y (ListFault F)} (Err fault) (Err other)
other_err X Y fault other e = cc

pub read_no_memory : failure.Read ≡ failure.Memory → ⊥
read_no_memory e = cc

pub write_no_memory : failure.Write ≡ failure.Memory → ⊥
write_no_memory e = cc

pub write_no_read : {X F : Type 0} → ◌≡◌ {A = Result X (ListFault F)} (Err (Run failure.Write)) (Err (Run failure.Read)) → ⊥
write_no_read e = cc

pub too_much_no_run : {X F : Type 0} {why : Failure} → ◌≡◌ {A = Result X (ListFault F)} (Err TooMuch) (Err (Run why)) → ⊥
too_much_no_run e = cc

-- a text of two has a byte if the first has one, or the second
some_append : (xs ys : List ℕ) → has_some (xs ++ ys) ≡ (has_some xs || has_some ys)
some_append [] ys = refl
some_append (x ∷ xs) ys = refl

pub some_of_empty : (text : List ℕ) → not (length text == 0) ≡ has_some text
some_of_empty [] = refl
some_of_empty (x ∷ text) = ap not (eqb-suc-zero (length text))

-- what was written before, and this after it
pub some_more : (before wrote : Bool) (old mid new : Option (List ℕ)) (text : List ℕ) → WritesSome before old mid → Appends mid new text → wrote ≡ (before || has_some text) → WritesSome wrote old new
some_more before wrote old mid new text w a is = (w.0 ++ text, (Appends-trans old mid new w.0 text w.1.0 a, is ∙ ap (λ b. b || has_some text) w.1.1 ∙ sym (some_append w.0 text)))

module _ {F : Type 0} (list : ListRules F) where
  abbrev end : ℕ
  end = list.end

  abbrev on : State → State
  on mid = record { begun = mid.begun; count = mid.count; output = [] }

  both_texts : (before first text : List ℕ) (entries more : List Entry) → first ≡ before ++ texts_of entries → text ≡ texts_of more → first ++ text ≡ before ++ texts_of (entries ++ more)
  both_texts before first text entries more e f =
      ap (λ x. x ++ text) e
      ∙ append_assoc before (texts_of entries) text
      ∙ ap (λ x. before ++ (texts_of entries ++ x)) f
      ∙ ap (λ x. before ++ x) (sym (flat_map-append text_of entries more))

  both_items : (old mid : State) (a b rest : List ℕ) (more : List Entry) (r : Reads list old a mid) → mid.begun ++ b ≡ items_of end more ++ rest
      → old.begun ++ (a ++ b) ≡ items_of end (r.entries ++ more) ++ rest
  both_items old mid a b rest more r e =
      with_more_after old.begun a (items_of end r.entries) mid.begun b r.joined
      ∙ ap (λ x. items_of end r.entries ++ x) e
      ∙ sym (append_assoc (items_of end r.entries) (items_of end more) rest)
      ∙ ap (λ x. x ++ rest) (sym (flat_map-append (ended end) r.entries more))

  then_reads : (old mid new : State) (a b : List ℕ) → Reads list old a mid → Reads list (on mid) b new
      → Reads list old (a ++ b) (record { begun = new.begun; count = new.count; output = mid.output ++ new.output })
  then_reads old mid new a b r q = record {
    entries = r.entries ++ q.entries;
    are = all-append (IsEntry list) r.entries q.entries r.are q.are;
    joined = both_items old mid a b new.begun q.entries r q.joined;
    begun = q.begun;
    counted = omega (arith, q.counted, r.counted, length-append r.entries q.entries);
    written = both_texts old.output mid.output new.output r.entries q.entries r.written q.written;
  }

  then_stops : (old mid : State) (a b text : List ℕ) (fault : ListFault F) → Reads list old a mid → Stops list (on mid) b text fault → Stops list old (a ++ b) (mid.output ++ text) fault
  then_stops old mid a b text fault r q =
      let n : mid.count + length q.entries + 1 ≡ old.count + length (r.entries ++ q.entries) + 1 = omega (arith, r.counted, length-append r.entries q.entries) in record {
        entries = r.entries ++ q.entries;
        are = all-append (IsEntry list) r.entries q.entries r.are q.are;
        item = q.item;
        rest = q.rest;
        joined = both_items old mid a b (q.item ++ q.rest) q.entries r q.joined;
        whole = q.whole;
        ended = q.ended;
        because = subst (λ m. IsRejected list m q.item fault) n q.because;
        written = both_texts old.output mid.output text r.entries q.entries r.written q.written;
      }

  then_begins : (old mid : State) (a b text : List ℕ) → Reads list old a mid → Begins list (on mid) b text → Begins list old (a ++ b) (mid.output ++ text)
  then_begins old mid a b text r q = record {
    entries = r.entries ++ q.entries;
    are = all-append (IsEntry list) r.entries q.entries r.are q.are;
    rest = q.rest;
    joined = both_items old mid a b q.rest q.entries r q.joined;
    written = both_texts old.output mid.output text r.entries q.entries r.written q.written;
  }

  pub reads_begin : (old new : State) (bytes : List ℕ) → Reads list old bytes new → (more : List ℕ) → Begins list old (bytes ++ more) new.output
  reads_begin old new bytes r more = record {
    entries = r.entries;
    are = r.are;
    rest = new.begun ++ more;
    joined = with_more_after old.begun bytes (items_of end r.entries) new.begun more r.joined;
    written = r.written;
  }

  pub stops_begin : (old : State) (bytes text : List ℕ) (fault : ListFault F) → Stops list old bytes text fault → Begins list old bytes text
  stops_begin old bytes text fault q = record { entries = q.entries; are = q.are; rest = q.item ++ q.rest; joined = q.joined; written = q.written }

  of_begins : (input text : List ℕ) → Begins list start input text → IsBegun list input text
  of_begins input text b = record { entries = b.entries; are = b.are; rest = b.rest; joined = b.joined; written = b.written }

  of_stops : (input text : List ℕ) (fault : ListFault F) → Stops list start input text fault → StopsOn list input text fault
  of_stops input text (Rejected n why) q = q
  of_stops input text (TooLong n most) q = q
  of_stops input text (Unended n end) q = q
  of_stops input text TooMuch q = absurd q.because
  of_stops input text (Run why) q = of_begins input text (stops_begin start input text (Run why) q)

  -- no item is rejected for a read or a write
  pub item_memory : {X : Type 0} (n : ℕ) (item : List ℕ) (fault : ListFault F) (why : Failure) → IsFaultAt list n item fault → ◌≡◌ {A = Result X (ListFault F)} (Err fault) (Err (Run why)) → why ≡ failure.Memory
  item_memory n item fault why h e = subst (IsFaultAt list n item) (same_run fault why e) h

  -- nothing comes after the last item, which may lack its end
  pub at_end : (f : ListFault F) → (n : ℕ) (item : List ℕ) → list.takes_unended → IsFaultAt list n item f → IsEnded list f []
  at_end (Rejected m why) n item t h = inl (refl, t)
  at_end (TooLong m most) n item t h = tt
  at_end (Unended m end) n item t h = refl
  at_end TooMuch n item t h = tt
  at_end (Run why) n item t h = tt

  pub block_memory : (answer : Result ℕ (ListFault F)) (old : State) (bytes text : List ℕ) (why : Failure) → IfErr answer (λ fault. (more : List ℕ) → Stops list old (bytes ++ more) text fault) → answer ≡ Err (Run why) → why ≡ failure.Memory
  block_memory answer old bytes text why h e = (IfErr-at_err (λ fault. (more : List ℕ) → Stops list old (bytes ++ more) text fault) e h []).because

  -- what a block led to or stopped with begins the output
  pub block_begins : (answer : Result ℕ (ListFault F)) (begun kept bytes none text : List ℕ) (count : ℕ) → none ≡ []
      → IfOk answer (λ ended. Reads list (record { begun = begun; count = count; output = none }) bytes (record { begun = kept; count = ended; output = text }))
      → IfErr answer (λ fault. (more : List ℕ) → Stops list (record { begun = begun; count = count; output = none }) (bytes ++ more) text fault)
      → (more : List ℕ) → Begins list (record { begun = begun; count = count; output = [] }) (bytes ++ more) text
  block_begins (Ok ended) begun kept bytes none text count e read stop more =
      subst (λ x. Begins list (record { begun = begun; count = count; output = x }) (bytes ++ more) text) e (reads_begin _ _ bytes read more)
  block_begins (Err fault) begun kept bytes none text count e read stop more =
      subst (λ x. Begins list (record { begun = begun; count = count; output = x }) (bytes ++ more) text) e (stops_begin _ (bytes ++ more) text fault (stop more))

  pub nothing_read : (input old : Option (List ℕ)) → HasRead list input input old old [] 0 0
  nothing_read input old = record {
    bytes = [];
    text = [];
    consumed = Consumes-nil input;
    written = Appends-nil old;
    reads = record { entries = []; are = tt; joined = refl; begun = record { whole = tt; short = omega arith }; counted = refl; written = refl };
    total_is = refl;
  }

  module _ (input left next old mid new : Option (List ℕ)) (begun : List ℕ) (count total : ℕ) (h : HasRead list input left old mid begun count total) where
    abbrev at : State
    at = record { begun = begun; count = count; output = [] }

    -- as many items as bytes at most
    pub counted : count + length begun ≤ total
    counted = omega (arith, h.total_is, h.reads.counted, few end h.reads.entries, ap length h.reads.joined, length-append (items_of end h.reads.entries) begun)

    pub more_read : (block kept text : List ℕ) (ended sum : ℕ) → Consumes left next block → Reads list at block (record { begun = kept; count = ended; output = text }) → Appends mid new text → sum ≡ total + length block
        → HasRead list input next old new kept ended sum
    more_read block kept text ended sum c r w e = record {
      bytes = h.bytes ++ block;
      text = h.text ++ text;
      consumed = Consumes-trans input left next h.bytes block h.consumed c;
      written = Appends-trans old mid new h.text text h.written w;
      reads = then_reads start (record { begun = begun; count = count; output = h.text }) (record { begun = kept; count = ended; output = text }) h.bytes block h.reads r;
      total_is = omega (arith, e, h.total_is, length-append h.bytes block);
    }

    pub stopped : (block text : List ℕ) (fault : ListFault F) → Consumes left next block → ((more : List ℕ) → Stops list at (block ++ more) text fault) → Appends mid new text → WritesUpTo list fault input old new
    stopped block text fault c q w =
        known input next (h.bytes ++ block) _ (Consumes-trans input left next h.bytes block h.consumed c)
        (λ more. (
          h.text ++ text,
          (
            of_stops ((h.bytes ++ block) ++ more) (h.text ++ text) fault
                (subst (λ x. Stops list start x (h.text ++ text) fault) (sym (append_assoc h.bytes block more))
                (then_stops start (record { begun = begun; count = count; output = h.text }) h.bytes (block ++ more) text fault h.reads (q more))),
            Appends-trans old mid new h.text text h.written w,
          ),
        ))

    -- a beginning of a text comes after the text before it
    half : (text : List ℕ) → AppendsBeginning mid new text → AppendsBeginning old new (h.text ++ text)
    half text w = (length h.text + w.0, subst (Appends old new) (take_after h.text text w.0) (Appends-trans old mid new h.text (take w.0 text) h.written w.1))

    pub half_written : (block text : List ℕ) → Consumes left next block → ((more : List ℕ) → Begins list at (block ++ more) text) → AppendsBeginning mid new text → WritesBeginning list input old new
    half_written block text c q w =
        known input next (h.bytes ++ block) _ (Consumes-trans input left next h.bytes block h.consumed c)
        (λ more. (
          h.text ++ text,
          (
            inl (of_begins ((h.bytes ++ block) ++ more) (h.text ++ text)
                (subst (λ x. Begins list start x (h.text ++ text)) (sym (append_assoc h.bytes block more))
                (then_begins start (record { begun = begun; count = count; output = h.text }) h.bytes (block ++ more) text h.reads (q more)))),
            half text w,
          ),
        ))

    pub so_far : (why : Failure) → WritesUpTo list (Run why) input old mid
    so_far why = known input left h.bytes _ h.consumed (λ more. (h.text, (of_begins (h.bytes ++ more) h.text (reads_begin start (record { begun = begun; count = count; output = h.text }) h.bytes h.reads more), h.written)))

    pub too_much : (block : List ℕ) → Consumes left next block → 2 ^ 64 ≤ total + length block + 1 → WritesUpTo list TooMuch input old mid
    too_much block c big =
        known input next (h.bytes ++ block) _ (Consumes-trans input left next h.bytes block h.consumed c)
        (λ more. (
          h.text,
          (
            (
              omega (arith, h.total_is, big, length-append h.bytes block, length-append (h.bytes ++ block) more),
              subst (λ x. IsBegun list x h.text) (sym (append_assoc h.bytes block more)) (of_begins (h.bytes ++ (block ++ more)) h.text (reads_begin start (record { begun = begun; count = count; output = h.text }) h.bytes h.reads (block ++ more))),
            ),
            h.written,
          ),
        ))

    whole : Consumes left next [] → Consumes input next h.bytes
    whole c = subst (Consumes input next) (append-nil h.bytes) (Consumes-trans input left next h.bytes [] h.consumed c)

    with_last : (text : List ℕ) → IsLast list begun text → IsOutput list h.bytes (h.text ++ text)
    with_last text l = record {
      entries = h.reads.entries ++ (begun, text) ∷ [];
      are = all-append (IsEntry list) h.reads.entries ((begun, text) ∷ []) h.reads.are (l.entry, tt);
      items = inr (l.taken, record { before = h.reads.entries; last = (begun, text); entries_are = refl; some = l.some; joined = h.reads.joined });
      written = both_texts [] h.text text h.reads.entries ((begun, text) ∷ []) h.reads.written (sym (append-nil text));
    }

    with_none : begun ≡ [] → IsOutput list h.bytes h.text
    with_none e = record {
      entries = h.reads.entries;
      are = h.reads.are;
      items = inl (h.reads.joined ∙ ap (λ x. items_of end h.reads.entries ++ x) e ∙ append-nil (items_of end h.reads.entries));
      written = h.reads.written;
    }

    output : (text : List ℕ) → Finishes list begun text → IsOutput list h.bytes (h.text ++ text)
    output text (inl none) = subst (IsOutput list h.bytes) (sym (append-nil h.text) ∙ ap (λ x. h.text ++ x) (sym none.1)) (with_none none.0)
    output text (inr last) = with_last text last

    pub finished : (text : List ℕ) → Consumes left next [] → IsAtEnd next → Finishes list begun text → Appends mid new text → WritesOutput list input old new
    finished text c e f w = Consumes-whole input next h.bytes _ (whole c) e (h.text ++ text, (output text f, Appends-trans old mid new h.text text h.written w))

    -- the last item is rejected
    at_last : (fault : ListFault F) → IsRejected list (count + 1) begun fault → IsEnded list fault [] → Stops list start h.bytes h.text fault
    at_last fault f ended = record {
      entries = h.reads.entries;
      are = h.reads.are;
      item = begun;
      rest = [];
      joined = h.reads.joined ∙ ap (λ x. items_of end h.reads.entries ++ x) (sym (append-nil begun));
      whole = h.reads.begun.whole;
      ended = ended;
      because = subst (λ n. IsRejected list (n + 1) begun fault) h.reads.counted f;
      written = h.reads.written;
    }

    pub last_rejected : (fault : ListFault F) → Consumes left next [] → IsAtEnd next → IsRejected list (count + 1) begun fault → IsEnded list fault [] → WritesUpTo list fault input old mid
    last_rejected fault c e f ended = Consumes-whole input next h.bytes _ (whole c) e (h.text, (of_stops h.bytes h.text fault (at_last fault f ended), h.written))

    pub last_half : (text : List ℕ) → Consumes left next [] → IsAtEnd next → IsLast list begun text → AppendsBeginning mid new text → WritesBeginning list input old new
    last_half text c e l w =
        Consumes-whole input next h.bytes _ (whole c) e
        (h.text ++ text, (inr (with_last text l), half text w))
