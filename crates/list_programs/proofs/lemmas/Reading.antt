-- Items of a block, one after the other.
use Rattle.std.proofs.Common.{◌≡◌, inl, inr, ℕ, ◌+◌, ◌^◌, ◌≤◌, ◌<◌, List, [], ◌∷◌, ◌++◌, length, refl, sym, ap, ◌∙◌, subst, arith, append_assoc, append-nil, length-append}
use Rattle.std.specs.List.{AllByRecursion}
use Rattle.std.proofs.lemmas.Grind.{flat_map-append}
use Rattle.list_programs.specs.declared.fault.ListFault.{ListFault}
use Rattle.list_programs.specs.declared.fault.ListFault.TheVariants.{Rejected, TooLong, Unended, TooMuch, Run}
use Rattle.list_programs.specs.Items.{Entry, Lacks, IsCutAt, ended, text_of, items_of, texts_of}
use Rattle.list_programs.specs.Rules.{ListRules, IsFaultAt, IsRejected, IsEntry, EndsRun}
use Rattle.list_programs.specs.Reading.{State, HasBegun, Reads, Stops, IsEnded, IsKeepFault, IsUpTo}

-- a fault with which a run may end whatever becomes of rejected items
pub ends_any : {F : Type 0} (stops : Type 0) (fault : ListFault F) → EndsRun ⊥ fault → EndsRun stops fault
ends_any stops (Rejected n why) e = absurd e
ends_any stops (TooLong n most) e = tt
ends_any stops (Unended n end) e = tt
ends_any stops TooMuch e = tt
ends_any stops (Run why) e = tt

pub all-append : (P : Entry → Type 0) (es ds : List Entry) → AllByRecursion P es → AllByRecursion P ds → AllByRecursion P (es ++ ds)
all-append P [] ds a b = b
all-append P (e ∷ es) ds a b = (a.0, all-append P es ds a.1 b)

-- no byte ends an item in two parts
pub lacks-append : (end : ℕ) (xs ys : List ℕ) → Lacks end xs → Lacks end ys → Lacks end (xs ++ ys)
lacks-append end [] ys a b = b
lacks-append end (x ∷ xs) ys a b = (a.0, lacks-append end xs ys a.1 b)

-- items that were read, and then one more
pub more_items : (end : ℕ) (entries : List Entry) (e : Entry) → items_of end (entries ++ e ∷ []) ≡ items_of end entries ++ (e.0 ++ end ∷ [])
more_items end entries e = flat_map-append (ended end) entries (e ∷ []) ∙ ap (λ x. items_of end entries ++ x) (append-nil (e.0 ++ end ∷ []))

pub more_texts : (entries : List Entry) (e : Entry) → texts_of (entries ++ e ∷ []) ≡ texts_of entries ++ e.1
more_texts entries e = flat_map-append text_of entries (e ∷ []) ∙ ap (λ x. texts_of entries ++ x) (append-nil e.1)

-- bytes after others
pub with_more_after : (begun done prefix mid more : List ℕ) → begun ++ done ≡ prefix ++ mid → begun ++ (done ++ more) ≡ prefix ++ (mid ++ more)
with_more_after begun done prefix mid more e = sym (append_assoc begun done more) ∙ ap (λ x. x ++ more) e ∙ append_assoc prefix mid more

-- an item in two parts and its end
in_parts : (xs ys more : List ℕ) → xs ++ (ys ++ more) ≡ (xs ++ ys) ++ more
in_parts xs ys more = sym (append_assoc xs ys more)

module _ {F : Type 0} (list : ListRules F) where
  abbrev end : ℕ
  end = list.end

  -- nothing of the block has been read
  pub at_start : (begun block output : List ℕ) (count : ℕ) → HasBegun list begun → count + length begun + length block + 1 < 2 ^ 64
      → IsUpTo list (record { begun = begun; count = count; output = output }) block block (record { begun = begun; count = count; output = output })
  at_start begun block output count h room = record {
    done = [];
    cut = refl;
    reads = record { entries = []; are = tt; joined = append-nil begun; begun = h; counted = omega arith; written = sym (append-nil output) };
    room = room;
  }

  -- an item has ended
  pub after_item : (old mid : State) (block rest last after text now : List ℕ) (count : ℕ) → IsUpTo list old block rest mid → IsCutAt end rest last after
      → IsEntry list (mid.begun ++ last, text) → now ≡ mid.output ++ text → count ≡ mid.count + 1 → (kept : List ℕ) → kept ≡ []
      → IsUpTo list old block after (record { begun = kept; count = count; output = now })
  after_item old mid block rest last after text now count u k e w n kept none = subst (λ x. IsUpTo list old block after (record { begun = x; count = count; output = now })) (sym none) (record {
    done = u.done ++ (last ++ end ∷ []);
    cut = u.cut ∙ ap (λ x. u.done ++ x) (k.joined ∙ in_parts last (end ∷ []) after) ∙ in_parts u.done (last ++ end ∷ []) after;
    reads = record {
      entries = u.reads.entries ++ (mid.begun ++ last, text) ∷ [];
      are = all-append (IsEntry list) u.reads.entries ((mid.begun ++ last, text) ∷ []) u.reads.are (e, tt);
      joined =
          with_more_after old.begun u.done (items_of end u.reads.entries) mid.begun (last ++ end ∷ []) u.reads.joined
          ∙ ap (λ x. items_of end u.reads.entries ++ x) (in_parts mid.begun last (end ∷ []))
          ∙ sym (more_items end u.reads.entries (mid.begun ++ last, text))
          ∙ sym (append-nil (items_of end (u.reads.entries ++ (mid.begun ++ last, text) ∷ [])));
      begun = record { whole = tt; short = omega arith };
      counted = omega (arith, n, u.reads.counted, length-append u.reads.entries ((mid.begun ++ last, text) ∷ []));
      written = w ∙ ap (λ x. x ++ text) u.reads.written ∙ append_assoc old.output (texts_of u.reads.entries) text ∙ ap (λ x. old.output ++ x) (sym (more_texts u.reads.entries (mid.begun ++ last, text)));
    };
    room = omega (arith, n, u.room, ap length k.joined, length-append last (end ∷ after));
  })

  -- a fault of the item is one with which the run ends at it
  pub of_item : (number : ℕ) (item : List ℕ) (fault : ListFault F) → IsFaultAt list number item fault → IsRejected list number item fault
  of_item number item (Rejected n why) h = h
  of_item number item (TooLong n most) h = h
  of_item number item (Unended n end) h = absurd h
  of_item number item TooMuch h = absurd h
  of_item number item (Run why) h = h

  -- an item that ended is rejected
  pub at_item : (old mid : State) (block rest last after now : List ℕ) (fault : ListFault F) → IsUpTo list old block rest mid → IsCutAt end rest last after
      → IsFaultAt list (mid.count + 1) (mid.begun ++ last) fault → now ≡ mid.output → (more : List ℕ) → Stops list old (block ++ more) now fault
  at_item old mid block rest last after now fault u k f w more = record {
    entries = u.reads.entries;
    are = u.reads.are;
    item = mid.begun ++ last;
    rest = end ∷ (after ++ more);
    joined =
        ap (λ x. old.begun ++ (x ++ more)) u.cut
        ∙ ap (λ x. old.begun ++ x) (append_assoc u.done rest more)
        ∙ with_more_after old.begun u.done (items_of end u.reads.entries) mid.begun (rest ++ more) u.reads.joined
        ∙ ap (λ x. items_of end u.reads.entries ++ (mid.begun ++ (x ++ more))) k.joined
        ∙ ap (λ x. items_of end u.reads.entries ++ (mid.begun ++ x)) (append_assoc last (end ∷ after) more)
        ∙ ap (λ x. items_of end u.reads.entries ++ x) (in_parts mid.begun last (end ∷ (after ++ more)));
    whole = lacks-append end mid.begun last u.reads.begun.whole k.whole;
    ended = then_end fault (after ++ more) f;
    because = subst (λ n. IsRejected list (n + 1) (mid.begun ++ last) fault) u.reads.counted (of_item (mid.count + 1) (mid.begun ++ last) fault f);
    written = w ∙ u.reads.written;
  }
    where
      then_end : (f : ListFault F) (r : List ℕ) → IsFaultAt list (mid.count + 1) (mid.begun ++ last) f → IsEnded list f (list.end ∷ r)
      then_end (Rejected n why) r h = inr (r, refl)
      then_end (TooLong n most) r h = tt
      then_end (Unended n end) r h = absurd h
      then_end TooMuch r h = tt
      then_end (Run why) r h = tt

  -- the rest of the block belongs to an item that doesn't end in it
  pub at_end : (old mid : State) (block rest now kept : List ℕ) → IsUpTo list old block rest mid → Lacks end rest → kept ≡ mid.begun ++ rest → length kept ≤ list.longest → now ≡ mid.output
      → Reads list old block (record { begun = kept; count = mid.count; output = now })
  at_end old mid block rest now kept u l k short w = record {
    entries = u.reads.entries;
    are = u.reads.are;
    joined =
        ap (λ x. old.begun ++ x) u.cut
        ∙ with_more_after old.begun u.done (items_of end u.reads.entries) mid.begun rest u.reads.joined
        ∙ ap (λ x. items_of end u.reads.entries ++ x) (sym k);
    begun = record { whole = subst (Lacks end) (sym k) (lacks-append end mid.begun rest u.reads.begun.whole l); short = short };
    counted = u.reads.counted;
    written = w ∙ u.reads.written;
  }

  -- a fault of keeping bytes is one of the item
  pub of_kept : (number : ℕ) (item : List ℕ) (fault : ListFault F) → IsKeepFault list number item fault → IsFaultAt list number item fault
  of_kept number item fault (inl long) = subst (IsFaultAt list number item) (sym long.0) (refl, (refl, inl long.1))
  of_kept number item fault (inr memory) = subst (IsFaultAt list number item) (sym memory) refl

  ended_kept : (number : ℕ) (item : List ℕ) (fault : ListFault F) (r : List ℕ) → IsKeepFault list number item fault → IsEnded list fault r
  ended_kept number item fault r (inl long) = subst (λ f. IsEnded list f r) (sym long.0) tt
  ended_kept number item fault r (inr memory) = subst (λ f. IsEnded list f r) (sym memory) tt

  -- the rest can't be kept
  pub not_kept : (old mid : State) (block rest now : List ℕ) (fault : ListFault F) → IsUpTo list old block rest mid → Lacks end rest
      → IsKeepFault list (mid.count + 1) (mid.begun ++ rest) fault → now ≡ mid.output → (more : List ℕ) → Stops list old (block ++ more) now fault
  not_kept old mid block rest now fault u l f w more = record {
    entries = u.reads.entries;
    are = u.reads.are;
    item = mid.begun ++ rest;
    rest = more;
    joined =
        ap (λ x. old.begun ++ (x ++ more)) u.cut
        ∙ ap (λ x. old.begun ++ x) (append_assoc u.done rest more)
        ∙ with_more_after old.begun u.done (items_of end u.reads.entries) mid.begun (rest ++ more) u.reads.joined
        ∙ ap (λ x. items_of end u.reads.entries ++ x) (in_parts mid.begun rest more);
    whole = lacks-append end mid.begun rest u.reads.begun.whole l;
    ended = ended_kept (mid.count + 1) (mid.begun ++ rest) fault more f;
    because = subst (λ n. IsRejected list (n + 1) (mid.begun ++ rest) fault) u.reads.counted (of_item (mid.count + 1) (mid.begun ++ rest) fault (of_kept (mid.count + 1) (mid.begun ++ rest) fault f));
    written = w ∙ u.reads.written;
  }
