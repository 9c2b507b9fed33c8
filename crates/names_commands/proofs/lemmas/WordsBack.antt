-- Words on one line that `list` writes, and names that `join` reads of them.
use Rattle.std.proofs.Common.{◌≡◌, ⊎_elim, inl, ℕ, ◌+◌, ◌*◌, ◌≤◌, true, List, [], ◌∷◌, ◌++◌, length, refl, sym, ap, ◌∙◌, subst, arith, append-nil}
use Rattle.std.specs.Prelude.{Result, Ok}
use Rattle.std.specs.List.{All, AllByRecursion}
use Rattle.wtf8_core.specs.Byte.{IsByte}
use Rattle.os_str_bytes.specs.Platform.{Ghosts}
use Rattle.os_command_line.specs.Shell.{IsRead, language}
use Rattle.os_command_line.specs.ShellWriting.{IsLineWord}
use Rattle.os_command_line.specs.declared.shell.fault.WordsFault.{WordsFault}
use Rattle.os_command_line.proofs.lemmas.ShellItems.{one_list}
use Rattle.os_command_line.proofs.lemmas.ShellOnLine.{line_stays, line_word_len, line_word_reads}
use Rattle.os_command_line.proofs.lemmas.ShellRoundTrip.{alone_read}
use Rattle.list_programs.specs.Items.{Entry, Lacks}
use Rattle.list_programs.specs.ListOptions.{MayLack, byte_of}
use Rattle.list_programs.specs.ListRun.{IsOutput}
use Rattle.list_programs.specs.Rules.{IsEntry}
use Rattle.list_programs.specs.declared.options.LastItem.{LastItem}
use Rattle.list_programs.specs.declared.options.LastItem.TheVariants.{MustEnd}
use Rattle.list_programs.specs.declared.options.ListOptions.{ListOptions}
use Rattle.names_commands.specs.Back.{listing_words, joining_words, with_last, AreFirst, IsCompleted}
use Rattle.names_commands.specs.Task.{rules_of}
use Rattle.names_commands.specs.Names.{EndsInReturn}
use Rattle.names_commands.specs.Words.{AreNames}
use Rattle.names_commands.proofs.lemmas.Back.{AreBack, IsLineOf, some_back, same_back, cut_suffix}
use Rattle.names_commands.proofs.lemmas.Lines.{lacks_last, newline_lacks, stays_lacks}

-- a line that is one word is joined as this word
one_name : (list : ListOptions) (line word text : List ℕ) (items : List (Result (List ℕ) WordsFault)) → IsRead (language true true) line (Ok word ∷ []) → IsRead (language true true) line items → AreNames list items text → text ≡ word ++ byte_of list.end ∷ []
one_name list line word text items one is names =
    let same = subst (λ x. AreNames list x text) (one_list (language true true) line items (Ok word ∷ []) is one) names in
    same.1.2 ∙ ap (λ x. (word ++ byte_of list.end ∷ []) ++ x) same.1.1 ∙ append-nil (word ++ byte_of list.end ∷ [])

module _ {E : Type 0} (p : Ghosts E) (bytes : (name : List ℕ) → p.well_formed name → All IsByte name) (list : ListOptions) where
  abbrev Listed : Entry → Type 0
  Listed = IsEntry (rules_of p (listing_words list))

  abbrev Joined : ListOptions → Entry → Type 0
  Joined other = IsEntry (rules_of p (joining_words other))

  abbrev end : ℕ
  end = byte_of list.end

  lacks : (name word : List ℕ) → All IsByte name → IsLineWord name word → Lacks 0x0A word
  lacks name word w is = let stays = line_stays name word w is in newline_lacks word stays.0 stays.1

  -- a carriage return doesn't stay on a line, so a word on one line doesn't end in it
  no_return : (name word : List ℕ) → All IsByte name → IsLineWord name word → ¬ (EndsInReturn word)
  no_return name word w is ends =
      let stays = line_stays name word w is in
      lacks_last 0x0D ends.0 (subst (Lacks 0x0D) ends.1 (stays_lacks 0x0D (omega arith) refl word stays.0 stays.1))

  line_of : (e : Entry) → Listed e → IsLineOf e
  line_of e l = let word = l.text.1.1 in record { line = word.0; lacks = lacks e.0 word.0 (bytes e.0 l.text.0) word.1; text = word.2 }

  is_read : (e : Entry) (l : Listed e) → IsRead (language true true) (line_of e l).line (Ok e.0 ∷ [])
  unfolding line_of
  is_read e l = let word = l.text.1.1 in alone_read (language true true) word.0 e.0 (line_word_reads (language true true) e.0 word.0 refl (bytes e.0 l.text.0) l.text.1.0 word.1)

  joined : (last : LastItem) (e : Entry) (l : Listed e) → Unit {0} → Joined (with_last last list) ((line_of e l).line, e.0 ++ end ∷ [])
  unfolding line_of
  joined last e l t =
      let word = l.text.1.1 in
      let w = bytes e.0 l.text.0 in
      let few : length word.0 ≤ 4 * length e.0 + 3 = line_word_len e.0 word.0 w word.1 in
      let most : length e.0 ≤ list.max = l.short in
      let short : length word.0 ≤ 4 * list.max + 3 = omega (arith, few, most) in record {
        whole = lacks e.0 word.0 w word.1;
        short = short;
        text = (no_return e.0 word.0 w word.1, (Ok e.0 ∷ [], is_read e l, (record { fit = record { whole = l.text.1.0; one = l.whole }; short = l.short }, ([], refl, sym (append-nil (e.0 ++ end ∷ []))))));
      }

  same : (other : ListOptions) → other.end ≡ list.end → (e f : Entry) (l : Listed e) → Joined other f → (line_of e l).line ≡ f.0 → f.1 ≡ e.0 ++ end ∷ []
  same other ends e f l j is =
      one_name other f.0 e.0 f.1 j.text.1.0 (subst (λ x. IsRead (language true true) x (Ok e.0 ∷ [])) is (is_read e l)) j.text.1.1 j.text.1.2
      ∙ ap (λ x. e.0 ++ byte_of x ∷ []) ends

  are_back : (other : ListOptions) → other.end ≡ list.end → AreBack end Listed (Joined other)
  are_back other ends = record { name_lacks = λ e l. l.whole; line_of = line_of; line_lacks = λ e j. j.whole; same = same other ends }

  all_units : (es : List Entry) → AllByRecursion (λ e. Unit {0}) es
  all_units [] = tt
  all_units (e ∷ es) = (tt, all_units es)

  pub some_words : (last : LastItem) (names lines : List ℕ) → IsOutput (rules_of p (listing_words list)) names lines → (back : List ℕ) × (IsOutput (rules_of p (joining_words (with_last last list))) lines back × IsCompleted end names back)
  unfolding are_back line_of
  some_words last names lines o =
      let r = some_back end Listed (Joined (with_last last list)) (are_back (with_last last list) refl) (λ e. Unit {0}) (joined last) (MayLack list.last) names o.entries o.are (all_units o.entries) o.items in
      (_, (record { entries = r.0; are = r.1; items = inl (o.written ∙ r.2); written = refl }, r.3))

  pub same_words : (other : ListOptions) (names lines back : List ℕ) → other.end ≡ list.end → IsOutput (rules_of p (listing_words list)) names lines → IsOutput (rules_of p (joining_words other)) lines back → IsCompleted end names back
  same_words other names lines back ends o q =
      subst (IsCompleted end names) (sym q.written) (same_back end Listed (Joined other) (are_back other ends) (MayLack list.last) (MayLack other.last) names lines o.entries q.entries o.are o.items o.written q.are q.items)

  pub cut_words : (other : ListOptions) (names lines prefix rest suffix : List ℕ) → other.end ≡ list.end → IsOutput (rules_of p (listing_words list)) names lines → lines ≡ prefix ++ rest → IsOutput (rules_of p (joining_words (with_last MustEnd other))) prefix suffix → AreFirst end names suffix
  cut_words other names lines prefix rest suffix ends o cut q = ⊎_elim
      (λ same. subst (AreFirst end names) (sym q.written) (cut_suffix end Listed (Joined (with_last MustEnd other)) (are_back (with_last MustEnd other) ends) (MayLack list.last) names lines prefix rest o.entries q.entries o.are o.items o.written cut q.are same))
      (λ taken. absurd taken.0)
      q.items
