-- Lists of which the first name is known.
use Rattle.std.proofs.Common.{◌≡◌, ◌≢◌, ◌⊎◌, ⊎_elim, inl, inr, Bool, ℕ, ◌+◌, ◌≤◌, List, [], ◌∷◌, ◌++◌, length, drop, get_or, refl, sym, ap, ◌∙◌, subst, arith, append_assoc, append-nil, length-append}
use Rattle.std.specs.List.{AllByRecursion}
use Rattle.std.specs.Prelude.{OnOk, IsOk, Result, Ok, Err}
use Rattle.os_quote.specs.Escape.{IsLineEscape}
use Rattle.os_str_bytes.specs.EncodingError.{EncodingError}
use Rattle.os_str_bytes.specs.Platform.{Ghosts}
use Rattle.program_frame.specs.declared.fault.Failure.TheVariants.{Write}
use Rattle.list_programs.specs.declared.fault.ListFault.{ListFault}
use Rattle.list_programs.specs.declared.fault.ListFault.TheVariants.{Rejected, Run, Unended}
use Rattle.names_commands.specs.declared.fault.Rejection.{Rejection}
use Rattle.names_commands.specs.declared.fault.Rejection.TheVariants.{NoString, NotFromTop}
use Rattle.names_commands.specs.declared.task.EmptyLine.TheVariants.{IsRejected}
use Rattle.names_commands.specs.declared.task.Task.TheVariants.{Check, Join, JoinWords, ListAll, ListWords}
use Rattle.names_commands.specs.declared.task.WordForm.TheVariants.{Posix}
use Rattle.names_commands.specs.declared.matching.Form.TheVariants.{Name}
use Rattle.names_commands.specs.Ignoring.{IsFromTop, IsInTree}
use Rattle.names_commands.specs.Matching.{picking}
use Rattle.names_commands.specs.Names.{IsListRejection}
use Rattle.names_commands.specs.declared.task.Settings.{Settings}
use Rattle.names_commands.specs.Back.{listing}
use Rattle.list_programs.specs.Items.{Entry, Lacks, items_of, texts_of}
use Rattle.list_programs.specs.ListOptions.{byte_of}
use Rattle.list_programs.specs.declared.options.ItemEnd.{ItemEnd}
use Rattle.test_command_uses.specs.OneFile.{unended, usual}
use Rattle.list_programs.specs.Rules.{ListRules, AreIn, IsEntry}
use Rattle.names_commands.specs.Task.{rules_of, with_limit}
use Rattle.names_commands.specs.Words.{AreNamesOf}
use Rattle.os_command_line.specs.ShellWriting.{quoted_word}
use Rattle.list_programs.specs.Reading.{Stops}
use Rattle.list_programs.specs.ListRun.{IsOutput, start}

pub has_end : (end : ℕ) (prefix after : List ℕ) → ¬ (Lacks end (prefix ++ end ∷ after))
has_end end [] after l = l.0 refl
has_end end (x ∷ prefix) after l = has_end end prefix after l.1

-- bytes are cut in one way at the first that ends an item
same_first : (end : ℕ) (a b xs ys : List ℕ) → Lacks end a → Lacks end b → a ++ end ∷ xs ≡ b ++ end ∷ ys → a ≡ b
same_first end [] [] xs ys l k e = refl
same_first end [] (y ∷ b) xs ys l k e = absurd (k.0 (sym (ap (λ l. get_or l 0 0) e)))
same_first end (x ∷ a) [] xs ys l k e = absurd (l.0 (ap (λ l. get_or l 0 0) e))
same_first end (x ∷ a) (y ∷ b) xs ys l k e = ap (λ c. c ∷ a) (ap (λ l. get_or l 0 0) e) ∙ ap (λ l. y ∷ l) (same_first end a b xs ys l.1 k.1 (ap (drop 1) e))

-- an item, its end and more
pub in_prefix : (end : ℕ) (item more after : List ℕ) → ((item ++ end ∷ []) ++ more) ++ after ≡ item ++ end ∷ (more ++ after)
in_prefix end item more after = ap (λ x. x ++ after) (append_assoc item (end ∷ []) more) ∙ append_assoc item (end ∷ more) after

-- bytes without an end are no items that have their ends
not_ended : (end : ℕ) (es : List Entry) (input : List ℕ) → Lacks end input → input ≢ [] → ¬ (input ≡ items_of end es)
not_ended end [] input l some same = some same
not_ended end (e ∷ es) input l some same = has_end end e.0 (items_of end es) (subst (Lacks end) (same ∙ append_assoc e.0 (end ∷ []) (items_of end es)) l)

-- bytes without an end are one item
pub one_item : {F : Type 0} (list : ListRules F) (es : List Entry) (input : List ℕ) → Lacks list.end input → input ≢ [] → AreIn list es input → (text : List ℕ) × (es ≡ (input, text) ∷ [])
one_item list es input l some (inl same) = absurd (not_ended list.end es input l some same)
one_item list es input l some (inr taken) = by taken.1.before taken.1.last taken.1.entries_are taken.1.joined
  where
    by : (before : List Entry) (last : Entry) → es ≡ before ++ last ∷ [] → input ≡ items_of list.end before ++ last.0 → (text : List ℕ) × (es ≡ (input, text) ∷ [])
    by [] last e j = (last.1, e ∙ ap (λ x. (x, last.1) ∷ []) (sym j))
    by (b ∷ before) last e j = absurd (has_end list.end b.0 (items_of list.end before ++ last.0) (subst (Lacks list.end) (j ∙ in_prefix list.end b.0 (items_of list.end before) last.0) l))

-- items are whole
pub all_whole : {F : Type 0} (list : ListRules F) (es : List Entry) → AllByRecursion (IsEntry list) es → AllByRecursion (λ e. Lacks list.end e.0) es
all_whole list [] a = tt
all_whole list (e ∷ es) a = (a.0.whole, all_whole list es a.1)

-- an item with its end is one item, where the last must have its end
pub one_ended : {F : Type 0} (list : ListRules F) (es : List Entry) (item : List ℕ) → Lacks list.end item → ¬ list.takes_unended → AreIn list es (item ++ list.end ∷ []) → AllByRecursion (λ e. Lacks list.end e.0) es → (text : List ℕ) × (es ≡ (item, text) ∷ [])
one_ended list es item l must (inr taken) whole = absurd (must taken.0)
one_ended list [] item l must (inl same) whole = absurd (omega (arith, ap length same, length-append item (list.end ∷ [])))
one_ended list (e ∷ es) item l must (inl same) whole = by es (rest_of item e.0 (items_of list.end es) l whole.0 (same ∙ append_assoc e.0 (list.end ∷ []) (items_of list.end es)))
  where
    rest_of : (a b ys : List ℕ) → Lacks list.end a → Lacks list.end b → a ++ list.end ∷ [] ≡ b ++ list.end ∷ ys → (a ≡ b) × ([] ≡ ys)
    rest_of [] [] ys l k e = (refl, ap (drop 1) e)
    rest_of [] (y ∷ b) ys l k e = absurd (k.0 (sym (ap (λ l. get_or l 0 0) e)))
    rest_of (x ∷ a) [] ys l k e = absurd (l.0 (ap (λ l. get_or l 0 0) e))
    rest_of (x ∷ a) (y ∷ b) ys l k e =
        let more = rest_of a b ys l.1 k.1 (ap (drop 1) e) in
        (ap (λ c. c ∷ a) (ap (λ l. get_or l 0 0) e) ∙ ap (λ l. y ∷ l) more.0, more.1)

    by : (es : List Entry) → (item ≡ e.0) × ([] ≡ items_of list.end es) → (text : List ℕ) × (e ∷ es ≡ (item, text) ∷ [])
    by [] both = (e.1, ap (λ x. (x, e.1) ∷ []) (sym both.0))
    by (d ∷ es) both = absurd (omega (arith, ap length both.1, length-append (d.0 ++ list.end ∷ []) (items_of list.end es), length-append d.0 (list.end ∷ [])))

module _ {E : Type 0} (p : Ghosts E) where
  pub known_line : (max : ℕ) (name output : List ℕ) → Lacks 0 name → name ≢ [] → IsOutput (rules_of p (listing (unended max))) name output → ((line : List ℕ) × (IsLineEscape p.units name line × (output ≡ line ++ 0x0A ∷ []))) × (length name ≤ max)
  known_line max name output l some o =
      let one = one_item (rules_of p (listing (unended max))) o.entries name l some o.items in
      let entry = (subst (λ es. AllByRecursion (IsEntry (rules_of p (listing (unended max)))) es) one.1 o.are).0 in
      let line = entry.text.1.1 in
      ((line.0, (line.1, o.written ∙ ap texts_of one.1 ∙ append-nil one.0 ∙ line.2)), entry.short)

  -- the word of one name, and the names of one line of words
  pub known_word : (max : ℕ) (name output : List ℕ) → Lacks 0 name → name ≢ [] → IsOutput (rules_of p (record { task = ListWords Posix; list = unended max })) name output → output ≡ quoted_word name ++ 0x0A ∷ []
  known_word max name output l some o =
      let s : Settings = record { task = ListWords Posix; list = unended max } in
      let one = one_item (rules_of p s) o.entries name l some o.items in
      let entry = (subst (λ es. AllByRecursion (IsEntry (rules_of p s)) es) one.1 o.are).0 in
      let word = entry.text.1.1 in
      o.written ∙ ap texts_of one.1 ∙ append-nil one.0 ∙ word.2 ∙ ap (λ w. w ++ 0x0A ∷ []) word.1

  pub known_words : (max : ℕ) (line output : List ℕ) → Lacks 0x0A line → line ≢ [] → IsOutput (rules_of p (record { task = JoinWords; list = unended max })) line output → AreNamesOf (unended max) line output
  known_words max line output l some o =
      let s : Settings = record { task = JoinWords; list = unended max } in
      let one = one_item (rules_of p s) o.entries line l some o.items in
      let entry = (subst (λ es. AllByRecursion (IsEntry (rules_of p s)) es) one.1 o.are).0 in
      subst (AreNamesOf (unended max) line) (sym (o.written ∙ ap texts_of one.1 ∙ append-nil one.0)) entry.text

  -- the name that `check` rejects
  pub known_fault : (max : ℕ) (name output : List ℕ) (number : ℕ) (error : EncodingError) → Lacks 0 name → Stops (rules_of p (record { task = Check; list = unended max })) start name output (Rejected number (NoString error)) → (number ≡ 1) × p.first_fault name error
  known_fault max name output number error l s = by s.entries s.item s.rest s.joined s.ended s.because
    where
      by : (es : List Entry) (item rest : List ℕ) → name ≡ items_of 0 es ++ (item ++ rest) → ((rest ≡ []) × Unit {0}) ⊎ ((more : List ℕ) × (rest ≡ 0 ∷ more)) → (number ≡ 0 + length es + 1) × ((length item ≤ max) × p.first_fault item error) → (number ≡ 1) × p.first_fault name error
      by [] item rest j (inl none) f = (f.0, subst (λ x. p.first_fault x error) (sym (j ∙ ap (λ x. item ++ x) none.0 ∙ append-nil item)) f.1.1)
      by [] item rest j (inr more) f = absurd (has_end 0 item more.0 (subst (Lacks 0) (j ∙ ap (λ x. item ++ x) more.1) l))
      by (e ∷ es) item rest j ended f = absurd (has_end 0 e.0 (items_of 0 es ++ (item ++ rest)) (subst (Lacks 0) (j ∙ in_prefix 0 e.0 (items_of 0 es) (item ++ rest)) l))

  -- what is written for one name that is filtered
  pub known_filtered : (from_top : Bool) (Picked : List ℕ → Type 0) (max : ℕ) (name output : List ℕ) → Lacks 0 name → name ≢ [] → IsOutput (picking p Name (unended max) from_top Picked) name output
      → (Picked name × (output ≡ name ++ 0 ∷ [])) ⊎ ((¬ (Picked name)) × (output ≡ []))
  known_filtered from_top Picked max name output l some o =
      let rules = picking p Name (unended max) from_top Picked in
      let one = one_item rules o.entries name l some o.items in
      let entry = (subst (λ es. AllByRecursion (IsEntry rules) es) one.1 o.are).0 in
      let is : output ≡ one.0 = o.written ∙ ap texts_of one.1 ∙ append-nil one.0 in
      ⊎_elim
      (λ yes. inl (yes.0, is ∙ yes.1))
      (λ no. inr (no.0, is ∙ no.1))
      entry.text.1.1.1

  -- what is written for one name with its end that is filtered
  pub ended_filtered : (from_top : Bool) (Picked : List ℕ → Type 0) (name output : List ℕ) → Lacks 0 name → IsOutput (picking p Name usual from_top Picked) (name ++ 0 ∷ []) output
      → IsInTree from_top name × ((Picked name × (output ≡ name ++ 0 ∷ [])) ⊎ ((¬ (Picked name)) × (output ≡ [])))
  ended_filtered from_top Picked name output l o =
      let rules = picking p Name usual from_top Picked in
      let one = one_ended rules o.entries name l (λ never. never) o.items (all_whole rules o.entries o.are) in
      let entry = (subst (λ es. AllByRecursion (IsEntry rules) es) one.1 o.are).0 in
      let is : output ≡ one.0 = o.written ∙ ap texts_of one.1 ∙ append-nil one.0 in (
        entry.text.1.1.0,
        ⊎_elim
            (λ yes. inl (yes.0, is ∙ yes.1))
            (λ no. inr (no.0, is ∙ no.1))
            entry.text.1.1.1,
      )

  -- a name from the top isn't rejected as one that isn't
  pub never_outside : (from_top : Bool) (Picked : List ℕ → Type 0) (max : ℕ) (name output : List ℕ) (number : ℕ) → Lacks 0 name → IsFromTop name → Stops (picking p Name (unended max) from_top Picked) start name output (Rejected number NotFromTop) → ⊥
  never_outside from_top Picked max name output number l placed s = by s.entries s.item s.rest s.joined s.ended s.because.1.1
    where
      by : (es : List Entry) (item rest : List ℕ) → name ≡ items_of 0 es ++ (item ++ rest) → ((rest ≡ []) × Unit {0}) ⊎ ((more : List ℕ) × (rest ≡ 0 ∷ more)) → IsListRejection p from_top item NotFromTop → ⊥
      by [] item rest j ended (inl never) = never
      by [] item rest j (inl none) (inr out) = out.1.1 (subst IsFromTop (j ∙ ap (λ x. item ++ x) none.0 ∙ append-nil item) placed)
      by [] item rest j (inr more) (inr out) = has_end 0 item more.0 (subst (Lacks 0) (j ∙ ap (λ x. item ++ x) more.1) l)
      by (e ∷ es) item rest j ended f = has_end 0 e.0 (items_of 0 es ++ (item ++ rest)) (subst (Lacks 0) (j ∙ in_prefix 0 e.0 (items_of 0 es) (item ++ rest)) l)

  -- an item without its end isn't read where the last must have its end
  pub never_read : {F : Type 0} (list : ListRules F) (input output : List ℕ) → Lacks list.end input → input ≢ [] → ¬ list.takes_unended → ¬ (IsOutput list input output)
  never_read list input output l some must o = ⊎_elim (λ same. not_ended list.end o.entries input l some same) (λ taken. must taken.0) o.items

  pub not_joined : (max : ℕ) (line output : List ℕ) → Lacks 0x0A line → line ≢ [] → ¬ (IsOutput (rules_of p (with_limit (Join IsRejected) max)) line output)
  not_joined max line output l some = never_read (rules_of p (with_limit (Join IsRejected) max)) line output l some (λ never. never)

  pub not_listed : (max : ℕ) (name output : List ℕ) → Lacks 0 name → name ≢ [] → ¬ (IsOutput (rules_of p (with_limit ListAll max)) name output)
  not_listed max name output l some = never_read (rules_of p (with_limit ListAll max)) name output l some (λ never. never)

  -- an empty line isn't joined, nor is a line of words that ends in a carriage return
  pub no_empty : (max : ℕ) (output : List ℕ) → ¬ (IsOutput (rules_of p (with_limit (Join IsRejected) max)) (0x0A ∷ []) output)
  no_empty max output o =
      let rules = rules_of p (with_limit (Join IsRejected) max) in
      let one = one_ended rules o.entries [] tt (λ never. never) o.items (all_whole rules o.entries o.are) in
      (subst (λ es. AllByRecursion (IsEntry rules) es) one.1 o.are).0.text.0 refl

  pub no_return : (max : ℕ) (front output : List ℕ) → Lacks 0x0A front → ¬ (IsOutput (rules_of p (with_limit JoinWords max)) ((front ++ 0x0D ∷ []) ++ 0x0A ∷ []) output)
  no_return max front output l o =
      let rules = rules_of p (with_limit JoinWords max) in
      let one = one_ended rules o.entries (front ++ 0x0D ∷ []) (with_return front l) (λ never. never) o.items (all_whole rules o.entries o.are) in
      (subst (λ es. AllByRecursion (IsEntry rules) es) one.1 o.are).0.text.0 (front, refl)
    where
      with_return : (xs : List ℕ) → Lacks 0x0A xs → Lacks 0x0A (xs ++ 0x0D ∷ [])
      with_return [] l = ((λ e. let no : 0x0D ≢ 0x0A = omega arith in no e), tt)
      with_return (x ∷ xs) l = (l.0, with_return xs l.1)

  -- where that is the fault, it is that of the first
  pub first_unended : (max : ℕ) (name output : List ℕ) (number : ℕ) (end : ItemEnd) → Lacks 0 name → Stops (rules_of p (with_limit ListAll max)) start name output (Unended number end) → (number ≡ 1) × (byte_of end ≡ 0)
  first_unended max name output number end l s = by s.entries s.joined s.because.0
    where
      by : (es : List Entry) → name ≡ items_of 0 es ++ (s.item ++ s.rest) → number ≡ 0 + length es + 1 → (number ≡ 1) × (byte_of end ≡ 0)
      by [] j n = (n, s.because.1.0)
      by (e ∷ es) j n = absurd (has_end 0 e.0 (items_of 0 es ++ (s.item ++ s.rest)) (subst (Lacks 0) (j ∙ in_prefix 0 e.0 (items_of 0 es) (s.item ++ s.rest)) l))

  -- the line before the second name
  pub line_before_second : (max : ℕ) (names output : List ℕ) (why : Rejection) → Stops (rules_of p (with_limit ListAll max)) start names output (Rejected 2 why) → (name rest : List ℕ) → names ≡ name ++ 0 ∷ rest → Lacks 0 name → (line : List ℕ) × (IsLineEscape p.units name line × (output ≡ line ++ 0x0A ∷ []))
  line_before_second max names output why s name rest cut l = by s.entries s.are s.joined s.written s.because.0
    where
      by : (es : List Entry) → AllByRecursion (IsEntry (rules_of p (with_limit ListAll max))) es → names ≡ items_of 0 es ++ (s.item ++ s.rest) → output ≡ texts_of es → 2 ≡ 0 + length es + 1 → (line : List ℕ) × (IsLineEscape p.units name line × (output ≡ line ++ 0x0A ∷ []))
      by [] a j w n =
          let no : 2 ≢ 1 = omega arith in
          absurd (no n)
      by (e ∷ []) a j w n =
          let same = same_first 0 e.0 name (s.item ++ s.rest) rest a.0.whole l (sym (in_prefix 0 e.0 [] (s.item ++ s.rest)) ∙ sym j ∙ cut) in
          let line = a.0.text.1.1 in
          (line.0, (subst (λ x. IsLineEscape p.units x line.0) same line.1, w ∙ append-nil e.1 ∙ line.2))
      by (e ∷ d ∷ es) a j w n =
          let no : 2 ≢ 0 + length (e ∷ d ∷ es) + 1 = omega arith in
          absurd (no n)

-- an item that is rejected is no failed write
pub no_write : (number : ℕ) (why : Rejection) → ¬ (Rejected number why ≡ Run Write)
no_write number why e = cc

pub end_no_write : (number : ℕ) (end : ItemEnd) → ◌≡◌ {A = ListFault Rejection} (Unended number end) (Run Write) → ⊥
end_no_write number end e = cc

-- where nothing can be so after success, there is none
pub not_ok : {X F : Type 0} (r : Result X F) (P : Type 0) → OnOk r P → ¬ P → ¬ (IsOk r)
not_ok (Ok x) P written never ok = never written
not_ok (Err e) P written never ok = cc
