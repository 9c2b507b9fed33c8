-- Escapes that `list` writes, and names that `join` makes of them.
use Rattle.std.proofs.Common.{◌≡◌, ◌≢◌, ⊎_elim, inl, ℕ, ◌*◌, ◌≤◌, List, [], ◌∷◌, ◌++◌, length, refl, sym, ap, ◌∙◌, subst, arith}
use Rattle.std.specs.List.{AllByRecursion}
use Rattle.os_str_bytes.specs.Platform.{Ghosts}
use Rattle.os_quote.specs.Escape.{IsLineEscape}
use Rattle.list_programs.specs.Items.{Entry}
use Rattle.list_programs.specs.ListOptions.{MayLack, byte_of}
use Rattle.list_programs.specs.ListRun.{IsOutput}
use Rattle.list_programs.specs.Rules.{IsEntry}
use Rattle.list_programs.specs.declared.options.LastItem.{LastItem}
use Rattle.list_programs.specs.declared.options.LastItem.TheVariants.{MustEnd}
use Rattle.list_programs.specs.declared.options.ListOptions.{ListOptions}
use Rattle.names_commands.specs.Back.{listing, joining, with_last, AreFirst, AreTaken, IsCompleted}
use Rattle.names_commands.specs.Task.{IsTaken, rules_of}
use Rattle.names_commands.specs.declared.task.EmptyLine.{EmptyLine}
use Rattle.names_commands.specs.declared.task.EmptyLine.TheVariants.{IsRejected, IsEmptyName}
use Rattle.names_commands.proofs.lemmas.Back.{AreBack, AreNames, IsLineOf, none_empty, some_back, same_back, cut_suffix}
use Rattle.names_commands.proofs.lemmas.Lines.{AreLines}

module _ {E : Type 0} (p : Ghosts E) (law : AreLines p) (list : ListOptions) where
  abbrev Listed : Entry → Type 0
  Listed = IsEntry (rules_of p (listing list))

  abbrev end : ℕ
  end = byte_of list.end

  line_of : (e : Entry) → Listed e → IsLineOf e
  line_of e l = let line = l.text.1.1 in record { line = line.0; lacks = law.whole e.0 line.0 l.text.0 line.1; text = line.2 }

  module _ (empty : EmptyLine) (other : ListOptions) where
    abbrev Joined : Entry → Type 0
    Joined = IsEntry (rules_of p (joining empty other))

    same : other.end ≡ list.end → (e f : Entry) (l : Listed e) → Joined f → (line_of e l).line ≡ f.0 → f.1 ≡ e.0 ++ end ∷ []
    unfolding line_of
    same ends e f l j is =
        let name = j.text.1 in
        name.2.1
        ∙ ap (λ x. x ++ byte_of other.end ∷ []) (law.one_string name.0 e.0 f.0 name.1.formed l.text.0 name.1.escape (subst (IsLineEscape p.units e.0) is l.text.1.1.1))
        ∙ ap (λ x. e.0 ++ byte_of x ∷ []) ends

    are_back : other.end ≡ list.end → AreBack end Listed Joined
    are_back ends = record { name_lacks = λ e l. l.whole; line_of = line_of; line_lacks = λ e j. j.whole; same = same ends }

  -- the line of the name is taken
  abbrev Taken : EmptyLine → Entry → Type 0
  Taken IsRejected e = e.0 ≢ []
  Taken IsEmptyName e = Unit {0}

  line_taken : (empty : EmptyLine) (e : Entry) (l : Listed e) → Taken empty e → IsTaken empty (line_of e l).line
  unfolding line_of
  line_taken IsRejected e l some = λ none. some (law.none e.0 l.text.0 (subst (IsLineEscape p.units e.0) none l.text.1.1.1))
  line_taken IsEmptyName e l t = tt

  all_units : (es : List Entry) → AllByRecursion (λ e. Unit {0}) es
  all_units [] = tt
  all_units (e ∷ es) = (tt, all_units es)

  all_taken : (empty : EmptyLine) (names : List ℕ) (es : List Entry) → AreTaken empty end names → AreNames end (MayLack list.last) es names → AllByRecursion (Taken empty) es
  all_taken IsRejected names es t items = none_empty end (MayLack list.last) names es items t
  all_taken IsEmptyName names es t items = all_units es

  joined : (empty : EmptyLine) (last : LastItem) (e : Entry) (l : Listed e) → Taken empty e → Joined empty (with_last last list) ((line_of e l).line, e.0 ++ end ∷ [])
  unfolding line_of
  joined empty last e l t =
      let formed = l.text.0 in
      let line = l.text.1.1 in
      let few : length line.0 ≤ 6 * length e.0 = law.short e.0 line.0 formed line.1 in
      let most : length e.0 ≤ list.max = l.short in
      let short : length line.0 ≤ 6 * list.max = omega (arith, few, most) in record {
        whole = law.whole e.0 line.0 formed line.1;
        short = short;
        text = (line_taken empty e l t, (e.0, record { formed = formed; escape = line.1; short = l.short }, (record { whole = l.text.1.0; one = l.whole }, refl)));
      }

  pub some_escapes : (empty : EmptyLine) (last : LastItem) (names lines : List ℕ) → AreTaken empty end names → IsOutput (rules_of p (listing list)) names lines → (back : List ℕ) × (IsOutput (rules_of p (joining empty (with_last last list))) lines back × IsCompleted end names back)
  unfolding are_back line_of
  some_escapes empty last names lines t o =
      let r = some_back end Listed (Joined empty (with_last last list)) (are_back empty (with_last last list) refl) (Taken empty) (joined empty last) (MayLack list.last) names o.entries o.are (all_taken empty names o.entries t o.items) o.items in
      (_, (record { entries = r.0; are = r.1; items = inl (o.written ∙ r.2); written = refl }, r.3))

  pub same_escapes : (empty : EmptyLine) (other : ListOptions) (names lines back : List ℕ) → other.end ≡ list.end → IsOutput (rules_of p (listing list)) names lines → IsOutput (rules_of p (joining empty other)) lines back → IsCompleted end names back
  same_escapes empty other names lines back ends o q =
      subst (IsCompleted end names) (sym q.written) (same_back end Listed (Joined empty other) (are_back empty other ends) (MayLack list.last) (MayLack other.last) names lines o.entries q.entries o.are o.items o.written q.are q.items)

  pub cut_escapes : (empty : EmptyLine) (other : ListOptions) (names lines prefix rest suffix : List ℕ) → other.end ≡ list.end → IsOutput (rules_of p (listing list)) names lines → lines ≡ prefix ++ rest → IsOutput (rules_of p (joining empty (with_last MustEnd other))) prefix suffix → AreFirst end names suffix
  cut_escapes empty other names lines prefix rest suffix ends o cut q = ⊎_elim
      (λ same. subst (AreFirst end names) (sym q.written) (cut_suffix end Listed (Joined empty (with_last MustEnd other)) (are_back empty (with_last MustEnd other) ends) (MayLack list.last) names lines prefix rest o.entries q.entries o.are o.items o.written cut q.are same))
      (λ taken. absurd taken.0)
      q.items
