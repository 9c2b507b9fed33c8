-- What `join` makes of the lines that `list` makes of names, escapes or words.
use Rattle.std.proofs.Common.{◌≡◌, ◌≢◌, ◌⊎◌, ⊎_elim, inl, inr, ℕ, List, [], ◌∷◌, ◌++◌, length, drop, get_or, refl, sym, ap, ◌∙◌, subst, arith, append_assoc, append-nil, length-append}
use Rattle.std.proofs.lemmas.Grind.{flat_map-append}
use Rattle.std.specs.List.{AllByRecursion}
use Rattle.list_programs.specs.Items.{Entry, Lacks, IsLastUnended, ended, items_of, texts_of}
use Rattle.names_commands.specs.Back.{AreFirst, EndsWith, IsCompleted, LacksEmpty}
use Rattle.list_programs.proofs.lemmas.Items.{end_in}
use Rattle.list_programs.proofs.lemmas.Reading.{all-append, more_items}

head : (x y : ℕ) (xs ys : List ℕ) → x ∷ xs ≡ y ∷ ys → x ≡ y
head x y xs ys e = ap (λ l. get_or l 0 0) e

tail : (x y : ℕ) (xs ys : List ℕ) → x ∷ xs ≡ y ∷ ys → xs ≡ ys
tail x y xs ys e = ap (drop 1) e

-- bytes are cut in one way at the first that ends an item
cut_once : (end : ℕ) (a b xs ys : List ℕ) → Lacks end a → Lacks end b → a ++ end ∷ xs ≡ b ++ end ∷ ys → (a ≡ b) × (xs ≡ ys)
cut_once end [] [] xs ys l k e = (refl, tail end end xs ys e)
cut_once end [] (y ∷ b) xs ys l k e = absurd (k.0 (sym (head end y xs (b ++ end ∷ ys) e)))
cut_once end (x ∷ a) [] xs ys l k e = absurd (l.0 (head x end (a ++ end ∷ xs) ys e))
cut_once end (x ∷ a) (y ∷ b) xs ys l k e =
    let first = head x y (a ++ end ∷ xs) (b ++ end ∷ ys) e in
    let rest = cut_once end a b xs ys l.1 k.1 (tail x y (a ++ end ∷ xs) (b ++ end ∷ ys) e) in
    (ap (λ c. c ∷ a) first ∙ ap (λ l. y ∷ l) rest.0, rest.1)

-- bytes without the end of an item don't end with one
not_ended : (end : ℕ) (xs last prefix : List ℕ) → last ≢ [] → Lacks end last → ¬ (xs ++ last ≡ prefix ++ end ∷ [])
not_ended end [] last prefix some l e = end_in end prefix [] (subst (Lacks end) e l)
not_ended end (x ∷ xs) [] [] some l e = some refl
not_ended end (x ∷ xs) (y ∷ last) [] some l e = omega (arith, ap length e, length-append xs (y ∷ last))
not_ended end (x ∷ xs) last (y ∷ prefix) some l e = not_ended end xs last prefix some l (tail x y (xs ++ last) (prefix ++ end ∷ []) e)

none_left : (xs last : List ℕ) → last ≢ [] → ¬ (xs ++ last ≡ [])
none_left xs [] some e = some refl
none_left xs (y ∷ last) some e = omega (arith, ap length e, length-append xs (y ∷ last))

all_after : (P : Entry → Type 0) (es ds : List Entry) → AllByRecursion P (es ++ ds) → AllByRecursion P ds
all_after P [] ds a = a
all_after P (e ∷ es) ds a = all_after P es ds a.1

all_prefix : (P : Entry → Type 0) (es ds : List Entry) → AllByRecursion P (es ++ ds) → AllByRecursion P es
all_prefix P [] ds a = tt
all_prefix P (e ∷ es) ds a = (a.0, all_prefix P es ds a.1)

-- for names that this byte ends:
module _ (end : ℕ) where
  -- items that have their ends end with one
  ends : (es : List Entry) → EndsWith end (items_of end es)
  ends [] = inl refl
  ends (e ∷ es) = ⊎_elim
      (λ none. inr (e.0, ap (λ x. (e.0 ++ end ∷ []) ++ x) none ∙ append-nil (e.0 ++ end ∷ [])))
      (λ last. inr ((e.0 ++ end ∷ []) ++ last.0, ap (λ x. (e.0 ++ end ∷ []) ++ x) last.1 ∙ sym (append_assoc (e.0 ++ end ∷ []) last.0 (end ∷ []))))
      (ends es)

  -- the items are those of the names, the last of which may lack its end
  abbrev pub AreNames : Type 0 → List Entry → List ℕ → Type 0
  AreNames Taken es names = (names ≡ items_of end es) ⊎ (Taken × IsLastUnended end es names)

  -- the names with their ends are the input with the end that the last may lack
  completed : (Taken : Type 0) (es : List Entry) (names : List ℕ) → AllByRecursion (λ e. Lacks end e.0) es → AreNames Taken es names → IsCompleted end names (items_of end es)
  completed Taken es names l (inl same) = inl (subst (EndsWith end) (sym same) (ends es), sym same)
  completed Taken es names l (inr last) =
      let u = last.1 in
      let lacks : Lacks end u.last.0 = (all_after (λ e. Lacks end e.0) u.before (u.last ∷ []) (subst (AllByRecursion (λ e. Lacks end e.0)) u.entries_are l)).0 in
      inr (
        ⊎_elim
            (λ none. none_left (items_of end u.before) u.last.0 u.some (sym u.joined ∙ none))
            (λ ended. not_ended end (items_of end u.before) u.last.0 ended.0 u.some lacks (sym u.joined ∙ ended.1)),
        ap (items_of end) u.entries_are
            ∙ more_items end u.before u.last
            ∙ sym (append_assoc (items_of end u.before) u.last.0 (end ∷ []))
            ∙ ap (λ x. x ++ end ∷ []) (sym u.joined),
      )

  -- names of a list without empty ones aren't empty
  some_names : (names front : List ℕ) (es : List Entry) (rest : List ℕ) → EndsWith end front → names ≡ front ++ (items_of end es ++ rest) → LacksEmpty end names → AllByRecursion (λ e. e.0 ≢ []) es
  some_names names front [] rest f j l = tt
  some_names names front (e ∷ es) rest f j l =
      let cut : names ≡ front ++ (e.0 ++ end ∷ (items_of end es ++ rest)) = j ∙ ap (λ x. front ++ x) (append_assoc (e.0 ++ end ∷ []) (items_of end es) rest ∙ append_assoc e.0 (end ∷ []) (items_of end es ++ rest)) in
      let here : names ≡ (front ++ (e.0 ++ end ∷ [])) ++ (items_of end es ++ rest) = j ∙ ap (λ x. front ++ x) (append_assoc (e.0 ++ end ∷ []) (items_of end es) rest) ∙ sym (append_assoc front (e.0 ++ end ∷ []) (items_of end es ++ rest)) in (
        λ none. l front (items_of end es ++ rest) (cut ∙ ap (λ x. front ++ (x ++ end ∷ (items_of end es ++ rest))) none) f,
        some_names names (front ++ (e.0 ++ end ∷ [])) es rest (inr (front ++ e.0, sym (append_assoc front e.0 (end ∷ [])))) here l,
      )

  pub none_empty : (Taken : Type 0) (names : List ℕ) (es : List Entry) → AreNames Taken es names → LacksEmpty end names → AllByRecursion (λ e. e.0 ≢ []) es
  none_empty Taken names es (inl same) l = some_names names [] es [] (inl refl) (same ∙ sym (append-nil (items_of end es))) l
  none_empty Taken names es (inr last) l =
      let u = last.1 in
      subst (AllByRecursion (λ e. e.0 ≢ [])) (sym u.entries_are)
      (all-append (λ e. e.0 ≢ []) u.before (u.last ∷ []) (some_names names [] u.before u.last.0 (inl refl) u.joined l) (u.some, tt))

-- the line of a name, as it is written
pub record IsLineOf (e : Entry) : Type 0 where
  pub line : List ℕ
  pub lacks : Lacks 0x0A line
  pub text : e.1 ≡ line ++ 0x0A ∷ []

-- the lines that are written of names, and what is written of them: the names, each with this end
pub record AreBack (end : ℕ) (Listed Joined : Entry → Type 0) : Type 0 where
  pub name_lacks : (e : Entry) → Listed e → Lacks end e.0
  pub line_of : (e : Entry) → Listed e → IsLineOf e
  pub line_lacks : (e : Entry) → Joined e → Lacks 0x0A e.0
  pub same : (e f : Entry) (l : Listed e) → Joined f → (line_of e l).line ≡ f.0 → f.1 ≡ e.0 ++ end ∷ []

module _ (end : ℕ) (Listed Joined : Entry → Type 0) (law : AreBack end Listed Joined) where
  -- the lines of these names are taken
  module _ (Taken : Entry → Type 0) (joined : (e : Entry) (l : Listed e) → Taken e → Joined ((law.line_of e l).line, e.0 ++ end ∷ [])) where
    -- all names, each with the line that was joined and what it gave back
    record GivesBack (es : List Entry) : Type 0 where
      entries : List Entry
      are : AllByRecursion Joined entries
      lines : texts_of es ≡ items_of 0x0A entries
      names : texts_of entries ≡ items_of end es

    all_joined : (es : List Entry) → AllByRecursion Listed es → AllByRecursion Taken es → GivesBack es
    all_joined [] a t = record { entries = []; are = tt; lines = refl; names = refl }
    all_joined (e ∷ es) a t =
        let line = law.line_of e a.0 in
        let rest = all_joined es a.1 t.1 in record {
          entries = (line.line, e.0 ++ end ∷ []) ∷ rest.entries;
          are = (joined e a.0 t.0, rest.are);
          lines = ap (λ x. x ++ texts_of es) line.text ∙ ap (λ x. (line.line ++ 0x0A ∷ []) ++ x) rest.lines;
          names = ap (λ x. (e.0 ++ end ∷ []) ++ x) rest.names;
        }

  whole_names : (es : List Entry) → AllByRecursion Listed es → AllByRecursion (λ e. Lacks end e.0) es
  whole_names [] a = tt
  whole_names (e ∷ es) a = (law.name_lacks e a.0, whole_names es a.1)

  -- some lines that were joined, and the names that they gave back
  pub some_back : (Taken : Entry → Type 0) → ((e : Entry) (l : Listed e) → Taken e → Joined ((law.line_of e l).line, e.0 ++ end ∷ [])) → (May : Type 0) (names : List ℕ) (es : List Entry) → AllByRecursion Listed es → AllByRecursion Taken es → AreNames end May es names
      → (fs : List Entry) × AllByRecursion Joined fs × (texts_of es ≡ items_of 0x0A fs) × IsCompleted end names (texts_of fs)
  some_back Taken joined May names es a t items =
      let r = all_joined Taken joined es a t in
      (r.entries, r.are, r.lines, subst (IsCompleted end names) (sym r.names) (completed end May es names (whole_names es a) items))

  -- the first line, and what comes after it
  first_line : (e : Entry) (more : List ℕ) (l : Listed e) → e.1 ++ more ≡ (law.line_of e l).line ++ 0x0A ∷ more
  first_line e more l = let line = law.line_of e l in ap (λ x. x ++ more) line.text ∙ append_assoc line.line (0x0A ∷ []) more

  cut_line : (e : Entry) (more item rest : List ℕ) (l : Listed e) → Lacks 0x0A item → e.1 ++ more ≡ (item ++ 0x0A ∷ []) ++ rest → ((law.line_of e l).line ≡ item) × (more ≡ rest)
  cut_line e more item rest l k q =
      let line = law.line_of e l in
      cut_once 0x0A line.line item more rest line.lacks k
      (sym (first_line e more l) ∙ q ∙ append_assoc item (0x0A ∷ []) rest)

  -- lines have their ends
  no_last : (es before : List Entry) (last : List ℕ) → AllByRecursion Listed es → AllByRecursion (λ e. Lacks 0x0A e.0) before → last ≢ [] → Lacks 0x0A last → ¬ (texts_of es ≡ items_of 0x0A before ++ last)
  no_last [] before last a b some l q = none_left (items_of 0x0A before) last some (sym q)
  no_last (e ∷ es) [] last a b some l q = end_in 0x0A (law.line_of e a.0).line (texts_of es) (subst (Lacks 0x0A) (sym q ∙ first_line e (texts_of es) a.0) l)
  no_last (e ∷ es) (d ∷ before) last a b some l q =
      let cut = cut_line e (texts_of es) d.0 (items_of 0x0A before ++ last) a.0 b.0 (q ∙ append_assoc (d.0 ++ 0x0A ∷ []) (items_of 0x0A before) last) in
      no_last es before last a.1 b.1 some l cut.1

  whole_lines : (es : List Entry) → AllByRecursion Joined es → AllByRecursion (λ e. Lacks 0x0A e.0) es
  whole_lines [] a = tt
  whole_lines (e ∷ es) a = (law.line_lacks e a.0, whole_lines es a.1)

  -- some of the first names, of which some of the first lines were joined, and the others
  record AreJoined (es : List Entry) (rest texts : List ℕ) : Type 0 where
    some : List Entry
    others : List Entry
    cut : es ≡ some ++ others
    names : texts ≡ items_of end some
    left : texts_of others ≡ rest

  first_back : (es fs : List Entry) (rest : List ℕ) → AllByRecursion Listed es → AllByRecursion Joined fs → texts_of es ≡ items_of 0x0A fs ++ rest → AreJoined es rest (texts_of fs)
  first_back es [] rest a b q = record { some = []; others = es; cut = refl; names = refl; left = q }
  first_back [] (f ∷ fs) rest a b q = absurd (omega (arith, ap length q, length-append ((f.0 ++ 0x0A ∷ []) ++ items_of 0x0A fs) rest, length-append (f.0 ++ 0x0A ∷ []) (items_of 0x0A fs), length-append f.0 (0x0A ∷ [])))
  first_back (e ∷ es) (f ∷ fs) rest a b q =
      let cut = cut_line e (texts_of es) f.0 (items_of 0x0A fs ++ rest) a.0 (law.line_lacks f b.0) (q ∙ append_assoc (f.0 ++ 0x0A ∷ []) (items_of 0x0A fs) rest) in
      let more = first_back es fs rest a.1 b.1 cut.1 in record {
        some = e ∷ more.some;
        others = more.others;
        cut = ap (λ x. e ∷ x) more.cut;
        names = ap (λ x. x ++ texts_of fs) (law.same e f a.0 b.0 cut.0) ∙ ap (λ x. (e.0 ++ end ∷ []) ++ x) more.names;
        left = more.left;
      }

  -- no lines, no names
  none_of : (es : List Entry) → AllByRecursion Listed es → texts_of es ≡ [] → es ≡ []
  none_of [] a q = refl
  none_of (e ∷ es) a q = absurd (omega (arith, ap length (sym (first_line e (texts_of es) a.0) ∙ q), length-append (law.line_of e a.0).line (0x0A ∷ texts_of es)))

  back_of : (es fs : List Entry) → AllByRecursion Listed es → AllByRecursion Joined fs → texts_of es ≡ items_of 0x0A fs → texts_of fs ≡ items_of end es
  back_of es fs a b q =
      let j = first_back es fs [] a b (q ∙ sym (append-nil (items_of 0x0A fs))) in
      let none = none_of j.others (all_after Listed j.some j.others (subst (AllByRecursion Listed) j.cut a)) j.left in
      j.names ∙ ap (items_of end) (sym (j.cut ∙ ap (λ x. j.some ++ x) none ∙ append-nil j.some))

  -- all lines that were joined, the last of which may lack its end or not, give back the names
  pub same_back : (May Taken : Type 0) (names lines : List ℕ) (es fs : List Entry) → AllByRecursion Listed es → AreNames end May es names → lines ≡ texts_of es
      → AllByRecursion Joined fs → (lines ≡ items_of 0x0A fs) ⊎ (Taken × IsLastUnended 0x0A fs lines) → IsCompleted end names (texts_of fs)
  same_back May Taken names lines es fs a items is b joined =
      let all = completed end May es names (whole_names es a) items in
      let by : texts_of fs ≡ items_of end es = ⊎_elim
      (λ same. back_of es fs a b (sym is ∙ same))
      (λ (taken : Taken × IsLastUnended 0x0A fs lines).
      let u = taken.1 in
      let whole = subst (AllByRecursion (λ e. Lacks 0x0A e.0)) u.entries_are (whole_lines fs b) in
      absurd (no_last es u.before u.last.0 a (all_prefix (λ e. Lacks 0x0A e.0) u.before (u.last ∷ []) whole) u.some (all_after (λ e. Lacks 0x0A e.0) u.before (u.last ∷ []) whole).0 (sym is ∙ u.joined)))
      joined in
      subst (IsCompleted end names) (sym by) all

  -- of lines that were cut off, some of the first names
  pub cut_suffix : (May : Type 0) (names lines prefix rest : List ℕ) (es fs : List Entry) → AllByRecursion Listed es → AreNames end May es names → lines ≡ texts_of es
      → lines ≡ prefix ++ rest → AllByRecursion Joined fs → prefix ≡ items_of 0x0A fs → AreFirst end names (texts_of fs)
  cut_suffix May names lines prefix rest es fs a items is cut b same =
      let j = first_back es fs rest a b (sym is ∙ cut ∙ ap (λ x. x ++ rest) same) in (
        subst (EndsWith end) (sym j.names) (ends end j.some),
        (
          items_of end j.others,
          items_of end es,
          completed end May es names (whole_names es a) items,
          ap (items_of end) j.cut ∙ flat_map-append (ended end) j.some j.others ∙ ap (λ x. x ++ items_of end j.others) (sym j.names),
        ),
      )
