-- Paths without `\\?\`.
use Rattle.std.proofs.Common.{◌≡◌, inl, inr, ◌≤◌, ℕ, Bool, true, false, ◌&&◌, ◌||◌, nat_eq, if◌then◌else◌, List, [], ◌∷◌, ◌++◌, Option, Some, None, drop, refl, sym, ap, ◌∙◌, subst, arith, append-nil, append_assoc, eqb-true}
use Rattle.std.specs.List.{All, AllByRecursion, list_any}
use Rattle.std.proofs.lemmas.List.Elements.{All-cons, All-append}
use denote.Ref.{Bor}
use Rattle.path_rules.specs.declared.prefix.Prefix as held
use Rattle.path_rules.specs.declared.prefix.Prefix.TheVariants as prefix
use Rattle.path_rules.specs.declared.rules.Rules.TheVariants as rules
use Rattle.path_rules.specs.declared.rules.Style as whose
use Rattle.path_rules.specs.declared.rules.Style.TheVariants as style
use Rattle.path_rules.specs.declared.head.Start.{Start}
use Rattle.path_rules.specs.declared.head.Start.TheVariants.{Root, Dot, Nothing}
use Rattle.path_rules.specs.PrefixViews.{kind_of}
use Rattle.path_rules.specs.Separators.{separates, IsPlain}
use Rattle.path_rules.specs.Component.{Item, Prefix, CurDir, ParentDir, Normal, named, components_in}
use Rattle.path_rules.specs.Heads.{start_items}
use Rattle.path_rules.specs.Components.{AreComponents, AreWindowsComponents, prefixed, bare, root_of, after_root}
use Rattle.path_rules.specs.Prefix.{Kind, Verbatim, VerbatimUnc, VerbatimDisk, Disk, UncLead, DiskLead, NameLead, DriveLead, NoLead, IsVerbatimBy, IsPrefixBy, IsPrefixOf, rules_of, begins_verbatim, is_letter, upper, double_lead, verbatim_lead}
use Rattle.path_rules.specs.Reserved.{is_reserved_byte}
use Rattle.path_rules.specs.Root.{IsAbsolute}
use Rattle.path_rules.specs.Simplified.{IsWindowsSimplified, IsSimplified, IsSimplifiable, HasSingleSeparators, KeepsPlace, IsPlainItem, wide_len, below_prefix}
use Rattle.path_rules.proofs.lemmas.Bodies.{one_item, no_item, first_item, no_first_item}
use Rattle.path_rules.proofs.lemmas.Edges.{and_true}
use Rattle.path_rules.proofs.lemmas.Keeps.{prefix_stays}
use Rattle.path_rules.proofs.lemmas.OneList.{one_prefix, one_items}

pub not_plain : (path : List ℕ) (items : List Item) → AreWindowsComponents path items → ¬ (AllByRecursion IsPlainItem items) → IsWindowsSimplified path path
not_plain path items a n = inr (λ u s. n (subst (AllByRecursion IsPlainItem) (one_items path s.items items s.are a) s.plain), refl)

-- what begins with `\\?\`
pub begun : (path : List ℕ) → begins_verbatim path ≡ true → path ≡ 0x5C ∷ 0x5C ∷ 0x3F ∷ 0x5C ∷ drop 4 path
begun [] e = cc
begun (a ∷ []) e = cc
begun (a ∷ b ∷ []) e = cc
begun (a ∷ b ∷ c ∷ []) e = cc
begun (a ∷ b ∷ c ∷ d ∷ s) e =
    let x = and_true (nat_eq a 0x5C && nat_eq b 0x5C && nat_eq c 0x3F) (nat_eq d 0x5C) e in
    let y = and_true (nat_eq a 0x5C && nat_eq b 0x5C) (nat_eq c 0x3F) (x.0) in
    let z = and_true (nat_eq a 0x5C) (nat_eq b 0x5C) (y.0) in
    let p : a ≡ 0x5C = eqb-true a 0x5C (z.0) in
    let q : b ≡ 0x5C = eqb-true b 0x5C (z.1) in
    let r : c ≡ 0x3F = eqb-true c 0x3F (y.1) in
    let t : d ≡ 0x5C = eqb-true d 0x5C (x.1) in
    ap (λ k. k ∷ b ∷ c ∷ d ∷ s) p ∙ ap (λ k. 0x5C ∷ k ∷ c ∷ d ∷ s) q ∙ ap (λ k. 0x5C ∷ 0x5C ∷ k ∷ d ∷ s) r ∙ ap (λ k. 0x5C ∷ 0x5C ∷ 0x3F ∷ k ∷ s) t

-- a letter doesn't separate
letter_plain : (a : ℕ) → is_letter a ≡ true → separates rules.Either a ≡ false
letter_plain a e = cases (nat_eq a 0x2F) (nat_eq a 0x5C) refl refl
  where
    cases : (p q : Bool) → nat_eq a 0x2F ≡ p → nat_eq a 0x5C ≡ q → (nat_eq a 0x2F || nat_eq a 0x5C) ≡ false
    cases true q f g = let never : false ≡ true = subst (λ x. is_letter x ≡ true) (eqb-true a 0x2F f) e in cc
    cases false true f g = let never : false ≡ true = subst (λ x. is_letter x ≡ true) (eqb-true a 0x5C g) e in cc
    cases false false f g = ap (λ x. x || nat_eq a 0x5C) f ∙ g

-- what begins with a drive after `\\?\` begins with it
module _ (t rest : List ℕ) (letter : ℕ) where
  drive_at : (a b : ℕ) (after : List ℕ) → t ≡ a ∷ b ∷ after → (v : Bool) → (is_letter a && nat_eq b 0x3A) ≡ v → IsVerbatimBy (if v then DiskLead a after else NameLead) t (VerbatimDisk letter) rest → IsPrefixOf t (Disk letter) rest
  drive_at a b after j false e h = let never : VerbatimDisk letter ≡ Verbatim h.name = h.is in cc
  drive_at a b after j true e h =
      let kinds : VerbatimDisk letter ≡ VerbatimDisk (upper a) = h.0 in
      let same : letter ≡ upper a = cc in
      let no : separates rules.Either a ≡ false = letter_plain a ((and_true (is_letter a) (nat_eq b 0x3A) e).0) in
      let plain : (separates rules.Either a && separates rules.Either b) ≡ false = ap (λ x. x && separates rules.Either b) no in
      subst (λ x. IsPrefixOf x (Disk letter) rest) (sym j)
      (subst (λ x. IsPrefixBy (if x then double_lead a b after else (if is_letter a && nat_eq b 0x3A then DriveLead a after else NoLead)) (Disk letter) rest) (sym plain)
      (subst (λ x. IsPrefixBy (if x then DriveLead a after else NoLead) (Disk letter) rest) (sym e) (ap Disk same, h.1)))

  drive_lead : (part after : List ℕ) → t ≡ part ++ after → IsVerbatimBy (verbatim_lead part after) t (VerbatimDisk letter) rest → IsPrefixOf t (Disk letter) rest
  drive_lead [] after j h = let never : VerbatimDisk letter ≡ Verbatim h.name = h.is in cc
  drive_lead (a ∷ []) after j h = let never : VerbatimDisk letter ≡ Verbatim h.name = h.is in cc
  drive_lead (a ∷ b ∷ []) after j h = drive_at a b after j (is_letter a && nat_eq b 0x3A) refl h
  drive_lead (a ∷ b ∷ c ∷ []) [] j h = let never : VerbatimDisk letter ≡ Verbatim h.name = h.is in cc
  drive_lead (a ∷ b ∷ c ∷ []) (d ∷ more) j h = cases (nat_eq a 0x55 && nat_eq b 0x4E && nat_eq c 0x43) h
    where
      cases : (v : Bool) → IsVerbatimBy (if v then UncLead more else NameLead) t (VerbatimDisk letter) rest → IsPrefixOf t (Disk letter) rest
      cases true k = let never : VerbatimDisk letter ≡ VerbatimUnc k.server k.share = k.is in cc
      cases false k = let never : VerbatimDisk letter ≡ Verbatim k.name = k.is in cc
  drive_lead (a ∷ b ∷ c ∷ d ∷ part) after j h = let never : VerbatimDisk letter ≡ Verbatim h.name = h.is in cc

  pub drive_of : IsPrefixOf (0x5C ∷ 0x5C ∷ 0x3F ∷ 0x5C ∷ t) (VerbatimDisk letter) rest → IsPrefixOf t (Disk letter) rest
  drive_of p = drive_lead p.part p.after p.first.joined p.is

-- a plain name has no separator, and is read alike
not_any : (p : ℕ → Bool) (s : List ℕ) → ¬ (list_any p s ≡ true) → (q : ℕ → Bool) → ((b : ℕ) → q b ≡ true → p b ≡ true) → All (λ b. q b ≡ false) s
not_any p [] n q h = λ k d l. absurd (omega arith)
not_any p (b ∷ s) n q h = All-cons (λ b. q b ≡ false) b s (first (q b) refl) (not_any p s (λ e. n (later (p b) e)) q h)
  where
    first : (v : Bool) → q b ≡ v → q b ≡ false
    first false e = e
    first true e = absurd (n (ap (λ x. x || list_any p s) (h b e)))

    later : (v : Bool) → list_any p s ≡ true → (v || list_any p s) ≡ true
    later true e = refl
    later false e = e

or_left : (p q : Bool) → p ≡ true → (p || q) ≡ true
or_left true q e = refl
or_left false q e = let never : false ≡ true = e in cc

separator_reserved : (b : ℕ) → separates rules.Either b ≡ true → is_reserved_byte b ≡ true
separator_reserved b e = cases (nat_eq b 0x2F) refl
  where
    cases : (v : Bool) → nat_eq b 0x2F ≡ v → is_reserved_byte b ≡ true
    cases true f = subst (λ x. is_reserved_byte x ≡ true) (sym (eqb-true b 0x2F f)) refl
    cases false f = subst (λ x. is_reserved_byte x ≡ true) (sym (eqb-true b 0x5C (sym (ap (λ x. x || nat_eq b 0x5C) f) ∙ e))) refl

abbrev IsPlainOption : Option Item → Type 0
IsPlainOption None = Unit {0}
IsPlainOption (Some x) = IsPlainItem x

-- a part that no byte of `\` separates: without `/`, and the same by both rules
record IsReadAlike (p : List ℕ) : Type 0 where
  plain : IsPlain rules.Either p
  same : named rules.Either p ≡ named rules.Verbatim p

plain_name : (p : List ℕ) → IsPlainItem (Normal p) → IsPlain rules.Either p
plain_name p h = not_any is_reserved_byte p (λ e. h.0 (inr (inl e))) (separates rules.Either) separator_reserved

alike_one : (a : ℕ) (v : Bool) → nat_eq a 0x2E ≡ v → IsPlainOption (if v then Some CurDir else Some (Normal (a ∷ []))) → IsPlain rules.Either (a ∷ []) × (v ≡ false)
alike_one a true e h = absurd h
alike_one a false e h = (plain_name (a ∷ []) h, refl)

alike_two : (p : List ℕ) (v : Bool) → IsPlainOption (if v then Some ParentDir else Some (Normal p)) → IsPlain rules.Either p
alike_two p true h = absurd h
alike_two p false h = plain_name p h

read_alike : (p : List ℕ) → IsPlainOption (named rules.Verbatim p) → IsReadAlike p
read_alike [] h = record { plain = λ k d l. absurd (omega arith); same = refl }
read_alike (a ∷ []) h =
    let q = alike_one a (nat_eq a 0x2E) refl h in
    record { plain = q.0; same = ap (λ x. if x then None else Some (Normal (a ∷ []))) q.1 ∙ sym (ap (λ x. if x then Some CurDir else Some (Normal (a ∷ []))) q.1) }
read_alike (a ∷ b ∷ []) h = record { plain = alike_two (a ∷ b ∷ []) (nat_eq a 0x2E && nat_eq b 0x2E) h; same = refl }
read_alike (a ∷ b ∷ c ∷ p) h = record { plain = plain_name (a ∷ b ∷ c ∷ p) h; same = refl }

none_plain : IsPlain rules.Verbatim []
none_plain = λ k d l. absurd (omega arith)

either_verbatim : (b : ℕ) → separates rules.Verbatim b ≡ true → separates rules.Either b ≡ true
either_verbatim b e = cases (nat_eq b 0x2F) refl
  where
    cases : (v : Bool) → nat_eq b 0x2F ≡ v → (v || nat_eq b 0x5C) ≡ true
    cases true f = refl
    cases false f = e

-- the components of one part by both rules
module _ (seen : List ℕ) (p : IsPlain rules.Verbatim seen) where
  at_end : (o : Option Item) → named rules.Verbatim seen ≡ o → AllByRecursion IsPlainItem (components_in rules.Verbatim seen) → components_in rules.Verbatim seen ≡ components_in rules.Either seen
  at_end None f h =
      let q = read_alike seen (subst IsPlainOption (sym f) tt) in
      no_item rules.Verbatim seen p (sym f) ∙ sym (no_item rules.Either seen q.plain (sym (q.same ∙ f)))
  at_end (Some x) f h =
      let one = one_item rules.Verbatim seen x p (sym f) in
      let q = read_alike seen (subst IsPlainOption (sym f) ((subst (AllByRecursion IsPlainItem) one h).0)) in
      one ∙ sym (one_item rules.Either seen x q.plain (sym (q.same ∙ f)))

  at_cut : (c : ℕ) (t : List ℕ) → separates rules.Verbatim c ≡ true → (AllByRecursion IsPlainItem (components_in rules.Verbatim t) → components_in rules.Verbatim t ≡ components_in rules.Either t) → (o : Option Item) → named rules.Verbatim seen ≡ o
      → AllByRecursion IsPlainItem (components_in rules.Verbatim (seen ++ c ∷ t)) → components_in rules.Verbatim (seen ++ c ∷ t) ≡ components_in rules.Either (seen ++ c ∷ t)
  at_cut c t s more None f h =
      let q = read_alike seen (subst IsPlainOption (sym f) tt) in
      let first = no_first_item rules.Verbatim (seen ++ c ∷ t) seen t (record { separator = c; joined = refl; parts = s }, p) (sym f) in
      first ∙ more (subst (AllByRecursion IsPlainItem) first h)
      ∙ sym (no_first_item rules.Either (seen ++ c ∷ t) seen t (record { separator = c; joined = refl; parts = either_verbatim c s }, q.plain) (sym (q.same ∙ f)))
  at_cut c t s more (Some x) f h =
      let first = first_item rules.Verbatim (seen ++ c ∷ t) seen t x (record { separator = c; joined = refl; parts = s }, p) (sym f) in
      let all = subst (AllByRecursion IsPlainItem) first h in
      let q = read_alike seen (subst IsPlainOption (sym f) all.0) in
      first ∙ ap (λ z. x ∷ z) (more all.1)
      ∙ sym (first_item rules.Either (seen ++ c ∷ t) seen t x (record { separator = c; joined = refl; parts = either_verbatim c s }, q.plain) (sym (q.same ∙ f)))

-- plain names are the same by both rules
alike_from : (rest seen : List ℕ) → IsPlain rules.Verbatim seen → AllByRecursion IsPlainItem (components_in rules.Verbatim (seen ++ rest)) → components_in rules.Verbatim (seen ++ rest) ≡ components_in rules.Either (seen ++ rest)
alike_from [] seen p h = subst (λ x. AllByRecursion IsPlainItem (components_in rules.Verbatim x) → components_in rules.Verbatim x ≡ components_in rules.Either x) (sym (append-nil seen)) (at_end seen p (named rules.Verbatim seen) refl) h
alike_from (c ∷ t) seen p h = cases (separates rules.Verbatim c) refl (alike_from t [] none_plain) (alike_from t (seen ++ c ∷ [])) h
  where
    cases : (v : Bool) → separates rules.Verbatim c ≡ v → (AllByRecursion IsPlainItem (components_in rules.Verbatim t) → components_in rules.Verbatim t ≡ components_in rules.Either t)
        → (IsPlain rules.Verbatim (seen ++ c ∷ []) → AllByRecursion IsPlainItem (components_in rules.Verbatim ((seen ++ c ∷ []) ++ t)) → components_in rules.Verbatim ((seen ++ c ∷ []) ++ t) ≡ components_in rules.Either ((seen ++ c ∷ []) ++ t))
        → AllByRecursion IsPlainItem (components_in rules.Verbatim (seen ++ c ∷ t)) → components_in rules.Verbatim (seen ++ c ∷ t) ≡ components_in rules.Either (seen ++ c ∷ t)
    cases true s more on k = at_cut seen p c t s more (named rules.Verbatim seen) refl k
    cases false s more on k =
        let plain : IsPlain rules.Verbatim (seen ++ c ∷ []) = All-append (λ b. separates rules.Verbatim b ≡ false) seen (c ∷ []) p (All-cons (λ b. separates rules.Verbatim b ≡ false) c [] s none_plain) in
        subst (λ x. AllByRecursion IsPlainItem (components_in rules.Verbatim x) → components_in rules.Verbatim x ≡ components_in rules.Either x) (append_assoc seen (c ∷ []) t) (on plain) k

plain_alike : (s : List ℕ) → AllByRecursion IsPlainItem (components_in rules.Verbatim s) → components_in rules.Verbatim s ≡ components_in rules.Either s
plain_alike s h = alike_from s [] none_plain h

after_start_plain : (st : Start) (xs : List Item) → AllByRecursion IsPlainItem (start_items st ++ xs) → AllByRecursion IsPlainItem xs
after_start_plain Root xs h = h.1
after_start_plain Dot xs h = h.1
after_start_plain Nothing xs h = h

one_root : (letter : ℕ) (rest : List ℕ) → root_of (VerbatimDisk letter) rest ≡ root_of (Disk letter) rest
one_root letter [] = refl
one_root letter (c ∷ s) = refl

-- both have the same components below the drive
module _ (path t rest : List ℕ) (letter : ℕ) (p : IsPrefixOf path (VerbatimDisk letter) rest) (d : IsPrefixOf t (Disk letter) rest) where
  abbrev after_drive : List Item
  after_drive = start_items (root_of (Disk letter) rest) ++ components_in rules.Either (after_root rest)

  below_drive : (items : List Item) → AreWindowsComponents path items → AllByRecursion IsPlainItem items → below_prefix items ≡ after_drive
  below_drive items (bare a) h = absurd (a.none (VerbatimDisk letter) rest p)
  below_drive items (prefixed a) h =
      let same = one_prefix path a.kind (VerbatimDisk letter) a.rest rest a.prefix p in
      let is : items ≡ Prefix a.raw ∷ (start_items (root_of (Disk letter) rest) ++ components_in rules.Verbatim (after_root rest)) =
      a.are ∙ ap (λ k. Prefix a.raw ∷ (start_items (root_of k a.rest) ++ components_in (rules_of k) (after_root a.rest))) same.0
      ∙ ap (λ x. Prefix a.raw ∷ (start_items (root_of (VerbatimDisk letter) x) ++ components_in rules.Verbatim (after_root x))) same.1
      ∙ ap (λ x. Prefix a.raw ∷ (start_items x ++ components_in rules.Verbatim (after_root rest))) (one_root letter rest) in
      let plain = subst (AllByRecursion IsPlainItem) is h in
      ap below_prefix is ∙ ap (λ x. start_items (root_of (Disk letter) rest) ++ x) (plain_alike (after_root rest) (after_start_plain (root_of (Disk letter) rest) (components_in rules.Verbatim (after_root rest)) plain.1))

  same_place : (items : List Item) → AreWindowsComponents path items → AllByRecursion IsPlainItem items → IsAbsolute style.Windows t → KeepsPlace style.Windows path t
  same_place items a h absolute =
      let whole : IsAbsolute style.Windows path = (VerbatimDisk letter, (rest, (p, tt))) in
      let k = prefix_stays t (Disk letter) rest rest [] (sym (append-nil rest)) d in
      record {
        absolute = (λ x. absolute, λ x. whole);
        root = (λ x. inl absolute, λ x. inl whole);
        items = items;
        other_items = Prefix k.before ∷ after_drive;
        are = a;
        other_are = prefixed (record { kind = Disk letter; raw = k.before; rest = rest; joined = k.joined; prefix = d; are = refl });
        below = below_drive items a h;
      }

pub shortened : (path t : List ℕ) (items : List Item) → t ≡ drop 4 path → begins_verbatim path ≡ true → (letter : ℕ) × ((rest : List ℕ) × IsPrefixOf path (VerbatimDisk letter) rest) → AreWindowsComponents path items → AllByRecursion IsPlainItem items → wide_len path ≤ 260 → IsAbsolute style.Windows t → HasSingleSeparators t
    → IsWindowsSimplified path t
shortened path t items d e p a h l absolute single =
    let joined : path ≡ 0x5C ∷ 0x5C ∷ 0x3F ∷ 0x5C ∷ t = begun path e ∙ ap (λ x. 0x5C ∷ 0x5C ∷ 0x3F ∷ 0x5C ∷ x) (sym d) in
    let drive = drive_of t (p.1.0) (p.0) (subst (λ x. IsPrefixOf x (VerbatimDisk (p.0)) (p.1.0)) joined (p.1.1)) in
    inl (record {
      joined = joined;
      single = single;
      letter = p.0;
      rest = p.1.0;
      prefix = p.1.1;
      drive = drive;
      place = same_place path t (p.1.0) (p.0) (p.1.1) drive items a h absolute;
      items = items;
      are = a;
      plain = h;
      short = l;
    })

-- without `\\?\` the path would no longer be absolute
pub not_absolute : (path t : List ℕ) → t ≡ drop 4 path → ¬ (IsAbsolute style.Windows t) → IsWindowsSimplified path path
not_absolute path t d n = inr (kept, refl)
  where
    kept : (u : List ℕ) → ¬ (IsSimplifiable path u)
    kept u s =
        let same : t ≡ u = d ∙ ap (drop 4) s.joined in
        n (subst (IsAbsolute style.Windows) (sym same) (s.place.absolute.0 (VerbatimDisk s.letter, (s.rest, (s.prefix, tt)))))

-- a separator isn't single
pub not_single : (path t : List ℕ) → t ≡ drop 4 path → ¬ (HasSingleSeparators t) → IsWindowsSimplified path path
not_single path t d n = inr ((λ u s. n (subst HasSingleSeparators (sym (d ∙ ap (drop 4) s.joined)) s.single)), refl)

-- a path keeps its place
keeps_itself : (w : whose.Style) (path : List ℕ) (items : List Item) → AreComponents w path items → KeepsPlace w path path
keeps_itself w path items a = record { absolute = (λ x. x, λ x. x); root = (λ x. x, λ x. x); items = items; other_items = items; are = a; other_are = a; below = refl }

pub simplified_place : (w : whose.Style) (path : List ℕ) (items : List Item) (t : List ℕ) → AreComponents w path items → IsSimplified w path t → KeepsPlace w path t
simplified_place style.Unix path items t a s = subst (KeepsPlace style.Unix path) (sym s) (keeps_itself style.Unix path items a)
simplified_place style.Windows path items t a (inl s) = s.place
simplified_place style.Windows path items t a (inr s) = subst (KeepsPlace style.Windows path) (sym (s.1)) (keeps_itself style.Windows path items a)

-- a drive is no other prefix
pub other_kind : (path : List ℕ) (k : Kind) (t : List ℕ) → IsPrefixOf path k t → ((letter : ℕ) → k ≡ VerbatimDisk letter → ⊥) → (letter : ℕ) × ((rest : List ℕ) × IsPrefixOf path (VerbatimDisk letter) rest) → ⊥
other_kind path k t is n p = n (p.0) ((one_prefix path k (VerbatimDisk (p.0)) t (p.1.0) is (p.1.1)).0)

-- another prefix is of another kind
pub no_drive_kind : (p : held.Prefix (Bor (List ℕ))) → ((letter : ℕ) → p ≡ prefix.VerbatimDisk letter → ⊥) → (letter : ℕ) → kind_of p ≡ VerbatimDisk letter → ⊥
no_drive_kind (prefix.Verbatim name) h letter e = cc
no_drive_kind (prefix.VerbatimUnc server share) h letter e = cc
no_drive_kind (prefix.VerbatimDisk l) h letter e = h l refl
no_drive_kind (prefix.Device name) h letter e = cc
no_drive_kind (prefix.Unc server share) h letter e = cc
no_drive_kind (prefix.Disk l) h letter e = cc
