-- A path whose components are well-formed strings is one.
use Rattle.std.proofs.Common.{◌≡◌, inl, inr, ◌<◌, ℕ, zero, suc, get_or, Bool, true, false, ◌&&◌, nat_eq, if◌then◌else◌, List, [], ◌∷◌, ◌++◌, Option, Some, None, refl, sym, ap, ◌∙◌, subst, arith, append_assoc, append-nil, eqb-true, lit<}
use Rattle.std.specs.List.{slice_split, filter_map, cons_option, AllByRecursion}
use Rattle.std.specs.Str.{IsUtf8}
use Rattle.std.proofs.lemmas.List.{append_cancel_left, append_cancel_right}
use Rattle.std.proofs.lemmas.List.Elements.{All-append, All-cons}
use Rattle.std.proofs.lemmas.List.Splits.{slice_split_none, slice_split_at}
use Rattle.std.proofs.lemmas.Str.{IsUtf8-from_ascii}
use Rattle.wtf8_core.specs.OccurrenceLaws.{OccurrenceLaws}
use Rattle.path_rules.specs.declared.rules.Rules.{Rules}
use Rattle.path_rules.specs.declared.rules.Rules.TheVariants as rules
use Rattle.path_rules.specs.declared.rules.Style as whose
use Rattle.path_rules.specs.declared.rules.Style.TheVariants as style
use Rattle.path_rules.specs.declared.head.Start.{Start}
use Rattle.path_rules.specs.declared.head.Start.TheVariants.{Root, Dot, Nothing}
use Rattle.path_rules.specs.Separators.{separates, IsPlain, Edge}
use Rattle.path_rules.specs.Component.{Item, Prefix, RootDir, CurDir, ParentDir, Normal, dot, named, components_in}
use Rattle.path_rules.specs.Heads.{start_items}
use Rattle.path_rules.specs.Prefix.{rules_of}
use Rattle.path_rules.specs.Components.{start_of, after_start, plain_components, root_of, after_root, AreWindowsComponents, prefixed, bare, AreComponents}
use Rattle.path_building.specs.Written.{spelling}
use Rattle.path_rules.proofs.lemmas.Ascii.{ascii_separators}
use Rattle.path_rules.proofs.lemmas.Edges.{edge_after}
use Rattle.path_building.proofs.lemmas.Spelling.{named_spelled}
use Rattle.os_path.specs.Formed.{IsFormed, AreFormed}
use Rattle.os_path.proofs.lemmas.Parts.{IsCutAtAscii}

-- two strings with an ASCII byte between them
abbrev pub JoinsAtAscii : (List ℕ → Type 0) → Type 0
JoinsAtAscii formed = (left right : List ℕ) (b : ℕ) → b < 0x80 → formed left → formed right → formed (left ++ b ∷ right)

abbrev pub HasTexts : (List ℕ → Type 0) → Type 0
HasTexts formed = (s : List ℕ) → IsUtf8 s → formed s

ascii_text : (b : ℕ) → b < 0x80 → IsUtf8 (b ∷ [])
ascii_text b low = IsUtf8-from_ascii (b ∷ []) (at b low)
  where
    at : (b : ℕ) → b < 0x80 → (i : ℕ) → get_or (b ∷ []) i 0 < 0x80
    at b low zero = low
    at b low (suc i) = lit< tt

-- a platform's strings join so
module _ (formed : List ℕ → Type 0) (units : List ℕ → List ℕ) (laws : OccurrenceLaws formed units) where
  pub joins : JoinsAtAscii formed
  joins a b c low fa fb =
      let p : List ℕ = c ∷ [] in
      let text = ascii_text c low in
      let fp = laws.texts p text in
      let one = laws.some_join a p fa fp in
      let two = laws.some_join one.0 b one.1.0 fb in
      let w = two.0 in
      let fw = two.1.0 in
      let e : units w ≡ (units a ++ units p) ++ units b = two.1.1 ∙ ap (λ x. x ++ units b) one.1.1 in
      let cut = laws.units_occur p w (units a) (units b) text (omega arith) fw (e ∙ append_assoc (units a) (units p) (units b)) in
      let first : cut.prefix ≡ a = laws.once cut.prefix a cut.formed fa cut.units_are in
      let whole : formed (cut.prefix ++ (p ++ cut.suffix)) = subst formed cut.joined fw in
      let later = laws.prefixes cut.prefix (p ++ cut.suffix) cut.formed whole in
      let after = laws.prefixes p cut.suffix fp later.0 in
      let us : units a ++ (units p ++ units b) ≡ units a ++ (units p ++ units cut.suffix) =
      sym (append_assoc (units a) (units p) (units b)) ∙ sym e ∙ ap units cut.joined ∙ later.1 ∙ ap (λ x. x ++ units (p ++ cut.suffix)) cut.units_are ∙ ap (λ x. units a ++ x) after.1 in
      let same : units b ≡ units cut.suffix = append_cancel_left (units p) (units b) (units cut.suffix) (append_cancel_left (units a) (units p ++ units b) (units p ++ units cut.suffix) us) in
      let last : cut.suffix ≡ b = laws.once cut.suffix b after.0 fb (sym same) in
      subst formed (cut.joined ∙ ap (λ x. x ++ (p ++ cut.suffix)) first ∙ ap (λ x. a ++ c ∷ x) last) fw

module _ (formed : List ℕ → Type 0) (join : JoinsAtAscii formed) (texts : HasTexts formed) where
  none_formed : formed []
  none_formed = texts [] (IsUtf8-from_ascii [] (λ k. lit< tt))

  dots_formed : formed (0x2E ∷ [])
  dots_formed = texts (0x2E ∷ []) (ascii_text 0x2E (lit< tt))

  -- a byte before a string
  before : (b : ℕ) (s : List ℕ) → b < 0x80 → formed s → formed (b ∷ s)
  before b s low f = join [] s b low none_formed f

  spelled_formed : (x : Item) → IsFormed formed x → formed (spelling x)
  spelled_formed (Prefix s) f = none_formed
  spelled_formed RootDir f = none_formed
  spelled_formed CurDir f = dots_formed
  spelled_formed ParentDir f = before 0x2E (0x2E ∷ []) (lit< tt) dots_formed
  spelled_formed (Normal s) f = f

  module _ (r : Rules) where
    -- a part that names nothing is empty or `.`
    none_named : (a : ℕ) (v w : Bool) → nat_eq a 0x2E ≡ v → (if v then dot r else Some (Normal (a ∷ []))) ≡ None → formed (a ∷ [])
    none_named a true w e f = let is : a ≡ 0x2E = eqb-true a 0x2E e in subst (λ z. formed (z ∷ [])) (sym is) dots_formed
    none_named a false w e f = let never : Some (Normal (a ∷ [])) ≡ None = f in cc

    two_named : (a b : ℕ) (v : Bool) → (if v then Some ParentDir else Some (Normal (a ∷ b ∷ []))) ≡ None → formed (a ∷ b ∷ [])
    two_named a b true f = let never : Some ParentDir ≡ None = f in cc
    two_named a b false f = let never : Some (Normal (a ∷ b ∷ [])) ≡ None = f in cc

    unnamed_formed : (p : List ℕ) → named r p ≡ None → formed p
    unnamed_formed [] e = none_formed
    unnamed_formed (a ∷ []) e = none_named a (nat_eq a 0x2E) true refl e
    unnamed_formed (a ∷ b ∷ []) e = two_named a b (nat_eq a 0x2E && nat_eq b 0x2E) e
    unnamed_formed (a ∷ b ∷ c ∷ p) e = let never : Some (Normal (a ∷ b ∷ c ∷ p)) ≡ None = e in cc

    part_formed : (p : List ℕ) (o : Option Item) (xs : List Item) → named r p ≡ o → AreFormed formed (cons_option o xs) → formed p × AreFormed formed xs
    part_formed p None xs e h = (unnamed_formed p e, h)
    part_formed p (Some x) xs e h = (subst formed (named_spelled r p x e) (spelled_formed x h.0), h.1)

    all_parts : (ps : List (List ℕ)) → AreFormed formed (filter_map (named r) ps) → AllByRecursion formed ps
    all_parts [] h = tt
    all_parts (p ∷ ps) h = let q = part_formed p (named r p) (filter_map (named r) ps) refl h in (q.0, all_parts ps q.1)

    -- parts with separators between them; what was read of the first comes before
    from_parts : (s first : List ℕ) → IsPlain r first → AllByRecursion formed (slice_split (separates r) (first ++ s)) → formed (first ++ s)
    from_parts [] first p h =
        let all : first ++ [] ≡ first = append-nil first in
        let one = subst (AllByRecursion formed) (ap (slice_split (separates r)) all ∙ slice_split_none (separates r) first p) h in subst formed (sym all) one.0
    from_parts (b ∷ s) first p h = cases (separates r b) refl (λ q. from_parts s (first ++ b ∷ []) q) (λ q. from_parts s [] q)
      where
        cases : (v : Bool) → separates r b ≡ v
            → (IsPlain r (first ++ b ∷ []) → AllByRecursion formed (slice_split (separates r) ((first ++ b ∷ []) ++ s)) → formed ((first ++ b ∷ []) ++ s))
            → (IsPlain r [] → AllByRecursion formed (slice_split (separates r) s) → formed s)
            → formed (first ++ b ∷ s)
        cases true e more next =
            let both = subst (AllByRecursion formed) (slice_split_at (separates r) first b s p e) h in
            join first s b (ascii_separators r b e) both.0 (next (λ k d l. absurd (omega arith)) both.1)
        cases false e more next =
            let same : (first ++ b ∷ []) ++ s ≡ first ++ b ∷ s = append_assoc first (b ∷ []) s in
            let plain : IsPlain r (first ++ b ∷ []) = All-append (λ c. separates r c ≡ false) first (b ∷ []) p (All-cons (λ c. separates r c ≡ false) b [] e (λ k d l. absurd (omega arith))) in
            subst formed same (more plain (subst (λ z. AllByRecursion formed (slice_split (separates r) z)) (sym same) h))

    body_from : (s : List ℕ) → AreFormed formed (components_in r s) → formed s
    body_from s h = from_parts s [] (λ k d l. absurd (omega arith)) (all_parts (slice_split (separates r) s) h)

    -- the byte that starts a path
    root_low : (p q : Bool) (b : ℕ) → separates r b ≡ p → (if p then Root else (if q then Dot else Nothing)) ≡ Root → b < 0x80
    root_low true q b e f = ascii_separators r b e
    root_low false true b e f = let never : Dot ≡ Root = f in cc
    root_low false false b e f = let never : Nothing ≡ Root = f in cc

    dot_low : (p v w : Bool) (b : ℕ) → nat_eq b 0x2E ≡ v → (if p then Root else (if v && w then Dot else Nothing)) ≡ Dot → b < 0x80
    dot_low true v w b e f = let never : Root ≡ Dot = f in cc
    dot_low false true w b e f = let s : b ≡ 0x2E = eqb-true b 0x2E e in omega arith
    dot_low false false w b e f = let never : Nothing ≡ Dot = f in cc

    dot_alone_low : (p v : Bool) (b : ℕ) → nat_eq b 0x2E ≡ v → (if p then Root else (if v then Dot else Nothing)) ≡ Dot → b < 0x80
    dot_alone_low true v b e f = let never : Root ≡ Dot = f in cc
    dot_alone_low false true b e f = let s : b ≡ 0x2E = eqb-true b 0x2E e in omega arith
    dot_alone_low false false b e f = let never : Nothing ≡ Dot = f in cc

    first_root : (b : ℕ) (s : List ℕ) → start_of r (b ∷ s) ≡ Root → b < 0x80
    first_root b [] e = root_low (separates r b) (nat_eq b 0x2E) b refl e
    first_root b (c ∷ s) e = root_low (separates r b) (nat_eq b 0x2E && separates r c) b refl e

    first_dot : (b : ℕ) (s : List ℕ) → start_of r (b ∷ s) ≡ Dot → b < 0x80
    first_dot b [] e = dot_alone_low (separates r b) (nat_eq b 0x2E) b refl e
    first_dot b (c ∷ s) e = dot_low (separates r b) (nat_eq b 0x2E) (separates r c) b refl e

    plain_by : (st : Start) (s : List ℕ) → start_of r s ≡ st → AreFormed formed (start_items st ++ components_in r (after_start st s)) → formed s
    plain_by Nothing s e h = body_from s h
    plain_by Root [] e h = none_formed
    plain_by Root (b ∷ s) e h = before b s (first_root b s e) (body_from s h.1)
    plain_by Dot [] e h = none_formed
    plain_by Dot (b ∷ s) e h = before b s (first_dot b s e) (body_from s h.1)

    pub plain_from : (s : List ℕ) → AreFormed formed (plain_components r s) → formed s
    plain_from s h = plain_by (start_of r s) s refl h

  after_start_formed : (st : Start) (xs : List Item) → AreFormed formed (start_items st ++ xs) → AreFormed formed xs
  after_start_formed Root xs h = h.1
  after_start_formed Dot xs h = h.1
  after_start_formed Nothing xs h = h

  -- after a prefix
  after_edge : (r : Rules) (raw rest : List ℕ) → Edge rules.Either rest → formed raw → AreFormed formed (components_in r (after_root rest)) → formed (raw ++ rest)
  after_edge r raw [] e f h = subst formed (sym (append-nil raw)) f
  after_edge r raw (c ∷ u) e f h =
      let body : AreFormed formed (components_in r u) = subst (λ v. AreFormed formed (components_in r (if v then u else c ∷ u))) e h in
      join raw u c (ascii_separators rules.Either c e) f (body_from r u body)

  after_drive : (cut : IsCutAtAscii formed) (r : Rules) (letter : ℕ) (raw rest : List ℕ) → raw ≡ letter ∷ 0x3A ∷ [] → formed raw → AreFormed formed (components_in r (after_root rest)) → formed (raw ++ rest)
  after_drive cut r letter raw rest e f h =
      let one = (cut (letter ∷ []) [] 0x3A (lit< tt) (subst formed e f)).before in
      subst formed (ap (λ z. z ++ rest) (sym e)) (join (letter ∷ []) rest 0x3A (lit< tt) one (rest_from rest h))
    where
      choice : (v : Bool) (c : ℕ) (u : List ℕ) → separates rules.Either c ≡ v → AreFormed formed (components_in r (if v then u else c ∷ u)) → formed (c ∷ u)
      choice true c u e h = before c u (ascii_separators rules.Either c e) (body_from r u h)
      choice false c u e h = body_from r (c ∷ u) h

      rest_from : (rest : List ℕ) → AreFormed formed (components_in r (after_root rest)) → formed rest
      rest_from [] h = none_formed
      rest_from (c ∷ u) h = choice (separates rules.Either c) c u refl h

  windows_from : IsCutAtAscii formed → (s : List ℕ) (items : List Item) → AreWindowsComponents s items → AreFormed formed items → formed s
  windows_from cut s items (bare a) h = plain_from rules.Either s (subst (AreFormed formed) a.are h)
  windows_from cut s items (prefixed a) h =
      let all = subst (AreFormed formed) a.are h in
      let body = after_start_formed (root_of a.kind a.rest) (components_in (rules_of a.kind) (after_root a.rest)) all.1 in
      subst formed (sym a.joined)
      (elim (edge_after s a.kind a.rest a.prefix) as (λ z. formed (a.raw ++ a.rest)) [
        | inl e ↦ after_edge (rules_of a.kind) a.raw a.rest e all.0 body
        | inr d ↦ after_drive cut (rules_of a.kind) d.0 a.raw a.rest (append_cancel_right a.raw (d.0 ∷ 0x3A ∷ []) a.rest (sym a.joined ∙ d.1)) all.0 body
      ])

  -- a path of well-formed components
  pub from_items : IsCutAtAscii formed → (w : whose.Style) (s : List ℕ) (items : List Item) → AreComponents w s items → AreFormed formed items → formed s
  from_items cut style.Unix s items h f = plain_from rules.Slash s (subst (AreFormed formed) h f)
  from_items cut style.Windows s items h f = windows_from cut s items h f
