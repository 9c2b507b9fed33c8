-- What is known of a path of another style.
use Rattle.std.proofs.Common.{◌≡◌, ◌≢◌, inl, inr, ◌+◌, ◌-◌, ◌≤◌, take, drop, ℕ, Bool, true, false, if◌then◌else◌, nat_eq, List, [], ◌∷◌, ◌++◌, Some, None, get_or, length, map, refl, sym, ap, ◌∙◌, subst, arith}
use Rattle.std.proofs.lemmas.List.{take_rest}
use Rattle.std.proofs.lemmas.List.Elements.{All-cons, All-nil}
use Rattle.path_rules.specs.declared.rules.Rules.{Rules}
use Rattle.path_rules.specs.declared.rules.Rules.TheVariants as rules
use Rattle.path_rules.specs.declared.rules.Style as whose
use Rattle.path_rules.specs.declared.rules.Style.TheVariants as style
use Rattle.path_rules.specs.declared.head.Start.{Start}
use Rattle.path_rules.specs.declared.head.Start.TheVariants.{Root, Dot, Nothing}
use Rattle.path_rules.specs.declared.head.Head.{Head}
use Rattle.path_rules.specs.Separators.{separates, IsPlain}
use Rattle.path_rules.specs.StyleRules.{rules_of_style, main_separator}
use Rattle.path_rules.specs.Component.{Item, Prefix, RootDir, CurDir, ParentDir, Normal, dot, named, components_in}
use Rattle.path_rules.specs.Components.{AreComponents}
use Rattle.path_rules.specs.Heads.{prefix_items, start_items, items_of}
use Rattle.path_rules.specs.HeadParts.{IsHead, bare_head, prefixed_head}
use Rattle.path_building.specs.Beginning.{BeginsAsShare}
use Rattle.path_building.specs.Normalized.{BeginsWithColon}
use Rattle.path_building.proofs.lemmas.Beginnings.{plain_start}
use Rattle.path_building.specs.Written.{IsPathOf}
use Rattle.path_building.specs.Spelled.{after_bytes, AreSpelled, DoublesRoot, ObjectNext}
use Rattle.path_building.specs.Restyled.{IsHad, AreHad, IsFirstUnlike, IsRestyled}
use Rattle.path_rules.proofs.lemmas.AfterPrefix.{some_of}
use Rattle.path_building.proofs.lemmas.Resolving.{no_prefix, no_root, no_dot}
use Rattle.path_building.proofs.lemmas.Spelling.{body_spelled}
use Rattle.path_building.proofs.lemmas.Written.{slash_written, bare_written}
use Rattle.path_building.proofs.lemmas.AsWritten.{no_share, as_written}
use Rattle.path_building.proofs.lemmas.Objects.{path_by, no_prefix_before}

-- so far each component is had, and what is found in the rest is found in all
abbrev pub Searched : whose.Style → ℕ → Bool → List Item → List Item → Type 0
Searched w index first left items = (AreHad w first left → AreHad w true items) × ((i : ℕ) → IsFirstUnlike w first left i → IsFirstUnlike w true items (index + i))

module _ {X : Type 0} (w : whose.Style) (f : X → Item) (index : ℕ) (first : Bool) (d : X) (items : List Item) where
  pub found : (xs : List X) → 1 ≤ length xs → Searched w index first (map f xs) items → ¬ (IsHad w first (f (get_or xs 0 d))) → IsFirstUnlike w true items index
  found [] l s n = absurd (omega arith)
  found (x ∷ xs) l s n = let same : index + 0 ≡ index = omega arith in subst (IsFirstUnlike w true items) same (s.1 0 (inl (n, refl)))

  pub next : (xs : List X) → 1 ≤ length xs → Searched w index first (map f xs) items → IsHad w first (f (get_or xs 0 d)) → Searched w (index + 1) false (map f (take (length xs - 1) (drop 1 xs))) items
  next [] l s h = absurd (omega arith)
  next (x ∷ xs) l s h = subst (λ z. Searched w (index + 1) false (map f z) items) (sym (take_rest (x ∷ xs) 1)) (
    λ a. s.0 (h, a),
    λ i a. let sum : index + (i + 1) ≡ (index + 1) + i = omega arith in subst (IsFirstUnlike w true items) sum (s.1 (i + 1) (inr (h, (i, (refl, a))))),
  )

pub shorter : {X : Type 0} (index n : ℕ) (xs : List X) → 1 ≤ length xs → index + length xs ≡ n → (index + 1) + length (take (length xs - 1) (drop 1 xs)) ≡ n
shorter index n [] l e = absurd (omega arith)
shorter index n (x ∷ xs) l e = let rest : length (take (length (x ∷ xs) - 1) (drop 1 (x ∷ xs))) ≡ length xs = ap length (take_rest (x ∷ xs) 1) in omega (arith, rest, e)

-- a part names the same component by the rules of both styles
no_dots : (w : whose.Style) → dot (rules_of_style w) ≡ None
no_dots style.Unix = refl
no_dots style.Windows = refl

same_name : (r q : Rules) (s : List ℕ) → dot r ≡ dot q → named r s ≡ named q s
same_name r q [] e = refl
same_name r q (a ∷ []) e = ap (λ z. if nat_eq a 0x2E then z else Some (Normal (a ∷ []))) e
same_name r q (a ∷ b ∷ []) e = refl
same_name r q (a ∷ b ∷ c ∷ s) e = refl

two_plain : (r : Rules) → separates r 0x2E ≡ false → IsPlain r (0x2E ∷ 0x2E ∷ [])
two_plain r e = All-cons (λ b. separates r b ≡ false) 0x2E (0x2E ∷ []) e (All-cons (λ b. separates r b ≡ false) 0x2E [] e (All-nil (λ b. separates r b ≡ false)))

two_dots : (w : whose.Style) → IsPlain (rules_of_style w) (0x2E ∷ 0x2E ∷ [])
two_dots style.Unix = two_plain rules.Slash refl
two_dots style.Windows = two_plain rules.Either refl

plain_had : (w : whose.Style) (first : Bool) (s : List ℕ) → IsHad w first (Normal s) → IsPlain (rules_of_style w) s
plain_had w true s h = h.0
plain_had w false s h = h

had_spelled : (from to : whose.Style) (first : Bool) (xs : List Item) → AreSpelled (rules_of_style from) xs → AreHad to first xs → AreSpelled (rules_of_style to) xs
had_spelled from to first [] sp h = tt
had_spelled from to first (Prefix s ∷ xs) sp h = absurd (no_prefix (rules_of_style from) s sp.0)
had_spelled from to first (RootDir ∷ xs) sp h = absurd (no_root (rules_of_style from) sp.0)
had_spelled from to first (CurDir ∷ xs) sp h = absurd (no_dot (rules_of_style from) (no_dots from) sp.0)
had_spelled from to first (ParentDir ∷ xs) sp h = (record { plain = two_dots to; names = refl }, had_spelled from to false xs sp.1 h.1)
had_spelled from to first (Normal s ∷ xs) sp h =
    (record { plain = plain_had to first s h.0; names = same_name (rules_of_style to) (rules_of_style from) s (no_dots to ∙ sym (no_dots from)) ∙ sp.0.names }, had_spelled from to false xs sp.1 h.1)

not_begun : (xs : List Item) → AreHad style.Windows true xs → ¬ (BeginsWithColon style.Windows xs)
not_begun [] h b = b
not_begun (Prefix s ∷ xs) h b = b
not_begun (RootDir ∷ xs) h b = b
not_begun (CurDir ∷ xs) h b = b
not_begun (ParentDir ∷ xs) h b = b
not_begun (Normal s ∷ xs) h b = h.0.1 b

-- after the start
is_first : Start → Bool
is_first Root = false
is_first Dot = false
is_first Nothing = true

after_top : (w : whose.Style) (st : Start) (xs : List Item) → AreHad w true (start_items st ++ xs) → AreHad w (is_first st) xs
unfolding is_first
after_top w Root xs h = h.1
after_top w Dot xs h = h.1
after_top w Nothing xs h = h

written_had : (w : whose.Style) (st : Start) (xs : List Item) → AreSpelled (rules_of_style w) xs → AreHad w (is_first st) xs → AreComponents w (after_bytes (main_separator w) st false xs) (start_items st ++ xs)
unfolding is_first
written_had style.Unix st xs sp h = slash_written st xs sp
written_had style.Windows Root xs sp h = bare_written Root xs sp (λ e. let never : Root ≡ Nothing = e in cc)
written_had style.Windows Dot xs sp h = bare_written Dot xs sp (λ e. let never : Dot ≡ Nothing = e in cc)
written_had style.Windows Nothing xs sp h = bare_written Nothing xs sp (λ e. plain_start style.Windows xs sp (not_begun xs h))

module _ (from to : whose.Style) (path : List ℕ) (head : Head) (are : AreComponents from path (items_of head)) (parts : IsHead from path head) (had : AreHad to true (items_of head)) where
  no_top : (p : List ℕ) (xs : List Item) → AreHad to true (prefix_items p ++ xs) → p ≡ []
  no_top [] xs h = refl
  no_top (b ∷ p) xs h = absurd h.0

  style_rules : (w : whose.Style) → IsHead w path head → head.prefix.now ≡ [] → head.rules ≡ rules_of_style w
  style_rules style.Unix h e = h.rules
  style_rules style.Windows (bare_head h) e = h.rules
  style_rules style.Windows (prefixed_head h) e = absurd (some_of path head h e)

  pub restyled : from ≢ to → (names : List Item) (none before made : List ℕ) (c : ℕ) → names ≡ components_in head.rules head.body.now → none ≡ [] → c ≡ main_separator to
      → (¬ (ObjectNext to none head.start names) → before ≡ none) → (ObjectNext to none head.start names → before ≡ main_separator to ∷ 0x2E ∷ []) → made ≡ before ++ after_bytes c head.start false names → ¬ (BeginsAsShare from path) → IsRestyled from to path made
  restyled other names none before made c e n s kept apart m single =
      let st = head.start in
      let p = no_top head.prefix.now (start_items st ++ components_in head.rules head.body.now) had in
      let items : items_of head ≡ start_items st ++ names = ap (λ z. prefix_items z ++ (start_items st ++ components_in head.rules head.body.now)) p ∙ ap (λ z. start_items st ++ z) (sym e) in
      let sp = subst (λ z. AreSpelled (rules_of_style from) z) (sym e) (subst (λ r. AreSpelled r (components_in head.rules head.body.now)) (style_rules from parts p) (body_spelled head.rules head.body.now)) in
      let h = after_top to st names (subst (AreHad to true) items had) in
      let same : before ++ after_bytes (main_separator to) st false names ≡ made = sym (m ∙ ap (λ z. before ++ after_bytes z st false names) s) in
      let spelled = had_spelled from to (is_first st) names sp h in
      let is = path_by to (rules_of_style to) [] st false names spelled before (λ o. (windows to (no_prefix_before to [] st names o).0, refl)) (written_had to st names spelled h)
      (as_written to (rules_of_style to) [] st false names spelled (once to)) (λ o. kept (λ k. o (subst (λ z. ObjectNext to z st names) n k)) ∙ n) (λ o. apart (subst (λ z. ObjectNext to z st names) (sym n) o)) in
      inr (other, (single, (start_items st ++ names, (subst (AreComponents from path) items are, subst (IsPathOf to (start_items st ++ names)) same is))))
    where
      once : (w : whose.Style) → DoublesRoot w [] false
      once style.Unix = refl
      once style.Windows = (λ e. let never : false ≡ true = e in cc, λ h. absurd (no_share h))

      windows : (w : whose.Style) → w ≡ style.Windows → rules_of_style w ≡ rules.Either
      windows w e = ap rules_of_style e
