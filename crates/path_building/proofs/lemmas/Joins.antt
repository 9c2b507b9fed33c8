-- What is known of a path after another.
use Rattle.std.proofs.Common.{◌≡◌, ◌≢◌, ◌↔◌, ◌⊎◌, inl, inr, ℕ, Bool, true, false, IsTrue, if◌then◌else◌, Result, Ok, Err, IfOk, List, [], ◌∷◌, ◌++◌, None, drop, refl, sym, ap, ◌∙◌, subst, append_assoc, append-nil}
use Rattle.std.proofs.lemmas.List.{append_cancel_left}
use Rattle.path_rules.specs.declared.rules.Rules.{Rules}
use Rattle.path_rules.specs.declared.rules.Rules.TheVariants as rules
use Rattle.path_rules.specs.declared.rules.Style as whose
use Rattle.path_rules.specs.declared.rules.Style.TheVariants as style
use Rattle.path_rules.specs.declared.head.Start.TheVariants.{Root}
use Rattle.path_rules.specs.Separators.{separates}
use Rattle.path_rules.specs.StyleRules.{rules_of_style, main_separator}
use Rattle.path_rules.specs.Component.{Item, Prefix, dot, components_in}
use Rattle.path_rules.specs.Heads.{start_items}
use Rattle.path_rules.specs.Prefix.{Kind, Verbatim, VerbatimUnc, VerbatimDisk, Device, Unc, Disk, IsPrefixOf, rules_of, begins_verbatim, IsPrefixed, IsRawPrefix}
use Rattle.path_rules.specs.Components.{plain_components, implied_root, root_of, after_root, AreComponents, prefixed, bare}
use Rattle.path_rules.specs.Root.{BeginsWithSeparator}
use Rattle.path_rules.specs.Trailing.{EndsWithSeparator}
use Rattle.path_building.specs.Join.{IsVerbatimPath, IsDriveAlone, IsBetween, IsJoinAfter, IsJoin, replacing, resolving, at_root, after, without_dot, HaveTheSamePrefix, IsRelativeTo}
use Rattle.path_building.proofs.lemmas.Follows.{Follows, apart, beside, suffix_ends, body_items, plain_items, relative_items}
use Rattle.path_rules.proofs.lemmas.OneList.{one_prefix, one_components}
use Rattle.path_rules.proofs.lemmas.OwnRules.{prefixed_rules}
use Rattle.path_rules.proofs.lemmas.Simple.{begun}
use Rattle.path_rules.proofs.lemmas.Totals.{verbatim_some}

-- a relative path follows a base that isn't verbatim
pub follows_base : (w : whose.Style) (base path joined : List ℕ) → ¬ (IsVerbatimPath w base) → IsRelativeTo w path → IsJoin w base path joined → IsJoinAfter w base path joined
follows_base w base path joined v h (replacing p e) = absurd (h.0 p)
follows_base w base path joined v h (resolving p b s i) = absurd (v b)
follows_base w base path joined v h (at_root p b i) = absurd (h.1 i.root)
follows_base w base path joined v h (after p b i) = i

-- what is written separates
pub main_separates : (w : whose.Style) → separates (rules_of_style w) (main_separator w) ≡ true
main_separates style.Unix = refl
main_separates style.Windows = refl

between_follows : (w : whose.Style) (base path between : List ℕ) → base ≢ [] → ¬ (IsDriveAlone w base) → IsBetween w base between → Follows (rules_of_style w) base (between ++ path) path
between_follows w base path between some drive (inl (inl e, f)) = absurd (some e)
between_follows w base path between some drive (inl (inr (inl h), f)) = beside (ap (λ x. x ++ path) f) (inr h)
between_follows w base path between some drive (inl (inr (inr d), f)) = absurd (drive d)
between_follows w base path between some drive (inr (n, f)) = apart (main_separator w) (main_separates w) (ap (λ x. x ++ path) f)

-- without prefixes
plain_join : (r : Rules) → dot r ≡ None → (base path tail : List ℕ) → base ≢ [] → Follows r base tail path → ¬ (BeginsWithSeparator r path) → plain_components r (base ++ tail) ≡ plain_components r base ++ without_dot (plain_components r path)
plain_join r d [] path tail some f h = absurd (some refl)
plain_join r d (b ∷ s) path tail some f h = plain_items r b s tail path f ∙ ap (λ x. plain_components r (b ∷ s) ++ x) (relative_items r d path h)

-- after a prefix alone
no_root : (kind : Kind) (path : List ℕ) → ¬ (BeginsWithSeparator rules.Either path) → (root_of kind path ≡ implied_root kind) × (after_root path ≡ path)
no_root kind [] h = (refl, refl)
no_root kind (b ∷ u) h =
    let no = is_false (separates rules.Either b) h in
    (ap (λ x. if x then Root else implied_root kind) no, ap (λ x. if x then u else b ∷ u) no)
  where
    is_false : (v : Bool) → (v ≡ true → ⊥) → v ≡ false
    is_false true k = absurd (k refl)
    is_false false k = refl

has_root : (kind : Kind) → rules_of kind ≡ rules.Either → ((l : ℕ) → kind ≡ Disk l → ⊥) → implied_root kind ≡ Root
has_root (Verbatim n) e h = let never : rules.Verbatim ≡ rules.Either = e in cc
has_root (VerbatimUnc s n) e h = let never : rules.Verbatim ≡ rules.Either = e in cc
has_root (VerbatimDisk l) e h = let never : rules.Verbatim ≡ rules.Either = e in cc
has_root (Device n) e h = refl
has_root (Unc s n) e h = refl
has_root (Disk l) e h = absurd (h l refl)

-- the components of what follows a prefix
abbrev rest_items : Kind → List ℕ → List Item
rest_items kind rest = start_items (root_of kind rest) ++ components_in rules.Either (after_root rest)

alone_items : (kind : Kind) (base path between : List ℕ) → IsPrefixOf base kind [] → rules_of kind ≡ rules.Either → IsBetween style.Windows base between → ¬ (BeginsWithSeparator rules.Either path)
    → rest_items kind (between ++ path) ≡ rest_items kind [] ++ components_in rules.Either path
alone_items kind base path between p e (inl (n, f)) h =
    let q = no_root kind path h in
    ap (λ x. rest_items kind (x ++ path)) f ∙ ap (λ x. start_items x ++ components_in rules.Either (after_root path)) q.0
    ∙ ap (λ x. start_items (implied_root kind) ++ components_in rules.Either x) q.1
    ∙ ap (λ x. x ++ components_in rules.Either path) (sym (append-nil (start_items (implied_root kind))))
alone_items kind base path between p e (inr (n, f)) h =
    let root : implied_root kind ≡ Root = has_root kind e (λ l same. n (inr (inr (kind, ([], (p, (refl, (l, same)))))))) in
    ap (λ x. rest_items kind (x ++ path)) f
    ∙ ap (λ x. x ++ components_in rules.Either path) (ap start_items (sym root) ∙ sym (append-nil (start_items (implied_root kind))))

-- after a prefix and more
longer_items : (kind : Kind) (d : ℕ) (s tail path : List ℕ) → Follows rules.Either (d ∷ s) tail path → rest_items kind (d ∷ (s ++ tail)) ≡ rest_items kind (d ∷ s) ++ components_in rules.Either path
longer_items kind d s tail path f = cases (separates rules.Either d) refl
  where
    part : (z : List ℕ) → Follows rules.Either z tail path → start_items (root_of kind (d ∷ s)) ++ components_in rules.Either (z ++ tail) ≡ (start_items (root_of kind (d ∷ s)) ++ components_in rules.Either z) ++ components_in rules.Either path
    part z g =
        ap (λ x. start_items (root_of kind (d ∷ s)) ++ x) (body_items rules.Either z tail path g)
        ∙ sym (append_assoc (start_items (root_of kind (d ∷ s))) (components_in rules.Either z) (components_in rules.Either path))

    cases : (v : Bool) → separates rules.Either d ≡ v → rest_items kind (d ∷ (s ++ tail)) ≡ rest_items kind (d ∷ s) ++ components_in rules.Either path
    cases true e =
        ap (λ x. start_items (root_of kind (d ∷ s)) ++ components_in rules.Either (if x then s ++ tail else d ∷ (s ++ tail))) e ∙ part s (later f)
        ∙ sym (ap (λ x. (start_items (root_of kind (d ∷ s)) ++ components_in rules.Either (if x then s else d ∷ s)) ++ components_in rules.Either path) e)
      where
        later : Follows rules.Either (d ∷ s) tail path → Follows rules.Either s tail path
        later (apart c sep k) = apart c sep k
        later (beside k (inl n)) = cc
        later (beside k (inr h)) = beside k (suffix_ends rules.Either (d ∷ []) s h)
    cases false e =
        ap (λ x. start_items (root_of kind (d ∷ s)) ++ components_in rules.Either (if x then s ++ tail else d ∷ (s ++ tail))) e ∙ part (d ∷ s) f
        ∙ sym (ap (λ x. (start_items (root_of kind (d ∷ s)) ++ components_in rules.Either (if x then s else d ∷ s)) ++ components_in rules.Either path) e)

prefixed_items : (kind : Kind) (raw rest base path between : List ℕ) → base ≡ raw ++ rest → IsPrefixOf base kind rest → rules_of kind ≡ rules.Either → IsBetween style.Windows base between → ¬ (BeginsWithSeparator rules.Either path)
    → rest_items kind (rest ++ (between ++ path)) ≡ rest_items kind rest ++ components_in rules.Either path
prefixed_items kind raw [] base path between j p e b h = alone_items kind base path between p e b h
prefixed_items kind raw (d ∷ s) base path between j p e b h = longer_items kind d s (between ++ path) path (from (between_follows style.Windows base path between some no_drive b))
  where
    some : base ≢ []
    some n = none raw (sym j ∙ n)
      where
        none : (x : List ℕ) → x ++ d ∷ s ≡ [] → ⊥
        none [] f = cc
        none (y ∷ x) f = cc

    no_drive : ¬ (IsDriveAlone style.Windows base)
    no_drive q =
        let never : d ∷ s ≡ [] = (one_prefix base kind q.0 (d ∷ s) q.1.0 p q.1.1.0).1 ∙ q.1.1.1.0 in cc

    from : Follows rules.Either base (between ++ path) path → Follows rules.Either (d ∷ s) (between ++ path) path
    from (apart c sep k) = apart c sep k
    from (beside k (inl n)) = absurd (some n)
    from (beside k (inr h)) = beside k (suffix_ends rules.Either raw (d ∷ s) (subst (EndsWithSeparator rules.Either) j h))

not_verbatim : (kind : Kind) → (rules_of kind ≡ rules.Verbatim → ⊥) → rules_of kind ≡ rules.Either
not_verbatim (Verbatim n) h = absurd (h refl)
not_verbatim (VerbatimUnc s n) h = absurd (h refl)
not_verbatim (VerbatimDisk l) h = absurd (h refl)
not_verbatim (Device n) h = refl
not_verbatim (Unc s n) h = refl
not_verbatim (Disk l) h = refl

none_of : (s : List ℕ) → ¬ (IsPrefixed style.Windows s) → (kind : Kind) (rest : List ℕ) → ¬ (IsPrefixOf s kind rest)
none_of s h kind rest p = h (kind, (rest, p))

-- the components of a base and a relative path after it
pub join_items : (w : whose.Style) (base path joined : List ℕ) → base ≢ [] → ¬ (IsVerbatimPath w base) → IsRelativeTo w path → IsJoin w base path joined → HaveTheSamePrefix w base joined
    → (xs ys : List Item) → AreComponents w base xs → AreComponents w path ys → AreComponents w joined (xs ++ without_dot ys)
join_items style.Unix base path joined some v h i k xs ys a b =
    let q = follows_base style.Unix base path joined v h i in
    let f = between_follows style.Unix base path q.between some (λ d. d) q.written in
    ap (λ x. x ++ without_dot ys) a ∙ ap (λ x. plain_components rules.Slash base ++ without_dot x) b
    ∙ sym (plain_join rules.Slash refl base path (q.between ++ path) some f h.1) ∙ ap (plain_components rules.Slash) (sym q.is)
join_items style.Windows base path joined some v h i (inr (n, m)) xs ys a b =
    let q = follows_base style.Windows base path joined v h i in
    let f = between_follows style.Windows base path q.between some (λ d. n (d.0, (d.1.0, d.1.1.0))) q.written in
    let ones = one_components style.Windows base xs (plain_components rules.Either base) a (bare (record { none = none_of base n; are = refl })) in
    let others = one_components style.Windows path ys (plain_components rules.Either path) b (bare (record { none = none_of path h.0; are = refl })) in
    bare (record {
      none = none_of joined m;
      are =
          ap (λ x. x ++ without_dot ys) ones ∙ ap (λ x. plain_components rules.Either base ++ without_dot x) others
          ∙ sym (plain_join rules.Either refl base path (q.between ++ path) some f h.1) ∙ ap (plain_components rules.Either) (sym q.is);
    })
join_items style.Windows base path joined some v h i (inl s) xs ys a b =
    let q = follows_base style.Windows base path joined v h i in
    let e : rules_of s.kind ≡ rules.Either = not_verbatim s.kind (λ x. v (s.kind, (s.after_first, (s.first, x)))) in
    let rest : s.after_second ≡ s.after_first ++ (q.between ++ path) =
    append_cancel_left s.raw s.after_second (s.after_first ++ (q.between ++ path)) (sym s.second_joined ∙ q.is ∙ ap (λ x. x ++ (q.between ++ path)) s.first_joined ∙ append_assoc s.raw s.after_first (q.between ++ path)) in
    let items = prefixed_items s.kind s.raw s.after_first base path q.between s.first_joined s.first e q.written h.1 in
    let ones = one_components style.Windows base xs (Prefix s.raw ∷ (start_items (root_of s.kind s.after_first) ++ components_in (rules_of s.kind) (after_root s.after_first))) a
    (prefixed (record { kind = s.kind; raw = s.raw; rest = s.after_first; joined = s.first_joined; prefix = s.first; are = refl })) in
    let others = one_components style.Windows path ys (plain_components rules.Either path) b (bare (record { none = none_of path h.0; are = refl })) in
    prefixed (record {
      kind = s.kind;
      raw = s.raw;
      rest = s.after_second;
      joined = s.second_joined;
      prefix = s.second;
      are =
          ap (λ x. x ++ without_dot ys) ones
          ∙ ap (λ x. (Prefix s.raw ∷ (start_items (root_of s.kind s.after_first) ++ components_in x (after_root s.after_first))) ++ without_dot ys) e
          ∙ ap (λ x. (Prefix s.raw ∷ rest_items s.kind s.after_first) ++ without_dot x) others
          ∙ ap (λ x. (Prefix s.raw ∷ rest_items s.kind s.after_first) ++ x) (sym (relative_items rules.Either refl path h.1))
          ∙ ap (λ x. Prefix s.raw ∷ x) (sym items)
          ∙ ap (λ x. Prefix s.raw ∷ rest_items s.kind x) (sym rest)
          ∙ ap (λ x. Prefix s.raw ∷ (start_items (root_of s.kind s.after_second) ++ components_in x (after_root s.after_second))) (sym e);
    })

-- an empty base
pub join_to_empty : (w : whose.Style) (path joined : List ℕ) → IsJoin w [] path joined → joined ≡ path
join_to_empty w path joined (replacing p e) = e
join_to_empty w path joined (resolving p b s i) = absurd (no_verbatim w b)
  where
    no_verbatim : (w : whose.Style) → IsVerbatimPath w [] → ⊥
    no_verbatim style.Unix b = b
    no_verbatim style.Windows b = b.1.1.0
join_to_empty w path joined (at_root p b i) = i.is ∙ ap (λ x. x ++ path) (no_raw w i.raw i.prefix)
  where
    no_raw : (w : whose.Style) (raw : List ℕ) → IsRawPrefix w [] raw → raw ≡ []
    no_raw style.Unix raw e = e
    no_raw style.Windows raw (inl h) = absurd (h.1.1.0)
    no_raw style.Windows raw (inr h) = h.1
join_to_empty w path joined (after p b i) = i.is ∙ ap (λ x. x ++ path) (nothing i.written)
  where
    nothing : IsBetween w [] i.between → i.between ≡ []
    nothing (inl (n, e)) = e
    nothing (inr (n, e)) = absurd (n (inl refl))

-- what separates after the prefix of a path, by the bytes that it begins with
pub begun_rules : (s : List ℕ) (kind : Kind) (rest : List ℕ) → IsPrefixOf s kind rest → begins_verbatim s ≡ true → rules_of kind ≡ rules.Verbatim
begun_rules s kind rest h e = prefixed_rules s kind rest h ∙ ap (λ v. if v then rules.Verbatim else rules.Either) e

pub other_rules : (s : List ℕ) (kind : Kind) (rest : List ℕ) → IsPrefixOf s kind rest → begins_verbatim s ≡ false → ¬ (rules_of kind ≡ rules.Verbatim)
other_rules s kind rest h e v =
    let other : rules_of kind ≡ rules.Either = prefixed_rules s kind rest h ∙ ap (λ b. if b then rules.Verbatim else rules.Either) e in
    let never : rules.Either ≡ rules.Verbatim = sym other ∙ v in cc

-- what the tests of a base tell
pub verbatim_begins : (s : List ℕ) → IsTrue (begins_verbatim s) ↔ IsVerbatimPath style.Windows s
verbatim_begins s = (there, λ v. back v (begins_verbatim s) refl)
  where
    there : IsTrue (begins_verbatim s) → IsVerbatimPath style.Windows s
    there e =
        let p = verbatim_some (drop 4 s) in
        let found : IsPrefixOf s p.0 p.1.0 = subst (λ x. IsPrefixOf x p.0 p.1.0) (sym (begun s e)) p.1.1 in
        (p.0, (p.1.0, (found, begun_rules s p.0 p.1.0 found e)))

    back : IsVerbatimPath style.Windows s → (v : Bool) → begins_verbatim s ≡ v → IsTrue (begins_verbatim s)
    back h true e = e
    back h false e = absurd (other_rules s h.0 h.1.0 h.1.1.0 e h.1.1.1)

-- the path after what is kept of the base
pub join_root : (w : whose.Style) (base path kept sep : List ℕ) → sep ≡ [] → ¬ (IsPrefixed w path) → ¬ (IsVerbatimPath w base × (path ≢ [])) → BeginsWithSeparator (rules_of_style w) path → IsRawPrefix w base kept → IsJoin w base path (kept ++ (sep ++ path))
join_root w base path kept sep e p h root raw =
    at_root p (λ v. h (v, some path root)) (record { raw = kept; root = root; prefix = raw; is = ap (λ x. kept ++ (x ++ path)) e })
  where
    some : (s : List ℕ) → BeginsWithSeparator (rules_of_style w) s → s ≢ []
    some [] k n = k
    some (b ∷ s) k n = cc

pub join_kept : (w : whose.Style) (base path kept sep : List ℕ) → kept ≡ base → ¬ (IsPrefixed w path) → ¬ (IsVerbatimPath w base × (path ≢ [])) → ¬ (BeginsWithSeparator (rules_of_style w) path) → IsBetween w base sep → IsJoin w base path (kept ++ (sep ++ path))
join_kept w base path kept sep e p h root b = after p (cases path h) (record { between = sep; relative = root; written = b; is = ap (λ x. x ++ (sep ++ path)) e })
  where
    cases : (s : List ℕ) → ¬ (IsVerbatimPath w base × (s ≢ [])) → (s ≡ []) ⊎ (¬ (IsVerbatimPath w base))
    cases [] k = inl refl
    cases (b ∷ s) k = inr (λ v. k (v, λ n. cc))

-- what a test refutes
pub refuted : (P : Type 0) (b : Bool) → (IsTrue b ↔ P) → b ≡ false → ¬ P
refuted P b h e p = let yes : b ≡ true = h.1 p in let never : true ≡ false = sym yes ∙ e in cc

module _ {X E : Type 0} (P Q : X → Type 0) (give : (x : X) → P x → Q x) where
  pub if_ok : (r : Result X E) → IfOk r P → IfOk r Q
  if_ok (Ok x) h = give x h
  if_ok (Err e) h = h

-- a base is verbatim on Windows alone
pub on_windows : (w : whose.Style) (base path : List ℕ) → IsVerbatimPath w base → ¬ (IsPrefixed w path) → IsVerbatimPath style.Windows base × ¬ (IsPrefixed style.Windows path)
on_windows style.Unix base path v n = absurd v
on_windows style.Windows base path v n = (v, n)
