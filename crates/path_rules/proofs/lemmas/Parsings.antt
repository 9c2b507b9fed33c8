-- Each path is parsed in one way, so a test of its prefix is a test of what was found.
use Rattle.std.proofs.Common.{◌≡◌, ◌≢◌, ◌↔◌, ◌⊎◌, ◌-◌, ◌≤◌, inl, inr, ℕ, List, [], ◌∷◌, ◌++◌, Option, Some, None, length, take, refl, sym, ap, ◌∙◌, subst, arith, length-append}
use Rattle.std.proofs.lemmas.List.{nil_from_length}
use Rattle.std.proofs.Math.Logic.{∥∥₁_elim}
use Rattle.std.proofs.Props.{props}
use mathlib.Core.HLevel.{hedberg}
use mathlib.Core.List.{is_set}
use native.Mathlib.Decide.{ℕ_discrete}
use Rattle.path_rules.specs.declared.rules.Rules.TheVariants as rules
use Rattle.path_rules.specs.declared.rules.Style.{Style}
use Rattle.path_rules.specs.declared.rules.Style.TheVariants as style
use Rattle.path_rules.specs.Separators.{IsField}
use Rattle.path_rules.specs.Prefix.{Kind, rules_of, Unc, Device, Disk, Lead, VerbatimLead, DeviceLead, DoubleLead, DriveLead, NoLead, upper, lead_of, IsUnc, IsPrefixBy, IsPrefixOf, IsPrefixed, IsRawPrefix, WithPrefix, HasKind, EitherWay}
use Rattle.path_rules.specs.Root.{BeginsWithSeparator, HasRoot, IsAbsolute, HasRootAfter}
use Rattle.path_rules.specs.Parsed.{IsFound, FoundWith, KindFound, SomeFound, FoundOr, RootFound, AbsoluteFound, rules_found, IsStartFound}
use Rattle.path_rules.specs.declared.rules.Rules.{Rules}
use Rattle.path_rules.specs.declared.head.Start.{Start}
use Rattle.path_rules.specs.declared.head.Head.{Head}
use Rattle.path_rules.specs.Component.{Prefix, components_in}
use Rattle.path_rules.specs.Heads.{prefix_items, start_items}
use Rattle.path_rules.specs.HeadParts.{IsHead, bare_head, prefixed_head}
use Rattle.path_rules.specs.StyleRules.{rules_of_style, rules_of_path}
use Rattle.path_rules.specs.Components.{AreComponents, AreWindowsComponents, IsStartOf, plain_components, after_start, root_of, after_root, prefixed, bare}
use Rattle.path_rules.proofs.lemmas.AfterPrefix.{after_prefix, shorter, prefix_joined, some_before}
use Rattle.path_rules.proofs.lemmas.OwnRules.{bare_rules, prefixed_rules}
use Rattle.path_rules.proofs.lemmas.Fields.{no_separator, nothing_named}
use Rattle.path_rules.proofs.lemmas.OneList.{one_prefix}
use Rattle.path_rules.proofs.lemmas.Totals.{some_field, verbatim_some}

-- a prefix of this shape, or none
Told : (Kind → List ℕ → Type 0) → Type 0
Told P = ((kind : Kind) × ((rest : List ℕ) × P kind rest)) ⊎ ((kind : Kind) (rest : List ℕ) → ¬ (P kind rest))

unc_told : (s : List ℕ) → Told (IsUnc s)
unfolding Told
unc_told s = by_server (some_field rules.Either s)
  where
    by_share : (server : List ℕ) (c : ℕ) (more : List ℕ) → IsField rules.Either s server (c ∷ more) → (share : List ℕ) × ((rest : List ℕ) × IsField rules.Either more share rest) → Told (IsUnc s)
    by_share [] c more f g = inr (nothing_named s [] g.0 more g.1.0 c f g.1.1 (inl refl))
    by_share (a ∷ server) c more f ([], g) = inr (nothing_named s (a ∷ server) [] more g.0 c f g.1 (inr refl))
    by_share (a ∷ server) c more f (b ∷ share, g) =
        inl (Unc (a ∷ server) (b ∷ share), (g.0, record { server = a ∷ server; separator = c; more = more; share = b ∷ share; is = refl; first = f; second = g.1; some_server = λ e. cc; some_share = λ e. cc }))

    by_server : (server : List ℕ) × ((after : List ℕ) × IsField rules.Either s server after) → Told (IsUnc s)
    by_server (server, ([], f)) = inr (no_separator s server f)
    by_server (server, (c ∷ more, f)) = by_share server c more f (some_field rules.Either more)

told : (l : Lead) → Told (IsPrefixBy l)
unfolding Told
told (VerbatimLead s) = inl (verbatim_some s)
told (DeviceLead s) = let f = some_field rules.Either s in inl (Device f.0, (f.1.0, record { name = f.0; is = refl; field = f.1.1 }))
told (DoubleLead s) = unc_told s
told (DriveLead letter s) = inl (Disk (upper letter), (s, (refl, refl)))
told NoLead = inr (λ kind rest h. h)

-- a path has what is found in it
Parsing : List ℕ → Type 0
Parsing path = (found : Option Kind) × ((rest : List ℕ) × IsFound style.Windows path found rest)

parsing : (path : List ℕ) → Parsing path
unfolding Told Parsing
parsing path = elim (told (lead_of path)) [ inl h ↦ (Some h.0, (h.1.0, h.1.1)) | inr n ↦ (None, (path, (n, refl))) ]

lists : IsSet (List ℕ)
lists = is_set (hedberg ℕ_discrete)

kinds : IsSet Kind
kinds = hlevel (props, lists, hedberg ℕ_discrete)

-- and nothing else
one_parsing : (path : List ℕ) (f g : Option Kind) (t u : List ℕ) → IsFound style.Windows path f t → IsFound style.Windows path g u → (f ≡ g) × (t ≡ u)
one_parsing path None None t u a b = (refl, a.1 ∙ sym b.1)
one_parsing path None (Some l) t u a b = absurd (a.0 l u b)
one_parsing path (Some k) None t u a b = absurd (b.0 k t a)
one_parsing path (Some k) (Some l) t u a b = let same = one_prefix path k l t u a b in (ap Some same.0, same.1)

-- so the fact can be had from its truncation
pub is_found : (w : Style) (path : List ℕ) (found : Option Kind) (rest : List ℕ) → ∥ IsFound w path found rest ∥₁ → IsFound w path found rest
unfolding Parsing
is_found style.Unix path None rest m = ∥∥₁_elim m (lists rest path) (λ h. h)
is_found style.Unix path (Some kind) rest m = ∥∥₁_elim m (Prim.hlevel props) (λ h. h)
is_found style.Windows path found rest m =
    let p = parsing path in
    let same : (p.0 ≡ found) × (p.1.0 ≡ rest) = ∥∥₁_elim m (Prim.hlevel (props, kinds, lists)) (one_parsing path p.0 found p.1.0 rest p.1.1) in
    subst (IsFound style.Windows path found) same.1 (subst (λ x. IsFound style.Windows path x p.1.0) same.0 p.1.1)

-- a test of the prefix is a test of what was found
pub with_found : (w : Style) (path : List ℕ) (found : Option Kind) (rest : List ℕ) (P : Kind → List ℕ → Type 0) → ∥ IsFound w path found rest ∥₁ → FoundWith P found rest ↔ WithPrefix w path P
with_found w path found rest P m = by w found (is_found w path found rest m)
  where
    by : (v : Style) (f : Option Kind) → IsFound v path f rest → FoundWith P f rest ↔ WithPrefix v path P
    by style.Unix None h = (λ t. t, λ t. t)
    by style.Unix (Some kind) h = absurd h
    by style.Windows None h = (λ t. absurd t, λ k. absurd (h.0 k.0 k.1.0 k.1.1.0))
    by style.Windows (Some kind) h = (
      λ t. (kind, (rest, (h, t))),
      λ k. let same = one_prefix path k.0 kind k.1.0 rest k.1.1.0 h in subst (P kind) same.1 (subst (λ x. P x k.1.0) same.0 k.1.1.1),
    )

pub has_kind : (w : Style) (path : List ℕ) (found : Option Kind) (rest : List ℕ) (P : Kind → Type 0) → ∥ IsFound w path found rest ∥₁ → KindFound P found ↔ HasKind w path P
has_kind w path None rest P m = with_found w path None rest (λ kind more. P kind) m
has_kind w path (Some kind) rest P m = with_found w path (Some kind) rest (λ kind more. P kind) m

pub is_prefixed : (w : Style) (path : List ℕ) (found : Option Kind) (rest : List ℕ) → ∥ IsFound w path found rest ∥₁ → SomeFound found ↔ IsPrefixed w path
is_prefixed w path found rest m = by w found (is_found w path found rest m)
  where
    by : (v : Style) (f : Option Kind) → IsFound v path f rest → SomeFound f ↔ IsPrefixed v path
    by style.Unix None h = (λ t. t, λ t. t)
    by style.Unix (Some kind) h = absurd h
    by style.Windows None h = (λ t. absurd t, λ k. absurd (h.0 k.0 k.1.0 k.1.1))
    by style.Windows (Some kind) h = (λ t. (kind, (rest, h)), λ k. tt)

pub either_found : (w : Style) (path : List ℕ) (found : Option Kind) (rest : List ℕ) (Q : List ℕ → Type 0) (P : Kind → List ℕ → Type 0) → ∥ IsFound w path found rest ∥₁ → FoundOr Q P found rest ↔ EitherWay w path Q P
either_found w path found rest Q P m = by w found (is_found w path found rest m)
  where
    by : (v : Style) (f : Option Kind) → IsFound v path f rest → FoundOr Q P f rest ↔ EitherWay v path Q P
    by style.Unix None h = (subst Q h, subst Q (sym h))
    by style.Unix (Some kind) h = absurd h
    by style.Windows None h = (λ q. inr (h.0, subst Q h.1 q), elim [ inl k ↦ absurd (h.0 k.0 k.1.0 k.1.1.0) | inr n ↦ subst Q (sym h.1) n.1 ])
    by style.Windows (Some kind) h = (
      λ t. inl (kind, (rest, (h, t))),
      elim [
        | inl k ↦ let same = one_prefix path k.0 kind k.1.0 rest k.1.1.0 h in subst (P kind) same.1 (subst (λ x. P x k.1.0) same.0 k.1.1.1)
        | inr n ↦ absurd (n.0 kind rest h)
      ],
    )

pub is_absolute : (w : Style) (path : List ℕ) (found : Option Kind) (rest : List ℕ) → ∥ IsFound w path found rest ∥₁ → AbsoluteFound w found rest ↔ IsAbsolute w path
is_absolute style.Unix path None rest m = either_found style.Unix path None rest (BeginsWithSeparator rules.Slash) HasRootAfter m
is_absolute style.Unix path (Some kind) rest m = absurd (is_found style.Unix path (Some kind) rest m)
is_absolute style.Windows path None rest m = with_found style.Windows path None rest HasRootAfter m
is_absolute style.Windows path (Some kind) rest m = with_found style.Windows path (Some kind) rest HasRootAfter m

pub root_found : (w : Style) (path : List ℕ) (found : Option Kind) (rest : List ℕ) → ∥ IsFound w path found rest ∥₁ → RootFound w found rest ↔ HasRoot w path
root_found w path None rest m = either_found w path None rest (BeginsWithSeparator (rules_of_style w)) HasRootAfter m
root_found w path (Some kind) rest m = either_found w path (Some kind) rest (BeginsWithSeparator (rules_of_style w)) HasRootAfter m

-- what was found is at the end of the path
pub rest_inside : (w : Style) (path : List ℕ) (found : Option Kind) (rest : List ℕ) → ∥ IsFound w path found rest ∥₁ → length rest ≤ length path
rest_inside w path found rest m = by w found (is_found w path found rest m)
  where
    by : (v : Style) (f : Option Kind) → IsFound v path f rest → length rest ≤ length path
    by style.Unix None h = omega (arith, ap length h)
    by style.Unix (Some kind) h = absurd h
    by style.Windows None h = omega (arith, ap length h.1)
    by style.Windows (Some kind) h = shorter path rest (after_prefix path kind rest h)

pub raw_joined : (w : Style) (path : List ℕ) (found : Option Kind) (rest : List ℕ) → ∥ IsFound w path found rest ∥₁ → path ≡ take (length path - length rest) path ++ rest
raw_joined w path found rest m = by w found (is_found w path found rest m)
  where
    whole : rest ≡ path → path ≡ take (length path - length rest) path ++ rest
    whole e = let none : length path - length rest ≡ 0 = omega (arith, ap length e) in rw none (sym e)

    by : (v : Style) (f : Option Kind) → IsFound v path f rest → path ≡ take (length path - length rest) path ++ rest
    by style.Unix None h = whole h
    by style.Unix (Some kind) h = absurd h
    by style.Windows None h = whole h.1
    by style.Windows (Some kind) h = prefix_joined path rest (after_prefix path kind rest h)

nothing_before : (raw rest path : List ℕ) → path ≡ raw ++ rest → rest ≡ path → raw ≡ []
nothing_before raw rest path j e = nil_from_length raw (omega (arith, length-append raw rest, ap length j, ap length e))

pub raw_found : (w : Style) (path : List ℕ) (found : Option Kind) (rest raw : List ℕ) → ∥ IsFound w path found rest ∥₁ → path ≡ raw ++ rest → IsRawPrefix w path raw
raw_found w path found rest raw m j = by w found (is_found w path found rest m)
  where
    by : (v : Style) (f : Option Kind) → IsFound v path f rest → IsRawPrefix v path raw
    by style.Unix None h = nothing_before raw rest path j h
    by style.Unix (Some kind) h = absurd h
    by style.Windows None h = inr (h.0, nothing_before raw rest path j h.1)
    by style.Windows (Some kind) h = inl (kind, (rest, (h, j)))

-- the parts of a path that was parsed
pub parsed_head : (w : Style) (path : List ℕ) (found : Option Kind) (rest : List ℕ) (head : Head) → ∥ IsFound w path found rest ∥₁ → path ≡ head.prefix.now ++ rest → head.rules ≡ rules_found w found → IsStartFound w found rest head.start head.body.now → IsHead w path head
parsed_head w path found rest head m j r s = by w found (is_found w path found rest m) r s
  where
    bare : (q : Rules) → rest ≡ path → IsStartOf q rest head.start head.body.now → IsStartOf q path head.start head.body.now
    bare q e t = subst (λ x. IsStartOf q x head.start head.body.now) e t

    by : (v : Style) (f : Option Kind) → IsFound v path f rest → head.rules ≡ rules_found v f → IsStartFound v f rest head.start head.body.now → IsHead v path head
    by style.Unix None h r s = record { rules = r; prefix = nothing_before head.prefix.now rest path j h; start = bare rules.Slash h s }
    by style.Unix (Some kind) h r s = absurd h
    by style.Windows None h r s = bare_head (record { none = h.0; rules = r; prefix = nothing_before head.prefix.now rest path j h.1; start = bare rules.Either h.1 s })
    by style.Windows (Some kind) h r s = prefixed_head (record { kind = kind; rest = rest; is = h; joined = j; rules = r; start = s.0; body = s.1 })

-- and its components
plain_are : (q r : Rules) (s raw : List ℕ) (start : Start) (body : List ℕ) → raw ≡ [] → q ≡ r → IsStartOf r s start body → prefix_items raw ++ (start_items start ++ components_in q body) ≡ plain_components r s
plain_are q r s raw start body e f h =
    ap (λ x. prefix_items x ++ (start_items start ++ components_in q body)) e
    ∙ ap (λ x. start_items start ++ components_in x body) f
    ∙ ap (λ x. start_items start ++ components_in r x) h.1
    ∙ ap (λ x. start_items x ++ components_in r (after_start x s)) h.0

some_items : (raw : List ℕ) → raw ≢ [] → prefix_items raw ≡ Prefix raw ∷ []
some_items [] n = absurd (n refl)
some_items (b ∷ raw) n = refl

prefixed_are : (path raw rest body : List ℕ) (kind : Kind) (q : Rules) (start : Start) → IsPrefixOf path kind rest → path ≡ raw ++ rest → q ≡ rules_of kind → start ≡ root_of kind rest → body ≡ after_root rest → AreWindowsComponents path (prefix_items raw ++ (start_items start ++ components_in q body))
prefixed_are path raw rest body kind q start h j r s b = prefixed (record {
  kind = kind;
  raw = raw;
  rest = rest;
  joined = j;
  prefix = h;
  are =
      ap (λ x. x ++ (start_items start ++ components_in q body)) (some_items raw (some_before path raw kind rest h j))
      ∙ ap (λ x. Prefix raw ∷ (start_items x ++ components_in q body)) s
      ∙ ap (λ x. Prefix raw ∷ (start_items (root_of kind rest) ++ components_in x body)) r
      ∙ ap (λ x. Prefix raw ∷ (start_items (root_of kind rest) ++ components_in (rules_of kind) x)) b;
})

pub parsed_items : (w : Style) (path : List ℕ) (found : Option Kind) (rest raw : List ℕ) (q : Rules) (start : Start) (body : List ℕ) → ∥ IsFound w path found rest ∥₁ → path ≡ raw ++ rest → q ≡ rules_found w found → IsStartFound w found rest start body → AreComponents w path (prefix_items raw ++ (start_items start ++ components_in q body))
parsed_items w path found rest raw q start body m j r s = by w found (is_found w path found rest m) r s
  where
    plain : (u : Rules) → rest ≡ path → q ≡ u → IsStartOf u rest start body → prefix_items raw ++ (start_items start ++ components_in q body) ≡ plain_components u path
    plain u e f t = plain_are q u path raw start body (nothing_before raw rest path j e) f (subst (λ x. IsStartOf u x start body) e t)

    by : (v : Style) (f : Option Kind) → IsFound v path f rest → q ≡ rules_found v f → IsStartFound v f rest start body → AreComponents v path (prefix_items raw ++ (start_items start ++ components_in q body))
    by style.Unix None h r s = plain rules.Slash h r s
    by style.Unix (Some kind) h r s = absurd h
    by style.Windows None h r s = bare (record { none = h.0; are = plain rules.Either h.1 r s })
    by style.Windows (Some kind) h r s = prefixed_are path raw rest body kind q start h j r s.0 s.1

-- a path follows these rules
pub rules_are : (w : Style) (path : List ℕ) (found : Option Kind) (rest : List ℕ) → ∥ IsFound w path found rest ∥₁ → rules_found w found ≡ rules_of_path w path
rules_are w path found rest m = by w found (is_found w path found rest m)
  where
    by : (v : Style) (f : Option Kind) → IsFound v path f rest → rules_found v f ≡ rules_of_path v path
    by style.Unix None h = refl
    by style.Unix (Some kind) h = absurd h
    by style.Windows None h = sym (bare_rules path h.0)
    by style.Windows (Some kind) h = prefixed_rules path kind rest h
