-- Strings of a platform joined beside an ASCII byte, and paths joined, are strings of the platform.
use Rattle.std.proofs.Common.{◌≡◌, ◌≢◌, ◌⊎◌, Result, Ok, Err, IfOk, OnOk, OnErr, take, drop, inl, inr, ◌<◌, ℕ, suc, zero, get_or, Bool, List, [], ◌∷◌, ◌++◌, length, refl, sym, ap, ◌∙◌, subst, arith, append_assoc, append-nil, lit<}
use Rattle.std.proofs.lemmas.List.{append_cancel_left, take_at}
use Rattle.std.specs.Str.{IsUtf8}
use Rattle.std.proofs.lemmas.Str.{IsUtf8-from_ascii}
use Rattle.wtf8_core.specs.OccurrenceLaws.{OccurrenceLaws}
use Rattle.path_rules.specs.declared.rules.Rules.{Rules}
use Rattle.path_rules.specs.declared.rules.Style as whose
use Rattle.path_rules.specs.declared.rules.Style.TheVariants as style
use Rattle.path_rules.specs.StyleRules.{rules_of_style, main_separator}
use Rattle.path_rules.specs.Component.{Item, Prefix, RootDir, CurDir, ParentDir, Normal}
use Rattle.path_rules.specs.Components.{prefixed}
use Rattle.path_rules.specs.Root.{BeginsWithSeparator}
use Rattle.path_rules.specs.Prefix.{IsPrefixOf, IsRawPrefix}
use Rattle.path_building.specs.Join.{NeedsNoSeparator, IsJoin, replacing, resolving, at_root, after}
use Rattle.path_building.specs.Resolved as resolved
use Rattle.path_building.specs.Resolved.{ResolvesTo, below_root}
use Rattle.path_building.specs.Written.{spelling, more_names, joined_names, written}
use Rattle.path_rules.specs.Parent.{IsParent}
use Rattle.path_rules.specs.Name.{IsStem}
use Rattle.path_building.specs.FileName.{IsNamed, IsFileNameAt, IsExtensionSet, IsExtensionAdded, dotted}
use Rattle.wtf8_core.specs.Boundary.{IsBoundary}
use Rattle.path_rules.proofs.lemmas.Ascii.{ascii_separators}
use Rattle.path_rules.proofs.lemmas.Edges.{drive_bytes}
use Rattle.os_path.specs.Formed.{IsFormed, AreFormed}
use Rattle.os_path.proofs.lemmas.Parts.{IsCutAtAscii}
use Rattle.os_path.proofs.lemmas.Cuts.{before_formed}
use Rattle.os_path.proofs.lemmas.NormalParts.{reversed, from_reversed}
use Rattle.os_path.proofs.lemmas.Whole.{all_formed}

-- an ASCII byte is a text, and so is none
pub one_text : (c : ℕ) → c < 0x80 → IsUtf8 (c ∷ [])
one_text c low = IsUtf8-from_ascii (c ∷ []) each
  where
    each : (i : ℕ) → get_or (c ∷ []) i 0 < 128
    each zero = low
    each (suc i) = lit< tt

no_text : IsUtf8 []
no_text = IsUtf8-from_ascii [] (λ i. lit< tt)

pub dots_text : IsUtf8 (0x2E ∷ 0x2E ∷ [])
dots_text = IsUtf8-from_ascii (0x2E ∷ 0x2E ∷ []) each
  where
    each : (i : ℕ) → get_or (0x2E ∷ 0x2E ∷ []) i 0 < 128
    each zero = lit< tt
    each (suc zero) = lit< tt
    each (suc (suc i)) = lit< tt

module _ (formed : List ℕ → Type 0) (units : List ℕ → List ℕ) (laws : OccurrenceLaws formed units) where
  -- a string with the units of two and of an ASCII byte between them is the bytes of these
  joined_is : (a b w : List ℕ) (c : ℕ) → IsUtf8 (c ∷ []) → formed a → formed b → formed w → units w ≡ (units a ++ units (c ∷ [])) ++ units b → w ≡ a ++ c ∷ b
  joined_is a b w c text fa fb fw e =
      let p : List ℕ = c ∷ [] in
      let cut = laws.units_occur p w (units a) (units b) text (omega arith) fw (e ∙ append_assoc (units a) (units p) (units b)) in
      let first : cut.prefix ≡ a = laws.once cut.prefix a cut.formed fa cut.units_are in
      let whole : formed (cut.prefix ++ (p ++ cut.suffix)) = subst formed cut.joined fw in
      let later = laws.prefixes cut.prefix (p ++ cut.suffix) cut.formed whole in
      let behind = laws.prefixes p cut.suffix (laws.texts p text) later.0 in
      let us : units a ++ (units p ++ units b) ≡ units a ++ (units p ++ units cut.suffix) =
      sym (append_assoc (units a) (units p) (units b)) ∙ sym e ∙ ap units cut.joined ∙ later.1 ∙ ap (λ x. x ++ units (p ++ cut.suffix)) cut.units_are ∙ ap (λ x. units a ++ x) behind.1 in
      let same : units b ≡ units cut.suffix = append_cancel_left (units p) (units b) (units cut.suffix) (append_cancel_left (units a) (units p ++ units b) (units p ++ units cut.suffix) us) in
      let last : cut.suffix ≡ b = laws.once cut.suffix b behind.0 fb (sym same) in
      cut.joined ∙ ap (λ x. x ++ (p ++ cut.suffix)) first ∙ ap (λ x. a ++ c ∷ x) last

  pub around : (a b : List ℕ) (c : ℕ) → c < 0x80 → formed a → formed b → formed (a ++ c ∷ b)
  around a b c low fa fb =
      let text = one_text c low in
      let one = laws.some_join a (c ∷ []) fa (laws.texts (c ∷ []) text) in
      let two = laws.some_join one.0 b one.1.0 fb in
      subst formed (joined_is a b two.0 c text fa fb two.1.0 (two.1.1 ∙ ap (λ x. x ++ units b) one.1.1)) two.1.0

  pub nothing_formed : formed []
  nothing_formed = laws.texts [] no_text

  -- after a string that ends in an ASCII byte, and before one that begins with one
  pub after_last : (base x path : List ℕ) (c : ℕ) → c < 0x80 → base ≡ x ++ c ∷ [] → formed base → formed path → formed (base ++ path)
  after_last base x path c low e fb fp =
      let start : formed x = laws.before_text (c ∷ []) x [] (one_text c low) (omega arith) (subst formed e fb) in
      subst formed (sym (ap (λ y. y ++ path) e ∙ append_assoc x (c ∷ []) path)) (around x path c low start fp)

  pub before_first : (kept path u : List ℕ) (c : ℕ) → c < 0x80 → path ≡ c ∷ u → formed kept → formed path → formed (kept ++ path)
  before_first kept path u c low e fk fp =
      let rest : formed u = (laws.prefixes (c ∷ []) u (laws.texts (c ∷ []) (one_text c low)) (subst formed e fp)).0 in
      subst (λ y. formed (kept ++ y)) (sym e) (around kept u c low fk rest)

  -- names with an ASCII byte between them
  spelled_formed : (x : Item) → IsFormed formed x → formed (spelling x)
  spelled_formed (Prefix s) f = nothing_formed
  spelled_formed RootDir f = nothing_formed
  spelled_formed CurDir f = laws.texts (0x2E ∷ []) (one_text 0x2E (lit< tt))
  spelled_formed ParentDir f = laws.texts (0x2E ∷ 0x2E ∷ []) dots_text
  spelled_formed (Normal s) f = f

  more_formed : (c : ℕ) → c < 0x80 → (s : List ℕ) (xs : List Item) → formed s → AreFormed formed xs → formed (s ++ more_names c xs)
  more_formed c low s [] fs f = subst formed (sym (append-nil s)) fs
  more_formed c low s (x ∷ xs) fs f = around s (spelling x ++ more_names c xs) c low fs (more_formed c low (spelling x) xs (spelled_formed x f.0) f.1)

  pub names_formed : (c : ℕ) → c < 0x80 → (xs : List Item) → AreFormed formed xs → formed (joined_names c xs)
  names_formed c low [] f = nothing_formed
  names_formed c low (x ∷ xs) f = more_formed c low (spelling x) xs (spelled_formed x f.0) f.1

  -- components resolved, and written
  resolved_formed : {base xs ys : List Item} → ResolvesTo base xs ys → AreFormed formed base → AreFormed formed xs → AreFormed formed ys
  resolved_formed {base} resolved.nothing b f = reversed formed base b
  resolved_formed (resolved.root e) b f = (tt, ((subst (AreFormed formed) e b).0, tt))
  resolved_formed (resolved.here h) b f = resolved_formed h b f.1
  resolved_formed (resolved.name h) b f = (f.0, resolved_formed h b f.1)
  resolved_formed (resolved.up h) b f = (resolved_formed h b f.1).1
  resolved_formed (resolved.stays h n) b f = resolved_formed h b f.1

  below_formed : (xs : List Item) → AreFormed formed xs → formed (written 0x5C (below_root xs))
  below_formed [] f = nothing_formed
  below_formed (Prefix s ∷ []) f = subst formed (sym (append-nil s)) f.0
  below_formed (Prefix s ∷ Prefix t ∷ xs) f = more_formed 0x5C (lit< tt) s xs f.0 f.1.1
  below_formed (Prefix s ∷ RootDir ∷ xs) f = around s (joined_names 0x5C xs) 0x5C (lit< tt) f.0 (names_formed 0x5C (lit< tt) xs f.1.1)
  below_formed (Prefix s ∷ CurDir ∷ xs) f = around s (more_names 0x5C xs) 0x2E (lit< tt) f.0 (more_formed 0x5C (lit< tt) [] xs nothing_formed f.1.1)
  below_formed (Prefix s ∷ ParentDir ∷ xs) f =
      around s (0x2E ∷ more_names 0x5C xs) 0x2E (lit< tt) f.0 (around [] (more_names 0x5C xs) 0x2E (lit< tt) nothing_formed (more_formed 0x5C (lit< tt) [] xs nothing_formed f.1.1))
  below_formed (Prefix s ∷ Normal t ∷ xs) f = around s (joined_names 0x5C (Normal t ∷ xs)) 0x5C (lit< tt) f.0 (names_formed 0x5C (lit< tt) (Normal t ∷ xs) f.1)
  below_formed (RootDir ∷ xs) f = around [] (joined_names 0x5C xs) 0x5C (lit< tt) nothing_formed (names_formed 0x5C (lit< tt) xs f.1)
  below_formed (CurDir ∷ xs) f = names_formed 0x5C (lit< tt) (CurDir ∷ xs) f
  below_formed (ParentDir ∷ xs) f = names_formed 0x5C (lit< tt) (ParentDir ∷ xs) f
  below_formed (Normal s ∷ xs) f = names_formed 0x5C (lit< tt) (Normal s ∷ xs) f

  module _ (cut : IsCutAtAscii formed) where
    -- what a path keeps of its prefix
    raw_formed : (w : whose.Style) (base raw : List ℕ) → IsRawPrefix w base raw → formed base → formed raw
    raw_formed style.Unix base raw e f = subst formed (sym e) nothing_formed
    raw_formed style.Windows base raw (inr h) f = subst formed (sym h.1) nothing_formed
    raw_formed style.Windows base raw (inl h) f =
        (all_formed formed cut style.Windows base _ (prefixed (record { kind = h.0; raw = raw; rest = h.1.0; joined = h.1.1.1; prefix = h.1.1.0; are = refl })) f).0

    root_joined : (r : Rules) (kept path : List ℕ) → BeginsWithSeparator r path → formed kept → formed path → formed (kept ++ path)
    root_joined r kept [] h fk fp = absurd h
    root_joined r kept (c ∷ u) h fk fp = before_first kept (c ∷ u) u c (ascii_separators r c h) refl fk fp

    beside_formed : (w : whose.Style) (base path : List ℕ) → NeedsNoSeparator w base → formed base → formed path → formed (base ++ path)
    beside_formed w base path (inl e) fb fp = subst (λ x. formed (x ++ path)) (sym e) fp
    beside_formed w base path (inr (inl h)) fb fp = after_last base h.before path h.last (ascii_separators (rules_of_style w) h.last h.is) h.joined fb fp
    beside_formed style.Unix base path (inr (inr h)) fb fp = absurd h
    beside_formed style.Windows base path (inr (inr h)) fb fp =
        let alone = h.1.1.1 in
        let is = subst (λ k. IsPrefixOf base k []) alone.1.1 (subst (IsPrefixOf base h.0) alone.0 h.1.1.0) in
        let d = drive_bytes base alone.1.0 [] is in after_last base (d.0 ∷ []) path 0x3A (lit< tt) d.1 fb fp

    ascii_main : (w : whose.Style) → main_separator w < 0x80
    ascii_main style.Unix = lit< tt
    ascii_main style.Windows = lit< tt

    -- a path after another
    pub join_formed : (w : whose.Style) (base path joined : List ℕ) → IsJoin w base path joined → formed base → formed path → formed joined
    join_formed w base path joined (replacing p e) fb fp = subst formed (sym e) fp
    join_formed w base path joined (resolving p v s r) fb fp =
        let h = r.resolved in
        let base_formed = all_formed formed cut style.Windows base h.base_items h.base_are fb in
        let items_formed = reversed formed h.items (all_formed formed cut style.Windows path h.items h.are fp) in
        subst formed (sym r.is) (below_formed r.left (from_reversed formed r.left (resolved_formed h.form base_formed items_formed)))
    join_formed w base path joined (at_root p v i) fb fp = subst formed (sym i.is) (root_joined (rules_of_style w) i.raw path i.root (raw_formed w base i.raw i.prefix fb) fp)
    join_formed w base path joined (after p v i) fb fp = subst formed (sym i.is) (cases i.written)
      where
        cases : (NeedsNoSeparator w base × (i.between ≡ [])) ⊎ ((¬ (NeedsNoSeparator w base)) × (i.between ≡ main_separator w ∷ [])) → formed (base ++ (i.between ++ path))
        cases (inl (n, e)) = subst (λ x. formed (base ++ (x ++ path))) (sym e) (beside_formed w base path n fb fp)
        cases (inr (n, e)) = subst (λ x. formed (base ++ (x ++ path))) (sym e) (around base path (main_separator w) (ascii_main w) fb fp)

    module _ (cut_prefix : (b : List ℕ) (i : ℕ) → formed b → IsBoundary b i → formed (take i b)) (cut_suffix : (b : List ℕ) (i : ℕ) → formed b → IsBoundary b i → formed (drop i b)) where
      pub named_formed : (w : whose.Style) (path name named : List ℕ) → IsNamed w path name named → formed path → formed name → formed named
      named_formed w path name named (base, (inl b, i)) fp fn = join_formed w base name named i (before_formed formed cut_prefix cut_suffix path base b.1.after b.1.joined b.1.cut fp) fn
      named_formed w path name named (base, (inr b, i)) fp fn = join_formed w base name named i (subst formed (sym b.1) fp) fn

      pub parent_formed : (w : whose.Style) (path parent : List ℕ) → IsParent w path parent → formed path → formed (take (length parent) path)
      parent_formed w path parent h fp =
          subst formed (sym (ap (take (length parent)) h.joined ∙ take_at parent h.after (length parent) refl)) (before_formed formed cut_prefix cut_suffix path parent h.after h.joined h.cut fp)

      -- a dot and an extension after a string
      dotted_formed : (s extension : List ℕ) → formed s → formed extension → formed (s ++ dotted extension)
      dotted_formed s [] fs fe = subst formed (sym (append-nil s)) fs
      dotted_formed s (b ∷ e) fs fe = around s (b ∷ e) 0x2E (lit< tt) fs fe

      name_formed : (w : whose.Style) (path before name rest : List ℕ) → IsFileNameAt w path before name rest → formed path → formed (before ++ name)
      name_formed w path before name rest h fp =
          before_formed formed cut_prefix cut_suffix path (before ++ name) rest (h.joined ∙ sym (append_assoc before name rest)) h.cut fp

      stem_formed : (before name stem : List ℕ) → IsStem name stem → formed (before ++ name) → formed (before ++ stem)
      stem_formed before name stem (inr h) f = subst (λ x. formed (before ++ x)) (sym h.1) f
      stem_formed before name stem (inl h) f =
          (cut (before ++ stem) h.0 0x2E (lit< tt) (subst formed (ap (λ x. before ++ x) h.1.joined ∙ sym (append_assoc before stem (0x2E ∷ h.0))) f)).before

      pub set_formed : (w : whose.Style) (path extension made : List ℕ) (is_set : Bool) → IsExtensionSet w path extension made is_set → formed path → formed extension → formed made
      set_formed w path extension made is_set (inr h) fp fe = subst formed (sym h.1.1) fp
      set_formed w path extension made is_set (inl (t, h)) fp fe =
          subst formed (sym (h.is ∙ sym (append_assoc h.before h.stem (dotted extension))))
          (dotted_formed (h.before ++ h.stem) extension (stem_formed h.before h.name h.stem h.stem_is (name_formed w path h.before h.name h.after h.at fp)) fe)

      pub added_formed : (w : whose.Style) (path extension made : List ℕ) (is_added : Bool) → IsExtensionAdded w path extension made is_added → formed path → formed extension → formed made
      added_formed w path extension made is_added (inr h) fp fe = subst formed (sym h.1.1) fp
      added_formed w path extension made is_added (inl (t, h)) fp fe = cases h.is
        where
          cases : ((extension ≡ []) × (made ≡ path)) ⊎ ((extension ≢ []) × (made ≡ h.before ++ (h.name ++ dotted extension))) → formed made
          cases (inl e) = subst formed (sym e.1) fp
          cases (inr e) =
              subst formed (sym (e.1 ∙ sym (append_assoc h.before h.name (dotted extension))))
              (dotted_formed (h.before ++ h.name) extension (name_formed w path h.before h.name h.after h.at fp) fe)

-- what a call leaves is formed in both outcomes
module _ (formed : List ℕ → Type 0) {X E : Type 0} (P : X → Type 0) (old new : List ℕ) where
  pub on_either : (r : Result X E) → ((x : X) → P x → formed new) → IfOk r P → OnErr r (new ≡ old) → formed old → formed new
  on_either (Ok x) give h k f = give x h
  on_either (Err e) give h k f = subst formed (sym k) f

-- a path with another last name, by equal parts
pub named_same : (v w : whose.Style) (p q a b r s : List ℕ) → v ≡ w → p ≡ q → a ≡ b → r ≡ s → IsNamed v p a r → IsNamed w q b s
named_same v w p q a b r s e f g h n = subst (λ x. IsNamed x q b s) e (subst (λ x. IsNamed v x b s) f (subst (λ x. IsNamed v p x s) g (subst (IsNamed v p a) h n)))

module _ {X E : Type 0} (P Q : Type 0) (give : P → Q) where
  pub on_ok : (r : Result X E) → OnOk r P → OnOk r Q
  on_ok (Ok x) h = give h
  on_ok (Err e) h = h
