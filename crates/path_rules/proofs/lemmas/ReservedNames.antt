-- The base of a name, which there is once, without the spaces at its end.
use Rattle.std.proofs.Common.{◌≡◌, ◌≢◌, ◌↔◌, ℕ, nat_eq, true, List, [], ◌∷◌, ◌++◌, refl, sym, ap, ◌∙◌, subst, arith, ◌≤◌, ◌<◌, ◌+◌, ◌-◌, length, take, drop, get_or, take-append-drop, length-drop, length-append}
use Rattle.std.specs.List.{All}
use Rattle.std.proofs.lemmas.List.{get_or-take, get_or-drop, get_or_at, length-take-le}
use Rattle.std.proofs.lemmas.List.Elements.{All-head, All-tail, All-cons, All-from_get_or}
use Rattle.path_rules.specs.Reserved.{is_device, IsTightBase, IsBase, HasDeviceBase}
use Rattle.path_rules.proofs.lemmas.Fields.{one_field_by}

-- spaces after which nothing comes end in a space
last_space : (s : List ℕ) (b : ℕ) → All (λ c. c ≡ 0x20) (b ∷ s) → (before : List ℕ) × (b ∷ s ≡ before ++ 0x20 ∷ [])
last_space [] b h = ([], ap (λ x. x ∷ []) (All-head (λ c. c ≡ 0x20) b [] h))
last_space (c ∷ s) b h = let q = last_space s c (All-tail (λ c. c ≡ 0x20) b (c ∷ s) h) in (b ∷ q.0, ap (λ x. b ∷ x) q.1)

blank_before : (b t : List ℕ) → All (λ c. c ≡ 0x20) (b ++ t) → All (λ c. c ≡ 0x20) b
blank_before [] t h = λ k d l. absurd (omega arith)
blank_before (c ∷ b) t h = All-cons (λ c. c ≡ 0x20) c b (All-head (λ c. c ≡ 0x20) c (b ++ t) h) (blank_before b t (All-tail (λ c. c ≡ 0x20) c (b ++ t) h))

-- one base is no longer than the other
same_base : (a b s t : List ℕ) → a ++ s ≡ b ++ t → All (λ c. c ≡ 0x20) s → All (λ c. c ≡ 0x20) t → ((before : List ℕ) → a ≢ before ++ 0x20 ∷ []) → ((before : List ℕ) → b ≢ before ++ 0x20 ∷ []) → a ≡ b
same_base [] [] s t e p q h k = refl
same_base [] (c ∷ b) s t e p q h k = absurd (ends_blank c b t (subst (All (λ c. c ≡ 0x20)) e p) k)
  where
    ends_blank : (c : ℕ) (b t : List ℕ) → All (λ c. c ≡ 0x20) ((c ∷ b) ++ t) → ((before : List ℕ) → c ∷ b ≢ before ++ 0x20 ∷ []) → ⊥
    ends_blank c b t h k = let q = last_space b c (blank_before (c ∷ b) t h) in k q.0 q.1
same_base (c ∷ a) [] s t e p q h k = absurd (let r = last_space a c (blank_before (c ∷ a) s (subst (All (λ c. c ≡ 0x20)) (sym e) q)) in h r.0 r.1)
same_base (c ∷ a) (d ∷ b) s t e p q h k =
    let first : c ≡ d = cc in
    let later : a ++ s ≡ b ++ t = cc in
    let rest : a ≡ b = same_base a b s t later p q (λ before f. h (c ∷ before) (ap (λ x. c ∷ x) f)) (λ before f. k (d ∷ before) (ap (λ x. d ∷ x) f)) in
    cc

pub one_base : (name a b : List ℕ) → IsBase name a → IsBase name b → a ≡ b
one_base name a b h k =
    let fields = (one_field_by (λ c. nat_eq c 0x2E) name h.field k.field h.rest k.rest h.first k.first).0 in
    same_base a b h.is.spaces k.is.spaces (sym h.is.joined ∙ fields ∙ k.is.joined) h.is.blank k.is.blank h.is.tight k.is.tight

pub device_from : (name base : List ℕ) → IsBase name base → (is_device base ≡ true) ↔ HasDeviceBase name
device_from name base h = (λ e. (base, (h, e)), λ d. ap is_device (one_base name base d.0 h d.1.0) ∙ d.1.1)

-- the spaces at the end are tested from the last byte on
abbrev pub BlankFrom : List ℕ → ℕ → Type 0
BlankFrom name i = (k : ℕ) → i ≤ k → k < length name → get_or name k 0 ≡ 0x20

pub tight_at : (name : List ℕ) (i : ℕ) → 0 < i → i ≤ length name → get_or name (i - 1) 0 ≢ 0x20 → BlankFrom name i → IsTightBase name (take i name)
tight_at name i low l other h = record {
  spaces = drop i name;
  joined = sym (take-append-drop i name);
  blank = All-from_get_or (λ c. c ≡ 0x20) (drop i name) 0 (λ k g. get_or-drop i name k 0 ∙ h (i + k) (omega arith) (omega (arith, length-drop i name)));
  tight = λ before e.
      let n : length (take i name) ≡ i = length-take-le i name l in
      let m : length before ≡ i - 1 = omega (arith, ap length e, length-append before (0x20 ∷ [])) in
      other (sym (get_or-take i name (i - 1) 0 (omega arith)) ∙ ap (λ x. get_or x (i - 1) 0) e ∙ get_or_at before 0x20 [] 0 (i - 1) m);
}

no_space : (before : List ℕ) → [] ≢ before ++ 0x20 ∷ []
no_space [] e = cc
no_space (b ∷ before) e = cc

pub tight_none : (name none : List ℕ) → none ≡ [] → BlankFrom name 0 → IsTightBase name none
tight_none name none e h = record {
  spaces = name;
  joined = sym (ap (λ x. x ++ name) e);
  blank = All-from_get_or (λ c. c ≡ 0x20) name 0 (λ k g. h k (omega arith) g);
  tight = λ before f. no_space before (sym e ∙ f);
}
