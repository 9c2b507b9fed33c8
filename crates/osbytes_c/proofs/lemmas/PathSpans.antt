-- Parts of a path, by their indices.
use Rattle.std.proofs.Common.{◌≡◌, inl, inr, ℕ, ◌+◌, ◌-◌, ◌≤◌, List, [], ◌∷◌, ◌++◌, length, take, drop, sym, ap, ◌∙◌, subst, append-nil, append_assoc, length-append, take-take, arith}
use Rattle.std.proofs.lemmas.List.{drop-take, drop-drop, length-drop, length-take-le, take_all}
use Rattle.std.proofs.Math.Seq.{take-append_seam, drop-append_seam}
use Rattle.path_rules.specs.declared.rules.Style.{Style}
use Rattle.path_rules.specs.Name.{IsStem, IsExtension}
use Rattle.osbytes_c.specs.declared.paths.part_list.Part.{Part}
use Rattle.osbytes_c.specs.declared.span.Span.{Span}
use Rattle.osbytes_c.specs.PathParts.{AreParts, IsLastName}
use Rattle.osbytes_c.specs.PathSpans.{IsNameSpan, WritesParts}
use Rattle.osbytes_c.specs.Steps.{part}

-- what is left at the end, from its index on
pub dropped_end : (path before rest : List ℕ) → path ≡ before ++ rest → drop (length path - length rest) path ≡ rest
dropped_end path before rest e =
    let n : length path - length rest ≡ length before = omega (arith, ap length e, length-append before rest) in
    ap (λ k. drop k path) n ∙ ap (drop (length before)) e ∙ drop-append_seam before rest

-- the length of a part
pub part_length : (path : List ℕ) (i j : ℕ) → i ≤ j → j ≤ length path → length (part path i j) ≡ j - i
part_length path i j low high = length-drop i (take j path) ∙ ap (λ n. n - i) (length-take-le j path high)

module _ (path front back : List ℕ) (i j : ℕ) (low : i ≤ j) (high : j ≤ length path) (e : part path i j ≡ front ++ back) where
  pub sizes : length front + length back ≡ j - i
  sizes = sym (length-append front back) ∙ sym (ap length e) ∙ part_length path i j low high

  -- the front of a part
  pub span_front : part path i (i + length front) ≡ front
  span_front =
      let n = sizes in
      let k : j ≡ i + (j - i) = omega arith in
      let whole : take (j - i) (drop i path) ≡ front ++ back = sym (drop-take i (j - i) path) ∙ ap (λ m. part path i m) (sym k) ∙ e in
      drop-take i (length front) path
      ∙ sym (take-take (length front) (j - i) (drop i path) (omega arith))
      ∙ ap (take (length front)) whole ∙ take-append_seam front back

  -- the back of it
  pub span_back : part path (j - length back) j ≡ back
  span_back =
      let n = sizes in
      let k : j - length back ≡ i + length front = omega arith in
      ap (λ m. drop m (take j path)) k ∙ sym (drop-drop (length front) i (take j path)) ∙ ap (drop (length front)) e ∙ drop-append_seam front back

-- the stem is a front of the name
pub stem_front : (name stem : List ℕ) → IsStem name stem → (more : List ℕ) × (name ≡ stem ++ more)
stem_front name stem (inl h) = (0x2E ∷ h.0, h.1.joined)
stem_front name stem (inr h) = ([], sym h.1 ∙ sym (append-nil stem))

-- the extension is a back of it
pub extension_back : (name stem extension : List ℕ) → IsExtension name stem extension → name ≡ (stem ++ 0x2E ∷ []) ++ extension
extension_back name stem extension h = h.joined ∙ sym (append_assoc stem (0x2E ∷ []) extension)

-- where the last name is
abbrev pub span_of : Part → Span
span_of p = record { start = p.start; end = p.end }

pub is_name_span : (style : Style) (path : List ℕ) (p : Part) → IsLastName style path p → IsNameSpan style path (span_of p)
is_name_span style path p last = subst (λ k. IsLastName style path (record { kind = k; start = p.start; end = p.end })) last.name last

-- where there was room, all components are there
pub parts_there : {style : Style} {path : List ℕ} {old new : List Part} {count : ℕ} → WritesParts style path old new count × (count ≤ length old) → AreParts style path (take count new)
parts_there {style} {path} {old} {new} {count} w =
    let t = w.0.1.1 in
    let all = take_all (length old) w.0.0 (omega (arith, w.1, t.count_is)) in
    subst (AreParts style path) (sym all ∙ t.prefix) w.0.1.0
