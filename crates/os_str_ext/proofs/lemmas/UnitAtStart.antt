-- The symbols of a string that begins with a unit.
use Rattle.os_str_ext.proofs.Common.{◌≡◌, ⊎_elim, ℕ, ◌<◌, ◌≤◌, List, [], ◌∷◌, ◌++◌, length, take, drop, refl, sym, ap, ◌∙◌, subst, arith, length-append, length-drop, take-append-drop, cases_lt, length-take-le, nil_from_length, take-take, IsBoundary, WholeCharacter, StartsWithNoCharacter, Chunk, AreChunks, OccurrenceLaws, no_units, some_chunks, chunks_of, IsFirstUnit, IsFirstChunk, symbols_of, unit_symbol}
use Rattle.std.proofs.lemmas.List.{append_cancel_right}
use Rattle.wtf8_core.proofs.lemmas.occurrence.Indices.{nothing}
use Rattle.os_str_ext.proofs.lemmas.{EachChunk.first_of, FirstChunk.edges, SymbolSteps.symbols_by_unit}

-- the part of the first chunk isn't empty, if no whole character starts at the first byte
part_at_start : (s : List ℕ) (c : Chunk) (cs : List Chunk) → AreChunks s (c ∷ cs) → StartsWithNoCharacter s → 0 < length c.0
part_at_start s c cs h none =
    let p = h.each [] cs c refl in
    let some = p.some in
    ⊎_elim (λ lt. lt) (λ ge. absurd (let q = p.covered 0 (omega (arith, ge)) (omega arith) in let from = q.from in none q.end (subst (λ x. WholeCharacter s x q.end) (omega arith) q.whole))) (cases_lt 0 (length c.0))

first_chunk : (s : List ℕ) (cs : List Chunk) → AreChunks s cs → 0 < length s → StartsWithNoCharacter s → (m : ℕ) × ((e : ℕ) × ((0 < m) × IsFirstChunk s m e))
first_chunk s [] h some none = absurd (let size = ap length h.joins in omega (arith, some, size))
first_chunk s (c ∷ cs) h some none = let f = first_of s c cs h in (length c.0, (f.end, (part_at_start s c cs h none, f.ends)))

-- one unit is all where another list isn't empty
none_after : {u : ℕ} (us vs : List ℕ) → (us ≡ [] → ⊥) → us ++ vs ≡ u ∷ [] → vs ≡ []
none_after [] vs some e = absurd (some refl)
none_after (x ∷ us) vs some e = nil_from_length vs (let size = ap length e in omega (arith, size, length-append us vs))

module _ {well_formed : List ℕ → Type 0} {units : List ℕ → List ℕ} (occurrence : OccurrenceLaws well_formed units) where
  module _ (s : List ℕ) (u n : ℕ) (formed : well_formed s) (first : IsFirstUnit well_formed units s u n) where
    -- the bytes of the unit are a string
    unit_formed : well_formed (take n s)
    unit_formed = occurrence.ends (take n s) (drop n s) first.after (subst well_formed (sym (take-append-drop n s)) formed)

    unit_alone : units (take n s) ≡ u ∷ []
    unit_alone =
        append_cancel_right (units (take n s)) (u ∷ []) (units (drop n s))
        (sym (occurrence.prefixes (take n s) (drop n s) unit_formed (subst well_formed (sym (take-append-drop n s)) formed)).1 ∙ ap units (take-append-drop n s) ∙ first.units_are)

    module _ (m e : ℕ) (h : IsFirstChunk s m e) (some : 0 < m) (part_formed : well_formed (take m s)) where
      within : m ≤ length s
      within = omega (arith, h.ordered, h.within)

      units_of_part : units (take m s) ≡ [] → ⊥
      units_of_part none = omega (arith, some, length-take-le m s within, ap length (nothing well_formed units occurrence (take m s) part_formed none))

      -- they are no more than the part
      in_part : n ≤ m
      in_part = ⊎_elim (λ lt. absurd (past lt)) (λ le. le) (cases_lt m n)
        where
          past : m < n → ⊥
          past lt =
              let x = drop m (take n s) in
              let parts : take m s ++ x ≡ take n s = ap (λ p. p ++ x) (sym (take-take m n s (omega (arith, lt)))) ∙ take-append-drop m (take n s) in
              let rest = occurrence.prefixes (take m s) x part_formed (subst well_formed (sym parts) unit_formed) in
              let none = none_after (units (take m s)) (units x) units_of_part (sym rest.1 ∙ ap units parts ∙ unit_alone) in
              let size = ap length (nothing well_formed units occurrence x rest.0 none) in
              omega (arith, lt, size, length-drop m (take n s), length-take-le n s first.within)

      -- so it is the part's first unit, too
      first_of_part : IsFirstUnit well_formed units (take m s) u n
      first_of_part =
          let part = take m s in
          let parts : take n s ++ drop n part ≡ part = ap (λ p. p ++ drop n part) (sym (take-take n m s in_part)) ∙ take-append-drop n part in
          let rest = occurrence.prefixes (take n s) (drop n part) unit_formed (subst well_formed (sym parts) part_formed) in
          record { some = first.some; within = omega (arith, in_part, length-take-le m s within); after = rest.0; units_are = sym (ap units parts) ∙ rest.1 ∙ ap (λ us. us ++ units (drop n part)) unit_alone }

  -- the first unit, and the symbols of what follows it
  pub symbols_from_unit : ((b : List ℕ) (i : ℕ) → well_formed b → IsBoundary b i → well_formed (take i b)) → {s : List ℕ} {u n : ℕ} → well_formed s → StartsWithNoCharacter s → IsFirstUnit well_formed units s u n → symbols_of units s ≡ unit_symbol u ∷ symbols_of units (drop n s)
  symbols_from_unit cut_prefix {s} {u} {n} formed uncovered first =
      let some : 0 < length s = omega (arith, first.some, first.within) in
      let f = first_chunk s (chunks_of s) (some_chunks s).1 some uncovered in
      let h = f.1.1.1 in
      symbols_by_unit well_formed units s f.0 f.1.0 u n h (first_of_part s u n formed first f.0 f.1.0 h f.1.1.0 (cut_prefix s f.0 formed (edges s f.0 f.1.0 h).0)) some (no_units well_formed units occurrence)
