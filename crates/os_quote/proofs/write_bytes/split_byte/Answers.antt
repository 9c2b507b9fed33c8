use Rattle.os_quote.proofs.Common.{◌<◌, ◌≤◌, ◌∷◌, ◌∙◌, ◌||◌, ◌≡◌, Bool, true, false, true≢false, IsTrue, ltb, ⊎_elim, ℕ, List, drop, sym, ap, subst, arith, item_text, shown_by}
use Rattle.std.proofs.{Common.Option, Common.Some, Common.None, Common.MatchOption, lemmas.Bool.or_cases, lemmas.Bool.ltb-true, lemmas.Bool.Decides.nat_tests}
use Rattle.std.specs.Option.{is_some}
use Rattle.wtf8_core.specs.{Covered.StartsWithNoCharacter, Character.IsFirstChar}
use Rattle.os_quote.specs.Start.{BeginsWith, byte_item}
use Rattle.os_quote.proofs.lemmas.Prefixes.{from_ascii, from_unit}
use Rattle.os_quote.proofs.write_bytes.split_byte.Goals.{then-is_ascii, else-is_ascii, else-not-is_ascii-are_apart-via-then-not-is_ascii-are_apart+else-is_some, else-not-is_ascii-are_apart-via-else-not-is_ascii-are_apart}
use Rattle.os_quote.proofs.write_bytes.split_byte.Goals as goal

-- no character starts where none was found, or where the first two bytes tell
not_found : (s : List ℕ) (r : Option (ℕ × ℕ)) → is_some r ≡ false → MatchOption r (StartsWithNoCharacter s) (λ first. IsFirstChar s first.0 first.1) → StartsWithNoCharacter s
not_found s None e h = h
not_found s (Some x) e h = absurd (true≢false e)

told : (s : List ℕ) (first : ℕ) (apart : Bool) → 0x80 ≤ first → ltb first 128 || apart ≡ true → (IsTrue apart → StartsWithNoCharacter s) → StartsWithNoCharacter s
told s first apart high either h = ⊎_elim (λ low. absurd (let lt = ltb-true first 128 low in omega (arith, lt, high))) h (or_cases (ltb first 128) apart either)

pub first_unit-requires-clause-uncovered : goal.first_unit-requires-clause-uncovered
first_unit-requires-clause-uncovered g c =
    elim c.else-not-is_ascii-are_apart.branch [
      | else-not-is_ascii-are_apart-via-then-not-is_ascii-are_apart+else-is_some w ↦ not_found _ _ (sym w.is_some.ensures ∙ w.if-is_some.false) w.first_char.ensures
      | else-not-is_ascii-are_apart-via-else-not-is_ascii-are_apart w ↦ told _ c.in_ok-first.first.now _ c.if-is_ascii.false w.if-not-is_ascii-are_apart.false c.are_apart.ensures
    ]

pub returns : goal.returns
returns g c = λ f.
    let P = g.E.Platform in
    let bytes = c.args.bytes.now in
    let shows = shown_by f in
    let starts = λ (u : ℕ) (rest : List ℕ). BeginsWith shows P.well_formed P.units bytes (item_text (byte_item shows u)) rest in
    let joined = c.in_ok-first.ensures.cases.0 in
    elim c.if-is_ascii.branch [
      | then-is_ascii w ↦
          let same = ap (λ p. p.0) w.unit-is ∙ w.from.ensures in
          let rest = c.split_at.ensures.back ∙ ap (λ p. drop p.1 bytes) w.unit-is ∙ ap (drop 1) joined in
          subst (λ u. starts u c.split_at.result.1.now) (sym same) (from_ascii g.met.E.Platform.occurrence shows c.requires w.if-is_ascii.true (joined ∙ ap (λ xs. c.in_ok-first.first.now ∷ xs) (sym rest)))
      | else-is_ascii w ↦
          let uncovered : StartsWithNoCharacter bytes = elim c.else-not-is_ascii-are_apart.branch [
            | else-not-is_ascii-are_apart-via-then-not-is_ascii-are_apart+else-is_some v ↦ not_found _ _ (sym v.is_some.ensures ∙ v.if-is_some.false) v.first_char.ensures
            | else-not-is_ascii-are_apart-via-else-not-is_ascii-are_apart v ↦ told _ c.in_ok-first.first.now _ w.if-is_ascii.false v.if-not-is_ascii-are_apart.false c.are_apart.ensures
          ] in
          let high = subst (λ p. p.0 < 256) w.unit-is c.if-unit-ge256.false in
          let low : 0x80 ≤ c.if-is_ascii.unit.0 = grind (arith, nat_tests) in
          subst (λ rest. starts c.if-is_ascii.unit.0 rest) (sym c.split_at.ensures.back) (subst (λ p. starts p.0 (drop p.1 bytes)) (sym w.unit-is) (from_unit g.met.E.Platform.occurrence shows g.met.E.Platform.laws.cut_prefix c.requires uncovered w.first_unit.ensures high (subst (λ p. 0x80 ≤ p.0) w.unit-is low)))
    ]
