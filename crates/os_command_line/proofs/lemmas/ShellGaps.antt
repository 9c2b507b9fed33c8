-- Gaps between words, which are passed over whole.
use Rattle.std.proofs.Common.{◌≡◌, ◌≢◌, ℕ, zero, suc, ◌≤◌, true, false, ◌&&◌, eqb, List, [], ◌∷◌, ◌++◌, length, refl, sym, ap, ◌∙◌, subst, arith, append-nil, inl, inr}
use Rattle.std.proofs.lemmas.Bool.{eqb-true, cases_Bool, true≢false, and_parts}
use Rattle.os_command_line.specs.Shell.{backslash, newline, is_blank, IsGap, Begins}
use Rattle.os_command_line.specs.Shell.IsGap.{no_gap, blank, line_joined}
use Rattle.os_command_line.specs.ShellReader.{after_gap}
use Rattle.os_command_line.proofs.lemmas.Lists.{no_cons}

pub gap_blank : (b : ℕ) (text : List ℕ) → is_blank b ≡ true → after_gap (b ∷ text) ≡ after_gap text
unfolding after_gap
gap_blank b [] h = rw h refl
gap_blank b (c ∷ text) h = rw h refl

pub gap_joined : (text : List ℕ) → after_gap (backslash ∷ newline ∷ text) ≡ after_gap text
unfolding after_gap
gap_joined text = refl

pub gap_none : after_gap [] ≡ []
unfolding after_gap
gap_none = refl

pub gap_over : (b : ℕ) (text : List ℕ) → is_blank b ≡ false → ((rest : List ℕ) → b ∷ text ≢ backslash ∷ newline ∷ rest) → after_gap (b ∷ text) ≡ b ∷ text
unfolding after_gap
gap_over b [] h n = rw h refl
gap_over b (c ∷ text) h n = elim (cases_Bool (eqb b 0x5C && eqb c 0x0A)) [
  | inl e ↦ let p = and_parts (eqb b 0x5C) (eqb c 0x0A) e in absurd (n text (ap (λ x. x ∷ c ∷ text) (eqb-true b 0x5C p.0) ∙ ap (λ x. backslash ∷ x ∷ text) (eqb-true c 0x0A p.1)))
  | inr e ↦ rw (h, e) refl
]

-- a gap is passed over whole
pub begun : (text : List ℕ) → Begins text → after_gap text ≡ text
begun [] h = absurd (h.some refl)
begun (b ∷ text) h = gap_over b text (h.no_blank b text refl) h.no_join

pub gap_passed : (gap text : List ℕ) → IsGap gap → after_gap (gap ++ text) ≡ after_gap text
gap_passed _ text no_gap = refl
gap_passed _ text (blank b gap h g) = gap_blank b (gap ++ text) h ∙ gap_passed gap text g
gap_passed _ text (line_joined gap g) = gap_joined (gap ++ text) ∙ gap_passed gap text g

pub only_gap : (gap : List ℕ) → IsGap gap → after_gap gap ≡ []
only_gap gap g = ap after_gap (sym (append-nil gap)) ∙ gap_passed gap [] g ∙ gap_none

-- and nothing more
pub record IsAfterGap (line text : List ℕ) : Type 0 where
  pub gap : List ℕ
  pub is_gap : IsGap gap
  pub parts : line ≡ gap ++ text
  pub begins : text ≢ [] → Begins text

gap_found : (n : ℕ) (line : List ℕ) → length line ≤ n → IsAfterGap line (after_gap line)
gap_found n [] h = record { gap = []; is_gap = no_gap; parts = sym gap_none; begins = λ some. absurd (some gap_none) }
gap_found zero (b ∷ line) h = absurd (omega (arith, h))
gap_found (suc n) (b ∷ line) h = elim (cases_Bool (is_blank b)) [
  | inl e ↦ let g = gap_found n line (omega (arith, h)) in
      let k = gap_blank b line e in
      subst (IsAfterGap (b ∷ line)) (sym k) (record { gap = b ∷ g.gap; is_gap = blank b g.gap e g.is_gap; parts = ap (λ z. b ∷ z) g.parts; begins = g.begins })
  | inr e ↦ other line h e (λ rest k. gap_found n rest k)
]
  where
    stays : (line : List ℕ) → is_blank b ≡ false → ((rest : List ℕ) → b ∷ line ≢ backslash ∷ newline ∷ rest) → IsAfterGap (b ∷ line) (after_gap (b ∷ line))
    stays line e never =
        let begins : Begins (b ∷ line) = record { some = no_cons; no_blank = λ c rest f. let g : b ≡ c = cc in subst (λ z. is_blank z ≡ false) g e; no_join = never } in
        subst (IsAfterGap (b ∷ line)) (sym (gap_over b line e never)) (record { gap = []; is_gap = no_gap; parts = refl; begins = λ _. begins })

    other : (line : List ℕ) → length (b ∷ line) ≤ suc n → is_blank b ≡ false → ((rest : List ℕ) → length rest ≤ n → IsAfterGap rest (after_gap rest)) → IsAfterGap (b ∷ line) (after_gap (b ∷ line))
    other [] h e more = stays [] e (λ rest f. short f)
      where
        short : {rest : List ℕ} → b ∷ [] ≡ backslash ∷ newline ∷ rest → ⊥
        short f = cc
    other (c ∷ line) h e more = elim (cases_Bool (eqb b 0x5C && eqb c 0x0A)) [
      | inl j ↦ let p = and_parts (eqb b 0x5C) (eqb c 0x0A) j in
          let whole : backslash ∷ newline ∷ line ≡ b ∷ c ∷ line = ap (λ x. x ∷ newline ∷ line) (sym (eqb-true b 0x5C p.0)) ∙ ap (λ x. b ∷ x ∷ line) (sym (eqb-true c 0x0A p.1)) in
          let g = more line (omega (arith, h)) in
          subst (λ z. IsAfterGap z (after_gap z)) whole
          (subst (IsAfterGap (backslash ∷ newline ∷ line)) (sym (gap_joined line)) (record { gap = backslash ∷ newline ∷ g.gap; is_gap = line_joined g.gap g.is_gap; parts = ap (λ z. backslash ∷ newline ∷ z) g.parts; begins = g.begins }))
      | inr j ↦ stays (c ∷ line) e (λ rest f. let x : b ≡ backslash = cc in let y : c ≡ newline = cc in true≢false (sym (both x y) ∙ j))
    ]
      where
        both : b ≡ backslash → c ≡ newline → eqb b 0x5C && eqb c 0x0A ≡ true
        both x y = rw (x, y) refl

pub after_gap_is : (line : List ℕ) → IsAfterGap line (after_gap line)
after_gap_is line = gap_found (length line) line (omega arith)
