-- Options and a text are the same where both tests are true.
use Rattle.std.proofs.Common.{◌≡◌, ◌↔◌, Bool, true, false, ◌&&◌, nat_eq, ℕ, List, refl, sym, ap, ◌∙◌}
use mathlib.Core.Bool.{beq}
use Rattle.std.specs.Cmp.Lexicographic.{pointwise, same_text, other_text}
use Rattle.wildcards.specs.declared.separators.Separators.{Separators}
use Rattle.glob_patterns.specs.declared.options.GlobOptions.{GlobOptions}

not_both : false ≡ true → ⊥
not_both e = cc

pub both : (a b r : Bool) (P Q : Type 0) → r ≡ (a && (b && true)) → (a ≡ true) ↔ P → (b ≡ true) ↔ Q → (r ≡ true) ↔ (P × Q)
both true true r P Q e p q = (λ k. (p.0 refl, q.0 refl), λ k. e)
both true false r P Q e p q = (λ k. absurd (not_both (sym e ∙ k)), λ k. absurd (not_both (q.1 k.1)))
both false b r P Q e p q = (λ k. absurd (not_both (sym e ∙ k)), λ k. absurd (not_both (p.1 k.0)))

pub same_bytes : (xs ys : List ℕ) → (pointwise nat_eq xs ys ≡ true) ↔ (xs ≡ ys)
same_bytes xs ys = (λ e. same_text xs ys (sym e), λ e. tested e (pointwise nat_eq xs ys) refl)
  where
    tested : xs ≡ ys → (v : Bool) → pointwise nat_eq xs ys ≡ v → pointwise nat_eq xs ys ≡ true
    tested e true h = h
    tested e false h = absurd (other_text xs ys (sym h) e)

same_bool : (a b : Bool) → (beq a b ≡ true) ↔ (a ≡ b)
same_bool true true = (λ e. refl, λ e. refl)
same_bool true false = (λ e. absurd (not_both e), λ e. absurd (not_both (sym e)))
same_bool false true = (λ e. absurd (not_both e), λ e. absurd (not_both e))
same_bool false false = (λ e. refl, λ e. refl)

two : (a b : Bool) (P Q : Type 0) → (a ≡ true) ↔ P → (b ≡ true) ↔ Q → ((a && b) ≡ true) ↔ (P × Q)
two true b P Q p q = (λ k. (p.0 refl, q.0 k), λ k. q.1 k.1)
two false b P Q p q = (λ k. absurd (not_both k), λ k. absurd (not_both (p.1 k.0)))

abbrev options_with : Separators → Bool → Bool → Bool → Bool → GlobOptions
options_with s d e k i = record { separators = s; literal_leading_dot = d; escapes = e; class_escapes = k; case_insensitive = i }

pub same_options : (o p : GlobOptions) (s : Bool) → (s ≡ true) ↔ (o.separators ≡ p.separators)
    → ((s && (beq o.literal_leading_dot p.literal_leading_dot && (beq o.escapes p.escapes && (beq o.class_escapes p.class_escapes && beq o.case_insensitive p.case_insensitive)))) ≡ true) ↔ (o ≡ p)
same_options o p s h =
    let all = two s _ _ _ h (two _ _ _ _ (same_bool o.literal_leading_dot p.literal_leading_dot) (two _ _ _ _ (same_bool o.escapes p.escapes) (two _ _ _ _ (same_bool o.class_escapes p.class_escapes) (same_bool o.case_insensitive p.case_insensitive)))) in (
      λ k.
          let same = all.0 k in
          ap (λ z. options_with z o.literal_leading_dot o.escapes o.class_escapes o.case_insensitive) same.0
          ∙ ap (λ z. options_with p.separators z o.escapes o.class_escapes o.case_insensitive) same.1.0
          ∙ ap (λ z. options_with p.separators p.literal_leading_dot z o.class_escapes o.case_insensitive) same.1.1.0
          ∙ ap (λ z. options_with p.separators p.literal_leading_dot p.escapes z o.case_insensitive) same.1.1.1.0
          ∙ ap (λ z. options_with p.separators p.literal_leading_dot p.escapes p.class_escapes z) same.1.1.1.1,
      λ e. all.1 (ap (λ z. z.separators) e, (ap (λ z. z.literal_leading_dot) e, (ap (λ z. z.escapes) e, (ap (λ z. z.class_escapes) e, ap (λ z. z.case_insensitive) e)))),
    )
