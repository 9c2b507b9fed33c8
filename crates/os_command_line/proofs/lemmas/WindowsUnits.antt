-- Texts cut before an end, and units compared, for answers.
use Rattle.std.proofs.Common.{◌≡◌, ◌≢◌, ℕ, ◌-◌, false, List, [], ◌∷◌, ◌++◌, take, drop, length, refl, sym, ap, ◌∙◌, arith, append_assoc, length-append}
use Rattle.std.proofs.Math.Seq.{take-append_seam, drop-append_seam}
use Rattle.std.specs.Prelude.{IsTrue}
use Rattle.wtf8_core.proofs.lemmas.forms.Appending.{append_same}
use Rattle.wtf8_core.proofs.lemmas.units.PrefixTests.{never}

-- a text cut before its end
pub cut_before_end : (text raw rest : List ℕ) (n : ℕ) → text ≡ raw ++ rest → n ≡ length text - length rest → (take n text ≡ raw) × (drop n text ≡ rest)
cut_before_end text raw rest n e k =
    let at : n ≡ length raw = omega (arith, k, ap length e, length-append raw rest) in
    (ap (λ m. take m text) at ∙ ap (take (length raw)) e ∙ take-append_seam raw rest, ap (λ m. drop m text) at ∙ ap (drop (length raw)) e ∙ drop-append_seam raw rest)

-- lists that differ, or end together, after the same units
module _ (mine other prefix m w : List ℕ) (a : mine ≡ prefix ++ m) (b : other ≡ prefix ++ w) where
  pub never_equal : (m ≡ w → ⊥) → (IsTrue false → mine ≡ other) × (mine ≡ other → IsTrue false)
  never_equal n = never (mine ≡ other) (λ e. n (append_same prefix m prefix w (sym a ∙ e ∙ b) refl).1)

pub not_nil : (xs ys : List ℕ) (y : ℕ) (zs : List ℕ) → xs ≡ [] → ys ≡ y ∷ zs → xs ≡ ys → ⊥
not_nil xs ys y zs e f g = let h : [] ≡ y ∷ zs = sym e ∙ g ∙ f in cc

pub not_first : (xs ys : List ℕ) (x y : ℕ) (us zs : List ℕ) → xs ≡ x ∷ us → ys ≡ y ∷ zs → x ≢ y → xs ≡ ys → ⊥
not_first xs ys x y us zs e f n g = let h : x ∷ us ≡ y ∷ zs = sym e ∙ g ∙ f in let k : x ≡ y = cc in n k

pub both_more : (mine prefix m : List ℕ) (u : ℕ) (us : List ℕ) → mine ≡ prefix ++ m → m ≡ u ∷ us → mine ≡ (prefix ++ u ∷ []) ++ us
both_more mine prefix m u us a e = a ∙ ap (λ z. prefix ++ z) e ∙ sym (append_assoc prefix (u ∷ []) us)
