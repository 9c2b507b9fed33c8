-- Why a text is no escape, where an index is known at which no token begins.
use Rattle.std.proofs.Common.{◌≡◌, ◌≢◌, ◌⊎◌, inl, inr, refl, ap, ℕ, Bool, List}
use Rattle.os_quote.specs.Escape.{IsEscapeBy, IsBadEscapeBy, IsQuoteFaultBy}
use Rattle.os_quote.specs.Shown.{shown_by}
use Rattle.os_quote.specs.declared.form.Form.{Form}
use Rattle.os_quote.specs.declared.error.QuoteError.{QuoteError}
use Rattle.os_quote.specs.declared.error.QuoteError.TheVariants.{BadEscape, NotCanonical, Memory}

-- it is that index, or an allocation failed
pub bad_index : (form : Form) (well_formed : List ℕ → Type 0) (units : List ℕ → List ℕ) (text : List ℕ) (n : ℕ) → ((m : ℕ) → IsBadEscapeBy (shown_by form) text m → m ≡ n) → IsBadEscapeBy (shown_by form) text n
    → (e : QuoteError) → IsQuoteFaultBy form well_formed units text e → (e ≡ BadEscape n) ⊎ (e ≡ Memory)
bad_index form well_formed units text n one bad (BadEscape m) is = inl (ap BadEscape (one m is))
bad_index form well_formed units text n one bad NotCanonical is = absurd (is.1 n bad)
bad_index form well_formed units text n one bad Memory is = inr refl

-- it is that index if nothing is allocated
pub only_bad_index : (form : Form) (well_formed : List ℕ → Type 0) (units : List ℕ → List ℕ) (text : List ℕ) (n : ℕ) → ((m : ℕ) → IsBadEscapeBy (shown_by form) text m → m ≡ n) → IsBadEscapeBy (shown_by form) text n
    → (e : QuoteError) → IsQuoteFaultBy form well_formed units text e → e ≢ Memory → e ≡ BadEscape n
only_bad_index form well_formed units text n one bad (BadEscape m) is other = ap BadEscape (one m is)
only_bad_index form well_formed units text n one bad NotCanonical is other = absurd (is.1 n bad)
only_bad_index form well_formed units text n one bad Memory is other = absurd (other refl)

-- the escape of a string has no fault except an allocation failure
pub no_fault : (form : Form) (well_formed : List ℕ → Type 0) (units : List ℕ → List ℕ) (s text : List ℕ) → well_formed s → IsEscapeBy form units s text → ((n : ℕ) → ¬ (IsBadEscapeBy (shown_by form) text n))
    → (e : QuoteError) → IsQuoteFaultBy form well_formed units text e → e ≢ Memory → ⊥
no_fault form well_formed units s text w is never (BadEscape n) fault other = never n fault
no_fault form well_formed units s text w is never NotCanonical fault other = fault.0 s w is
no_fault form well_formed units s text w is never Memory fault other = other refl
