use Rattle.os_quote.proofs.Common.{◌≡◌, ◌≤◌, ◌++◌, ℕ, List, subst, sym, encode_utf8, IsScalar, shown_by}
use Rattle.std.proofs.Common.{Option, Some, None, MatchOption}
use Rattle.wtf8_core.specs.OccurrenceLaws.{OccurrenceLaws}
use Rattle.os_quote.specs.{Start.BeginsWith, Start.IsPut, declared.form.Form.Form, declared.form.Form.TheVariants.Text}
use Rattle.os_quote.proofs.lemmas.Prefixes.{from_character}
use Rattle.os_quote.proofs.write_bytes.put_next.Goals as goal

module _ {T : Type 0} (of : T → List ℕ) {well_formed : List ℕ → Type 0} {units : List ℕ → List ℕ} (occurrence : OccurrenceLaws well_formed units) (form : Form) (shows_all : form ≡ Text) {bytes : List ℕ} (formed : well_formed bytes) (old new : List ℕ) (at : ℕ) where
  put : (r : Option (ℕ × T)) → MatchOption r (new ≡ old) (λ r. (c : ℕ) × IsScalar c × (0x80 ≤ c) × (bytes ≡ encode_utf8 c ++ of r.1) × IsPut old new at (encode_utf8 c) r.0)
      → MatchOption r (new ≡ old) (λ r. (text : List ℕ) × IsPut old new at text r.0 × BeginsWith (shown_by form) well_formed units bytes text (of r.1))
  put None h = h
  put (Some r) h =
      let begins = from_character occurrence formed h.1 h.2 h.3 in
      (encode_utf8 h.0, h.4, subst (λ f. BeginsWith (shown_by f) well_formed units bytes (encode_utf8 h.0) (of r.1)) (sym shows_all) begins)

pub returns-in-Text : goal.returns-in-Text
returns-in-Text g c = put (λ r. r.now) g.met.E.Platform.occurrence c.args.form c.in-Text.is c.requires.formed _ _ _ _ c.put_character.ensures
