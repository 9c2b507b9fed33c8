-- Escapes of strings that begin with a text, or with a byte that is written by itself.
use Rattle.os_quote.proofs.Common.{Bool, ByteUnit, Character, IsCutAfterPlain, IsScalar, IsUtf8, IsUtf8-encode, List, WideUnit, ap, arith, backslash, character_item, drop, encode_ascii, encode_utf8, escape_of, is_any, item_text, le-ltb, len_utf8_bounds, length, length-append, length-drop, length-encode, lt-ltb, ne_eqb, refl, shown_by, subst, sym, take, text_escape, unit_item, ℕ, ◌++◌, ◌<◌, ◌∙◌, ◌∷◌, ◌≡◌, ◌≤◌}
use Rattle.std.specs.Bool.{if◌then◌else◌}
use Rattle.os_quote.specs.{declared.form.Form.Form, Start.BeginsWith, Start.byte_item}
use Rattle.wtf8_core.proofs.lemmas.occurrence.Indices.{no_units}
use Rattle.wtf8_core.specs.{Covered.StartsWithNoCharacter, Boundary.IsBoundary, OccurrenceLaws.OccurrenceLaws}
use Rattle.platform_str.specs.Laws.{IsFirstUnit}
use Rattle.os_quote.proofs.lemmas.{FirstUnits.character_first, FirstUnits.text_and_rest, FirstUnits.unit_first, PlainBytes.plain_is_text, PlainBytes.plain_is_own}

module _ {well_formed : List ℕ → Type 0} {units : List ℕ → List ℕ} (occurrence : OccurrenceLaws well_formed units) where
  -- what follows a text at the start of a string is a string
  pub rest_formed : {bytes text : List ℕ} (rest : List ℕ) → well_formed bytes → IsUtf8 text → bytes ≡ text ++ rest → well_formed rest
  rest_formed {text = text} rest formed u e = (occurrence.prefixes text rest (occurrence.texts text u) (subst well_formed e formed)).0

  -- and its escape follows the text's
  pub text_first : (shows : ℕ → Bool) {bytes text : List ℕ} (rest : List ℕ) → IsUtf8 text → bytes ≡ text ++ rest → escape_of shows units bytes ≡ text_escape shows text ++ escape_of shows units rest
  text_first shows {text = text} rest u e =
      ap (escape_of shows units) e ∙ text_and_rest shows units (no_units well_formed units occurrence) text rest u

  pub plain_first : (form : Form) {bytes prefix rest : List ℕ} → IsCutAfterPlain bytes prefix rest → escape_of (shown_by form) units bytes ≡ prefix ++ escape_of (shown_by form) units rest
  plain_first form {prefix = prefix} {rest = rest} after =
      text_first (shown_by form) rest (plain_is_text prefix after.plain) after.joined ∙ ap (λ x. x ++ escape_of (shown_by form) units rest) (plain_is_own form prefix after.plain)

module _ {well_formed : List ℕ → Type 0} {units : List ℕ → List ℕ} (occurrence : OccurrenceLaws well_formed units) (shows : ℕ → Bool) where
  from_scalar : {bytes rest : List ℕ} (c : ℕ) → well_formed bytes → IsScalar c → bytes ≡ encode_utf8 c ++ rest → BeginsWith shows well_formed units bytes (item_text (character_item shows c)) rest
  from_scalar {bytes} {rest} c formed scalar e = record {
    formed = rest_formed occurrence {text = encode_utf8 c} rest formed (IsUtf8-encode c scalar) e;
    shorter = omega (arith, ap length e, length-append (encode_utf8 c) rest, length-encode c, (len_utf8_bounds c).0);
    escape = character_first shows units (no_units well_formed units occurrence) c scalar rest e;
  }

  pub from_ascii : {bytes rest : List ℕ} {b : ℕ} → well_formed bytes → b < 0x80 → bytes ≡ b ∷ rest → BeginsWith shows well_formed units bytes (item_text (byte_item shows b)) rest
  from_ascii {bytes} {rest} {b} formed low e =
      let scalar : IsScalar b = rw (lt-ltb b 0xD800 (omega (arith, low))) refl in
      rw (lt-ltb b 0x80 low) (from_scalar b formed scalar (e ∙ ap (λ x. x ++ rest) (sym (encode_ascii b low))))

  pub from_unit : ((b : List ℕ) (i : ℕ) → well_formed b → IsBoundary b i → well_formed (take i b)) → {bytes : List ℕ} {u n : ℕ} → well_formed bytes → StartsWithNoCharacter bytes → IsFirstUnit well_formed units bytes u n → u < 0x100 → 0x80 ≤ u
      → BeginsWith shows well_formed units bytes (item_text (byte_item shows u)) (drop n bytes)
  from_unit cut_prefix {bytes} {u} {n} formed uncovered first high low =
      let some = first.some in
      let within = first.within in
      let item : unit_item u ≡ byte_item shows u = ap (λ t. if t then ByteUnit u else WideUnit u) (lt-ltb u 0x100 high) ∙ ap (λ t. if t then character_item shows u else ByteUnit u) (sym (le-ltb u 0x80 low)) in
      record {
        formed = first.after;
        shorter = omega (arith, some, within, length-drop n bytes);
        escape = unit_first occurrence shows cut_prefix formed uncovered first ∙ ap (λ i. item_text i ++ escape_of shows units (drop n bytes)) item;
      }

-- where all is shown, a character past ASCII is its own text
pub from_character : {well_formed : List ℕ → Type 0} {units : List ℕ → List ℕ} → OccurrenceLaws well_formed units → {bytes rest : List ℕ} {c : ℕ} → well_formed bytes → IsScalar c → 0x80 ≤ c → bytes ≡ encode_utf8 c ++ rest
    → BeginsWith is_any well_formed units bytes (encode_utf8 c) rest
from_character {well_formed} {units} occurrence {bytes} {rest} {c} formed scalar high e =
    let item : character_item is_any c ≡ Character c = rw (ne_eqb c backslash (λ s. omega (arith, high, s))) refl in
    subst (λ i. BeginsWith is_any well_formed units bytes (item_text i) rest) item (from_scalar occurrence is_any c formed scalar e)
