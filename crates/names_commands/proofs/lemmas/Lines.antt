-- Lines: the escapes of names.
use Rattle.std.proofs.Common.{◌≡◌, ◌≢◌, ⊎_elim, ℕ, ◌*◌, ◌≤◌, ◌<◌, true, false, List, [], ◌∷◌, ◌++◌, length, IsTrue, refl, sym, ◌∙◌, subst, arith}
use Rattle.std.specs.Char.{encode_utf8}
use Rattle.std.specs.List.{All, AllByRecursion}
use Rattle.std.specs.Str.{IsUtf8, chars, encode_utf8_all}
use Rattle.std.proofs.lemmas.Str.{encodes-chars}
use Rattle.std.proofs.lemmas.Bool.{cases_lt, false≢true}
use Rattle.std.proofs.lemmas.Bool.Decides.{nat_tests}
use Rattle.wtf8_core.specs.CodePoint.{encode}
use Rattle.wtf8_core.proofs.lemmas.forms.ByStd.{form_encode}
use Rattle.platform_str.specs.Laws.{PartLaws}
use Rattle.os_quote.specs.Shown.{stays_on_line}
use Rattle.os_quote.specs.Ending.{before_ending}
use Rattle.os_quote.specs.declared.form.Form.TheVariants.{Line}
use Rattle.os_str_ext.specs.Chunks.{IsChunkOf}
use Rattle.wtf8_core.specs.Chunks.{AreChunks, Chunk}
use Rattle.os_quote.specs.Escape.{IsLineEscape}
use Rattle.os_quote.specs.Plain.{IsPlainUpTo}
use Rattle.std.proofs.lemmas.List.Elements.{recursion_from_All}
use Rattle.os_quote.proofs.lemmas.Escapes.{one_string}
use Rattle.os_quote.proofs.lemmas.ItemLengths.{escape_is_short}
use Rattle.os_quote.proofs.lemmas.Lines.{escape_is_on_line}
use Rattle.os_quote.proofs.lemmas.Readings.{escape_is_text}
use Rattle.os_str_bytes.specs.Platform.{Ghosts}
use Rattle.list_programs.specs.Items.{Lacks}
use Rattle.list_programs.proofs.lemmas.Lines.{own_line}
use Rattle.list_programs.proofs.lemmas.Reading.{lacks-append}

-- a newline is in a text where it is one of its characters
low_form : (c : ℕ) → c < 0x80 → encode c ≡ c ∷ []
unfolding encode
low_form c h = grind (arith, nat_tests)

high_form : (c : ℕ) → 0x80 ≤ c → AllByRecursion (λ b. 0x80 ≤ b) (encode c)
unfolding encode
high_form c h = grind (arith, nat_tests, h)

-- an ASCII character that doesn't stay on a line isn't in a text whose characters do
module _ (byte : ℕ) (low : byte < 0x80) (off : stays_on_line byte ≡ false) where
  high_lack : (bs : List ℕ) → AllByRecursion (λ b. 0x80 ≤ b) bs → Lacks byte bs
  high_lack [] a = tt
  high_lack (b ∷ bs) a = let high = a.0 in (λ e. omega (arith, low, high, e), high_lack bs a.1)

  form_lacks : (c : ℕ) → c ≢ byte → Lacks byte (encode c)
  form_lacks c h =
      ⊎_elim
      (λ l. subst (Lacks byte) (sym (low_form c l)) (h, tt))
      (λ ge. high_lack (encode c) (high_form c ge))
      (cases_lt c 0x80)

  not_on_line : (c : ℕ) → IsTrue (stays_on_line c) → c ≢ byte
  not_on_line c stays e = false≢true (sym off ∙ subst (λ x. stays_on_line x ≡ true) e stays)

  characters_lack : (cs : List ℕ) → AllByRecursion (λ c. IsTrue (stays_on_line c)) cs → Lacks byte (encode_utf8_all cs)
  characters_lack [] a = tt
  characters_lack (c ∷ cs) a = lacks-append byte (encode_utf8 c) (encode_utf8_all cs) (subst (Lacks byte) (form_encode c) (form_lacks c (not_on_line c a.0))) (characters_lack cs a.1)

  pub stays_lacks : (text : List ℕ) → IsUtf8 text → AllByRecursion (λ c. IsTrue (stays_on_line c)) (chars text) → Lacks byte text
  stays_lacks text u a = subst (Lacks byte) (encodes-chars text u) (characters_lack (chars text) a)

pub newline_lacks : (text : List ℕ) → IsUtf8 text → AllByRecursion (λ c. IsTrue (stays_on_line c)) (chars text) → Lacks 0x0A text
newline_lacks = stays_lacks 0x0A (omega arith) refl

line_lacks : (text : List ℕ) → IsUtf8 text → All (λ c. IsTrue (stays_on_line c)) (chars text) → Lacks 0x0A text
line_lacks text u a = newline_lacks text u (recursion_from_All (λ c. IsTrue (stays_on_line c)) (chars text) a)

-- a text without a byte doesn't end in it
pub lacks_last : (byte : ℕ) (front : List ℕ) → ¬ (Lacks byte (front ++ byte ∷ []))
lacks_last byte [] l = l.0 refl
lacks_last byte (x ∷ front) l = lacks_last byte front l.1

-- what is known of the escapes of a platform's strings
pub record AreLines {E : Type 0} (p : Ghosts E) : Type 0 where
  pub one_string : (s t text : List ℕ) → p.well_formed s → p.well_formed t → IsLineEscape p.units s text → IsLineEscape p.units t text → s ≡ t
  pub whole : (s text : List ℕ) → p.well_formed s → IsLineEscape p.units s text → Lacks 0x0A text
  pub short : (s text : List ℕ) → p.well_formed s → IsLineEscape p.units s text → length text ≤ 6 * length s
  pub none : (s : List ℕ) → p.well_formed s → IsLineEscape p.units s [] → s ≡ []

pub are_lines : {E : Type 0} (p : Ghosts E) (parts : PartLaws p.well_formed p.units p.part_units) (nothing : p.well_formed [])
    (each : (s : List ℕ) (cs : List Chunk) → p.well_formed s → AreChunks (before_ending Line s) cs → AllByRecursion (IsChunkOf p.well_formed) cs) → AreLines p
are_lines p parts nothing each = record {
  one_string = one_string Line p.well_formed p.units p.part_units parts each;
  whole = λ s text w e.
      line_lacks text
      (escape_is_text Line p.well_formed p.units p.part_units parts each s text w e)
      (escape_is_on_line p.well_formed p.units p.part_units parts each s text w e);
  short = escape_is_short Line p.well_formed p.units p.part_units parts each;
  none = λ s w e. one_string Line p.well_formed p.units p.part_units parts each s [] [] w nothing e (own_line p.well_formed p.units p.part_units parts nothing [] (no_bytes, refl));
}
  where
    no_bytes : IsPlainUpTo [] 0
    no_bytes = record { within = omega arith; plain = λ i below. absurd (omega (arith, below)) }
