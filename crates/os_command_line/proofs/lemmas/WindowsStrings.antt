-- A Windows string is read by its bytes as it is by its units.
use Rattle.std.proofs.Common.{◌≡◌, ℕ, ◌≤◌, false, List, [], ◌∷◌, ◌++◌, length, refl, sym, ap, ◌∙◌, subst, arith, append-nil, length-append, inl, inr}
use Rattle.std.specs.List.{AllByRecursion, flat_map}
use Rattle.std.proofs.lemmas.Grind.{flat_map-append}
use Rattle.std.proofs.lemmas.Bool.{cases_lt}
use Rattle.std.proofs.lemmas.List.{nil_from_length}
use Rattle.wtf8_core.specs.CodePoint.{IsCodePoint, encode, encode_utf16}
use Rattle.wtf8_core.specs.Wtf8.{IsWtf8, HasNoSurrogatePair, units}
use Rattle.wtf8_core.specs.UnitsOf.{units_of}
use Rattle.wtf8_core.proofs.lemmas.forms.Appending.{append_same}
use Rattle.wtf8_core.proofs.lemmas.forms.ByStd.{forms_prefix}
use Rattle.wtf8_core.proofs.lemmas.forms.LastForms.{no_points}
use Rattle.wtf8_core.proofs.lemmas.forms.Shapes.{form_past, form_bounds}
use Rattle.wtf8_core.proofs.lemmas.units.OneToOne.{wide_single, wide_pair}
use Rattle.wtf8_core.proofs.lemmas.units.Cuts.{encodes_prefix, encodes_suffix}
use Rattle.wtf8_core.proofs.lemmas.units.AsFunction.{code_points_in-encoded}
use Rattle.os_command_line.specs.Windows.{IsBlank, Begins, Reads, ReadsName}
use Rattle.os_command_line.specs.WindowsReader.{Index, word_from, meant, first_index, name_index}
use Rattle.os_command_line.specs.WindowsSteps.{IsArgumentCut, IsNameCut}
use Rattle.os_command_line.proofs.lemmas.WindowsOneReading.{complete_alone, complete_name_alone, one_reading, one_name}
use Rattle.os_command_line.proofs.lemmas.WindowsEachLine.{some_reading, some_name}
use Rattle.os_command_line.proofs.lemmas.CharacterForms.{IsForm, bytes_form, units_form, all_wide}
use Rattle.os_command_line.proofs.lemmas.Lists.{all_joined, both_parts}
use Rattle.os_command_line.proofs.lemmas.WindowsLifted.{blanks_form, begins_form, form_begins, lift, lift_name}
use Rattle.os_command_line.proofs.lemmas.WindowsOwnText.{IsAlone, alone, name_alone}

-- what holds of each number past ASCII holds of each number of one form where it does of each of the other
module _ (P : ℕ → Type 0) (past : (x : ℕ) → 0x80 ≤ x → P x) where
  module _ (f g : ℕ → List ℕ) (of_f : IsForm f) (of_g : IsForm g) where
    alike : (cs : List ℕ) → AllByRecursion P (flat_map f cs) → AllByRecursion P (flat_map g cs)
    alike [] h = tt
    alike (c ∷ cs) h = elim (cases_lt c 0x80) [
      | inl lt ↦ let ascii = subst (AllByRecursion P) (ap (λ z. z ++ flat_map f cs) (of_f.ascii c lt)) h in subst (AllByRecursion P) (sym (ap (λ z. z ++ flat_map g cs) (of_g.ascii c lt))) (ascii.0, alike cs ascii.1)
      | inr ge ↦ all_joined P (g c) (flat_map g cs) (all_wide P past (g c) (of_g.wide c ge)) (alike cs (both_parts P (f c) (flat_map f cs) h).1)
    ]

  pub each_unit : (b : List ℕ) → IsWtf8 b → AllByRecursion P b → AllByRecursion P (units_of b)
  each_unit b w h = subst (AllByRecursion P) (sym (ap units (code_points_in-encoded b w.0 w.1))) (alike encode encode_utf16 bytes_form units_form w.0 (subst (AllByRecursion P) w.1.joined h))

  pub each_byte : (b : List ℕ) → IsWtf8 b → AllByRecursion P (units_of b) → AllByRecursion P b
  each_byte b w h = subst (AllByRecursion P) (sym w.1.joined) (alike encode_utf16 encode units_form bytes_form w.0 (subst (AllByRecursion P) (ap units (code_points_in-encoded b w.0 w.1)) h))

-- a string has no more units than bytes
few_units : (cs : List ℕ) → length (units cs) ≤ length (flat_map encode cs)
few_units [] = omega arith
few_units (c ∷ cs) = omega (arith, length-append (encode_utf16 c) (units cs), length-append (encode c) (flat_map encode cs), few_units cs, one)
  where
    one : length (encode_utf16 c) ≤ length (encode c)
    one = elim (cases_lt c 0x1_0000) [
      | inl lt ↦ omega (arith, ap length (wide_single c lt), (form_bounds c).0)
      | inr past ↦ omega (arith, ap length (wide_pair c past), ap length (form_past c past))
    ]

pub units_fit : (b : List ℕ) → IsWtf8 b → length (units_of b) ≤ length b
units_fit b w = omega (arith, ap length w.1.joined, ap (λ cs. length (units cs)) (code_points_in-encoded b w.0 w.1), few_units w.0)

-- the text before the same end is the same
same_before : (a b after : List ℕ) → a ++ after ≡ b ++ after → a ≡ b
same_before a b after e = (append_same a after b after e (omega (arith, ap length e, length-append a after, length-append b after))).0

-- a reading, the steps of which begin here
module _ (R : List ℕ → List ℕ → List ℕ → Type 0) (start : Index) (some : (text : List ℕ) → R (word_from start text).1 text (word_from start text).0) (one : (a b text x y : List ℕ) → R a text x → R b text y → (x ≡ y) × (a ≡ b)) (own_text : (after text word : List ℕ) → R after text word → IsAlone (R []) after text word) (lifted : (f : ℕ → List ℕ) → IsForm f → (after text word : List ℕ) → R after text word → R (flat_map f after) (flat_map f text) (flat_map f word)) (means : (text word : List ℕ) → R [] text word → meant start text ≡ word) where
  -- the code points of a text that is read so, after these, are cut where its bytes are
  cut_points : (before es raw rest word : List ℕ) → AllByRecursion IsCodePoint (before ++ es) → HasNoSurrogatePair (before ++ es) → flat_map encode es ≡ raw ++ rest → R rest (raw ++ rest) word → IsWtf8 raw × (IsWtf8 rest × R (units_of rest) (units es) (meant start (units_of raw)))
  cut_points before es raw rest word points pairs bytes reads =
      let read = word_from start es in
      let a = own_text read.1 es read.0 (some es) in
      let rest_is : rest ≡ flat_map encode read.1 = (one rest (flat_map encode read.1) (raw ++ rest) word (flat_map encode read.0) reads (subst (λ z. R (flat_map encode read.1) z (flat_map encode read.0)) bytes (lifted encode bytes_form read.1 es read.0 (some es)))).1 in
      let raw_is : raw ≡ flat_map encode a.own = same_before raw (flat_map encode a.own) (flat_map encode read.1) (ap (λ z. raw ++ z) (sym rest_is) ∙ sym bytes ∙ ap (flat_map encode) a.joined ∙ flat_map-append encode a.own read.1) in
      let whole : before ++ es ≡ before ++ (a.own ++ read.1) = ap (λ z. before ++ z) a.joined in
      let both = encodes_suffix before (a.own ++ read.1) (subst (AllByRecursion IsCodePoint) whole points) (subst HasNoSurrogatePair whole pairs) in
      let prefix = encodes_prefix a.own read.1 both.code_points both.no_pair in
      let suffix = encodes_suffix a.own read.1 both.code_points both.no_pair in
      let rest_units : units_of rest ≡ units read.1 = ap units_of rest_is ∙ ap units (code_points_in-encoded _ read.1 suffix) in
      let raw_units : units_of raw ≡ units a.own = ap units_of raw_is ∙ ap units (code_points_in-encoded _ a.own prefix) in
      let meaning : meant start (units_of raw) ≡ units read.0 = ap (meant start) raw_units ∙ means (units a.own) (units read.0) (lifted encode_utf16 units_form [] a.own read.0 a.reads) in (
        subst IsWtf8 (sym raw_is) (a.own, prefix),
        (subst IsWtf8 (sym rest_is) (read.1, suffix), subst (λ z. R z (units es) (meant start (units_of raw))) (sym rest_units) (subst (R (units read.1) (units es)) (sym meaning) (lifted encode_utf16 units_form read.1 es read.0 (some es)))),
      )

blanks_are : (blanks : List ℕ) → AllByRecursion IsBlank blanks → flat_map encode blanks ≡ blanks
blanks_are blanks are = ap (flat_map encode) (sym (append-nil blanks)) ∙ blanks_form encode bytes_form blanks [] are ∙ append-nil blanks

pub cut_argument : (line blanks raw rest argument : List ℕ) → IsWtf8 line → AllByRecursion IsBlank blanks → line ≡ blanks ++ (raw ++ rest) → Begins (raw ++ rest) → Reads rest false (raw ++ rest) argument → IsArgumentCut line raw rest
cut_argument line blanks raw rest argument w are e begins reads =
    let prefix = forms_prefix blanks w.0 (raw ++ rest) (sym w.1.joined ∙ e ∙ ap (λ z. z ++ (raw ++ rest)) (sym (blanks_are blanks are))) in
    let es = prefix.0 in
    let cut = cut_points (λ after text word. Reads after false text word) first_index some_reading one_reading (λ after text word r. alone after false text word r) (λ f form after text word r. lift f form after false text word r) complete_alone blanks es raw rest argument
    (subst (AllByRecursion IsCodePoint) prefix.1 w.1.code_points) (subst HasNoSurrogatePair prefix.1 w.1.no_pair) prefix.2 reads in
    record {
      raw_formed = cut.0;
      rest_formed = cut.1.0;
      next = record {
        blanks = blanks;
        text = units es;
        joined = ap units (code_points_in-encoded line w.0 w.1 ∙ prefix.1) ∙ blanks_form encode_utf16 units_form blanks es are;
        are_blanks = are;
        begins = begins_form encode_utf16 units_form es (form_begins encode bytes_form es (subst Begins (sym prefix.2) begins));
        reads = cut.1.1;
      };
    }

pub cut_name : (line raw rest name : List ℕ) → IsWtf8 line → line ≡ raw ++ rest → ReadsName rest false (raw ++ rest) name → IsNameCut line raw rest
cut_name line raw rest name w e reads =
    let cut = cut_points (λ after text word. ReadsName after false text word) name_index (λ text. some_name text false) one_name (λ after text word r. name_alone after false text word r) (λ f form after text word r. lift_name f form after false text word r) complete_name_alone [] w.0 raw rest name
    w.1.code_points w.1.no_pair (sym w.1.joined ∙ e) reads in
    record { raw_formed = cut.0; rest_formed = cut.1.0; reads = subst (λ z. ReadsName (units_of rest) false z (meant name_index (units_of raw))) (sym (ap units (code_points_in-encoded line w.0 w.1))) cut.1.1 }

-- blanks have blanks as units
pub blank_units : (line blanks : List ℕ) → IsWtf8 line → AllByRecursion IsBlank blanks → line ≡ blanks → AllByRecursion IsBlank (units_of line)
blank_units line blanks w are e =
    let prefix = forms_prefix blanks w.0 [] (sym w.1.joined ∙ e ∙ sym (append-nil blanks) ∙ ap (λ z. z ++ []) (sym (blanks_are blanks are))) in
    let points : w.0 ≡ blanks = prefix.1 ∙ ap (λ z. blanks ++ z) (no_points prefix.0 prefix.2) ∙ append-nil blanks in
    let us : units_of line ≡ blanks = ap units (code_points_in-encoded line w.0 w.1 ∙ points ∙ sym (append-nil blanks)) ∙ blanks_form encode_utf16 units_form blanks [] are ∙ append-nil blanks in
    subst (AllByRecursion IsBlank) (sym us) are

-- a string has no units where it has no bytes, and no other
pub no_units : (b : List ℕ) → IsWtf8 b → b ≡ [] → units_of b ≡ []
no_units b w e = nil_from_length (units_of b) (omega (arith, units_fit b w, ap length e))

pub no_bytes : (b : List ℕ) → IsWtf8 b → units_of b ≡ [] → b ≡ []
no_bytes b w e = w.1.joined ∙ ap (flat_map encode) (none w.0 (sym (ap units (code_points_in-encoded b w.0 w.1)) ∙ e))
  where
    some : (c : ℕ) (us : List ℕ) → encode_utf16 c ++ us ≡ [] → ⊥
    some c us e = elim (cases_lt c 0x1_0000) [
      | inl lt ↦ let f : c ∷ us ≡ [] = ap (λ z. z ++ us) (sym (wide_single c lt)) ∙ e in cc
      | inr past ↦ let n = ap length (ap (λ z. z ++ us) (sym (wide_pair c past)) ∙ e) in omega (arith, n)
    ]

    none : (cs : List ℕ) → units cs ≡ [] → cs ≡ []
    none [] e = refl
    none (c ∷ cs) e = absurd (some c (units cs) e)
