-- A text cut into pieces that mean themselves, by units.
use Rattle.std.proofs.Common.{◌≡◌, ◌≢◌, ◌⊎◌, inl, inr, ℕ, ◌+◌, ◌-◌, ◌<◌, ◌≤◌, Bool, true, false, List, [], ◌∷◌, ◌++◌, take, length, refl, sym, ap, ◌∙◌, subst, arith, append_assoc, append-nil, length-append}
use Rattle.std.specs.List.{AllByRecursion, flat_map}
use Rattle.std.proofs.lemmas.Bool.{true≢false}
use Rattle.std.proofs.lemmas.Grind.{flat_map-append}
use Rattle.std.proofs.Math.Seq.{take-append_seam}
use Rattle.std.proofs.lemmas.List.{length-replicate, replicate-append-replicate}
use Rattle.wtf8_core.specs.CodePoint.{IsCodePoint, encode, encode_utf16}
use Rattle.wtf8_core.specs.Wtf8.{IsWtf8, HasNoSurrogatePair, units}
use Rattle.wtf8_core.specs.UnitsOf.{units_of}
use Rattle.wtf8_core.proofs.lemmas.forms.Cuts.{bytes_found}
use Rattle.wtf8_core.proofs.lemmas.units.Cuts.{encodes_prefix, encodes_suffix}
use Rattle.wtf8_core.proofs.lemmas.units.AsFunction.{code_points_in-encoded}
use Rattle.os_command_line.specs.declared.windows.place.Place.{Place}
use Rattle.os_command_line.specs.Windows.{backslash, quote, backslashes}
use Rattle.os_command_line.specs.WindowsReader.{index_at, meant, meant_mark, units_left}
use Rattle.os_command_line.specs.WindowsSteps.{last_run, IsCutAtQuote, IsAtQuote, IsPieceCut}
use Rattle.os_command_line.proofs.lemmas.CharacterForms.{IsForm, bytes_form, units_form}
use Rattle.os_command_line.proofs.lemmas.Lists.{both_parts}
use Rattle.os_command_line.proofs.lemmas.WindowsLifted.{run_form, quote_form, slashes_form}
use Rattle.os_command_line.proofs.lemmas.WindowsOneReading.{meant_end}
use Rattle.os_command_line.proofs.lemmas.WindowsStrings.{each_unit, no_units, no_bytes}
use Rattle.os_command_line.proofs.lemmas.WindowsRuns.{run_is}
use Rattle.os_command_line.proofs.lemmas.WindowsMeaning.{none_meant}

-- backslashes, cut in two
cut_in_two : (n k : ℕ) → k ≤ n → backslashes n ≡ backslashes k ++ backslashes (n - k)
cut_in_two n k h = ap backslashes (omega arith) ∙ sym (replicate-append-replicate k (n - k) backslash)

no_quote_past : (x : ℕ) → 0x80 ≤ x → x ≢ quote
no_quote_past x ge e = omega (arith, e, ge)

-- a text without a quotation mark is one piece
pub whole_cut : (p : Place) (text : List ℕ) → IsWtf8 text → text ≢ [] → AllByRecursion (λ u. u ≢ quote) text → (rest : List ℕ) → IsWtf8 rest → rest ≡ [] → IsPieceCut p text text false p rest
whole_cut p text w some h rest v none = record {
  means =
      none_meant p (units_of text) (each_unit (λ u. u ≢ quote) no_quote_past text w h)
      ∙ sym (append-nil (units_of text))
      ∙ ap (λ z. units_of text ++ z) (sym (meant_end (index_at p)) ∙ ap (meant (index_at p)) (sym (no_units rest v none)));
  shorter = omega (arith, ap length none, some_length text some);
}
  where
    some_length : (xs : List ℕ) → xs ≢ [] → 0 < length xs
    some_length [] n = absurd (n refl)
    some_length (x ∷ xs) n = omega arith

-- a string cut around backslashes and a quotation mark
pub record IsCutByUnits (text prefix : List ℕ) (run kept : ℕ) (after : List ℕ) : Type 0 where
  pub piece_formed : IsWtf8 (prefix ++ backslashes kept)
  pub after_formed : IsWtf8 after
  pub own : List ℕ
  pub no_quote : AllByRecursion (λ u. u ≢ quote) own
  pub same_run : last_run 0 own ≡ last_run 0 prefix
  pub same_empty : (own ≡ [] → prefix ≡ []) × (prefix ≡ [] → own ≡ [])
  pub units_are : units_of text ≡ own ++ (backslashes run ++ quote ∷ units_of after)
  pub piece_units : units_of (prefix ++ backslashes kept) ≡ own ++ backslashes kept

pub cut_by_units : (text prefix : List ℕ) (run kept : ℕ) (after : List ℕ) → IsWtf8 text → text ≡ prefix ++ (backslashes run ++ quote ∷ after) → kept ≤ run → AllByRecursion (λ u. u ≢ quote) (prefix ++ backslashes run) → IsCutByUnits text prefix run kept after
cut_by_units text prefix run kept after w e within none =
    let marks = backslashes run ++ quote ∷ [] in
    let more = backslashes (run - kept) ++ quote ∷ [] in
    let found = bytes_found w.0 prefix after marks some (sym w.1.joined ∙ e ∙ ap (λ z. prefix ++ z) (sym (append_assoc (backslashes run) (quote ∷ []) after) ∙ ap (λ z. z ++ after) (sym (marks_form encode bytes_form run)))) in
    let ps = found.prefix in
    let vs = found.suffix in
    let cut : w.0 ≡ (ps ++ backslashes kept) ++ (more ++ vs) = found.cut ∙ ap (λ z. ps ++ (z ++ vs)) halves ∙ regroup ps (backslashes kept) more vs in
    let piece_is : flat_map encode (ps ++ backslashes kept) ≡ prefix ++ backslashes kept = flat_map-append encode ps (backslashes kept) ∙ ap (λ z. z ++ flat_map encode (backslashes kept)) found.prefix_is ∙ ap (λ z. prefix ++ z) (slashes_form encode bytes_form kept) in
    let points = subst (AllByRecursion IsCodePoint) cut w.1.code_points in
    let pairs = subst HasNoSurrogatePair cut w.1.no_pair in
    let own = encodes_prefix (ps ++ backslashes kept) (more ++ vs) points pairs in
    let alone = encodes_prefix ps (backslashes kept) own.code_points own.no_pair in
    let rest = encodes_suffix (ps ++ backslashes kept) (more ++ vs) points pairs in
    let last = encodes_suffix more vs rest.code_points rest.no_pair in
    let alone_units : units_of prefix ≡ units ps = ap units_of (sym found.prefix_is) ∙ ap units (code_points_in-encoded _ ps alone) in
    let prefix_formed : IsWtf8 prefix = subst IsWtf8 found.prefix_is (ps, alone) in
    let after_units : units vs ≡ units_of after = ap units (sym (code_points_in-encoded _ vs last)) ∙ ap units_of found.suffix_is in
    record {
      piece_formed = subst IsWtf8 piece_is (ps ++ backslashes kept, own);
      after_formed = subst IsWtf8 found.suffix_is (vs, last);
      own = units ps;
      no_quote = subst (AllByRecursion (λ u. u ≢ quote)) alone_units (each_unit (λ u. u ≢ quote) no_quote_past prefix prefix_formed (both_parts (λ u. u ≢ quote) prefix (backslashes run) none).0);
      same_run = run_is encode_utf16 units_form 0 ps ∙ sym (run_is encode bytes_form 0 ps) ∙ ap (last_run 0) found.prefix_is;
      same_empty = (λ n. no_bytes prefix prefix_formed (alone_units ∙ n), λ n. sym alone_units ∙ no_units prefix prefix_formed n);
      units_are =
          ap units (code_points_in-encoded text w.0 w.1 ∙ found.cut)
          ∙ flat_map-append encode_utf16 ps (marks ++ vs)
          ∙ ap (λ z. units ps ++ z) (flat_map-append encode_utf16 marks vs ∙ ap (λ z. z ++ units vs) (marks_form encode_utf16 units_form run) ∙ append_assoc (backslashes run) (quote ∷ []) (units vs) ∙ ap (λ z. backslashes run ++ quote ∷ z) after_units);
      piece_units =
          ap units_of (sym piece_is)
          ∙ ap units (code_points_in-encoded _ (ps ++ backslashes kept) own)
          ∙ flat_map-append encode_utf16 ps (backslashes kept)
          ∙ ap (λ z. units ps ++ z) (slashes_form encode_utf16 units_form kept);
    }
  where
    some : 0 < length (backslashes run ++ quote ∷ [])
    some = omega (arith, length-append (backslashes run) (quote ∷ []))

    marks_form : (f : ℕ → List ℕ) (form : IsForm f) (n : ℕ) → flat_map f (backslashes n ++ quote ∷ []) ≡ backslashes n ++ quote ∷ []
    marks_form f form n = run_form f form n (quote ∷ []) ∙ ap (λ z. backslashes n ++ z) (quote_form f form [])

    halves : backslashes run ++ quote ∷ [] ≡ backslashes kept ++ (backslashes (run - kept) ++ quote ∷ [])
    halves = ap (λ z. z ++ quote ∷ []) (cut_in_two run kept within) ∙ append_assoc (backslashes kept) (backslashes (run - kept)) (quote ∷ [])

    regroup : (a b c d : List ℕ) → a ++ ((b ++ c) ++ d) ≡ (a ++ b) ++ (c ++ d)
    regroup a b c d = ap (λ z. a ++ z) (append_assoc b c d) ∙ sym (append_assoc a b (c ++ d))

-- a text cut before a quotation mark, as it was read there
module _ (p : Place) (text before after : List ℕ) (w : IsWtf8 text) (k : IsCutAtQuote text before after) (len : ℕ) (mark : Bool) (to : Place) (a : IsAtQuote p before len mark to) where
  by_units : IsCutByUnits text a.prefix a.run a.kept after
  by_units = cut_by_units text a.prefix a.run a.kept after w (k.joined ∙ ap (λ z. z ++ quote ∷ after) a.before_is ∙ append_assoc a.prefix (backslashes a.run) (quote ∷ after)) a.kept_within (subst (AllByRecursion (λ u. u ≢ quote)) a.before_is k.none_before)

  piece_is : take len before ≡ a.prefix ++ backslashes a.kept
  piece_is = ap (take len) (a.before_is ∙ ap (λ z. a.prefix ++ z) (cut_in_two a.run a.kept a.kept_within) ∙ sym (append_assoc a.prefix (backslashes a.kept) (backslashes (a.run - a.kept)))) ∙ ap (λ n. take n ((a.prefix ++ backslashes a.kept) ++ backslashes (a.run - a.kept))) (a.len_is ∙ sym whole) ∙ take-append_seam (a.prefix ++ backslashes a.kept) (backslashes (a.run - a.kept))
    where
      whole : length (a.prefix ++ backslashes a.kept) ≡ length a.prefix + a.kept
      whole = length-append a.prefix (backslashes a.kept) ∙ ap (λ n. length a.prefix + n) (length-replicate a.kept backslash)

  module _ (piece : List ℕ) (is : piece ≡ take len before) where
    pub piece_formed : IsWtf8 piece
    piece_formed = subst IsWtf8 (sym (is ∙ piece_is)) by_units.piece_formed

    pub cut_there : (rest : List ℕ) → rest ≡ after → IsPieceCut p text piece mark to rest
    cut_there rest r = record {
      means =
          ap (meant (index_at p)) by_units.units_are
          ∙ a.means by_units.own (units_of after) by_units.no_quote by_units.same_run by_units.same_empty
          ∙ sym (append_assoc by_units.own (backslashes a.kept) (meant_mark mark ++ meant (index_at to) (units_of after)))
          ∙ ap (λ z. z ++ (meant_mark mark ++ meant (index_at to) (units_of after))) (sym by_units.piece_units ∙ ap units_of (sym (is ∙ piece_is)))
          ∙ ap (λ z. units_of piece ++ (meant_mark mark ++ meant (index_at to) (units_of z))) (sym r);
      shorter = omega (arith, ap length k.joined, ap length r, length-append before (quote ∷ after));
    }

  pub rest_formed : IsWtf8 after
  rest_formed = by_units.after_formed

-- ---- after the last piece nothing is left, or a mark is next

pub ended : (mark : Bool) (p : Place) (text us : List ℕ) → IsWtf8 text → us ≡ [] → mark ≡ false → (mark ≡ true) ⊎ (text ≡ []) → units_left us mark p (units_of text) ≡ []
ended mark p text us w e f h = elim h [
  | inl t ↦ absurd (true≢false (sym t ∙ f))
  | inr n ↦
      ap (λ z. z ++ (meant_mark mark ++ meant (index_at p) (units_of text))) e
      ∙ ap (λ m. meant_mark m ++ meant (index_at p) (units_of text)) f
      ∙ ap (meant (index_at p)) (no_units text w n)
      ∙ meant_end (index_at p)
]

pub marked : (mark : Bool) (p : Place) (rest us : List ℕ) → us ≡ [] → mark ≡ true → units_left [] mark p rest ≡ quote ∷ units_left us false p rest
marked mark p rest us e t = ap (λ m. meant_mark m ++ meant (index_at p) rest) t ∙ ap (λ z. quote ∷ (z ++ meant (index_at p) rest)) (sym e)
