-- How far a text has been read into a buffer.
use Rattle.os_quote.proofs.Common.{◌≡◌, ℕ, ◌+◌, ◌-◌, ◌≤◌, Bool, false, List, [], ◌∷◌, ◌++◌, length, take, take_at, refl, sym, ap, ◌∙◌, subst, arith, append-nil, length-append, AllByRecursion, IsUtf8, IsUtf8-nil, AreUnchanged, Chunk, AreChunks, PartLaws, Item, backslash, item_text, item_texts, IsItem, BeginsNoToken, IsBadEscapeBy, IsEscapeBy, HasNoBackslash, IsCutAtFirst, AreBytesRead, IsRead, item_bytes, IsChunkOf, before_ending, has_ending, shown_by}
use Rattle.os_quote.specs.declared.form.Form.{Form}
use Rattle.std.proofs.Common.{Result, Ok, Err, IfOk, IfErr, MatchResult}
use Rattle.wtf8_core.specs.Truncated.{IsTruncated}
use Rattle.wtf8_core.proofs.lemmas.buffers.Truncated.{whole, none_yet}
use Rattle.os_quote.specs.Unescaped.{IsUnescapedBy}
use Rattle.os_quote.proofs.lemmas.{ItemLengths.item_is_short, ItemLengths.items_are_short, Escapes.one_reading, Escapes.one_string, Escapes.never_bad, Escapes.own_escape, Texts.unchanged_text, Readings.read_all, Readings.read_bad, Readings.read_more, Readings.read_no_bad}

-- what is known of a result, and two things of each error
pub with_both : {A B : Type 0} (P : A → Type 0) (Q S : B → Type 0) (r : Result A B) → IfOk r P → IfErr r Q → IfErr r S → MatchResult r P (λ e. Q e × S e)
with_both P Q S (Ok x) ok err also = ok
with_both P Q S (Err e) ok err also = (err, also)

module _ (shows : ℕ → Bool) where
  -- what is read and what is left have no more bytes than the text
  pub read_is_short : (text decoded rest : List ℕ) → IsRead shows text decoded rest → length decoded + length rest ≤ length text
  read_is_short text decoded rest r = omega (arith, (items_are_short shows r.items r.are).1, ap length r.bytes_are, ap length r.joined, length-append (item_texts r.items) rest)

  -- there is a number for those that are read with the next ones
  pub room_for_prefix : (bytes decoded rest prefix following : List ℕ) (count : ℕ) → AreBytesRead shows bytes decoded rest → IsCutAtFirst rest prefix following → count ≡ length decoded → count + length prefix ≤ length bytes
  room_for_prefix bytes decoded rest prefix following count r cut n = omega (arith, r.short, n, ap length cut.joined, length-append prefix (backslash ∷ following))

  -- and with the token after them
  pub room_for_token : (bytes decoded rest prefix following : List ℕ) (item : Item) (after : List ℕ) (count : ℕ) → AreBytesRead shows bytes decoded rest → IsCutAtFirst rest prefix following → IsItem shows item → backslash ∷ following ≡ item_text item ++ after → count ≡ length decoded
      → count + length prefix + length (item_bytes item) ≤ length bytes
  room_for_token bytes decoded rest prefix following item after count r cut i t n =
      let short = item_is_short shows item i in
      omega (arith, r.short, n, ap length cut.joined, length-append prefix (backslash ∷ following), ap length t, length-append (item_text item) after, short.some)

  -- those up to the token have been read, or all, or no token begins there
  pub more_bytes_read : (bytes decoded rest prefix following : List ℕ) (item : Item) (after : List ℕ) → AreBytesRead shows bytes decoded rest → IsCutAtFirst rest prefix following → IsItem shows item → backslash ∷ following ≡ item_text item ++ after
      → AreBytesRead shows bytes ((decoded ++ prefix) ++ item_bytes item) after
  more_bytes_read bytes decoded rest prefix following item after r cut i t = record {
    short = omega (arith, room_for_token bytes decoded rest prefix following item after (length decoded) r cut i t refl, r.short, ap length cut.joined, length-append prefix (backslash ∷ following), ap length t, length-append (item_text item) after, (item_is_short shows item i).some, length-append decoded prefix, length-append (decoded ++ prefix) (item_bytes item));
    read = λ u. read_more shows bytes decoded rest prefix following item after (decoded ++ prefix) ((decoded ++ prefix) ++ item_bytes item) (r.read u) cut i t refl refl;
  }

  pub all_bytes_read : (bytes decoded rest : List ℕ) → AreBytesRead shows bytes decoded rest → HasNoBackslash rest → AreBytesRead shows bytes (decoded ++ rest) []
  all_bytes_read bytes decoded rest r none = grind (arith, length-append, read_all)

  pub bad_bytes_read : (bytes decoded rest prefix following : List ℕ) → AreBytesRead shows bytes decoded rest → IsCutAtFirst rest prefix following → BeginsNoToken shows (backslash ∷ following) → IsUtf8 bytes → IsBadEscapeBy shows bytes (length bytes - length following - 1)
  bad_bytes_read bytes decoded rest prefix following r cut none u = read_bad shows bytes decoded rest prefix following (r.read u) cut none

module _ (form : Form) where
  module _ (well_formed : List ℕ → Type 0) (units : List ℕ → List ℕ) (part_units : List ℕ → Type 0) (parts : PartLaws well_formed units part_units)
      (each : (s : List ℕ) (cs : List Chunk) → well_formed s → AreChunks (before_ending form s) cs → AllByRecursion (IsChunkOf well_formed) cs) (text old new : List ℕ) (count : ℕ) where
    -- what was read
    pub unescaped : (decoded : List ℕ) → IsRead (shown_by form) text decoded [] → IsTruncated decoded old new count → (count ≤ length old → well_formed decoded × IsEscapeBy form units decoded text) → IsUnescapedBy form well_formed units text old new count
    unescaped decoded r t escape = record {
      string = decoded;
      written = t;
      short = omega (arith, read_is_short (shown_by form) text decoded [] r, t.count_is);
      escape = escape;
      only = λ s w e. one_reading form well_formed units part_units parts each text r.items s r.are (r.joined ∙ append-nil (item_texts r.items)) w e ∙ sym r.bytes_are;
      tokens = λ n. read_no_bad (shown_by form) text decoded n r;
    }

    -- a text of which each character is unchanged, written at the start of the buffer
    pub own_unescaped : {bytes : List ℕ} → ((t : List ℕ) → IsUtf8 t → well_formed t) → IsUtf8 text → AreUnchanged (shown_by form) text → has_ending form text ≡ false → bytes ≡ text → ((t buffer : List ℕ) → IsTruncated t buffer old 0 → IsTruncated (t ++ bytes) buffer new count)
        → IsUnescapedBy form well_formed units text old new count
    own_unescaped texts u unchanged none e written =
        let w = texts text u in
        let own = own_escape form well_formed units part_units parts text (texts [] IsUtf8-nil) u (unchanged_text (shown_by form) text u unchanged) none in
        let t = subst (λ x. IsTruncated x old new count) e (written [] old (none_yet old)) in
        record {
          string = text;
          written = t;
          short = omega (arith, t.count_is);
          escape = λ _. (w, own);
          only = λ s v e. one_string form well_formed units part_units parts each s text text v w e own;
          tokens = λ n. never_bad form well_formed units part_units parts each text text n w own;
        }

-- a vector in which the text had room, cut after so many bytes, is the string
pub unescaped_whole : {form : Form} {well_formed : List ℕ → Type 0} {units : List ℕ → List ℕ} {bytes text old new written : List ℕ} {count len : ℕ} (more : List ℕ) → (IsUtf8 bytes → IsUnescapedBy form well_formed units bytes old new count) → IsUtf8 text → bytes ≡ text → length text ≤ length old → length old ≡ len → written ≡ take count (take len (new ++ more))
    → well_formed written × IsEscapeBy form units written text
unescaped_whole {form} {well_formed} {units} {text = text} {old = old} {new = new} {count = count} {len = len} more read is_text same room size is =
    let u = subst (λ x. IsUnescapedBy form well_formed units x old new count) same (read (subst IsUtf8 (sym same) is_text)) in
    let fits : count ≤ length new = omega (arith, u.short, room, u.written.same_length) in
    let all : length new ≡ len = omega (arith, size, u.written.same_length) in
    subst (λ x. well_formed x × IsEscapeBy form units x text) (sym (is ∙ ap (take count) (take_at new more len all) ∙ whole u.string old new count u.written fits)) (u.escape (omega (arith, u.short, room)))
