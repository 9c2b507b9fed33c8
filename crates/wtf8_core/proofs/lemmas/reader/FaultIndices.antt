-- The index of the first fault: bytes that have been read up to it.
use Rattle.wtf8_core.proofs.Common.{◌≡◌, ℕ, ◌-◌, Bool, List, [], ◌∷◌, ◌++◌, length, drop, Result, Ok, Err, refl, sym, ap, ◌∙◌, subst, arith, append_assoc, Fits, w8, get_or, length-append, drop-append_seam, All, All-drop, All-from_get_or, IsByte, is_high, encode, last_or, BeginsFault, IsFaultAt, first_split, is_high_item, IsFirstItem, IsReadUpTo, EncodingError, flat_map}
use Rattle.wtf8_core.proofs.lemmas.{reader.Complete.split_of_fault, reader.Complete.one_fault, reader.Sound.Begins, reader.Sound.begins_item, forms.Appending.last_append, forms.Appending.encodes_more}

module _ {bytes : List ℕ} {h : Bool} {rest later : List ℕ} {item : Result ℕ EncodingError} (fits : (i : ℕ) → Fits w8 (get_or bytes i 0)) (r : IsReadUpTo bytes h rest) (i : IsFirstItem h rest item later) where
  abbrev p : ℕ
  p = last_or 0 r.code_points

  read : Begins p rest (item, later)
  read =
      let all : All IsByte bytes = All-from_get_or IsByte bytes 0 (λ j _. omega (arith, fits j)) in
      let left : All IsByte rest = subst (All IsByte) (ap (drop (length r.prefix)) r.joined ∙ drop-append_seam r.prefix rest) (All-drop IsByte (length r.prefix) bytes all) in
      begins_item p rest later item left (subst (λ t. IsFirstItem t rest item later) (sym r.high_is) i)

  -- one more code point is read
  pub read_more : (c : ℕ) (high : Bool) → item ≡ Ok c → high ≡ is_high_item item → IsReadUpTo bytes high later
  read_more c high e k =
      let w : Begins p rest (Ok c, later) = subst (λ t. Begins p rest (t, later)) e read in
      record {
        code_points = r.code_points ++ c ∷ [];
        prefix = r.prefix ++ encode c;
        joined = r.joined ∙ ap (λ x. r.prefix ++ x) w.2 ∙ sym (append_assoc r.prefix (encode c) later);
        encoded = encodes_more r.prefix r.code_points c r.encoded w.0 w.1;
        high_is = ap is_high (last_append 0 r.code_points (c ∷ [])) ∙ sym (k ∙ ap is_high_item e);
      }

  -- the first fault is read
  pub fault_read : (f : EncodingError) → item ≡ Err f → IsFaultAt bytes (length bytes - length rest) (length rest - length later)
  fault_read f e =
      let w : Begins p rest (Err f, later) = subst (λ t. Begins p rest (t, later)) e read in
      let s = w.0 in
      record {
        code_points = r.code_points;
        fault = f;
        first = record { before = r.prefix; from = rest; joined = r.joined; encoded = r.encoded; begins = s };
        valid_is = omega (arith, ap length r.joined ∙ length-append r.prefix rest);
        refused_is = omega (arith, ap length s.is ∙ length-append s.refused s.rest, ap length w.1);
      }

-- as many bytes are refused, whatever comes before them
refused_once : (p q : ℕ) (b c : List ℕ) (f g : EncodingError) → b ≡ c → (s : BeginsFault p b f) → (t : BeginsFault q c g) → length s.refused ≡ length t.refused
refused_once p q b c f g e s t =
    let rest = ap length (sym (ap (λ z. z.1) (split_of_fault p b f s)) ∙ after_high b ∙ ap (λ z. (first_split (is_high q) z).1) e ∙ ap (λ z. z.1) (split_of_fault q c g t)) in
    omega (arith, rest, ap length s.is ∙ length-append s.refused s.rest, ap length t.is ∙ length-append t.refused t.rest, ap length e)
  where
    after_high : (b : List ℕ) → (first_split (is_high p) b).1 ≡ (first_split (is_high q) b).1
    after_high [] = refl
    after_high (x ∷ b) = refl

pub one_fault_index : (bytes : List ℕ) (n m k l : ℕ) → IsFaultAt bytes n k → IsFaultAt bytes m l → (n ≡ m) × (k ≡ l)
one_fault_index bytes n m k l s t =
    let one = one_fault bytes s.code_points t.code_points s.fault t.fault s.first t.first in
    let before : s.first.before ≡ t.first.before = s.first.encoded.joined ∙ ap (flat_map encode) one.0 ∙ sym t.first.encoded.joined in
    let from : s.first.from ≡ t.first.from =
    sym (drop-append_seam s.first.before s.first.from)
    ∙ ap (drop (length s.first.before)) (sym s.first.joined)
    ∙ ap (λ z. drop (length z) bytes) before
    ∙ ap (drop (length t.first.before)) t.first.joined
    ∙ drop-append_seam t.first.before t.first.from
    in (
      s.valid_is ∙ ap length before ∙ sym t.valid_is,
      s.refused_is ∙ refused_once _ _ s.first.from t.first.from s.fault t.fault from s.first.begins t.first.begins ∙ sym t.refused_is,
    )
