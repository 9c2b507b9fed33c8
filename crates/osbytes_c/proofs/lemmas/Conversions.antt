-- Units and bytes that are read one by one and written into a buffer.
use Rattle.std.proofs.Common.{◌≡◌, ℕ, ◌*◌, ◌<◌, List, [], ◌∷◌, ◌++◌, length, Result, Ok, Err, subst, sym, ap, ◌∙◌, arith, append_assoc}
use Rattle.std.proofs.lemmas.List.{append-nil, length-append}
use Rattle.wtf8_core.specs.Wtf8.{HasUnits}
use Rattle.wtf8_core.specs.Items.{AreUnitItems}
use Rattle.wtf8_core.specs.declared.fault.EncodingError.{EncodingError}
use Rattle.wtf8_core.proofs.lemmas.reader.FirstErr.{oks, one_more_ok, units_all_ok, units_first_err}
use Rattle.wtf8_core.specs.Checker.{HasFirstFault}
use Rattle.osbytes_c.proofs.lemmas.Room.{unit_fits, bytes_fit}

abbrev Item : Type 0
Item = Result ℕ EncodingError

-- the items of bytes, of which so many units are read and one more item comes
module _ (bytes done : List ℕ) (left rest : List Item) (item : Item) (next : left ≡ item ∷ rest) (all : AreUnitItems bytes (oks done ++ left)) where
  items_next : AreUnitItems bytes (oks done ++ item ∷ rest)
  items_next = subst (λ items. AreUnitItems bytes (oks done ++ items)) next all

  -- there is room for it in a buffer that is as long as the bytes
  pub unit_has_room : length done < length bytes
  unit_has_room = unit_fits bytes done item rest items_next

  -- it is a unit
  pub unit_read : (unit : ℕ) → item ≡ Ok unit → AreUnitItems bytes (oks (done ++ unit ∷ []) ++ rest)
  unit_read unit is =
      subst (AreUnitItems bytes) (ap (λ items. oks done ++ items) (ap (λ x. x ∷ rest) is) ∙ one_more_ok done unit rest) items_next

  -- or the first fault
  pub fault_read : (fault : EncodingError) → item ≡ Err fault → HasFirstFault bytes fault
  fault_read fault is =
      let before = units_first_err bytes done fault rest (subst (AreUnitItems bytes) (ap (λ items. oks done ++ items) (ap (λ x. x ∷ rest) is)) items_next) in
      (before.code_points, before.first)

-- no item is left
pub units_read : (bytes done : List ℕ) (left : List Item) → left ≡ [] → AreUnitItems bytes (oks done ++ left) → HasUnits bytes done
units_read bytes done left end all =
    units_all_ok bytes done (subst (AreUnitItems bytes) (ap (λ items. oks done ++ items) end ∙ append-nil (oks done)) all)

-- the bytes of units, of which so many are read and one more comes
module _ (units left rest done : List ℕ) (byte : ℕ) (next : left ≡ byte ∷ rest) (all : HasUnits (done ++ left) units) where
  pub byte_read : HasUnits ((done ++ byte ∷ []) ++ rest) units
  byte_read = subst (λ bytes. HasUnits bytes units) (ap (λ bytes. done ++ bytes) next ∙ sym (append_assoc done (byte ∷ []) rest)) all

  -- there is room for it in a buffer that is three times as long as the units
  pub byte_has_room : length done < 3 * length units
  byte_has_room =
      let fit = bytes_fit (done ++ left) units all in
      let parts = length-append done left in
      let some = ap length next in
      omega arith

-- no byte is left
pub bytes_read : (units done left : List ℕ) → left ≡ [] → HasUnits (done ++ left) units → HasUnits done units
bytes_read units done left end = subst (λ bytes. HasUnits bytes units) (ap (λ bytes. done ++ bytes) end ∙ append-nil done)
