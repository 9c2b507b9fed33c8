-- The units of a string, if its bytes have no fault.
use Rattle.platform_str.proofs.Common.{◌≡◌, ℕ, List, [], ◌∷◌, map, Result, Ok, refl, sym, ap, ◌∙◌, flat_map, IsWtf8, HasUnits, units, AreItems, AreUnitItems, unit_items, ok_values, EncodingError, units_whole, ok_values_of_oks}
use Rattle.wtf8_core.specs.Items.AreItems.{Whole, Faulty}
use Rattle.wtf8_core.proofs.lemmas.reader.Complete.{never_both}

abbrev pub Item : Type 0
Item = Result ℕ EncodingError

-- no item is a fault, and the values of the items are the units of the bytes
pub record OkUnits (b : List ℕ) (items : List Item) : Type 0 where
  pub all_ok : items ≡ map Ok (ok_values items)
  pub has : HasUnits b (ok_values items)

-- this holds if the bytes are WTF-8
pub ok_units : {b : List ℕ} {items : List Item} → IsWtf8 b → AreUnitItems b items → OkUnits b items
ok_units {b} {items} w a = by a.items a.are_items a.are
  where
    by : (code_points : List Item) → AreItems b code_points → items ≡ flat_map unit_items code_points → OkUnits b items
    by code_points (Whole r) e =
        let all : items ≡ map Ok (units r.code_points) = e ∙ units_whole r.code_points code_points r.are in
        let values : ok_values items ≡ units r.code_points = ap ok_values all ∙ ok_values_of_oks (units r.code_points) in
        record { all_ok = all ∙ ap (λ l. map Ok l) (sym values); has = record { code_points = r.code_points; encoded = r.encoded; are = values } }
    by code_points (Faulty r l) e = absurd (never_both b w.0 r.code_points r.fault w.1 r.first)

-- the first item is the first value, and no fault comes after it
pub record FirstOk (items rest : List Item) (item : Item) : Type 0 where
  pub unit : ℕ
  pub is : item ≡ Ok unit
  pub others : rest ≡ map Ok (ok_values rest)
  pub values : ok_values items ≡ unit ∷ ok_values rest

first_of : (items rest : List Item) (item : Item) (us : List ℕ) → ok_values items ≡ us → item ∷ rest ≡ map Ok us → items ≡ item ∷ rest → FirstOk items rest item
first_of items rest item [] v e i = absurd (cc)
first_of items rest item (u ∷ us) v e i =
    let first : item ≡ Ok u = cc in
    let values : ok_values items ≡ u ∷ ok_values rest = ap ok_values (i ∙ ap (λ x. x ∷ rest) first) in
    record { unit = u; is = first; others = cc; values = values }

pub first_ok : {items rest : List Item} {item : Item} → items ≡ map Ok (ok_values items) → items ≡ item ∷ rest → FirstOk items rest item
first_ok {items} {rest} {item} a e = first_of items rest item (ok_values items) refl (sym e ∙ a) e
