use Rattle.platform_str.proofs.Common.{[], sym, subst, false≢true, with_items_is, HasUnits, units_of-is, ◌∙◌, nat_tests, common_steps, arith}
use Rattle.platform_str.proofs.lemmas.FromWide.{string_given}
use Rattle.platform_str.proofs.wide.OsString+Windows+A.from_wide.Goals as goal

pub returns-in_err-vec-clause-without_memory : goal.returns-in_err-vec-clause-without_memory
returns-in_err-vec-clause-without_memory g c = λ none. absurd (false≢true (c.in_err-vec.ensures.succeeds (c.wtf8_len-len.ensures [] (subst (HasUnits []) (sym none) (string_given [] tt)))))

pub write_wtf8-requires : goal.write_wtf8-requires
write_wtf8-requires g c = λ string h. c.as_mut_slice.ensures.len ∙ c.in_ok-resize.ensures.len ∙ c.wtf8_len-len.ensures string h

pub from_encoded_bytes_unchecked-requires : goal.from_encoded_bytes_unchecked-requires
from_encoded_bytes_unchecked-requires g c = grind (arith, nat_tests, common_steps, with_items_is, c.resize.new.self.len, c.write_wtf8.auto.bytes, c.as_mut_slice.ensures.len, c.write_wtf8.ensures)

pub returns-clause-has_units : goal.returns-clause-has_units
returns-clause-has_units g c = grind (arith, nat_tests, common_steps, with_items_is, c.resize.new.self.len, c.write_wtf8.auto.bytes, c.as_mut_slice.ensures.len, c.write_wtf8.ensures, c.from_encoded_bytes_unchecked.ensures)

pub returns-clause-units : goal.returns-clause-units
returns-clause-units g c = units_of-is _ _ (returns-clause-has_units g c)
