-- The lemmas of laws.
use Rattle.wtf8_core.proofs.Common.{recursion_from_All}
use Rattle.wtf8_core.proofs.lemmas.{chunks.OneList.one_list_of_chunks, forms.ByStd.form_encode, forms.Order.order_of_encoded, occurrence.Wtf8.wtf8_occurrence, reader.Complete.one_list_of_items, reader.LossyReadings.readings, reader.Sound.either, table.Pieces.extends, texts.AreWtf8.lossy_texts, texts.LossyTexts.one_utf8_fault, units.AsFunction.has_lossy_text, units.OneToOne.units_encoded}

pub ruleset laws = (one_list_of_chunks, form_encode, order_of_encoded, wtf8_occurrence, one_list_of_items, readings, extends, lossy_texts, one_utf8_fault, either, has_lossy_text, units_encoded, recursion_from_All)
