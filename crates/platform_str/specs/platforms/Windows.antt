-- The strings of Windows: WTF-8. What its words mean, and its records of laws, proved; that of occurrences is wtf8_core's.
use Rattle.std.proofs.Common.{◌≤◌, ◌++◌, length, drop, sym, ap, ◌∙◌, subst, arith}
use Rattle.std.specs.Str.{IsUtf8}
use Rattle.wtf8_core.specs.{Checker.HasFirstFault, Wtf8.IsWtf8, UnitsOf.units_of, UnitsOf.wtf8_lossy, Lossy.replacement, LossyReading.IsLossyReading, PartUnits.AreLoneSurrogates, LossyReading.IsLossyReading.formed}
use Rattle.wtf8_core.proofs.lemmas.{reader.Complete.never_both, reader.Complete.one_fault, reader.LossyReadings.one_reading, reader.LossyReadings.some_reading, reader.LossyReadings.reading_wtf8, units.AsFunction.one_encoding, units.AsFunction.some_encoding, units.AsFunction.units_listed, units.AsFunction.units_cut, characters.AtIndices.none_begins, forms.Cuts.wtf8_cut, chunks.PartUnits.uncovered_wtf8, texts.LossyTexts.wtf8_lossy_prefix, texts.LossyTexts.surrogate_first, texts.WithoutSurrogates.cut_at_lead, texts.AreWtf8.wtf8_of_text, texts.AreWtf8.wtf8_lossy_text, texts.AreWtf8.wtf8_lossy_is_utf8, texts.AreWtf8.wtf8_after_text}
use Rattle.platform_str.specs.{Laws.PlatformLaws, Laws.PartLaws, Laws.ReadingLaws, PlatformWords.AreWideUnits, PlatformWords.IsThree}

pub windows_laws : PlatformLaws HasFirstFault IsWtf8 units_of AreWideUnits IsUtf8 wtf8_lossy IsThree
windows_laws = record {
  faulty = λ b f k h. never_both b h.0 k.0 f h.1 k.1;
  one_fault = λ b f g k l. (one_fault b k.0 l.0 f g k.1 l.1).1;
  one_encoding = one_encoding;
  some_encoding = some_encoding;
  unit_list = units_listed;
  text = wtf8_of_text;
  text_io_safe = λ b h. h;
  io_safe_string = wtf8_of_text;
  after_text = wtf8_after_text;
  three = λ b c n h k r. r;
  cut_prefix = λ b i h k. (wtf8_cut b i h k).0;
  cut_suffix = λ b i h k. (wtf8_cut b i h k).1;
  cut_lead = λ b i lt h n. (cut_at_lead b i lt h n).1;
  cut_units = units_cut;
  lossy_utf8 = wtf8_lossy_is_utf8;
  lossy_text = wtf8_lossy_text;
  lossy_prefix = λ b n h v. wtf8_lossy_prefix b n h v.front;
  lossy_step = λ b n h s k r.
      let p = surrogate_first b h s (none_begins b k) in
      record { some = omega (arith, r); within = subst (λ m. m ≤ length b) (sym r) p.within; after = subst (λ m. IsWtf8 (drop m b)) (sym r) p.rest; lossy_is = p.lossy ∙ ap (λ m. replacement ++ wtf8_lossy (drop m b)) (sym r) };
}

pub windows_parts : PartLaws IsWtf8 units_of AreLoneSurrogates
windows_parts = record { encoded = λ b h k. (uncovered_wtf8 b h k).0; are_units = λ b h k. (uncovered_wtf8 b h k).1; are_wide = λ b h k. units_listed b h }

pub windows_readings : ReadingLaws IsWtf8 IsLossyReading
windows_readings = record {
  reading_formed = λ b c a r. reading_wtf8 b c r;
  reads_itself = λ b h. formed h;
  one_reading = one_reading;
  some_reading = some_reading;
}
