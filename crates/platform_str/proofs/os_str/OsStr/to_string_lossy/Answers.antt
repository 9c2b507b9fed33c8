use Rattle.std.proofs.Common.{sym, subst, ap, ◌∙◌}
use Rattle.std.specs.Str.{IsUtf8}
use Rattle.wtf8_core.proofs.lemmas.texts.LossyTexts.{no_text}
use Rattle.platform_str.proofs.os_str.OsStr.to_string_lossy.Goals as goal

pub returns-in_err-text-clause-without_memory : goal.returns-in_err-text-clause-without_memory
returns-in_err-text-clause-without_memory g c = λ text. absurd (no_text _ _ c.in-Some.ensures.valid text)

pub from_utf8_unchecked-requires : goal.from_utf8_unchecked-requires
from_utf8_unchecked-requires g c = subst IsUtf8 (sym c.in_ok-text.ensures) (g.met.E.Platform.laws.lossy_utf8 _ c.args.self.ok)

pub returns-clause-text : goal.returns-clause-text
returns-clause-text g c = ap (λ v. v.items) c.from_utf8_unchecked.ensures.value ∙ c.in_ok-text.ensures
