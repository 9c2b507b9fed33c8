use Rattle.std.proofs.Common.{◌≡◌, ◌≢◌, ℕ, IsTrue, List, [], ◌∷◌, false, refl, sym, ap, ◌∙◌}
use Rattle.std.proofs.lemmas.Bool.{true≢false}
use Rattle.std.proofs.lemmas.List.Elements.{All-from_recursion, recursion_from_All}
use Rattle.std.specs.List.{AllByRecursion}
use Rattle.std.specs.Str.{chars}
use Rattle.std.specs.Prelude.{string_bytes}
use Rattle.os_quote.specs.Shown.{stays_on_line}
use Rattle.test_uses.proofs.Outcomes.{where_ok}
use Rattle.test_uses.proofs.line_escapes.line_without_unseen.Goals as goal

-- a character that stays isn't one that doesn't
other : (c hidden : ℕ) → stays_on_line hidden ≡ false → IsTrue (stays_on_line c) → c ≢ hidden
other c hidden h t e = true≢false (sym t ∙ ap stays_on_line e ∙ h)

abbrev Seen : ℕ → Type 0
Seen c = c ≢ 0x0A × (c ≢ 0xAD × (c ≢ 0xA0 × (c ≢ 0x3000 × (c ≢ 0x202E × (c ≢ 0x2800 × (c ≢ 0xFE0F × (c ≢ 0xE_0041 × (c ≢ 0xE000 × (c ≢ 0xFFFE × (c ≢ 0x1_D159))))))))))

all_seen : (cs : List ℕ) → AllByRecursion (λ c. IsTrue (stays_on_line c)) cs → AllByRecursion Seen cs
all_seen [] a = tt
all_seen (c ∷ cs) a =
    ((other c 0x0A refl a.0, (other c 0xAD refl a.0, (other c 0xA0 refl a.0, (other c 0x3000 refl a.0, (other c 0x202E refl a.0, (other c 0x2800 refl a.0, (other c 0xFE0F refl a.0, (other c 0xE_0041 refl a.0, (other c 0xE000 refl a.0, (other c 0xFFFE refl a.0, other c 0x1_D159 refl a.0)))))))))), all_seen cs a.1)

pub returns : goal.returns
returns g c =
    where_ok (λ text is. All-from_recursion Seen (chars (string_bytes text)) (all_seen (chars (string_bytes text)) (recursion_from_All (λ c. IsTrue (stays_on_line c)) (chars (string_bytes text)) (c.line_escapes.ensures.one_line _ _ c.args.string.ok is)))) c.escape_line.result c.escape_line.ensures
