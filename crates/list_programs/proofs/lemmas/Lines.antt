-- Plain bytes are their own escape on a line.
use Rattle.std.proofs.Common.{◌≡◌, false, ℕ, ◌<◌, List, [], ◌∷◌, length, subst, arith}
use Rattle.std.specs.List.{AllByRecursion}
use Rattle.std.specs.Str.{IsUtf8}
use Rattle.std.proofs.Math.Seq.{take-length}
use Rattle.os_str_bytes.specs.Laws.{PartLaws}
use Rattle.os_quote.specs.Escape.{IsLineEscape}
use Rattle.os_quote.specs.Plain.{IsPlain, IsPlainUpTo}
use Rattle.os_quote.specs.Ending.{ends_in_space}
use Rattle.os_quote.specs.declared.form.Form.TheVariants.{Line}
use Rattle.os_quote.proofs.lemmas.Escapes.{own_escape}
use Rattle.os_quote.proofs.lemmas.PlainBytes.{plain_prefix, plain_is_text, plain_is_own}
use Rattle.list_programs.specs.Items.{Lacks}

-- plain bytes that don't end in a space
abbrev pub IsPlainLine : List ℕ → Type 0
IsPlainLine bytes = IsPlainUpTo bytes (length bytes) × (ends_in_space bytes ≡ false)

all_plain : (bytes : List ℕ) → IsPlainLine bytes → AllByRecursion IsPlain bytes
all_plain bytes h = subst (AllByRecursion IsPlain) (take-length bytes) (plain_prefix bytes (length bytes) h.0.plain)

pub own_line : (well_formed : List ℕ → Type 0) (units : List ℕ → List ℕ) (part_units : List ℕ → Type 0) → PartLaws well_formed units part_units → well_formed [] → (bytes : List ℕ) → IsPlainLine bytes → IsLineEscape units bytes bytes
own_line well_formed units part_units parts none bytes h =
    let all = all_plain bytes h in
    own_escape Line well_formed units part_units parts bytes none (plain_is_text bytes all) (plain_is_own Line bytes all) h.1

pub plain_is_utf8 : (bytes : List ℕ) → IsPlainLine bytes → IsUtf8 bytes
plain_is_utf8 bytes h = plain_is_text bytes (all_plain bytes h)

-- no control character is plain
pub plain_lacks : (byte : ℕ) → byte < 0x20 → (bytes : List ℕ) → IsPlainLine bytes → Lacks byte bytes
plain_lacks byte control bytes h = by bytes (all_plain bytes h)
  where
    by : (bs : List ℕ) → AllByRecursion IsPlain bs → Lacks byte bs
    by [] a = tt
    by (b ∷ bs) a = let low = a.0.0.0 in (λ e. omega (arith, low, control, e), by bs a.1)
