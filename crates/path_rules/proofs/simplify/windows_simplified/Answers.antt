use Rattle.std.proofs.Common.{refl, sym}
use Rattle.path_rules.proofs.lemmas.Simple.{not_plain, not_absolute, not_single, shortened}
use Rattle.path_rules.proofs.simplify.windows_simplified.Goals as goal

pub returns-then-not-are_plain : goal.returns-then-not-are_plain
returns-then-not-are_plain c = not_plain c.args.path.now c.new.result.items c.new.ensures.items (λ h. let never = c.if-not-are_plain.ensures.1 h in cc)

pub returns-then-not-is_absolute : goal.returns-then-not-is_absolute
returns-then-not-is_absolute c = not_absolute c.args.path.now c.split_at.result.1.now c.split_at.ensures.back (λ h. let never = c.if-not-is_absolute.ensures.1 h in cc)

pub returns-then-not-has_single_separators : goal.returns-then-not-has_single_separators
returns-then-not-has_single_separators c = not_single c.args.path.now c.split_at.result.1.now c.split_at.ensures.back (λ h. let never = c.if-not-has_single_separators.ensures.1 h in cc)

pub returns : goal.returns
returns c =
    shortened c.args.path.now c.split_at.result.1.now c.new.result.items c.split_at.ensures.back (sym c.if-not-is_verbatim.ensures) (c.if-not-has_verbatim_drive.ensures.0 refl) c.new.ensures.items (c.if-not-are_plain.ensures.0 refl) (c.if-not-fits.ensures.0 refl) (c.if-not-is_absolute.ensures.0 refl) (c.if-not-has_single_separators.ensures.0 refl)
