-- How far braces have been looked at: only private contracts name this.
use Rattle.std.specs.Prelude.{◌≡◌, ℕ, nat_eq, cond, Some}
use Rattle.glob_text.specs.declared.braces.Scan.{Scan}
use Rattle.glob_text.specs.declared.braces.Scan.TheVariants as scan
use Rattle.glob_text.specs.Marks.{Mark, literal, any, star, one_of, opens, comma, closes}
use Rattle.glob_text.specs.Braces.{depth_after}

-- the index of the outermost `{` that is open after the mark
abbrev pub outermost_after : ℕ → ℕ → Mark → ℕ
outermost_after depth outermost (literal letter) = outermost
outermost_after depth outermost any = outermost
outermost_after depth outermost (star again) = outermost
outermost_after depth outermost (one_of negated ranges) = outermost
outermost_after depth outermost (opens index) = cond (nat_eq depth 0) index outermost
outermost_after depth outermost comma = outermost
outermost_after depth outermost (closes index) = outermost

-- what one more mark does to the open alternatives
abbrev pub LookSays : ℕ → ℕ → Mark → Scan → Type 0
LookSays depth outermost mark (scan.Open d o) = (depth_after depth mark ≡ Some d) × (o ≡ outermost_after depth outermost mark)
LookSays depth outermost mark (scan.Unopened index) = (mark ≡ closes index) × (depth ≡ 0)
