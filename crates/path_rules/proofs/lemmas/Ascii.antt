-- Separators are ASCII.
use Rattle.std.proofs.Common.{◌≡◌, ◌<◌, ℕ, Bool, true, false, nat_eq, ◌||◌, List, [], ◌∷◌, refl, sym, ap, ◌∙◌, arith, eqb-true}
use Rattle.path_rules.specs.declared.rules.Rules.{Rules}
use Rattle.path_rules.specs.declared.rules.Rules.TheVariants as rules
use Rattle.path_rules.specs.Separators.{separates, Edge}
use Rattle.path_rules.specs.Cut.{IsAsciiCut, at_end, before_ascii}

pub ascii_separators : (r : Rules) (b : ℕ) → separates r b ≡ true → b < 0x80
ascii_separators rules.Slash b e = let s : b ≡ 0x2F = eqb-true b 0x2F e in omega arith
ascii_separators rules.Verbatim b e = let s : b ≡ 0x5C = eqb-true b 0x5C e in omega arith
ascii_separators rules.Either b e = cases (nat_eq b 0x2F) refl
  where
    cases : (v : Bool) → nat_eq b 0x2F ≡ v → b < 0x80
    cases true f = let s : b ≡ 0x2F = eqb-true b 0x2F f in omega arith
    cases false f = let s : b ≡ 0x5C = eqb-true b 0x5C (sym (ap (λ x. x || nat_eq b 0x5C) f) ∙ e) in omega arith

-- at an edge a path is cut beside ASCII
pub edge_cut : (r : Rules) (before after : List ℕ) → Edge r after → IsAsciiCut before after
edge_cut r before [] h = at_end refl
edge_cut r before (c ∷ after) h = before_ascii c after refl (ascii_separators r c h)
