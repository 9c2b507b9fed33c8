use Rattle.os_str_ext.proofs.Common.{◌≡◌, ◌+◌, ◌-◌, ℕ, arith, subst, ⊎_elim, false≢true, eqb-true, eq-eqb, WholeCharacter}
use Rattle.os_str_ext.proofs.boundary.ends_character.Goals as goal

pub returns-in-None : goal.returns-in-None
returns-in-None c = (λ e. absurd (false≢true e), λ h. absurd (c.in-None.ensures _ h))

pub returns-in-Some : goal.returns-in-Some
returns-in-Some c =
    let s = c.args.bytes.now in
    let i = c.args.at - c.args.size in
    let m = c.in-Some.found in
    let back : i + c.args.size ≡ c.args.at = omega (arith, c.requires) in
    let P : ℕ → Type 0 = λ j. WholeCharacter s i j in (
      λ e.
          let same = eqb-true m c.args.size e in
          let end : i + m ≡ c.args.at = omega arith in
          subst P end c.in-Some.ensures,
      λ h.
          let one = c.characters.ensures.fits s i _ c.in-Some.ensures in
          let other = c.characters.ensures.fits s i _ h in
          ⊎_elim
          (λ same. let end = same.1 in eq-eqb m c.args.size (omega arith))
          (⊎_elim (λ le. absurd (omega arith)) (λ le. absurd (omega arith)))
          (c.characters.ensures.apart s i _ i _ c.in-Some.ensures h),
    )
