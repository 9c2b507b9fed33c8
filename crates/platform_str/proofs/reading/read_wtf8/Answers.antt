use Rattle.platform_str.proofs.Common.{◌≡◌, ℕ, List, ◌++◌, take, drop, sym, ap, ◌∙◌, subst, append_assoc, take_at, drop_at, replacement, IsLeftToRead, refl}
use Rattle.wtf8_core.specs.{Fault.IsFaultAt, LossyReading.IsLossyReading, LossyReading.IsLossyReading.formed, LossyReading.IsLossyReading.replaced}
use Rattle.wtf8_core.proofs.lemmas.reader.LossyReadings.{reading_wtf8}
use Rattle.platform_str.proofs.reading.read_wtf8.Goals as goal

module _ {rest : List ℕ} {v n : ℕ} (f : IsFaultAt rest v n) where
  prefix_is : take v rest ≡ f.first.before
  prefix_is = ap (take v) f.first.joined ∙ take_at f.first.before f.first.from v (sym f.valid_is)

  faulty_is : drop v rest ≡ f.first.from
  faulty_is = ap (drop v) f.first.joined ∙ drop_at f.first.before f.first.from v (sym f.valid_is)

  after_is : drop n (drop v rest) ≡ f.first.begins.rest
  after_is = ap (drop n) (faulty_is ∙ f.first.begins.is) ∙ drop_at f.first.begins.refused f.first.begins.rest n (sym f.refused_is)

  -- the text before the fault and one U+FFFD are made, and what follows the part is left
  read_part : (all made : List ℕ) {prefix faulty after once twice : List ℕ} → IsLeftToRead all made rest → prefix ≡ take v rest → faulty ≡ drop v rest → after ≡ drop n faulty
      → once ≡ made ++ prefix → twice ≡ once ++ replacement → IsLeftToRead all twice after
  read_part all made {prefix} {faulty} {after} {once} {twice} left a b d o t later r =
      let prefix_first : IsLossyReading rest (f.first.before ++ (replacement ++ later)) =
      replaced f.first (subst (λ x. IsLossyReading x later) (d ∙ ap (drop n) b ∙ after_is) r) in
      let made_is : twice ++ later ≡ made ++ (f.first.before ++ (replacement ++ later)) =
      ap (λ x. x ++ later) (t ∙ ap (λ x. x ++ replacement) (o ∙ ap (λ x. made ++ x) (a ∙ prefix_is)))
      ∙ append_assoc (made ++ f.first.before) replacement later
      ∙ append_assoc made f.first.before (replacement ++ later) in
      subst (IsLossyReading all) (sym made_is) (left (f.first.before ++ (replacement ++ later)) prefix_first)

pub loop-valid_up_to-preserved : goal.loop-valid_up_to-preserved
loop-valid_up_to-preserved g c = read_part c.in-Some.ensures c.args.bytes.now _ c.loop-valid_up_to.invariant refl c.split_at.ensures.back c.split_at-in-Some.ensures.back refl c.in_ok-push_replaced.ensures

pub returns-clause-reading : goal.returns-clause-reading
returns-clause-reading g c = subst (IsLossyReading c.args.bytes.now) (sym c.in_ok-extend_from_slice.ensures.items) (c.loop-valid_up_to.invariant _ (formed c.in_default.ensures))

pub returns-clause-formed : goal.returns-clause-formed
returns-clause-formed g c = reading_wtf8 c.args.bytes.now _ (returns-clause-reading g c)
