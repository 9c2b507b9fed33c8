use Rattle.std.proofs.Common.{inl, inr, refl, sym, ◌∙◌, arith}
use Rattle.std.proofs.lemmas.Bool.{false≢true}
use Rattle.osbytes_c.proofs.search.prefix.starts_with.Goals as goal

pub returns-in_default : goal.returns-in_default
returns-in_default g c = record {
  found = λ is. absurd (omega (arith, is));
  none = λ is. absurd (omega (arith, is));
  strings = λ is. absurd (omega (arith, is));
  fault = λ _. inl (g.met.E.Platform.laws.faulty _ _ c.in_default.ensures.cases);
  answers = inr (inr refl);
}

pub returns-in_default-checked : goal.returns-in_default-checked
returns-in_default-checked g c = record {
  found = λ is. absurd (omega (arith, is));
  none = λ is. absurd (omega (arith, is));
  strings = λ is. absurd (omega (arith, is));
  fault = λ _. inr (g.met.E.Platform.laws.faulty _ _ c.in_default-checked.ensures.cases);
  answers = inr (inr refl);
}

pub returns-then-starts_with_os : goal.returns-then-starts_with_os
returns-then-starts_with_os g c =
    let holds = rw (c.in-Ok.ensures.bytes, c.in-Ok-checked.ensures.bytes) at c.starts_with_os.ensures in record {
      found = λ _. holds.0 c.if-starts_with_os.true;
      none = λ is. absurd (omega (arith, is));
      strings = λ _. (c.in-Ok.ensures.cases, c.in-Ok-checked.ensures.cases);
      fault = λ is. absurd (omega (arith, is));
      answers = inl refl;
    }

pub returns-else-starts_with_os : goal.returns-else-starts_with_os
returns-else-starts_with_os g c =
    let holds = rw (c.in-Ok.ensures.bytes, c.in-Ok-checked.ensures.bytes) at c.starts_with_os.ensures in record {
      found = λ is. absurd (omega (arith, is));
      none = λ _ found. absurd (false≢true (sym c.if-starts_with_os.false ∙ holds.1 found));
      strings = λ _. (c.in-Ok.ensures.cases, c.in-Ok-checked.ensures.cases);
      fault = λ is. absurd (omega (arith, is));
      answers = inr (inl refl);
    }
