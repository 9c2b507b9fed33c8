use Rattle.std.proofs.Common.{[], ◌∷◌, ◌++◌, ◌+◌, arith}
use Rattle.platform_str.proofs.lemmas.Pushing.{push_both}
use Rattle.os_command_line.specs.Windows.{backslashes}
use Rattle.os_command_line.proofs.lemmas.WindowsWriting.{added_slash, added_quote, added_literal}
use Rattle.osbytes_c.proofs.lemmas.ArgumentWriting.{slashes}
use Rattle.osbytes_c.proofs.lines.windows_quote.push_escaped.Goals as goal

pub returns-then-unit-eq-BACKSLASH : goal.returns-then-unit-eq-BACKSLASH
returns-then-unit-eq-BACKSLASH c = record {
  added = c.args.unit ∷ [];
  pushes = c.push_unit.ensures;
  is = added_slash c.args.inside c.args.run c.args.unit c.if-unit-eq-BACKSLASH.true;
  few = omega (arith, c.push_unit.ensures.1);
}

pub returns-then-unit-eq-QUOTE : goal.returns-then-unit-eq-QUOTE
returns-then-unit-eq-QUOTE c = record {
  added = backslashes (c.args.run + 1) ++ c.args.unit ∷ [];
  pushes = push_both c.push_backslashes-escaped.ensures c.push_unit-then-unit-eq-QUOTE.ensures;
  is = added_quote c.args.inside c.args.run c.args.unit c.if-unit-eq-QUOTE.true;
  few = omega (arith, c.push_backslashes-escaped.ensures.1, c.push_unit-then-unit-eq-QUOTE.ensures.1, slashes (c.args.run + 1));
}

pub returns : goal.returns
returns c = record {
  added = c.args.unit ∷ [];
  pushes = c.push_unit-2.ensures;
  is = added_literal c.args.inside c.args.run c.args.unit c.if-unit-eq-BACKSLASH.false c.if-unit-eq-QUOTE.false c.requires.no_blank;
  few = omega (arith, c.push_unit-2.ensures.1);
}
