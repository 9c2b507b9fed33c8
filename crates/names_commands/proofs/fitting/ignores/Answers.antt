use Rattle.std.proofs.Common.{inr, refl, sym, ap, subst}
use Rattle.program_frame.specs.Os.{os_word}
use Rattle.names_commands.specs.Pick.{TakesIgnore}
use Rattle.names_commands.specs.declared.option.NamesOption.TheVariants.{Ignore}
use Rattle.names_commands.proofs.fitting.ignores.Goals as goal

pub returns-then-has-clause-misuse : goal.returns-then-has-clause-misuse
returns-then-has-clause-misuse c = record {
  it = Ignore;
  command = c.requires.operands.0;
  os = c.args.os;
  more = c.requires.operands.1.0;
  word_is = refl;
  has = c.has.ensures.0 c.if-has.true;
  operands = c.requires.operands.1.1;
  unfit = inr (sym (ap os_word c.in-Windows.is), subst TakesIgnore c.in-Windows.is);
}
