use Rattle.std.proofs.Common.{inl}
use Rattle.names_commands.proofs.fitting.fits.Goals as goal

pub returns-in-Some-clause-misuse : goal.returns-in-Some-clause-misuse
returns-in-Some-clause-misuse c = record {
  it = c.in-Some.option;
  command = c.args.command;
  os = c.requires.operands.0;
  more = c.requires.operands.1.0;
  word_is = c.word.ensures;
  has = c.in-Some.ensures.0;
  operands = c.requires.operands.1.1;
  unfit = inl (c.word-in-Some.ensures, c.in-Some.ensures.1);
}
