use Rattle.std.proofs.Common.{arith}
use Rattle.glob_text.proofs.lemmas.Names.{still_ahead}
use Rattle.glob_text.proofs.class_text.NameEnd.of.Goals as goal

pub returns-else-text-self : goal.returns-else-text-self
returns-else-text-self c = still_ahead c.args.text.now c.args.self c.requires (let h = c.if-text-self.false in omega (arith, h))
