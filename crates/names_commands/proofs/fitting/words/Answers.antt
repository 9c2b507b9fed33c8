use Rattle.std.proofs.Common.{◌≡◌, ◌≢◌, inr, sym, ap, ◌∙◌}
use Rattle.program_frame.specs.Os.{os_word}
use Rattle.program_frame.specs.declared.os.Os.{Os}
use Rattle.program_frame.specs.declared.os.Os.TheVariants.{Unix, Windows, Wasm}
use Rattle.names_commands.proofs.fitting.words.Goals as goal

windows_differs : (os : Os) → os ≡ Windows → os ≢ Unix
windows_differs os is e = let never : Windows ≡ Unix = sym is ∙ e in cc

wasm_differs : (os : Os) → os ≡ Wasm → os ≢ Unix
wasm_differs os is e = let never : Wasm ≡ Unix = sym is ∙ e in cc

pub returns-in-Windows-clause-misuse : goal.returns-in-Windows-clause-misuse
returns-in-Windows-clause-misuse c = record {
  it = c.args.option;
  command = c.requires.operands.0;
  os = c.args.os;
  more = c.requires.operands.1.0;
  word_is = c.word.ensures;
  has = c.requires.option.0;
  operands = c.requires.operands.1.1;
  unfit = inr (sym (ap os_word c.in-Windows.is), c.requires.option.1 c.args.os (windows_differs c.args.os c.in-Windows.is));
}

pub returns-in-Wasm-clause-misuse : goal.returns-in-Wasm-clause-misuse
returns-in-Wasm-clause-misuse c = record {
  it = c.args.option;
  command = c.requires.operands.0;
  os = c.args.os;
  more = c.requires.operands.1.0;
  word_is = c.word-in-Wasm.ensures;
  has = c.requires.option.0;
  operands = c.requires.operands.1.1;
  unfit = inr (sym (ap os_word c.in-Wasm.is), c.requires.option.1 c.args.os (wasm_differs c.args.os c.in-Wasm.is));
}
