use Rattle.std.proofs.Common.{◌≡◌, rules, map}
use Rattle.std.specs.Prelude.{string_bytes}
use Rattle.osbytes_commands.specs.Command.{words_of}
use Rattle.osbytes_commands.proofs.lemmas.SameWords.{same_outcome, same_unusable}
use Rattle.osbytes_commands.proofs.program.OsBytesProgram.run_words.Goals as goal

pub returns : goal.returns
returns g c =
    let parsed : map string_bytes c.args.words.now ≡ words_of c.in_ok-command.command = search rules in record {
      usage = (
        λ is_usage command with_words. same_unusable c.in_ok-command.command command (map string_bytes c.args.words.now) parsed (c.run.ensures.usage.0 is_usage) with_words,
        λ none. c.run.ensures.usage.1 (none c.in_ok-command.command parsed),
      );
      run = λ command with_words.
          same_outcome c.in_ok-command.command command (map string_bytes c.args.words.now) _ _ _ _ parsed (search rules) with_words;
      all_read = c.run.ensures.all_read;
      read_failed = c.run.ensures.read;
      write_failed = c.run.ensures.write;
      nothing_written = c.run.ensures.nothing_written;
    }
