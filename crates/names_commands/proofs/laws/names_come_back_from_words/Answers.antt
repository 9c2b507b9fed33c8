use Rattle.program_frame.specs.Strings.{strings}
use Rattle.program_frame.specs.declared.os.Os.TheVariants.{Unix}
use Rattle.names_commands.proofs.lemmas.WordsBack.{some_words, same_words, cut_words}
use Rattle.names_commands.proofs.laws.names_come_back_from_words.Goals as goal

pub returns-clause-some : goal.returns-clause-some
returns-clause-some c = λ last list. some_words (strings Unix) (λ name formed. formed) list last

pub returns-clause-same : goal.returns-clause-same
returns-clause-same c = λ list other names lines back. same_words (strings Unix) (λ name formed. formed) list other names lines back

pub returns-clause-cut : goal.returns-clause-cut
returns-clause-cut c = λ list other names lines prefix rest suffix. cut_words (strings Unix) (λ name formed. formed) list other names lines prefix rest suffix
