use Rattle.wtf8_core.proofs.lemmas.vectors.Windows.{zeros}
use Rattle.os_str_ext.proofs.needle.first_in_short.Goals as goal

pub copied-requires : goal.copied-requires
copied-requires c = zeros 64
