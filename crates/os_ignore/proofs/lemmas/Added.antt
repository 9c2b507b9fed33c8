-- The first file that is added.
use Rattle.std.proofs.Common.{◌≡◌, ℕ, List, [], length, false, sym, ap, ◌∙◌, subst}
use Rattle.os_ignore.specs.declared.file.File.{File}
use Rattle.os_ignore.specs.Ignores.{IsAdded, IsFileAt, IsOnly}
use Rattle.os_ignore.proofs.lemmas.Rests.{nil_parts}

pub only : {A : Type 0} (content : List ℕ) (old new : List (File A)) → old ≡ [] → IsAdded [] content old new → IsOnly content new
only content old new e a = record {
  file = a.file;
  files_are = a.joined ∙ nil_parts a.before a.place.after a.file (sym e ∙ a.place.joined);
  file_is = subst (λ z. IsFileAt false z [] content a.file) (ap length e) a.file_is;
}
