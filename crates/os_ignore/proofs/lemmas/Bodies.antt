-- What the letters of a line are, in parts.
use Rattle.std.proofs.Common.{◌≡◌, Bool, List, ap, subst}
use Rattle.os_ignore.specs.declared.letter.Letter.{Letter}
use Rattle.os_ignore.specs.Lines.{IsBody, IsTrimmed, IsStripped, strip_first}

pub body_is : (letters trimmed named whole : List Letter) (takes_in directories : Bool) → IsTrimmed letters trimmed → (takes_in, named) ≡ strip_first 0x21 trimmed → IsStripped named directories whole → IsBody letters takes_in directories whole
body_is letters trimmed named whole takes_in directories t e s = record {
  trimmed = trimmed;
  without_blanks = t;
  taken = ap (λ p. p.0) e;
  stripped = subst (λ z. IsStripped z directories whole) (ap (λ p. p.1) e) s;
}
