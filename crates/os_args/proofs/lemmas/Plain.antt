-- What a formatter has written with any options, it has written with none.
use Rattle.std.proofs.Common.{ℕ, List, sym, subst}
use Rattle.std.specs.Fmt.{IsPlainFormatter, HasWritten, HasWrittenStyled, IsDefaultSpec}
use Rattle.std.specs.declared.fmt.Formatter.{Formatter}

pub plainly : {W : Type 0} {took : W → List ℕ → W → Type 0} {f : Formatter W} {text : List ℕ} {g : Formatter W} → IsPlainFormatter f → HasWrittenStyled took f text g → HasWritten took f text g
plainly plain w = record { wrote = w.wrote; plain = record { bare = subst (λ spec. IsDefaultSpec spec) (sym w.spec) plain.bare; flush = w.flush } }
