-- What was built is written into a buffer.
use Rattle.std.proofs.Common.{◌≡◌, ℕ, ◌≤◌, Bool, List, length, take, subst, sym, arith}
use Rattle.wtf8_core.specs.Truncated.{IsTruncated}
use Rattle.wtf8_core.proofs.lemmas.buffers.Truncated.{whole}
use Rattle.os_quote.specs.Escape.{IsEscapeBy}
use Rattle.os_quote.specs.Unescaped.{IsUnescapedBy}
use Rattle.os_quote.specs.declared.form.Form.{Form}
use Rattle.osbytes_c.specs.Answers.{Writes, IsDone, IsWritten}

pub written : {Wanted : List ℕ → Type 0} {status count : ℕ} {list given old new : List ℕ} → Wanted list → given ≡ list → IsDone status (IsTruncated given old new count) (length old) count → IsWritten status Wanted old new count
written {Wanted} {status} {count} {list} {given} {old} {new} wanted same done =
    let all : IsTruncated given old new count → Writes Wanted old new count = λ t. (list, (wanted, subst (λ l. IsTruncated l old new count) same t)) in
    ((λ is. (all (done.0 is).0, (done.0 is).1)), (λ is. (all (done.1 is).0, (done.1 is).1)))

-- where there was room, it is there
pub there : {Wanted : List ℕ → Type 0} {count : ℕ} {old new : List ℕ} → Writes Wanted old new count × (count ≤ length old) → Wanted (take count new)
there {Wanted} {count} {old} {new} w =
    let t = w.0.1.1 in
    subst Wanted (sym (whole w.0.0 old new count t (omega (arith, w.1, t.same_length)))) w.0.1.0

-- the same of the string with an escape
pub unescaped_there : {form : Form} {formed : List ℕ → Type 0} {units : List ℕ → List ℕ} {text old new : List ℕ} {count : ℕ}
    → IsUnescapedBy form formed units text old new count × (count ≤ length old) → formed (take count new) × IsEscapeBy form units (take count new) text
unescaped_there {form} {formed} {units} {text} {old} {new} {count} w =
    let t = w.0.written in
    subst (λ s. formed s × IsEscapeBy form units s text) (sym (whole w.0.string old new count t (omega (arith, w.1, t.same_length)))) (w.0.escape w.1)
