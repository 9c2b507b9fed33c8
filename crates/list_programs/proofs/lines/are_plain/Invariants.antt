use Rattle.std.specs.Prelude.{IsTrue}
use Rattle.os_quote.specs.Plain.{IsPlainUpTo}
use Rattle.list_programs.proofs.lines.are_plain.Given as goal

-- the bytes so far are plain where it is true
abbrev pub invariant-loop-byte : goal.invariant-loop-byte
invariant-loop-byte l = IsTrue l.plain → IsPlainUpTo l.bytes l.byte-index
