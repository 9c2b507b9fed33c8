-- An argument of a command line, written into a buffer.
use Rattle.std.proofs.Common.{◌≡◌, ◌≢◌, ℕ, ◌+◌, Bool, true, false, List, [], ◌∷◌, ◌++◌, length, refl, sym, ap, subst, arith, length-append}
use Rattle.std.proofs.lemmas.List.{replicate_more, length-replicate}
use Rattle.wtf8_core.specs.Truncated.{IsTruncated}
use Rattle.platform_str.specs.BufferSink.{Pushes}
use Rattle.platform_str.proofs.lemmas.Pushing.{push_both, push_nothing, push_same, pushed_all}
use Rattle.os_command_line.specs.Windows.{backslash, quote, backslashes, IsTextOf, IsPlain}
use Rattle.os_command_line.specs.WindowsWriting.{IsWritten}
use Rattle.os_command_line.proofs.lemmas.WindowsWriting.{begun, written_on, written_quoted, written_bare, plain_written}
use Rattle.osbytes_c.specs.ArgumentWriting.{PushesUnit, PushesUnits}
use Rattle.osbytes_c.specs.CommandLines.{IsArgumentText}

pub slashes : (n : ℕ) → length (backslashes n) ≡ n
slashes n = length-replicate n backslash

pub slashes_more : (n : ℕ) (old mid new : List ℕ) (count len more : ℕ) → Pushes (backslashes n) old count mid len → Pushes (backslash ∷ []) mid len new more → Pushes (backslashes (n + 1)) old count new more
slashes_more n old mid new count len more p q = push_same (replicate_more n backslash) (push_both p q)

module _ (inside : Bool) (old : List ℕ) (count : ℕ) where
  pub no_units_yet : PushesUnits inside [] old count old count 0
  no_units_yet = record { added = []; pushes = push_nothing old count; is = begun inside []; few = omega arith }

  pub one_more_unit : (taken : List ℕ) (unit : ℕ) (mid new : List ℕ) (len run more next : ℕ) → PushesUnits inside taken old count mid len run → PushesUnit inside run unit mid len new more next → PushesUnits inside (taken ++ unit ∷ []) old count new more next
  one_more_unit taken unit mid new len run more next p q = record {
    added = p.added ++ q.added;
    pushes = push_both p.pushes q.pushes;
    is = written_on inside [] p.added (p.added ++ q.added) run taken unit q.added next p.is refl q.is;
    few = omega (arith, p.few, q.few, length-append taken (unit ∷ []));
  }

-- in quotation marks
module _ (argument old one two three new : List ℕ) (a b c d run : ℕ) (opened : Pushes (quote ∷ []) old 0 one a) (units : PushesUnits true argument one a two b run) (closed : Pushes (backslashes run) two b three c) (last : Pushes (quote ∷ []) three c new d) where
  after_quote : IsWritten true (quote ∷ []) ((quote ∷ []) ++ units.added) run argument
  after_quote =
      let w = units.is in
      record { prefix = w.prefix; new_is = ap (λ z. quote ∷ z) w.new_is; part = w.part; begins = w.begins; plain = w.plain }

  pub quoted_in_buffer : (text : List ℕ) × (IsTextOf text argument × IsTruncated text old new d)
  quoted_in_buffer =
      let t = written_quoted [] (quote ∷ []) ((quote ∷ []) ++ units.added) _ _ run argument refl after_quote refl refl in
      (_, (subst (λ z. IsTextOf z argument) (sym t.1) t.2, pushed_all (push_both (push_both (push_both opened units.pushes) closed) last)))

-- and without them
pub bare_in_buffer : (argument old new : List ℕ) (len run : ℕ) → PushesUnits false argument old 0 new len run → argument ≢ [] → (text : List ℕ) × (IsArgumentText argument text × IsTruncated text old new len)
bare_in_buffer argument old new len run units some =
    let t = written_bare [] units.added run argument units.is some in
    (units.added, ((subst (λ z. IsTextOf z argument) (sym t.1) t.2, λ plain. plain_written [] units.added run argument units.is plain), pushed_all units.pushes))

-- an argument that isn't plain is read so, too
pub quoted_text : (argument old new : List ℕ) (len : ℕ) → ¬ (IsPlain argument) → (text : List ℕ) × (IsTextOf text argument × IsTruncated text old new len) → (text : List ℕ) × (IsArgumentText argument text × IsTruncated text old new len)
quoted_text argument old new len never t = (t.0, ((t.1.0, λ plain. absurd (never plain)), t.1.1))
