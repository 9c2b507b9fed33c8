use Rattle.std.proofs.Common.{[], ◌∷◌, ◌++◌, refl, sym, ap, ◌∙◌, append_assoc, false}
use Rattle.platform_str.specs.PlatformWords.{itself}
use Rattle.platform_str.specs.Strings.{bytes}
use Rattle.os_str_ext.specs.Symbols.{symbols_of}
use Rattle.platform_str.proofs.lemmas.Taking.{nothing_taken, one_taken, last_taken, room_left, none_taken, rejected}
use Rattle.os_command_line.specs.ShellWriting.{text_after, dollar_text}
use Rattle.os_command_line.proofs.lemmas.ShellWritten.{dollar_more}
use Rattle.os_command_line.proofs.shell.write_word.write_dollar.Goals as goal

pub take_text-requires : goal.take_text-requires
take_text-requires g c = g.S.Sink.rules.room_before _ (0x24 ∷ 0x27 ∷ []) _ c.requires

pub loop-symbol-init : goal.loop-symbol-init
loop-symbol-init g c =
    let e = c.into_iter-symbol-iterator.ensures.into_iter_gives ∙ c.symbols-symbol-items.ensures.value in
    one_taken g.S.Sink.rules (nothing_taken g.S.Sink.rules) c.in_ok-take_text.ensures (ap (λ x. 0x24 ∷ 0x27 ∷ (dollar_text false x ++ 0x27 ∷ [])) (sym e))

pub write_after-requires : goal.write_after-requires
write_after-requires g c = room_left g.S.Sink.rules c.loop-symbol.invariant _ _ c.requires (dollar_more c.loop-symbol.high _ _ _ c.in-Some.ensures.steps)

pub loop-symbol-preserved : goal.loop-symbol-preserved
loop-symbol-preserved g c =
    let high = ap (λ h. text_after c.loop-symbol.high c.in-Some.symbol ++ (dollar_text h c.next.new.self ++ 0x27 ∷ [])) (sym c.is_high-high.ensures) in
    one_taken g.S.Sink.rules c.loop-symbol.invariant c.in_ok-write_after.ensures (dollar_more c.loop-symbol.high _ _ _ c.in-Some.ensures.steps ∙ high)

pub take_text-requires-2 : goal.take_text-requires-2
take_text-requires-2 g c = room_left g.S.Sink.rules c.loop-symbol.invariant (0x27 ∷ []) [] c.requires (ap (λ x. dollar_text c.loop-symbol.high x ++ 0x27 ∷ []) c.in-None.ensures.steps.0)

pub returns-in_err-take_text : goal.returns-in_err-take_text
returns-in_err-take_text g c = rejected g.S.Sink.rules _ _ c.from_residual.result c.from_residual.ensures.1 (none_taken g.S.Sink.rules (nothing_taken g.S.Sink.rules) (0x24 ∷ 0x27 ∷ []) _ c.in_err-take_text.ensures refl)

pub returns-in_err-write_after : goal.returns-in_err-write_after
returns-in_err-write_after g c = rejected g.S.Sink.rules _ _ c.from_residual-in_err-write_after.result c.from_residual-in_err-write_after.ensures.1 (none_taken g.S.Sink.rules c.loop-symbol.invariant _ _ c.in_err-write_after.ensures (dollar_more c.loop-symbol.high _ _ _ c.in-Some.ensures.steps))

pub returns : goal.returns
returns g c = last_taken g.S.Sink.rules (0x27 ∷ []) _ c.loop-symbol.invariant (ap (λ x. dollar_text c.loop-symbol.high x ++ 0x27 ∷ []) c.in-None.ensures.steps.0) c.take_text-2.result c.take_text-2.ensures
