use Rattle.std.proofs.Common.{◌≡◌, Result, Ok, Err, OnErr, refl, sym, ◌∙◌, subst}
use Rattle.std.specs.Prelude.{IfSome, IfNone, string_bytes}
use Rattle.program_frame.specs.Os.{os_word}
use Rattle.program_frame.specs.declared.os.Os.{Os}
use Rattle.osbytes_commands.specs.Command.{os_of}
use Rattle.osbytes_commands.proofs.lemmas.CommandWords.{two_words, three_words, unnamed_two, unnamed_three, second_is_os}
use Rattle.osbytes_commands.proofs.command.Command.parse.Goals as goal

pub returns-in-units-clause-command : goal.returns-in-units-clause-command
returns-in-units-clause-command c =
    let os = subst (λ named. IfSome named (λ os. c.as_str.result.now ≡ os_word os)) c.in_ok-os-in-len2.ensures.ok_part c.named.ensures.some in
    two_words string_bytes c.args.words.now _ _ _ _ c.in-len2.len_at_least c.in-len2.len_below c.name-item.is c.os-item.is (sym c.as_str-in-len2.ensures.value ∙ c.in-units.is) (sym c.as_str.ensures.value ∙ os)

pub returns-in-raw-clause-command : goal.returns-in-raw-clause-command
returns-in-raw-clause-command c =
    let os = subst (λ named. IfSome named (λ os. c.as_str.result.now ≡ os_word os)) c.in_ok-os-in-len2.ensures.ok_part c.named.ensures.some in
    two_words string_bytes c.args.words.now _ _ _ _ c.in-len2.len_at_least c.in-len2.len_below c.name-item.is c.os-item.is (sym c.as_str-in-len2.ensures.value ∙ c.in-raw.is) (sym c.as_str.ensures.value ∙ os)

pub returns-in-chunks-clause-command : goal.returns-in-chunks-clause-command
returns-in-chunks-clause-command c =
    let os = subst (λ named. IfSome named (λ os. c.as_str.result.now ≡ os_word os)) c.in_ok-os-in-len2.ensures.ok_part c.named.ensures.some in
    two_words string_bytes c.args.words.now _ _ _ _ c.in-len2.len_at_least c.in-len2.len_below c.name-item.is c.os-item.is (sym c.as_str-in-len2.ensures.value ∙ c.in-chunks.is) (sym c.as_str.ensures.value ∙ os)

pub returns-in-quote-clause-command : goal.returns-in-quote-clause-command
returns-in-quote-clause-command c =
    let os = subst (λ named. IfSome named (λ os. c.as_str.result.now ≡ os_word os)) c.in_ok-os-in-len2.ensures.ok_part c.named.ensures.some in
    two_words string_bytes c.args.words.now _ _ _ _ c.in-len2.len_at_least c.in-len2.len_below c.name-item.is c.os-item.is (sym c.as_str-in-len2.ensures.value ∙ c.in-quote.is) (sym c.as_str.ensures.value ∙ os)

pub returns-in-unquote-clause-command : goal.returns-in-unquote-clause-command
returns-in-unquote-clause-command c =
    let os = subst (λ named. IfSome named (λ os. c.as_str.result.now ≡ os_word os)) c.in_ok-os-in-len2.ensures.ok_part c.named.ensures.some in
    two_words string_bytes c.args.words.now _ _ _ _ c.in-len2.len_at_least c.in-len2.len_below c.name-item.is c.os-item.is (sym c.as_str-in-len2.ensures.value ∙ c.in-unquote.is) (sym c.as_str.ensures.value ∙ os)

pub returns-in-find-clause-command : goal.returns-in-find-clause-command
returns-in-find-clause-command c =
    let os = subst (λ named. IfSome named (λ os. c.as_str-in-len3.result.now ≡ os_word os)) c.in_ok-os-in-len3.ensures.ok_part c.named-in-len3.ensures.some in
    three_words string_bytes c.args.words.now _ _ _ _ _ _ c.in-len3.len_at_least c.in-len3.len_below c.name-item-then-words-lt4.is c.os-item-then-words-lt4.is c.pattern-item.is (sym c.as_str-in-len3-2.ensures.value ∙ c.in-find.is) (sym c.as_str-in-len3.ensures.value ∙ os) (sym c.as_str-in-find.ensures.value)

pub returns-in-split-clause-command : goal.returns-in-split-clause-command
returns-in-split-clause-command c =
    let os = subst (λ named. IfSome named (λ os. c.as_str-in-len3.result.now ≡ os_word os)) c.in_ok-os-in-len3.ensures.ok_part c.named-in-len3.ensures.some in
    three_words string_bytes c.args.words.now _ _ _ _ _ _ c.in-len3.len_at_least c.in-len3.len_below c.name-item-then-words-lt4.is c.os-item-then-words-lt4.is c.pattern-item.is (sym c.as_str-in-len3-2.ensures.value ∙ c.in-split.is) (sym c.as_str-in-len3.ensures.value ∙ os) (sym c.as_str-in-split.ensures.value)

pub returns-in_default-as_str-clause-no_command : goal.returns-in_default-as_str-clause-no_command
returns-in_default-as_str-clause-no_command c = λ command e.
    let other = c.in_default-as_str in
    let words = two_words string_bytes c.args.words.now _ _ _ _ c.in-len2.len_at_least c.in-len2.len_below c.name-item.is c.os-item.is (sym c.as_str-in-len2.ensures.value) refl in
    unnamed_two _ _ other.not-units other.not-raw other.not-chunks other.not-quote other.not-unquote command (sym words ∙ e)

pub returns-in_default-as_str-2-clause-no_command : goal.returns-in_default-as_str-2-clause-no_command
returns-in_default-as_str-2-clause-no_command c = λ command e.
    let other = c.in_default-as_str-2 in
    let words = three_words string_bytes c.args.words.now _ _ _ _ _ _ c.in-len3.len_at_least c.in-len3.len_below c.name-item-then-words-lt4.is c.os-item-then-words-lt4.is c.pattern-item.is (sym c.as_str-in-len3-2.ensures.value) refl refl in
    unnamed_three _ _ _ other.not-find other.not-split command (sym words ∙ e)

-- what needs no error
on_err : {X E P : Type 0} (r : Result X E) → P → OnErr r P
on_err (Ok x) h = tt
on_err (Err e) h = h

pub returns-in_err-os-in-len2-clause-no_command : goal.returns-in_err-os-in-len2-clause-no_command
returns-in_err-os-in-len2-clause-no_command c = on_err c.from_residual.result (λ command e.
    let unnamed = subst (λ named. IfNone named ((os : Os) → ¬ (c.as_str.result.now ≡ os_word os))) c.in_err-os-in-len2.ensures.ok_part c.named.ensures.none in
    let words = two_words string_bytes c.args.words.now _ _ _ _ c.in-len2.len_at_least c.in-len2.len_below c.name-item.is c.os-item.is refl (sym c.as_str.ensures.value) in
    unnamed (os_of command) (second_is_os command _ (sym words ∙ e)))

pub returns-in_err-os-in-len3-clause-no_command : goal.returns-in_err-os-in-len3-clause-no_command
returns-in_err-os-in-len3-clause-no_command c = on_err c.from_residual-in_err-os-in-len3.result (λ command e.
    let unnamed = subst (λ named. IfNone named ((os : Os) → ¬ (c.as_str-in-len3.result.now ≡ os_word os))) c.in_err-os-in-len3.ensures.ok_part c.named-in-len3.ensures.none in
    let words = three_words string_bytes c.args.words.now _ _ _ _ _ _ c.in-len3.len_at_least c.in-len3.len_below c.name-item-then-words-lt4.is c.os-item-then-words-lt4.is c.pattern-item.is refl (sym c.as_str-in-len3.ensures.value) refl in
    unnamed (os_of command) (second_is_os command _ (sym words ∙ e)))
