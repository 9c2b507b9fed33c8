use Rattle.std.proofs.Common.{◌≡◌, ◌<◌, Option, Result, Some, Ok, ap, ◌∙◌, subst, arith}
use Rattle.std.specs.Option.{option_map}
use Rattle.os_str_bytes.specs.Strings.{bytes}
use Rattle.os_args.specs.Word.{Kind}
use Rattle.os_args.specs.Kinds.{kind_of}
use Rattle.os_args.specs.Reading.{Fault, Reading, TakesWord}
use Rattle.os_args.specs.Joining.{TookValue, all_left, weight}
use Rattle.os_args.specs.Views.{outcome_of, reading}
use Rattle.examples.proofs.options.Options.parse.Goals as goal

-- a word that was taken leaves less
less : ((before : Reading) (kind : Kind) (after : Reading) → TakesWord before (Ok (Some kind)) after → weight (all_left after) < weight (all_left before))
    → (before after : Reading) (outcome : Result (Option Kind) Fault) (kind : Kind) → outcome ≡ Ok (Some kind) → TakesWord before outcome after → weight (all_left after) < weight (all_left before)
less law before after outcome kind e h = law before kind after (subst (λ o. TakesWord before o after) e h)

pub loop-options-smaller : goal.loop-options-smaller
loop-options-smaller g c =
    let e : c.next.result ≡ Ok (Some c.in-Some.word) = c.in_ok-word.was ∙ ap Ok c.in-Some.is in
    let word = less c.steps_end.ensures.next (reading c.loop-options.arguments) (reading c.next.new.self) _ (kind_of c.in-Some.word) (ap (outcome_of (λ read. option_map kind_of read)) e) c.next.ensures in
    let value = c.steps_end.ensures.each (reading c.next.new.self) (TookValue (outcome_of bytes c.value-in-Short-l.result)) (reading c.value-in-Short-l.new.self) c.value-in-Short-l.ensures in
    omega (arith, word, value)

pub loop-options-smaller-in-Some : goal.loop-options-smaller-in-Some
loop-options-smaller-in-Some g c =
    let e : c.next.result ≡ Ok (Some c.in-Some.word) = c.in_ok-word.was ∙ ap Ok c.in-Some.is in
    let word = less c.steps_end.ensures.next (reading c.loop-options.arguments) (reading c.next.new.self) _ (kind_of c.in-Some.word) (ap (outcome_of (λ read. option_map kind_of read)) e) c.next.ensures in
    let value = c.steps_end.ensures.each (reading c.next.new.self) (TookValue (outcome_of bytes c.value.result)) (reading c.value.new.self) c.value.ensures in
    omega (arith, word, value)

pub loop-options-smaller-in-Some-2 : goal.loop-options-smaller-in-Some-2
loop-options-smaller-in-Some-2 g c =
    let e : c.next.result ≡ Ok (Some c.in-Some.word) = c.in_ok-word.was ∙ ap Ok c.in-Some.is in
    let word = less c.steps_end.ensures.next (reading c.loop-options.arguments) (reading c.next.new.self) _ (kind_of c.in-Some.word) (ap (outcome_of (λ read. option_map kind_of read)) e) c.next.ensures in
    let value = c.steps_end.ensures.each (reading c.next.new.self) (TookValue (outcome_of bytes c.value-in-Short-s.result)) (reading c.value-in-Short-s.new.self) c.value-in-Short-s.ensures in
    omega (arith, word, value)
