use Rattle.std.proofs.Common.{◌≡◌, ◌∷◌, ◌++◌, [], List, length, map, refl, sym, ap, ◌∙◌, arith, append_assoc}
use Rattle.std.proofs.lemmas.List.{append-nil, map-append}
use Rattle.std.specs.Prelude.{string_bytes}
use Rattle.os_str_bytes.specs.Strings.{bytes}
use Rattle.names_commands.proofs.pick.strings_of.Goals as goal

nil_of_length : {X : Type 0} (xs : List X) → length xs ≡ 0 → xs ≡ []
nil_of_length [] e = refl
nil_of_length (x ∷ xs) e = absurd (omega arith)

pub loop-pattern-preserved : goal.loop-pattern-preserved
loop-pattern-preserved g c =
    let items = c.loop-pattern.strings.items in
    let rest = map string_bytes c.in-Some.rest.now in
    let text = c.new.ensures ∙ c.as_str.ensures.value in
    let pushed = ap (map bytes) c.in_ok-push.ensures.items ∙ map-append bytes items (c.new.result ∷ []) in
    ap (λ z. z ++ rest) (pushed ∙ ap (λ z. map bytes items ++ z ∷ []) text)
    ∙ append_assoc (map bytes items) (string_bytes c.in-Some.pattern.now ∷ []) rest
    ∙ ap (λ z. map bytes items ++ map string_bytes z) (sym c.in-Some.ensures.cases.0) ∙ c.loop-pattern.invariant

pub returns : goal.returns
returns g c =
    let items = map bytes c.loop-pattern.strings.items in
    let nil = nil_of_length c.loop-pattern.left.now c.in_default.ensures.cases in
    sym (append-nil items) ∙ ap (λ z. items ++ map string_bytes z) (sym nil) ∙ c.loop-pattern.invariant
