use Rattle.std.proofs.Common.{◌≡◌, ℕ, List, [], ◌∷◌, ◌++◌, map, inl, refl, ap, ◌∙◌}
use Rattle.list_programs.specs.Arguments.{text_of}
use Rattle.list_programs.proofs.arguments.push_value.Goals as goal

-- one more is mapped
pushed : {X : Type 0} (f : X → List ℕ) (xs : List X) (x : X) → map f (xs ++ x ∷ []) ≡ map f xs ++ f x ∷ []
pushed f [] x = refl
pushed f (y ∷ xs) x = ap (λ l. f y ∷ l) (pushed f xs x)

pub returns-in-Ok : goal.returns-in-Ok
returns-in-Ok g c =
    inl (c.in-Some.value.now, (c.in-Some.ensures, ap (map text_of) c.in-Ok.ensures.items ∙ pushed text_of c.args.values.now.items c.in-Some.value))
