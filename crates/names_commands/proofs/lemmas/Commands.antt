-- What options and operands ask for.
use Rattle.std.proofs.Common.{◌≡◌, ℕ, ◌-◌, ◌≤◌, List, [], ◌∷◌, length, take, drop, get_or, Bool, true, false, inl, inr, refl, sym, ap, subst, arith}
use Rattle.std.proofs.lemmas.List.{take_rest}
use Rattle.list_programs.specs.Arguments.{HasOption, IsOf}
use Rattle.list_programs.specs.declared.arguments.Given.{Given}
use Rattle.names_commands.specs.Command.{Fits, FitsOne, IsForm, Line, Lists, MakesUpWork, NoWords, SomePicked, listing}
use Rattle.names_commands.specs.declared.command.Name.{Name}
use Rattle.names_commands.specs.declared.matching.Form.TheVariants as form
use Rattle.names_commands.specs.declared.option.NamesOption.{NamesOption}
use Rattle.names_commands.specs.declared.task.Task.TheVariants.{ListAll, ListWords}
use Rattle.names_commands.specs.declared.task.WordForm.{WordForm}
use Rattle.program_frame.specs.declared.os.Os.{Os}
use Rattle.program_frame.specs.declared.os.Os.TheVariants.{Unix}

-- where nothing is picked there is no pattern that is an operand
pub none_picked : (given : Line) (more : List (List ℕ)) → ¬ (SomePicked given more) → more ≡ []
none_picked given [] none = refl
none_picked given (word ∷ more) none = absurd (none (inl (inl (λ e. cc))))

-- `list` makes up its work, whether names are picked or not
module _ (given : Line) (os : Os) where
  pub lists_escapes : (picks : Bool) → Lists given os picks → NoWords given → MakesUpWork given os (listing picks form.Line ListAll)
  lists_escapes true l none = (l, none)
  lists_escapes false l none = (l, none)

  pub lists_words : (picks : Bool) (words : WordForm) → Lists given os picks → os ≡ Unix → IsForm given words → MakesUpWork given os (listing picks (form.Word words) (ListWords words))
  lists_words true words l unix is = (l, (unix, is))
  lists_words false words l unix is = (l, (unix, is))

-- what a pattern `[first, rest @ ..]` shows
cons_at : {X : Type 0} (xs : List X) (other : X) → 1 ≤ length xs → xs ≡ get_or xs 0 other ∷ take (length xs - 1) (drop 1 xs)
cons_at [] other least = absurd (omega (arith, least))
cons_at (x ∷ xs) other least = ap (λ l. x ∷ l) (sym (take_rest (x ∷ xs) 1))

-- what comes after the first was given
pub rest_given : (given left : Line) → 1 ≤ length left → ((it : NamesOption) → HasOption it left → HasOption it given) → (it : NamesOption) → HasOption it (take (length left - 1) (drop 1 left)) → HasOption it given
rest_given given [] least all it has = absurd (omega (arith, least))
rest_given given (one ∷ left) least all it has = all it (inr (subst (HasOption it) (take_rest (one ∷ left) 1) has))

module _ (given left : Line) (other : Given NamesOption) (least : 1 ≤ length left) where
  -- the first that is left was given
  pub first_given : (it : NamesOption) → ((it : NamesOption) → HasOption it left → HasOption it given) → IsOf it (get_or left 0 other) → HasOption it given
  first_given it all is = all it (subst (HasOption it) (sym (cons_at left other least)) (inl is))

  -- all fit where the first does and the rest do
  pub rest_fits : (command : Name) → (Fits command left → Fits command given) → FitsOne command (get_or left 0 other) → Fits command (take (length left - 1) (drop 1 left)) → Fits command given
  rest_fits command all one fits = all (subst (Fits command) (sym (cons_at left other least)) (one, fits))
