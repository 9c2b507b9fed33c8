-- Lists where no option states how they are written.
use Rattle.std.proofs.Common.{◌≡◌, ◌⊎◌, ℕ, List, [], ◌∷◌, inl, inr, ap, ◌∙◌, Some, None}
use denote.Ref.{Bor}
use Rattle.list_programs.specs.Arguments.{HasOption, LastValue}
use Rattle.list_programs.specs.ListOptions.{IsEnd, IsLast}
use Rattle.list_programs.specs.declared.arguments.Given.TheVariants.{Operand}
use Rattle.list_programs.specs.declared.options.ItemEnd.{ItemEnd}
use Rattle.list_programs.specs.declared.options.ItemEnd.TheVariants.{Nul, Newline}
use Rattle.list_programs.specs.declared.options.LastItem.{LastItem}
use Rattle.list_programs.specs.declared.options.LastItem.TheVariants.{MustEnd, MayLackEnd}
use Rattle.list_programs.specs.declared.options.ListOptions.{ListOptions}
use Rattle.names_commands.specs.Command.{Requested, IsRequestFor, IsListed, IsMax, Line, MakesUp, StatesPicks}
use Rattle.names_commands.specs.declared.command.Command.TheVariants.{Version}
use Rattle.names_commands.specs.declared.option.NamesOption.{NamesOption}
use Rattle.names_commands.specs.declared.option.NamesOption.TheVariants as option
use Rattle.test_command_uses.specs.OneFile.{usual}

module _ (given : Line) (no_lines : ¬ (HasOption option.Lines given)) (no_unterminated : ¬ (HasOption option.Unterminated given)) where
  usual_of : (end : ItemEnd) (last : LastItem) (max : ℕ) → IsEnd option.Lines given end → IsLast option.Unterminated given last → max ≡ 1048576 → ◌≡◌ {A = ListOptions} (record { end = end; last = last; max = max }) usual
  usual_of Nul MustEnd max e l m = ap (λ n. record { end = Nul; last = MustEnd; max = n }) m
  usual_of Nul MayLackEnd max e l m = absurd (no_unterminated l)
  usual_of Newline last max e l m = absurd (no_lines e)

  -- the list is written as usual
  pub is_usual_list : ((max : ℕ) → IsMax given max → max ≡ 1048576) → (list : ListOptions) → IsListed given list → list ≡ usual
  is_usual_list usual_max list l = usual_of list.end list.last list.max l.1.1.end l.1.1.last (l.1.1.limit ∙ usual_max l.0 l.1.0)

-- two operands have no options
module _ (command platform : Bor (List ℕ)) where
  abbrev two : Line
  two = Operand command ∷ Operand platform ∷ []

  none : (it : NamesOption) → ¬ (HasOption it two)
  none it (inl h) = h
  none it (inr (inl h)) = h
  none it (inr (inr h)) = h

  no_value : (number : List ℕ) → ¬ (LastValue option.Max two None (Some number))
  no_value number (inl k) = k.1.0
  no_value number (inr k) = by k.1
    where
      by : ¬ (LastValue option.Max (Operand platform ∷ []) None (Some number))
      by (inl k) = k.1.0
      by (inr k) = let never : Some number ≡ None = k.1 in cc

  usual_max : (max : ℕ) → IsMax two max → max ≡ 1048576
  usual_max max (inl m) = m.1
  usual_max max (inr m) = absurd (no_value m.0 m.1.0)

  pub usual_of_two : (requested : Requested) → IsRequestFor two requested → requested.list ≡ usual
  usual_of_two requested (inl requests) = absurd (none option.Help requests.0)
  usual_of_two requested (inr requests) = by requests.1
    where
      by : ((HasOption option.Version two × (requested.command ≡ Version)) ⊎ ((¬ (HasOption option.Version two)) × (IsListed two requested.list × (MakesUp two requested.command × StatesPicks two requested)))) → requested.list ≡ usual
      by (inl v) = absurd (none option.Version v.0)
      by (inr c) = is_usual_list two (none option.Lines) (none option.Unterminated) usual_max requested.list c.1.0
