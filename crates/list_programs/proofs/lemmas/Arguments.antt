-- Options and operands that are read, one after the other.
use Rattle.std.proofs.Common.{◌<◌, Bool, List, [], ◌∷◌, ◌++◌, refl, sym, subst, arith}
use Rattle.os_args.specs.Joining.{TookValue, all_left, weight}
use Rattle.os_args.specs.Reading.{Reading, TakesWord}
use Rattle.os_args.specs.Word.{Kind, Value}
use Rattle.os_args.proofs.lemmas.Joined.{less_left, never_more}
use Rattle.std.specs.Prelude.{Some, Ok}
use Rattle.list_programs.specs.declared.arguments.Given.{Given}
use Rattle.list_programs.specs.declared.arguments.Given.TheVariants.{Operand, Flag, Valued}
use Rattle.list_programs.specs.Arguments.{Completes, Takes, TakesAll}

module _ {O : Type 0} (spelled : O → Kind → Type 0) (has_value : O → Bool) where
  -- one more is read
  pub one_more : (before mid after : Reading) (given : List (Given O)) (one : Given O) → TakesAll spelled has_value before given mid → Takes spelled has_value mid one after → TakesAll spelled has_value before (given ++ one ∷ []) after
  one_more before mid after [] one all takes = (after, subst (λ r. Takes spelled has_value r one after) all takes, refl)
  one_more before mid after (first ∷ given) one all takes = (all.0, all.1, one_more all.0 mid after given one all.2 takes)

  -- less is left after it
  pub less_after : (before after : Reading) (one : Given O) → Takes spelled has_value before one after → weight (all_left after) < weight (all_left before)
  less_after before after (Operand word) takes = less_left before (Value word.now) after takes
  less_after before after (Flag option) takes = less_left before takes.0 after takes.1.1
  less_after before after (Valued option value) takes =
      let less = less_left before takes.0 takes.1 takes.2.1.0 in
      let more = never_more takes.1 (TookValue (Ok value.now)) after takes.2.1.1 in
      omega (arith, less, more)

  -- an option that was taken is read with its value
  pub completed : (before mid after : Reading) (kind : Kind) (one : Given O) → TakesWord before (Ok (Some kind)) mid → Completes spelled has_value kind mid one after → Takes spelled has_value before one after
  completed before mid after kind (Operand word) taken all = absurd all
  completed before mid after kind (Flag option) taken all = (kind, (all.0, subst (λ r. TakesWord before (Ok (Some kind)) r) (sym all.1) taken))
  completed before mid after kind (Valued option value) taken all = (kind, mid, (all.0, (taken, all.1)))
