-- What a quotation mark means after the bytes before it.
use Rattle.std.proofs.Common.{◌≡◌, ◌≢◌, ℕ, zero, suc, ◌+◌, ◌-◌, ◌/◌, ◌%◌, Bool, true, false, not, List, [], ◌∷◌, ◌++◌, length, refl, sym, ap, ◌∙◌, arith, append-nil, length-append}
use Rattle.std.specs.List.{AllByRecursion}
use Rattle.std.proofs.lemmas.List.{length-replicate}
use Rattle.os_command_line.specs.declared.windows.place.Place.{Place}
use Rattle.os_command_line.specs.Windows.{backslash, quote, backslashes}
use Rattle.os_command_line.specs.WindowsReader.{index, index_at, place, meant}
use Rattle.os_command_line.specs.WindowsSteps.{last_run, EndsWithRun, IsAtQuote}
use Rattle.os_command_line.proofs.lemmas.Lists.{no_cons}
use Rattle.os_command_line.proofs.lemmas.WindowsOneReading.{at}
use Rattle.os_command_line.proofs.lemmas.WindowsRuns.{run_after}
use Rattle.os_command_line.proofs.lemmas.WindowsMeaning.{plain_meant, slashes_meant, odd_quote, even_quote, not_closing, closing_quote, name_meant, name_quote}

-- no backslash is last
module _ (text : List ℕ) (count : ℕ) (rest : List ℕ) (e : text ≡ rest ++ backslashes count) where
  pub run_at : (before : List ℕ) (last : ℕ) → rest ≡ before ++ last ∷ [] → last ≢ backslash → EndsWithRun text count
  run_at before last s n = (rest, e, ap (last_run 0) s ∙ run_after 0 before last n)

module _ (p : Place) (before : List ℕ) where
  pub at_closing : p.closing ≡ true → before ≡ [] → IsAtQuote p before 0 true (place false false true)
  at_closing c none = record {
    prefix = [];
    run = 0;
    kept = 0;
    before_is = none;
    kept_within = omega arith;
    len_is = refl;
    means = λ us rest h e same.
        ap (λ z. meant (index_at p) (z ++ quote ∷ rest)) (same.1 refl)
        ∙ ap (λ b. meant (index p.in_name b p.inside 0) (quote ∷ rest)) c
        ∙ closing_quote p.in_name p.inside rest
        ∙ ap (λ z. z ++ (quote ∷ meant (at true 0) rest)) (sym (same.1 refl));
  }

  -- where it isn't right after a mark that closes, or something comes before the mark
  module _ (other : p.closing ≡ true → before ≡ [] → ⊥) where
    -- the same as if no mark came before
    opened : (us : List ℕ) (run : ℕ) (rest : List ℕ) → AllByRecursion (λ u. u ≢ quote) us → (p.closing ≡ true → us ++ backslashes run ≢ []) → meant (index_at p) (us ++ (backslashes run ++ quote ∷ rest)) ≡ meant (index p.in_name false p.inside 0) (us ++ (backslashes run ++ quote ∷ rest))
    opened us run rest h some = by_closing p.closing refl
      where
        by_first : (us : List ℕ) (run : ℕ) → AllByRecursion (λ u. u ≢ quote) us → us ++ backslashes run ≢ [] → meant (index p.in_name true p.inside 0) (us ++ (backslashes run ++ quote ∷ rest)) ≡ meant (index p.in_name false p.inside 0) (us ++ (backslashes run ++ quote ∷ rest))
        by_first [] zero h n = absurd (n refl)
        by_first [] (suc run) h n = not_closing p.in_name true p.inside backslash (backslashes run ++ quote ∷ rest) (λ e. omega (arith, e))
        by_first (u ∷ us) run h n = not_closing p.in_name true p.inside u (us ++ (backslashes run ++ quote ∷ rest)) h.0

        by_closing : (b : Bool) → p.closing ≡ b → meant (index_at p) (us ++ (backslashes run ++ quote ∷ rest)) ≡ meant (index p.in_name false p.inside 0) (us ++ (backslashes run ++ quote ∷ rest))
        by_closing false e = ap (λ b. meant (index p.in_name b p.inside 0) (us ++ (backslashes run ++ quote ∷ rest))) e
        by_closing true e = ap (λ b. meant (index p.in_name b p.inside 0) (us ++ (backslashes run ++ quote ∷ rest))) e ∙ by_first us run h (some e)

    both_empty : (prefix : List ℕ) (run : ℕ) (us : List ℕ) → before ≡ prefix ++ backslashes run → (us ≡ [] → prefix ≡ []) → p.closing ≡ true → us ++ backslashes run ≢ []
    both_empty prefix run [] e same c none = other c (e ∙ ap (λ z. z ++ backslashes run) (same refl) ∙ none)
    both_empty prefix run (u ∷ us) e same c none = no_cons none

    pub at_name : p.in_name ≡ true → IsAtQuote p before (length before) false (place true false (not p.inside))
    at_name n = record {
      prefix = before;
      run = 0;
      kept = 0;
      before_is = sym (append-nil before);
      kept_within = omega arith;
      len_is = omega arith;
      means = λ us rest h e same.
          opened us 0 rest h (both_empty before 0 us (sym (append-nil before)) same.0)
          ∙ ap (λ b. meant (index b false p.inside 0) (us ++ quote ∷ rest)) n
          ∙ name_meant p.inside us (quote ∷ rest) h
          ∙ ap (λ z. us ++ z) (name_quote p.inside rest);
    }

    -- in an argument
    module _ (run len : ℕ) (argument : p.in_name ≡ false) (ends : EndsWithRun before run) (l : len ≡ length before - run + run / 2) where
      len_of : len ≡ length ends.0 + run / 2
      len_of = omega (arith, l, ap length ends.1, length-append ends.0 (backslashes run), length-replicate run backslash)

      to_quote : (us rest : List ℕ) → AllByRecursion (λ u. u ≢ quote) us → last_run 0 us ≡ last_run 0 ends.0 → (us ≡ [] → ends.0 ≡ []) × (ends.0 ≡ [] → us ≡ []) → meant (index_at p) (us ++ (backslashes run ++ quote ∷ rest)) ≡ us ++ meant (at p.inside run) (quote ∷ rest)
      to_quote us rest h e same =
          opened us run rest h (both_empty ends.0 run us ends.1 same.0)
          ∙ ap (λ b. meant (index b false p.inside 0) (us ++ (backslashes run ++ quote ∷ rest))) argument
          ∙ plain_meant p.inside 0 us (backslashes run ++ quote ∷ rest) h (e ∙ ends.2)
          ∙ ap (λ z. us ++ z) (slashes_meant p.inside run 0 (quote ∷ rest))
          ∙ ap (λ m. us ++ meant (at p.inside m) (quote ∷ rest)) zero_more
        where
          zero_more : 0 + run ≡ run
          zero_more = omega arith

      pub at_odd : run % 2 ≡ 1 → IsAtQuote p before len true (place false false p.inside)
      at_odd odd = record {
        prefix = ends.0;
        run = run;
        kept = run / 2;
        before_is = ends.1;
        kept_within = omega arith;
        len_is = len_of;
        means = λ us rest h e same. to_quote us rest h e same ∙ ap (λ z. us ++ z) (odd_quote p.inside run rest odd);
      }

      pub at_even : run % 2 ≢ 1 → IsAtQuote p before len false (place false p.inside (not p.inside))
      at_even even = record {
        prefix = ends.0;
        run = run;
        kept = run / 2;
        before_is = ends.1;
        kept_within = omega arith;
        len_is = len_of;
        means = λ us rest h e same. to_quote us rest h e same ∙ ap (λ z. us ++ z) (even_quote p.inside run rest even);
      }
