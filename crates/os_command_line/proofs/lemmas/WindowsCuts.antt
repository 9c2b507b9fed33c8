-- A command line cut by its bytes, for answers.
use Rattle.std.proofs.Common.{◌≡◌, ◌≢◌, ℕ, ◌-◌, ◌≤◌, Bool, true, false, eqb, List, [], ◌++◌, take, drop, length, append-nil, refl, sym, ap, ◌∙◌, subst, arith}
use Rattle.std.specs.List.{AllByRecursion}
use Rattle.std.proofs.lemmas.Bool.{eq-eqb, true≢false}
use Rattle.wtf8_core.specs.Wtf8.{IsWtf8}
use Rattle.wtf8_core.specs.UnitsOf.{units_of}
use Rattle.os_command_line.specs.Windows.{IsBlank, Begins, IsNext, Reads, ReadsName}
use Rattle.os_command_line.specs.WindowsReader.{argument_kind, meant, first_index}
use Rattle.os_command_line.specs.WindowsSteps.{IsInPart, BeginsArgument, IsArgument, IsNameCut}
use Rattle.os_command_line.specs.WindowsViews.{kind_units}
use Rattle.os_command_line.proofs.lemmas.WindowsOneReading.{past_blank}
use Rattle.os_command_line.proofs.lemmas.WindowsScan.{bare_means_itself}
use Rattle.os_command_line.proofs.lemmas.WindowsStrings.{cut_name, cut_argument, blank_units, each_unit}
use Rattle.os_command_line.proofs.lemmas.WindowsUnits.{cut_before_end}

bare_past : (x : ℕ) → 0x80 ≤ x → IsInPart false x
bare_past x ge = record { no_blank = λ _. past_blank x (omega (arith, ge)); no_quote = λ e. omega (arith, e, ge) }

module _ (line encoded : List ℕ) (w : IsWtf8 line) (same : encoded ≡ line) where
  pub name_cut : (after prefix suffix : List ℕ) → (name : List ℕ) × (raw : List ℕ) × ReadsName after false encoded name × (encoded ≡ raw ++ after) → prefix ≡ take (length encoded - length after) encoded → suffix ≡ drop (length encoded - length after) encoded → IsNameCut line prefix suffix
  name_cut after prefix suffix read f b =
      let raw = read.1 in
      let cut = cut_before_end encoded raw after _ read.3 refl in
      let is = cut_name line raw after read.0 w (sym same ∙ read.3) (subst (λ z. ReadsName after false z read.0) read.3 read.2) in
      subst (λ z. IsNameCut line z suffix) (sym (f ∙ cut.0)) (subst (IsNameCut line raw) (sym (b ∙ cut.1)) is)

  -- after blanks
  module _ (text : List ℕ) (gap : (blanks : List ℕ) × AllByRecursion IsBlank blanks × (encoded ≡ blanks ++ text) × (text ≢ [] → Begins text)) where
    pub argument_cut : (after prefix suffix : List ℕ) (bare : Bool) → text ≢ [] → BeginsArgument text after bare → prefix ≡ take (length text - length after) text → suffix ≡ drop (length text - length after) text → IsArgument line prefix suffix bare
    argument_cut after prefix suffix bare some read f b =
        let raw = read.raw in
        let cut = cut_before_end text raw after _ read.joined refl in
        let is = cut_argument line gap.0 raw after read.argument w gap.1 (sym same ∙ gap.2 ∙ ap (λ z. gap.0 ++ z) read.joined) (subst Begins read.joined (gap.3 some)) (subst (λ z. Reads after false z read.argument) read.joined read.reads) in
        let itself : bare ≡ true → meant first_index (units_of raw) ≡ units_of raw = λ e. bare_means_itself (units_of raw) (each_unit (IsInPart false) bare_past raw is.raw_formed (read.is_bare e)) in
        subst (λ z. IsArgument line z suffix bare) (sym (f ∙ cut.0)) (subst (λ z. IsArgument line raw z bare) (sym (b ∙ cut.1)) (record { cut = is; itself = itself }))

    pub only_blanks : text ≡ [] → AllByRecursion IsBlank (units_of line)
    only_blanks none = blank_units line gap.0 w gap.1 (sym same ∙ gap.2 ∙ ap (λ z. gap.0 ++ z) none ∙ append-nil gap.0)

pub not_empty : (text : List ℕ) → false ≡ eqb (length text) 0 → text ≢ []
not_empty text h e = true≢false (sym (eq-eqb (length text) 0 (ap length e)) ∙ sym h)

-- the argument of the text that was cut
pub next_of : (line raw rest : List ℕ) (bare : Bool) → IsArgument line raw rest bare → IsNext (units_of line) (kind_units (argument_kind bare) (units_of raw)) (units_of rest)
next_of line raw rest true a = subst (λ z. IsNext (units_of line) z (units_of rest)) (a.itself refl) a.cut.next
next_of line raw rest false a = a.cut.next
