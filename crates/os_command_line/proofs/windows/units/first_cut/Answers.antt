use Rattle.std.proofs.Common.{◌++◌, ◌∙◌, sym, ap, append-nil}
use Rattle.wtf8_core.specs.UnitsOf.{units_of}
use Rattle.platform_str.specs.Strings.{bytes}
use Rattle.os_command_line.specs.WindowsReader.{meant, first_index, name_index}
use Rattle.os_command_line.specs.WindowsViews.{kind_units}
use Rattle.os_command_line.proofs.lemmas.WindowsOneReading.{meant_end}
use Rattle.os_command_line.proofs.lemmas.WindowsStrings.{no_units}
use Rattle.os_command_line.proofs.windows.units.first_cut.Goals as goal

pub returns-in-Name : goal.returns-in-Name
returns-in-Name c =
    let us = units_of (bytes c.args.text) in
    c.first_tail.ensures (units_of (bytes c.new.result)) ∙ ap (λ z. z ++ meant name_index us) (no_units (bytes c.new.result) c.new.result.ok c.new.ensures) ∙ ap (λ k. kind_units k us) (sym c.in-Name.is)

pub returns-in-Marked : goal.returns-in-Marked
returns-in-Marked c =
    let us = units_of (bytes c.args.text) in
    c.first_tail-in-Marked.ensures (units_of (bytes c.new-in-Marked.result)) ∙ ap (λ z. z ++ meant first_index us) (no_units (bytes c.new-in-Marked.result) c.new-in-Marked.result.ok c.new-in-Marked.ensures) ∙ ap (λ k. kind_units k us) (sym c.in-Marked.is)

pub returns-in-Bare : goal.returns-in-Bare
returns-in-Bare c =
    let us = units_of (bytes c.args.text) in
    c.first_tail-in-Bare.ensures us
    ∙ ap (λ z. us ++ meant first_index z) (no_units (bytes c.new-in-Bare.result) c.new-in-Bare.result.ok c.new-in-Bare.ensures)
    ∙ ap (λ z. us ++ z) (meant_end first_index)
    ∙ append-nil us
    ∙ ap (λ k. kind_units k us) (sym c.in-Bare.is)
