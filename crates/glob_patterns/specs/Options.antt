-- How a pattern is read and matched, for the crates below.
use Rattle.std.specs.Prelude.{true, false}
use Rattle.wildcards.specs.declared.options.Options.{Options}
use Rattle.wildcards.specs.declared.separators.Separators.{Separators}
use Rattle.glob_text.specs.declared.syntax.Syntax.{Syntax}
use Rattle.glob_patterns.specs.declared.options.GlobOptions.{GlobOptions}

-- the options with these separators and no others
abbrev pub usual_options : Separators → GlobOptions
usual_options separators = record { separators = separators; literal_leading_dot = false; escapes = true; class_escapes = false; case_insensitive = false }

-- how the text of a pattern is read
abbrev pub syntax_of : GlobOptions → Syntax
syntax_of o = record { separators = o.separators; escapes = o.escapes; class_escapes = o.class_escapes; case_insensitive = o.case_insensitive }

-- how paths are matched
abbrev pub options_of : GlobOptions → Options
options_of o = record { separators = o.separators; literal_leading_dot = o.literal_leading_dot }
