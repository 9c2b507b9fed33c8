-- The styles of the platforms' paths.
use Rattle.path_rules.specs.declared.rules.Style.{Style}
use Rattle.path_rules.specs.declared.rules.Style.TheVariants as style
use Rattle.program_frame.specs.declared.os.Os.{Os}
use Rattle.program_frame.specs.declared.os.Os.TheVariants.{Unix, Windows, Wasm}

-- whose rules the paths of the platform follow
abbrev pub style_of : Os → Style
style_of Unix = style.Unix
style_of Windows = style.Windows
style_of Wasm = style.Unix
