-- The files of the program.
use Rattle.names_commands.specs.declared.program.Names.{Names}

-- the files that ignore files are some of
abbrev pub files_of_program : {F : Type 0} → Names F → F
files_of_program names = names.files
