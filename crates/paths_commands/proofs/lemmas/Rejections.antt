-- Why a path is rejected, by its task.
use Rattle.std.proofs.Common.{◌≡◌, ℕ, List}
use Rattle.std.specs.Prelude.{Bool}
use Rattle.path_building.specs.declared.base.Base.{Base}
use Rattle.os_str_bytes.specs.Platform.{Ghosts}
use Rattle.path_rules.specs.declared.rules.Style.{Style}
use Rattle.program_frame.specs.Strings.{strings}
use Rattle.list_programs.specs.declared.options.ItemEnd.{ItemEnd}
use Rattle.program_frame.specs.declared.os.Os.{Os}
use Rattle.paths_commands.specs.Styles.{style_of}
use Rattle.paths_commands.specs.Task.{IsRejection, IsUnanswered, IsUnconverted, IsUnjoined}
use Rattle.paths_commands.specs.declared.fault.Rejection.{Rejection}
use Rattle.paths_commands.specs.declared.fault.Rejection.TheVariants.{NoString, NoNormalForm, NoRelativePath, NoAbsolutePath, NoJoin, NoJoinAt, NoComponent, NoStringThere, HasNul, ResultHas}
use Rattle.paths_commands.specs.declared.task.Task.{Task}
use Rattle.paths_commands.specs.declared.task.Task.TheVariants.{Convert, JoinChecked}

-- a string without a result is rejected
pub unanswered_rejected : {E : Type 0} (p : Ghosts E) (style : Style) (end : ItemEnd) (task : Task) (path : List ℕ) (why : Rejection) → IsUnanswered p style task path why → IsRejection p style end task path why
unanswered_rejected p style end task path (NoString error) none = absurd none
unanswered_rejected p style end task path NoNormalForm none = none
unanswered_rejected p style end task path NoRelativePath none = none
unanswered_rejected p style end task path (NoAbsolutePath error) none = none
unanswered_rejected p style end task path (NoJoin error) none = none
unanswered_rejected p style end task path (NoJoinAt error text) none = none
unanswered_rejected p style end task path (NoComponent index text) none = none
unanswered_rejected p style end task path (NoStringThere error) none = none
unanswered_rejected p style end task path HasNul none = absurd none
unanswered_rejected p style end task path (ResultHas byte) none = absurd none

-- a path that has no path of the other platform has no result
pub unconverted_unanswered : {E : Type 0} (p : Ghosts E) (style : Style) (task : Task) (to : Os) (path : List ℕ) (why : Rejection) → task ≡ Convert to
    → IsUnconverted p style (style_of to) (strings to).first_fault path why → IsUnanswered p style task path why
unconverted_unanswered p style task to path (NoString error) is none = none
unconverted_unanswered p style task to path NoNormalForm is none = absurd none
unconverted_unanswered p style task to path NoRelativePath is none = absurd none
unconverted_unanswered p style task to path (NoAbsolutePath error) is none = absurd none
unconverted_unanswered p style task to path (NoJoin error) is none = absurd none
unconverted_unanswered p style task to path (NoJoinAt error text) is none = absurd none
unconverted_unanswered p style task to path (NoComponent index text) is none = (to, (is, none))
unconverted_unanswered p style task to path (NoStringThere error) is none = (to, (is, none))
unconverted_unanswered p style task to path HasNul is none = absurd none
unconverted_unanswered p style task to path (ResultHas byte) is none = absurd none

-- a path that isn't joined to the base has no result
pub unjoined_unanswered : {E : Type 0} (p : Ghosts E) (style : Style) (task : Task) (base : Base) (keeps : Bool) (path : List ℕ) (why : Rejection) → task ≡ JoinChecked base keeps
    → IsUnjoined p style base path why → IsUnanswered p style task path why
unjoined_unanswered p style task base keeps path (NoString error) is none = none.1.1
unjoined_unanswered p style task base keeps path NoNormalForm is none = absurd none.1.1
unjoined_unanswered p style task base keeps path NoRelativePath is none = absurd none.1.1
unjoined_unanswered p style task base keeps path (NoAbsolutePath error) is none = absurd none.1.1
unjoined_unanswered p style task base keeps path (NoJoin error) is none = (base, (keeps, (is, none)))
unjoined_unanswered p style task base keeps path (NoJoinAt error text) is none = (base, (keeps, (is, none)))
unjoined_unanswered p style task base keeps path (NoComponent index text) is none = absurd none.1.1
unjoined_unanswered p style task base keeps path (NoStringThere error) is none = absurd none.1.1
unjoined_unanswered p style task base keeps path HasNul is none = absurd none.1.1
unjoined_unanswered p style task base keeps path (ResultHas byte) is none = absurd none.1.1
