-- The paths of a list in memory, and what is written for them.
use Rattle.std.proofs.Common.{◌≡◌, ◌≢◌, ◌∙◌, ℕ, List, [], ◌∷◌, ◌++◌, inl, inr, map, refl, sym, ap, append_assoc, append-nil, subst}
use Rattle.std.specs.Prelude.{Bool, true, false, ⊤, ◌⊎◌, Option, Some, Result, Err}
use Rattle.std.specs.List.{AllByRecursion}
use denote.Ref.{Bor}
use Rattle.path_building.specs.CommonBase.{bytes_of}
use Rattle.path_rules.specs.declared.rules.Style.{Style}
use Rattle.list_programs.specs.Items.{Lacks, IsCutAt}
use Rattle.list_programs.specs.ListOptions.{byte_of}
use Rattle.list_programs.specs.declared.options.ItemEnd.{ItemEnd}
use Rattle.list_programs.specs.ProgramFault.{BlamesEnds}
use Rattle.list_programs.specs.declared.fault.ListFault.TheVariants.{Run}
use Rattle.list_programs.specs.declared.options.ItemEnd.TheVariants.{Nul}
use Rattle.list_programs.specs.declared.options.ListOptions.{ListOptions}
use Rattle.list_programs.specs.declared.program_fault.Fault.TheVariants.{List as OfList, Words}
use Rattle.program_frame.specs.declared.fault.Failure.TheVariants.{Memory, Read, Write}
use Rattle.program_frame.specs.declared.os.Os.{Os}
use Rattle.paths_commands.specs.Common.{IsBaseText, IsCommonText, IsUncommon}
use Rattle.paths_commands.specs.Program.{AreListed, EndsEarly, Fault, HasReadAll, RunsCommon, RunsEach, WritesCommon, list_text}
use Rattle.paths_commands.specs.Styles.{style_of}
use Rattle.paths_commands.specs.declared.fault.CommandFault.{CommandFault}
use Rattle.paths_commands.specs.declared.task.Task.TheVariants.{Common}

text_push : (paths : List (List ℕ)) (path : List ℕ) → list_text (paths ++ path ∷ []) ≡ list_text paths ++ (path ++ 0 ∷ [])
text_push [] path = append-nil (path ++ 0 ∷ [])
text_push (first ∷ paths) path = ap (λ text. (first ++ 0 ∷ []) ++ text) (text_push paths path) ∙ sym (append_assoc (first ++ 0 ∷ []) (list_text paths) (path ++ 0 ∷ []))

all_push : (paths : List (List ℕ)) (path : List ℕ) → AllByRecursion (Lacks 0) paths → Lacks 0 path → AllByRecursion (Lacks 0) (paths ++ path ∷ [])
all_push [] path all one = (one, tt)
all_push (first ∷ paths) path all one = (all.0, all_push paths path all.1 one)

bytes_push : (items : List (Bor (List ℕ))) (path : Bor (List ℕ)) → map bytes_of (items ++ path ∷ []) ≡ map bytes_of items ++ path.now ∷ []
bytes_push [] path = refl
bytes_push (item ∷ items) path = ap (λ more. item.now ∷ more) (bytes_push items path)

-- so far these paths of the list were found, and this is left of it
pub record Held (held left : List ℕ) (paths : List (List ℕ)) : Type 0 where
  pub whole : AllByRecursion (Lacks 0) paths
  pub joined : held ≡ list_text paths ++ left

pub none_found : (held : List ℕ) → Held held held []
none_found held = record { whole = tt; joined = refl }

pub one_found : (held left after : List ℕ) (items now : List (Bor (List ℕ))) (path : Bor (List ℕ)) → Held held left (map bytes_of items) → IsCutAt 0 left path.now after → now ≡ items ++ path ∷ [] → Held held after (map bytes_of now)
one_found held left after items now path found cut pushed =
    let paths = map bytes_of items in
    subst (Held held after) (sym (ap (map bytes_of) pushed ∙ bytes_push items path)) (record {
      whole = all_push paths path.now found.whole cut.whole;
      joined =
          found.joined ∙ ap (λ left. list_text paths ++ left) (cut.joined ∙ sym (append_assoc path.now (0 ∷ []) after))
          ∙ sym (append_assoc (list_text paths) (path.now ++ 0 ∷ []) after)
          ∙ ap (λ text. text ++ after) (sym (text_push paths path.now));
    })

pub all_found : (held left : List ℕ) (paths : List (List ℕ)) → Held held left paths → Lacks 0 left → AreListed held paths
all_found held left paths found lacks = (found.whole, (left, (lacks, found.joined)))

some_none : {X : Type 0} {x : X} {xs : List X} → x ∷ xs ≡ [] → ⊥
some_none e = cc

pub no_common : (style : Style) (end : ItemEnd) (paths : List (List ℕ)) (text : List ℕ) → paths ≡ [] → text ≡ [] → IsCommonText style end paths text
no_common style end [] text none e = e
no_common style end (path ∷ paths) text none e = absurd (some_none none)

pub some_common : (style : Style) (end : ItemEnd) (paths : List (List ℕ)) (text base : List ℕ) → paths ≢ [] → IsBaseText style paths base → Lacks (byte_of end) base → text ≡ base ++ byte_of end ∷ [] → IsCommonText style end paths text
some_common style end [] text base some is lacks e = absurd (some refl)
some_common style end (path ∷ paths) text base some is lacks e = (base, (is, (lacks, e)))

-- nothing is written for paths without a common base, or where memory is refused
pub refused : (style : Style) (end : ItemEnd) (held : List ℕ) (paths : List (List ℕ)) (ran answer : Result ⊤ Fault) (old : Option (List ℕ)) (fault : Fault) → answer ≡ Err fault → AreListed held paths
    → (fault ≡ OfList (Run Memory)) ⊎ ((why : CommandFault) × ((fault ≡ Words why) × IsUncommon style end paths why))
    → ((answer ≡ Err (OfList (Run Memory))) × (old ≡ old)) ⊎ ((paths : List (List ℕ)) × (AreListed held paths × WritesCommon style end paths ran old old answer))
refused style end held paths ran answer old fault is listed (inl memory) = inl (is ∙ ap Err memory, refl)
refused style end held paths ran answer old fault is listed (inr own) = inr (paths, (listed, inr (own.0, (own.1.1, (is ∙ ap Err own.1.0, refl)))))

-- what is written after a run that has read all paths
pub after_all : (keeps_going : Bool) (os : Os) (list : ListOptions) (end : ItemEnd) (input left old new : Option (List ℕ)) (held : List ℕ) (ran same answer : Result ⊤ Fault) → RunsEach keeps_going os Common list Nul input left (Some []) (Some held) ran → HasReadAll ran × (same ≡ ran)
    → ((answer ≡ Err (OfList (Run Memory))) × (new ≡ old)) ⊎ ((paths : List (List ℕ)) × (AreListed held paths × WritesCommon (style_of os) end paths same old new answer))
    → RunsCommon keeps_going os list end input left old new answer
after_all keeps_going os list end input left old new held ran same answer each all (inl memory) = (held, (ran, (each, inl (memory.1, inl memory.0))))
after_all keeps_going os list end input left old new held ran same answer each all (inr some) = (held, (ran, (each, inr (all.0, (some.0, (some.1.0, subst (λ ran. WritesCommon (style_of os) end some.0 ran old new answer) all.1 some.1.1))))))

memory_apart : (answer : Result ⊤ Fault) → answer ≡ Err (OfList (Run Memory)) → answer ≡ Err (OfList (Run Read)) → ⊥
memory_apart answer e d = cc

memory_no_write : (answer : Result ⊤ Fault) → answer ≡ Err (OfList (Run Memory)) → answer ≡ Err (OfList (Run Write)) → ⊥
memory_no_write answer e d = cc

not_set : (b : Bool) → b ≡ false → b ≡ true → ⊥
not_set b e d = cc

-- the reader alone may be to blame where a run ends early, since what it wrote is held
pub early_blames : (ran answer : Result ⊤ Fault) (reader held writer : Bool) → EndsEarly ran answer → ((ran ≡ Err (OfList (Run Read))) → (answer ≡ Err (OfList (Run Read)))) → BlamesEnds ran reader held → writer ≡ false → BlamesEnds answer reader writer
early_blames ran answer reader held writer (inl memory) same blames unset =
    ((λ e. absurd (memory_apart answer memory e), λ set. same (blames.0.1 set)), (λ e. absurd (memory_no_write answer memory e), λ set. absurd (not_set writer unset set)))
early_blames ran answer reader held writer (inr early) same blames unset =
    ((λ e. blames.0.0 (sym early.1.1 ∙ e), λ set. same (blames.0.1 set)), (λ e. absurd (early.1.0 (sym early.1.1 ∙ e)), λ set. absurd (not_set writer unset set)))
