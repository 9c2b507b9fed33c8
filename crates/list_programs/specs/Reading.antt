-- How far an input has been read that comes in blocks. Only private contracts name this.
use Rattle.std.specs.Prelude.{◌≡◌, ◌⊎◌, ℕ, ◌+◌, ◌^◌, ◌≤◌, ◌<◌, List, [], ◌∷◌, ◌++◌, length}
use Rattle.std.specs.List.{AllByRecursion}
use Rattle.program_frame.specs.declared.fault.Failure.TheVariants.{Memory}
use Rattle.list_programs.specs.declared.fault.ListFault.{ListFault}
use Rattle.list_programs.specs.declared.fault.ListFault.TheVariants.{Rejected, TooLong, Unended, TooMuch, Run}
use Rattle.list_programs.specs.Items.{Entry, Lacks, items_of, texts_of}
use Rattle.list_programs.specs.Rules.{ListRules, IsRejected, IsEntry}

-- the bytes of the item that has begun, how many items have ended, and what was written for them
pub record State : Type 0 where
  pub begun : List ℕ
  pub count : ℕ
  pub output : List ℕ

-- an item has begun, and isn't too long yet
pub record HasBegun {F : Type 0} (list : ListRules F) (begun : List ℕ) : Type 0 where
  pub whole : Lacks list.end begun
  pub short : length begun ≤ list.longest

-- these bytes lead from one state to another
pub record Reads {F : Type 0} (list : ListRules F) (old : State) (bytes : List ℕ) (new : State) : Type 0 where
  pub entries : List Entry
  pub are : AllByRecursion (IsEntry list) entries
  pub joined : old.begun ++ bytes ≡ items_of list.end entries ++ new.begun
  pub begun : HasBegun list new.begun
  pub counted : new.count ≡ old.count + length entries
  pub written : new.output ≡ old.output ++ texts_of entries

-- an item is whole: its end comes after it, or nothing where it may lack that
abbrev pub IsWhole : {F : Type 0} → ListRules F → List ℕ → Type 0
IsWhole list rest = ((rest ≡ []) × list.takes_unended) ⊎ ((more : List ℕ) × (rest ≡ list.end ∷ more))

-- what comes after an item that is rejected with this fault: one that is too long, or that has no memory, is rejected before its end is known
abbrev pub IsEnded : {F : Type 0} → ListRules F → ListFault F → List ℕ → Type 0
IsEnded list (Rejected n why) rest = IsWhole list rest
IsEnded list (TooLong n most) rest = Unit {0}
IsEnded list (Unended n end) rest = rest ≡ []
IsEnded list TooMuch rest = Unit {0}
IsEnded list (Run why) rest = Unit {0}

-- among these bytes is an item with this fault, and for those before it this was written
pub record Stops {F : Type 0} (list : ListRules F) (old : State) (bytes output : List ℕ) (fault : ListFault F) : Type 0 where
  pub entries : List Entry
  pub are : AllByRecursion (IsEntry list) entries
  pub item : List ℕ
  pub rest : List ℕ
  pub joined : old.begun ++ bytes ≡ items_of list.end entries ++ (item ++ rest)
  pub whole : Lacks list.end item
  pub ended : IsEnded list fault rest
  pub because : IsRejected list (old.count + length entries + 1) item fault
  pub written : output ≡ old.output ++ texts_of entries

-- an item is too long, or the allocation for it failed
abbrev pub IsKeepFault : {F : Type 0} → ListRules F → ℕ → List ℕ → ListFault F → Type 0
IsKeepFault list number item fault = ((fault ≡ TooLong number list.max) × (list.longest < length item)) ⊎ (fault ≡ Run Memory)

-- the block has been read up to `rest`, and these bytes of it led from one state to another; all items can be counted
pub record IsUpTo {F : Type 0} (list : ListRules F) (old : State) (block rest : List ℕ) (new : State) : Type 0 where
  pub done : List ℕ
  pub cut : block ≡ done ++ rest
  pub reads : Reads list old done new
  pub room : new.count + length new.begun + length rest + 1 < 2 ^ 64

-- the bytes begin with items for which this was written
pub record Begins {F : Type 0} (list : ListRules F) (old : State) (bytes output : List ℕ) : Type 0 where
  pub entries : List Entry
  pub are : AllByRecursion (IsEntry list) entries
  pub rest : List ℕ
  pub joined : old.begun ++ bytes ≡ items_of list.end entries ++ rest
  pub written : output ≡ old.output ++ texts_of entries
