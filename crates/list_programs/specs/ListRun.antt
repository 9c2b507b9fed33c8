-- What a run over a list writes for the bytes that its reader had left, as far as they are known.
use Rattle.std.specs.Prelude.{◌≡◌, ◌≢◌, ◌⊎◌, ℕ, ◌+◌, ◌^◌, ◌≤◌, Bool, true, false, List, [], ◌∷◌, ◌++◌, length, Option, None, Some, IfSome, IfErr, OnOk, Result, Ok, Err, ⊤}
use Rattle.std.specs.List.{AllByRecursion}
use Rattle.std.specs.Io.KnownBytes.{Appends, Consumes, IsAtEnd}
use Rattle.program_frame.specs.Written.{AppendsBeginning}
use Rattle.program_frame.specs.declared.fault.Failure.TheVariants.{Write}
use Rattle.list_programs.specs.declared.fault.ListFault.{ListFault}
use Rattle.list_programs.specs.declared.fault.ListFault.TheVariants.{Rejected, TooLong, Unended, TooMuch, Run}
use Rattle.list_programs.specs.Items.{Entry, items_of, texts_of}
use Rattle.list_programs.specs.Rules.{ListRules, AreIn, IsEntry}
use Rattle.list_programs.specs.Reading.{State, Reads, Stops}

-- whether a text has a byte
abbrev pub has_some : List ℕ → Bool
has_some [] = false
has_some (byte ∷ more) = true

-- the contents grew by a text, and this is whether it has a byte
abbrev pub WritesSome : Bool → Option (List ℕ) → Option (List ℕ) → Type 0
WritesSome wrote old new = (text : List ℕ) × (Appends old new text × (wrote ≡ has_some text))

-- nothing has been read
abbrev pub start : State
start = record { begun = []; count = 0; output = [] }

module _ {F : Type 0} (list : ListRules F) where
  -- the output for an input with no item that is rejected
  pub record IsOutput (input output : List ℕ) : Type 0 where
    pub entries : List Entry
    pub are : AllByRecursion (IsEntry list) entries
    pub items : AreIn list entries input
    pub written : output ≡ texts_of entries

  -- the output for some of the first items of the input; each of them has its end
  pub record IsBegun (input output : List ℕ) : Type 0 where
    pub entries : List Entry
    pub are : AllByRecursion (IsEntry list) entries
    pub rest : List ℕ
    pub joined : input ≡ items_of list.end entries ++ rest
    pub written : output ≡ texts_of entries

  -- the output where the run ends with this fault: that for the items before the one that is rejected, or else that for some of the first items
  abbrev pub StopsOn : List ℕ → List ℕ → ListFault F → Type 0
  StopsOn input output (Rejected n why) = Stops list start input output (Rejected n why)
  StopsOn input output (TooLong n most) = Stops list start input output (TooLong n most)
  StopsOn input output (Unended n end) = Stops list start input output (Unended n end)
  StopsOn input output TooMuch = (2 ^ 64 ≤ length input + 1) × IsBegun input output
  StopsOn input output (Run why) = IsBegun input output

  -- the contents grew by the output for the input
  abbrev pub WritesOutput : Option (List ℕ) → Option (List ℕ) → Option (List ℕ) → Type 0
  WritesOutput input old new = IfSome input (λ bytes. (output : List ℕ) × (IsOutput bytes output × Appends old new output))

  -- the contents grew by the output where the run ends with this fault
  abbrev pub WritesUpTo : ListFault F → Option (List ℕ) → Option (List ℕ) → Option (List ℕ) → Type 0
  WritesUpTo fault input old new = IfSome input (λ bytes. (output : List ℕ) × (StopsOn bytes output fault × Appends old new output))

  -- the contents grew by a beginning of the output for some of the first items, or of all the output
  abbrev pub WritesBeginning : Option (List ℕ) → Option (List ℕ) → Option (List ℕ) → Type 0
  WritesBeginning input old new = IfSome input (λ bytes. (output : List ℕ) × ((IsBegun bytes output ⊎ IsOutput bytes output) × AppendsBeginning old new output))

  -- what `run` ensures of the bytes that its reader had and has left, of what its writer held and holds, and of its result
  pub record IsRun (input left old new : Option (List ℕ)) (answer : Result ⊤ (ListFault F)) : Type 0 where
    pub all_read : OnOk answer (IsAtEnd left)
    pub written : OnOk answer (WritesOutput input old new)
    pub stopped : IfErr answer (λ fault. fault ≢ Run Write → WritesUpTo fault input old new)
    pub beginning : answer ≡ Err (Run Write) → WritesBeginning input old new

  -- so much has been read of an input and written: the bytes left and the contents at first, and now
  pub record HasRead (input left old new : Option (List ℕ)) (begun : List ℕ) (count total : ℕ) : Type 0 where
    pub bytes : List ℕ
    pub text : List ℕ
    pub consumed : Consumes input left bytes
    pub written : Appends old new text
    pub reads : Reads list start bytes (record { begun = begun; count = count; output = text })
    pub total_is : total ≡ length bytes

  -- what is written for the item that has begun at the end of the input
  pub record IsLast (begun text : List ℕ) : Type 0 where
    pub some : begun ≢ []
    pub taken : list.takes_unended
    pub entry : IsEntry list (begun, text)

  abbrev pub Finishes : List ℕ → List ℕ → Type 0
  Finishes begun text = ((begun ≡ []) × (text ≡ [])) ⊎ IsLast begun text

-- the result of a run over a list, as a program returns it
abbrev pub answer_of : {F X : Type 0} → (ListFault F → X) → Result ⊤ (ListFault F) → Result ⊤ X
answer_of fault (Ok done) = Ok done
answer_of fault (Err why) = Err (fault why)

-- the result is that of a run over the list
abbrev pub Runs : {F X : Type 0} → ListRules F → (ListFault F → X) → Option (List ℕ) → Option (List ℕ) → Option (List ℕ) → Option (List ℕ) → Result ⊤ X → Type 0
Runs list fault input left old new answer = (ran : Result ⊤ (ListFault _)) × (IsRun list input left old new ran × (answer ≡ answer_of fault ran))

-- the result where something was written, or nothing: this fault, if one is given for that
abbrev pub ended_by : {X : Type 0} → Option X → Bool → Result ⊤ X
ended_by None wrote = Ok tt
ended_by (Some why) true = Ok tt
ended_by (Some why) false = Err why

-- the result after this outcome of a run by which the contents grew, where nothing written may be a fault
abbrev pub IsEndedBy : {X : Type 0} → Option X → Option (List ℕ) → Option (List ℕ) → Result ⊤ X → Result ⊤ X → Type 0
IsEndedBy lacking old new (Ok done) answer = (wrote : Bool) × (WritesSome wrote old new × (answer ≡ ended_by lacking wrote))
IsEndedBy lacking old new (Err why) answer = answer ≡ Err why

-- this is done, and the result is its outcome, or this fault, if one is given, where nothing was written
abbrev pub EndedBy : {X : Type 0} → Option X → (Option (List ℕ) → Option (List ℕ) → Option (List ℕ) → Option (List ℕ) → Result ⊤ X → Type 0) → Option (List ℕ) → Option (List ℕ) → Option (List ℕ) → Option (List ℕ) → Result ⊤ X → Type 0
EndedBy lacking Done input left old new answer = (ran : Result ⊤ _) × (Done input left old new ran × IsEndedBy lacking old new ran answer)
