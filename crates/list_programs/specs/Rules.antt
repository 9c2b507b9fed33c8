-- What is done with the items of a list, and with which faults they are rejected.
use Rattle.std.specs.Prelude.{◌≡◌, ◌≢◌, ◌⊎◌, ℕ, ◌<◌, ◌≤◌, List, [], length}
use Rattle.program_frame.specs.declared.fault.Failure.TheVariants.{Memory}
use Rattle.list_programs.specs.declared.fault.ItemFault.{ItemFault}
use Rattle.list_programs.specs.declared.fault.ItemFault.TheVariants as item_fault
use Rattle.list_programs.specs.declared.fault.ListFault.{ListFault}
use Rattle.list_programs.specs.declared.fault.ListFault.TheVariants.{Rejected, TooLong, Unended, TooMuch, Run}
use Rattle.list_programs.specs.ListOptions.{byte_of}
use Rattle.list_programs.specs.Items.{Entry, Lacks, IsLastUnended, items_of}

-- what is done with each item of a list. The fields are the byte that ends an item, whether the last may lack it, and how many bytes a name and an item may have. They also state what is written for an item, why one is rejected, and which items are of a name that is too long.
pub record ListRules (F : Type 0) : Type 1 where
  pub end : ℕ
  pub takes_unended : Type 0
  pub max : ℕ
  pub longest : ℕ
  pub is_text : List ℕ → List ℕ → Type 0
  pub rejects : List ℕ → F → Type 0
  pub is_of_long : List ℕ → Type 0

module _ {F : Type 0} (list : ListRules F) where
  -- the items of the entries are those of the input
  abbrev pub AreIn : List Entry → List ℕ → Type 0
  AreIn entries input = (input ≡ items_of list.end entries) ⊎ (list.takes_unended × IsLastUnended list.end entries input)

  -- why nothing is written for an item; an allocation may fail at any
  abbrev pub IsItemFault : List ℕ → ItemFault F → Type 0
  IsItemFault item (item_fault.Rejected why) = list.rejects item why
  IsItemFault item item_fault.TooLong = list.is_of_long item
  IsItemFault item item_fault.Memory = Unit {0}

  -- with which fault the item with this number ends the run; an allocation may fail at any item
  abbrev pub IsFaultAt : ℕ → List ℕ → ListFault F → Type 0
  IsFaultAt number item (Rejected n why) = (n ≡ number) × ((length item ≤ list.longest) × list.rejects item why)
  IsFaultAt number item (TooLong n most) = (n ≡ number) × ((most ≡ list.max) × ((list.longest < length item) ⊎ list.is_of_long item))
  IsFaultAt number item (Unended n end) = ⊥
  IsFaultAt number item TooMuch = ⊥
  IsFaultAt number item (Run why) = why ≡ Memory

  -- with which fault the run ends at an item: its own, or that it is the last, isn't empty and has to have its end
  abbrev pub IsRejected : ℕ → List ℕ → ListFault F → Type 0
  IsRejected number item (Rejected n why) = IsFaultAt number item (Rejected n why)
  IsRejected number item (TooLong n most) = IsFaultAt number item (TooLong n most)
  IsRejected number item (Unended n end) = (n ≡ number) × ((byte_of end ≡ list.end) × ((item ≢ []) × (¬ list.takes_unended)))
  IsRejected number item TooMuch = ⊥
  IsRejected number item (Run why) = IsFaultAt number item (Run why)

  -- an item that isn't rejected, and what is written for it
  pub record IsEntry (e : Entry) : Type 0 where
    pub whole : Lacks list.end e.0
    pub short : length e.0 ≤ list.longest
    pub text : list.is_text e.0 e.1

-- the list with other texts for its items
abbrev pub with_texts : {F : Type 0} → (List ℕ → List ℕ → Type 0) → ListRules F → ListRules F
with_texts is_text list = record {
  end = list.end;
  takes_unended = list.takes_unended;
  max = list.max;
  longest = list.longest;
  is_text = is_text;
  rejects = list.rejects;
  is_of_long = list.is_of_long;
}

-- nothing is written for an item, since it is rejected
abbrev pub IsPassedOver : {F : Type 0} → ListRules F → List ℕ → List ℕ → Type 0
IsPassedOver list item text = (text ≡ []) × ((why : _) × list.rejects item why)

-- the list where items that are rejected may have been passed over, if the count of those isn't 0
abbrev pub passing : {F : Type 0} → ℕ → ListRules F → ListRules F
passing count list = with_texts (λ item text. list.is_text item text ⊎ ((0 < count) × IsPassedOver list item text)) list

-- the run may end with this fault, where this states whether an item that is rejected may end it
abbrev pub EndsRun : {F : Type 0} → Type 0 → ListFault F → Type 0
EndsRun stops (Rejected n why) = stops
EndsRun stops (TooLong n most) = Unit {0}
EndsRun stops (Unended n end) = Unit {0}
EndsRun stops TooMuch = Unit {0}
EndsRun stops (Run why) = Unit {0}
