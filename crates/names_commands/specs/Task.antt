-- What is written for an item, and why it is rejected.
use Rattle.std.specs.Prelude.{◌≡◌, ◌≢◌, ℕ, ◌+◌, ◌*◌, ◌≤◌, ◌<◌, List, [], ◌∷◌, ◌++◌, length}
use Rattle.std.specs.Str.{IsUtf8}
use Rattle.os_str_bytes.specs.EncodingError.{EncodingError}
use Rattle.os_str_bytes.specs.Platform.{Ghosts}
use Rattle.os_str_bytes.specs.WasmLaws.{IsTextFault}
use Rattle.os_quote.specs.Escape as escape
use Rattle.os_quote.specs.Escape.{IsLineEscape}
use Rattle.os_quote.specs.declared.error.QuoteError.{QuoteError}
use Rattle.os_quote.specs.declared.error.QuoteError.TheVariants as quote
use Rattle.list_programs.specs.Items.{Lacks}
use Rattle.list_programs.specs.ListOptions.{MayLack, byte_of}
use Rattle.list_programs.specs.Rules.{ListRules}
use Rattle.list_programs.specs.declared.fault.ItemFault.{ItemFault}
use Rattle.list_programs.specs.declared.fault.ItemFault.TheVariants.{Rejected, TooLong, Memory}
use Rattle.list_programs.specs.declared.options.ItemEnd.{ItemEnd}
use Rattle.list_programs.specs.declared.options.ItemEnd.TheVariants.{Nul, Newline}
use Rattle.list_programs.specs.declared.options.LastItem.TheVariants.{MustEnd}
use Rattle.list_programs.specs.declared.options.ListOptions.{ListOptions}
use Rattle.names_commands.specs.declared.fault.Rejection.{Rejection}
use Rattle.names_commands.specs.declared.fault.Rejection.TheVariants as rejection
use Rattle.names_commands.specs.declared.task.Task.{Task}
use Rattle.names_commands.specs.declared.task.EmptyLine.{EmptyLine}
use Rattle.names_commands.specs.declared.task.EmptyLine.TheVariants.{IsRejected, IsEmptyName}
use Rattle.names_commands.specs.declared.task.Task.TheVariants.{ListAll, ListWords, Check, Join, JoinWords}
use Rattle.names_commands.specs.Names.{EndsInReturn, IsFit, IsNameRejection, IsUnfit}
use Rattle.names_commands.specs.Words.{IsWordLine, AreNamesOf, IsLineFault}
use Rattle.names_commands.specs.declared.task.Settings.{Settings}

-- the byte that ends an item, where this one ends a name: a newline ends a line
abbrev pub end_of : Task → ItemEnd → ItemEnd
end_of ListAll end = end
end_of (ListWords form) end = end
end_of Check end = end
end_of (Join empty) end = Newline
end_of JoinWords end = Newline

-- this task, for names of at most `max` bytes, each ended by NUL
abbrev pub with_limit : Task → ℕ → Settings
with_limit task max = record { task = task; list = record { end = Nul; last = MustEnd; max = max } }

-- a line is the escape of a name: the empty line is that of the empty name where the settings take it
abbrev pub IsTaken : EmptyLine → List ℕ → Type 0
IsTaken IsRejected line = line ≢ []
IsTaken IsEmptyName line = Unit {0}

-- an empty line is rejected
abbrev pub IsEmpty : EmptyLine → List ℕ → Type 0
IsEmpty empty line = (empty ≡ IsRejected) × (line ≡ [])

-- why nothing is written for a line that isn't an escape for this reason; an allocation may fail
abbrev pub quote_fault : QuoteError → ItemFault Rejection
quote_fault (quote.BadEscape index) = Rejected (rejection.BadEscape index)
quote_fault quote.NotCanonical = Rejected rejection.NotCanonical
quote_fault quote.Memory = Memory

-- how long an item may be where a name may have `max` bytes: for each of them an escape has at most six, and a word four and three more
abbrev pub longest : Task → ℕ → ℕ
longest ListAll max = max
longest (ListWords form) max = max
longest Check max = max
longest (Join empty) max = 6 * max
longest JoinWords max = 4 * max + 3

abbrev pub longest_item : Settings → ℕ
longest_item s = longest s.task s.list.max

-- on a platform that states this of its strings:
module _ {E : Type 0} (p : Ghosts E) where
  -- the text is the escape of the name on a line
  abbrev pub IsLine : List ℕ → List ℕ → Type 0
  IsLine name text = (line : List ℕ) × IsLineEscape p.units name line × (text ≡ line ++ 0x0A ∷ [])

  -- a name of at most `max` bytes, which a line is the escape of
  pub record IsNameOf (max : ℕ) (line name : List ℕ) : Type 0 where
    pub formed : p.well_formed name
    pub escape : IsLineEscape p.units name line
    pub short : length name ≤ max

  -- the text is the name that a line is the escape of, and its end
  abbrev pub IsEscapeOf : ListOptions → List ℕ → List ℕ → Type 0
  IsEscapeOf list line text = (name : List ℕ) × IsNameOf list.max line name × (IsFit list.end name × (text ≡ name ++ byte_of list.end ∷ []))

  -- this is written for an item that isn't rejected
  abbrev pub IsText : Task → ListOptions → List ℕ → List ℕ → Type 0
  IsText ListAll list name text = p.well_formed name × (Lacks 0 name × IsLine name text)
  IsText (ListWords form) list name text = p.well_formed name × (Lacks 0 name × IsWordLine form name text)
  IsText Check list name text = p.well_formed name × (Lacks 0 name × (text ≡ []))
  IsText (Join empty) list line text = IsTaken empty line × IsEscapeOf list line text
  IsText JoinWords list line text = AreNamesOf list line text

  -- why a line that doesn't end in a carriage return isn't UTF-8, or isn't the escape of any string
  abbrev pub HasFault : List ℕ → EncodingError → Type 0
  HasFault line error = (¬ (EndsInReturn line)) × IsTextFault line error

  abbrev pub HasBadQuote : List ℕ → QuoteError → Type 0
  HasBadQuote line error = (¬ (EndsInReturn line)) × (IsUtf8 line × escape.IsLineFault p.well_formed p.units line error)

  -- a line is the escape of a name that can't be written, for this reason
  abbrev pub IsOfUnfit : ListOptions → List ℕ → Rejection → Type 0
  IsOfUnfit list line why = (name : List ℕ) × IsNameOf list.max line name × IsUnfit list.end name why

  -- a line is the escape of a name of more than `max` bytes
  abbrev pub IsOfLong : Task → ListOptions → List ℕ → Type 0
  IsOfLong ListAll list name = ⊥
  IsOfLong (ListWords form) list name = ⊥
  IsOfLong Check list name = ⊥
  IsOfLong (Join empty) list line = (name : List ℕ) × p.well_formed name × (IsLineEscape p.units name line × (list.max < length name))
  IsOfLong JoinWords list line = IsLineFault list line TooLong

  -- why a line isn't the escape of a name; one that ends in a carriage return is rejected for that
  abbrev pub IsJoinRejection : EmptyLine → ListOptions → List ℕ → Rejection → Type 0
  IsJoinRejection empty list line (rejection.NoString error) = HasFault line error
  IsJoinRejection empty list line (rejection.BadEscape index) = HasBadQuote line (quote.BadEscape index)
  IsJoinRejection empty list line rejection.NotCanonical = HasBadQuote line quote.NotCanonical
  IsJoinRejection empty list line rejection.HasNul = IsOfUnfit list line rejection.HasNul
  IsJoinRejection empty list line rejection.HasNewline = IsOfUnfit list line rejection.HasNewline
  IsJoinRejection empty list line rejection.EndsInReturn = EndsInReturn line
  IsJoinRejection empty list line rejection.EmptyLine = IsEmpty empty line
  IsJoinRejection empty list line (rejection.BadWords fault) = ⊥
  IsJoinRejection empty list line (rejection.BadArchive fault) = ⊥
  IsJoinRejection empty list line rejection.NotFromTop = ⊥

  -- why an item is rejected
  abbrev pub IsRejection : Task → ListOptions → List ℕ → Rejection → Type 0
  IsRejection ListAll list name why = IsNameRejection p name why
  IsRejection (ListWords form) list name why = IsNameRejection p name why
  IsRejection Check list name why = IsNameRejection p name why
  IsRejection (Join empty) list line why = IsJoinRejection empty list line why
  IsRejection JoinWords list line why = IsLineFault list line (Rejected why)

  -- what is done with each item
  abbrev pub rules_of : Settings → ListRules Rejection
  rules_of s = record {
    end = byte_of (end_of s.task s.list.end);
    takes_unended = MayLack s.list.last;
    max = s.list.max;
    longest = longest_item s;
    is_text = IsText s.task s.list;
    rejects = IsRejection s.task s.list;
    is_of_long = IsOfLong s.task s.list;
  }
