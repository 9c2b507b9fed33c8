-- The faults that a call reports.
use Rattle.std.specs.Prelude.{◌≡◌, ℕ, ◌<◌, ◌-◌, ◌^◌, zero, suc, List, length, Option, Some, None}
use Rattle.std.specs.Str.{IsUtf8}
use Rattle.wtf8_core.specs.Wtf8.{IsWtf8}
use Rattle.wtf8_core.specs.Fault.{IsFaultAt}
use Rattle.wtf8_core.specs.Utf8.{IsUtf8Fault}
use Rattle.wtf8_core.specs.Checker.{IsFaulty, HasFirstFault, saved_progress}
use Rattle.wtf8_core.specs.Checker as checker
use Rattle.wtf8_core.specs.declared.checker.SavedChecker.{SavedChecker}
use Rattle.wtf8_core.specs.declared.fault.EncodingError.{EncodingError}
use Rattle.wtf8_core.specs.declared.fault.EncodingError.TheVariants.{Byte, CodePoint, End, Utf8}
use Rattle.wtf8_core.specs.FaultText.{fault_text}
use Rattle.osbytes_c.specs.declared.strings.fault.Fault.{Fault}
use Rattle.osbytes_c.specs.declared.strings.checker.Open.{Open}

-- the number of a fault's kind
abbrev pub kind_of : EncodingError → ℕ
kind_of (Byte b) = 1
kind_of (CodePoint c) = 2
kind_of End = 3
kind_of (Utf8 i (Some n)) = 4
kind_of (Utf8 i None) = 5

-- the byte or the code point of a fault
abbrev pub value_of : EncodingError → ℕ
value_of (Byte b) = b
value_of (CodePoint c) = c
value_of End = 0
value_of (Utf8 i n) = 0

-- the bytes are a string of the platform with this number: any bytes, WTF-8, UTF-8
abbrev pub IsString : ℕ → List ℕ → Type 0
IsString zero bytes = Unit {0}
IsString (suc zero) bytes = IsWtf8 bytes
IsString (suc (suc zero)) bytes = IsUtf8 bytes
IsString (suc (suc (suc n))) bytes = ⊥

-- the bytes aren't a string of the platform with this number
abbrev pub IsUnstring : ℕ → List ℕ → Type 0
IsUnstring zero bytes = ⊥
IsUnstring (suc zero) bytes = ¬ (IsWtf8 bytes)
IsUnstring (suc (suc zero)) bytes = ¬ (IsUtf8 bytes)
IsUnstring (suc (suc (suc n))) bytes = ⊥

-- the report is the first fault of bytes that aren't WTF-8
pub record IsWtf8Report (bytes : List ℕ) (report : Fault) : Type 0 where
  pub fault : EncodingError
  pub first : HasFirstFault bytes fault
  pub kind : report.kind ≡ kind_of fault
  pub value : report.value ≡ value_of fault
  pub index : IsFaultAt bytes report.index report.count

-- the report is the first fault of bytes that aren't UTF-8, with the number of bytes that are rejected: all that are left if the fault has no length
pub record IsUtf8Report (bytes : List ℕ) (report : Fault) : Type 0 where
  pub len : Option ℕ
  pub first : IsUtf8Fault bytes report.index len
  pub kind : report.kind ≡ kind_of (Utf8 report.index len)
  pub value : report.value ≡ 0
  pub count : report.count ≡ elim len [ Some n ↦ n | None ↦ length bytes - report.index ]

-- the report is the first fault of bytes that aren't a string of the platform with this number
abbrev pub IsReport : ℕ → List ℕ → Fault → Type 0
IsReport zero bytes report = ⊥
IsReport (suc zero) bytes report = IsWtf8Report bytes report
IsReport (suc (suc zero)) bytes report = IsUtf8Report bytes report
IsReport (suc (suc (suc n))) bytes report = ⊥

-- the numbers that the text of a fault shows are those of the report, and a byte and a length fit into 8 bits
abbrev pub SameNumbers : EncodingError → Fault → Type 0
SameNumbers (Byte b) report = (report.value ≡ b) × (b < 2 ^ 8)
SameNumbers (CodePoint c) report = report.value ≡ c
SameNumbers End report = Unit {0}
SameNumbers (Utf8 i (Some n)) report = (report.index ≡ i) × ((report.count ≡ n) × (n < 2 ^ 8))
SameNumbers (Utf8 i None) report = report.index ≡ i

-- the report names the fault, as far as its text shows
pub record Names (report : Fault) (fault : EncodingError) : Type 0 where
  pub kind : report.kind ≡ kind_of fault
  pub numbers : SameNumbers fault report

-- the text is that of the fault which the report names
abbrev pub IsTextOf : Fault → List ℕ → Type 0
IsTextOf report text = (fault : EncodingError) × (Names report fault × (text ≡ fault_text fault))

-- a checker with what is open, which found no fault
abbrev pub saved_open : Open → SavedChecker
saved_open opened = record { state = opened.state; bits = opened.bits; fault = None }

-- what is open after these bytes
abbrev pub OpenDescribes : Open → List ℕ → Type 0
OpenDescribes opened bytes = checker.Describes (saved_progress (saved_open opened)) bytes

-- the report's kind and value are those of the fault
abbrev pub ReportsKind : EncodingError → Fault → Type 0
ReportsKind fault report = (report.kind ≡ kind_of fault) × (report.value ≡ value_of fault)

-- the report has the kind and the value of the bytes' first fault
abbrev pub ReportsFirst : List ℕ → Fault → Type 0
ReportsFirst bytes report = (fault : EncodingError) × (HasFirstFault bytes fault × ReportsKind fault report)

-- the same, and no later byte changes it
abbrev pub ReportsFaulty : List ℕ → Fault → Type 0
ReportsFaulty bytes report = (fault : EncodingError) × (IsFaulty bytes fault × ReportsKind fault report)
