pub mod Cuts
pub mod Headline
pub mod Raw
pub mod RawCow
pub use Rattle.wtf8_core.specs.Boundary
pub use Rattle.wtf8_core.specs.Byte
pub use Rattle.wtf8_core.specs.Character
pub use Rattle.wtf8_core.specs.Checker
pub use Rattle.wtf8_core.specs.Chunks
pub use Rattle.wtf8_core.specs.CodePoint
pub use Rattle.wtf8_core.specs.Covered
pub use Rattle.wtf8_core.specs.Fault
pub use Rattle.wtf8_core.specs.FaultText
pub use Rattle.wtf8_core.specs.Items
pub use Rattle.wtf8_core.specs.Join
pub use Rattle.wtf8_core.specs.Lossy
pub use Rattle.wtf8_core.specs.LossyReading
pub use Rattle.wtf8_core.specs.PartUnits
pub use Rattle.os_str_ext.specs.Pieces
pub use Rattle.wtf8_core.specs.Runs
pub use Rattle.wtf8_core.specs.Occurrence
pub use Rattle.wtf8_core.specs.OccurrenceLaws
pub use Rattle.wtf8_core.specs.Surrogate
pub use Rattle.wtf8_core.specs.Truncated
pub use Rattle.wtf8_core.specs.UnitIndex
pub use Rattle.wtf8_core.specs.UnitsOf
pub use Rattle.wtf8_core.specs.Utf8
pub use Rattle.wtf8_core.specs.Wtf8
pub use Rattle.wtf8_core.specs.declared.fault.EncodingError
pub use Rattle.platform_str.specs.Cows
pub use Rattle.platform_str.specs.Display
pub use Rattle.platform_str.specs.Laws
pub use Rattle.platform_str.specs.Lossy as IoLossy
pub use Rattle.platform_str.specs.PlatformWords
pub use Rattle.platform_str.specs.Strings
pub use Rattle.platform_str.specs.platforms.Unix as UnixLaws
pub use Rattle.platform_str.specs.platforms.Wasm as WasmLaws
pub use Rattle.platform_str.specs.platforms.Windows as WindowsLaws
pub use Rattle.platform_str.specs.contracts.unix.UnixPlatform
pub use Rattle.platform_str.specs.contracts.wasm.WasmPlatform
pub use Rattle.platform_str.specs.contracts.windows.WindowsPlatform
pub use Rattle.platform_str.specs.declared.platform.Platform
pub use Rattle.platform_str.specs.declared.platform.Unix
pub use Rattle.platform_str.specs.declared.platform.Wasm
pub use Rattle.platform_str.specs.declared.platform.Windows
pub use Rattle.os_str_ext.specs.Chunks as StringChunks
pub use Rattle.os_str_ext.specs.Cuts as StringCuts
pub use Rattle.os_str_ext.specs.Parts
pub use Rattle.os_str_ext.specs.Range
pub use Rattle.os_str_ext.specs.Symbols
