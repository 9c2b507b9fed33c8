-- What a place of C's owns: the value, or the room for it.
use Rattle.std.specs.Prelude.{Bool, true, false, Option, Some, None}
use base.Fml.{Fml, ffalse}
use base.Fraction.{full_share}
use denote.RattleType.{RattleType}
use denote.RawPtr.{Ptr, lies_at, room_at}

-- a value lies at the pointer, or there is room for one
abbrev pub kept : (R : RattleType) → Bool → Ptr → Option R.Denot → Fml
kept R true p (Some x) = lies_at R full_share p x
kept R true p None = ffalse
kept R false p (Some x) = ffalse
kept R false p None = room_at R p
