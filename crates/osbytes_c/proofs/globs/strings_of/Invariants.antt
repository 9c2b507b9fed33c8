use Rattle.std.proofs.Common.{◌≡◌, map, take}
use Rattle.std.specs.List.{AllByRecursion}
use Rattle.platform_str.specs.Strings.{bytes}
use Rattle.osbytes_c.specs.ItemLists.{items_of}
use Rattle.osbytes_c.proofs.globs.strings_of.Given as goal

-- the strings so far are the first items
abbrev pub invariant-loop-item : goal.invariant-loop-item
invariant-loop-item g l = (map bytes l.strings.items ≡ items_of (take l.item-index l.list)) × AllByRecursion g.E.Platform.well_formed (map bytes l.strings.items)
