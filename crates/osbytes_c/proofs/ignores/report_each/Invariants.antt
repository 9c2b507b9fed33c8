use Rattle.std.proofs.Common.{◌≡◌, ℕ, List, length, take}
use Rattle.os_ignore.specs.Ignores.{files_of}
use Rattle.osbytes_c.specs.declared.ignores.Report.{Report}
use Rattle.osbytes_c.specs.Ignores.{ArePathsReported, IsReportTruncated}
use Rattle.osbytes_c.specs.ItemLists.{items_of}
use Rattle.osbytes_c.proofs.ignores.report_each.Given as goal

-- what is reported so far is of the first items
abbrev pub invariant-loop-path : goal.invariant-loop-path
invariant-loop-path l =
    (names : List (List ℕ)) × ((reported : List Report) × ((names ≡ items_of (take l.path-index l.paths)) × (ArePathsReported (files_of l.ignore) l.flags 0 names reported
    × (IsReportTruncated reported l.fn.out l.out l.count × ((l.count ≡ length names) × (l.count ≡ l.path-index))))))
