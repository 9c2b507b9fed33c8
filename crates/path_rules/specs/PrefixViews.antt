-- What clauses see of a prefix of bytes, and of how a path begins.
use Rattle.std.specs.Prelude.{ℕ, List}
use denote.Ref.{Bor}
use Rattle.path_rules.specs.declared.rules.Rules.{Rules}
use Rattle.path_rules.specs.declared.rules.Rules.TheVariants as rules
use Rattle.path_rules.specs.declared.prefix.Prefix.{Prefix}
use Rattle.path_rules.specs.declared.prefix.Prefix.TheVariants as prefix
use Rattle.path_rules.specs.declared.prefix.Lead as held
use Rattle.path_rules.specs.declared.prefix.Lead.TheVariants as lead
use Rattle.path_rules.specs.declared.prefix.VerbatimLead as held_verbatim
use Rattle.path_rules.specs.declared.prefix.VerbatimLead.TheVariants as verbatim
use Rattle.path_rules.specs.Prefix.{Kind, Verbatim, VerbatimUnc, VerbatimDisk, Device, Unc, Disk, Lead, VerbatimLead, DeviceLead, DoubleLead, DriveLead, NoLead, VerbatimLeads, UncLead, DiskLead, NameLead}

abbrev pub kind_of : Prefix (Bor (List ℕ)) → Kind
kind_of (prefix.Verbatim name) = Verbatim name.now
kind_of (prefix.VerbatimUnc server share) = VerbatimUnc server.now share.now
kind_of (prefix.VerbatimDisk letter) = VerbatimDisk letter
kind_of (prefix.Device name) = Device name.now
kind_of (prefix.Unc server share) = Unc server.now share.now
kind_of (prefix.Disk letter) = Disk letter

module _ {S : Type 0} where
  abbrev pub rules_after : Prefix S → Rules
  rules_after (prefix.Verbatim name) = rules.Verbatim
  rules_after (prefix.VerbatimUnc server share) = rules.Verbatim
  rules_after (prefix.VerbatimDisk letter) = rules.Verbatim
  rules_after (prefix.Device name) = rules.Either
  rules_after (prefix.Unc server share) = rules.Either
  rules_after (prefix.Disk letter) = rules.Either

abbrev pub lead_view : held.Lead (Bor (List ℕ)) → Lead
lead_view (lead.Verbatim s) = VerbatimLead s.now
lead_view (lead.Device s) = DeviceLead s.now
lead_view (lead.Double s) = DoubleLead s.now
lead_view (lead.Drive letter s) = DriveLead letter s.now
lead_view lead.Plain = NoLead

abbrev pub verbatim_lead_view : held_verbatim.VerbatimLead (Bor (List ℕ)) → VerbatimLeads
verbatim_lead_view (verbatim.Unc s) = UncLead s.now
verbatim_lead_view (verbatim.Drive letter s) = DiskLead letter s.now
verbatim_lead_view verbatim.Name = NameLead
