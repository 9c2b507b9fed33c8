use Rattle.platform_str.specs.Strings.{bytes}
use Rattle.path_rules.proofs.lemmas.LastNames.{none_last, last_is}
use Rattle.os_path.specs.Views.{os_item_of}
use Rattle.os_path.proofs.ext.PathExt.file_name.Goals as goal

pub returns-in_default : goal.returns-in_default
returns-in_default g c = none_last g.Self.Platform.PathStyle.follows (g.Self.PathExt.bytes_of c.args.self) c.components.result.items c.components.ensures.items c.in_default.ensures.steps.0.0

pub returns : goal.returns
returns g c = last_is g.Self.Platform.PathStyle.follows (g.Self.PathExt.bytes_of c.args.self) c.components.result.items c.components.ensures.items bytes c.next_back.new.self.items (os_item_of c.in-Some.last) c.name_of.result c.in-Some.ensures.steps.0 c.name_of.ensures
