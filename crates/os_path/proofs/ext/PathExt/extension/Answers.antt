use Rattle.platform_str.specs.Strings.{bytes}
use Rattle.os_path.proofs.lemmas.Names.{extension_last}
use Rattle.os_path.proofs.ext.PathExt.extension.Goals as goal

pub returns-in-Some : goal.returns-in-Some
returns-in-Some g c = extension_last bytes g.Self.Platform.PathStyle.follows (g.Self.PathExt.bytes_of c.args.self) (bytes c.in-Some.name) c.in-Some.ensures c.extension_of.result c.extension_of.ensures
