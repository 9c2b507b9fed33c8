use Rattle.std.proofs.Common.{◌↔◌, sym, subst, IsTrue}
use Rattle.os_path.specs.Reserved.{IsReservedPath}
use Rattle.os_path.proofs.lemmas.ReadCalls.{reserved_from}
use Rattle.os_path.proofs.reserved.has_reserved_name.Goals as goal

pub returns-in-Windows : goal.returns-in-Windows
returns-in-Windows c =
    subst (λ w. IsTrue c.has_reserved.result ↔ IsReservedPath w c.args.path.now) (sym c.in-Windows.is) (reserved_from c.args.path.now c.new.result.items c.has_reserved.result c.new.ensures.items c.has_reserved.ensures)
