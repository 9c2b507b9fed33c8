use Rattle.os_quote.proofs.Common.{append-nil, bytes, escape_of, is_any, subst, sym}
use Rattle.platform_str.specs.Sinks.{Takes}
use Rattle.os_quote.proofs.write_walk.write_escape_to.Goals as goal

pub returns-in-Text : goal.returns-in-Text
returns-in-Text g c =
    rw c.in-Text.is (subst (λ x. Takes g.S.Sink.rules c.args.sink.now x c.walk.result c.walk.new.sink) (sym (append-nil (escape_of is_any g.E.Platform.units (bytes c.args.string)))) c.walk.ensures)

pub returns-in-Line : goal.returns-in-Line
returns-in-Line g c = rw c.in-Line.is c.write_line.ensures
