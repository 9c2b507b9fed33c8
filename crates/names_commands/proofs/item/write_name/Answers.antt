use Rattle.std.proofs.Common.{◌++◌, ◌∷◌, [], refl, arith}
use Rattle.std.proofs.lemmas.Result.{on_ok_weaker, IfErr-weaker}
use Rattle.std.proofs.lemmas.Str.{IsUtf8-nil}
use Rattle.list_programs.specs.ListOptions.{byte_of}
use Rattle.list_programs.proofs.lemmas.Lines.{own_line, plain_is_utf8}
use Rattle.names_commands.specs.declared.task.Task.TheVariants.{Join}
use Rattle.names_commands.specs.Task.{IsNameOf, rules_of}
use Rattle.names_commands.proofs.lemmas.Names.{memory_fault, plain_fits}
use Rattle.names_commands.proofs.item.write_name.Goals as goal

pub returns-then-is_plain : goal.returns-then-is_plain
returns-then-is_plain g c =
    let P = g.E.Platform in
    let laws = g.met.E.Platform.laws in
    let line = c.args.line.now in
    let plain = c.is_plain.ensures c.if-is_plain.true in
    let name : IsNameOf P c.args.list.max line line = record {
      formed = laws.text line (plain_is_utf8 line plain);
      escape = own_line P.well_formed P.units P.part_units g.met.E.Platform.parts (laws.text [] IsUtf8-nil) line plain;
      short = omega (arith, c.if-line-list.true);
    } in record {
      ok = on_ok_weaker c.push_name.result
          (λ e. (line ++ byte_of c.args.list.end ∷ [], ((c.is_rejected.ensures.taken c.if-is_rejected.false, (line, name, (plain_fits c.args.list.end line plain, refl))), e)))
          c.push_name.ensures.ok;
      fault = IfErr-weaker c.push_name.result _ _ (memory_fault (rules_of P (record { task = Join c.args.empty; list = c.args.list })) line) c.push_name.ensures.fault;
      unchanged = c.push_name.ensures.unchanged;
    }

pub returns : goal.returns
returns g c =
    let written = c.write_escaped.ensures in record {
      ok = on_ok_weaker c.write_escaped.result (λ text. (text.0, ((c.is_rejected.ensures.taken c.if-is_rejected.false, text.1.0), text.1.1))) written.ok;
      fault = written.fault c.args.empty;
      unchanged = written.unchanged;
    }
