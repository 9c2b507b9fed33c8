use Rattle.std.proofs.Common.{◌≡◌, ◌+◌, ◌==◌, ◌++◌, ◌∷◌, [], rules, All, length, map, inr, refl, ap, sym, ◌∙◌, subst, arith}
use Rattle.std.proofs.lemmas.Bool.{false≢true, eqb-true}
use Rattle.std.proofs.lemmas.List.{append-nil, length-map, nil_from_length}
use Rattle.osbytes_commands.specs.Lines.{IsUnit, unit_lines}
use Rattle.osbytes_commands.proofs.lemmas.UnitLines.{one_more_line, one_more_unit, shorter_after}
use Rattle.osbytes_commands.proofs.raw.read_units.Goals as goal

pub loop-rest-init : goal.loop-rest-init
loop-rest-init g c =
    let os = g.E.Target.os in
    let none = sym c.new-units.ensures.items in record {
      joined = ap (λ units. unit_lines os (map g.E.Target.number units) ++ c.args.input.now) none;
      units = subst (λ units. All (IsUnit os) (map g.E.Target.number units)) none (λ k d h. absurd (omega (arith, h)));
    }

pub loop-rest-smaller : goal.loop-rest-smaller
loop-rest-smaller g c = shorter_after g.E.Target.os (g.E.Target.number c.in-Some.unit) _ _ (search rules)

pub loop-rest-preserved : goal.loop-rest-preserved
loop-rest-preserved g c =
    let pushed : c.push.new.self.items ≡ c.loop-rest.units.items ++ c.in-Some.unit ∷ [] = search rules in
    rw pushed (record {
      joined = one_more_line _ _ _ _ _ _ _ c.loop-rest.invariant.joined (search rules);
      units = one_more_unit _ _ _ _ c.loop-rest.invariant.units (search rules);
    })

pub returns-in_default-clause-fault : goal.returns-in_default-clause-fault
returns-in_default-clause-fault g c =
    let length_is = length-map c.loop-rest.units.items g.E.Target.number in
    inr (
      c.len.result + 1,
      refl,
      record {
        before = map g.E.Target.number c.loop-rest.units.items;
        from = c.loop-rest.rest.now;
        joined = c.loop-rest.invariant.joined;
        units = c.loop-rest.invariant.units;
        some = λ e. false≢true (sym c.loop-rest-test.true ∙ (c.is_empty.ensures ∙ ap (λ rest. length rest == 0) e));
        bad = c.in_default.ensures.none;
        number_is = omega (arith, c.len.ensures, c.loop-rest.units.ok.0, length_is);
      },
    )

pub returns-clause-units : goal.returns-clause-units
returns-clause-units g c =
    let rest = c.loop-rest.rest.now in
    let lines = unit_lines g.E.Target.os (map g.E.Target.number c.loop-rest.units.items) in
    let none : rest ≡ [] = nil_from_length rest (eqb-true (length rest) 0 (sym c.loop-rest-test.ensures)) in record {
      lines = c.loop-rest.invariant.joined ∙ (ap (λ left. lines ++ left) none ∙ append-nil lines);
      units = c.loop-rest.invariant.units;
    }
