use Rattle.std.proofs.Common.{⊎_elim, inl, inr, sym, subst}
use Rattle.std.proofs.lemmas.Result.{on_ok_weaker, IfErr-weaker}
use Rattle.path_building.specs.Restyled.{IsRestyled}
use Rattle.platform_str.specs.Strings.{path_bytes}
use Rattle.program_frame.specs.Strings.{strings}
use Rattle.paths_commands.specs.Styles.{style_of}
use Rattle.paths_commands.specs.Task.{IsUnconverted}
use Rattle.paths_commands.proofs.item.write_on.Goals as goal

pub returns-in-Unix-clause-ok : goal.returns-in-Unix-clause-ok
returns-in-Unix-clause-ok g c =
    let S = g.E.PathStyle.follows in
    let path = path_bytes c.args.path in
    on_ok_weaker c.write_converted.result
    (λ made. (made.0, (subst (λ to. (strings to).well_formed made.0 × IsRestyled S (style_of to) path made.0) (sym c.in-Unix.is) made.1.0, made.1.1)))
    c.write_converted.ensures.ok

pub returns-in-Unix-clause-fault : goal.returns-in-Unix-clause-fault
returns-in-Unix-clause-fault g c =
    let S = g.E.PathStyle.follows in
    let path = path_bytes c.args.path in
    IfErr-weaker c.write_converted.result _ _
    (λ fault. ⊎_elim (λ memory. inl memory) (λ none. inr (none.0, (none.1.0, subst (λ to. IsUnconverted g.E.Platform S (style_of to) (strings to).first_fault path none.0) (sym c.in-Unix.is) none.1.1))))
    c.write_converted.ensures.fault

pub returns-in-Windows-clause-ok : goal.returns-in-Windows-clause-ok
returns-in-Windows-clause-ok g c =
    let S = g.E.PathStyle.follows in
    let path = path_bytes c.args.path in
    on_ok_weaker c.write_converted-in-Windows.result
    (λ made. (made.0, (subst (λ to. (strings to).well_formed made.0 × IsRestyled S (style_of to) path made.0) (sym c.in-Windows.is) made.1.0, made.1.1)))
    c.write_converted-in-Windows.ensures.ok

pub returns-in-Windows-clause-fault : goal.returns-in-Windows-clause-fault
returns-in-Windows-clause-fault g c =
    let S = g.E.PathStyle.follows in
    let path = path_bytes c.args.path in
    IfErr-weaker c.write_converted-in-Windows.result _ _
    (λ fault. ⊎_elim (λ memory. inl memory) (λ none. inr (none.0, (none.1.0, subst (λ to. IsUnconverted g.E.Platform S (style_of to) (strings to).first_fault path none.0) (sym c.in-Windows.is) none.1.1))))
    c.write_converted-in-Windows.ensures.fault

pub returns-in-Wasm-clause-ok : goal.returns-in-Wasm-clause-ok
returns-in-Wasm-clause-ok g c =
    let S = g.E.PathStyle.follows in
    let path = path_bytes c.args.path in
    on_ok_weaker c.write_converted-in-Wasm.result
    (λ made. (made.0, (subst (λ to. (strings to).well_formed made.0 × IsRestyled S (style_of to) path made.0) (sym c.in-Wasm.is) made.1.0, made.1.1)))
    c.write_converted-in-Wasm.ensures.ok

pub returns-in-Wasm-clause-fault : goal.returns-in-Wasm-clause-fault
returns-in-Wasm-clause-fault g c =
    let S = g.E.PathStyle.follows in
    let path = path_bytes c.args.path in
    IfErr-weaker c.write_converted-in-Wasm.result _ _
    (λ fault. ⊎_elim (λ memory. inl memory) (λ none. inr (none.0, (none.1.0, subst (λ to. IsUnconverted g.E.Platform S (style_of to) (strings to).first_fault path none.0) (sym c.in-Wasm.is) none.1.1))))
    c.write_converted-in-Wasm.ensures.fault
