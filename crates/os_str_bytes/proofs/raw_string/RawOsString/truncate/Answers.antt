use Rattle.std.proofs.Common.{◌≡◌, ⊎_elim, inl, inr, refl, length, take, drop, ◌++◌, sym, ap, ◌∙◌, subst, arith}
use Rattle.std.proofs.{lemmas.Bool.cases_lt, lemmas.List.take_all, lemmas.List.drop_all, Math.Seq.take-length}
use Rattle.os_str_bytes.specs.Raw.{raw_vec_of}
use Rattle.os_str_bytes.proofs.raw_string.RawOsString.truncate.Goals as goal

-- an index past the length cuts as the length does
pub returns-clause-units : goal.returns-clause-units
returns-clause-units g c =
    let s = (raw_vec_of c.args.self.now).items in
    let at = c.args.at in
    let units = g.E.Platform.units in
    let cut = g.met.E.Platform.laws.cut_units s in
    subst (λ x. units s ≡ units x ++ units (drop at s)) (sym c.truncate.ensures.items)
    (⊎_elim
    (λ past. cut (length s) c.args.self.now.ok (record { is = inr (inl refl) })
    ∙ ap (λ x. units x ++ units (drop (length s) s)) (take-length s ∙ sym (take_all at s (omega (arith, past))))
    ∙ ap (λ x. units (take at s) ++ units x) (drop_all (length s) s (omega arith) ∙ sym (drop_all at s (omega (arith, past)))))
    (λ le. cut at c.args.self.now.ok (c.requires le)) (cases_lt (length s) at))

pub invariant_of-self : goal.invariant_of-self
invariant_of-self g c =
    let s = (raw_vec_of c.args.self.now).items in
    let at = c.args.at in
    let formed = c.args.self.now.ok in
    record {
      ok = subst g.E.Platform.well_formed (sym c.truncate.ensures.items)
          (⊎_elim
          (λ past. subst g.E.Platform.well_formed (sym (take_all at s (omega (arith, past)))) formed)
          (λ le. g.met.E.Platform.laws.cut_prefix s at formed (c.requires le)) (cases_lt (length s) at));
    }

pub returns-clause-items : goal.returns-clause-items
returns-clause-items g c = c.truncate.ensures.items

pub returns-clause-capacity : goal.returns-clause-capacity
returns-clause-capacity g c = c.truncate.ensures.capacity
