use Rattle.std.proofs.Common.{◌≡◌, ◌++◌, ◌∷◌, [], true, false, inl, inr, length, refl, ap, sym, ◌∙◌, append_assoc, length-append, arith}
use Rattle.std.proofs.lemmas.List.{append-nil, same_from_push}
use Rattle.wildcards.proofs.lemmas.Literals.{bytes_alike}
use Rattle.os_ignore.proofs.directory.last_in.Goals as goal

pub loop-last-init : goal.loop-last-init
loop-last-init g c = record { after = []; joined = sym (append-nil _); from = c.requires; none_after = tt }

pub loop-last-preserved : goal.loop-last-preserved
loop-last-preserved g c =
    let i = c.loop-last.invariant in
    let last = c.in-Some.last.now in
    let front = c.in-Some.front.now in
    let cut = c.in-Some.ensures.cases.0 in
    let size = ap length cut in
    let parts = length-append front (last ∷ []) in
    record {
      after = last ∷ i.after;
      joined = i.joined ∙ ap (λ z. z ++ i.after) cut ∙ append_assoc front (last ∷ []) i.after;
      from = omega (arith, size, parts, i.from);
      none_after = (λ e. let k : true ≡ false = sym ((bytes_alike c.as_slice.result.now c.args.directory.now).1 (c.as_slice.ensures.value ∙ e)) ∙ sym c.eq.ensures ∙ c.if-eq.false in absurd cc, i.none_after);
    }

pub returns-then-left-low : goal.returns-then-left-low
returns-then-left-low g c = record {
  before = c.loop-last.left.now;
  after = c.loop-last.invariant.after;
  joined = c.loop-last.invariant.joined;
  count_is = c.if-left-low.true;
  from = omega arith;
  none_after = c.loop-last.invariant.none_after;
  ends = inl refl;
}

pub returns-then-eq : goal.returns-then-eq
returns-then-eq g c =
    let last = c.in-Some.last.now in
    let same : last.directory.items ≡ c.args.directory.now = sym c.as_slice.ensures.value ∙ (bytes_alike c.as_slice.result.now c.args.directory.now).0 (sym c.eq.ensures ∙ c.if-eq.true) in
    let cut = c.in-Some.ensures.cases.0 in
    record {
      before = c.loop-last.left.now;
      after = c.loop-last.invariant.after;
      joined = c.loop-last.invariant.joined;
      count_is = refl;
      from = c.loop-last.invariant.from;
      none_after = c.loop-last.invariant.none_after;
      ends = inr (λ front other e. ap (λ z. z.directory.items) (same_from_push front c.in-Some.front.now other last (sym e ∙ cut)).1 ∙ same);
    }

pub returns : goal.returns
returns g c = record {
  before = c.loop-last.left.now;
  after = c.loop-last.invariant.after;
  joined = c.loop-last.invariant.joined;
  count_is = refl;
  from = c.loop-last.invariant.from;
  none_after = c.loop-last.invariant.none_after;
  ends = inl (let n = c.in_default.ensures.cases in let f = c.loop-last.invariant.from in omega (arith, n, f));
}
