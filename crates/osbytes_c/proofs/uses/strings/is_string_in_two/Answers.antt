use Rattle.std.proofs.Common.{◌≡◌, ◌++◌, [], true, false, subst, sym, append-nil}
use Rattle.wtf8_core.specs.Wtf8.{IsWtf8}
use Rattle.osbytes_c.proofs.lemmas.Pieces.{never_wtf8}
use Rattle.osbytes_c.proofs.uses.strings.is_string_in_two.Goals as goal

pub returns-then-not-is_fed : goal.returns-then-not-is_fed
returns-then-not-is_fed c =
    let faulty = c.is_fed.ensures.rejected c.if-not-is_fed.true c.osb_core_start.ensures.known [] c.osb_core_start.ensures.describes in
    (λ is. let never : false ≡ true = is in absurd cc, λ w. absurd (never_wtf8 c.args.first.now c.args.second.now faulty.0 faulty.1 w))

pub returns-then-not-is_fed-2 : goal.returns-then-not-is_fed-2
returns-then-not-is_fed-2 c =
    let both = c.args.first.now ++ c.args.second.now in
    let fed = c.is_fed.ensures.fed c.if-not-is_fed.false [] c.osb_core_start.ensures.describes in
    let faulty = c.is_fed-2.ensures.rejected c.if-not-is_fed-2.true (c.is_fed.ensures.known c.if-not-is_fed.false) c.args.first.now fed in
    (λ is. let never : false ≡ true = is in absurd cc, λ w. absurd (never_wtf8 both [] faulty.0 faulty.1 (subst IsWtf8 (sym (append-nil both)) w)))
