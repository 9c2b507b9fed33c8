use Rattle.std.proofs.Common.{◌≡◌, ℕ, sym, subst, arith}
use Rattle.std.proofs.lemmas.Result.{err_from_is_err_and}
use Rattle.glob_patterns.specs.declared.options.GlobOptions.{GlobOptions}
use Rattle.osbytes_c.specs.declared.globs.Rejection.{Rejection}
use Rattle.osbytes_c.specs.Globs.{IsNoSet}
use Rattle.osbytes_c.specs.ItemLists.{Views}
use Rattle.osbytes_c.specs.Platforms.{formed_on, units_on}
use Rattle.osbytes_c.proofs.globs.sets.made.Goals as goal

numbered : (n m : ℕ) (o : GlobOptions) (patterns : Views) (r : Rejection) → m ≡ n → IsNoSet (formed_on n) (units_on n) o patterns r → IsNoSet (formed_on m) (units_on m) o patterns r
numbered n m o patterns r e is = subst (λ k. IsNoSet (formed_on k) (units_on k) o patterns r) (sym e) is

pub returns-in_err-made_on-in-0 : goal.returns-in_err-made_on-in-0
returns-in_err-made_on-in-0 c =
    let p = err_from_is_err_and c.from_residual.result c.from_residual.ensures.1 in
    rw (p.1, p.2) (numbered 0 c.args.platform c.args.options c.args.patterns.now _ c.in-0.is c.in_err-made_on-in-0.ensures)

pub returns-in_err-made_on-in-1 : goal.returns-in_err-made_on-in-1
returns-in_err-made_on-in-1 c =
    let p = err_from_is_err_and c.from_residual-in_err-made_on-in-1.result c.from_residual-in_err-made_on-in-1.ensures.1 in
    rw (p.1, p.2) (numbered 1 c.args.platform c.args.options c.args.patterns.now _ c.in-1.is c.in_err-made_on-in-1.ensures)

pub returns-in_err-made_on-in_default : goal.returns-in_err-made_on-in_default
returns-in_err-made_on-in_default c =
    let p = err_from_is_err_and c.from_residual-in_err-made_on-in_default.result c.from_residual-in_err-made_on-in_default.ensures.1 in
    let is : c.args.platform ≡ 2 = omega arith in
    rw (p.1, p.2) (numbered 2 c.args.platform c.args.options c.args.patterns.now _ is c.in_err-made_on-in_default.ensures)
