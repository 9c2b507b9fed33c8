use Rattle.std.proofs.Common.{Result, Ok, Err, sym, subst}
use Rattle.std.specs.Prelude.{IfErr, IfOk}
use Rattle.path_building.specs.Restyled.{IsRestyled}
use Rattle.os_path.specs.Converted.{IsConvertFault}
use Rattle.os_path.proofs.ext.PathExt.with_style.Goals as goal

if_err : {X Y : Type 0} {P Q : Y → Type 0} (r : Result X Y) → IfErr r P → ((y : Y) → P y → Q y) → IfErr r Q
if_err (Ok x) h f = tt
if_err (Err y) h f = f y h

if_ok : {X Y : Type 0} {P Q : X → Type 0} (r : Result X Y) → IfOk r P → ((x : X) → P x → Q x) → IfOk r Q
if_ok (Ok x) h f = f x h
if_ok (Err y) h f = tt

pub returns-in-Ok-clause-ok : goal.returns-in-Ok-clause-ok
returns-in-Ok-clause-ok g c =
    let from = g.Self.Platform.PathStyle.follows in
    let to = g.F.PathStyle.follows in
    let made = c.in-Ok.made.items in
    let first = subst (λ w. IsRestyled w c.style-2.result c.path_bytes.result.now made) c.style.ensures c.in-Ok.ensures.ok in
    let second = subst (λ w. IsRestyled from w c.path_bytes.result.now made) c.style-2.ensures first in
    let is = subst (λ s. IsRestyled from to s made) c.path_bytes.ensures.value second in
    if_ok c.checked.result c.checked.ensures.ok (λ path e. subst (IsRestyled from to (g.Self.PathExt.bytes_of c.args.self)) (sym e) is)

pub returns-in-Ok-clause-err : goal.returns-in-Ok-clause-err
returns-in-Ok-clause-err g c =
    let from = g.Self.Platform.PathStyle.follows in
    let to = g.F.PathStyle.follows in
    let made = c.in-Ok.made.items in
    let first = subst (λ w. IsRestyled w c.style-2.result c.path_bytes.result.now made) c.style.ensures c.in-Ok.ensures.ok in
    let second = subst (λ w. IsRestyled from w c.path_bytes.result.now made) c.style-2.ensures first in
    let is = subst (λ s. IsRestyled from to s made) c.path_bytes.ensures.value second in
    if_err c.checked.result c.checked.ensures.err (λ error h.
    subst (IsConvertFault from to g.F.Platform.first_fault (g.Self.PathExt.bytes_of c.args.self)) (sym h.1.0) (made, (is, h.1.1)))
