use Rattle.std.proofs.Common.{◌≡◌, ◌∙◌, sym, subst}
use Rattle.platform_str.specs.Strings.{path_bytes, path_vec_of}
use Rattle.path_building.specs.BaseViews.{base_path, base_style}
use Rattle.path_building.specs.Checked.{IsBelowBase, IsCheckedJoin}
use Rattle.path_building.specs.Faults.{IsNameFault}
use Rattle.os_path.proofs.lemmas.Bases.{one_style}
use Rattle.os_path.proofs.lemmas.CheckedParts.{checked_formed}
use Rattle.os_path.proofs.base.Base.join.Goals as goal

pub path_of-requires : goal.path_of-requires
path_of-requires g c =
    let laws = g.met.E.Platform.laws in
    let it = c.args.self.now in
    checked_formed g.E.Platform.well_formed g.E.Platform.units g.met.E.Platform.occurrence laws.cut_prefix laws.cut_suffix (base_style it.base) (base_path it.base) c.as_encoded_bytes.result.now c.in-Ok.joined.items c.in-Ok.ensures.ok it.formed c.as_encoded_bytes.ensures.formed

pub returns-in-Ok-clause-ok : goal.returns-in-Ok-clause-ok
returns-in-Ok-clause-ok g c =
    let it = c.args.self.now in
    let made : c.in-Ok.joined.items ≡ (path_vec_of c.path_of.result).items = sym c.path_of.ensures in
    let path : c.as_encoded_bytes.result.now ≡ path_bytes c.args.path = c.as_encoded_bytes.ensures.value ∙ c.as_os_str.ensures in
    subst (IsCheckedJoin g.E.PathStyle.follows (base_path it.base) (path_bytes c.args.path)) made
    (subst (λ s. IsCheckedJoin g.E.PathStyle.follows (base_path it.base) s c.in-Ok.joined.items) path
    (subst (λ w. IsCheckedJoin w (base_path it.base) c.as_encoded_bytes.result.now c.in-Ok.joined.items) (one_style _ _ it.style_is) c.in-Ok.ensures.ok))

pub returns-in-Ok-clause-below : goal.returns-in-Ok-clause-below
returns-in-Ok-clause-below g c =
    let it = c.args.self.now in
    let made : c.in-Ok.joined.items ≡ (path_vec_of c.path_of.result).items = sym c.path_of.ensures in
    subst (IsBelowBase g.E.PathStyle.follows (base_path it.base)) made
    (subst (λ w. IsBelowBase w (base_path it.base) c.in-Ok.joined.items) (one_style _ _ it.style_is) c.in-Ok.ensures.below)

pub returns-in-Err-clause-err : goal.returns-in-Err-clause-err
returns-in-Err-clause-err g c =
    let it = c.args.self.now in
    let error = c.in-Err.error in
    let path : c.as_encoded_bytes.result.now ≡ path_bytes c.args.path = c.as_encoded_bytes.ensures.value ∙ c.as_os_str.ensures in
    subst (λ s. IsNameFault g.E.PathStyle.follows s error) path
    (subst (λ w. IsNameFault w c.as_encoded_bytes.result.now error) (one_style _ _ it.style_is) c.in-Err.ensures.err)
