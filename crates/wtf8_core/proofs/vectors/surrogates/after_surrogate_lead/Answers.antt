use Rattle.wtf8_core.proofs.Common.{◌≡◌, ℕ, Bool, false, eqb, List, map, length, replicate, refl, ◌∙◌, arith, w8, length-map, length-replicate, get_or-map}
use Rattle.std.proofs.lemmas.Simd.{get_or-replicate, tops_compared, zip2_splat, get_or-sel_l}
use Rattle.wtf8_core.proofs.vectors.surrogates.after_surrogate_lead.Goals as goal

pub returns : goal.returns
returns c i h =
    let xs = c.args.first in
    let ys = c.args.second in
    let same : List Bool = map (λ x. eqb x 0xED) xs in
    let size = c.fits-first.0 in
    let many : length same ≡ 64 = length-map xs (λ x. eqb x 0xED) ∙ size in
    rw (tops_compared w8 eqb xs (replicate 64 0xED), zip2_splat eqb xs 64 0xED size)
    (get_or-sel_l same ys (replicate 64 0) i 0 (omega (arith, many, h)) (omega (arith, c.fits-second.0, h)) (omega (arith, length-replicate {A = ℕ} 64 0, h))
    ∙ rw (get_or-map (λ x. eqb x 0xED) xs i 0 false (omega (arith, size, h)), get_or-replicate {A = ℕ} 64 i 0 0 h) refl)
