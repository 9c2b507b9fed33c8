-- What each form shows.
use Rattle.os_quote.proofs.Common.{◌≡◌, ℕ, ◌+◌, ◌-◌, ◌<◌, ◌≤◌, true, refl, subst, arith, all_below, each_below, stays_on_line}

all_stay : all_below (λ k. stays_on_line (0x20 + k)) 0x5F ≡ true
all_stay = refl

-- ASCII from the space to the tilde
pub ascii_stays : (b : ℕ) → 0x20 ≤ b → b < 0x7F → stays_on_line b ≡ true
ascii_stays b h k =
    let same : 0x20 + (b - 0x20) ≡ b = omega (arith, h) in
    subst (λ x. stays_on_line x ≡ true) same (each_below (λ n. stays_on_line (0x20 + n)) 0x5F (b - 0x20) all_stay (omega (arith, h, k)))
