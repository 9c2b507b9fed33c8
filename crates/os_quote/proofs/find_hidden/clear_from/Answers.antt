use Rattle.os_quote.proofs.Common.{◌≡◌, get_or, subst, List, ℕ, false, ◌+◌, ◌<◌, is_suspect}
use Rattle.os_quote.proofs.lemmas.Suspects.{in_block}
use Rattle.os_quote.proofs.find_hidden.clear_from.Goals as goal

pub returns-clause-clear : goal.returns-clause-clear
returns-clause-clear c =
    let n = c.clear_len.result in
    let Clear : List ℕ → Type 0 = λ l. (i : ℕ) → i < n → is_suspect (get_or l (0 + i) 0) (get_or l (1 + i) 0) (get_or l (2 + i) 0) ≡ false in
    in_block c.args.bytes.now c.args.at n (subst Clear c.split_at.ensures.back c.clear_len.ensures.clear)
