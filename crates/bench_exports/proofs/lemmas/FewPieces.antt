-- A split has at most one piece more than its string has bytes.
use Rattle.std.proofs.Common.{ℕ, ◌+◌, ◌<◌, ◌≤◌, List, ◌++◌, length, ap, ◌∙◌, arith}
use Rattle.std.proofs.lemmas.List.{length-append}
use Rattle.os_str_ext.specs.Pieces.{SplitsAt, SplitsInto, IsSplit, IsRSplit}
use Rattle.os_str_ext.specs.Pieces.SplitsInto.{whole, cut}
use Rattle.wtf8_core.specs.Occurrence.{IsFirstIndex, IsLastIndex}

few_pieces : (Cuts : List ℕ → List ℕ → List ℕ → Type 0) (Whole : List ℕ → Type 0) (shorter : (s piece rest : List ℕ) → Cuts s piece rest → length rest < length s)
    (s : List ℕ) (pieces : List (List ℕ)) → SplitsInto Cuts Whole s pieces → length pieces ≤ length s + 1
few_pieces Cuts Whole shorter s pieces (whole w) = omega arith
few_pieces Cuts Whole shorter s pieces (cut c falls) =
    let less = shorter _ _ _ c in
    let rest = few_pieces Cuts Whole shorter _ _ falls in
    omega arith

-- both parts around a text that isn't empty are shorter than the string
parts_shorter : (Is : List ℕ → List ℕ → ℕ → Type 0) (p s prefix suffix : List ℕ) → 0 < length p → SplitsAt Is p s prefix suffix
    → (length prefix < length s) × (length suffix < length s)
parts_shorter Is p s prefix suffix some parts =
    let all = ap length parts.joined ∙ length-append prefix (p ++ suffix) in
    let after = length-append p suffix in
    (omega arith, omega arith)

pub few_of_split : (p s : List ℕ) (pieces : List (List ℕ)) → 0 < length p → IsSplit p s pieces → length pieces ≤ length s + 1
few_of_split p s pieces some = few_pieces _ _ (λ s piece rest parts. (parts_shorter IsFirstIndex p s piece rest some parts).1) s pieces

pub few_of_rsplit : (p s : List ℕ) (pieces : List (List ℕ)) → 0 < length p → IsRSplit p s pieces → length pieces ≤ length s + 1
few_of_rsplit p s pieces some = few_pieces _ _ (λ s piece rest parts. (parts_shorter IsLastIndex p s rest piece some parts).0) s pieces
