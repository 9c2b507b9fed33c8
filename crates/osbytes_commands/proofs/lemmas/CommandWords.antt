-- Words that make a command, by their number, and words that make none.
use Rattle.std.proofs.Common.{◌≡◌, ℕ, ◌<◌, ◌≤◌, List, [], ◌∷◌, length, map, get_or, ap, sym, ◌∙◌, arith}
use Rattle.std.specs.Prelude.{codes}
use Rattle.osbytes_commands.specs.declared.command.Command.{Command}
use Rattle.osbytes_commands.specs.declared.command.Command.TheVariants.{Units, Raw, Find, Split, Chunks, Quote, Unquote}
use Rattle.program_frame.specs.Os.{os_word}
use Rattle.osbytes_commands.specs.Command.{words_of, os_of}

pub two_words : {S : Type 0} (bytes : S → List ℕ) (words : List S) (a b : S) (x y : List ℕ) → 2 ≤ length words → length words < 3
    → a ≡ get_or words 0 a → b ≡ get_or words 1 b → bytes a ≡ x → bytes b ≡ y → map bytes words ≡ x ∷ y ∷ []
two_words bytes [] a b x y least most p q r s = absurd (omega (arith, least))
two_words bytes (v ∷ []) a b x y least most p q r s = absurd (omega (arith, least))
two_words bytes (v ∷ w ∷ []) a b x y least most p q r s =
    let first : bytes v ≡ x = ap bytes (sym p) ∙ r in
    let second : bytes w ≡ y = ap bytes (sym q) ∙ s in
    λ i. first i ∷ second i ∷ []
two_words bytes (v ∷ w ∷ u ∷ us) a b x y least most p q r s = absurd (omega (arith, most))

pub three_words : {S : Type 0} (bytes : S → List ℕ) (words : List S) (a b c : S) (x y z : List ℕ) → 3 ≤ length words → length words < 4
    → a ≡ get_or words 0 a → b ≡ get_or words 1 b → c ≡ get_or words 2 c → bytes a ≡ x → bytes b ≡ y → bytes c ≡ z → map bytes words ≡ x ∷ y ∷ z ∷ []
three_words bytes [] a b c x y z least most p q o r s t = absurd (omega (arith, least))
three_words bytes (v ∷ []) a b c x y z least most p q o r s t = absurd (omega (arith, least))
three_words bytes (v ∷ w ∷ []) a b c x y z least most p q o r s t = absurd (omega (arith, least))
three_words bytes (v ∷ w ∷ u ∷ []) a b c x y z least most p q o r s t =
    let first : bytes v ≡ x = ap bytes (sym p) ∙ r in
    let second : bytes w ≡ y = ap bytes (sym q) ∙ s in
    let third : bytes u ≡ z = ap bytes (sym o) ∙ t in
    λ i. first i ∷ second i ∷ third i ∷ []
three_words bytes (v ∷ w ∷ u ∷ t' ∷ us) a b c x y z least most p q o r s t = absurd (omega (arith, most))

-- no command has these words, as its first is none of theirs
pub unnamed_two : (x y : List ℕ) → ¬ (x ≡ codes "units") → ¬ (x ≡ codes "raw") → ¬ (x ≡ codes "chunks") → ¬ (x ≡ codes "quote") → ¬ (x ≡ codes "unquote")
    → (command : Command) → ¬ (x ∷ y ∷ [] ≡ words_of command)
unnamed_two x y units raw chunks quote unquote (Units os) e = units (ap (λ words. get_or words 0 []) e)
unnamed_two x y units raw chunks quote unquote (Raw os) e = raw (ap (λ words. get_or words 0 []) e)
unnamed_two x y units raw chunks quote unquote (Chunks os) e = chunks (ap (λ words. get_or words 0 []) e)
unnamed_two x y units raw chunks quote unquote (Quote os) e = quote (ap (λ words. get_or words 0 []) e)
unnamed_two x y units raw chunks quote unquote (Unquote os) e = unquote (ap (λ words. get_or words 0 []) e)
unnamed_two x y units raw chunks quote unquote (Find os pattern) e = let lengths : ◌≡◌ {A = ℕ} 2 3 = ap length e in absurd (omega arith)
unnamed_two x y units raw chunks quote unquote (Split os pattern) e = let lengths : ◌≡◌ {A = ℕ} 2 3 = ap length e in absurd (omega arith)

pub unnamed_three : (x y z : List ℕ) → ¬ (x ≡ codes "find") → ¬ (x ≡ codes "split") → (command : Command) → ¬ (x ∷ y ∷ z ∷ [] ≡ words_of command)
unnamed_three x y z find split (Find os pattern) e = find (ap (λ words. get_or words 0 []) e)
unnamed_three x y z find split (Split os pattern) e = split (ap (λ words. get_or words 0 []) e)
unnamed_three x y z find split (Units os) e = let lengths : ◌≡◌ {A = ℕ} 3 2 = ap length e in absurd (omega arith)
unnamed_three x y z find split (Raw os) e = let lengths : ◌≡◌ {A = ℕ} 3 2 = ap length e in absurd (omega arith)
unnamed_three x y z find split (Chunks os) e = let lengths : ◌≡◌ {A = ℕ} 3 2 = ap length e in absurd (omega arith)
unnamed_three x y z find split (Quote os) e = let lengths : ◌≡◌ {A = ℕ} 3 2 = ap length e in absurd (omega arith)
unnamed_three x y z find split (Unquote os) e = let lengths : ◌≡◌ {A = ℕ} 3 2 = ap length e in absurd (omega arith)

-- the second word is the platform's
pub second_is_os : (command : Command) (words : List (List ℕ)) → words ≡ words_of command → get_or words 1 [] ≡ os_word (os_of command)
second_is_os (Units os) words e = ap (λ words. get_or words 1 []) e
second_is_os (Raw os) words e = ap (λ words. get_or words 1 []) e
second_is_os (Find os pattern) words e = ap (λ words. get_or words 1 []) e
second_is_os (Split os pattern) words e = ap (λ words. get_or words 1 []) e
second_is_os (Chunks os) words e = ap (λ words. get_or words 1 []) e
second_is_os (Quote os) words e = ap (λ words. get_or words 1 []) e
second_is_os (Unquote os) words e = ap (λ words. get_or words 1 []) e
