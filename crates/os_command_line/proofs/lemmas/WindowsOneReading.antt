-- A line is read in one way: what the rules say is what the steps of the reader give.
use Rattle.std.proofs.Common.{◌≡◌, ◌≢◌, ℕ, zero, suc, ◌+◌, ◌*◌, ◌/◌, ◌%◌, ◌<◌, Bool, true, false, not, ◌&&◌, eqb, List, [], ◌∷◌, ◌++◌, refl, sym, ap, ◌∙◌, subst, arith, append_assoc, inl, inr}
use Rattle.std.specs.List.{AllByRecursion}
use Rattle.std.proofs.lemmas.Bool.{ne_eqb, eq-eqb}
use Rattle.os_command_line.specs.Windows.{backslash, quote, IsBlank, is_blank, backslashes, IsLiteral, Ends, StartsWithNoQuote, Begins, Reads, IsNext, AreArguments, ReadsName, IsCommandLine}
use Rattle.os_command_line.specs.Windows.Reads.{ends, literal, escaped, opens, closes, doubled}
use Rattle.os_command_line.specs.Windows.ReadsName.{name_ends, name_quote, name_unit}
use Rattle.os_command_line.specs.WindowsReader.{Index, index, is_end, output, step, prepend, word_from, meant, first_index, name_index, arguments_from, arguments_in}
use Rattle.os_command_line.specs.WindowsReader.Mode.{Within}

-- in an argument
abbrev pub at : Bool → ℕ → Index
at inside run = index false false inside run

pub past_blank : (u : ℕ) → 0x20 < u → ¬ (IsBlank u)
past_blank u h (inl e) = omega (arith, h, e)
past_blank u h (inr e) = omega (arith, h, e)

pub not_blank : (u : ℕ) → ¬ (IsBlank u) → is_blank u ≡ false
not_blank u h = rw (ne_eqb u 0x20 (λ e. h (inl e)), ne_eqb u 0x09 (λ e. h (inr e))) refl

pub blank : (u : ℕ) → IsBlank u → is_blank u ≡ true
blank u (inl e) = subst (λ x. is_blank x ≡ true) (sym e) refl
blank u (inr e) = subst (λ x. is_blank x ≡ true) (sym e) refl

pub slash_at : (inside : Bool) (n : ℕ) (text : List ℕ) → word_from (at inside n) (backslash ∷ text) ≡ word_from (at inside (n + 1)) text
unfolding word_from
slash_at true n text = refl
slash_at false n text = refl

first_run : (inside : Bool) (n run : ℕ) (text : List ℕ) → word_from (at inside run) (backslashes n ++ text) ≡ word_from (at inside (n + run)) text
first_run inside zero run text = ap (λ r. word_from (at inside r) text) (omega arith)
first_run inside (suc n) run text = slash_at inside run (backslashes n ++ text) ∙ first_run inside n (run + 1) text ∙ ap (λ r. word_from (at inside r) text) (omega arith)

run_is : (inside : Bool) (n : ℕ) (text : List ℕ) → word_from (at inside 0) (backslashes n ++ text) ≡ word_from (at inside n) text
run_is inside n text = first_run inside n 0 text ∙ ap (λ r. word_from (at inside r) text) (omega arith)

pub ends_at : (name closing inside : Bool) (n : ℕ) (after : List ℕ) → Ends inside after → word_from (index name closing inside n) after ≡ (backslashes n, after)
unfolding word_from
ends_at name closing inside n [] h = refl
ends_at name closing true n (u ∷ us) h = absurd h
ends_at name closing false n (u ∷ us) h = rw (blank u h) refl

pub literal_at : (inside : Bool) (n u : ℕ) (text : List ℕ) → IsLiteral inside u → word_from (at inside n) (u ∷ text) ≡ prepend (backslashes n ++ u ∷ []) (word_from (at inside 0) text)
unfolding word_from
literal_at true n u text h = rw (ne_eqb u 0x5C h.no_backslash, ne_eqb u 0x22 h.no_quote) refl
literal_at false n u text h = rw (not_blank u (h.no_blank refl), ne_eqb u 0x5C h.no_backslash, ne_eqb u 0x22 h.no_quote) refl

odd : (n : ℕ) → eqb ((2 * n + 1) % 2) 1 ≡ true
odd n = eq-eqb ((2 * n + 1) % 2) 1 (omega arith)

even : (n : ℕ) → eqb ((2 * n) % 2) 1 ≡ false
even n = ne_eqb ((2 * n) % 2) 1 (λ e. omega (arith, e))

half_odd : (n : ℕ) → (2 * n + 1) / 2 ≡ n
half_odd n = omega arith

half_even : (n : ℕ) → (2 * n) / 2 ≡ n
half_even n = omega arith

pub escaped_at : (inside : Bool) (n : ℕ) (text : List ℕ) → word_from (at inside (2 * n + 1)) (quote ∷ text) ≡ prepend (backslashes n ++ quote ∷ []) (word_from (at inside 0) text)
unfolding word_from
escaped_at true n text = rw (odd n, half_odd n) refl
escaped_at false n text = rw (odd n, half_odd n) refl

pub opens_at : (n : ℕ) (text : List ℕ) → word_from (at false (2 * n)) (quote ∷ text) ≡ prepend (backslashes n) (word_from (at true 0) text)
unfolding word_from
opens_at n text = rw (even n, half_even n) refl

pub closes_at : (n : ℕ) (text : List ℕ) → word_from (at true (2 * n)) (quote ∷ text) ≡ prepend (backslashes n) (word_from (index false true false 0) text)
unfolding word_from
closes_at n text = rw (even n, half_even n) refl

pub closed_at : (text : List ℕ) → StartsWithNoQuote text → word_from (index false true false 0) text ≡ word_from (at false 0) text
unfolding word_from
closed_at [] h = refl
closed_at (u ∷ us) h = rw (ne_eqb u 0x22 h) refl

pub doubled_at : (text : List ℕ) → word_from (index false true false 0) (quote ∷ text) ≡ prepend (quote ∷ []) (word_from (at true 0) text)
unfolding word_from
doubled_at text = refl

-- what the rules say is what is found unit by unit
pub complete : (after : List ℕ) (inside : Bool) (text argument : List ℕ) → Reads after inside text argument → word_from (at inside 0) text ≡ (argument, after)
complete after _ _ _ (ends inside n e) = run_is inside n after ∙ ends_at false false inside n after e
complete after _ _ _ (literal inside n u text argument h r) =
    run_is inside n (u ∷ text) ∙ literal_at inside n u text h ∙ ap (prepend (backslashes n ++ u ∷ [])) (complete after inside text argument r) ∙ ap (λ x. (x, after)) (append_assoc (backslashes n) (u ∷ []) argument)
complete after _ _ _ (escaped inside n text argument r) =
    run_is inside (2 * n + 1) (quote ∷ text) ∙ escaped_at inside n text ∙ ap (prepend (backslashes n ++ quote ∷ [])) (complete after inside text argument r) ∙ ap (λ x. (x, after)) (append_assoc (backslashes n) (quote ∷ []) argument)
complete after _ _ _ (opens n text argument r) = run_is false (2 * n) (quote ∷ text) ∙ opens_at n text ∙ ap (prepend (backslashes n)) (complete after true text argument r)
complete after _ _ _ (closes n text argument h r) =
    run_is true (2 * n) (quote ∷ text) ∙ closes_at n text ∙ ap (prepend (backslashes n)) (closed_at text h ∙ complete after false text argument r)
complete after _ _ _ (doubled n text argument r) =
    run_is true (2 * n) (quote ∷ quote ∷ text) ∙ closes_at n (quote ∷ text) ∙ ap (prepend (backslashes n)) (doubled_at text ∙ ap (prepend (quote ∷ [])) (complete after true text argument r))

pub one_reading : (a b text x y : List ℕ) → Reads a false text x → Reads b false text y → (x ≡ y) × (a ≡ b)
one_reading a b text x y p q =
    let e : (x, a) ≡ (y, b) = sym (complete a false text x p) ∙ complete b false text y q in
    (ap (λ (z : List ℕ × List ℕ). z.0) e, ap (λ (z : List ℕ × List ℕ). z.1) e)

-- the same of the program's name
abbrev pub in_name : Bool → Index
in_name inside = index true false inside 0

pub quote_at : (inside : Bool) (text : List ℕ) → word_from (in_name inside) (quote ∷ text) ≡ word_from (in_name (not inside)) text
unfolding word_from
quote_at true text = refl
quote_at false text = refl

pub unit_at : (inside : Bool) (u : ℕ) (text : List ℕ) → u ≢ quote → (inside ≡ false → ¬ (IsBlank u)) → word_from (in_name inside) (u ∷ text) ≡ prepend (u ∷ []) (word_from (in_name inside) text)
unfolding word_from
unit_at true u text q b = rw (ne_eqb u 0x22 q) refl
unit_at false u text q b = rw (not_blank u (b refl), ne_eqb u 0x22 q) refl

pub complete_name : (after : List ℕ) (inside : Bool) (text name : List ℕ) → ReadsName after inside text name → word_from (in_name inside) text ≡ (name, after)
complete_name after _ _ _ (name_ends inside e) = ends_at true false inside 0 after e
complete_name after _ _ _ (name_quote inside text name r) = quote_at inside text ∙ complete_name after (not inside) text name r
complete_name after _ _ _ (name_unit inside u text name q b r) = unit_at inside u text q b ∙ ap (prepend (u ∷ [])) (complete_name after inside text name r)

pub one_name : (a b text x y : List ℕ) → ReadsName a false text x → ReadsName b false text y → (x ≡ y) × (a ≡ b)
one_name a b text x y p q =
    let e : (x, a) ≡ (y, b) = sym (complete_name a false text x p) ∙ complete_name b false text y q in
    (ap (λ (z : List ℕ × List ℕ). z.0) e, ap (λ (z : List ℕ × List ℕ). z.1) e)

-- ---- lists of arguments

end_is_blank : (p : Index) (u : ℕ) → is_end p u ≡ true → is_blank u ≡ true
end_is_blank p u e = both (not p.inside) (is_blank u) e
  where
    both : (a b : Bool) → a && b ≡ true → b ≡ true
    both true b e = e
    both false b e = let f : false ≡ true = e in cc

word_end : (p : Index) (u : ℕ) (us : List ℕ) → is_end p u ≡ true → word_from p (u ∷ us) ≡ (backslashes p.run, u ∷ us)
unfolding word_from
word_end p u us e = rw e refl

word_more : (p : Index) (u : ℕ) (us : List ℕ) → is_end p u ≡ false → word_from p (u ∷ us) ≡ prepend (output p u) (word_from (step p u) us)
unfolding word_from
word_more p u us e = rw e refl

within_end : (p : Index) (word : List ℕ) (u : ℕ) (us : List ℕ) → is_end p u ≡ true → arguments_from (Within p word) (u ∷ us) ≡ (word ++ backslashes p.run) ∷ arguments_in us
unfolding arguments_from
within_end p word u us e = rw e refl

within_more : (p : Index) (word : List ℕ) (u : ℕ) (us : List ℕ) → is_end p u ≡ false → arguments_from (Within p word) (u ∷ us) ≡ arguments_from (Within (step p u) (word ++ output p u)) us
unfolding arguments_from
within_more p word u us e = rw e refl

between_blank : (u : ℕ) (us : List ℕ) → is_blank u ≡ true → arguments_in (u ∷ us) ≡ arguments_in us
unfolding arguments_from
between_blank u us e = rw e refl

between_more : (u : ℕ) (us : List ℕ) → is_blank u ≡ false → arguments_in (u ∷ us) ≡ arguments_from (Within (step first_index u) (output first_index u)) us
unfolding arguments_from
between_more u us e = rw e refl

-- a text that is one word
pub meant_step : (p : Index) (u : ℕ) (us : List ℕ) → meant p (u ∷ us) ≡ output p u ++ meant (step p u) us
unfolding meant
meant_step p u us = refl

pub meant_end : (p : Index) → meant p [] ≡ backslashes p.run
unfolding meant
meant_end p = refl

no_more : (p : Index) → (word_from p []).0 ≡ meant p []
unfolding word_from meant
no_more p = refl

one_word_step : (p : Index) (u : ℕ) (us : List ℕ) → ((word_from (step p u) us).1 ≡ [] → (word_from (step p u) us).0 ≡ meant (step p u) us) → (b : Bool) → is_end p u ≡ b → (word_from p (u ∷ us)).1 ≡ [] → (word_from p (u ∷ us)).0 ≡ meant p (u ∷ us)
one_word_step p u us h true e w = let f : u ∷ us ≡ [] = ap (λ (x : List ℕ × List ℕ). x.1) (sym (word_end p u us e)) ∙ w in absurd cc
one_word_step p u us h false e w =
    let more = word_more p u us e in
    ap (λ (x : List ℕ × List ℕ). x.0) more ∙ ap (λ z. output p u ++ z) (h (ap (λ (x : List ℕ × List ℕ). x.1) (sym more) ∙ w)) ∙ sym (meant_step p u us)

pub one_word : (p : Index) (text : List ℕ) → (word_from p text).1 ≡ [] → (word_from p text).0 ≡ meant p text
one_word p [] w = no_more p
one_word p (u ∷ us) w = one_word_step p u us (one_word (step p u) us) (is_end p u) refl w

pub complete_alone : (text argument : List ℕ) → Reads [] false text argument → meant first_index text ≡ argument
complete_alone text argument r =
    let c = complete [] false text argument r in
    sym (one_word first_index text (ap (λ (x : List ℕ × List ℕ). x.1) c)) ∙ ap (λ (x : List ℕ × List ℕ). x.0) c

pub complete_name_alone : (text name : List ℕ) → ReadsName [] false text name → meant name_index text ≡ name
complete_name_alone text name r =
    let c = complete_name [] false text name r in
    sym (one_word name_index text (ap (λ (x : List ℕ × List ℕ). x.1) c)) ∙ ap (λ (x : List ℕ × List ℕ). x.0) c

-- the arguments from an index on are the word that is found there and those after it
abbrev AreFound : Index → List ℕ → List ℕ → Type 0
AreFound p word text = arguments_from (Within p word) text ≡ (word ++ (word_from p text).0) ∷ arguments_in (word_from p text).1

found_step : (p : Index) (word : List ℕ) (u : ℕ) (us : List ℕ) → AreFound (step p u) (word ++ output p u) us → (b : Bool) → is_end p u ≡ b → AreFound p word (u ∷ us)
found_step p word u us h true e =
    within_end p word u us e ∙ ap (λ x. (word ++ backslashes p.run) ∷ x) (sym (between_blank u us (end_is_blank p u e))) ∙ sym (ap (λ (x : List ℕ × List ℕ). (word ++ x.0) ∷ arguments_in x.1) (word_end p u us e))
found_step p word u us h false e =
    let r = word_from (step p u) us in
    within_more p word u us e ∙ h ∙ ap (λ x. x ∷ arguments_in r.1) (append_assoc word (output p u) r.0) ∙ sym (ap (λ (x : List ℕ × List ℕ). (word ++ x.0) ∷ arguments_in x.1) (word_more p u us e))

no_text : (p : Index) (word : List ℕ) → AreFound p word []
unfolding word_from arguments_from
no_text p word = refl

within_is : (p : Index) (word text : List ℕ) → AreFound p word text
within_is p word [] = no_text p word
within_is p word (u ∷ us) = found_step p word u us (within_is (step p u) (word ++ output p u) us) (is_end p u) refl

pub between_is : (u : ℕ) (us : List ℕ) → is_blank u ≡ false → arguments_in (u ∷ us) ≡ (word_from first_index (u ∷ us)).0 ∷ arguments_in (word_from first_index (u ∷ us)).1
between_is u us e =
    between_more u us e ∙ within_is (step first_index u) (output first_index u) us ∙ sym (ap (λ (x : List ℕ × List ℕ). x.0 ∷ arguments_in x.1) (word_more first_index u us e))

pub blanks_are : (blanks text : List ℕ) → AllByRecursion IsBlank blanks → arguments_in (blanks ++ text) ≡ arguments_in text
blanks_are [] text h = refl
blanks_are (u ∷ blanks) text h = between_blank u (blanks ++ text) (blank u h.0) ∙ blanks_are blanks text h.1

pub complete_next : (line argument rest : List ℕ) → IsNext line argument rest → arguments_in line ≡ argument ∷ arguments_in rest
complete_next line argument rest n = ap arguments_in n.joined ∙ blanks_are n.blanks n.text n.are_blanks ∙ begun n.text n.begins n.reads
  where
    begun : (text : List ℕ) → Begins text → Reads rest false text argument → arguments_in text ≡ argument ∷ arguments_in rest
    begun [] b r = absurd b
    begun (u ∷ us) b r = between_is u us (not_blank u b) ∙ ap (λ (x : List ℕ × List ℕ). x.0 ∷ arguments_in x.1) (complete rest false (u ∷ us) argument r)

pub no_arguments : (line : List ℕ) → AllByRecursion IsBlank line → arguments_in line ≡ []
unfolding arguments_from
no_arguments [] h = refl
no_arguments (u ∷ us) h = between_blank u us (blank u h.0) ∙ no_arguments us h.1

pub complete_list : (line : List ℕ) (arguments : List (List ℕ)) → AreArguments line arguments → arguments_in line ≡ arguments
complete_list line [] h = no_arguments line h
complete_list line (argument ∷ arguments) h = complete_next line argument h.0 h.1 ∙ ap (λ x. argument ∷ x) (complete_list h.0 arguments h.2)

-- a line is one list of arguments
pub one_list : (line : List ℕ) (xs ys : List (List ℕ)) → AreArguments line xs → AreArguments line ys → xs ≡ ys
one_list line xs ys p q = sym (complete_list line xs p) ∙ complete_list line ys q

-- and one program's name with them
pub one_line : (line : List ℕ) (p : List ℕ × List (List ℕ)) (name : List ℕ) (arguments : List (List ℕ)) → IsCommandLine line p.0 p.1 → IsCommandLine line name arguments → p ≡ (name, arguments)
unfolding IsCommandLine
one_line line p name arguments g h =
    let names = one_name g.0 h.0 line p.0 name g.1 h.1 in
    let lists = one_list g.0 p.1 arguments g.2 (subst (λ z. AreArguments z arguments) (sym names.1) h.2) in
    ap (λ a. (a, p.1)) names.0 ∙ ap (λ xs. (name, xs)) lists
