-- Where the name of a named class ends.
use Rattle.std.proofs.Common.{◌≡◌, ℕ, ◌<◌, ◌≤◌, nat_eq, nat_lt, Bool, true, false, ◌&&◌, cond, List, [], ◌∷◌, ◌++◌, length, Option, Some, None, refl, sym, ap, ◌∙◌, subst, arith, append_assoc, length-append}
use Rattle.std.proofs.lemmas.Bool.{eqb-true, cond_both, le-ltb, lt-ltb}
use Rattle.wildcards.specs.declared.range.Range.{Range}
use Rattle.glob_text.specs.declared.symbol.Symbol.{Symbol}
use Rattle.wildcards.specs.declared.class_name.ClassName.{ClassName}
use Rattle.glob_text.specs.declared.class_text.Before.{Before}
use Rattle.glob_text.specs.declared.class_text.Before.TheVariants.{First, From, Nothing}
use Rattle.glob_text.specs.declared.class_text.ClassLetter.{ClassLetter}
use Rattle.glob_text.specs.declared.class_text.NameEnd.{NameEnd}
use Rattle.glob_text.specs.declared.fault.FaultKind.TheVariants.{ReversedRange}
use Rattle.wildcards.specs.ClassName.{name_text, all_names, range}
use Rattle.glob_text.specs.ClassText.{broken, closed, is_plain, quoted_letter, letter_at, after_text, or_name, known_name, ends_name, named_text, closes, range_end, from_to, range_at, member, with_name, with_text, with_range, after_letter, member_at}
use Rattle.glob_text.specs.ClassSteps.{first_end, IsFirstEnd, EndsWith, IsEndBefore}

some_same : {X : Type 0} {x y : X} → Some x ≡ Some y → x ≡ y
some_same e = cc

none_some : {X : Type 0} {x : X} → None ≡ Some x → ⊥
none_some e = cc

-- the first `]`, wherever it is
end_within : (colon : Bool) (xs : List Symbol) → (first_end colon xs).left ≤ length xs
end_within colon [] = omega arith
end_within colon (x ∷ xs) = cond_both (nat_eq x.letter 0x5D) _ (first_end (nat_eq x.letter 0x3A) xs) (λ z. z.left ≤ length (x ∷ xs)) (λ e. omega arith) (λ e. let h = end_within (nat_eq x.letter 0x3A) xs in omega (arith, h))

ends_after : (colon : Bool) (xs : List Symbol) → ends_name colon xs ≡ (first_end colon xs).after_colon
ends_after colon [] = refl
ends_after colon (x ∷ xs) = by_letter (nat_eq x.letter 0x5D) (ends_after (nat_eq x.letter 0x3A) xs)
  where
    by_letter : (b : Bool) → ends_name (nat_eq x.letter 0x3A) xs ≡ (first_end (nat_eq x.letter 0x3A) xs).after_colon
        → cond b colon (ends_name (nat_eq x.letter 0x3A) xs) ≡ (cond b (record { left = length (x ∷ xs); after_colon = colon }) (first_end (nat_eq x.letter 0x3A) xs)).after_colon
    by_letter true e = refl
    by_letter false e = e

-- where the first `]` is known, it is known whether it ends a name
pub ends_from : (text : List Symbol) (end : NameEnd) → IsFirstEnd text end → ends_name false text ≡ nat_lt end.left (length text) && end.after_colon
ends_from text end h = subst (λ z. ends_name false text ≡ nat_lt z.left (length text) && z.after_colon) (sym h.1) (by_text text h.0)
  where
    by_text : (xs : List Symbol) (colon : Bool) → ends_name false xs ≡ nat_lt (first_end colon xs).left (length xs) && (first_end colon xs).after_colon
    by_text [] colon = refl
    by_text (x ∷ xs) colon = by_letter (nat_eq x.letter 0x5D)
      where
        by_letter : (b : Bool) → cond b false (ends_name (nat_eq x.letter 0x3A) xs) ≡ nat_lt (cond b (record { left = length (x ∷ xs); after_colon = colon }) (first_end (nat_eq x.letter 0x3A) xs)).left (length (x ∷ xs)) && (cond b (record { left = length (x ∷ xs); after_colon = colon }) (first_end (nat_eq x.letter 0x3A) xs)).after_colon
        by_letter true = ap (λ z. z && colon) (sym (le-ltb (length (x ∷ xs)) (length (x ∷ xs)) (omega arith)))
        by_letter false =
            let h = end_within (nat_eq x.letter 0x3A) xs in
            ends_after (nat_eq x.letter 0x3A) xs ∙ ap (λ z. z && (first_end (nat_eq x.letter 0x3A) xs).after_colon) (sym (lt-ltb (first_end (nat_eq x.letter 0x3A) xs).left (length (x ∷ xs)) (omega (arith, h))))

pub ends_where : (text : List Symbol) (end : NameEnd) → IsFirstEnd text end → end.left < length text → end.after_colon ≡ ends_name false text
ends_where text end h l = sym (ends_from text end h ∙ ap (λ z. z && end.after_colon) (lt-ltb end.left (length text) l))

pub ends_nowhere : (text : List Symbol) (end : NameEnd) → IsFirstEnd text end → length text ≤ end.left → nat_lt end.left (length text) ≡ ends_name false text
ends_nowhere text end h l = let far = le-ltb end.left (length text) l in far ∙ sym (ends_from text end h ∙ ap (λ z. z && end.after_colon) far)

-- it is there still, after a symbol that is none
pub past_other : (x : Symbol) (xs : List Symbol) (end : NameEnd) → IsFirstEnd (x ∷ xs) end → nat_eq x.letter 0x5D ≡ false → IsFirstEnd xs end
past_other x xs end h e = (nat_eq x.letter 0x3A, h.1 ∙ ap (λ b. cond b (record { left = length (x ∷ xs); after_colon = h.0 }) (first_end (nat_eq x.letter 0x3A) xs)) e)

pub past_letter : (x : Symbol) (xs text : List Symbol) (end : NameEnd) (letter : ℕ) → IsFirstEnd text end → text ≡ x ∷ xs → x.letter ≡ letter → nat_eq letter 0x5D ≡ false → IsFirstEnd xs end
past_letter x xs text end letter h e f n = past_other x xs end (subst (λ z. IsFirstEnd z end) e h) (ap (λ z. nat_eq z 0x5D) f ∙ n)

-- and as long as it isn't passed
pub not_passed : (skipped rest : List Symbol) (end : NameEnd) → IsFirstEnd (skipped ++ rest) end → end.left ≤ length rest → IsFirstEnd rest end
not_passed [] rest end h l = h
not_passed (x ∷ skipped) rest end h l = by_letter (nat_eq x.letter 0x5D) refl (λ k. not_passed skipped rest end k l)
  where
    by_letter : (b : Bool) → nat_eq x.letter 0x5D ≡ b → (IsFirstEnd (skipped ++ rest) end → IsFirstEnd rest end) → IsFirstEnd rest end
    by_letter true e f =
        let here : end.left ≡ length (x ∷ (skipped ++ rest)) = ap (λ z. z.left) h.1 ∙ ap (λ b. (cond b (record { left = length (x ∷ (skipped ++ rest)); after_colon = h.0 }) (first_end (nat_eq x.letter 0x3A) (skipped ++ rest))).left) e in
        let size = length-append skipped rest in
        absurd (omega (arith, here, size, l))
    by_letter false e f = f (past_other x (skipped ++ rest) end h e)

pub still_ahead : (rest : List Symbol) (end : NameEnd) → IsEndBefore rest end → end.left ≤ length rest → IsFirstEnd rest end
still_ahead rest end h l = not_passed h.1.1.0 rest end (subst (λ z. IsFirstEnd z end) h.1.1.1 h.1.0) l

-- a `[` that isn't quoted is the first symbol
pub past_bracket : (quotes : Bool) (text : List Symbol) (l : ClassLetter) (rest : List Symbol) (end : NameEnd) → letter_at quotes text ≡ Some (l, rest) → IsFirstEnd text end → is_plain l 0x5B ≡ true → IsFirstEnd rest end
past_bracket quotes [] l rest end e h p = absurd (none_some e)
past_bracket quotes (x ∷ xs) l rest end e h p = by_quote (quotes && nat_eq x.letter 0x5C) e
  where
    quoted : (ys : List Symbol) → quoted_letter ys ≡ Some (l, rest) → IsFirstEnd rest end
    quoted [] f = absurd (none_some f)
    quoted (y ∷ ys) f =
        let same : record { symbol = y; quoted = true } ≡ l = ap (λ z. z.0) (some_same f) in
        let never : false ≡ true = ap (λ z. is_plain z 0x5B) same ∙ p in
        absurd cc

    by_quote : (b : Bool) → cond b (quoted_letter xs) (Some (record { symbol = x; quoted = false }, xs)) ≡ Some (l, rest) → IsFirstEnd rest end
    by_quote true f = quoted xs f
    by_quote false f =
        let same : record { symbol = x; quoted = false } ≡ l = ap (λ z. z.0) (some_same f) in
        let left : xs ≡ rest = ap (λ z. z.1) (some_same f) in
        let plain : nat_eq x.letter 0x5B ≡ true = ap (λ z. is_plain z 0x5B) same ∙ p in
        subst (λ z. IsFirstEnd z end) left (past_letter x xs (x ∷ xs) end 0x5B h refl (eqb-true x.letter 0x5B plain) refl)

-- what is left of a text ends it
whole : (text : List Symbol) → EndsWith text text
whole text = ([], refl)

further : (x : Symbol) (xs rest : List Symbol) → EndsWith xs rest → EndsWith (x ∷ xs) rest
further x xs rest h = (x ∷ h.0, ap (λ z. x ∷ z) h.1)

pub through : (text mid rest : List Symbol) → EndsWith text mid → EndsWith mid rest → EndsWith text rest
through text mid rest h k = (h.0 ++ k.0, h.1 ∙ ap (λ z. h.0 ++ z) k.1 ∙ sym (append_assoc h.0 k.0 rest))

letter_left : (quotes : Bool) (text : List Symbol) (p : ClassLetter × List Symbol) → letter_at quotes text ≡ Some p → EndsWith text p.1
letter_left quotes [] p e = absurd (none_some e)
letter_left quotes (x ∷ xs) p e = by_quote (quotes && nat_eq x.letter 0x5C) e
  where
    quoted : (ys : List Symbol) → quoted_letter ys ≡ Some p → EndsWith (x ∷ ys) p.1
    quoted [] f = absurd (none_some f)
    quoted (y ∷ ys) f = subst (λ z. EndsWith (x ∷ y ∷ ys) z) (ap (λ z. z.1) (some_same f)) (further x (y ∷ ys) ys (further y ys ys (whole ys)))

    by_quote : (b : Bool) → cond b (quoted_letter xs) (Some (record { symbol = x; quoted = false }, xs)) ≡ Some p → EndsWith (x ∷ xs) p.1
    by_quote true f = quoted xs f
    by_quote false f = subst (λ z. EndsWith (x ∷ xs) z) (ap (λ z. z.1) (some_same f)) (further x xs xs (whole xs))

text_left : (bs : List ℕ) (xs rest : List Symbol) → after_text bs xs ≡ Some rest → EndsWith xs rest
text_left [] xs rest e = subst (λ z. EndsWith xs z) (some_same e) (whole xs)
text_left (b ∷ bs) [] rest e = absurd (none_some e)
text_left (b ∷ bs) (x ∷ xs) rest e = by_letter (nat_eq x.letter b) (λ f. text_left bs xs rest f) e
  where
    by_letter : (v : Bool) → (after_text bs xs ≡ Some rest → EndsWith xs rest) → cond v (after_text bs xs) None ≡ Some rest → EndsWith (x ∷ xs) rest
    by_letter true more f = further x xs rest (more f)
    by_letter false more f = absurd (none_some f)

known_left : (names : List ClassName) (xs : List Symbol) (p : ClassName × List Symbol) → known_name names xs ≡ Some p → EndsWith xs p.1
known_left [] xs p e = absurd (none_some e)
known_left (name ∷ names) xs p e = by_name (after_text (name_text name) xs) refl (λ g. known_left names xs p g) e
  where
    by_name : (o : Option (List Symbol)) → after_text (name_text name) xs ≡ o → (known_name names xs ≡ Some p → EndsWith xs p.1) → or_name name o (known_name names xs) ≡ Some p → EndsWith xs p.1
    by_name (Some rest) f more g = subst (λ z. EndsWith xs z) (ap (λ z. z.1) (some_same g)) (text_left (name_text name) xs rest f)
    by_name None f more g = more g

named_left : (l : ClassLetter) (xs text : List Symbol) → named_text l xs ≡ Some text → EndsWith xs text
named_left l [] text e = absurd (none_some e)
named_left l (x ∷ xs) text e = by_test ((is_plain l 0x5B && nat_eq x.letter 0x3A) && ends_name false xs) e
  where
    by_test : (b : Bool) → cond b (Some xs) None ≡ Some text → EndsWith (x ∷ xs) text
    by_test true f = subst (λ z. EndsWith (x ∷ xs) z) (some_same f) (further x xs xs (whole xs))
    by_test false f = absurd (none_some f)

range_left : (quotes : Bool) (before : Before) (l : ClassLetter) (xs : List Symbol) (p : Symbol × ℕ × List Symbol) → range_at quotes before l xs ≡ Some p → EndsWith xs p.2
range_left quotes First l xs p e = absurd (none_some e)
range_left quotes Nothing l xs p e = absurd (none_some e)
range_left quotes (From s) l xs p e = by_dash (is_plain l 0x2D) e
  where
    by_close : (to : ClassLetter × List Symbol) → letter_at quotes xs ≡ Some to → (b : Bool) → from_to s (cond b None (Some (to.0.symbol.letter, to.1))) ≡ Some p → EndsWith xs p.2
    by_close to f true g = absurd (none_some g)
    by_close to f false g = subst (λ z. EndsWith xs z) (ap (λ z. z.2) (some_same g)) (letter_left quotes xs to f)

    by_end : (o : Option (ClassLetter × List Symbol)) → letter_at quotes xs ≡ o → from_to s (range_end o) ≡ Some p → EndsWith xs p.2
    by_end None f g = absurd (none_some g)
    by_end (Some to) f g = by_close to f (is_plain to.0 0x5D) g

    by_dash : (b : Bool) → cond b (from_to s (range_end (letter_at quotes xs))) None ≡ Some p → EndsWith xs p.2
    by_dash true f = by_end (letter_at quotes xs) refl f
    by_dash false f = absurd (none_some f)

pub member_left : (quotes : Bool) (index : ℕ) (before : Before) (text : List Symbol) (ranges : List Range) (after : Before) (rest : List Symbol) → member ranges after rest ≡ member_at quotes index before text → EndsWith text rest
member_left quotes index before text ranges after rest e = by_letter (letter_at quotes text) refl (sym e)
  where
    by_name : (n : ℕ) (names : List Symbol) (o : Option (ClassName × List Symbol)) → known_name all_names names ≡ o → with_name n o ≡ member ranges after rest → EndsWith names rest
    by_name n names (Some known) f g = let same : known.1 ≡ rest = cc in subst (λ z. EndsWith names z) same (known_left all_names names known f)
    by_name n names None f g = absurd cc

    by_text : (l : ClassLetter) (xs : List Symbol) (o : Option (List Symbol)) → named_text l xs ≡ o → with_text l xs o ≡ member ranges after rest → EndsWith xs rest
    by_text l xs (Some names) f g = through xs names rest (named_left l xs names f) (by_name l.symbol.index names (known_name all_names names) refl g)
    by_text l xs None f g = let same : xs ≡ rest = cc in subst (λ z. EndsWith xs z) same (whole xs)

    by_order : (l : ClassLetter) (xs : List Symbol) (r : Symbol × ℕ × List Symbol) → range_at quotes before l xs ≡ Some r → (b : Bool) → cond b (broken (record { kind = ReversedRange; index = r.0.index })) (member (range r.0.letter r.1 ∷ []) Nothing r.2) ≡ member ranges after rest → EndsWith xs rest
    by_order l xs r f true g = absurd cc
    by_order l xs r f false g = let same : r.2 ≡ rest = cc in subst (λ z. EndsWith xs z) same (range_left quotes before l xs r f)

    by_range : (l : ClassLetter) (xs : List Symbol) (o : Option (Symbol × ℕ × List Symbol)) → range_at quotes before l xs ≡ o → with_range l xs o ≡ member ranges after rest → EndsWith xs rest
    by_range l xs (Some r) f g = by_order l xs r f (nat_lt r.1 r.0.letter) g
    by_range l xs None f g = by_text l xs (named_text l xs) refl g

    by_closing : (l : ClassLetter × List Symbol) → letter_at quotes text ≡ Some l → (b : Bool) → cond b (closed l.1) (with_range l.0 l.1 (range_at quotes before l.0 l.1)) ≡ member ranges after rest → EndsWith text rest
    by_closing l f true g = absurd cc
    by_closing l f false g = through text l.1 rest (letter_left quotes text l f) (by_range l.0 l.1 (range_at quotes before l.0 l.1) refl g)

    by_letter : (o : Option (ClassLetter × List Symbol)) → letter_at quotes text ≡ o → after_letter quotes index before o ≡ member ranges after rest → EndsWith text rest
    by_letter None f g = absurd cc
    by_letter (Some l) f g = by_closing l f (closes before l.0) g
