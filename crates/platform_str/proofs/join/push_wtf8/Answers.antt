use Rattle.std.proofs.Common.{◌≡◌, ℕ, ◌+◌, ◌≤◌, List, ◌++◌, length, take, drop, sym, ap, ◌∙◌, append_assoc, take-append-drop}
use Rattle.platform_str.proofs.Common.{encode, form_past, rules, ◌-◌, Result, Ok, Err, length-append, length-drop, subst, cond, cond_both, arith, OnOk, with_items_is, IsWtf8, units_of, IsJoin, IsPairBetween, nat_tests, common_steps}
use Rattle.std.specs.Result.{is_ok}
use Rattle.wtf8_core.proofs.lemmas.units.Joins.{plain_join, pair_bytes, written_join}
use Rattle.platform_str.proofs.join.push_wtf8.Goals as goal

-- the form of a code point past FFFF, between what came before it and what comes after it
pair_written : (new old : List ℕ) (at end c : ℕ) → take end new ≡ take at old ++ encode c → drop end new ≡ drop end old → end ≡ at + length (encode c) → 0x1_0000 ≤ c → new ≡ take at old ++ (encode c ++ drop (at + 4) old)
pair_written new old at end c prefix after size past = grind (arith, nat_tests, common_steps, form_past, take-append-drop, append_assoc)

-- of an answer of `extend_from_slice`
joined : {T E : Type 0} (r : Result T E) (a b n : List ℕ) → IsJoin IsWtf8 units_of a b (a ++ b) → n ≡ cond (is_ok r) (a ++ b) a → OnOk r (units_of n ≡ units_of a ++ units_of b)
joined (Ok t) a b n j e = ap units_of e ∙ j.1
joined (Err t) a b n j e = tt

-- the room for the form, if the first grew by the second without its first two bytes
room : (a b s v d : List ℕ) (c : ℕ) → IsPairBetween s b c → s ≡ a → v ≡ a ++ d → d ≡ drop 2 b → length s - 3 + length (encode c) ≤ length v
room a b s v d c m e f g =
    let p = pair_bytes s b c m in
    omega (arith, p.high_bytes, p.low_bytes, ap length (form_past c p.past), ap length e, ap length f, ap length g, length-append a d, length-drop 2 b)

-- the join, if a pair arises
written : (a b s d v new : List ℕ) (end c : ℕ) → IsWtf8 a → IsWtf8 b → s ≡ a → IsPairBetween s b c → d ≡ drop 2 b → v ≡ a ++ d → take end new ≡ take (length s - 3) v ++ encode c → drop end new ≡ drop end v → end ≡ length s - 3 + length (encode c) → IsJoin IsWtf8 units_of a b new
written a b s d v new end c x y e m f g prefix after size =
    let form = pair_written new v (length s - 3) end c prefix after size (pair_bytes s b c m).past in
    written_join a b v new c x y (subst (λ z. IsPairBetween z b c) e m) (g ∙ ap (λ z. a ++ z) f) (form ∙ ap (λ z. take (length z - 3) v ++ (encode c ++ drop (length z - 3 + 4) v)) e)

pub returns-in_default-clause-formed : goal.returns-in_default-clause-formed
returns-in_default-clause-formed g c =
    let n = subst (λ z. (p : ℕ) → IsPairBetween z c.args.more.now p → ⊥) c.as_slice-bytes.ensures.value c.in_default.ensures in
    let join = plain_join c.args.string.now.items c.args.more.now c.requires.string c.requires.more n in
    subst IsWtf8 (sym c.extend_from_slice.ensures.items) (cond_both (is_ok c.extend_from_slice.result) _ _ IsWtf8 (λ _. join.0) (λ _. c.requires.string))

pub returns-in_default-clause-ok : goal.returns-in_default-clause-ok
returns-in_default-clause-ok g c =
    let n = subst (λ z. (p : ℕ) → IsPairBetween z c.args.more.now p → ⊥) c.as_slice-bytes.ensures.value c.in_default.ensures in
    joined c.extend_from_slice.result c.args.string.now.items c.args.more.now _ (plain_join c.args.string.now.items c.args.more.now c.requires.string c.requires.more n) c.extend_from_slice.ensures.items

pub overflow_sub-at : goal.overflow_sub-at
overflow_sub-at g c = omega (arith, (pair_bytes c.as_slice-bytes.result.now c.args.more.now c.in-Some.pair c.in-Some.ensures).high_bytes)

pub split_at-requires : goal.split_at-requires
split_at-requires g c = omega (arith, (pair_bytes c.as_slice-bytes.result.now c.args.more.now c.in-Some.pair c.in-Some.ensures).low_bytes)

pub write_form-requires-clause-code_point : goal.write_form-requires-clause-code_point
write_form-requires-clause-code_point g c = (pair_bytes c.as_slice-bytes.result.now c.args.more.now c.in-Some.pair c.in-Some.ensures).code_point

pub write_form-requires-clause-room : goal.write_form-requires-clause-room
write_form-requires-clause-room g c = room c.args.string.now.items c.args.more.now c.as_slice-bytes.result.now _ c.split_at.result.1.now c.in-Some.pair c.in-Some.ensures c.as_slice-bytes.ensures.value (c.as_mut_slice.ensures.value ∙ c.in_ok-extend_from_slice.ensures.items) c.split_at.ensures.back

pub returns-clause-formed : goal.returns-clause-formed
returns-clause-formed g c =
    let w = c.write_form.ensures in
    let items = with_items_is c.extend_from_slice-2.new.self c.write_form.new.bytes (search rules) in
    subst IsWtf8 (sym items) (written c.args.string.now.items c.args.more.now c.as_slice-bytes.result.now c.split_at.result.1.now c.as_mut_slice.result.now _ _ c.in-Some.pair c.requires.string c.requires.more c.as_slice-bytes.ensures.value c.in-Some.ensures c.split_at.ensures.back (c.as_mut_slice.ensures.value ∙ c.in_ok-extend_from_slice.ensures.items) w.written w.after w.end).0

pub returns-clause-ok : goal.returns-clause-ok
returns-clause-ok g c =
    let w = c.write_form.ensures in
    let items = with_items_is c.extend_from_slice-2.new.self c.write_form.new.bytes (search rules) in
    ap units_of items ∙ (written c.args.string.now.items c.args.more.now c.as_slice-bytes.result.now c.split_at.result.1.now c.as_mut_slice.result.now _ _ c.in-Some.pair c.requires.string c.requires.more c.as_slice-bytes.ensures.value c.in-Some.ensures c.split_at.ensures.back (c.as_mut_slice.ensures.value ∙ c.in_ok-extend_from_slice.ensures.items) w.written w.after w.end).1
