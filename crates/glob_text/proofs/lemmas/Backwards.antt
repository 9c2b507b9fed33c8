-- What marks are written out as, found from the last mark to the first: so there is one list of choices.
use Rattle.std.proofs.Common.{◌≡◌, Bool, true, false, List, [], ◌∷◌, ◌++◌, map, refl, sym, ap, ◌∙◌, append_assoc, append-nil}
use Rattle.std.proofs.lemmas.List.{map-append}
use Rattle.std.proofs.lemmas.List.Concat.{flat_map-append}
use Rattle.std.proofs.lemmas.Simd.{map-map}
use Rattle.glob_text.specs.Marks.{Mark, literal, any, star, one_of, opens, comma, closes}
use Rattle.glob_text.specs.Alternatives.{each, product, Level, sequence, alternatives, is_itself, StandFor, nothing, one, group, first, next, AreChoices}
use Rattle.glob_text.specs.Backwards.{Pending, Behind, each_after, choices_before, choices_behind, at_end}

module _ {X : Type 0} where
  pub map_alike : (f g : List X → List X) → ((d : List X) → f d ≡ g d) → (ds : List (List X)) → map f ds ≡ map g ds
  map_alike f g e [] = refl
  map_alike f g e (d ∷ ds) = ap (λ z. z ∷ map f ds) (e d) ∙ ap (λ z. g d ∷ z) (map_alike f g e ds)

  pub map_itself : (ds : List (List X)) → map (λ d. [] ++ d) ds ≡ ds
  map_itself [] = refl
  map_itself (d ∷ ds) = ap (λ z. d ∷ z) (map_itself ds)

  -- the empty choice changes nothing
  product_nothing : (ds : List (List X)) → product ([] ∷ []) ds ≡ ds
  product_nothing ds = append-nil (map (λ d. [] ++ d) ds) ∙ map_itself ds

  product_end : (cs : List (List X)) → product cs ([] ∷ []) ≡ cs
  product_end [] = refl
  product_end (c ∷ cs) = ap (λ z. z ∷ product cs ([] ∷ [])) (append-nil c) ∙ ap (λ z. c ∷ z) (product_end cs)

  -- an element after each choice is before each of those that follow
  product_each : (cs : List (List X)) (x : X) (ds : List (List X)) → product cs (each_after x ds) ≡ product (each cs x) ds
  product_each [] x ds = refl
  product_each (c ∷ cs) x ds =
      ap (λ z. z ++ product cs (each_after x ds)) (map-map (λ d. c ++ d) (λ d. x ∷ d) ds ∙ map_alike (λ d. c ++ x ∷ d) (λ d. (c ++ x ∷ []) ++ d) (λ d. sym (append_assoc c (x ∷ []) d)) ds)
      ∙ ap (λ z. map (λ d. (c ++ x ∷ []) ++ d) ds ++ z) (product_each cs x ds)

  product_after : (c : List X) (ds es : List (List X)) → map (λ d. c ++ d) (product ds es) ≡ product (map (λ d. c ++ d) ds) es
  product_after c [] es = refl
  product_after c (d ∷ ds) es =
      map-append (λ z. c ++ z) (map (λ e. d ++ e) es) (product ds es)
      ∙ ap (λ z. z ++ map (λ d. c ++ d) (product ds es)) (map-map (λ z. c ++ z) (λ e. d ++ e) es ∙ map_alike (λ e. c ++ (d ++ e)) (λ e. (c ++ d) ++ e) (λ e. sym (append_assoc c d e)) es)
      ∙ ap (λ z. map (λ e. (c ++ d) ++ e) es ++ z) (product_after c ds es)

  product_both : (cs ds es : List (List X)) → product (cs ++ ds) es ≡ product cs es ++ product ds es
  product_both cs ds es = flat_map-append (λ c. map (λ e. c ++ e) es) cs ds

  product_product : (cs ds es : List (List X)) → product cs (product ds es) ≡ product (product cs ds) es
  product_product [] ds es = refl
  product_product (c ∷ cs) ds es =
      ap (λ z. z ++ product cs (product ds es)) (product_after c ds es)
      ∙ ap (λ z. product (map (λ d. c ++ d) ds) es ++ z) (product_product cs ds es)
      ∙ sym (product_both (map (λ d. c ++ d) ds) (product cs ds) es)

pub behind_both : (ms ns : List Mark) (s : Behind (List (List Mark))) → choices_behind (ms ++ ns) s ≡ choices_behind ms (choices_behind ns s)
behind_both [] ns s = refl
behind_both (m ∷ ms) ns s = ap (choices_before m) (behind_both ms ns s)

abbrev Choices : Type 0
Choices = List (List Mark)

abbrev state : List (Pending Choices) → Choices → Behind Choices
state gs current = record { groups = gs; current = current }

-- alternatives are read within alternatives alone
abbrev Fits : Bool → List (Pending Choices) → Type 0
Fits false gs = gs ≡ []
Fits true gs = Unit {0}

-- what marks are written out as is put before what is behind them
abbrev IsPutBefore : Level → List Mark → Choices → Type 0
IsPutBefore (sequence inside) ms cs = (gs : List (Pending Choices)) (current : Choices) → Fits inside gs → choices_behind ms (state gs current) ≡ state gs (product cs current)
IsPutBefore alternatives ms cs =
    (after found : Choices) (gs : List (Pending Choices)) → (now : Choices) × (whole : Choices) × (choices_behind ms (state (record { after = after; found = found } ∷ gs) after) ≡ state (record { after = after; found = whole } ∷ gs) now) × (now ++ whole ≡ product cs after ++ found)

itself_before : (inside : Bool) (m : Mark) (gs : List (Pending Choices)) (current : Choices) → is_itself inside m ≡ true → Fits inside gs → choices_before m (state gs current) ≡ state gs (each_after m current)
itself_before inside (literal letter) gs current e f = refl
itself_before inside any gs current e f = refl
itself_before inside (star again) gs current e f = refl
itself_before inside (one_of negated ranges) gs current e f = refl
itself_before inside (opens index) gs current e f = let never : false ≡ true = e in absurd cc
itself_before false comma gs current e f = rw f refl
itself_before true comma gs current e f = let never : false ≡ true = e in absurd cc
itself_before inside (closes index) gs current e f = let never : false ≡ true = e in absurd cc

put_before : {level : Level} {ms : List Mark} {cs : Choices} → StandFor level ms cs → IsPutBefore level ms cs
put_before nothing = λ gs current f. ap (state gs) (sym (product_nothing current))
put_before (one {inside = inside} {ms = ms} {cs = cs} m e r) = λ gs current f.
    behind_both ms (m ∷ []) (state gs current)
    ∙ ap (choices_behind ms) (itself_before inside m gs current e f)
    ∙ put_before r gs (each_after m current) f
    ∙ ap (state gs) (product_each cs m current)
put_before (group {inside = inside} {ms = ms} {ns = ns} {cs = cs} {ds = ds} i j r a) = λ gs current f.
    let h = put_before a current [] gs in
    behind_both ms (opens i ∷ (ns ++ closes j ∷ [])) (state gs current)
    ∙ ap (λ z. choices_behind ms (choices_before (opens i) z)) (behind_both ns (closes j ∷ []) (state gs current) ∙ h.2)
    ∙ ap (λ z. choices_behind ms (state gs z)) (h.3 ∙ append-nil (product ds current))
    ∙ put_before r gs (product ds current) f
    ∙ ap (state gs) (product_product cs ds current)
put_before (first {cs = cs} r) = λ after found gs.
    (product cs after, found, put_before r (record { after = after; found = found } ∷ gs) after tt, refl)
put_before (next {ms = ms} {ns = ns} {cs = cs} {ds = ds} r a) = λ after found gs.
    let last = put_before a (record { after = after; found = found } ∷ gs) after tt in
    let h = put_before r after (product ds after ++ found) gs in (
      h.0,
      h.1,
      behind_both ms (comma ∷ ns) (state (record { after = after; found = found } ∷ gs) after) ∙ ap (λ z. choices_behind ms (choices_before comma z)) last ∙ h.2,
      h.3 ∙ sym (append_assoc (product cs after) (product ds after) found) ∙ ap (λ z. z ++ found) (sym (product_both cs ds after)),
    )

-- the choices are found from the last mark on
pub found_behind : (marks : List Mark) (cs : Choices) → AreChoices marks cs → (choices_behind marks at_end).current ≡ cs
found_behind marks cs h = ap (λ z. z.current) (put_before h [] ([] ∷ []) refl) ∙ product_end cs

-- so there is one list of choices
pub one_list : (marks : List Mark) (cs ds : Choices) → AreChoices marks cs → AreChoices marks ds → cs ≡ ds
one_list marks cs ds h k = sym (found_behind marks cs h) ∙ found_behind marks ds k
