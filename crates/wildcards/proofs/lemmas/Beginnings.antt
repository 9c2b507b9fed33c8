-- A path that begins with a text.
use Rattle.std.proofs.Common.{◌≡◌, ◌⊎◌, ◌||◌, inl, inr, ◌<◌, ◌+◌, ℕ, Bool, true, false, nat_eq, List, [], ◌∷◌, ◌++◌, length, take, drop, refl, sym, ap, ◌∙◌, subst, Option, Some, None, append-nil, take-append-drop, ◌↔◌, MatchOption, IfSome}
use denote.Ref.{Bor}
use Rattle.std.specs.Cmp.Lexicographic.{pointwise}
use Rattle.std.proofs.lemmas.List.{take_at, append_cancel_left}
use Rattle.std.proofs.lemmas.List.Elements.{All-from_recursion}
use Rattle.std.specs.List.{AllByRecursion}
use Rattle.wildcards.specs.declared.options.Options.{Options}
use Rattle.wildcards.specs.declared.part.Part.{Part}
use Rattle.wildcards.specs.declared.separators.Separators.{Separators}
use Rattle.wildcards.specs.declared.separators.Separators.TheVariants as separators
use Rattle.wildcards.specs.Components.{separates, components}
use Rattle.wildcards.specs.Cuts.{IsPlain, IsCut, BeginsWith, BeginsOther, left_size}
use Rattle.wildcards.specs.Literals.{spells}
use Rattle.wildcards.specs.Match.{FitsComponent}
use Rattle.wildcards.specs.PathSteps.{FirstFits, FirstDiffers}
use Rattle.wildcards.specs.Reading.{LetterLaws}
use Rattle.wildcards.proofs.lemmas.Literals.{bytes_alike, literal_fits}
use Rattle.wildcards.proofs.lemmas.Queries.{FirstCut, first_cut}
use Rattle.wildcards.proofs.lemmas.Readings.{first_of, whole, cut_letters}

-- what separates nothing where both separate, separates nothing elsewhere
pub never_separates : (o : Separators) (b : ℕ) → separates separators.SlashAndBackslash b ≡ false → separates o b ≡ false
never_separates separators.None b e = refl
never_separates separators.SlashAndBackslash b e = e
never_separates separators.Slash b e = first (nat_eq b 0x2F) refl
  where
    first : (v : Bool) → nat_eq b 0x2F ≡ v → nat_eq b 0x2F ≡ false
    first false f = f
    first true f = let never : true ≡ false = sym (ap (λ z. z || nat_eq b 0x5C) f) ∙ e in cc

pub plain_everywhere : (s : List ℕ) → IsPlain separators.SlashAndBackslash s → (o : Separators) → IsPlain o s
plain_everywhere s h o k d l = never_separates o _ (h k d l)

module _ (o : Separators) (s text : List ℕ) where
  no_prefix : pointwise nat_eq (take (length text) s) text ≡ false → (rest : List ℕ) → s ≡ text ++ rest → ⊥
  no_prefix e rest f =
      let same : take (length text) s ≡ text = ap (take (length text)) f ∙ take_at text rest (length text) refl in
      let never : true ≡ false = sym ((bytes_alike (take (length text) s) text).1 same) ∙ e in
      cc

  pub other_prefix : pointwise nat_eq (take (length text) s) text ≡ false → BeginsOther o s text
  other_prefix e = record {
    not_whole = λ f. no_prefix e [] (f ∙ sym (append-nil text));
    not_cut = λ more c. no_prefix e (c.separator ∷ more) c.joined;
  }

  module _ (rest : List ℕ) (e : pointwise nat_eq (take (length text) s) text ≡ true) (f : rest ≡ drop (length text) s) where
    joined : s ≡ text ++ rest
    joined = sym (take-append-drop (length text) s) ∙ ap (λ z. z ++ drop (length text) s) ((bytes_alike (take (length text) s) text).0 e) ∙ ap (λ z. text ++ z) (sym f)

    pub nothing_left : rest ≡ [] → s ≡ text
    nothing_left g = joined ∙ ap (λ z. text ++ z) g ∙ append-nil text

    pub cut_left : (b : ℕ) (more : List ℕ) → rest ≡ b ∷ more → separates o b ≡ true → IsCut o s text more
    cut_left b more g h = record { separator = b; joined = joined ∙ ap (λ z. text ++ z) g; parts = h }

    pub longer_left : (b : ℕ) (more : List ℕ) → rest ≡ b ∷ more → separates o b ≡ false → BeginsOther o s text
    longer_left b more g h = record {
      not_whole = λ k.
          let none : text ++ [] ≡ text ++ b ∷ more = append-nil text ∙ sym k ∙ joined ∙ ap (λ z. text ++ z) g in
          let never : [] ≡ b ∷ more = append_cancel_left text [] (b ∷ more) none in
          cc;
      not_cut = λ other c.
          let same : b ∷ more ≡ c.separator ∷ other = append_cancel_left text (b ∷ more) (c.separator ∷ other) (ap (λ z. text ++ z) (sym g) ∙ sym joined ∙ c.joined) in
          let first : b ≡ c.separator = cc in
          let never : false ≡ true = sym h ∙ ap (separates o) first ∙ c.parts in
          cc;
    }

module _ {A : Type 0} (formed : List ℕ → Type 0) (letters : List ℕ → List ℕ) (laws : LetterLaws formed letters) (o : Options) (part : Part A) (path text : List ℕ) (is : spells part.pieces.items text ≡ true) (plain : IsPlain o.separators text) (f : formed path) where
  alike : (s : List ℕ) → formed s → (s ≡ text) ↔ FitsComponent o.literal_leading_dot part (letters s)
  alike s g = literal_fits A formed letters laws o.literal_leading_dot part.pieces.items text s is g

  pub text_first : (more : Option (Bor (List ℕ))) → BeginsWith o.separators path text more → left_size more < length path + 1 → FirstFits formed letters o part path more
  text_first None e l = record {
    component = letters path;
    parts = whole formed letters laws o.separators path f (subst (IsPlain o.separators) (sym e) plain);
    fits = (alike path f).0 e;
    formed_left = tt;
    shorter = l;
  }
  text_first (Some more) c l =
      let both = cut_letters formed letters laws o.separators path text more.now f c in
      record {
        component = letters text;
        parts = first_of formed letters laws o.separators path text more.now f (c, plain);
        fits = (alike text both.0).0 refl;
        formed_left = both.1.0;
        shorter = l;
      }

  pub other_first : BeginsOther o.separators path text → FirstDiffers formed letters o part path
  other_first h = by_cut (first_cut o.separators path)
    where
      by_cut : AllByRecursion (λ b. separates o.separators b ≡ false) path ⊎ FirstCut o.separators path → FirstDiffers formed letters o part path
      by_cut (inl k) = record {
        component = letters path;
        rest = [];
        parts = whole formed letters laws o.separators path f (All-from_recursion (λ b. separates o.separators b ≡ false) path k);
        differs = λ m. h.not_whole ((alike path f).1 m);
      }
      by_cut (inr k) =
          let own = All-from_recursion (λ b. separates o.separators b ≡ false) k.part k.plain in
          let both = cut_letters formed letters laws o.separators path k.part k.rest f k.cut in
          record {
            component = letters k.part;
            rest = components o.separators (letters k.rest);
            parts = first_of formed letters laws o.separators path k.part k.rest f (k.cut, own);
            differs = λ m. h.not_cut k.rest (subst (λ z. IsCut o.separators path z k.rest) ((alike k.part both.0).1 m) k.cut);
          }

  pub text_says : (result : Option (Option (Bor (List ℕ)))) → MatchOption result (BeginsOther o.separators path text) (λ more. BeginsWith o.separators path text more) → IfSome result (λ more. left_size more < length path + 1) → MatchOption result (FirstDiffers formed letters o part path) (λ more. FirstFits formed letters o part path more)
  text_says None h l = other_first h
  text_says (Some more) h l = text_first more h l
