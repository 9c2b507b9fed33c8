-- What is read, with one more item.
use Rattle.std.proofs.Common.{◌≡◌, List, [], ◌∷◌, ◌++◌, refl, sym, ap, ◌∙◌, subst, append_assoc, append-nil}
use Rattle.wildcards.specs.Items.{Reads, concat_of, ReadsLists}

module _ {S O : Type 0} (Item : S → O → S → Type 0) where
  pub more_items : (s : S) (os : List O) (e : S) (o : O) (f : S) → Reads Item s os e → Item e o f → Reads Item s (os ++ o ∷ []) f
  more_items s [] e o f r i = (f, subst (λ z. Item z o f) (sym r) i, refl)
  more_items s (x ∷ os) e o f r i = (r.0, r.1, more_items r.0 os e o f r.2 i)

pub concat_more : {X : Type 0} (xss : List (List X)) (xs : List X) → concat_of (xss ++ xs ∷ []) ≡ concat_of xss ++ xs
concat_more [] xs = append-nil xs
concat_more (ys ∷ xss) xs = ap (λ z. ys ++ z) (concat_more xss xs) ∙ sym (append_assoc ys (concat_of xss) xs)

module _ {S X : Type 0} (Item : S → List X → S → Type 0) where
  pub none_yet : (start : S) → ReadsLists Item start [] start
  none_yet start = record { lists = []; read = refl; joined = refl }

  pub one_more : (start : S) (items : List X) (left : S) (more : List X) (rest : S) (all : List X) → ReadsLists Item start items left → Item left more rest → all ≡ items ++ more → ReadsLists Item start all rest
  one_more start items left more rest all s i e = record {
    lists = s.lists ++ more ∷ [];
    read = more_items Item start s.lists left more rest s.read i;
    joined = e ∙ ap (λ z. z ++ more) s.joined ∙ sym (concat_more s.lists more);
  }
