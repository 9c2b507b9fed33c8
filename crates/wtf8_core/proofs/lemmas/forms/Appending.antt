-- Lists joined, and one more at the end: of code points, of the forms that bytes encode, and of a sequence that has begun.
use Rattle.wtf8_core.proofs.Common.{◌≡◌, ℕ, List, [], ◌∷◌, ◌++◌, refl, sym, ap, ◌∙◌, append-nil, length, take, drop, take_at, drop_at, AllByRecursion, flat_map, flat_map-append, IsHigh, IsLow, IsCodePoint, encode, Encodes, HasNoSurrogatePair, MayPrecede, last_or, All, All-append, All-nil}

-- if two joined lists are equal and their first parts have one length, their parts are equal
pub append_same : (a b c d : List ℕ) → a ++ b ≡ c ++ d → length a ≡ length c → (a ≡ c) × (b ≡ d)
append_same a b c d e l = (
  sym (take_at a b (length a) refl) ∙ ap (take (length a)) e ∙ take_at c d (length a) (sym l),
  sym (drop_at a b (length a) refl) ∙ ap (drop (length a)) e ∙ drop_at c d (length a) (sym l),
)

-- what holds of each element of two lists holds of each of both joined
pub all_joined : {X : Type 0} (P : X → Type 0) (xs ys : List X) → AllByRecursion P xs → AllByRecursion P ys → AllByRecursion P (xs ++ ys)
all_joined P [] ys a b = b
all_joined P (x ∷ xs) ys a b = (a.0, all_joined P xs ys a.1 b)

-- paired-free lists joined, where no pair arises
pub paired_joined : (xs ys : List ℕ) → HasNoSurrogatePair xs → HasNoSurrogatePair ys → MayPrecede (last_or 0 xs) ys → HasNoSurrogatePair (xs ++ ys)
paired_joined [] ys f g m = g
paired_joined (x ∷ []) ys f g m = (m, g)
paired_joined (x ∷ y ∷ xs) ys f g m = (f.0, paired_joined (y ∷ xs) ys f.1 g m)

-- the last of two lists
pub last_append : (p : ℕ) (cs ds : List ℕ) → last_or p (cs ++ ds) ≡ last_or (last_or p cs) ds
last_append p [] ds = refl
last_append p (c ∷ cs) ds = last_append c cs ds

-- what two lists of bytes encode, joined
pub encodes_joined : (v w cs ds : List ℕ) → Encodes v cs → Encodes w ds → MayPrecede (last_or 0 cs) ds → Encodes (v ++ w) (cs ++ ds)
encodes_joined v w cs ds s t m = record {
  code_points = all_joined IsCodePoint cs ds s.code_points t.code_points;
  no_pair = paired_joined cs ds s.no_pair t.no_pair m;
  joined = ap (λ z. z ++ w) s.joined ∙ ap (λ z. flat_map encode cs ++ z) t.joined ∙ sym (flat_map-append encode cs ds);
}

pub encodes_one : (c : ℕ) → IsCodePoint c → Encodes (encode c) (c ∷ [])
encodes_one c k = record { code_points = (k, tt); no_pair = (tt, tt); joined = sym (append-nil (encode c)) }

pub encodes_more : (w cs : List ℕ) (c : ℕ) → Encodes w cs → IsCodePoint c → (IsHigh (last_or 0 cs) → IsLow c → ⊥) → Encodes (w ++ encode c) (cs ++ c ∷ [])
encodes_more w cs c s k g = encodes_joined w (encode c) cs (c ∷ []) s (encodes_one c k) g

-- what holds of each element of each piece holds of each element of the pieces joined
pub all_flat_map : (P Q : ℕ → Type 0) (f : ℕ → List ℕ) → ((x : ℕ) → P x → All Q (f x)) → (xs : List ℕ) → AllByRecursion P xs → All Q (flat_map f xs)
all_flat_map P Q f h [] a = All-nil Q
all_flat_map P Q f h (x ∷ xs) a = All-append Q (f x) (flat_map f xs) (h x a.0) (all_flat_map P Q f h xs a.1)
