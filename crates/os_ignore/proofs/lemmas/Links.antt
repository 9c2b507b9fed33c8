-- Files above a path, from the last on.
use Rattle.std.proofs.Common.{◌≡◌, ◌⊎◌, inl, inr, ◌<◌, ◌≤◌, ◌+◌, ℕ, suc, Bool, true, false, cond, List, [], ◌∷◌, ◌++◌, take, drop, get_or, length, refl, sym, ap, ◌∙◌, subst, arith, append_assoc, length-append, take-append-drop}
use Rattle.std.proofs.Math.Logic.{∥∥₁_map, ∥∥₁_elim}
use Rattle.std.proofs.Props.{props}
use Rattle.std.proofs.lemmas.List.{append-nil, same_from_push, take_more}
use Rattle.std.specs.List.{AllByRecursion}
use Rattle.os_ignore.specs.declared.file.File.{File}
use Rattle.os_ignore.specs.Directories.{EndsNoLonger}
use Rattle.os_ignore.specs.Links.{IsAbove, opened, IsMoved, EndsIn, EndsAbove, IsLastIn, IsUpTo, IsLink, AreLinks}
use Rattle.os_ignore.specs.Links as moves
use Rattle.os_ignore.specs.Verdicts.{FileIsSilent, IsBelow}
use Rattle.os_ignore.proofs.lemmas.Rests.{take_front, drop_front}

-- a list is empty, or has a last element
pub data Ends {X : Type 0} (xs : List X) : Type 0 where
  nil : xs ≡ [] → Ends xs
  snoc : (front : List X) (last : X) → xs ≡ front ++ last ∷ [] → Ends xs

pub ends_of : {X : Type 0} (xs : List X) → Ends xs
ends_of [] = nil refl
ends_of (x ∷ xs) = go (ends_of xs)
  where
    go : Ends xs → Ends (x ∷ xs)
    go (nil e) = snoc [] x (ap (λ z. x ∷ z) e)
    go (snoc front last e) = snoc (x ∷ front) last (ap (λ z. x ∷ z) e)

-- of two ways to cut a list, the front that isn't shorter has the other at its start
pub cut_again : {X : Type 0} (xs ys zs ws : List X) → xs ++ ys ≡ zs ++ ws → length xs ≤ length zs → (middle : List X) × ((zs ≡ xs ++ middle) × (ys ≡ middle ++ ws))
cut_again [] ys zs ws e l = (zs, (refl, e))
cut_again (x ∷ xs) ys [] ws e l = absurd (omega arith)
cut_again (x ∷ xs) ys (z ∷ zs) ws e l =
    let first : x ≡ z = cc in
    let rest : xs ++ ys ≡ zs ++ ws = cc in
    let h = cut_again xs ys zs ws rest (omega arith) in
    (h.0, (ap (λ y. y ∷ zs) (sym first) ∙ ap (λ y. x ∷ y) h.1.0, h.1.1))

pub same_cut : {X : Type 0} (xs ys zs ws : List X) → xs ++ ys ≡ zs ++ ws → length xs ≡ length zs → xs ≡ zs
same_cut [] ys [] ws e l = refl
same_cut [] ys (z ∷ zs) ws e l = absurd (omega arith)
same_cut (x ∷ xs) ys [] ws e l = absurd (omega arith)
same_cut (x ∷ xs) ys (z ∷ zs) ws e l =
    let first : x ≡ z = cc in
    let rest : xs ++ ys ≡ zs ++ ws = cc in
    ap (λ y. y ∷ xs) first ∙ ap (λ y. z ∷ y) (same_cut xs ys zs ws rest (omega arith))

module _ {X : Type 0} where
  pub all_both : (P : X → Type 0) (xs ys : List X) → AllByRecursion P xs → AllByRecursion P ys → AllByRecursion P (xs ++ ys)
  all_both P [] ys a b = b
  all_both P (x ∷ xs) ys a b = (a.0, all_both P xs ys a.1 b)

  pub all_after : (P : X → Type 0) (xs ys : List X) → AllByRecursion P (xs ++ ys) → AllByRecursion P ys
  all_after P [] ys a = a
  all_after P (x ∷ xs) ys a = all_after P xs ys a.1

  pub all_before : (P : X → Type 0) (xs ys : List X) → AllByRecursion P (xs ++ ys) → AllByRecursion P xs
  all_before P [] ys a = tt
  all_before P (x ∷ xs) ys a = (a.0, all_before P xs ys a.1)

  pub all_mapped : (P Q : X → Type 0) (xs : List X) → ((x : X) → P x → Q x) → AllByRecursion P xs → AllByRecursion Q xs
  all_mapped P Q [] f a = tt
  all_mapped P Q (x ∷ xs) f a = (f x a.0, all_mapped P Q xs f a.1)

  pub all_paired : (P Q R : X → Type 0) (xs : List X) → ((x : X) → P x → Q x → R x) → AllByRecursion P xs → AllByRecursion Q xs → AllByRecursion R xs
  all_paired P Q R [] f a b = tt
  all_paired P Q R (x ∷ xs) f a b = (f x a.0 b.0, all_paired P Q R xs f a.1 b.1)

-- what is above a path is above it with one more byte
pub above_more : (d p : List ℕ) (b : ℕ) → IsAbove d p → IsAbove d (p ++ b ∷ [])
above_more [] p b h = (p ++ b ∷ [], refl)
above_more (x ∷ d) p b h = (h.0 ++ b ∷ [], ap (λ z. z ++ b ∷ []) h.1 ∙ append_assoc (x ∷ d) (0x2F ∷ h.0) (b ∷ []))

-- and what is above that is above the path, or is the path, and the byte is a slash
pub above_less : (d p : List ℕ) (b : ℕ) → IsAbove d (p ++ b ∷ []) → IsAbove d p ⊎ ((b ≡ 0x2F) × (d ≡ p))
above_less [] p b h = inl (p, refl)
above_less (x ∷ d) p b h = go (ends_of h.0)
  where
    go : Ends h.0 → IsAbove (x ∷ d) p ⊎ ((b ≡ 0x2F) × (x ∷ d ≡ p))
    go (nil e) =
        let same = same_from_push p (x ∷ d) b 0x2F (h.1 ∙ ap (λ z. (x ∷ d) ++ 0x2F ∷ z) e) in
        inr (same.1, sym same.0)
    go (snoc front last e) =
        let same = same_from_push p ((x ∷ d) ++ 0x2F ∷ front) b last (h.1 ∙ ap (λ z. (x ∷ d) ++ 0x2F ∷ z) e ∙ sym (append_assoc (x ∷ d) (0x2F ∷ front) (last ∷ []))) in
        inl (front, same.0)

-- a directory is above a slash behind it
at_slash : (d : List ℕ) → IsAbove d (d ++ 0x2F ∷ [])
at_slash [] = (0x2F ∷ [], refl)
at_slash (x ∷ d) = ([], refl)

-- a directory is above what is in it
pub above_opened : (d : List ℕ) → IsAbove d (opened d)
above_opened [] = ([], refl)
above_opened (x ∷ d) = ([], refl)

-- the rest of a path below a directory
pub whole_rest : (d p : List ℕ) → d ≡ [] → IsBelow d p p
whole_rest d p e = subst (λ z. IsBelow z p p) (sym e) refl

pub cut_size : (d p : List ℕ) → (d ≡ [] → ⊥) → IsAbove d p → length d + 1 ≤ length p
cut_size [] p n h = absurd (n refl)
cut_size (x ∷ d) p n h = let e = ap length h.1 in let k = length-append (x ∷ d) (0x2F ∷ h.0) in omega (arith, e, k)

pub cut_rest : (d p : List ℕ) → (d ≡ [] → ⊥) → IsAbove d p → IsBelow d p (drop (length d + 1) p)
cut_rest [] p n h = absurd (n refl)
cut_rest (x ∷ d) p n h =
    let whole : p ≡ ((x ∷ d) ++ 0x2F ∷ []) ++ h.0 = h.1 ∙ sym (append_assoc (x ∷ d) (0x2F ∷ []) h.0) in
    let size : length ((x ∷ d) ++ 0x2F ∷ []) ≡ length (x ∷ d) + 1 = length-append (x ∷ d) (0x2F ∷ []) in
    let left : drop (length (x ∷ d) + 1) p ≡ h.0 = ap (λ z. drop z p) (sym size) ∙ ap (λ z. drop (length ((x ∷ d) ++ 0x2F ∷ [])) z) whole ∙ drop_front ((x ∷ d) ++ 0x2F ∷ []) h.0 in
    subst (IsBelow (x ∷ d) p) (sym left) h.1

-- a path below a directory begins with what the paths in it begin with
opens : (d p : List ℕ) → IsAbove d p → (rest : List ℕ) × (p ≡ opened d ++ rest)
opens [] p h = (p, refl)
opens (x ∷ d) p h = (h.0, h.1 ∙ sym (append_assoc (x ∷ d) (0x2F ∷ []) h.0))

opens_back : (d p rest : List ℕ) → p ≡ opened d ++ rest → IsAbove d p
opens_back [] p rest e = (p, refl)
opens_back (x ∷ d) p rest e = (rest, e ∙ append_assoc (x ∷ d) (0x2F ∷ []) rest)

opened_length : (d e : List ℕ) → length d ≤ length e → length (opened d) ≤ length (opened e)
opened_length [] e l = omega arith
opened_length (x ∷ d) [] l = absurd (omega arith)
opened_length (x ∷ d) (y ∷ e) l = let a = length-append d (0x2F ∷ []) in let b = length-append e (0x2F ∷ []) in omega (arith, a, b)

-- what is above a directory is above what is below that
pub above_through : (d e p : List ℕ) → IsAbove d (opened e) → IsAbove e p → IsAbove d p
above_through d e p h k =
    let a = opens d (opened e) h in
    let b = opens e p k in
    opens_back d p (a.0 ++ b.0) (b.1 ∙ ap (λ z. z ++ b.0) a.1 ∙ append_assoc (opened d) a.0 b.0)

-- of two directories above a path, the one that isn't longer is above the other, or the same
pub above_shorter : (d e p : List ℕ) → IsAbove d p → IsAbove e p → length d ≤ length e → IsAbove d (opened e)
above_shorter d e p h k l =
    let a = opens d p h in
    let b = opens e p k in
    let c = cut_again (opened d) a.0 (opened e) b.0 (sym a.1 ∙ b.1) (opened_length d e l) in
    opens_back d (opened e) c.0 c.1.0

-- a directory above a longer one is above that without its slash
pub above_longer : (d e : List ℕ) → length d < length e → IsAbove d (opened e) → IsAbove d e
above_longer d [] l h = absurd (omega arith)
above_longer d (y ∷ e) l h = go 0x2F (above_less d (y ∷ e) 0x2F h)
  where
    go : (b : ℕ) → IsAbove d (y ∷ e) ⊎ ((b ≡ 0x2F) × (d ≡ y ∷ e)) → IsAbove d (y ∷ e)
    go b (inl k) = k
    go b (inr k) = let same = ap length k.1 in absurd (omega arith)

pub above_slash : (d e : List ℕ) → IsAbove d e → IsAbove d (opened e)
above_slash d [] h = h
above_slash d (y ∷ e) h = above_more d (y ∷ e) 0x2F h

-- what is merely so of all elements is so of all, where that holds of each
regain_all : {X : Type 0} (P : X → Type 0) (xs : List X) → ((x : X) → ∥ P x ∥₁ → P x) → ∥ AllByRecursion P xs ∥₁ → AllByRecursion P xs
regain_all P [] f m = tt
regain_all P (x ∷ xs) f m = (f x (∥∥₁_map m (λ (h : AllByRecursion P (x ∷ xs)). h.0)), regain_all P xs f (∥∥₁_map m (λ (h : AllByRecursion P (x ∷ xs)). h.1)))

regain_not : {T : Type 0} → ∥ (T → ⊥) ∥₁ → T → ⊥
regain_not {T} m t = ∥∥₁_elim m (Prim.hlevel props) (λ (n : T → ⊥). n t)

regain_above : (d p : List ℕ) → ∥ IsAbove d p ∥₁ → IsAbove d p
regain_above d p m = opens_back d p (drop (length (opened d)) p) (∥∥₁_elim m (Prim.hlevel props) (λ (h : IsAbove d p). split h))
  where
    split : IsAbove d p → p ≡ opened d ++ drop (length (opened d)) p
    split h =
        let k = opens d p h in
        let left : drop (length (opened d)) p ≡ k.0 = ap (drop (length (opened d))) k.1 ∙ drop_front (opened d) k.0 in
        k.1 ∙ ap (λ z. opened d ++ z) (sym left)

pub chosen : {X : Type 0} (b : Bool) (x y z : X) → b ≡ true → x ≡ cond b y z → x ≡ y
chosen true x y z e f = f
chosen false x y z e f = let never : false ≡ true = e in absurd cc

module _ {A : Type 0} where
  abbrev IsShort : List ℕ → File A → Type 0
  IsShort directory other = length other.directory.items ≤ length directory

  abbrev IsApart : List ℕ → File A → Type 0
  IsApart path file = IsAbove file.directory.items path → ⊥

  -- at the top the files are those in the empty directory
  pub up_to_top : (files : List (File A)) (count : ℕ) → IsLastIn [] files 0 count → IsUpTo [] files count
  up_to_top files count h = record {
    before = h.before;
    after = h.after;
    joined = h.joined;
    count_is = h.count_is;
    none_after = all_mapped (λ file. file.directory.items ≡ [] → ⊥) (IsApart []) h.after (λ file n k. n (top file.directory.items k)) h.none_after;
    ends = λ front last e. go front last e h.ends;
  }
    where
      top : (d : List ℕ) → IsAbove d [] → d ≡ []
      top [] k = refl
      top (x ∷ d) k = let never : [] ≡ x ∷ (d ++ 0x2F ∷ k.0) = k.1 in absurd cc

      go : (front : List (File A)) (last : File A) → h.before ≡ front ++ last ∷ [] → (count ≡ 0) ⊎ EndsIn [] h.before → IsAbove last.directory.items []
      go front last e (inl z) = let n = ap length e in let m = length-append front (last ∷ []) in let k = h.count_is in absurd (omega (arith, n, m, k, z))
      go front last e (inr k) = subst (λ z. IsAbove z []) (sym (k front last e)) ([], refl)

  -- a byte that is no slash changes nothing
  pub up_to_byte : (files : List (File A)) (path : List ℕ) (b count : ℕ) → (b ≡ 0x2F → ⊥) → IsUpTo path files count → IsUpTo (path ++ b ∷ []) files count
  up_to_byte files path b count n h = record {
    before = h.before;
    after = h.after;
    joined = h.joined;
    count_is = h.count_is;
    none_after = all_mapped (IsApart path) (IsApart (path ++ b ∷ [])) h.after (λ file k a. apart file.directory.items k (above_less file.directory.items path b a)) h.none_after;
    ends = λ front last e. above_more last.directory.items path b (h.ends front last e);
  }
    where
      apart : (d : List ℕ) → (IsAbove d path → ⊥) → IsAbove d path ⊎ ((b ≡ 0x2F) × (d ≡ path)) → ⊥
      apart d k (inl a) = k a
      apart d k (inr a) = n a.0

  -- the files of a directory come after those above it
  module _ (files : List (File A)) (path next : List ℕ) (low count : ℕ) (more : (d : List ℕ) → IsAbove d path → IsAbove d next) (less : (d : List ℕ) → IsAbove d next → IsAbove d path ⊎ (d ≡ path)) (own : IsAbove path next) where
    up_to_next : IsUpTo path files low → IsLastIn path files low count → IsUpTo next files count
    up_to_next h k = record {
      before = k.before;
      after = k.after;
      joined = k.joined;
      count_is = k.count_is;
      none_after = all_paired (IsApart path) (λ file. file.directory.items ≡ path → ⊥) (IsApart next) k.after (λ file a b m. apart file.directory.items a b (less file.directory.items m)) (all_after (IsApart path) cut.0 k.after (subst (AllByRecursion (IsApart path)) cut.1.1 h.none_after)) k.none_after;
      ends = λ front last e. end front last e k.ends;
    }
      where
        lengths : length h.before ≤ length k.before
        lengths = let a = h.count_is in let b = k.count_is in let c = k.from in omega arith

        cut : (middle : List (File A)) × ((k.before ≡ h.before ++ middle) × (h.after ≡ middle ++ k.after))
        cut = cut_again h.before h.after k.before k.after (sym h.joined ∙ k.joined) lengths

        apart : (d : List ℕ) → (IsAbove d path → ⊥) → (d ≡ path → ⊥) → IsAbove d path ⊎ (d ≡ path) → ⊥
        apart d a b (inl m) = a m
        apart d a b (inr m) = b m

        end : (front : List (File A)) (last : File A) → k.before ≡ front ++ last ∷ [] → (count ≡ low) ⊎ EndsIn path k.before → IsAbove last.directory.items next
        end front last e (inl same) =
            let sizes : length h.before ≡ length k.before = h.count_is ∙ sym same ∙ sym k.count_is in
            let whole = same_cut h.before h.after k.before k.after (sym h.joined ∙ k.joined) sizes in
            more last.directory.items (h.ends front last (whole ∙ e))
        end front last e (inr in_it) = subst (λ z. IsAbove z next) (sym (in_it front last e)) own

  -- a slash ends a directory
  pub up_to_slash : (files : List (File A)) (path : List ℕ) (low count : ℕ) → IsUpTo path files low → IsLastIn path files low count → IsUpTo (path ++ 0x2F ∷ []) files count
  up_to_slash files path low count h k = up_to_next files path (path ++ 0x2F ∷ []) low count (λ d. above_more d path 0x2F) (λ d a. less d 0x2F (above_less d path 0x2F a)) (at_slash path) h k
    where
      less : (d : List ℕ) (b : ℕ) → IsAbove d path ⊎ ((b ≡ 0x2F) × (d ≡ path)) → IsAbove d path ⊎ (d ≡ path)
      less d b (inl a) = inl a
      less d b (inr a) = inr a.1

  pub up_to_opened : (files : List (File A)) (path : List ℕ) (low count : ℕ) → IsUpTo path files low → IsLastIn path files low count → IsUpTo (opened path) files count
  up_to_opened files [] low count h k = up_to_next files [] [] low count (λ d a. a) (λ d a. inl a) ([], refl) h k
  up_to_opened files (x ∷ path) low count h k = up_to_slash files (x ∷ path) low count h k

  -- there are as many links as files
  pub links_length : (front files : List (File A)) (links : List ℕ) → AreLinks front files links → length files ≡ length links
  links_length front [] [] h = refl
  links_length front [] (link ∷ links) h = absurd h
  links_length front (file ∷ files) [] h = absurd h
  links_length front (file ∷ files) (link ∷ links) h = ap suc (links_length (front ++ file ∷ []) files links h.1)

  -- files have their links, and so have those after them
  pub links_of_front : (front xs ys : List (File A)) (links : List ℕ) → AreLinks front (xs ++ ys) links → AreLinks front xs (take (length xs) links) × AreLinks (front ++ xs) ys (drop (length xs) links)
  links_of_front front [] ys links h = (tt, subst (λ z. AreLinks z ys links) (sym (append-nil front)) h)
  links_of_front front (x ∷ xs) ys [] h = absurd h
  links_of_front front (x ∷ xs) ys (link ∷ links) h =
      let k = links_of_front (front ++ x ∷ []) xs ys links h.1 in
      ((h.0, k.0), subst (λ z. AreLinks z ys (drop (length xs) links)) (append_assoc front (x ∷ []) xs) k.1)

  pub links_joined : (front xs ys : List (File A)) (links more : List ℕ) → AreLinks front xs links → AreLinks (front ++ xs) ys more → AreLinks front (xs ++ ys) (links ++ more)
  links_joined front [] ys [] more h k = subst (λ z. AreLinks z ys more) (append-nil front) k
  links_joined front [] ys (link ∷ links) more h k = absurd h
  links_joined front (x ∷ xs) ys [] more h k = absurd h
  links_joined front (x ∷ xs) ys (link ∷ links) more h k =
      (h.0, links_joined (front ++ x ∷ []) xs ys links more h.1 (subst (λ z. AreLinks z ys more) (sym (append_assoc front (x ∷ []) xs)) k))

  pub links_pushed : (front xs : List (File A)) (file : File A) (links : List ℕ) (link : ℕ) → AreLinks front xs links → IsLink (front ++ xs) file link → AreLinks front (xs ++ file ∷ []) (links ++ link ∷ [])
  links_pushed front xs file links link h k = links_joined front xs (file ∷ []) links (link ∷ []) h (k, tt)

  -- the link of a file that others follow
  pub link_at : (front before : List (File A)) (file : File A) (after : List (File A)) (links : List ℕ) → AreLinks front (before ++ file ∷ after) links → IsLink (front ++ before) file (get_or links (length before) 0)
  link_at front [] file after [] h = absurd h
  link_at front [] file after (link ∷ links) h = subst (λ z. IsLink z file link) (sym (append-nil front)) h.0
  link_at front (x ∷ before) file after [] h = absurd h
  link_at front (x ∷ before) file after (link ∷ links) h =
      subst (λ z. IsLink z file (get_or links (length before) 0)) (append_assoc front (x ∷ []) before) (link_at (front ++ x ∷ []) before file after links h.1)

  pub link_within : (front : List (File A)) (file : File A) (link : ℕ) → IsLink front file link → link ≤ length front
  link_within front file link h =
      let parts = length-append h.up_to.before h.up_to.after in
      let whole = ap length h.up_to.joined in
      let count = h.up_to.count_is in
      omega (arith, parts, whole, count)

  -- the files between a file's link and it are silent on a path below its directory
  pub skipped : (path : List ℕ) (is_dir : Bool) (front : List (File A)) (file : File A) (link : ℕ) → IsLink front file link → IsAbove file.directory.items path
      → (between : List (File A)) × ((front ≡ take link front ++ between) × (AllByRecursion (FileIsSilent path is_dir) between × EndsAbove path (take link front)))
  skipped path is_dir front file link h a = (h.up_to.after, (h.up_to.joined ∙ ap (λ z. z ++ h.up_to.after) (sym kept), (silent, subst (EndsAbove path) (sym kept) ends)))
    where
      kept : take link front ≡ h.up_to.before
      kept = ap (λ z. take link z) h.up_to.joined ∙ ap (λ z. take z (h.up_to.before ++ h.up_to.after)) (sym h.up_to.count_is) ∙ take_front h.up_to.before h.up_to.after

      ends : EndsAbove path h.up_to.before
      ends = λ f last e. above_through last.directory.items file.directory.items path (h.up_to.ends f last e) a

      silent : AllByRecursion (FileIsSilent path is_dir) h.up_to.after
      silent = all_paired (IsApart (opened file.directory.items)) (IsShort file.directory.items) (FileIsSilent path is_dir) h.up_to.after (λ other n l rest b. absurd (n (above_shorter other.directory.items file.directory.items path (rest, b) a l))) h.up_to.none_after (all_after (IsShort file.directory.items) h.up_to.before h.up_to.after (subst (AllByRecursion (IsShort file.directory.items)) h.up_to.joined h.no_longer))

  -- none of the files before a place is in a longer directory
  pub none_longer : (directory : List ℕ) (before after : List (File A)) (links : List ℕ) → AreLinks [] (before ++ after) links → EndsNoLonger directory before → AllByRecursion (IsShort directory) before
  none_longer directory before after links h n = go (ends_of before)
    where
      go : Ends before → AllByRecursion (IsShort directory) before
      go (nil e) = subst (AllByRecursion (IsShort directory)) (sym e) tt
      go (snoc front last e) =
          let short : length last.directory.items ≤ length directory = n front last e in
          let link = link_at [] front last after links (subst (λ z. AreLinks [] z links) (ap (λ z. z ++ after) e ∙ append_assoc front (last ∷ []) after) h) in
          subst (AllByRecursion (IsShort directory)) (sym e)
          (all_both (IsShort directory) front (last ∷ []) (all_mapped (IsShort last.directory.items) (IsShort directory) front (λ other l. omega arith) link.no_longer) (short, tt))

  -- the link of a file in a longer directory, once another is added before it
  module _ (directory : List ℕ) (before done : List (File A)) (file : File A) (link moved : ℕ) (added : File A) (same : added.directory.items ≡ directory) (longer : length directory < length file.directory.items) where
    abbrev next : List ℕ
    next = opened file.directory.items

    pub link_moved : IsLink (before ++ done) file link → IsMoved (length before) directory file.directory.items link moved → IsLink ((before ++ added ∷ []) ++ done) file moved
    link_moved h m = record { up_to = go m; no_longer = all_both (IsShort file.directory.items) (before ++ added ∷ []) done (all_both (IsShort file.directory.items) before (added ∷ []) (all_before (IsShort file.directory.items) before done h.no_longer) (short, tt)) (all_after (IsShort file.directory.items) before done h.no_longer) }
      where
        short : length added.directory.items ≤ length file.directory.items
        short = let e = ap length same in omega arith

        go : IsMoved (length before) directory file.directory.items link moved → IsUpTo next ((before ++ added ∷ []) ++ done) moved
        go (moves.behind l e) =
            let cut = cut_again before done h.up_to.before h.up_to.after h.up_to.joined (let k = h.up_to.count_is in omega arith) in record {
              before = (before ++ added ∷ []) ++ cut.0;
              after = h.up_to.after;
              joined = ap (λ z. (before ++ added ∷ []) ++ z) cut.1.1 ∙ sym (append_assoc (before ++ added ∷ []) cut.0 h.up_to.after);
              count_is = let a = length-append (before ++ added ∷ []) cut.0 in let b = length-append before (added ∷ []) in let c = ap length cut.1.0 in let d = length-append before cut.0 in let k = h.up_to.count_is in omega (arith, a, b, c, d, k);
              none_after = h.up_to.none_after;
              ends = λ front last f. end cut.0 cut.1.0 front last f (ends_of cut.0);
            }
          where
            end : (middle : List (File A)) → h.up_to.before ≡ before ++ middle → (front : List (File A)) (last : File A) → (before ++ added ∷ []) ++ middle ≡ front ++ last ∷ [] → Ends middle → IsAbove last.directory.items next
            end middle g front last f (nil n) = let a = ap length g in let b = length-append before middle in let c = ap length n in let k = h.up_to.count_is in absurd (omega (arith, a, b, c, k))
            end middle g front last f (snoc m y n) =
                let at_end = same_from_push ((before ++ added ∷ []) ++ m) front y last (append_assoc (before ++ added ∷ []) m (y ∷ []) ∙ ap (λ z. (before ++ added ∷ []) ++ z) (sym n) ∙ f) in
                subst (λ z. IsAbove z.directory.items next) at_end.1 (h.up_to.ends (before ++ m) y (g ∙ ap (λ z. before ++ z) n ∙ sym (append_assoc before m (y ∷ []))))
        go (moves.added l a e) =
            let cut = cut_again h.up_to.before h.up_to.after before done (sym h.up_to.joined) (let k = h.up_to.count_is in omega arith) in record {
              before = before ++ added ∷ [];
              after = done;
              joined = refl;
              count_is = let b = length-append before (added ∷ []) in omega (arith, b);
              none_after = all_after (IsApart next) cut.0 done (subst (AllByRecursion (IsApart next)) cut.1.1 h.up_to.none_after);
              ends = λ front last f.
                  let at_end = same_from_push before front added last f in
                  subst (λ z. IsAbove z next) (sym same ∙ ap (λ z. z.directory.items) at_end.1) (above_slash directory file.directory.items a);
            }
        go (moves.apart l a e) =
            let cut = cut_again h.up_to.before h.up_to.after before done (sym h.up_to.joined) (let k = h.up_to.count_is in omega arith) in
            let rest = subst (AllByRecursion (IsApart next)) cut.1.1 h.up_to.none_after in record {
              before = h.up_to.before;
              after = cut.0 ++ added ∷ done;
              joined = ap (λ z. (z ++ added ∷ []) ++ done) cut.1.0 ∙ append_assoc (h.up_to.before ++ cut.0) (added ∷ []) done ∙ append_assoc h.up_to.before cut.0 (added ∷ done);
              count_is = h.up_to.count_is ∙ sym e;
              none_after = all_both (IsApart next) cut.0 (added ∷ done) (all_before (IsApart next) cut.0 done rest) (λ b. a (above_longer directory file.directory.items longer (subst (λ z. IsAbove z next) same b)), all_after (IsApart next) cut.0 done rest);
              ends = h.up_to.ends;
            }

  pub up_to_within : (path : List ℕ) (files : List (File A)) (count : ℕ) → IsUpTo path files count → count ≤ length files
  up_to_within path files count h =
      let parts = length-append h.before h.after in
      let whole = ap length h.joined in
      let is = h.count_is in
      omega (arith, parts, whole, is)

  -- one byte further along a path
  module _ (files : List (File A)) (path : List ℕ) (at count : ℕ) (l : at < length path) (h : IsUpTo (take at path) files count) where
    pub up_to_more : (get_or path at 0 ≡ 0x2F → ⊥) → IsUpTo (take (at + 1) path) files count
    up_to_more n = subst (λ z. IsUpTo z files count) (sym (take_more path at 0 l)) (up_to_byte files (take at path) (get_or path at 0) count n h)

    pub up_to_in : (more : ℕ) → get_or path at 0 ≡ 0x2F → IsLastIn (take at path) files count more → IsUpTo (take (at + 1) path) files more
    up_to_in more e k = subst (λ z. IsUpTo z files more) (sym (take_more path at 0 l ∙ ap (λ z. take at path ++ z ∷ []) e)) (up_to_slash files (take at path) count more h k)

  -- what is left to try of the files, and the others are silent
  pub record IsLeft (path : List ℕ) (is_dir : Bool) (files left : List (File A)) : Type 0 where
    pub after : List (File A)
    pub joined : files ≡ left ++ after
    pub silent : AllByRecursion (FileIsSilent path is_dir) after
    pub ends : EndsAbove path left

  pub left_first : (path : List ℕ) (is_dir : Bool) (files : List (File A)) (count : ℕ) → IsUpTo path files count → (left : List (File A)) → left ≡ take count files → IsLeft path is_dir files left
  left_first path is_dir files count h left e =
      let start : left ≡ h.before = e ∙ ap (take count) h.joined ∙ ap (λ z. take z (h.before ++ h.after)) (sym h.count_is) ∙ take_front h.before h.after in record {
        after = h.after;
        joined = h.joined ∙ ap (λ z. z ++ h.after) (sym start);
        silent = all_mapped (IsApart path) (FileIsSilent path is_dir) h.after (λ file n rest b. absurd (n (rest, b))) h.none_after;
        ends = subst (EndsAbove path) (sym start) h.ends;
      }

  module _ (path : List ℕ) (is_dir : Bool) (files : List (File A)) (links : List ℕ) (linked : AreLinks [] files links) (before : List (File A)) (file : File A) (after : List (File A)) (joined : files ≡ (before ++ file ∷ []) ++ after) where
    pub link_of : IsLink before file (get_or links (length before) 0)
    link_of = link_at [] before file after links (subst (λ z. AreLinks [] z links) (joined ∙ append_assoc before (file ∷ []) after) linked)

    pub link_there : length before < length links
    link_there =
        let all = links_length [] files links linked in
        let whole = ap length joined in
        let parts = length-append (before ++ file ∷ []) after in
        let front = length-append before (file ∷ []) in
        omega (arith, all, whole, parts, front)

    pub left_further : IsAbove file.directory.items path → FileIsSilent path is_dir file → AllByRecursion (FileIsSilent path is_dir) after → (left : List (File A)) → left ≡ take (get_or links (length before) 0) before → IsLeft path is_dir files left
    left_further a s h left e =
        let k = skipped path is_dir before file (get_or links (length before) 0) link_of a in record {
          after = k.0 ++ file ∷ after;
          joined = joined ∙ append_assoc before (file ∷ []) after ∙ ap (λ z. z ++ file ∷ after) k.1.0 ∙ append_assoc (take (get_or links (length before) 0) before) k.0 (file ∷ after) ∙ ap (λ z. z ++ (k.0 ++ file ∷ after)) (sym e);
          silent = all_both (FileIsSilent path is_dir) k.0 (file ∷ after) k.1.1.0 (s, h);
          ends = subst (EndsAbove path) (sym e) k.1.1.1;
        }

  -- links that are merely there are there
  pub regain_up_to : (path : List ℕ) (files : List (File A)) (count : ℕ) → ∥ IsUpTo path files count ∥₁ → IsUpTo path files count
  regain_up_to path files count m = record {
    before = take count files;
    after = drop count files;
    joined = sym (take-append-drop count files);
    count_is = ∥∥₁_elim m (Prim.hlevel props) (λ (h : IsUpTo path files count). ap length (front h) ∙ h.count_is);
    none_after = regain_all (IsApart path) (drop count files) (λ file. regain_not) (∥∥₁_map m (λ (h : IsUpTo path files count). subst (AllByRecursion (IsApart path)) (sym (back h)) h.none_after));
    ends = λ f last e. regain_above last.directory.items path (∥∥₁_map m (λ (h : IsUpTo path files count). h.ends f last (sym (front h) ∙ e)));
  }
    where
      front : (h : IsUpTo path files count) → take count files ≡ h.before
      front h = ap (take count) h.joined ∙ ap (λ z. take z (h.before ++ h.after)) (sym h.count_is) ∙ take_front h.before h.after

      back : (h : IsUpTo path files count) → drop count files ≡ h.after
      back h = ap (drop count) h.joined ∙ ap (λ z. drop z (h.before ++ h.after)) (sym h.count_is) ∙ drop_front h.before h.after

  regain_short : (directory : List ℕ) (other : File A) → ∥ IsShort directory other ∥₁ → IsShort directory other
  regain_short directory other m = ∥∥₁_elim m (Prim.hlevel props) (λ (h : IsShort directory other). h)

  pub regain_links : (front files : List (File A)) (links : List ℕ) → ∥ AreLinks front files links ∥₁ → AreLinks front files links
  regain_links front [] [] m = tt
  regain_links front [] (link ∷ links) m = ∥∥₁_elim m (Prim.hlevel props) (λ (h : ⊥). h)
  regain_links front (file ∷ files) [] m = ∥∥₁_elim m (Prim.hlevel props) (λ (h : ⊥). h)
  regain_links front (file ∷ files) (link ∷ links) m = (
    record {
      up_to = regain_up_to (opened file.directory.items) front link (∥∥₁_map m (λ (h : AreLinks front (file ∷ files) (link ∷ links)). h.0.up_to));
      no_longer = regain_all (IsShort file.directory.items) front (regain_short file.directory.items) (∥∥₁_map m (λ (h : AreLinks front (file ∷ files) (link ∷ links)). h.0.no_longer));
    },
    regain_links (front ++ file ∷ []) files links (∥∥₁_map m (λ (h : AreLinks front (file ∷ files) (link ∷ links)). h.1)),
  )

  -- the files with one more, and their links
  pub linked_with : (files before after : List (File A)) (file : File A) (links moved : List ℕ) (link : ℕ) → files ≡ before ++ after → ∥ AreLinks [] files links ∥₁ → EndsNoLonger file.directory.items before → IsUpTo (opened file.directory.items) before link
      → AreLinks (before ++ file ∷ []) after moved → AreLinks [] (before ++ file ∷ after) ((take (length before) links ++ link ∷ []) ++ moved)
  linked_with files before after file links moved link joined m n u k =
      let old : AreLinks [] (before ++ after) links = subst (λ z. AreLinks [] z links) joined (regain_links [] files links m) in
      let parts = links_of_front [] before after links old in
      let own : IsLink before file link = record { up_to = u; no_longer = none_longer file.directory.items before after links old n } in
      subst (λ z. AreLinks [] z ((take (length before) links ++ link ∷ []) ++ moved)) (append_assoc before (file ∷ []) after)
      (links_joined [] (before ++ file ∷ []) after (take (length before) links ++ link ∷ []) moved (links_pushed [] before file (take (length before) links) link parts.0 own) k)

  pub links_after : (files before after : List (File A)) (links : List ℕ) → files ≡ before ++ after → ∥ AreLinks [] files links ∥₁ → AreLinks before after (drop (length before) links)
  links_after files before after links joined m = (links_of_front [] before after links (subst (λ z. AreLinks [] z links) joined (regain_links [] files links m))).1
