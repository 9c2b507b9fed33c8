-- Which directories are those of a tree.
use Rattle.std.proofs.Common.{◌≡◌, ◌↔◌, ℕ, Bool, true, false, not, IsTrue, List, [], ◌∷◌, ◌++◌, inl, inr, refl, sym, ap, ◌∙◌, subst, append_assoc}
use Rattle.std.proofs.lemmas.Bool.{false≢true}
use Rattle.std.specs.List.{AllByRecursion}
use Rattle.list_programs.proofs.lemmas.Items.{has_end}
use Rattle.list_programs.specs.Items.{IsCutAt, Lacks}
use Rattle.list_programs.specs.Arguments.{AreValues, HasValue}
use Rattle.list_programs.specs.declared.arguments.Given.{Given}
use Rattle.list_programs.specs.declared.arguments.Given.TheVariants.{Operand, Flag, Valued}
use Rattle.names_commands.specs.Command.{Line}
use Rattle.names_commands.specs.Ignoring.{IsInside, IsNoName, IsPath, IsPlaced, LeadsDown, without_dot}
use Rattle.names_commands.specs.declared.option.NamesOption.{NamesOption}
use Rattle.names_commands.proofs.lemmas.Decided.{within}
use Rattle.names_commands.proofs.lemmas.Ignored.{one_path}
use Rattle.names_commands.proofs.lemmas.PatternFiles.{one_piece, pieces_cut}

-- a path leads down where its first component is a name and the rest does
pub leads_on : (path first rest : List ℕ) → IsCutAt 0x2F path first rest → ¬ (IsNoName first) → LeadsDown path ↔ LeadsDown rest
leads_on path first rest c named = (
  λ l. (subst (AllByRecursion (λ component. ¬ (IsNoName component))) (pieces_cut 0x2F path first rest c) l).1,
  λ l. subst (AllByRecursion (λ component. ¬ (IsNoName component))) (sym (pieces_cut 0x2F path first rest c)) (named, l),
)

pub leads_nowhere : (path first rest : List ℕ) → IsCutAt 0x2F path first rest → IsNoName first → ¬ (LeadsDown path)
leads_nowhere path first rest c k l = (subst (AllByRecursion (λ component. ¬ (IsNoName component))) (pieces_cut 0x2F path first rest c) l).0 k

-- the last component is left
pub last_leads : (path : List ℕ) → Lacks 0x2F path → LeadsDown path ↔ (¬ (IsNoName path))
last_leads path l = (
  λ d. (subst (AllByRecursion (λ component. ¬ (IsNoName component))) (one_piece 0x2F path l) d).0,
  λ n. subst (AllByRecursion (λ component. ¬ (IsNoName component))) (sym (one_piece 0x2F path l)) (n, tt),
)

pub not_so : (b : Bool) {P Q : Type 0} → (IsTrue b ↔ P) → (Q ↔ (¬ P)) → (IsTrue (not b) ↔ Q)
not_so true e q = (λ t. absurd (false≢true t), λ x. absurd (q.0 x (e.0 refl)))
not_so false e q = (λ t. q.1 (λ p. false≢true (e.1 p)), λ x. refl)

-- the one path that a word is leads down, or none does
pub inside_where : (word path : List ℕ) (is_dir : Bool) → IsPath (without_dot word) path is_dir → IsInside word → ¬ (without_dot word ≡ []) → LeadsDown path
inside_where word path is_dir is (inl none) some = absurd (some none)
inside_where word path is_dir is (inr k) some = subst LeadsDown (one_path (without_dot word) k.0 path k.1 is_dir k.2.0 is).0 k.2.1

-- bytes are cut at one place
head_is : {x y : ℕ} {xs ys : List ℕ} → x ∷ xs ≡ y ∷ ys → x ≡ y
head_is e = cc

tail_is : {x y : ℕ} {xs ys : List ℕ} → x ∷ xs ≡ y ∷ ys → xs ≡ ys
tail_is e = cc

one_prefix : (end : ℕ) (prefix other after rest : List ℕ) → Lacks end prefix → Lacks end other → prefix ++ end ∷ after ≡ other ++ end ∷ rest → prefix ≡ other
one_prefix end [] [] after rest l k e = refl
one_prefix end [] (b ∷ other) after rest l k e = absurd (k.0 (sym (head_is e)))
one_prefix end (a ∷ prefix) [] after rest l k e = absurd (l.0 (head_is e))
one_prefix end (a ∷ prefix) (b ∷ other) after rest l k e = ap (λ x. x ∷ prefix) (head_is e) ∙ ap (λ x. b ∷ x) (one_prefix end prefix other after rest l.1 k.1 (tail_is e))

pub placed_by : (value word name : List ℕ) → IsCutAt 0x3D value word name → IsInside word ↔ IsPlaced value
placed_by value word name c = (
  λ inside other rest d. subst IsInside (one_prefix 0x3D word other name rest c.whole d.whole (sym c.joined ∙ d.joined)) inside,
  λ placed. placed word name c,
)

-- a value without `=` states a file at the top
pub placed_whole : (value : List ℕ) → Lacks 0x3D value → IsPlaced value
placed_whole value lacks word name cut = absurd (has_end 0x3D value word name cut lacks)

-- an option has one list of values
module _ (it : NamesOption) where
  one_value : (one : Given NamesOption) (a b : List ℕ) → HasValue it one a → HasValue it one b → a ≡ b
  one_value (Operand word) a b h k = absurd h
  one_value (Flag other) a b h k = absurd h
  one_value (Valued other value) a b h k = sym h.1 ∙ k.1

  one_list : (given : Line) (a b : List (List ℕ)) → AreValues it given a → AreValues it given b → a ≡ b
  one_list [] a b h k = h ∙ sym k
  one_list (one ∷ given) a b (inl h) (inl k) = h.2.1.1 ∙ ap (λ x. x ∷ h.1) (one_value one h.0 k.0 h.2.0 k.2.0) ∙ ap (λ x. k.0 ∷ x) (one_list given h.1 k.1 h.2.1.0 k.2.1.0) ∙ sym k.2.1.1
  one_list (one ∷ given) a b (inl h) (inr k) = absurd (k.0 h.0 h.2.0)
  one_list (one ∷ given) a b (inr h) (inl k) = absurd (h.0 k.0 k.2.0)
  one_list (one ∷ given) a b (inr h) (inr k) = one_list given a b h.1 k.1

  -- so what is so of all is so of one
  pub value_in : (P : List ℕ → Type 0) (given : Line) (values before after : List (List ℕ)) (value : List ℕ) → AreValues it given values → AllByRecursion P values → AreValues it given (before ++ value ∷ after) → P value
  value_in P given values before after value are all has = within P before value after (subst (AllByRecursion P) (one_list given values (before ++ value ∷ after) are has) all)

-- these of the values come before those that are left, and all of them are placed
pub record PassesPlaced (values left : List (List ℕ)) : Type 0 where
  pub before : List (List ℕ)
  pub joined : values ≡ before ++ left
  pub placed : AllByRecursion IsPlaced left → AllByRecursion IsPlaced values

pub none_passed : (values : List (List ℕ)) → PassesPlaced values values
none_passed values = record { before = []; joined = refl; placed = λ all. all }

pub one_passed : (values left : List (List ℕ)) (value : List ℕ) → PassesPlaced values (value ∷ left) → IsPlaced value → PassesPlaced values left
one_passed values left value p placed = record {
  before = p.before ++ value ∷ [];
  joined = p.joined ∙ sym (append_assoc p.before (value ∷ []) left);
  placed = λ all. p.placed (placed, all);
}
