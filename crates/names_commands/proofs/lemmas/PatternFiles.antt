-- The lines of a file, one after the other, and files that are read one after the other.
use Rattle.std.proofs.Common.{◌≡◌, ◌+◌, ◌≤◌, inl, inr, ℕ, cond, false, List, [], ◌∷◌, ◌++◌, map, length, refl, sym, ap, ◌∙◌, subst, append_assoc, append-nil, arith}
use Rattle.std.proofs.lemmas.Bool.{eq-eqb, ne_eqb}
use Rattle.std.proofs.lemmas.List.{length-append}
use Rattle.std.proofs.lemmas.List.Elements.{All-from_recursion}
use Rattle.std.proofs.lemmas.List.Splits.{slice_split_at, slice_split_none}
use Rattle.std.specs.List.{AllByRecursion}
use Rattle.std.specs.Prelude.{nat_eq}
use Rattle.os_ignore.specs.Components.{pieces}
use Rattle.os_ignore.specs.Files.{IsWithoutReturn}
use Rattle.os_str_bytes.specs.EncodingError.{EncodingError}
use Rattle.os_str_bytes.specs.Platform.{Ghosts}
use Rattle.program_frame.specs.Files.{KnownFiles}
use Rattle.list_programs.specs.Items.{IsCutAt, Lacks}
use Rattle.names_commands.specs.PatternFiles.{ArePatternsIn, ArePatternsOf, IsFirstNoString, IsUnreadOf, IsUnreadOne, PatternLine, line_text, numbered, text_of, without_return}
use Rattle.names_commands.specs.declared.fault.CommandFault.{CommandFault}

-- a line without the carriage return at its end
one_less : (front : List ℕ) → without_return (front ++ 0x0D ∷ []) ≡ front
one_less [] = refl
one_less (b ∷ []) = refl
one_less (b ∷ c ∷ front) = ap (λ l. b ∷ l) (one_less (c ∷ front))

as_it_is : (line : List ℕ) → ((front : List ℕ) → line ≡ front ++ 0x0D ∷ [] → ⊥) → without_return line ≡ line
as_it_is [] n = refl
as_it_is (b ∷ []) n = ap (λ t. cond t [] (b ∷ [])) (ne_eqb b 0x0D (λ e. n [] (ap (λ x. x ∷ []) e)))
as_it_is (b ∷ c ∷ line) n = ap (λ l. b ∷ l) (as_it_is (c ∷ line) (λ front e. n (b ∷ front) (ap (λ l. b ∷ l) e)))

pub stripped : (line rest : List ℕ) → IsWithoutReturn line rest → rest ≡ without_return line
stripped line rest (inl e) = sym (ap without_return e ∙ one_less rest)
stripped line rest (inr k) = k.0 ∙ sym (as_it_is line k.1)

-- a list up to its first end, and what comes after it
lacks_all : (end : ℕ) (s : List ℕ) → Lacks end s → AllByRecursion (λ b. nat_eq b end ≡ false) s
lacks_all end [] l = tt
lacks_all end (b ∷ s) l = (ne_eqb b end l.0, lacks_all end s l.1)

pub pieces_cut : (end : ℕ) (bytes first rest : List ℕ) → IsCutAt end bytes first rest → pieces end bytes ≡ first ∷ pieces end rest
pieces_cut end bytes first rest c = ap (pieces end) c.joined ∙ slice_split_at (λ b. nat_eq b end) first end rest (All-from_recursion (λ b. nat_eq b end ≡ false) first (lacks_all end first c.whole)) (eq-eqb end end refl)

pub one_piece : (end : ℕ) (bytes : List ℕ) → Lacks end bytes → pieces end bytes ≡ bytes ∷ []
one_piece end bytes l = slice_split_none (λ b. nat_eq b end) bytes (All-from_recursion (λ b. nat_eq b end ≡ false) bytes (lacks_all end bytes l))

pub shorter : (end : ℕ) (bytes first rest : List ℕ) → IsCutAt end bytes first rest → length rest + 1 ≤ length bytes
shorter end bytes first rest c =
    let all = ap length c.joined ∙ length-append first (end ∷ rest) in
    omega (arith, all)

-- a text is numbered, and then those after it
numbered_cons : (file line : ℕ) (text : List ℕ) (texts : List (List ℕ)) → numbered file line (text ∷ texts) ≡ numbered file line (text ∷ []) ++ numbered file (line + 1) texts
numbered_cons file line [] texts = refl
numbered_cons file line (b ∷ text) texts = refl

module _ (file end : ℕ) (content : List ℕ) (old : List PatternLine) where
  -- the patterns of the lines so far are appended, and these are left
  pub record AreAppended (line : ℕ) (left : List ℕ) (patterns : List PatternLine) : Type 0 where
    pub all : patterns ++ numbered file line (map (line_text end) (pieces end left)) ≡ old ++ numbered file 1 (map (line_text end) (pieces end content))
    pub few : line + length left ≤ length content + 1

  pub none_appended : AreAppended 1 content old
  none_appended = record { all = refl; few = omega arith }

  pub one_appended : (line : ℕ) (left first rest text : List ℕ) (patterns new : List PatternLine) → AreAppended line left patterns → IsCutAt end left first rest → text ≡ line_text end first → new ≡ patterns ++ numbered file line (text ∷ []) → AreAppended (line + 1) rest new
  one_appended line left first rest text patterns new a c t e =
      let more = map (line_text end) (pieces end rest) in
      let short = shorter end left first rest c in
      let before = a.few in
      record {
        all = ap (λ x. x ++ numbered file (line + 1) more) (e ∙ ap (λ x. patterns ++ numbered file line (x ∷ [])) t)
            ∙ append_assoc patterns (numbered file line (line_text end first ∷ [])) (numbered file (line + 1) more)
            ∙ ap (λ x. patterns ++ x) (sym (numbered_cons file line (line_text end first) more))
            ∙ ap (λ x. patterns ++ numbered file line (map (line_text end) x)) (sym (pieces_cut end left first rest c))
            ∙ a.all;
        few = omega (arith, short, before);
      }

  pub all_appended : (line : ℕ) (left text : List ℕ) (patterns new : List PatternLine) → AreAppended line left patterns → Lacks end left → text ≡ line_text end left → new ≡ patterns ++ numbered file line (text ∷ []) → new ≡ old ++ numbered file 1 (map (line_text end) (pieces end content))
  all_appended line left text patterns new a l t e =
      e
      ∙ ap (λ x. patterns ++ numbered file line (x ∷ [])) t
      ∙ ap (λ x. patterns ++ numbered file line (map (line_text end) x)) (sym (one_piece end left l))
      ∙ a.all

-- files are read, and then those that are left
module _ (known : KnownFiles) (names : List (List ℕ)) where
  pub record AreReadSoFar (read : ℕ) (left : List (List ℕ)) (patterns : List PatternLine) : Type 0 where
    pub goes_on : (more : List PatternLine) → ArePatternsOf known (read + 1) left more → ArePatternsOf known 1 names (patterns ++ more)
    pub fails : (why : CommandFault) → IsUnreadOf known (read + 1) left why → IsUnreadOf known 1 names why

  pub none_read : AreReadSoFar 0 names []
  none_read = record { goes_on = λ more are. are; fails = λ why is. is }

  pub one_read : (read : ℕ) (name : List ℕ) (left : List (List ℕ)) (patterns new own : List PatternLine) (content : List ℕ) → AreReadSoFar read (name ∷ left) patterns → known.has name content → ArePatternsIn (read + 1) content own → new ≡ patterns ++ own → AreReadSoFar (read + 1) left new
  one_read read name left patterns new own content s has are e = record {
    goes_on = λ more rest. subst (ArePatternsOf known 1 names) (sym (append_assoc patterns own more) ∙ ap (λ x. x ++ more) (sym e)) (s.goes_on (own ++ more) (content, own, more, (has, (are, (rest, refl)))));
    fails = λ why is. s.fails why (inr (content, (has, is)));
  }

  pub all_read : (read : ℕ) (patterns : List PatternLine) → AreReadSoFar read [] patterns → ArePatternsOf known 1 names patterns
  all_read read patterns s = subst (ArePatternsOf known 1 names) (append-nil patterns) (s.goes_on [] refl)

  pub one_unread : (read : ℕ) (name : List ℕ) (left : List (List ℕ)) (patterns : List PatternLine) (why : CommandFault) → AreReadSoFar read (name ∷ left) patterns → IsUnreadOne known (read + 1) name why → IsUnreadOf known 1 names why
  one_unread read name left patterns why s is = s.fails why (inl is)

-- patterns are strings of the platform one after the other, and these are left
module _ {E : Type 0} (p : Ghosts E) (patterns : List PatternLine) (old : List (List ℕ)) where
  pub record AreStringsSoFar (left : List PatternLine) (strings : List (List ℕ)) : Type 0 where
    pub before : List PatternLine
    pub joined : patterns ≡ before ++ left
    pub formed : AllByRecursion (λ other. p.well_formed other.text) before
    pub all : strings ++ map text_of left ≡ old ++ map text_of patterns

  pub no_string : AreStringsSoFar patterns old
  no_string = record { before = []; joined = refl; formed = tt; all = refl }

  one_formed : (before : List PatternLine) (pattern : PatternLine) → AllByRecursion (λ other. p.well_formed other.text) before → p.well_formed pattern.text → AllByRecursion (λ other. p.well_formed other.text) (before ++ pattern ∷ [])
  one_formed [] pattern a f = (f, tt)
  one_formed (b ∷ before) pattern a f = (a.0, one_formed before pattern a.1 f)

  pub one_string : (pattern : PatternLine) (left all : List PatternLine) (string : List ℕ) (strings new : List (List ℕ)) → AreStringsSoFar all strings → all ≡ pattern ∷ left → string ≡ pattern.text → p.well_formed pattern.text → new ≡ strings ++ string ∷ [] → AreStringsSoFar left new
  one_string pattern left all string strings new s is e f pushed = record {
    before = s.before ++ pattern ∷ [];
    joined = s.joined ∙ ap (λ x. s.before ++ x) is ∙ sym (append_assoc s.before (pattern ∷ []) left);
    formed = one_formed s.before pattern s.formed f;
    all = ap (λ x. x ++ map text_of left) (pushed ∙ ap (λ x. strings ++ x ∷ []) e) ∙ append_assoc strings (pattern.text ∷ []) (map text_of left) ∙ ap (λ x. strings ++ map text_of x) (sym is) ∙ s.all;
  }

  pub all_strings : (left : List PatternLine) (strings : List (List ℕ)) → AreStringsSoFar left strings → left ≡ [] → strings ≡ old ++ map text_of patterns
  all_strings left strings s none = sym (append-nil strings) ∙ ap (λ x. strings ++ map text_of x) (sym none) ∙ s.all

  pub one_fault : (pattern : PatternLine) (left all : List PatternLine) (strings : List (List ℕ)) (error : EncodingError) → AreStringsSoFar all strings → all ≡ pattern ∷ left → p.first_fault pattern.text error → IsFirstNoString p patterns pattern error
  one_fault pattern left all strings error s is f = record { before = s.before; after = left; joined = s.joined ∙ ap (λ x. s.before ++ x) is; formed = s.formed; fault = f }
