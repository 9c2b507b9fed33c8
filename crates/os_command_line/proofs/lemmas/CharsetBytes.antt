-- Where each character is one byte, characters are read as their bytes are.
use Rattle.std.proofs.Common.{◌≡◌, ℕ, Bool, true, false, ◌||◌, ◌&&◌, eqb, List, [], ◌∷◌, ◌++◌, map, refl, sym, ap, ◌∙◌, subst, append_assoc}
use Rattle.std.specs.List.{AllByRecursion}
use Rattle.std.proofs.lemmas.List.{map-append}
use Rattle.os_command_line.specs.declared.shell.language.Language.{Language}
use Rattle.os_command_line.specs.Charset.{IsCharacter, joined, AreCharacters, single_bytes, is_one, is_byte}
use Rattle.os_command_line.specs.Charset.IsCharacter.{byte}
use Rattle.os_command_line.specs.Shell as bytes
use Rattle.os_command_line.specs.Shell.{single_quote, double_quote, backslash, dollar, newline, prepend, Outcome}
use Rattle.os_command_line.specs.Shell.Outcome.{Word, Fault}
use Rattle.os_command_line.specs.Shell.IsOpening.{quote as byte_quote, line_joined as byte_line_joined}
use Rattle.os_command_line.specs.Shell.Doubled.{none as byte_none, plain as byte_plain, escape as byte_escape, joined as byte_joined, kept as byte_kept}
use Rattle.os_command_line.specs.Shell.Dollared.{nothing as byte_nothing, itself as byte_itself, escape_of as byte_escape_of}
use Rattle.os_command_line.specs.Shell.Reads.{ends as byte_ends, bare as byte_bare, escaped as byte_escaped, continued as byte_continued, single as byte_single, double as byte_double, dollared as byte_dollared, trailing, unclosed, undoubled, unescaped, undollared, unfinished, unknown, special, expands, keeps}
use Rattle.os_command_line.specs.ShellCharacters.{begins_quote, opens_dollar, IsOpening, IsBare, HasNoQuote, IsItselfDoubled, Doubled, Dollared, Ends, Reads}
use Rattle.os_command_line.specs.ShellCharacters.IsOpening.{quote, line_joined}
use Rattle.os_command_line.specs.ShellCharacters.Doubled.{none, plain, escape, line_joined as doubled_joined, kept}
use Rattle.os_command_line.specs.ShellCharacters.Dollared.{nothing, itself, escape_of}
use Rattle.os_command_line.specs.ShellCharacters.Reads.{ends, bare, escaped, continued, single, double, dollared}
use Rattle.os_command_line.proofs.lemmas.CharsetQuotes.{same}
use Rattle.os_command_line.proofs.lemmas.Lists.{both_parts}

-- ---- single bytes

pub single_joined : (text : List ℕ) → joined (single_bytes text) ≡ text
single_joined [] = refl
single_joined (b ∷ text) = ap (λ z. b ∷ z) (single_joined text)

pub single_are : (text : List ℕ) → AreCharacters text (single_bytes text)
single_are text = record { is_joined = single_joined text; are_characters = each text }
  where
    each : (text : List ℕ) → AllByRecursion IsCharacter (single_bytes text)
    each [] = tt
    each (b ∷ text) = (byte b, each text)

begins_same : (text : List ℕ) → begins_quote (single_bytes text) ≡ bytes.begins_quote text
begins_same [] = refl
begins_same (b ∷ []) = refl
begins_same (b ∷ c ∷ text) = ap (λ x. eqb b single_quote || (eqb b backslash && (eqb c newline && x))) (begins_same text)

opens_same : (l : Language) (b : ℕ) (text : List ℕ) → opens_dollar l (b ∷ []) (single_bytes text) ≡ bytes.opens_dollar l b text
opens_same l b text = ap (λ x. l.dollar_quotes && (eqb b dollar && x)) (begins_same text)

-- what is joined before a text, and a closing quote
parts : (a b : List ℕ) (k : ℕ) → single_bytes a ++ (k ∷ []) ∷ single_bytes b ≡ single_bytes (a ++ k ∷ b)
parts a b k = sym (map-append (λ x. x ∷ []) a (k ∷ b))

-- ---- from bytes to characters

up_opening : (opening : List ℕ) → bytes.IsOpening opening → IsOpening (single_bytes opening)
up_opening _ byte_quote = quote
up_opening _ (byte_line_joined opening h) = line_joined (single_bytes opening) (up_opening opening h)

up_no_quote : (quoted : List ℕ) → bytes.HasNoQuote quoted → HasNoQuote (single_bytes quoted)
up_no_quote [] h = tt
up_no_quote (b ∷ quoted) h = (h.0, up_no_quote quoted h.1)

up_doubled : (l : Language) (quoted word : List ℕ) → bytes.Doubled l quoted word → Doubled l (single_bytes quoted) word
up_doubled l _ _ byte_none = none
up_doubled l _ _ (byte_plain b text word h r) = plain (b ∷ []) (single_bytes text) word (record { no_quote = h.no_quote; no_backslash = h.no_backslash; no_special = h.no_special }) (up_doubled l text word r)
up_doubled l _ _ (byte_escape b text word h r) = escape (b ∷ []) (single_bytes text) word h (up_doubled l text word r)
up_doubled l _ _ (byte_joined text word r) = doubled_joined (single_bytes text) word (up_doubled l text word r)
up_doubled l _ _ (byte_kept b text word h n r) = kept (b ∷ []) (single_bytes text) word h n (up_doubled l (b ∷ text) word r)

up_dollared : (quoted word : List ℕ) → bytes.Dollared quoted word → Dollared (single_bytes quoted) word
up_dollared _ _ byte_nothing = nothing
up_dollared _ _ (byte_itself b text word q s r) = itself (b ∷ []) (single_bytes text) word q s (up_dollared text word r)
up_dollared _ _ (byte_escape_of letters b text word m r) =
    subst (λ z. Dollared ((backslash ∷ []) ∷ z) (b ∷ word)) (sym (map-append (λ x. x ∷ []) letters text)) (escape_of letters b (single_bytes text) word m (up_dollared text word r))

up_ends : (after : List ℕ) → bytes.Ends after → Ends (single_bytes after)
up_ends [] e = tt
up_ends (b ∷ after) e = e

-- a word that is read from bytes is read from them as characters
IsUp : Language → Bool → List ℕ → Outcome → Type 0
IsUp l first text (Word word after) = Reads l first (single_bytes text) word (single_bytes after)
IsUp l first text (Fault kind left) = Unit {0}

up_more : (l : Language) (first next : Bool) (taken added text : List ℕ) (o : Outcome) → ((word after : List ℕ) → Reads l next (single_bytes text) word (single_bytes after) → Reads l first (single_bytes taken) (added ++ word) (single_bytes after)) → IsUp l next text o → IsUp l first taken (prepend added o)
unfolding IsUp
up_more l first next taken added text (Word word after) f r = f word after r
up_more l first next taken added text (Fault kind left) f r = tt

nothing_first : (l : Language) (first : Bool) (text : List ℕ) (o : Outcome) → IsUp l first text (prepend [] o) → IsUp l first text o
unfolding IsUp
nothing_first l first text (Word word after) r = r
nothing_first l first text (Fault kind left) r = tt

up : (l : Language) (first : Bool) (text : List ℕ) (o : Outcome) → bytes.Reads l first text o → IsUp l first text o
unfolding IsUp
up l _ _ _ (byte_ends first after e) = ends first (single_bytes after) (up_ends after e)
up l _ _ _ (byte_bare first b text o h r) =
    let i : IsBare l first (b ∷ []) (single_bytes text) = record { no_mark = h.no_mark; no_blank = h.no_blank; no_dollar = opens_same l b text ∙ h.no_dollar; no_special = h.no_special } in
    up_more l first false (b ∷ text) (b ∷ []) text o (λ word after s. bare first (b ∷ []) (single_bytes text) word (single_bytes after) i s) (up l false text o r)
up l _ _ _ (byte_escaped first b text o h r) =
    up_more l first false (backslash ∷ b ∷ text) (b ∷ []) text o (λ word after s. escaped first (b ∷ []) (single_bytes text) word (single_bytes after) h s) (up l false text o r)
up l _ _ _ (byte_continued first text o r) =
    nothing_first l first (backslash ∷ newline ∷ text) o (up_more l first first (backslash ∷ newline ∷ text) [] text o (λ word after s. continued first (single_bytes text) word (single_bytes after) s) (up l first text o r))
up l _ _ _ (byte_single first quoted text o h r) =
    up_more l first false (single_quote ∷ (quoted ++ single_quote ∷ text)) quoted text o
    (λ word after s. same (ap (λ z. (single_quote ∷ []) ∷ z) (parts quoted text single_quote)) (ap (λ z. z ++ word) (single_joined quoted)) (single first (single_bytes quoted) (single_bytes text) word (single_bytes after) (up_no_quote quoted h) s))
    (up l false text o r)
up l _ _ _ (byte_double first quoted meant text o h r) =
    up_more l first false (double_quote ∷ (quoted ++ double_quote ∷ text)) meant text o
    (λ word after s. same (ap (λ z. (double_quote ∷ []) ∷ z) (parts quoted text double_quote)) refl (double first (single_bytes quoted) (single_bytes text) meant word (single_bytes after) (up_doubled l quoted meant h) s))
    (up l false text o r)
up l _ _ _ (byte_dollared first opening quoted meant text o d i h r) =
    up_more l first false (dollar ∷ (opening ++ (quoted ++ single_quote ∷ text))) meant text o
    (λ word after s. same (ap (λ z. (dollar ∷ []) ∷ z) (ap (λ z. single_bytes opening ++ z) (parts quoted text single_quote) ∙ sym (map-append (λ x. x ∷ []) opening (quoted ++ single_quote ∷ text)))) refl (dollared first (single_bytes opening) (single_bytes quoted) (single_bytes text) meant word (single_bytes after) d (up_opening opening i) (up_dollared quoted meant h) s))
    (up l false text o r)
up l _ _ _ (trailing first) = tt
up l _ _ _ (unclosed first text h) = tt
up l _ _ _ (undoubled first quoted word h) = tt
up l _ _ _ (unescaped first quoted word h) = tt
up l _ _ _ (undollared first opening quoted word d i h) = tt
up l _ _ _ (unfinished first opening quoted word d i h) = tt
up l _ _ _ (unknown first opening quoted word text d i h n) = tt
up l _ _ _ (special first b text r h d) = tt
up l _ _ _ (expands first quoted word b text h r x) = tt
up l _ _ _ (keeps first quoted word b text h r x) = tt

pub characters_read : (l : Language) (first : Bool) (text word after : List ℕ) → bytes.Reads l first text (Word word after) → Reads l first (single_bytes text) word (single_bytes after)
unfolding IsUp
characters_read l first text word after r = up l first text (Word word after) r

-- ---- from characters to bytes

-- each character is one byte
IsSingle : List ℕ → Type 0
IsSingle c = (b : ℕ) × (c ≡ b ∷ [])

abbrev AreSingle : List (List ℕ) → Type 0
AreSingle cs = AllByRecursion IsSingle cs

joined_parts : (a b : List (List ℕ)) → joined (a ++ b) ≡ joined a ++ joined b
joined_parts [] b = refl
joined_parts (c ∷ a) b = ap (λ z. c ++ z) (joined_parts a b) ∙ sym (append_assoc c (joined a) (joined b))

single_of : (cs : List (List ℕ)) → AreSingle cs → cs ≡ single_bytes (joined cs)
unfolding IsSingle
single_of [] s = refl
single_of (c ∷ cs) s =
    let e : c ≡ s.0.0 ∷ [] = s.0.1 in
    subst (λ z. z ∷ cs ≡ single_bytes (z ++ joined cs)) (sym e) (ap (λ z. (s.0.0 ∷ []) ∷ z) (single_of cs s.1))

single_is_single : (text : List ℕ) → AreSingle (single_bytes text)
unfolding IsSingle
single_is_single [] = tt
single_is_single (b ∷ text) = ((b, refl), single_is_single text)

down_opening : (opening : List (List ℕ)) → IsOpening opening → bytes.IsOpening (joined opening)
down_opening _ quote = byte_quote
down_opening _ (line_joined opening h) = byte_line_joined (joined opening) (down_opening opening h)

down_no_quote : (quoted : List (List ℕ)) → AreSingle quoted → HasNoQuote quoted → bytes.HasNoQuote (joined quoted)
unfolding IsSingle
down_no_quote [] s h = tt
down_no_quote (c ∷ quoted) s h =
    let e : c ≡ s.0.0 ∷ [] = s.0.1 in
    subst (λ z. bytes.HasNoQuote (z ++ joined quoted)) (sym e) (subst (λ z. is_byte single_quote z ≡ false) e h.0, down_no_quote quoted s.1 h.1)

down_doubled : (l : Language) (quoted : List (List ℕ)) (word : List ℕ) → AreSingle quoted → Doubled l quoted word → bytes.Doubled l (joined quoted) word
unfolding IsSingle
down_doubled l _ _ s none = byte_none
down_doubled l _ _ s (plain c text word h r) =
    let e : c ≡ s.0.0 ∷ [] = s.0.1 in
    let k = subst (IsItselfDoubled l) e h in
    subst (λ z. bytes.Doubled l (z ++ joined text) (z ++ word)) (sym e) (byte_plain s.0.0 (joined text) word (record { no_quote = k.no_quote; no_backslash = k.no_backslash; no_special = k.no_special }) (down_doubled l text word s.1 r))
down_doubled l _ _ s (escape c text word h r) =
    let e : c ≡ s.1.0.0 ∷ [] = s.1.0.1 in
    subst (λ z. bytes.Doubled l (backslash ∷ (z ++ joined text)) (z ++ word)) (sym e) (byte_escape s.1.0.0 (joined text) word (subst (λ z. is_one bytes.is_escapable z ≡ true) e h) (down_doubled l text word s.1.1 r))
down_doubled l _ _ s (doubled_joined text word r) = byte_joined (joined text) word (down_doubled l text word s.1.1 r)
down_doubled l _ _ s (kept c text word h n r) =
    let e : c ≡ s.1.0.0 ∷ [] = s.1.0.1 in
    let more = down_doubled l (c ∷ text) word s.1 r in
    subst (λ z. bytes.Doubled l (backslash ∷ (z ++ joined text)) (backslash ∷ word)) (sym e)
    (byte_kept s.1.0.0 (joined text) word (subst (λ z. is_one bytes.is_escapable z ≡ false) e h) (subst (λ z. is_byte newline z ≡ false) e n) (subst (λ z. bytes.Doubled l (z ++ joined text) word) e more))

down_dollared : (quoted : List (List ℕ)) (word : List ℕ) → AreSingle quoted → Dollared quoted word → bytes.Dollared (joined quoted) word
unfolding IsSingle
down_dollared _ _ s nothing = byte_nothing
down_dollared _ _ s (itself c text word q b r) =
    let e : c ≡ s.0.0 ∷ [] = s.0.1 in
    subst (λ z. bytes.Dollared (z ++ joined text) (z ++ word)) (sym e) (byte_itself s.0.0 (joined text) word (subst (λ z. is_byte single_quote z ≡ false) e q) (subst (λ z. is_byte backslash z ≡ false) e b) (down_dollared text word s.1 r))
down_dollared _ _ s (escape_of letters b text word m r) =
    let more = both_parts IsSingle (single_bytes letters) text s.1 in
    subst (λ z. bytes.Dollared (backslash ∷ z) (b ∷ word)) (sym (joined_parts (single_bytes letters) text ∙ ap (λ z. z ++ joined text) (single_joined letters))) (byte_escape_of letters b (joined text) word m (down_dollared text word more.1 r))

down_ends : (after : List (List ℕ)) → AreSingle after → Ends after → bytes.Ends (joined after)
unfolding IsSingle
down_ends [] s h = tt
down_ends (c ∷ after) s h = let e : c ≡ s.0.0 ∷ [] = s.0.1 in subst (λ z. bytes.Ends (z ++ joined after)) (sym e) (subst (λ z. is_one bytes.is_blank z ≡ true) e h)

same_bytes : {l : Language} {first : Bool} {a b w : List ℕ} {after : List ℕ} → a ≡ b → bytes.Reads l first a (Word w after) → bytes.Reads l first b (Word w after)
same_bytes {l} {first} {a} {b} {w} {after} e r = subst (λ z. bytes.Reads l first z (Word w after)) e r

closing : (quoted text : List (List ℕ)) (k : ℕ) → joined (quoted ++ (k ∷ []) ∷ text) ≡ joined quoted ++ k ∷ joined text
closing quoted text k = joined_parts quoted ((k ∷ []) ∷ text)

down : (l : Language) (first : Bool) (cs : List (List ℕ)) (word : List ℕ) (after : List (List ℕ)) → AreSingle cs → Reads l first cs word after → bytes.Reads l first (joined cs) (Word word (joined after))
unfolding IsSingle
down l _ _ _ _ s (ends first after e) = byte_ends first (joined after) (down_ends after s e)
down l _ _ _ _ s (bare first c text word after h r) =
    let e : c ≡ s.0.0 ∷ [] = s.0.1 in
    let k = subst (λ z. IsBare l first z text) e h in
    let n : opens_dollar l (s.0.0 ∷ []) (single_bytes (joined text)) ≡ false = subst (λ z. opens_dollar l (s.0.0 ∷ []) z ≡ false) (single_of text s.1) k.no_dollar in
    let i : bytes.IsBare l first s.0.0 (joined text) = record { no_mark = k.no_mark; no_blank = k.no_blank; no_dollar = sym (opens_same l s.0.0 (joined text)) ∙ n; no_special = k.no_special } in
    subst (λ z. bytes.Reads l first (z ++ joined text) (Word (z ++ word) (joined after))) (sym e) (byte_bare first s.0.0 (joined text) (Word word (joined after)) i (down l false text word after s.1 r))
down l _ _ _ _ s (escaped first c text word after h r) =
    let e : c ≡ s.1.0.0 ∷ [] = s.1.0.1 in
    subst (λ z. bytes.Reads l first (backslash ∷ (z ++ joined text)) (Word (z ++ word) (joined after))) (sym e) (byte_escaped first s.1.0.0 (joined text) (Word word (joined after)) (subst (λ z. is_byte newline z ≡ false) e h) (down l false text word after s.1.1 r))
down l _ _ _ _ s (continued first text word after r) = byte_continued first (joined text) (Word word (joined after)) (down l first text word after s.1.1 r)
down l _ _ _ _ s (single first quoted text word after h r) =
    let p = both_parts IsSingle quoted ((single_quote ∷ []) ∷ text) s.1 in
    same_bytes (ap (λ z. single_quote ∷ z) (sym (closing quoted text single_quote))) (byte_single first (joined quoted) (joined text) (Word word (joined after)) (down_no_quote quoted p.0 h) (down l false text word after p.1.1 r))
down l _ _ _ _ s (double first quoted text meant word after h r) =
    let p = both_parts IsSingle quoted ((double_quote ∷ []) ∷ text) s.1 in
    same_bytes (ap (λ z. double_quote ∷ z) (sym (closing quoted text double_quote))) (byte_double first (joined quoted) meant (joined text) (Word word (joined after)) (down_doubled l quoted meant p.0 h) (down l false text word after p.1.1 r))
down l _ _ _ _ s (dollared first opening quoted text meant word after d i h r) =
    let o = both_parts IsSingle opening (quoted ++ (single_quote ∷ []) ∷ text) s.1 in
    let p = both_parts IsSingle quoted ((single_quote ∷ []) ∷ text) o.1 in
    let e = joined_parts opening (quoted ++ (single_quote ∷ []) ∷ text) ∙ ap (λ z. joined opening ++ z) (closing quoted text single_quote) in
    same_bytes (ap (λ z. dollar ∷ z) (sym e)) (byte_dollared first (joined opening) (joined quoted) meant (joined text) (Word word (joined after)) d (down_opening opening i) (down_dollared quoted meant p.0 h) (down l false text word after p.1.1 r))

pub bytes_read : (l : Language) (first : Bool) (text word after : List ℕ) → Reads l first (single_bytes text) word (single_bytes after) → bytes.Reads l first text (Word word after)
bytes_read l first text word after r =
    let d = down l first (single_bytes text) word (single_bytes after) (single_is_single text) r in
    subst (λ z. bytes.Reads l first z (Word word after)) (single_joined text) (subst (λ z. bytes.Reads l first (joined (single_bytes text)) (Word word z)) (single_joined after) d)
