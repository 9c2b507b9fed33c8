-- The text of an argument or of a program's name: what comes before the rest of a line is read alone as the same.
use Rattle.std.proofs.Common.{◌≡◌, ℕ, ◌+◌, ◌*◌, Bool, true, false, not, List, [], ◌∷◌, ◌++◌, refl, sym, ap, ◌∙◌, subst, append_assoc, append-nil}
use Rattle.os_command_line.specs.Windows.{quote, backslashes, Ends, StartsWithNoQuote, Reads, ReadsName}
use Rattle.os_command_line.specs.Windows.Reads.{ends, literal, escaped, opens, closes, doubled}
use Rattle.os_command_line.specs.Windows.ReadsName.{name_ends, name_quote, name_unit}

-- a reading of equal texts and arguments
pub same : {after a b x y : List ℕ} {inside : Bool} → a ≡ b → x ≡ y → Reads after inside a x → Reads after inside b y
same {after} {a} {b} {x} {y} {inside} e f r = subst (λ z. Reads after inside z y) e (subst (λ z. Reads after inside a z) f r)

-- the text is its own and what comes after it, before which it ends, and its own is read alone
pub record IsAlone (R : List ℕ → List ℕ → Type 0) (after text meant : List ℕ) : Type 0 where
  pub own : List ℕ
  pub joined : text ≡ own ++ after
  pub reads : R own meant
  pub inside : Bool
  pub ends : Ends inside after

-- the same with these units before it, which mean those
with_more : (R S : List ℕ → List ℕ → Type 0) (after : List ℕ) (n : ℕ) (taken text word meant : List ℕ) → ((own : List ℕ) → text ≡ own ++ after → R own word → S (backslashes n ++ (taken ++ own)) meant) → IsAlone R after text word → IsAlone S after (backslashes n ++ (taken ++ text)) meant
with_more R S after n taken text word meant f a = record {
  own = backslashes n ++ (taken ++ a.own);
  joined = ap (λ z. backslashes n ++ (taken ++ z)) a.joined ∙ ap (λ z. backslashes n ++ z) (sym (append_assoc taken a.own after)) ∙ sym (append_assoc (backslashes n) (taken ++ a.own) after);
  reads = f a.own a.joined a.reads;
  inside = a.inside;
  ends = a.ends;
}

starts_before : (own after : List ℕ) → StartsWithNoQuote (own ++ after) → StartsWithNoQuote own
starts_before [] after h = tt
starts_before (u ∷ own) after h = h

pub alone : (after : List ℕ) (inside : Bool) (text argument : List ℕ) → Reads after inside text argument → IsAlone (Reads [] inside) after text argument
alone after _ _ _ (ends inside n e) = record { own = backslashes n; joined = refl; reads = same (append-nil (backslashes n)) refl (ends inside n tt); inside = inside; ends = e }
alone after _ _ _ (literal inside n u text argument h r) = with_more (Reads [] inside) (Reads [] inside) after n (u ∷ []) text argument (backslashes n ++ u ∷ argument) (λ own e s. literal inside n u own argument h s) (alone after inside text argument r)
alone after _ _ _ (escaped inside n text argument r) = with_more (Reads [] inside) (Reads [] inside) after (2 * n + 1) (quote ∷ []) text argument (backslashes n ++ quote ∷ argument) (λ own e s. escaped inside n own argument s) (alone after inside text argument r)
alone after _ _ _ (opens n text argument r) = with_more (Reads [] true) (Reads [] false) after (2 * n) (quote ∷ []) text argument (backslashes n ++ argument) (λ own e s. opens n own argument s) (alone after true text argument r)
alone after _ _ _ (closes n text argument h r) =
    with_more (Reads [] false) (Reads [] true) after (2 * n) (quote ∷ []) text argument (backslashes n ++ argument) (λ own e s. closes n own argument (starts_before own after (subst StartsWithNoQuote e h)) s) (alone after false text argument r)
alone after _ _ _ (doubled n text argument r) = with_more (Reads [] true) (Reads [] true) after (2 * n) (quote ∷ quote ∷ []) text argument (backslashes n ++ quote ∷ argument) (λ own e s. doubled n own argument s) (alone after true text argument r)

pub name_alone : (after : List ℕ) (inside : Bool) (text name : List ℕ) → ReadsName after inside text name → IsAlone (ReadsName [] inside) after text name
name_alone after _ _ _ (name_ends inside e) = record { own = []; joined = refl; reads = name_ends inside tt; inside = inside; ends = e }
name_alone after _ _ _ (name_quote inside text name r) = with_more (ReadsName [] (not inside)) (ReadsName [] inside) after 0 (quote ∷ []) text name name (λ own e s. name_quote inside own name s) (name_alone after (not inside) text name r)
name_alone after _ _ _ (name_unit inside u text name q b r) = with_more (ReadsName [] inside) (ReadsName [] inside) after 0 (u ∷ []) text name (u ∷ name) (λ own e s. name_unit inside u own name q b s) (name_alone after inside text name r)
