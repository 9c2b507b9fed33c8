-- How paths of known components are written.
use Rattle.std.proofs.Common.{◌≡◌, ◌≢◌, inl, inr, ℕ, true, false, List, [], ◌∷◌, ◌++◌, codes, refl, sym, ap, ◌∙◌, subst}
use Rattle.std.specs.List.{All, AllByRecursion}
use Rattle.std.proofs.lemmas.List.Elements.{All-head, All-from_recursion}
use Rattle.path_rules.specs.declared.rules.Style as whose
use Rattle.path_rules.specs.declared.rules.Style.TheVariants as style
use Rattle.path_rules.specs.Component.{Item, Prefix, RootDir, CurDir, ParentDir, Normal}
use Rattle.path_rules.specs.Components.{AreComponents, prefixed, bare}
use Rattle.path_rules.specs.declared.rules.Rules.TheVariants as rules
use Rattle.path_rules.specs.Separators.{separates, IsField}
use Rattle.path_rules.specs.Prefix.{Kind, Unc, Disk, NoLead, lead_of, IsPrefixBy, IsPrefixOf}
use Rattle.path_building.specs.Beginning.{has_colon, IsOddKind, BeginsOddly}
use Rattle.path_building.specs.Normal.{AreNormalOf, bare_root, root, name, up}
use Rattle.path_building.specs.Normalized.{IsNormalized}
use Rattle.path_building.specs.Cleaned as clean
use Rattle.path_building.specs.Cleaned.{IsCleaned}
use Rattle.path_building.specs.Written.{LacksShare, HasEmptyShare, IsWrittenOut, IsWritten, IsPathOf}

-- components are written in one way
one_out : (w : whose.Style) (items : List Item) (one other : List ℕ) → IsWrittenOut w items one → IsWrittenOut w items other → one ≡ other
one_out w items one other (inl h) (inl k) = h.1 ∙ sym k.1
one_out w items one other (inl h) (inr k) = absurd (k.0 h.0)
one_out w items one other (inr h) (inl k) = absurd (h.0 k.0)
one_out w items one other (inr h) (inr k) = h.1 ∙ sym k.1

pub one_writing : (w : whose.Style) (items : List Item) (one other : List ℕ) → IsWritten w items one → IsWritten w items other → one ≡ other
one_writing w items one other (inl h) (inl k) = h.1 ∙ sym k.1
one_writing w items one other (inl h) (inr k) = absurd (k.0 h.0)
one_writing w items one other (inr h) (inl k) = absurd (h.0 k.0)
one_writing w items one other (inr h) (inr k) = one_out w items one other h.1 k.1

-- a drive has no share
no_share : ¬ (HasEmptyShare (codes "C:"))
no_share h = subst LacksShare h.1.1.0.0 h.1.1.1

-- `C:/a/../b`, `C:\b` and their components
abbrev before : List Item
before = Prefix (codes "C:") ∷ RootDir ∷ Normal (codes "a") ∷ ParentDir ∷ Normal (codes "b") ∷ []

abbrev after : List Item
after = Prefix (codes "C:") ∷ RootDir ∷ Normal (codes "b") ∷ []

before_are : AreComponents style.Windows (codes "C:/a/../b") before
before_are = prefixed (record { kind = Disk 0x43; raw = codes "C:"; rest = codes "/a/../b"; joined = refl; prefix = (refl, refl); are = refl })

after_are : IsPathOf style.Windows after (codes "C:\\b")
after_are = (prefixed (record { kind = Disk 0x43; raw = codes "C:"; rest = codes "\\b"; joined = refl; prefix = (refl, refl); are = refl }), inr (λ o. o, inr (no_share, refl)))

-- a path that begins with a drive doesn't begin oddly
drive_even : (rest : List ℕ) → ¬ (BeginsOddly style.Windows (0x43 ∷ 0x3A ∷ rest))
drive_even rest (inl k) = subst IsOddKind k.1.1.0.0 k.1.1.1
drive_even rest (inr k) = k.0 (Disk 0x43) rest (refl, refl)

pub normal_form : IsNormalized style.Windows (codes "C:/a/../b") (codes "C:\\b")
normal_form = inr (
  drive_even (codes "/a/../b"),
  record {
    items = before;
    normal = after;
    shown = after;
    are = before_are;
    form = inr (λ v. let never : false ≡ true = v in cc, name (up (name root)));
    shielded = inr (λ b. b, refl);
    answers = after_are;
    even = drive_even (codes "\\b");
  },
)

pub clean_form : IsCleaned style.Windows (codes "C:/a/../b") (codes "C:\\b")
clean_form = inr (
  drive_even (codes "/a/../b"),
  record {
    items = before;
    clean = after;
    shown = after;
    are = before_are;
    form = inr (λ v. let never : false ≡ true = v in cc, (after, (clean.name (clean.up (clean.name clean.root)), refl)));
    shielded = inr (λ b. b, refl);
    answers = after_are;
    even = drive_even (codes "\\b");
  },
)

-- `//s/h/a/../x`, its prefix, and its clean form
share_plain : (s : List ℕ) → AllByRecursion (λ b. separates rules.Either b ≡ false) s → All (λ b. separates rules.Either b ≡ false) s
share_plain s h = All-from_recursion (λ b. separates rules.Either b ≡ false) s h

slashed_share : IsPrefixOf (codes "//s/h/a/../x") (Unc (codes "s") (codes "h")) (codes "/a/../x")
slashed_share = record {
  server = codes "s";
  separator = 0x2F;
  more = codes "h/a/../x";
  share = codes "h";
  is = refl;
  first = record { joined = refl; plain = share_plain (codes "s") (refl, tt); edge = refl };
  second = record { joined = refl; plain = share_plain (codes "h") (refl, tt); edge = refl };
  some_server = λ e. cc;
  some_share = λ e. cc;
}

clean_share : IsPrefixOf (codes "\\\\s\\h\\x") (Unc (codes "s") (codes "h")) (codes "\\x")
clean_share = record {
  server = codes "s";
  separator = 0x5C;
  more = codes "h\\x";
  share = codes "h";
  is = refl;
  first = record { joined = refl; plain = share_plain (codes "s") (refl, tt); edge = refl };
  second = record { joined = refl; plain = share_plain (codes "h") (refl, tt); edge = refl };
  some_server = λ e. cc;
  some_share = λ e. cc;
}

abbrev share_before : List Item
share_before = Prefix (codes "//s/h") ∷ RootDir ∷ Normal (codes "a") ∷ ParentDir ∷ Normal (codes "x") ∷ []

abbrev share_after : List Item
share_after = Prefix (codes "\\\\s\\h") ∷ RootDir ∷ Normal (codes "x") ∷ []

-- each path has one prefix
abbrev pub OnePrefix : Type 0
OnePrefix = (s : List ℕ) (a b : Kind) (x y : List ℕ) → IsPrefixOf s a x → IsPrefixOf s b y → (a ≡ b) × (x ≡ y)

whole_share : OnePrefix → ¬ (HasEmptyShare (codes "\\\\s\\h"))
whole_share one h = subst LacksShare (one (codes "\\\\s\\h") h.0 (Unc (codes "s") (codes "h")) h.1.0 [] h.1.1.0 alone).0 h.1.1.1
  where
    alone : IsPrefixOf (codes "\\\\s\\h") (Unc (codes "s") (codes "h")) []
    alone = record {
      server = codes "s";
      separator = 0x5C;
      more = codes "h";
      share = codes "h";
      is = refl;
      first = record { joined = refl; plain = share_plain (codes "s") (refl, tt); edge = refl };
      second = record { joined = refl; plain = share_plain (codes "h") (refl, tt); edge = tt };
      some_server = λ e. cc;
      some_share = λ e. cc;
    }

not_odd : codes "s" ≡ codes "?" → ⊥
not_odd e = cc

share_even : OnePrefix → (s rest : List ℕ) → IsPrefixOf s (Unc (codes "s") (codes "h")) rest → ¬ (BeginsOddly style.Windows s)
share_even one s rest p (inl k) = not_odd (subst IsOddKind (one s k.0 (Unc (codes "s") (codes "h")) k.1.0 rest k.1.1.0 p).0 k.1.1.1)
share_even one s rest p (inr k) = k.0 (Unc (codes "s") (codes "h")) rest p

pub share_form : OnePrefix → IsCleaned style.Windows (codes "//s/h/a/../x") (codes "\\\\s\\h\\x")
share_form one = inr (
  share_even one (codes "//s/h/a/../x") (codes "/a/../x") slashed_share,
  record {
    items = share_before;
    clean = share_after;
    shown = share_after;
    are = prefixed (record { kind = Unc (codes "s") (codes "h"); raw = codes "//s/h"; rest = codes "/a/../x"; joined = refl; prefix = slashed_share; are = refl });
    form = inr (λ v. let never : false ≡ true = v in cc, (Prefix (codes "//s/h") ∷ RootDir ∷ Normal (codes "x") ∷ [], (clean.name (clean.up (clean.name clean.root)), refl)));
    shielded = inr (λ b. b, refl);
    answers = (
      prefixed (record { kind = Unc (codes "s") (codes "h"); raw = codes "\\\\s\\h"; rest = codes "\\x"; joined = refl; prefix = clean_share; are = refl }),
      inr (λ o. o, inr (whole_share one, refl)),
    );
    even = share_even one (codes "\\\\s\\h\\x") (codes "\\x") clean_share;
  },
)

-- `C:/a` and `b/c` below it
pub base_are : AreComponents style.Windows (codes "C:/a") (Prefix (codes "C:") ∷ RootDir ∷ Normal (codes "a") ∷ [])
base_are = prefixed (record { kind = Disk 0x43; raw = codes "C:"; rest = codes "/a"; joined = refl; prefix = (refl, refl); are = refl })

pub below_written : IsWritten style.Windows (Prefix (codes "C:") ∷ RootDir ∷ Normal (codes "a") ∷ Normal (codes "b") ∷ Normal (codes "c") ∷ []) (codes "C:\\a\\b\\c")
below_written = inr (λ o. o, inr (no_share, refl))

-- `/a//b` on Windows
pub unix_are : AreComponents style.Unix (codes "/a//b") (RootDir ∷ Normal (codes "a") ∷ Normal (codes "b") ∷ [])
unix_are = refl

pub restyled_written : IsWritten style.Windows (RootDir ∷ Normal (codes "a") ∷ Normal (codes "b") ∷ []) (codes "\\a\\b")
restyled_written = inr (λ o. let never : codes "a" ≡ codes "??" = o in cc, inr (λ h. h, refl))

-- `\a\..\??\c:\x`, which is no path of the object manager, and what is written for it
abbrev hidden : List Item
hidden = RootDir ∷ Normal (codes "a") ∷ ParentDir ∷ Normal (codes "??") ∷ Normal (codes "c:") ∷ Normal (codes "x") ∷ []

abbrev shown : List Item
shown = RootDir ∷ Normal (codes "??") ∷ Normal (codes "c:") ∷ Normal (codes "x") ∷ []

hidden_are : AreComponents style.Windows (codes "\\a\\..\\??\\c:\\x") hidden
hidden_are = bare (record { none = λ k rest h. h; are = refl })

shown_are : IsPathOf style.Windows shown (codes "\\.\\??\\c:\\x")
shown_are = (bare (record { none = λ k rest h. h; are = refl }), inl (refl, refl))

-- a path whose second byte is no separator, after a first that is one, doesn't begin oddly
root_even : (c : ℕ) (s : List ℕ) → separates rules.Either c ≡ false → lead_of (0x5C ∷ c ∷ s) ≡ NoLead → ¬ (BeginsOddly style.Windows (0x5C ∷ c ∷ s))
root_even c s e n (inl k) = subst (λ l. IsPrefixBy l k.0 k.1.0) n k.1.1.0
root_even c s e n (inr (none, inl t)) = let never : false ≡ true = sym e ∙ t.1 in cc
root_even c s e n (inr (none, inr f)) = first f.name f.rest f.first f.colon
  where
    first : (part rest : List ℕ) → IsField rules.Either (0x5C ∷ c ∷ s) part rest → has_colon part ≡ true → ⊥
    first [] rest h k = let never : false ≡ true = k in cc
    first (b ∷ part) rest h k =
        let same : 0x5C ≡ b = begins h.joined in
        let never : true ≡ false = ap (separates rules.Either) same ∙ All-head (λ z. separates rules.Either z ≡ false) b part h.plain in cc
      where
        begins : 0x5C ∷ c ∷ s ≡ b ∷ (part ++ rest) → 0x5C ≡ b
        begins g = cc

pub normal_object : IsNormalized style.Windows (codes "\\a\\..\\??\\c:\\x") (codes "\\.\\??\\c:\\x")
normal_object = inr (
  root_even 0x61 (codes "\\..\\??\\c:\\x") refl refl,
  record {
    items = hidden;
    normal = shown;
    shown = shown;
    are = hidden_are;
    form = inr (λ v. v, name (name (name (up (name bare_root)))));
    shielded = inr (λ b. b, refl);
    answers = shown_are;
    even = root_even 0x2E (codes "\\??\\c:\\x") refl refl;
  },
)

pub clean_object : IsCleaned style.Windows (codes "\\a\\..\\??\\c:\\x") (codes "\\.\\??\\c:\\x")
clean_object = inr (
  root_even 0x61 (codes "\\..\\??\\c:\\x") refl refl,
  record {
    items = hidden;
    clean = shown;
    shown = shown;
    are = hidden_are;
    form = inr (λ v. v, (shown, (clean.name (clean.name (clean.name (clean.up (clean.name clean.bare_root)))), refl)));
    shielded = inr (λ b. b, refl);
    answers = shown_are;
    even = root_even 0x2E (codes "\\??\\c:\\x") refl refl;
  },
)
