-- The words of a line, one after the other.
use Rattle.std.proofs.Common.{◌≡◌, ℕ, true, List, [], ◌∷◌, ◌++◌, inl, inr, refl, sym, ap, ◌∙◌, subst, append_assoc, append-nil}
use Rattle.std.specs.Prelude.{Result, Ok, Err}
use Rattle.os_command_line.specs.Shell.{IsRead, language}
use Rattle.os_command_line.specs.declared.shell.fault.WordsFault.{WordsFault}
use Rattle.list_programs.specs.declared.fault.ItemFault.{ItemFault}
use Rattle.list_programs.specs.declared.fault.ItemFault.TheVariants.{Rejected, TooLong, Memory}
use Rattle.list_programs.specs.ListOptions.{byte_of}
use Rattle.list_programs.specs.declared.options.ListOptions.{ListOptions}
use Rattle.names_commands.specs.declared.fault.Rejection.{Rejection}
use Rattle.names_commands.specs.declared.fault.Rejection.TheVariants.{NoString, BadEscape, NotCanonical, HasNul, HasNewline, EndsInReturn as InReturn, EmptyLine, BadWords, BadArchive, NotFromTop}
use Rattle.names_commands.specs.Names.{EndsInReturn}
use Rattle.names_commands.specs.Words.{IsName, AreNames, AreNamesOf, Comes, IsAfterNames, IsWordFault, IsLineFault}

-- of all items of a line these are left, and names were written for those before them
pub record IsBegun (list : ListOptions) (line : List ℕ) (left : List (Result (List ℕ) WordsFault)) (old new : List ℕ) : Type 0 where
  pub items : List (Result (List ℕ) WordsFault)
  pub read : IsRead (language true true) line items
  pub written : List ℕ
  pub grown : new ≡ old ++ written
  pub names : (text : List ℕ) → AreNames list left text → AreNames list items (written ++ text)
  pub comes : (item : Result (List ℕ) WordsFault) → Comes list left item → Comes list items item

pub none_begun : (list : ListOptions) (line : List ℕ) (items : List (Result (List ℕ) WordsFault)) (old : List ℕ) → IsRead (language true true) line items → IsBegun list line items old old
none_begun list line items old read = record { items = items; read = read; written = []; grown = sym (append-nil old); names = λ text h. h; comes = λ item h. h }

module _ (list : ListOptions) (line : List ℕ) where
  abbrev end : ℕ
  end = byte_of list.end

  pub one_begun : (left : List (Result (List ℕ) WordsFault)) (old mid new word : List ℕ) → IsBegun list line (Ok word ∷ left) old mid → IsName list word → new ≡ mid ++ (word ++ byte_of list.end ∷ []) → IsBegun list line left old new
  one_begun left old mid new word b n e = record {
    items = b.items;
    read = b.read;
    written = b.written ++ (word ++ end ∷ []);
    grown = e ∙ ap (λ x. x ++ (word ++ end ∷ [])) b.grown ∙ append_assoc old b.written (word ++ end ∷ []);
    names = λ text h. subst (AreNames list b.items) (sym (append_assoc b.written (word ++ end ∷ []) text)) (b.names ((word ++ end ∷ []) ++ text) (n, (text, h, refl)));
    comes = λ item h. b.comes item (inr (n, h));
  }

  -- the line doesn't end in a carriage return
  module _ (other : ¬ (EndsInReturn line)) where
    pub all_begun : (old new : List ℕ) → IsBegun list line [] old new → (text : List ℕ) × (AreNamesOf list line text × (new ≡ old ++ text))
    all_begun old new b = (b.written, ((other, (b.items, b.read, subst (AreNames list b.items) (append-nil b.written) (b.names [] refl))), b.grown))

    pub fault_after : (left : List (Result (List ℕ) WordsFault)) (old new : List ℕ) (fault : WordsFault) → IsBegun list line (Err fault ∷ left) old new → IsAfterNames list line (Err fault)
    fault_after left old new fault b = (other, (b.items, b.read, b.comes (Err fault) refl))

    word_after : (left : List (Result (List ℕ) WordsFault)) (old new word : List ℕ) → IsBegun list line (Ok word ∷ left) old new → IsAfterNames list line (Ok word)
    word_after left old new word b = (other, (b.items, b.read, b.comes (Ok word) (inl refl)))

    -- what keeps a word from being a name keeps the line
    pub word_fault : (left : List (Result (List ℕ) WordsFault)) (old new word : List ℕ) (fault : ItemFault Rejection) → IsBegun list line (Ok word ∷ left) old new → IsWordFault list word fault → IsLineFault list line fault
    word_fault left old new word (Rejected HasNul) b h = (word, word_after left old new word b, h)
    word_fault left old new word (Rejected HasNewline) b h = (word, word_after left old new word b, h)
    word_fault left old new word (Rejected (NoString error)) b h = absurd h
    word_fault left old new word (Rejected (BadEscape index)) b h = absurd h
    word_fault left old new word (Rejected NotCanonical) b h = absurd h
    word_fault left old new word (Rejected InReturn) b h = absurd h
    word_fault left old new word (Rejected EmptyLine) b h = absurd h
    word_fault left old new word (Rejected (BadWords fault)) b h = absurd h
    word_fault left old new word (Rejected (BadArchive fault)) b h = absurd h
    word_fault left old new word (Rejected NotFromTop) b h = absurd h
    word_fault left old new word TooLong b h = (word, word_after left old new word b, h)
    word_fault left old new word Memory b h = tt
