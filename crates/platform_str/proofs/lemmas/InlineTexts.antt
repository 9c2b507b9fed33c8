-- What was written into a text of fixed room.
use Rattle.std.proofs.Common.{◌≡◌, ◌++◌, ℕ, List, [], ◌∷◌, sym, ap, ◌∙◌, append_assoc, append-nil}
use Rattle.std.specs.{Fmt.InlineText.inline_text, Fmt.InlineText.IsIntact, Fmt.InlineText.AppendsIfIntact, Fmt.WritesInCalls, List.concat, List.FoldsTo, declared.fmt.InlineText.InlineText}

-- calls that each append a part append all of them
of_calls : {n : ℕ} (s : InlineText n) (parts : List (List ℕ)) (t : InlineText n) → IsIntact s → FoldsTo AppendsIfIntact s parts t → inline_text t ≡ inline_text s ++ concat parts
of_calls s [] t intact e = sym (ap inline_text e) ∙ sym (append-nil (inline_text s))
of_calls s (part ∷ parts) t intact calls =
    let first = calls.1 intact in
    of_calls calls.0 parts t first.0 calls.2 ∙ ap (λ x. x ++ concat parts) first.1 ∙ append_assoc (inline_text s) part (concat parts)

-- what is written into an empty text is the text
pub of_writes : {n : ℕ} (s : InlineText n) (bs : List ℕ) (t : InlineText n) → IsIntact s → inline_text s ≡ [] → WritesInCalls AppendsIfIntact s bs t → inline_text t ≡ bs
of_writes s bs t intact empty w = of_calls s w.parts t intact w.calls ∙ ap (λ x. x ++ concat w.parts) empty ∙ w.whole
