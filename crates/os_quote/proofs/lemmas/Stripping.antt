-- Texts that are compared with an escape.
use Rattle.os_quote.proofs.Common.{◌≡◌, ℕ, List, [], sym, ◌∙◌, subst, append-nil, IsEscapeBy, escape_in}
use Rattle.os_quote.specs.declared.form.Form.{Form}
use Rattle.os_quote.specs.Stripping.{StartsNot}
use Rattle.os_quote.proofs.lemmas.Escapes.{one_escape, escape_in_is}

-- a text is an escape if nothing is left of it after the escape
module _ (form : Form) (units : List ℕ → List ℕ) (s text : List ℕ) where
  pub is_escape : text ≡ escape_in form units s → IsEscapeBy form units s text
  is_escape e = subst (IsEscapeBy form units s) (sym e) (escape_in_is form units s)

  pub escape_is : IsEscapeBy form units s text → text ≡ escape_in form units s
  escape_is e = one_escape form units s text (escape_in form units s) e (escape_in_is form units s)

  pub no_escape_of : StartsNot (escape_in form units s) text → IsEscapeBy form units s text → ⊥
  no_escape_of never e = never [] (escape_is e ∙ sym (append-nil (escape_in form units s)))
