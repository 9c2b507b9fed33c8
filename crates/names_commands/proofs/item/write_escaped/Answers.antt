use Rattle.std.proofs.Common.{◌≡◌, ℕ, ◌<◌, ◌++◌, ◌∷◌, [], List, length, refl, sym, ap, ◌∙◌, subst, arith}
use Rattle.std.proofs.lemmas.Result.{on_ok_weaker, IfErr-weaker}
use Rattle.std.specs.Str.{IsUtf8}
use Rattle.os_str_bytes.specs.Platform.{Ghosts}
use Rattle.os_quote.specs.Escape.{IsLineEscape, IsLineFault}
use Rattle.os_quote.specs.declared.error.QuoteError.{QuoteError}
use Rattle.os_quote.specs.declared.error.QuoteError.TheVariants as quote
use Rattle.list_programs.specs.ListOptions.{byte_of}
use Rattle.list_programs.specs.Rules.{IsItemFault}
use Rattle.list_programs.specs.declared.options.ListOptions.{ListOptions}
use Rattle.names_commands.specs.declared.fault.Rejection.{Rejection}
use Rattle.names_commands.specs.declared.fault.Rejection.TheVariants.{NoString, BadEscape, NotCanonical, HasNul, HasNewline, EndsInReturn as InReturn, EmptyLine as IsEmptyLine, BadWords, BadArchive, NotFromTop}
use Rattle.names_commands.specs.declared.task.EmptyLine.{EmptyLine}
use Rattle.names_commands.specs.declared.task.Task.TheVariants.{Join}
use Rattle.names_commands.specs.Names.{EndsInReturn, IsFit, IsUnfit}
use Rattle.names_commands.specs.Task.{IsJoinRejection, IsNameOf, quote_fault, rules_of}
use Rattle.names_commands.proofs.lemmas.Names.{memory_fault}
use Rattle.names_commands.proofs.item.write_escaped.Goals as goal

-- what holds of the text holds of the line that it is
escape_of : (units : List ℕ → List ℕ) (line name own text : List ℕ) → name ≡ own → text ≡ line
    → IsLineEscape units own text → IsLineEscape units name line
escape_of units line name own text same is escape =
    subst (IsLineEscape units name) is (subst (λ z. IsLineEscape units z text) (sym same) escape)

-- why a line isn't an escape is why it is rejected
bad_quote : {E : Type 0} (P : Ghosts E) (empty : EmptyLine) (list : ListOptions) (line : List ℕ) → ¬ (EndsInReturn line) → IsUtf8 line → (error : QuoteError) → IsLineFault P.well_formed P.units line error
    → IsItemFault (rules_of P (record { task = Join empty; list = list })) line (quote_fault error)
bad_quote P empty list line other utf8 (quote.BadEscape index) bad = (other, (utf8, bad))
bad_quote P empty list line other utf8 quote.NotCanonical bad = (other, (utf8, bad))
bad_quote P empty list line other utf8 quote.Memory bad = tt

-- a line of a name that can't be written is rejected for that
unfit_line : {E : Type 0} (P : Ghosts E) (empty : EmptyLine) (list : ListOptions) (line name : List ℕ) → IsNameOf P list.max line name → (why : Rejection) → IsUnfit list.end name why → IsJoinRejection P empty list line why
unfit_line P empty list line name n HasNul h = (name, n, h)
unfit_line P empty list line name n HasNewline h = (name, n, h)
unfit_line P empty list line name n (NoString error) h = absurd h
unfit_line P empty list line name n (BadEscape index) h = absurd h
unfit_line P empty list line name n NotCanonical h = absurd h
unfit_line P empty list line name n InReturn h = absurd h
unfit_line P empty list line name n IsEmptyLine h = absurd h
unfit_line P empty list line name n (BadWords fault) h = absurd h
unfit_line P empty list line name n (BadArchive fault) h = absurd h
unfit_line P empty list line name n NotFromTop h = absurd h

pub returns-in-Err : goal.returns-in-Err
returns-in-Err g c = record { ok = tt; fault = λ empty. (c.requires, c.in-Err.ensures); unchanged = refl }

pub returns-in-Err-unescape_line : goal.returns-in-Err-unescape_line
returns-in-Err-unescape_line g c =
    let P = g.E.Platform in
    let line = c.args.line.now in
    let error = c.in-Err-unescape_line.error in
    let utf8 : IsUtf8 line = rw c.in_default.is at c.check.ensures in
    let bad = subst (λ t. IsLineFault P.well_formed P.units t error) c.from_utf8_unchecked-text.ensures c.in-Err-unescape_line.ensures.fault in record {
      ok = tt;
      fault = λ empty. subst (IsItemFault (rules_of P (record { task = Join empty; list = c.args.list })) line) (sym c.quote_fault_of.ensures) (bad_quote P empty c.args.list line c.requires utf8 error bad);
      unchanged = refl;
    }

pub returns-then-len-list : goal.returns-then-len-list
returns-then-len-list g c =
    let name = c.into_encoded_bytes-name.result in
    let own = ap (λ z. z.items) c.into_encoded_bytes-name.ensures.value in
    let is = c.from_utf8_unchecked-text.ensures in
    let escape = escape_of g.E.Platform.units c.args.line.now name.items _ _ own is c.in-Ok.ensures.string in
    let formed = c.into_encoded_bytes-name.ensures.formed in
    let long : c.args.list.max < length name.items = omega (arith, c.if-len-list.true, c.len.ensures, name.ok.0) in
    record { ok = tt; fault = λ empty. (name.items, formed, (escape, long)); unchanged = refl }

pub returns-in-Some : goal.returns-in-Some
returns-in-Some g c =
    let name = c.into_encoded_bytes-name.result in
    let own = ap (λ z. z.items) c.into_encoded_bytes-name.ensures.value in
    let is = c.from_utf8_unchecked-text.ensures in
    let named : IsNameOf g.E.Platform c.args.list.max c.args.line.now name.items = record {
      formed = c.into_encoded_bytes-name.ensures.formed;
      escape = escape_of g.E.Platform.units c.args.line.now name.items _ _ own is c.in-Ok.ensures.string;
      short = omega (arith, c.if-len-list.false, c.len.ensures, name.ok.0);
    } in
    let why = subst (λ z. IsUnfit c.args.list.end z c.in-Some.why) c.deref.ensures.value c.in-Some.ensures in
    record { ok = tt; fault = λ empty. unfit_line g.E.Platform empty c.args.list c.args.line.now name.items named c.in-Some.why why; unchanged = refl }

pub returns : goal.returns
returns g c =
    let name = c.into_encoded_bytes-name.result in
    let own = ap (λ z. z.items) c.into_encoded_bytes-name.ensures.value in
    let is = c.from_utf8_unchecked-text.ensures in
    let named : IsNameOf g.E.Platform c.args.list.max c.args.line.now name.items = record {
      formed = c.into_encoded_bytes-name.ensures.formed;
      escape = escape_of g.E.Platform.units c.args.line.now name.items _ _ own is c.in-Ok.ensures.string;
      short = omega (arith, c.if-len-list.false, c.len.ensures, name.ok.0);
    } in
    let fit = subst (IsFit c.args.list.end) c.deref.ensures.value c.in_default-unfit.ensures in
    let whole = ap (λ z. c.args.output.now.items ++ (z ++ byte_of c.args.list.end ∷ [])) c.deref-2.ensures.value in
    record {
      ok = on_ok_weaker c.push_name.result
          (λ e. (name.items ++ byte_of c.args.list.end ∷ [], ((name.items, named, (fit, refl)), e ∙ whole)))
          c.push_name.ensures.ok;
      fault = λ empty. IfErr-weaker c.push_name.result _ _ (memory_fault (rules_of g.E.Platform (record { task = Join empty; list = c.args.list })) c.args.line.now) c.push_name.ensures.fault;
      unchanged = c.push_name.ensures.unchanged;
    }
