use Rattle.std.proofs.Common.{rules, ◌≡◌, ℕ, List, ◌++◌, Result, OnOk, ⊎_elim, inl, inr, refl, sym, subst}
use Rattle.std.proofs.lemmas.Result.{on_ok_weaker, IfErr-weaker}
use Rattle.os_str_bytes.specs.Platform.{Ghosts}
use Rattle.path_rules.specs.Parent.{HasFileName, HasNoFileName}
use Rattle.path_rules.specs.declared.rules.Style.{Style}
use Rattle.os_path.specs.Names.{HasFileStem, HasExtension, LacksExtension}
use Rattle.platform_str.specs.Strings.{bytes, path_bytes}
use Rattle.paths_commands.specs.Task.{IsAnswer, IsMade, way_text}
use Rattle.paths_commands.specs.declared.fault.Rejection.TheVariants.{NoNormalForm, NoRelativePath, NoAbsolutePath}
use Rattle.paths_commands.specs.declared.task.Task.{Task}
use Rattle.paths_commands.proofs.lemmas.Answers.{part_or_nothing}
use Rattle.paths_commands.proofs.lemmas.Rejections.{unconverted_unanswered, unjoined_unanswered}
use Rattle.paths_commands.proofs.item.write_result.Goals as goal

-- what is written is the answer of the task, which is this one
module _ {X Y E : Type 0} (P : Ghosts E) (S : Style) (task this : Task) (path : List ℕ) (is : task ≡ this) where
  made : (r : Result X Y) (old new : List ℕ) →
      OnOk r ((answer : List ℕ) × (IsAnswer S this path answer × (new ≡ old ++ answer))) →
      OnOk r ((text : List ℕ) × (IsMade P S task path text × (new ≡ old ++ text)))
  made r old new h =
      on_ok_weaker r
      (λ w. (w.0, (inr (subst (λ t. IsAnswer S t path w.0) (sym is) w.1.0), w.1.1))) h

  part : (r : Result X Y) (old new answer : List ℕ) → IsAnswer S this path answer →
      OnOk r (new ≡ old ++ answer) →
      OnOk r ((text : List ℕ) × (IsMade P S task path text × (new ≡ old ++ text)))
  part r old new answer h e = made r old new (on_ok_weaker r (λ same. (answer, (h, same))) e)

pub returns-in-Components : goal.returns-in-Components
returns-in-Components g c =
    let call = c.write_components in record {
      ok = on_ok_weaker call.result (λ text. (text.0, (inl (c.in-Components.is, text.1.0), text.1.1))) call.ensures.ok;
      fault = IfErr-weaker call.result _ _ (λ fault memory. inl memory) call.ensures.fault;
      unchanged = call.ensures.unchanged;
    }

pub returns-in-Parent : goal.returns-in-Parent
returns-in-Parent g c =
    let path = path_bytes c.args.path in
    let S = g.E.PathStyle.follows in
    let call = c.write_answer in
    let answer = c.parent.result.now in record {
      ok = part g.E.Platform S c.args.task _ path c.in-Parent.is call.result _ _ answer c.parent.ensures
          call.ensures.ok;
      fault = IfErr-weaker call.result _ _ (λ fault memory. inl memory) call.ensures.fault;
      unchanged = call.ensures.unchanged;
    }

pub returns-in-Name : goal.returns-in-Name
returns-in-Name g c =
    let path = path_bytes c.args.path in
    let S = g.E.PathStyle.follows in
    let call = c.write_answer-in-Name in
    let answer = c.part.result.now in record {
      ok = part g.E.Platform S c.args.task _ path c.in-Name.is call.result _ _ answer
          (part_or_nothing c.file_name.result bytes (HasNoFileName S path) (HasFileName S path) answer
          c.file_name.ensures c.part.ensures)
          call.ensures.ok;
      fault = IfErr-weaker call.result _ _ (λ fault memory. inl memory) call.ensures.fault;
      unchanged = call.ensures.unchanged;
    }

pub returns-in-Stem : goal.returns-in-Stem
returns-in-Stem g c =
    let path = path_bytes c.args.path in
    let S = g.E.PathStyle.follows in
    let call = c.write_answer-in-Stem in
    let answer = c.part-in-Stem.result.now in record {
      ok = part g.E.Platform S c.args.task _ path c.in-Stem.is call.result _ _ answer
          (part_or_nothing c.file_stem.result bytes (HasNoFileName S path) (HasFileStem S path) answer
          c.file_stem.ensures c.part-in-Stem.ensures)
          call.ensures.ok;
      fault = IfErr-weaker call.result _ _ (λ fault memory. inl memory) call.ensures.fault;
      unchanged = call.ensures.unchanged;
    }

pub returns-in-Extension : goal.returns-in-Extension
returns-in-Extension g c =
    let path = path_bytes c.args.path in
    let S = g.E.PathStyle.follows in
    let call = c.write_answer-in-Extension in
    let answer = c.part-in-Extension.result.now in record {
      ok = part g.E.Platform S c.args.task _ path c.in-Extension.is call.result _ _ answer
          (part_or_nothing c.extension.result bytes (LacksExtension S path) (HasExtension S path) answer
          c.extension.ensures c.part-in-Extension.ensures)
          call.ensures.ok;
      fault = IfErr-weaker call.result _ _ (λ fault memory. inl memory) call.ensures.fault;
      unchanged = call.ensures.unchanged;
    }

pub returns-in-WithExtension : goal.returns-in-WithExtension
returns-in-WithExtension g c =
    let path = path_bytes c.args.path in
    let S = g.E.PathStyle.follows in
    let call = c.write_extended in record {
      ok = made g.E.Platform S c.args.task _ path c.in-WithExtension.is call.result _ _ call.ensures.ok;
      fault = IfErr-weaker call.result _ _ (λ fault memory. inl memory) call.ensures.fault;
      unchanged = call.ensures.unchanged;
    }

pub returns-in-Normalize : goal.returns-in-Normalize
returns-in-Normalize g c =
    let path = path_bytes c.args.path in
    let S = g.E.PathStyle.follows in
    let call = c.write_normal in record {
      ok = made g.E.Platform S c.args.task _ path c.in-Normalize.is call.result _ _ call.ensures.ok;
      fault = IfErr-weaker call.result _ _
          (λ fault. ⊎_elim (λ memory. inl memory) (λ none. inr (NoNormalForm, (none.0, (c.in-Normalize.is, none.1)))))
          call.ensures.fault;
      unchanged = call.ensures.unchanged;
    }

pub returns-in-Common : goal.returns-in-Common
returns-in-Common g c =
    let path = path_bytes c.args.path in
    let S = g.E.PathStyle.follows in
    let call = c.write_answer-in-Common in
    let answer = c.as_encoded_bytes.result.now in
    let same : answer ≡ path = search rules in record {
      ok = part g.E.Platform S c.args.task _ path c.in-Common.is call.result _ _ answer same call.ensures.ok;
      fault = IfErr-weaker call.result _ _ (λ fault memory. inl memory) call.ensures.fault;
      unchanged = call.ensures.unchanged;
    }

pub returns-in-Clean : goal.returns-in-Clean
returns-in-Clean g c =
    let path = path_bytes c.args.path in
    let S = g.E.PathStyle.follows in
    let call = c.write_clean in record {
      ok = made g.E.Platform S c.args.task _ path c.in-Clean.is call.result _ _ call.ensures.ok;
      fault = IfErr-weaker call.result _ _ (λ fault memory. inl memory) call.ensures.fault;
      unchanged = call.ensures.unchanged;
    }

pub returns-in-StartsWith : goal.returns-in-StartsWith
returns-in-StartsWith g c =
    let path = path_bytes c.args.path in
    let S = g.E.PathStyle.follows in
    let call = c.write_answer-in-StartsWith in
    let answer = c.as_encoded_bytes-in-StartsWith.result.now in
    let same : answer ≡ path = search rules in record {
      ok = part g.E.Platform S c.args.task _ path c.in-StartsWith.is call.result _ _ answer
          (c.requires _ c.in-StartsWith.is, same)
          call.ensures.ok;
      fault = IfErr-weaker call.result _ _ (λ fault memory. inl memory) call.ensures.fault;
      unchanged = call.ensures.unchanged;
    }

pub returns-in-Join : goal.returns-in-Join
returns-in-Join g c =
    let path = path_bytes c.args.path in
    let S = g.E.PathStyle.follows in
    let call = c.write_joined in record {
      ok = made g.E.Platform S c.args.task _ path c.in-Join.is call.result _ _ call.ensures.ok;
      fault = IfErr-weaker call.result _ _ (λ fault memory. inl memory) call.ensures.fault;
      unchanged = call.ensures.unchanged;
    }

pub returns-in-JoinChecked : goal.returns-in-JoinChecked
returns-in-JoinChecked g c =
    let path = path_bytes c.args.path in
    let S = g.E.PathStyle.follows in
    let call = c.write_checked in record {
      ok = made g.E.Platform S c.args.task _ path c.in-JoinChecked.is call.result _ _ call.ensures.ok;
      fault = IfErr-weaker call.result _ _
          (λ fault. ⊎_elim (λ memory. inl memory)
          (λ none.
          let is = unjoined_unanswered g.E.Platform S c.args.task _ _ path none.0 c.in-JoinChecked.is none.1.1 in
          inr (none.0, (none.1.0, is))))
          call.ensures.fault;
      unchanged = call.ensures.unchanged;
    }

pub returns-in-Relative : goal.returns-in-Relative
returns-in-Relative g c =
    let path = path_bytes c.args.path in
    let S = g.E.PathStyle.follows in
    let call = c.write_relative in record {
      ok = made g.E.Platform S c.args.task _ path c.in-Relative.is call.result _ _
          (on_ok_weaker call.result (λ way. (way_text way.0, ((way.0, (way.1.0, refl)), way.1.1))) call.ensures.ok);
      fault = IfErr-weaker call.result _ _
          (λ fault. ⊎_elim (λ memory. inl memory)
          (λ none. inr (NoRelativePath, (none.0, (_, (c.in-Relative.is, none.1))))))
          call.ensures.fault;
      unchanged = call.ensures.unchanged;
    }

pub returns-in-Absolute : goal.returns-in-Absolute
returns-in-Absolute g c =
    let path = path_bytes c.args.path in
    let S = g.E.PathStyle.follows in
    let call = c.write_absolute in record {
      ok = made g.E.Platform S c.args.task _ path c.in-Absolute.is call.result _ _ call.ensures.ok;
      fault = IfErr-weaker call.result _ _
          (λ fault. ⊎_elim (λ memory. inl memory)
          (λ none. inr (NoAbsolutePath none.0, (none.1.0, (_, (c.in-Absolute.is, none.1.1))))))
          call.ensures.fault;
      unchanged = call.ensures.unchanged;
    }

pub returns-in-Convert : goal.returns-in-Convert
returns-in-Convert g c =
    let path = path_bytes c.args.path in
    let S = g.E.PathStyle.follows in
    let call = c.write_on in record {
      ok = made g.E.Platform S c.args.task _ path c.in-Convert.is call.result _ _ call.ensures.ok;
      fault = IfErr-weaker call.result _ _
          (λ fault. ⊎_elim (λ memory. inl memory)
          (λ none.
          let is = unconverted_unanswered g.E.Platform S c.args.task _ path none.0 c.in-Convert.is none.1.1 in
          inr (none.0, (none.1.0, is))))
          call.ensures.fault;
      unchanged = call.ensures.unchanged;
    }
