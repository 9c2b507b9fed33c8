use Rattle.std.proofs.Common.{◌≡◌, [], map, ap, sym, ◌∙◌, subst, rules}
use Rattle.std.specs.List.{AllByRecursion}
use Rattle.std.proofs.lemmas.List.{nil_from_length}
use Rattle.platform_str.specs.Strings.{bytes, string_vec_of}
use Rattle.os_command_line.specs.ShellWriting.{HasNoNul, IsFirstNameFault, join_words}
use Rattle.os_command_line.specs.ReservedWords.{line_words}
use Rattle.os_command_line.proofs.lemmas.CharsetLines.{names_line}
use Rattle.os_command_line.proofs.lemmas.ShellJoining.{later_fault}
use Rattle.os_command_line.proofs.lemmas.ShellRoundTrip.{are_names, joined_names}
use Rattle.os_command_line.proofs.shell.joining.join.Goals as goal

pub returns-in-Err-clause-fault : goal.returns-in-Err-clause-fault
returns-in-Err-clause-fault g c = record {
  before = [];
  name = bytes c.in-Some.first.now;
  after = map bytes c.in-Some.others.now;
  joined = ap (map bytes) c.in-Some.ensures.cases.0;
  none_before = tt;
  is = c.in-Err.ensures.fault;
}

pub returns-in-Err-push_after-clause-fault : goal.returns-in-Err-push_after-clause-fault
returns-in-Err-push_after-clause-fault g c =
    subst (λ z. IsFirstNameFault z c.in-Err-push_after.fault) (sym (ap (map bytes) c.in-Some.ensures.cases.0))
    (later_fault (bytes c.in-Some.first.now) (map bytes c.in-Some.others.now) c.in-Err-push_after.fault c.in-Ok.ensures.no_nul c.in-Err-push_after.ensures.fault)

pub returns-in_default-clause-read : goal.returns-in_default-clause-read
returns-in_default-clause-read g c l =
    let names = map bytes c.args.names.now in
    let none : names ≡ [] = ap (map bytes) (nil_from_length c.args.names.now c.in_default.ensures.cases) in
    let empty : (string_vec_of c.unix_string.result).items ≡ [] = search rules in
    joined_names l names (string_vec_of c.unix_string.result).items (are_names bytes (λ name. name.ok) c.args.names.now) (empty ∙ sym (ap (λ z. join_words (line_words z)) none))

pub returns-in-Ok-push_after-clause-read : goal.returns-in-Ok-push_after-clause-read
returns-in-Ok-push_after-clause-read g c l =
    let names = map bytes c.args.names.now in
    let line : (string_vec_of c.unix_string-in-Ok-push_after.result).items ≡ join_words (line_words names) = search rules in
    joined_names l names (string_vec_of c.unix_string-in-Ok-push_after.result).items (are_names bytes (λ name. name.ok) c.args.names.now) line

pub returns-in_default-clause-characters : goal.returns-in_default-clause-characters
returns-in_default-clause-characters g c l =
    let names = map bytes c.args.names.now in
    let none : names ≡ [] = ap (map bytes) (nil_from_length c.args.names.now c.in_default.ensures.cases) in
    let empty : (string_vec_of c.unix_string.result).items ≡ [] = search rules in
    names_line l names (string_vec_of c.unix_string.result).items (are_names bytes (λ name. name.ok) c.args.names.now) (empty ∙ sym (ap (λ z. join_words (line_words z)) none))

pub returns-in-Ok-push_after-clause-characters : goal.returns-in-Ok-push_after-clause-characters
returns-in-Ok-push_after-clause-characters g c l =
    let names = map bytes c.args.names.now in
    let line : (string_vec_of c.unix_string-in-Ok-push_after.result).items ≡ join_words (line_words names) = search rules in
    names_line l names (string_vec_of c.unix_string-in-Ok-push_after.result).items (are_names bytes (λ name. name.ok) c.args.names.now) line

pub returns-in_default-clause-no_nul : goal.returns-in_default-clause-no_nul
returns-in_default-clause-no_nul g c = subst (AllByRecursion HasNoNul) (sym (ap (map bytes) (nil_from_length c.args.names.now c.in_default.ensures.cases))) tt

pub returns-in-Ok-push_after-clause-no_nul : goal.returns-in-Ok-push_after-clause-no_nul
returns-in-Ok-push_after-clause-no_nul g c = subst (AllByRecursion HasNoNul) (sym (ap (map bytes) c.in-Some.ensures.cases.0)) (c.in-Ok.ensures.no_nul, c.in-Ok-push_after.ensures.no_nul)
