-- A vector as a sink.
use Rattle.std.specs.Prelude.{◌≡◌, ℕ, List, ◌++◌}
use Rattle.std.specs.declared.vec.Vec.{Vec}
use Rattle.std.proofs.Common.{sym, ◌∙◌, ap, append_assoc, append-nil}
use Rattle.wtf8_core.specs.Occurrence.{IsPrefix}
use Rattle.platform_str.specs.Sinks.{SinkRules}

-- what it had is kept, and all it has after that is a prefix of the text
pub record AppendedPrefix (had text has : List ℕ) : Type 0 where
  pub appended : List ℕ
  pub kept : has ≡ had ++ appended
  pub prefix : IsPrefix appended text

pub prefix_after : {had mid has : List ℕ} (a b c : List ℕ) → mid ≡ had ++ a → AppendedPrefix mid b has → AppendedPrefix had (a ++ (b ++ c)) has
prefix_after {had} a b c took after = record {
  appended = a ++ after.appended;
  kept = after.kept ∙ ap (λ x. x ++ after.appended) took ∙ append_assoc had a after.appended;
  prefix = record {
    rest = after.prefix.rest ++ c;
    joined = ap (λ x. a ++ x) (ap (λ x. x ++ c) after.prefix.joined ∙ append_assoc after.appended after.prefix.rest c) ∙ sym (append_assoc a after.appended (after.prefix.rest ++ c));
  };
}

-- what it took is at its end; it may reject anything, since an allocation may fail, and then a prefix of it may be at its end
abbrev pub vector_rules : {A : Type 0} → SinkRules (Vec ℕ A)
vector_rules = record {
  took = λ v text w. w.items ≡ v.items ++ text;
  has_room = λ v text. Unit {0};
  rejects = λ v text w. AppendedPrefix v.items text w.items;
  took_nothing = λ v. sym (append-nil v.items);
  took_both = λ v w x a b p q. q ∙ ap (λ l. l ++ b) p ∙ append_assoc v.items a b;
  room_before = λ v a b room. tt;
  room_after = λ v w a b took room. tt;
  rejects_after = λ v w x a b c took rejected. prefix_after a b c took rejected;
}
