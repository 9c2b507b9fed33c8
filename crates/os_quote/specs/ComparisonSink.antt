-- A text that is compared as a sink.
use Rattle.std.specs.Prelude.{◌≡◌, ◌++◌}
use Rattle.std.proofs.Common.{refl, sym, ◌∙◌, ap, append_assoc}
use Rattle.std.proofs.lemmas.List.{append_cancel_left}
use Rattle.platform_str.specs.Sinks.{SinkRules}
use Rattle.os_quote.specs.{Stripping.StartsNot, declared.read_string.Comparison.Comparison}

-- what it took was at the start of the rest of the text; it rejects anything else, and nobody reads what is left after that
abbrev pub comparison_rules : SinkRules Comparison
comparison_rules = record {
  took = λ c text d. c.rest.now ≡ text ++ d.rest.now;
  has_room = λ c text. Unit {0};
  rejects = λ c text d. StartsNot text c.rest.now;
  took_nothing = λ c. refl;
  took_both = λ c d e a b p q. p ∙ ap (λ x. a ++ x) q ∙ sym (append_assoc a b e.rest.now);
  room_before = λ c a b room. tt;
  room_after = λ c d a b took room. tt;
  rejects_after = λ c d after a b e took never following is. never (e ++ following) (append_cancel_left a d.rest.now (b ++ (e ++ following)) (sym took ∙ is ∙ append_assoc a (b ++ e) following ∙ ap (λ x. a ++ x) (append_assoc b e following)));
}
