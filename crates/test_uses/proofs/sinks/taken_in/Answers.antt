use Rattle.std.proofs.Common.{◌≡◌, [], ◌++◌, length, take, refl, sym, ◌∙◌, subst, rules, arith}
use Rattle.std.proofs.lemmas.List.{take_all}
use Rattle.wtf8_core.specs.Truncated.{IsTruncated}
use Rattle.test_uses.proofs.TwoPieces.{no_error}
use Rattle.test_uses.proofs.sinks.taken_in.Goals as goal

pub take-requires-2-clause-room : goal.take-requires-2-clause-room
take-requires-2-clause-room c =
    let first = no_error c.take.result c.take.ensures in
    omega (arith, c.requires, first.1.1)

pub returns-then-len-buffer : goal.returns-then-len-buffer
returns-then-len-buffer c =
    let old = c.args.bytes.now in
    let none : IsTruncated [] old old 0 = record { same_length = refl; count_is = refl; prefix = take_all (length old) [] (omega arith); after = refl } in
    let one = no_error c.take.result c.take.ensures in
    let other = no_error c.take-2.result c.take-2.ensures in
    let both = other.1.0 _ old (one.1.0 [] old none) in
    let size = both.same_length in
    let count = both.count_is in
    let same = sym (other.0 ∙ one.0) in
    subst (λ t. take c.take-2.new.self.count t ≡ c.args.first.now ++ c.args.second.now) (search (rules, same))
    (sym both.prefix ∙ take_all (length old) (c.args.first.now ++ c.args.second.now) (omega (arith, c.if-len-buffer.true)))
