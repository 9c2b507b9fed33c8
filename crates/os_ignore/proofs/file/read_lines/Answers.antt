use Rattle.std.proofs.Common.{◌+◌, sym, ap, subst, refl, ◌∙◌, arith}
use Rattle.os_ignore.specs.Components.{left_pieces, left_size}
use Rattle.os_ignore.specs.Files.{IsLineRead, NextLine, list_of}
use Rattle.wildcards.proofs.lemmas.Items.{one_more}
use Rattle.os_ignore.proofs.lemmas.Tags.{more_tags}
use Rattle.os_ignore.proofs.file.read_lines.Goals as goal

pub loop-left-preserved : goal.loop-left-preserved
loop-left-preserved g c =
    let cut = ap (left_pieces 0xA) c.in-Some.is ∙ c.split_piece.ensures.parts in
    let here = subst (λ z. NextLine c.args.folds c.loop-left.number z (list_of c.in_ok-read.read) (c.loop-left.number + 1, left_pieces 0xA c.split_piece.result.1)) (sym cut) (record {
      text = c.line_text.result.now;
      read = c.line_text.ensures;
      says = c.in_ok-read.read;
      text_says = c.in_ok-read.ensures.line;
      said_is = refl;
      left_is = refl;
    }) in record {
      read = one_more (IsLineRead c.args.folds) _ _ _ _ _ _ c.loop-left.invariant.read here c.in_ok-push_line.ensures;
      few = let h = c.loop-left.invariant.few in let k = ap left_size c.in-Some.is in let s = c.split_piece.ensures.shorter in omega arith;
      tags = more_tags c.loop-left.lines.items c.in_ok-read.read _ c.loop-left.invariant.tags c.in_ok-read.ensures.tag c.in_ok-push_line.ensures;
    }
