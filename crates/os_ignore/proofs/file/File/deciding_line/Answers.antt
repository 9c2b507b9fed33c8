use Rattle.std.proofs.Common.{sym, subst}
use Rattle.os_ignore.specs.Links.{IsAbove}
use Rattle.os_ignore.specs.Tags.{AreTags}
use Rattle.os_ignore.specs.Verdicts.{IsBelow}
use Rattle.os_ignore.proofs.lemmas.Rests.{decided}
use Rattle.os_ignore.proofs.file.File.deciding_line.Goals as goal

pub returns : goal.returns
returns g c =
    let below = subst (λ z. IsBelow z c.args.path.now c.rest_below-rest.result.now) c.deref.ensures.value c.rest_below-rest.ensures in
    decided c.args.path.now c.args.is_dir c.args.self.now c.rest_below-rest.result.now below c.deref-2.result.now c.deref-2.ensures.value c.last_match.result c.last_match.ensures

pub last_match-requires-clause-tagged : goal.last_match-requires-clause-tagged
last_match-requires-clause-tagged g c =
    subst (λ z. AreTags z c.deref-3.result.now) (sym c.deref-2.ensures.value)
    (subst (AreTags c.args.self.now.lines.items) (sym c.deref-3.ensures.value) c.args.self.now.tagged)

pub rest_below-rest-requires : goal.rest_below-rest-requires
rest_below-rest-requires g c = subst (λ z. IsAbove z c.args.path.now) (sym c.deref.ensures.value) c.requires
