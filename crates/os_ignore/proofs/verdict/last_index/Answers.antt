use Rattle.memchr.specs.Find.{is_byte3}
use Rattle.os_ignore.proofs.lemmas.Tagged.{sought, found_later, found_first, found_last}
use Rattle.os_ignore.proofs.verdict.last_index.Goals as goal

pub returns-in-Some-last_tagged : goal.returns-in-Some-last_tagged
returns-in-Some-last_tagged g c =
    let first = c.first_tag-first.result in
    let ends = is_byte3 0 c.tag_of.result c.dot_tag.result in
    let firsts = is_byte3 first first first in
    let covers = sought c.args.path.now c.last_component-name.result.now c.tag_of.result c.dot_tag.result first c.last_component-name.ensures c.tag_of.ensures c.dot_tag.ensures c.first_tag-first.ensures in
    found_later c.args.path.now c.args.is_dir c.args.lines.now c.args.tags.now ends firsts c.requires.tagged covers c.in-Some.at c.in-Some-last_tagged.later c.in-Some.ensures c.in-Some-last_tagged.ensures

pub returns-in-None-last_tagged : goal.returns-in-None-last_tagged
returns-in-None-last_tagged g c =
    let first = c.first_tag-first.result in
    let ends = is_byte3 0 c.tag_of.result c.dot_tag.result in
    let firsts = is_byte3 first first first in
    let covers = sought c.args.path.now c.last_component-name.result.now c.tag_of.result c.dot_tag.result first c.last_component-name.ensures c.tag_of.ensures c.dot_tag.ensures c.first_tag-first.ensures in
    found_first c.args.path.now c.args.is_dir c.args.lines.now c.args.tags.now ends firsts c.requires.tagged covers c.in-Some.at c.in-Some.ensures c.in-None-last_tagged.ensures

pub returns-in-None : goal.returns-in-None
returns-in-None g c =
    let first = c.first_tag-first.result in
    let ends = is_byte3 0 c.tag_of.result c.dot_tag.result in
    let firsts = is_byte3 first first first in
    let covers = sought c.args.path.now c.last_component-name.result.now c.tag_of.result c.dot_tag.result first c.last_component-name.ensures c.tag_of.ensures c.dot_tag.ensures c.first_tag-first.ensures in
    found_last c.args.path.now c.args.is_dir c.args.lines.now c.args.tags.now ends firsts c.requires.tagged covers c.last_tagged-in-None.result c.in-None.ensures c.last_tagged-in-None.ensures
