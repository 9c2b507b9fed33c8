use Rattle.test_line_uses.proofs.written_out.one_meaning_of_text.Goals as goal

pub returns-clause-matched : goal.returns-clause-matched
returns-clause-matched g c = λ o text choices others p path f h m. ((c.one_meaning.ensures o text choices others f h).0 p path).0 m

pub returns-clause-once : goal.returns-clause-once
returns-clause-once g c = λ o text choices others e f h. (c.one_meaning.ensures o text choices others f h).1 e
