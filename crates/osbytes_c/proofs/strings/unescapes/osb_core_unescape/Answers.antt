use Rattle.osbytes_c.proofs.strings.unescapes.osb_core_unescape.Goals as goal

pub returns-in-0-clause-written : goal.returns-in-0-clause-written
returns-in-0-clause-written c = rw c.in-0.is c.unescape.ensures.written

pub returns-in-0-clause-string : goal.returns-in-0-clause-string
returns-in-0-clause-string c = rw c.in-0.is c.unescape.ensures.string

pub returns-in-1-clause-written : goal.returns-in-1-clause-written
returns-in-1-clause-written c = rw c.in-1.is c.unescape-in-1.ensures.written

pub returns-in-1-clause-string : goal.returns-in-1-clause-string
returns-in-1-clause-string c = rw c.in-1.is c.unescape-in-1.ensures.string

pub returns-in-2-clause-written : goal.returns-in-2-clause-written
returns-in-2-clause-written c = rw c.in-2.is c.unescape-in-2.ensures.written

pub returns-in-2-clause-string : goal.returns-in-2-clause-string
returns-in-2-clause-string c = rw c.in-2.is c.unescape-in-2.ensures.string
