-- The words of each fault.
use Rattle.text.proofs.fault.FaultDisplay.fmt.Goals as goal

pub returns-in-Ragged-clause-writes : goal.returns-in-Ragged-clause-writes
returns-in-Ragged-clause-writes g c = λ p o. rw c.in-Ragged.is (c.write-in-Ragged.ensures.writes p o)

pub returns-in-Columns-clause-writes : goal.returns-in-Columns-clause-writes
returns-in-Columns-clause-writes g c = λ p o. rw c.in-Columns.is (c.write-in-Columns.ensures.writes p o)

pub returns-in-TooFew-clause-writes : goal.returns-in-TooFew-clause-writes
returns-in-TooFew-clause-writes g c = λ p o. rw c.in-TooFew.is (c.write-in-TooFew.ensures.writes p o)
