-- By how many there are before.
use Rattle.script.specs.Steps.{onto}
use Rattle.script.proofs.reading.one_more.Goals as goal

pub returns-in-Zero : goal.returns-in-Zero
unfolding onto
returns-in-Zero c = rw c.in-Zero.is

pub returns-in-One : goal.returns-in-One
unfolding onto
returns-in-One c = rw c.in-One.is

pub returns-in-Two : goal.returns-in-Two
unfolding onto
returns-in-Two c = rw c.in-Two.is

pub returns-in-Three : goal.returns-in-Three
unfolding onto
returns-in-Three c = rw c.in-Three.is
